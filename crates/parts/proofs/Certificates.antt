-- The members of a certificate's tbs, one after the other, by going back through the steps of its shape.
use Rattle.std.specs.Prelude.{Option, Some, None}
use Prim.Native.Nat.{ℕ, suc}
use mathlib.Core.Path.{◌≡◌, refl, sym, subst, ◌∙◌, ap}
use mathlib.Core.Bool.{Bool, true, false}
use mathlib.Core.List.{List}
use native.Mathlib.Omega.{arith}
use borrow.Author.Tests.{eqb-true, not-false}
use lib.Dec.{eqb}
use Rattle.der.specs.Forms.{paper}
use Rattle.der.specs.Heading.{constructed}
use Rattle.tree.specs.Tree.{Tree, node, Trees, none, more, tag_of}
use Rattle.elements.specs.declared.elements.Element.{Element}
use Rattle.elements.specs.Elements.{found_tagged}
use Rattle.elements.specs.Envelope.{envelope_of}
use Rattle.elements.specs.Steps.{only_of}
use Rattle.names.specs.Names.{name_of}
use Rattle.times.specs.Times.{time_at}
use Rattle.extensions.specs.Extensions.{extensions_shaped}
use Rattle.certificate.specs.declared.shapes.Back.{Back}
use Rattle.certificate.specs.declared.shapes.Front.{Front}
use Rattle.certificate.specs.declared.shapes.Layout.{Layout}
use Rattle.certificate.specs.declared.shapes.Validity.{Validity}
use Rattle.certificate.specs.Shape.{on_front, on_validity, on_back, front_of, validity_of, unique_end, back_of, on_parts, parts_of, layout_of}
use Rattle.parts.specs.Places.{Place, numbered, member_at}
use Rattle.parts.proofs.Inverse.{went, kept, timed-found, by-envelope, by_name}
use Rattle.parts.proofs.Spans.{Spans, first-of}
use Rattle.parts.proofs.Standing.{Part, row_here, row-later, part_at, members-place}
use Rattle.parts.proofs.Enveloped.{is-node, tagged-first, members-inside, rest-none, only-tree, only-inside}
use Rattle.std.proofs.lemmas.Option.{same_Some}
use Rattle.elements.proofs.Payloads.{an_envelope}
use Rattle.certificate.proofs.Payloads.{a_validity}
use Rattle.certificate.proofs.Payloads.{a_front}
use Rattle.certificate.proofs.Payloads.{a_back}

broken : {l : Layout} → ◌≡◌ {A = (Option Layout)} None (Some l) → ⊥
broken p = let z : ◌≡◌ {A = ℕ} 0 1 = cc in omega arith

frontless : {a b c d e : Element} → ◌≡◌ {A = (Option Front)} None (a_front a b c d e) → ⊥
frontless p = let z : ◌≡◌ {A = ℕ} 0 1 = cc in omega arith

backless : {a b d : Element} {c : Bool} → ◌≡◌ {A = (Option Back)} None (a_back a b c d) → ⊥
backless p = let z : ◌≡◌ {A = ℕ} 0 1 = cc in omega arith

by_front : {l : Layout} (v : Option Front) (k : Element → Element → Element → Element → Element → Option Layout) → on_front v k ≡ Some l
    → (a : Element) × (b : Element) × (c : Element) × (d : Element) × (e : Element) × (v ≡ a_front a b c d e) × (k a b c d e ≡ Some l)
unfolding on_front
by_front None k p = absurd (broken p)
by_front (Some f) k p = (f.version, f.serial, f.inner, f.issuer, f.validity, refl, p)

by-validity : {l : Layout} (v : Option Validity) (k : Element → Element → Option Layout) → on_validity v k ≡ Some l
    → (a : Element) × (b : Element) × (v ≡ a_validity a b) × (k a b ≡ Some l)
unfolding on_validity
by-validity None k p = absurd (broken p)
by-validity (Some v) k p = (v.start, v.finish, refl, p)

by-back : {l : Layout} (v : Option Back) (k : Element → Element → Bool → Element → Option Layout) → on_back v k ≡ Some l
    → (a : Element) × (b : Element) × (c : Bool) × (d : Element) × (v ≡ a_back a b c d) × (k a b c d ≡ Some l)
unfolding on_back
by-back None k p = absurd (broken p)
by-back (Some b) k p = (b.subject, b.key, b.unique, b.extensions, refl, p)

by_parts : {l : Layout} (v : Option Layout) (k : Layout → Option Layout) → on_parts v k ≡ Some l → (m : Layout) × (v ≡ Some m) × (k m ≡ Some l)
unfolding on_parts
by_parts None k p = absurd (broken p)
by_parts (Some m) k p = (m, refl, p)

parts_same : {l m : Layout} → ◌≡◌ {A = (Option Layout)} (Some l) (Some m) → l ≡ m
parts_same p = cc

-- what a layout tells of the steps that found it
pub record Laid (s : List ℕ) (l : Layout) : Type 0 where
  pub tbs : Element
  pub outer : Element
  pub version : Element
  pub validity : Element
  pub around : envelope_of paper s ≡ an_envelope tbs outer
  pub front : front_of s tbs ≡ a_front version l.serial l.inner l.issuer validity
  pub back : back_of s validity.end tbs.end ≡ a_back l.subject l.key l.unique l.extensions
  pub shaped : extensions_shaped paper s l.extensions ≡ true
  pub times : validity_of s validity ≡ a_validity l.start l.finish
  pub named : name_of paper s l.issuer ≡ Some l.issuer_country
  pub addressed : name_of paper s l.subject ≡ Some l.subject_country

pub laid_out : (s : List ℕ) (l : Layout) → layout_of s ≡ Some l → Laid s l
unfolding layout_of parts_of
laid_out s l e =
    let p = by_parts (parts_of s) _ e in
    let m = p.0 in
    let a = by-envelope (envelope_of paper s) None _ (Some m) broken p.1 in
    let b = by_front (front_of s a.0) _ a.3 in
    let c = by-validity (validity_of s b.4) _ b.6 in
    let d = by-back (back_of s b.4.end a.0.end) _ c.3 in
    let f = by_name (name_of paper s b.3) None _ (Some m) broken d.5 in
    let g = by_name (name_of paper s d.0) None _ (Some m) broken f.2 in
    let h = kept (extensions_shaped paper s m.extensions) _ None (Some l) broken p.2 in
    let found = parts_same g.2 in
    subst (Laid s) (found ∙ parts_same h.1)
    (record {
      tbs = a.0;
      outer = a.1;
      version = b.0;
      validity = b.4;
      around = a.2;
      front = b.5;
      back = d.4;
      shaped = subst (λ (n : Layout). extensions_shaped paper s n.extensions ≡ true) (sym found) h.0;
      times = c.2;
      named = f.1;
      addressed = g.1;
    })

-- the first five members of the tbs, and how those after them are counted
pub record Fronted (s : List ℕ) (from end : ℕ) (members : Trees) (b d v : Element) : Type 0 where
  pub version : Tree
  pub serial : Tree
  pub inner : Tree
  pub issuer : Tree
  pub validity : Tree
  pub rest : Trees
  pub split : members ≡ more version (more serial (more inner (more issuer (more validity rest))))
  pub serial-tag : tag_of serial ≡ 0x02
  pub serial-part : Part s (numbered members 1 from) b serial
  pub issuer-tag : tag_of issuer ≡ 0x30
  pub issuer-part : Part s (numbered members 3 from) d issuer
  pub validity-tag : tag_of validity ≡ 0x30
  pub validity-part : Part s (numbered members 4 from) v validity
  pub later : (k : ℕ) → numbered members (suc (suc (suc (suc (suc k))))) from ≡ numbered rest k v.end
  pub next : Spans s v.end end rest

split-five :
    {x y z w u : Tree} {members p q r t n : Trees}
    → members ≡ more x p → p ≡ more y q → q ≡ more z r → r ≡ more w t → t ≡ more u n → members ≡ more x (more y (more z (more w (more u n))))
split-five a b c d e = cc

opens-same :
    {a b c d e p q r t u : Element} → ◌≡◌ {A = (Option Front)} (a_front a b c d e) (a_front p q r t u) → (b ≡ q) × (d ≡ t) × (e ≡ u)
opens-same h = let same = same_Some _ _ h in (ap (λ (f : Front). f.serial) same, ap (λ (f : Front). f.issuer) same, ap (λ (f : Front). f.validity) same)

pub front-members :
    (s : List ℕ) (tbs a b c d v : Element) (members : Trees) → Spans s tbs.contents tbs.end members
    → front_of s tbs ≡ a_front a b c d v → Fronted s tbs.contents tbs.end members b d v
unfolding front_of
front-members s tbs a b c d v members sp e =
    let r = a_front a b c d v in
    let f1 = went (found_tagged paper s tbs.contents tbs.end 0xA0) None _ r frontless e in
    let t1 = tagged-first s _ tbs.end 0xA0 members f1.element sp f1.there in
    let f2 = went (only_of paper s f1.element 0x02) None _ r frontless f1.then in
    let f3 = went (found_tagged paper s f1.element.end tbs.end 0x02) None _ r frontless f2.then in
    let t3 = tagged-first s _ tbs.end 0x02 t1.rest f3.element t1.member.next f3.there in
    let f4 = went (found_tagged paper s f3.element.end tbs.end 0x30) None _ r frontless f3.then in
    let t4 = tagged-first s _ tbs.end 0x30 t3.rest f4.element t3.member.next f4.there in
    let f5 = went (found_tagged paper s f4.element.end tbs.end 0x30) None _ r frontless f4.then in
    let t5 = tagged-first s _ tbs.end 0x30 t4.rest f5.element t4.member.next f5.there in
    let f6 = went (found_tagged paper s f5.element.end tbs.end 0x30) None _ r frontless f5.then in
    let t6 = tagged-first s _ tbs.end 0x30 t5.rest f6.element t5.member.next f6.there in
    let same = opens-same f6.then in
    let n1 = row-later t1.member t1.split in
    let n3 = row-later t3.member t3.split in
    let n4 = row-later t4.member t4.split in
    let n5 = row-later t5.member t5.split in
    let n6 = row-later t6.member t6.split in
    record {
      version = t1.tree;
      serial = t3.tree;
      inner = t4.tree;
      issuer = t5.tree;
      validity = t6.tree;
      rest = t6.rest;
      split = split-five t1.split t3.split t4.split t5.split t6.split;
      serial-tag = t3.named;
      serial-part =
          subst (λ (x : Element). Part s (numbered members 1 tbs.contents) x t3.tree) same.0
          (part_at (row_here t3.member t3.split) (n1 0));
      issuer-tag = t5.named;
      issuer-part =
          subst (λ (x : Element). Part s (numbered members 3 tbs.contents) x t5.tree) same.1
          (part_at (row_here t5.member t5.split) (n1 2 ∙ n3 1 ∙ n4 0));
      validity-tag = t6.named;
      validity-part =
          subst (λ (x : Element). Part s (numbered members 4 tbs.contents) x t6.tree) same.2
          (part_at (row_here t6.member t6.split) (n1 3 ∙ n3 2 ∙ n4 1 ∙ n5 0));
      later =
          subst (λ (x : Element). (k : ℕ) → numbered members (suc (suc (suc (suc (suc k))))) tbs.contents ≡ numbered t6.rest k x.end) same.2
          (λ k. n1 (suc (suc (suc (suc k)))) ∙ n3 (suc (suc (suc k))) ∙ n4 (suc (suc k)) ∙ n5 (suc k) ∙ n6 k);
      next = subst (λ (x : Element). Spans s x.end tbs.end t6.rest) same.2 t6.member.next;
    }

-- the two times of the validity
pub record Lasting (s : List ℕ) (place : Place) (a b : Element) (validity : Tree) : Type 0 where
  pub start : Tree
  pub end : Tree
  pub shape : validity ≡ node 0x30 (more start (more end none))
  pub start-part : Part s (member_at place 0) a start
  pub end-part : Part s (member_at place 1) b end

times-shape :
    {validity x y : Tree} {members p q : Trees}
    → validity ≡ node 0x30 members → members ≡ more x p → p ≡ more y q → q ≡ none → validity ≡ node 0x30 (more x (more y none))
times-shape a b c d = cc

times-same : {a b p q : Element} → ◌≡◌ {A = (Option Validity)} (a_validity a b) (a_validity p q) → (a ≡ p) × (b ≡ q)
times-same h = let same = same_Some _ _ h in (ap (λ (v : Validity). v.start) same, ap (λ (v : Validity). v.finish) same)

pub two-times :
    (s : List ℕ) (place : Place) (v a b : Element) (validity : Tree) → Part s place v validity → tag_of validity ≡ 0x30
    → validity_of s v ≡ a_validity a b → Lasting s place a b validity
unfolding validity_of constructed
two-times s place v a b validity part named e =
    let r = a_validity a b in
    let i = is-node validity 0x30 refl part.sound named in
    let f1 = went (time_at paper s v.contents v.end) None _ r timeless e in
    let x1 = first-of s v.contents v.end i.0 f1.element (part.inside 0x30 i.0 i.1) (timed-found s _ _ _ f1.there) in
    let f2 = went (time_at paper s f1.element.end v.end) None _ r timeless f1.then in
    let x2 = first-of s f1.element.end v.end x1.1 f2.element x1.3.next (timed-found s _ _ _ f2.there) in
    let k = kept (eqb f2.element.end v.end) _ None r timeless f2.then in
    let same = times-same k.1 in
    let at = members-place part 0x30 i.0 i.1 in
    record {
      start = x1.0;
      end = x2.0;
      shape = times-shape i.1 x1.2 x2.2 (rest-none x2.3 (eqb-true _ _ k.0));
      start-part = subst (λ (x : Element). Part s (member_at place 0) x x1.0) same.0 (part_at (row_here x1.3 x1.2) (at 0));
      end-part =
          subst (λ (x : Element). Part s (member_at place 1) x x2.0) same.1
          (part_at (row_here x2.3 x2.2) (at 1 ∙ row-later x1.3 x1.2 0));
    }
  where
    timeless : ◌≡◌ {A = (Option Validity)} None (a_validity a b) → ⊥
    timeless p = let z : ◌≡◌ {A = ℕ} 0 1 = cc in omega arith

-- the three members after them, where nothing stands between the key and the extensions
pub record Backed (s : List ℕ) (from end : ℕ) (members : Trees) (a b d : Element) : Type 0 where
  pub subject : Tree
  pub key : Tree
  pub extensions : Trees
  pub split : members ≡ more subject (more key (more (node 0xA3 (more (node 0x30 extensions) none)) none))
  pub subject-part : Part s (numbered members 0 from) a subject
  pub key-part : Part s (numbered members 1 from) b key
  pub inside : Spans s d.contents d.end extensions
  pub each : (k : ℕ) → member_at (member_at (numbered members 2 from) 0) k ≡ numbered extensions k d.contents

split-back :
    {x y z w : Tree} {members p q r list : Trees}
    → members ≡ more x p → p ≡ more y q → q ≡ more z none → z ≡ node 0xA3 r → r ≡ more w none → w ≡ node 0x30 list
    → members ≡ more x (more y (more (node 0xA3 (more (node 0x30 list) none)) none))
split-back a b c d e f = cc

closes-same :
    {a b d p q t : Element} {c r : Bool} → ◌≡◌ {A = (Option Back)} (a_back a b c d) (a_back p q r t) → (a ≡ p) × (b ≡ q) × (c ≡ r) × (d ≡ t)
closes-same h =
    let same = same_Some _ _ h in (
      ap (λ (b : Back). b.subject) same,
      ap (λ (b : Back). b.key) same,
      ap (λ (b : Back). b.unique) same,
      ap (λ (b : Back). b.extensions) same,
    )

pub back-members :
    (s : List ℕ) (from end : ℕ) (a b : Element) (c : Bool) (d : Element) (members : Trees) → Spans s from end members
    → back_of s from end ≡ a_back a b c d → c ≡ false → Backed s from end members a b d
unfolding back_of constructed
back-members s from end a b c d members sp e bare =
    let r = a_back a b c d in
    let f1 = went (found_tagged paper s from end 0x30) None _ r backless e in
    let t1 = tagged-first s from end 0x30 members f1.element sp f1.there in
    let f2 = went (found_tagged paper s f1.element.end end 0x30) None _ r backless f1.then in
    let t2 = tagged-first s _ end 0x30 t1.rest f2.element t1.member.next f2.there in
    let f3 = went (found_tagged paper s (unique_end s f2.element.end end) end 0xA3) None _ r backless f2.then in
    let k = kept (eqb f3.element.end end) _ None r backless f3.then in
    let f4 = went (only_of paper s f3.element 0x30) None _ r backless k.1 in
    let same = closes-same f4.then in
    let here = eqb-true (unique_end s f2.element.end end) f2.element.end (not-false _ (same.2 ∙ bare)) in
    let t3 = tagged-first s f2.element.end end 0xA3 t2.rest f3.element t2.member.next
    (subst (λ (n : ℕ). found_tagged paper s n end 0xA3 ≡ Some f3.element) here f3.there) in
    let i3 = members-inside s f2.element.end end 0xA3 t2.rest f3.element refl t3 in
    let t4 = only-inside s f3.element 0x30 i3.0 f4.element i3.2 f4.there in
    let i4 = members-inside s f3.element.contents f3.element.end 0x30 i3.0 f4.element refl t4.0 in
    let n1 = row-later t1.member t1.split in
    let n2 = row-later t2.member t2.split in
    let last = part_at (row_here t3.member t3.split) (n1 1 ∙ n2 0) in
    let list = part_at (row_here t4.0.member t4.0.split) (members-place last 0xA3 i3.0 i3.1 0) in
    record {
      subject = t1.tree;
      key = t2.tree;
      extensions = i4.0;
      split = split-back t1.split t2.split (only-tree s f2.element.end end 0xA3 t2.rest f3.element t3 (eqb-true _ _ k.0)) i3.1 t4.1 i4.1;
      subject-part = subst (λ (x : Element). Part s (numbered members 0 from) x t1.tree) same.0 (row_here t1.member t1.split);
      key-part =
          subst (λ (x : Element). Part s (numbered members 1 from) x t2.tree) same.1
          (part_at (row_here t2.member t2.split) (n1 0));
      inside = subst (λ (x : Element). Spans s x.contents x.end i4.0) same.3 i4.2;
      each =
          subst (λ (x : Element). (n : ℕ) → member_at (member_at (numbered members 2 from) 0) n ≡ numbered i4.0 n x.contents) same.3
          (members-place list 0x30 i4.0 i4.1);
    }
