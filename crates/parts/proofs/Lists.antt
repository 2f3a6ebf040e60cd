-- The members of a CRL's tbs, one after the other, by going back through the steps of its shape.
use Rattle.std.specs.Prelude.{Option, Some, None}
use Prim.Native.Nat.{ℕ, ◌-◌}
use mathlib.Core.Path.{◌≡◌, refl, sym, ap, subst, ◌∙◌}
use mathlib.Core.Bool.{Bool}
use mathlib.Core.List.{List, [], ◌∷◌}
use native.Mathlib.Omega.{arith}
use borrow.Author.Tests.{eqb-true}
use lib.Dec.{eqb}
use lib.ListN.{length}
use Rattle.der.specs.Forms.{paper}
use Rattle.der.specs.Heading.{constructed}
use Rattle.tree.specs.Tree.{Tree, node, Trees, none, more}
use Rattle.tree.proofs.Parts.{length-parts}
use Rattle.elements.specs.declared.elements.Element.{Element}
use Rattle.elements.specs.Elements.{found_at, found_tagged, members_of}
use Rattle.elements.specs.Envelope.{envelope_of}
use Rattle.elements.proofs.Members.{found_within, members-none}
use Rattle.extensions.specs.Extensions.{extensions_shaped}
use Rattle.names.specs.Names.{name_of}
use Rattle.times.specs.Times.{time_at}
use Rattle.crl.specs.declared.entries.Survey.{Survey}
use Rattle.crl.specs.declared.shapes.Front.{Front}
use Rattle.crl.specs.declared.shapes.Layout.{Layout}
use Rattle.crl.specs.declared.shapes.Listing.{Listing}
use Rattle.crl.specs.Entries.{all_shaped, survey_of}
use Rattle.crl.specs.Shape.{on_front, on_survey, on_parts, listing_of, front_of, last_of, parts_of, layout_of}
use Rattle.parts.specs.Places.{numbered, place_in}
use Rattle.parts.specs.Shown.{Contents, many, closing, Entered, listless}
use Rattle.parts.specs.Shown as shown
use Rattle.parts.proofs.Inverse.{went, kept, timed-found, by-envelope, by_name}
use Rattle.parts.proofs.Spans.{Spans, first-of}
use Rattle.parts.proofs.Members.{span-members, many-elements}
use Rattle.parts.proofs.Standing.{Part, row_here, row-later, part_at, contents-part}
use Rattle.parts.proofs.Enveloped.{tagged-first, members-inside, only-tree, only-inside}
use Rattle.std.proofs.lemmas.Option.{same_Some}
use Rattle.elements.proofs.Payloads.{an_envelope}
use Rattle.crl.proofs.Payloads.{a_front}
use Rattle.crl.proofs.Payloads.{a_survey}

broken : {l : Layout} → ◌≡◌ {A = (Option Layout)} None (Some l) → ⊥
broken p = let z : ◌≡◌ {A = ℕ} 0 1 = cc in omega arith

frontless : {a b c d e : Element} → ◌≡◌ {A = (Option Front)} None (a_front a b c d e) → ⊥
frontless p = let z : ◌≡◌ {A = ℕ} 0 1 = cc in omega arith

by_front : {l : Layout} (v : Option Front) (k : Element → Element → Element → Element → Element → Option Layout) → on_front v k ≡ Some l
    → (a : Element) × (b : Element) × (c : Element) × (d : Element) × (e : Element) × (v ≡ a_front a b c d e) × (k a b c d e ≡ Some l)
unfolding on_front
by_front None k p = absurd (broken p)
by_front (Some f) k p = (f.version, f.inner, f.issuer, f.current, f.coming, refl, p)

by-survey : {l : Layout} (v : Option Survey) (k : ℕ → Bool → Bool → Option Layout) → on_survey v k ≡ Some l
    → (n : ℕ) × (timely : Bool) × (calm : Bool) × (v ≡ a_survey n timely calm) × (k n timely calm ≡ Some l)
unfolding on_survey
by-survey None k p = absurd (broken p)
by-survey (Some v) k p = (v.count, v.timely, v.calm, refl, p)

by_parts : {l : Layout} (v : Option Layout) (k : Layout → Option Layout) → on_parts v k ≡ Some l → (m : Layout) × (v ≡ Some m) × (k m ≡ Some l)
unfolding on_parts
by_parts None k p = absurd (broken p)
by_parts (Some m) k p = (m, refl, p)

parts_same : {l m : Layout} → ◌≡◌ {A = (Option Layout)} (Some l) (Some m) → l ≡ m
parts_same p = cc

-- what a layout tells of the steps that found it
pub record Laid (s : List ℕ) (l : Layout) : Type 0 where
  pub tbs : Element
  pub outer : Element
  pub around : envelope_of paper s ≡ an_envelope tbs outer
  pub front : front_of paper s tbs ≡ a_front l.version l.inner l.issuer l.current l.coming
  pub named : name_of paper s l.issuer ≡ Some l.country
  pub listed : l.listing ≡ listing_of l.coming.end (found_tagged paper s l.coming.end tbs.end 0x30)
  pub last : last_of paper s l.listing.after tbs.end ≡ Some l.extensions
  pub survey : survey_of paper s l.listing.from l.listing.end ≡ a_survey l.count l.timely l.calm

pub laid_out : (s : List ℕ) (l : Layout) → layout_of paper s ≡ Some l → Laid s l
unfolding layout_of parts_of
laid_out s l e =
    let p = by_parts (parts_of paper s) _ e in
    let m = p.0 in
    let a = by-envelope (envelope_of paper s) None _ (Some m) broken p.1 in
    let b = by_front (front_of paper s a.0) _ a.3 in
    let c = by_name (name_of paper s b.2) None _ (Some m) broken b.6 in
    let listing = listing_of b.4.end (found_tagged paper s b.4.end a.0.end 0x30) in
    let d = went (last_of paper s listing.after a.0.end) None _ (Some m) broken c.2 in
    let f = by-survey (survey_of paper s listing.from listing.end) _ d.then in
    let g = kept (extensions_shaped paper s m.extensions) _ None (Some l) broken p.2 in
    subst (Laid s) (parts_same f.4 ∙ parts_same g.1)
    (record {
      tbs = a.0;
      outer = a.1;
      around = a.2;
      front = b.5;
      named = c.1;
      listed = refl;
      last = d.there;
      survey = f.3;
    })

-- the first five members of the tbs, and how those after them are counted
pub record Fronted (s : List ℕ) (from end : ℕ) (members : Trees) (c d e : Element) : Type 0 where
  pub version : Tree
  pub inner : Tree
  pub issuer : Tree
  pub current : Tree
  pub coming : Tree
  pub rest : Trees
  pub split : members ≡ more version (more inner (more issuer (more current (more coming rest))))
  pub issuer-part : Part s (numbered members 2 from) c issuer
  pub current-part : Part s (numbered members 3 from) d current
  pub coming-part : Part s (numbered members 4 from) e coming
  pub sixth : numbered members 5 from ≡ numbered rest 0 e.end
  pub next : Spans s e.end end rest

split-five :
    {x y z w u : Tree} {members p q r t n : Trees}
    → members ≡ more x p → p ≡ more y q → q ≡ more z r → r ≡ more w t → t ≡ more u n → members ≡ more x (more y (more z (more w (more u n))))
split-five a b c d e = cc

opens-same : {a b c d e p q r t u : Element} → ◌≡◌ {A = (Option Front)} (a_front a b c d e) (a_front p q r t u) → (c ≡ r) × (d ≡ t) × (e ≡ u)
opens-same h = let same = same_Some _ _ h in (ap (λ (f : Front). f.issuer) same, ap (λ (f : Front). f.current) same, ap (λ (f : Front). f.coming) same)

pub front-members :
    (s : List ℕ) (tbs a b c d e : Element) (members : Trees) → Spans s tbs.contents tbs.end members
    → front_of paper s tbs ≡ a_front a b c d e → Fronted s tbs.contents tbs.end members c d e
unfolding front_of
front-members s tbs a b c d e members sp p =
    let r = a_front a b c d e in
    let f1 = went (found_tagged paper s tbs.contents tbs.end 0x02) None _ r frontless p in
    let t1 = tagged-first s _ tbs.end 0x02 members f1.element sp f1.there in
    let f2 = went (found_tagged paper s f1.element.end tbs.end 0x30) None _ r frontless f1.then in
    let t2 = tagged-first s _ tbs.end 0x30 t1.rest f2.element t1.member.next f2.there in
    let f3 = went (found_tagged paper s f2.element.end tbs.end 0x30) None _ r frontless f2.then in
    let t3 = tagged-first s _ tbs.end 0x30 t2.rest f3.element t2.member.next f3.there in
    let f4 = went (time_at paper s f3.element.end tbs.end) None _ r frontless f3.then in
    let x4 = first-of s f3.element.end tbs.end t3.rest f4.element t3.member.next (timed-found s _ _ _ f4.there) in
    let f5 = went (time_at paper s f4.element.end tbs.end) None _ r frontless f4.then in
    let x5 = first-of s f4.element.end tbs.end x4.1 f5.element x4.3.next (timed-found s _ _ _ f5.there) in
    let same = opens-same f5.then in
    let n1 = row-later t1.member t1.split in
    let n2 = row-later t2.member t2.split in
    let n3 = row-later t3.member t3.split in
    let n4 = row-later x4.3 x4.2 in
    let n5 = row-later x5.3 x5.2 in
    record {
      version = t1.tree;
      inner = t2.tree;
      issuer = t3.tree;
      current = x4.0;
      coming = x5.0;
      rest = x5.1;
      split = split-five t1.split t2.split t3.split x4.2 x5.2;
      issuer-part =
          subst (λ (x : Element). Part s (numbered members 2 tbs.contents) x t3.tree) same.0
          (part_at (row_here t3.member t3.split) (n1 1 ∙ n2 0));
      current-part =
          subst (λ (x : Element). Part s (numbered members 3 tbs.contents) x x4.0) same.1
          (part_at (row_here x4.3 x4.2) (n1 2 ∙ n2 1 ∙ n3 0));
      coming-part =
          subst (λ (x : Element). Part s (numbered members 4 tbs.contents) x x5.0) same.2
          (part_at (row_here x5.3 x5.2) (n1 3 ∙ n2 2 ∙ n3 1 ∙ n4 0));
      sixth =
          subst (λ (x : Element). numbered members 5 tbs.contents ≡ numbered x5.1 0 x.end) same.2
          (n1 4 ∙ n2 3 ∙ n3 2 ∙ n4 1 ∙ n5 0);
      next = subst (λ (x : Element). Spans s x.end tbs.end x5.1) same.2 x5.3.next;
    }

-- the last member is A0 around the extensions
last-shape :
    {x y : Tree} {trees members list : Trees}
    → trees ≡ more x none → x ≡ node 0xA0 members → members ≡ more y none → y ≡ node 0x30 list → trees ≡ closing list
last-shape a b c d = cc

last-tree :
    (s : List ℕ) (from end : ℕ) (trees : Trees) (e : Element) → Spans s from end trees → last_of paper s from end ≡ Some e
    → (extensions : Trees) × (trees ≡ closing extensions)
unfolding last_of constructed
last-tree s from end trees e sp h =
    let f1 = went (found_tagged paper s from end 0xA0) None _ (Some e) missing h in
    let t1 = tagged-first s from end 0xA0 trees f1.element sp f1.there in
    let k = kept (eqb f1.element.end end) _ None (Some e) missing f1.then in
    let i1 = members-inside s from end 0xA0 trees f1.element refl t1 in
    let t2 = only-inside s f1.element 0x30 i1.0 e i1.2 k.1 in
    let i2 = members-inside s f1.element.contents f1.element.end 0x30 i1.0 e refl t2.0 in
    (i2.0, last-shape (only-tree s from end 0xA0 trees f1.element t1 (eqb-true _ _ k.0)) i1.1 t2.1 i2.1)
  where
    missing : ◌≡◌ {A = (Option Element)} None (Some e) → ⊥
    missing p = let z : ◌≡◌ {A = ℕ} 0 1 = cc in omega arith

-- the survey counts the members of its stretch
survey-count :
    (s : List ℕ) (from end n : ℕ) (timely calm : Bool) → survey_of paper s from end ≡ a_survey n timely calm → n ≡ length (members_of paper s from end)
unfolding survey_of
survey-count s from end n timely calm h =
    let k = kept (all_shaped paper s (members_of paper s from end)) _ None (a_survey n timely calm) shapeless h in same k.1
  where
    shapeless : ◌≡◌ {A = (Option Survey)} None (a_survey n timely calm) → ⊥
    shapeless p = let z : ◌≡◌ {A = ℕ} 0 1 = cc in omega arith

    same : {m : ℕ} {p q : Bool} → ◌≡◌ {A = (Option Survey)} (a_survey m p q) (a_survey n timely calm) → n ≡ m
    same p = sym (ap (λ (v : Survey). v.count) (same_Some _ _ p))

-- nothing stands in a stretch from 0 to 0
none_found : (s : List ℕ) → length (members_of paper s 0 0) ≡ 0
none_found s = ap length (members-none s 0 0 (go (found_at paper s 0 0) refl))
  where
    go : (f : Option Element) → found_at paper s 0 0 ≡ f → f ≡ None
    go None h = refl
    go (Some e) h = absurd (omega (arith, found_within s 0 0 h))

-- the entry list, if it is there, and the extensions
pub entries-told :
    (s : List ℕ) (tree : Tree) (from end : ℕ) (rest : Trees) (listing : Listing) (extensions : Element) (n : ℕ) (timely calm : Bool)
    → Spans s from end rest → place_in tree (0 ∷ 5 ∷ []) ≡ numbered rest 0 from
    → listing ≡ listing_of from (found_tagged paper s from end 0x30) → last_of paper s listing.after end ≡ Some extensions
    → survey_of paper s listing.from listing.end ≡ a_survey n timely calm
    → Entered tree rest n listing.from listing.end
unfolding listing_of constructed
entries-told s tree from end rest listing extensions n timely calm sp sixth same last counted =
    go (found_tagged paper s from end 0x30) refl same
  where
    go : (f : Option Element) → found_tagged paper s from end 0x30 ≡ f → listing ≡ listing_of from f → Entered tree rest n listing.from listing.end
    go None h same =
        let after : listing.after ≡ from = ap (λ (x : Listing). x.after) same in
        let start : listing.from ≡ 0 = ap (λ (x : Listing). x.from) same in
        let stop : listing.end ≡ 0 = ap (λ (x : Listing). x.end) same in
        let x = last-tree s from end rest extensions sp (subst (λ (a : ℕ). last_of paper s a end ≡ Some extensions) after last) in
        let m : n ≡ length (members_of paper s listing.from listing.end) = survey-count s listing.from listing.end n timely calm counted in
        let z : length (members_of paper s listing.from listing.end) ≡ 0 = rw (start, stop) (none_found s) in
        listless x.0 x.1 (m ∙ z) start stop
    go (Some e) h same =
        let after : listing.after ≡ e.end = ap (λ (x : Listing). x.after) same in
        let start : listing.from ≡ e.contents = ap (λ (x : Listing). x.from) same in
        let stop : listing.end ≡ e.end = ap (λ (x : Listing). x.end) same in
        let t = tagged-first s from end 0x30 rest e sp h in
        let i = members-inside s from end 0x30 rest e refl t in
        let p = part_at (row_here t.member t.split) sixth in
        let x = last-tree s e.end end t.rest extensions t.member.next (subst (λ (a : ℕ). last_of paper s a end ≡ Some extensions) after last) in
        let m : n ≡ length (members_of paper s listing.from listing.end) = survey-count s listing.from listing.end n timely calm counted in
        let c : length (members_of paper s listing.from listing.end) ≡ many i.0 =
        rw (start, stop) (ap length (span-members s e.contents e.end i.0 i.2) ∙ many-elements e.contents i.0) in
        listing-of e i.0 x.0 (list-shape t.split i.1 x.1) (m ∙ c) start stop p
      where
        list-shape : {y : Tree} {trees entries more-trees : Trees} → rest ≡ more y trees → y ≡ node 0x30 entries → trees ≡ closing more-trees → rest ≡ more (node 0x30 entries) (closing more-trees)
        list-shape a b c = cc

        listing-of :
            (e : Element) (entries more-trees : Trees) {y : Tree} → rest ≡ more (node 0x30 entries) (closing more-trees) → n ≡ many entries
            → listing.from ≡ e.contents → listing.end ≡ e.end → Part s (place_in tree (0 ∷ 5 ∷ [])) e y
            → Entered tree rest n listing.from listing.end
        listing-of e entries more-trees {y} shape count start stop p =
            shown.listing entries more-trees (e.end - e.contents) shape count
            (subst (λ (a : ℕ). Contents (place_in tree (0 ∷ 5 ∷ [])) a (e.end - e.contents)) (sym start) (contents-part p))
            (omega (arith, start, stop, p.opens, p.ends, length-parts y))
