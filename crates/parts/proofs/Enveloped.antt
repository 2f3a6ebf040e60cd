-- A signed item's outermost element is a node of tbs, algorithm and signature, and the tbs's contents encode its members.
use Rattle.std.specs.Prelude.{Option, Some, None}
use Prim.Native.Nat.{ℕ, ◌+◌, ◌/◌, ◌%◌}
use mathlib.Core.Path.{◌≡◌, refl, sym, ap, subst, ◌∙◌}
use mathlib.Core.Bool.{Bool, true, false, cond, ◌&&◌, true≢false}
use mathlib.Core.List.{List, [], ◌∷◌}
use native.Mathlib.Omega.{arith}
use borrow.Author.Tests.{eqb-true}
use lib.Dec.{ltb, eqb}
use lib.ListN.{length}
use Rattle.der.specs.Forms.{paper}
use Rattle.der.specs.Heading.{constructed, identifier_good, wide_good}
use Rattle.tree.specs.Tree.{Tree, leaf, node, Trees, none, more, encoded_all, tag_of, contents_of, tag_good, leading, Sound, sound-leaf, sound-node}
use Rattle.tree.proofs.Members.{length_more}
use Rattle.tree.proofs.Reading.{encoded-some}
use Rattle.elements.specs.declared.elements.Element.{Element}
use Rattle.elements.specs.declared.envelopes.Envelope.{Envelope}
use Rattle.elements.specs.Elements.{found_tagged}
use Rattle.elements.specs.Envelope.{envelope_of}
use Rattle.elements.specs.Steps.{only_of}
use Rattle.parts.specs.Places.{numbered, along, place_in}
use Rattle.parts.specs.Shown.{signed}
use Rattle.parts.proofs.Inverse.{went, kept, tagged-found}
use Rattle.parts.proofs.Spans.{Spans, Member, first-of}
use Rattle.parts.proofs.Standing.{row_here, part_at, members-place}
use Rattle.elements.proofs.Payloads.{an_envelope, same_envelope}

-- the paper's tags have one octet
narrow : (tag : ℕ) → tag_good paper tag ≡ true → leading tag ≡ tag
unfolding tag_good leading
narrow tag = go (ltb tag 256)
  where
    go : (one : Bool) → cond one (identifier_good tag) (false && wide_good (tag / 256) (tag % 256)) ≡ true → cond one tag (tag / 256) ≡ tag
    go true p = refl
    go false p = absurd (true≢false (sym p))

-- a sound tree with a constructed tag is a node, and one with a primitive tag a leaf
pub is-node : (tree : Tree) (tag : ℕ) → constructed tag ≡ true → Sound paper tree → tag_of tree ≡ tag → (members : Trees) × (tree ≡ node tag members)
unfolding tag_of
is-node (leaf own c) tag built (sound-leaf small good flat octets fits contents) e =
    absurd (true≢false (sym built ∙ sym (ap constructed e) ∙ sym (ap constructed (narrow own good)) ∙ flat))
is-node (node own members) tag built sound e = (members, ap (λ (t : ℕ). node t members) e)

pub is_leaf : (tree : Tree) (tag : ℕ) → constructed tag ≡ false → Sound paper tree → tag_of tree ≡ tag → tree ≡ leaf tag (contents_of tree)
unfolding tag_of contents_of
is_leaf (leaf own c) tag flat sound e = ap (λ (t : ℕ). leaf t c) e
is_leaf (node own members) tag flat (sound-node small good built fits order all) e =
    absurd (true≢false (sym built ∙ ap constructed (narrow own good) ∙ ap constructed e ∙ flat))

-- no tree stands in a stretch without octets
span_none : (s : List ℕ) (at : ℕ) (trees : Trees) → Spans s at at trees → trees ≡ none
span_none s at none sp = refl
span_none s at (more tree trees) sp =
    absurd (let a : length sp.before ≡ at = sp.start in let b : length sp.before + length (encoded_all (more tree trees)) ≡ at = sp.stop in omega (arith, length_more tree trees, encoded-some tree))

-- the first tree of a stretch, found by its tag
pub record Tagged (s : List ℕ) (from end tag : ℕ) (trees : Trees) (e : Element) : Type 0 where
  pub tree : Tree
  pub rest : Trees
  pub split : trees ≡ more tree rest
  pub member : Member s from end e tree rest
  pub named : tag_of tree ≡ tag

pub tagged-first :
    (s : List ℕ) (from end tag : ℕ) (trees : Trees) (e : Element) → Spans s from end trees → found_tagged paper s from end tag ≡ Some e
    → Tagged s from end tag trees e
tagged-first s from end tag trees e sp f =
    let h : (_) × (e.tag ≡ tag) = tagged-found s from end tag e f in
    let x = first-of s from end trees e sp h.0 in
    record { tree = x.0; rest = x.1; split = x.2; member = x.3; named = sym x.3.tag ∙ h.1 }

-- the members of the first tree of a stretch, where its tag is constructed
pub members-inside :
    (s : List ℕ) (from end tag : ℕ) (trees : Trees) (e : Element) → constructed tag ≡ true → (t : Tagged s from end tag trees e)
    → (members : Trees) × (t.tree ≡ node tag members) × Spans s e.contents e.end members
members-inside s from end tag trees e built t =
    let n = is-node t.tree tag built t.member.sound t.named in (n.0, n.1, t.member.inside tag n.0 n.1)

-- where the first tree reaches the end of a stretch, it is the only one
pub rest-none : {s : List ℕ} {from end : ℕ} {e : Element} {tree : Tree} {rest : Trees} → Member s from end e tree rest → e.end ≡ end → rest ≡ none
rest-none {s} {from} {end} {e} {tree} {rest} m h = span_none s end rest (subst (λ (n : ℕ). Spans s n end rest) h m.next)

pub only-tree :
    (s : List ℕ) (from end tag : ℕ) (trees : Trees) (e : Element) (t : Tagged s from end tag trees e) → e.end ≡ end → trees ≡ more t.tree none
only-tree s from end tag trees e t h = t.split ∙ ap (more t.tree) (rest-none t.member h)

-- the one member of an element
pub only-inside :
    (s : List ℕ) (e : Element) (tag : ℕ) (members : Trees) (x : Element) → Spans s e.contents e.end members → only_of paper s e tag ≡ Some x
    → (t : Tagged s e.contents e.end tag members x) × (members ≡ more t.tree none)
unfolding only_of
only-inside s e tag members x sp h =
    let f = went (found_tagged paper s e.contents e.end tag) None _ (Some x) missing h in
    let k = kept (eqb f.element.end e.end) (Some f.element) None (Some x) missing f.then in
    let same : f.element ≡ x = one f.element k.1 in
    let t = tagged-first s e.contents e.end tag members x sp (f.there ∙ k.1) in
    (t, only-tree s e.contents e.end tag members x t (sym (ap (λ (y : Element). y.end) same) ∙ eqb-true _ _ k.0))
  where
    missing : ◌≡◌ {A = (Option Element)} None (Some x) → ⊥
    missing p = let z : ◌≡◌ {A = ℕ} 0 1 = cc in omega arith

    one : (y : Element) → ◌≡◌ {A = (Option Element)} (Some y) (Some x) → y ≡ x
    one y p = cc

pub record Enveloped (s : List ℕ) (tree : Tree) (tbs : Element) : Type 0 where
  pub members : Trees
  pub algorithm : Tree
  pub signature : Tree
  pub shape : tree ≡ signed members algorithm signature
  pub span : Spans s tbs.contents tbs.end members
  pub each : (k : ℕ) → place_in tree (0 ∷ k ∷ []) ≡ numbered members k tbs.contents

shape_of :
    {tree outermost inner last second : Tree} {after members list first rest : Trees}
    → ◌≡◌ {A = Trees} (more tree none) (more outermost after) → outermost ≡ node 0x30 list → list ≡ more inner first → inner ≡ node 0x30 members
    → first ≡ more second rest → rest ≡ more last none → tree ≡ signed members second last
shape_of a b c d e f = cc

parts_same : {tbs outer x y : Element} → ◌≡◌ {A = (Option Envelope)} (an_envelope x y) (an_envelope tbs outer) → x ≡ tbs
parts_same e = (same_envelope e).0

-- where the outermost tree's stretch was left, the envelope tells its members
pub envelope-members :
    (s : List ℕ) (tree : Tree) (tbs outer : Element) → Spans s 0 (length s) (more tree none) → envelope_of paper s ≡ an_envelope tbs outer
    → Enveloped s tree tbs
unfolding envelope_of constructed place_in along numbered
envelope-members s tree tbs outer root e =
    let a = went (found_tagged paper s 0 (length s) 0x30) None _ (an_envelope tbs outer) formless e in
    let o = tagged-first s 0 (length s) 0x30 (more tree none) a.element root a.there in
    let i = members-inside s 0 (length s) 0x30 (more tree none) a.element refl o in
    let b = went (found_tagged paper s a.element.contents a.element.end 0x30) None _ (an_envelope tbs outer) formless a.then in
    let t = tagged-first s a.element.contents a.element.end 0x30 i.0 b.element i.2 b.there in
    let j = members-inside s a.element.contents a.element.end 0x30 i.0 b.element refl t in
    let c = went (found_tagged paper s b.element.end a.element.end 0x30) None _ (an_envelope tbs outer) formless b.then in
    let u = tagged-first s b.element.end a.element.end 0x30 t.rest c.element t.member.next c.there in
    let d = went (found_tagged paper s c.element.end a.element.end 0x03) None _ (an_envelope tbs outer) formless c.then in
    let v = tagged-first s c.element.end a.element.end 0x03 u.rest d.element u.member.next d.there in
    let k = kept (eqb d.element.end a.element.end) _ None (an_envelope tbs outer) formless d.then in
    let gone = only-tree s c.element.end a.element.end 0x03 u.rest d.element v (eqb-true _ _ k.0) in
    let outermost = row_here o.member o.split in
    let first = part_at (row_here t.member t.split) (members-place outermost 0x30 i.0 i.1 0) in
    let each = members-place first 0x30 j.0 j.1 in
    record {
      members = j.0;
      algorithm = u.tree;
      signature = v.tree;
      shape = shape_of o.split i.1 t.split j.1 u.split gone;
      span = subst (λ (x : Element). Spans s x.contents x.end j.0) (parts_same k.1) j.2;
      each = subst (λ (x : Element). (n : ℕ) → place_in tree (0 ∷ n ∷ []) ≡ numbered j.0 n x.contents) (parts_same k.1) each;
    }
  where
    formless : ◌≡◌ {A = (Option Envelope)} None (an_envelope tbs outer) → ⊥
    formless p = let z : ◌≡◌ {A = ℕ} 0 1 = cc in omega arith
