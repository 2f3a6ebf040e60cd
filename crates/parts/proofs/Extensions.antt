-- The extensions that are looked through are the trees of their stretch in order, and an extension's two or three elements are its
-- tree's members: so the one that a look-up finds is the tree with some number, and where it finds none no tree has the OID.
use Rattle.std.specs.Prelude.{Option, Some, None}
use Prim.Native.Nat.{ℕ, zero, suc, ◌≤◌}
use mathlib.Core.Path.{◌≡◌, refl, sym, ap, subst, ◌∙◌}
use mathlib.Core.Bool.{Bool, true, false, true≢false, cond}
use mathlib.Core.List.{List, [], ◌∷◌}
use native.Mathlib.Omega.{arith}
use borrow.Author.Tests.{eqb-true}
use lib.Dec.{eqb}
use lib.ListN.{length, get_or}
use Rattle.der.specs.Forms.{paper}
use Rattle.der.specs.Heading.{constructed}
use Rattle.octets.specs.Octets.{Octets}
use Rattle.tree.specs.Tree.{Tree, leaf, node, Trees, none, more, Sound, sound-leaf}
use Rattle.elements.specs.declared.elements.Element.{Element}
use Rattle.elements.specs.Elements.{found_at, found_tagged, with_tag, members_of}
use Rattle.elements.specs.Elements as elements
use Rattle.octets.proofs.Likeness.{alike_is, is-alike}
use Rattle.elements.proofs.Members.{found_within, members-none, members-more}
use Rattle.extensions.specs.declared.Extension.{Extension}
use Rattle.extensions.specs.Extensions.{holding_of, extension_of, present, all_shaped, has_oid, first_with, same_oids, stands_in, doubled_in}
use Rattle.parts.specs.Places.{Place, At, numbered, member_at}
use Rattle.parts.specs.Shown.{extension}
use Rattle.parts.proofs.Inverse.{went, kept, parted, tagged-found}
use Rattle.parts.proofs.Spans.{Spans, Member, found_first, found_none}
use Rattle.parts.proofs.Standing.{Part, row_here, row-later, part_at, members-place}
use Rattle.parts.proofs.Enveloped.{Tagged, tagged-first, is-node, is_leaf, only-tree}
use Rattle.extensions.proofs.Payloads.{an_extension, same_extension}

-- an OCTET STRING whose octets stand in the item
pub record Holds (s : List ℕ) (value : Element) : Type 0 where
  pub octets : Octets (elements.contents_of s value)
  pub order : value.contents ≤ value.end
  pub within : value.end ≤ length s

-- the tree of an extension: its OID first, and where it is not critical its OCTET STRING next and last
pub record Extended (s : List ℕ) (place : Place) (tree : Tree) (oid : Element) (critical : Bool) (value : Element) : Type 0 where
  pub rest : Trees
  pub shape : tree ≡ node 0x30 (more (leaf 0x06 (elements.contents_of s oid)) rest)
  pub uncritical :
      critical ≡ false
      → (rest ≡ more (leaf 0x04 (elements.contents_of s value)) none) × Holds s value
      × Part s (member_at place 1) value (leaf 0x04 (elements.contents_of s value))

absent : {oid value : Element} {critical : Bool} → ◌≡◌ {A = (Option Extension)} None (an_extension oid critical value) → ⊥
absent p = let z : ◌≡◌ {A = ℕ} 0 1 = cc in omega arith

is_same :
    {a b c d : Element} {p q : Bool} → ◌≡◌ {A = (Option Extension)} (an_extension a p b) (an_extension c q d) → (a ≡ c) × (p ≡ q) × (b ≡ d)
is_same h = same_extension h

held :
    (e own oid value : Element) (flag critical : Bool) (next : Option Element) → holding_of e own flag next ≡ an_extension oid critical value
    → (own ≡ oid) × (flag ≡ critical) × (with_tag 0x04 next ≡ Some value) × (value.end ≡ e.end)
unfolding holding_of
held e own oid value flag critical next h =
    let r = an_extension oid critical value in
    let f = went (with_tag 0x04 next) None _ r absent h in
    let k = kept (eqb f.element.end e.end) (an_extension own flag f.element) None r absent f.then in
    let same = is_same k.1 in
    (same.0, same.1, f.there ∙ ap Some same.2, sym (ap (λ (x : Element). x.end) same.2) ∙ eqb-true _ _ k.0)

-- what is found in an extension
record Opened (s : List ℕ) (e oid : Element) (critical : Bool) (value : Element) : Type 0 where
  built : e.tag ≡ 0x30
  named : found_tagged paper s e.contents e.end 0x06 ≡ Some oid
  uncritical : critical ≡ false → found_tagged paper s oid.end e.end 0x04 ≡ Some value
  last : value.end ≡ e.end

open-extension : (s : List ℕ) (e oid : Element) (critical : Bool) (value : Element) → extension_of paper s e ≡ an_extension oid critical value → Opened s e oid critical value
unfolding extension_of found_tagged
open-extension s e oid critical value h =
    let r = an_extension oid critical value in
    let k = kept (eqb e.tag 0x30) _ None r absent h in
    let a = went (found_tagged paper s e.contents e.end 0x06) None _ r absent k.1 in
    let b = went (found_at paper s a.element.end e.end) None _ r absent a.then in
    parted (eqb b.element.tag 0x01) _ _ r
    (λ c. let g = kept (eqb (get_or s b.element.contents 0) 255) _ None r absent c in
    let q = held e a.element oid value true critical (found_at paper s b.element.end e.end) g.1 in
    record {
      built = eqb-true _ _ k.0;
      named = a.there ∙ ap Some q.0;
      uncritical = λ p. absurd (true≢false (q.1 ∙ p));
      last = q.3;
    })
    (λ c. let q = held e a.element oid value false critical (Some b.element) c in
    record {
      built = eqb-true _ _ k.0;
      named = a.there ∙ ap Some q.0;
      uncritical = λ p.
          subst (λ (x : Element). with_tag 0x04 (found_at paper s x.end e.end) ≡ Some value) q.0 (ap (with_tag 0x04) b.there ∙ q.2);
      last = q.3;
    })
    b.then

-- an element found by a primitive tag is a leaf of its contents
pub found-leaf :
    (s : List ℕ) (from end tag : ℕ) (trees : Trees) (e : Element) → constructed tag ≡ false → (t : Tagged s from end tag trees e)
    → t.tree ≡ leaf tag (elements.contents_of s e)
found-leaf s from end tag trees e flat t =
    is_leaf t.tree tag flat t.member.sound t.named ∙ ap (leaf tag) (sym t.member.contents)

leaf-octets : (tag : ℕ) (c : List ℕ) → Sound paper (leaf tag c) → Octets c
leaf-octets tag c (sound-leaf small good flat octets fits contents) = octets

shape_of :
    {tree oid : Tree} {members rest : Trees} {c : List ℕ}
    → tree ≡ node 0x30 members → members ≡ more oid rest → oid ≡ leaf 0x06 c → tree ≡ node 0x30 (more (leaf 0x06 c) rest)
shape_of a b c = cc

extension-tree :
    (s : List ℕ) (place : Place) (e : Element) (tree : Tree) (oid : Element) (critical : Bool) (value : Element) → Part s place e tree
    → extension_of paper s e ≡ an_extension oid critical value → Extended s place tree oid critical value
unfolding constructed
extension-tree s place e tree oid critical value p h =
    let o = open-extension s e oid critical value h in
    let n = is-node tree 0x30 refl p.sound (sym p.tag ∙ o.built) in
    let t = tagged-first s e.contents e.end 0x06 n.0 oid (p.inside 0x30 n.0 n.1) o.named in
    let second = members-place p 0x30 n.0 n.1 1 ∙ row-later t.member t.split 0 in
    record {
      rest = t.rest;
      shape = shape_of n.1 t.split (found-leaf s e.contents e.end 0x06 n.0 oid refl t);
      uncritical = λ c. value-tree t.rest (o.uncritical c) o.last t.member.next second;
    }
  where
    value-tree :
        (rest : Trees) → found_tagged paper s oid.end e.end 0x04 ≡ Some value → value.end ≡ e.end → Spans s oid.end e.end rest
        → member_at place 1 ≡ numbered rest 0 oid.end
        → (rest ≡ more (leaf 0x04 (elements.contents_of s value)) none) × Holds s value
        × Part s (member_at place 1) value (leaf 0x04 (elements.contents_of s value))
    value-tree rest found last sp second =
        let t = tagged-first s oid.end e.end 0x04 rest value sp found in
        let l = found-leaf s oid.end e.end 0x04 rest value refl t in
        let w = found_within s oid.end e.end (tagged-found s oid.end e.end 0x04 value found).0 in (
          only-tree s oid.end e.end 0x04 rest value t last ∙ ap (λ (x : Tree). more x none) l,
          record {
            octets = leaf-octets 0x04 (elements.contents_of s value) (subst (Sound paper) l t.member.sound);
            order = w.5;
            within = omega (arith, w.2, w.3);
          },
          subst (Part s (member_at place 1) value) l (part_at (row_here t.member t.split) second),
        )

-- an extension that is not critical, with this OID and this value, is the tree with this number
pub record Met (s : List ℕ) (trees : Trees) (from : ℕ) (oid : List ℕ) (value : Element) : Type 0 where
  pub number : ℕ
  pub at : ℕ
  pub stands : numbered trees number from ≡ At (extension oid (elements.contents_of s value)) at
  pub holds : Holds s value
  pub part : Part s (member_at (numbered trees number from) 1) value (leaf 0x04 (elements.contents_of s value))

extension-is :
    {tree : Tree} {rest : Trees} {own oid c : List ℕ}
    → tree ≡ node 0x30 (more (leaf 0x06 own) rest) → rest ≡ more (leaf 0x04 c) none → own ≡ oid → tree ≡ extension oid c
extension-is a b c = cc

oid-same :
    {own oid : List ℕ} {p q : Trees} → ◌≡◌ {A = Tree} (node 0x30 (more (leaf 0x06 own) p)) (node 0x30 (more (leaf 0x06 oid) q)) → own ≡ oid
oid-same h = cc

tree-same : {x y : Tree} {a b : ℕ} → At x a ≡ At y b → x ≡ y
tree-same h = cc

present-is : (x : Option Extension) → present x ≡ true → (oid : Element) × (critical : Bool) × (value : Element) × (x ≡ an_extension oid critical value)
unfolding present
present-is None h = absurd (true≢false (sym h))
present-is (Some x) h = (x.oid, x.critical, x.value, refl)

missed :
    {o v : Element} {c : Bool} (has : Bool) (x rest : Option Extension) → x ≡ an_extension o c v → cond has x rest ≡ None → (has ≡ false) × (rest ≡ None)
missed true x rest e h = absurd (absent (sym h ∙ e))
missed false x rest e h = (refl, h)

-- what has no OID twice: neither the first stands among the others, nor one of those twice
no-double : (b r : Bool) → cond b true r ≡ false → (b ≡ false) × (r ≡ false)
no-double true r h = absurd (true≢false h)
no-double false r h = (refl, h)

-- an OID that does not stand among some is not found in them
not-among :
    (s : List ℕ) (own value : Element) (critical : Bool) (es : List Element) → stands_in paper s (an_extension own critical value) es ≡ false
    → first_with paper s (elements.contents_of s own) es ≡ None
unfolding stands_in same_oids first_with
not-among s own value critical [] h = refl
not-among s own value critical (e ∷ rest) h =
    let n = no-double (has_oid s (elements.contents_of s own) (extension_of paper s e)) (stands_in paper s (an_extension own critical value) rest) h in
    rw n.0 (not-among s own value critical rest n.1)

module _ (s oid : List ℕ) (end : ℕ) where
  -- the look-up, and the test of all shapes, over the first member and the others
  looks : (from : ℕ) (e : Element) → found_at paper s from end ≡ Some e → (r : Option Extension) → first_with paper s oid (members_of paper s from end) ≡ r
      → cond (has_oid s oid (extension_of paper s e)) (extension_of paper s e) (first_with paper s oid (members_of paper s e.end end)) ≡ r
  unfolding first_with
  looks from e f r h = sym (ap (first_with paper s oid) (members-more s from end f)) ∙ h

  tests : (from : ℕ) (e : Element) → found_at paper s from end ≡ Some e → all_shaped paper s (members_of paper s from end) ≡ true
      → (present (extension_of paper s e) ≡ true) × (all_shaped paper s (members_of paper s e.end end) ≡ true)
  unfolding all_shaped
  tests from e f h =
      kept (present (extension_of paper s e)) (all_shaped paper s (members_of paper s e.end end)) false true (λ p. true≢false (sym p))
      (sym (ap (all_shaped paper s) (members-more s from end f)) ∙ h)

  doubles : (from : ℕ) (e : Element) → found_at paper s from end ≡ Some e → doubled_in paper s (members_of paper s from end) ≡ false
      → (stands_in paper s (extension_of paper s e) (members_of paper s e.end end) ≡ false) × (doubled_in paper s (members_of paper s e.end end) ≡ false)
  unfolding doubled_in
  doubles from e f h =
      no-double (stands_in paper s (extension_of paper s e) (members_of paper s e.end end)) (doubled_in paper s (members_of paper s e.end end))
      (sym (ap (doubled_in paper s) (members-more s from end f)) ∙ h)

  -- the extension that a look-up finds, if it is not critical
  pub look-finds :
      (trees : Trees) (from : ℕ) (own value : Element) → Spans s from end trees → first_with paper s oid (members_of paper s from end) ≡ an_extension own false value
      → Met s trees from oid value
  unfolding first_with has_oid
  look-finds none from own value sp h =
      absurd (absent (sym (ap (first_with paper s oid) (members-none s from end (found_none s from end sp))) ∙ h))
  look-finds (more tree trees) from own value sp h =
      let x = found_first s from end tree trees sp in
      go x.0 x.2 (look-finds trees x.0.end own value x.2.next) (has_oid s oid (extension_of paper s x.0)) refl
      (looks from x.0 x.1 (an_extension own false value) h)
    where
      here : (e : Element) → Member s from end e tree trees → extension_of paper s e ≡ an_extension own false value → has_oid s oid (an_extension own false value) ≡ true → Met s (more tree trees) from oid value
      here e m i has =
          let p = row_here m refl in
          let t = extension-tree s (numbered (more tree trees) 0 from) e tree own false value p i in
          let u = t.uncritical refl in
          let shape = extension-is t.shape u.0 (alike_is (elements.contents_of s own) oid has) in
          record { number = 0; at = e.at; stands = p.there ∙ ap (λ (y : Tree). At y e.at) shape; holds = u.1; part = u.2 }

      go :
          (e : Element) → Member s from end e tree trees → (first_with paper s oid (members_of paper s e.end end) ≡ an_extension own false value → Met s trees e.end oid value)
          → (has : Bool) → has_oid s oid (extension_of paper s e) ≡ has
          → cond has (extension_of paper s e) (first_with paper s oid (members_of paper s e.end end)) ≡ an_extension own false value → Met s (more tree trees) from oid value
      go e m less true has i = here e m i (sym (ap (has_oid s oid) i) ∙ has)
      go e m less false has i =
          let r = less i in
          let next = row-later m refl r.number in
          record {
            number = suc r.number;
            at = r.at;
            stands = next ∙ r.stands;
            holds = r.holds;
            part = part_at r.part (ap (λ (q : Place). member_at q 1) next);
          }

  -- where a look-up finds nothing in extensions of their shape, none has the OID
  pub look-misses :
      (trees : Trees) (from : ℕ) → Spans s from end trees → all_shaped paper s (members_of paper s from end) ≡ true
      → first_with paper s oid (members_of paper s from end) ≡ None → (number at : ℕ) (members : Trees)
      → numbered trees number from ≡ At (node 0x30 (more (leaf 0x06 oid) members)) at → ⊥
  unfolding has_oid numbered
  look-misses none from sp shaped h number at members stands = let z : ◌≡◌ {A = ℕ} 0 1 = cc in omega arith
  look-misses (more tree trees) from sp shaped h zero at members stands =
      let x = found_first s from end tree trees sp in
      let p = present-is (extension_of paper s x.0) (tests from x.0 x.1 shaped).0 in
      let t = extension-tree s (At tree from) x.0 tree p.0 p.1 p.2 (row_here x.2 refl) p.3 in
      let other = missed (has_oid s oid (extension_of paper s x.0)) _ _ p.3 (looks from x.0 x.1 None h) in
      let has = is-alike (elements.contents_of s p.0) oid (oid-same (sym t.shape ∙ tree-same stands)) in
      true≢false (sym has ∙ sym (ap (has_oid s oid) p.3) ∙ other.0)
  look-misses (more tree trees) from sp shaped h (suc number) at members stands =
      let x = found_first s from end tree trees sp in
      let shapes = tests from x.0 x.1 shaped in
      let p = present-is (extension_of paper s x.0) shapes.0 in
      let rest = missed (has_oid s oid (extension_of paper s x.0)) _ _ p.3 (looks from x.0 x.1 None h) in
      look-misses trees x.0.end x.2.next shapes.1 rest.1 number at members (sym (row-later x.2 refl number) ∙ stands)

  -- where no OID stands twice, one number has this one
  apart :
      {tree : Tree} {trees : Trees} (from : ℕ) → Spans s from end (more tree trees) → all_shaped paper s (members_of paper s from end) ≡ true
      → doubled_in paper s (members_of paper s from end) ≡ false → (members : Trees) → tree ≡ node 0x30 (more (leaf 0x06 oid) members) → (number at : ℕ) (others : Trees)
      → numbered (more tree trees) (suc number) from ≡ At (node 0x30 (more (leaf 0x06 oid) others)) at → ⊥
  apart {tree} {trees} from sp shaped single members shape number at others stands =
      let x = found_first s from end tree trees sp in
      let shapes = tests from x.0 x.1 shaped in
      let p = present-is (extension_of paper s x.0) shapes.0 in
      let t = extension-tree s (numbered (more tree trees) 0 from) x.0 tree p.0 p.1 p.2 (row_here x.2 refl) p.3 in
      let alone = ap (λ (y : Option Extension). stands_in paper s y (members_of paper s x.0.end end)) (sym p.3) ∙ (doubles from x.0 x.1 single).0 in
      let same = oid-same (sym t.shape ∙ shape) in
      let missed = not-among s p.0 p.2 p.1 (members_of paper s x.0.end end) alone in
      look-misses trees x.0.end x.2.next shapes.1
      (subst (λ (c : List ℕ). first_with paper s c (members_of paper s x.0.end end) ≡ None) same missed)
      number at others (sym (row-later x.2 refl number) ∙ stands)

  pub oid-once :
      (trees : Trees) (from : ℕ) → Spans s from end trees → all_shaped paper s (members_of paper s from end) ≡ true → doubled_in paper s (members_of paper s from end) ≡ false
      → (i j at other : ℕ) (members others : Trees) → numbered trees i from ≡ At (node 0x30 (more (leaf 0x06 oid) members)) at
      → numbered trees j from ≡ At (node 0x30 (more (leaf 0x06 oid) others)) other → i ≡ j
  unfolding numbered
  oid-once none from sp shaped single i j at other members others a b = let z : ◌≡◌ {A = ℕ} 0 1 = cc in absurd (omega arith)
  oid-once (more tree trees) from sp shaped single zero zero at other members others a b = refl
  oid-once (more tree trees) from sp shaped single zero (suc j) at other members others a b =
      absurd (apart from sp shaped single members (tree-same a) j other others b)
  oid-once (more tree trees) from sp shaped single (suc i) zero at other members others a b =
      absurd (apart from sp shaped single others (tree-same b) i at members a)
  oid-once (more tree trees) from sp shaped single (suc i) (suc j) at other members others a b =
      let x = found_first s from end tree trees sp in
      let later = row-later x.2 refl in
      ap suc (oid-once trees x.0.end x.2.next (tests from x.0 x.1 shaped).1 (doubles from x.0 x.1 single).1
      i j at other members others (sym (later i) ∙ a) (sym (later j) ∙ b))
