-- The first tree of a stretch stands where the stretch starts and the others after it, so each element that is found in a row is
-- the tree at the place with its number.
use Prim.Native.Nat.{ℕ, suc, ◌+◌, ◌-◌}
use mathlib.Core.Path.{◌≡◌, sym, ap, ◌∙◌}
use mathlib.Core.List.{List}
use native.Mathlib.Omega.{arith}
use lib.ListN.{length}
use Rattle.der.specs.Forms.{paper}
use Rattle.tree.specs.Tree.{Tree, node, Trees, more, encoded, tag_of, contents_of, header_of, Sound}
use Rattle.tree.proofs.Parts.{length-parts}
use Rattle.elements.specs.declared.elements.Element.{Element}
use Rattle.elements.specs.Elements as elements
use Rattle.parts.specs.Places.{Place, At, numbered, member_at, element_of}
use Rattle.parts.specs.Shown.{Whole, Contents}
use Rattle.parts.proofs.Spans.{Spans, Member}

-- an element is the tree at a place
pub record Part (s : List ℕ) (place : Place) (e : Element) (tree : Tree) : Type 0 where
  pub there : place ≡ At tree e.at
  pub opens : e.contents ≡ e.at + length (header_of tree)
  pub ends : e.end ≡ e.at + length (encoded tree)
  pub tag : e.tag ≡ tag_of tree
  pub contents : elements.contents_of s e ≡ contents_of tree
  pub sound : Sound paper tree
  pub inside : (tag : ℕ) (members : Trees) → tree ≡ node tag members → Spans s e.contents e.end members

module _ {s : List ℕ} {from end : ℕ} {e : Element} {tree : Tree} {rest trees : Trees} (m : Member s from end e tree rest) (split : trees ≡ more tree rest) where
  -- the first of some trees, and those after it
  pub row_here : Part s (numbered trees 0 from) e tree
  unfolding numbered element_of
  row_here =
      let a : e.at ≡ from = ap (λ (x : Element). x.at) m.placed in
      let o : e.contents ≡ from + length (header_of tree) = ap (λ (x : Element). x.contents) m.placed in
      let n : e.end ≡ from + length (encoded tree) = ap (λ (x : Element). x.end) m.placed in
      record {
        there = ap (λ (t : Trees). numbered t 0 from) split ∙ ap (At tree) (sym a);
        opens = omega arith;
        ends = omega arith;
        tag = m.tag;
        contents = m.contents;
        sound = m.sound;
        inside = m.inside;
      }

  pub row-later : (k : ℕ) → numbered trees (suc k) from ≡ numbered rest k e.end
  unfolding numbered element_of
  row-later k =
      let n : e.end ≡ from + length (encoded tree) = ap (λ (x : Element). x.end) m.placed in
      ap (λ (t : Trees). numbered t (suc k) from) split ∙ ap (numbered rest k) (sym n)

module _ {s : List ℕ} {place : Place} {e : Element} {tree : Tree} (p : Part s place e tree) where
  pub part_at : {other : Place} → other ≡ place → Part s other e tree
  part_at same =
      record {
        there = same ∙ p.there;
        opens = p.opens;
        ends = p.ends;
        tag = p.tag;
        contents = p.contents;
        sound = p.sound;
        inside = p.inside;
      }

  pub whole_part : Whole place e.at (e.end - e.at)
  whole_part = record { tree = tree; stands = p.there; long = omega (arith, p.ends) }

  pub contents-length : e.end - e.contents ≡ length (contents_of tree)
  contents-length = omega (arith, p.ends, p.opens, length-parts tree)

  pub contents-part : Contents place e.contents (e.end - e.contents)
  contents-part =
      record {
        tree = tree;
        from = e.at;
        stands = p.there;
        after = p.opens;
        long = contents-length;
      }

  -- the members of a node
  pub members-place : (tag : ℕ) (members : Trees) → tree ≡ node tag members → (k : ℕ) → member_at place k ≡ numbered members k e.contents
  unfolding member_at
  members-place tag members n k =
      let o : e.contents ≡ e.at + length (header_of (node tag members)) = p.opens ∙ ap (λ (t : Tree). e.at + length (header_of t)) n in
      ap (λ (q : Place). member_at q k) (p.there ∙ ap (λ (t : Tree). At t e.at) n) ∙ ap (numbered members k) (sym o)
