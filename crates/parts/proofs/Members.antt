-- Each element that is found is the first tree of what is left of the stretch, so the elements found are the trees, one for one.
use Prim.Native.Nat.{ℕ, suc, ◌+◌}
use mathlib.Core.Path.{◌≡◌, refl, ap, ◌∙◌}
use mathlib.Core.List.{List, ◌∷◌}
use lib.ListN.{length}
use Rattle.der.specs.Forms.{paper}
use Rattle.tree.specs.Tree.{Trees, none, more, encoded}
use Rattle.elements.specs.declared.elements.Element.{Element}
use Rattle.elements.specs.Elements.{members_of}
use Rattle.elements.proofs.Members.{members-none, members-more}
use Rattle.parts.specs.Places.{element_of, elements_of}
use Rattle.parts.specs.Shown.{many}
use Rattle.parts.proofs.Spans.{Spans, found_first, found_none}

-- the elements of a stretch are its trees
pub span-members : (s : List ℕ) (from end : ℕ) (trees : Trees) → Spans s from end trees → members_of paper s from end ≡ elements_of from trees
unfolding elements_of element_of
span-members s from end none sp = members-none s from end (found_none s from end sp)
span-members s from end (more tree trees) sp =
    let x = found_first s from end tree trees sp in
    let rest : members_of paper s x.0.end end ≡ elements_of x.0.end trees = span-members s x.0.end end trees x.2.next in
    let stop : x.0.end ≡ from + length (encoded tree) = ap (λ (e : Element). e.end) x.2.placed in
    members-more s from end x.1 ∙ rest_of x.0 rest x.2.placed stop
  where
    rest_of :
        (e : Element) → members_of paper s e.end end ≡ elements_of e.end trees → e ≡ element_of from tree → e.end ≡ from + length (encoded tree)
        → e ∷ members_of paper s e.end end ≡ element_of from tree ∷ elements_of (from + length (encoded tree)) trees
    rest_of e r p stop = let same : elements_of e.end trees ≡ elements_of (from + length (encoded tree)) trees = ap (λ (n : ℕ). elements_of n trees) stop in cc

-- there are as many of them
pub many-elements : (from : ℕ) (trees : Trees) → length (elements_of from trees) ≡ many trees
unfolding elements_of many
many-elements from none = refl
many-elements from (more tree trees) = ap suc (many-elements (from + length (encoded tree)) trees)
