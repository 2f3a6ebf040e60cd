-- Where a member of a tree stands: how many octets are encoded before it in that tree.
use Rattle.std.specs.Prelude.{ℕ, zero, suc, ◌+◌, List, [], ◌∷◌, length}
use Rattle.tree.specs.Tree.{Tree, leaf, node, Trees, none, more, encoded, tag_of, header_of}
use Rattle.elements.specs.declared.elements.Element.{Element}

-- a tree and the offset of its first octet, or none
pub data Place : Type 0 where
  At : Tree → ℕ → Place
  Nowhere : Place

-- the k-th, counted from 0, of trees that stand one after the other from an offset on
unfoldable pub numbered : Trees → ℕ → ℕ → Place
numbered none k from = Nowhere
numbered (more tree trees) zero from = At tree from
numbered (more tree trees) (suc k) from = numbered trees k (from + length (encoded tree))

-- the k-th member of the tree at a place: the members of a node stand after its header
unfoldable pub member_at : Place → ℕ → Place
member_at Nowhere k = Nowhere
member_at (At (leaf tag c) at) k = Nowhere
member_at (At (node tag members) at) k = numbered members k (at + length (header_of (node tag members)))

-- where a path leads from a place: it has the number of the member to go to in each tree on the way
unfoldable pub along : Place → List ℕ → Place
along place [] = place
along place (k ∷ path) = along (member_at place k) path

-- where a path leads in the tree of an item
unfoldable pub place_in : Tree → List ℕ → Place
place_in tree path = along (At tree 0) path

-- the element of a tree that stands at an offset: its tag, and where it, its contents and what follows it start
unfoldable pub element_of : ℕ → Tree → Element
element_of at tree =
    record { tag = tag_of tree; at = at; contents = at + length (header_of tree); end = at + length (encoded tree) }

-- the elements of trees that stand one after the other from an offset on
unfoldable pub elements_of : ℕ → Trees → List Element
elements_of from none = []
elements_of from (more tree trees) = element_of from tree ∷ elements_of (from + length (encoded tree)) trees
