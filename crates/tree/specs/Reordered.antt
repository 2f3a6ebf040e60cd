-- Two trees that differ only in the order of one SET's members.
use Rattle.std.specs.Prelude.{ℕ}
use Rattle.tree.specs.Tree.{Tree, Trees, node, none, more}

-- trees, and the same with one more among them
pub data Inserted (tree : Tree) : Trees → Trees → Type 0 where
  here : {trees : Trees} → Inserted tree trees (more tree trees)
  there : {other : Tree} {a b : Trees} → Inserted tree a b → Inserted tree (more other a) (more other b)

-- the same trees in another order
pub data Permuted : Trees → Trees → Type 0 where
  nothing : Permuted none none
  placed : {tree : Tree} {a b c : Trees} → Permuted a b → Inserted tree b c → Permuted (more tree a) c

mutual
  pub data Reordered : Tree → Tree → Type 0 where
    -- the members of this SET
    members : {a b : Trees} → Permuted a b → Reordered (node 49 a) (node 49 b)
    -- of one further in
    inside : {tag : ℕ} {a b : Trees} → ReorderedIn a b → Reordered (node tag a) (node tag b)

  pub data ReorderedIn : Trees → Trees → Type 0 where
    first : {a b : Tree} {trees : Trees} → Reordered a b → ReorderedIn (more a trees) (more b trees)
    later : {tree : Tree} {a b : Trees} → ReorderedIn a b → ReorderedIn (more tree a) (more tree b)
