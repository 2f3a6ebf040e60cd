-- The order of members as the walk asks for it, each of the next in a SET and of none elsewhere, is the order of a sound tree.
use mathlib.Core.Path.{◌≡◌, refl, sym}
use mathlib.Core.Bool.{Bool, true, false, cond, true≢false}
use mathlib.Core.List.{List, []}
use Prim.Native.Nat.{ℕ}
use Rattle.der.specs.Order.{smaller, is_set, handed}
use Rattle.der.proofs.Ascending.{smaller-none}
use Rattle.tree.specs.Tree.{Tree, Trees, none, more, encoded, ascending, ordered}

unfoldable pub rises : Bool → List ℕ → Trees → Bool
rises set prior none = true
rises set prior (more tree trees) = cond (smaller (encoded tree) prior) false (rises set (handed set (encoded tree)) trees)

pub rises-none : (set : Bool) (prior : List ℕ) → rises set prior none ≡ true
unfolding rises
rises-none set prior = refl

module _ (set : Bool) (prior : List ℕ) (tree : Tree) (trees : Trees) where
  pub rises-more : smaller (encoded tree) prior ≡ false → rises set (handed set (encoded tree)) trees ≡ true → rises set prior (more tree trees) ≡ true
  unfolding rises
  rises-more e f = rw (e, f) refl

  pub rises-first : rises set prior (more tree trees) ≡ true → smaller (encoded tree) prior ≡ false
  unfolding rises
  rises-first = go (smaller (encoded tree) prior)
    where
      go : (b : Bool) → cond b false (rises set (handed set (encoded tree)) trees) ≡ true → b ≡ false
      go true e = sym e
      go false e = refl

  pub rises-rest : rises set prior (more tree trees) ≡ true → rises set (handed set (encoded tree)) trees ≡ true
  unfolding rises
  rises-rest = go (smaller (encoded tree) prior)
    where
      go : (b : Bool) → cond b false (rises set (handed set (encoded tree)) trees) ≡ true → rises set (handed set (encoded tree)) trees ≡ true
      go true e = absurd (true≢false (sym e))
      go false e = e

rises-set : (prior : List ℕ) (trees : Trees) → ascending prior trees ≡ rises true prior trees
unfolding rises ascending handed
rises-set prior none = refl
rises-set prior (more tree trees) = rw (rises-set (encoded tree) trees) refl

rises-list : (trees : Trees) → rises false [] trees ≡ true
unfolding rises handed
rises-list none = refl
rises-list (more tree trees) = rw (smaller-none (encoded tree)) (rises-list trees)

pub ordered-rises : (tag : ℕ) (trees : Trees) → ordered tag trees ≡ rises (is_set tag) [] trees
unfolding ordered
ordered-rises tag trees = go (is_set tag)
  where
    go : (set : Bool) → cond set (ascending [] trees) true ≡ rises set [] trees
    go true = rises-set [] trees
    go false = sym (rises-list trees)
