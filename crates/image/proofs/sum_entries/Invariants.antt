use Prim.Native.Nat.{ℕ, ◌+◌, ◌*◌, ◌-◌, ◌≤◌}
use mathlib.Core.Path.{◌≡◌}
use mathlib.Core.List.{List}
use lib.ListN.{length}
use Rattle.image.specs.Index.{width}
use Rattle.image.specs.Rules.{sum_of}
use Rattle.image.proofs.sum_entries.Given as goal

-- so many entries are left between an octet and the end of the index
pub record Left (version : ℕ) (image : List ℕ) (start entries end sum at : ℕ) : Type 0 where
  pub left : ℕ
  pub few : left ≤ entries
  pub ends : at + width version * left ≡ end
  pub inside : end ≤ length image
  pub small : sum ≤ 65535 * (entries - left)
  pub same : sum_of version image start entries 0 ≡ sum_of version image at left sum

abbrev pub invariant-loop-at : goal.invariant-loop-at
invariant-loop-at l = Left l.version l.image l.start l.entries l.end l.sum l.at

abbrev pub decreases-loop-at : goal.decreases-loop-at
decreases-loop-at l = l.end - l.at
