use Prim.Native.Nat.{ℕ}
use mathlib.Core.Path.{◌≡◌}
use mathlib.Core.List.{List, ◌++◌}
use lib.ListN.{length, take, drop}
use Rattle.room.specs.Kept.{cut_lines}
use Rattle.room.proofs.cutting.cut_lines.Given as goal

-- the lines of the first rows stand there, and the rest as it was
pub record Put (done old out : List ℕ) (at : ℕ) : Type 0 where
  pub long : at ≡ length done
  pub put : out ≡ done ++ drop at old

abbrev pub invariant-loop-row : goal.invariant-loop-row
invariant-loop-row l = Put (cut_lines l.n l.table l.columns (take l.row-index l.rows)) l.initial.out l.out l.at
