use mathlib.Core.Path.{◌≡◌}
use mathlib.Core.List.{List, ◌++◌}
use Prim.Native.Nat.{ℕ}
use lib.ListN.{length, take, drop}
use Rattle.image.specs.Items.{packed}
use Rattle.writer.specs.Picking.{picked}
use Rattle.writer.proofs.picking.put_items.Given as goal

-- the first items stand there, and the rest as it was
pub record Put (done old out : List ℕ) (at : ℕ) : Type 0 where
  pub long : at ≡ length done
  pub put : out ≡ done ++ drop at old

abbrev pub invariant-loop-place : goal.invariant-loop-place
invariant-loop-place l = Put (packed (picked l.image (take l.place-index l.places))) l.initial.out l.out l.at
