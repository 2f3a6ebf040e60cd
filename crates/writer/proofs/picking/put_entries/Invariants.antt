use mathlib.Core.Path.{◌≡◌}
use mathlib.Core.List.{List, ◌++◌}
use Prim.Native.Nat.{ℕ, ◌*◌}
use lib.ListN.{length, take, drop}
use Rattle.image.specs.Items.{packed, index_bytes}
use Rattle.writer.specs.Picking.{picked}
use Rattle.writer.proofs.picking.put_entries.Given as goal

-- the entries of the first items stand there, and the rest as it was
pub record Put (index old out : List ℕ) (at far offset total : ℕ) : Type 0 where
  pub long : at ≡ far
  pub sum : offset ≡ total
  pub put : out ≡ index ++ drop at old

abbrev pub invariant-loop-place : goal.invariant-loop-place
invariant-loop-place l =
    let items = picked l.image (take l.place-index l.places) in
    Put (index_bytes l.version 0 items) l.initial.out l.out l.at (l.wide * l.place-index) l.offset (length (packed items))
