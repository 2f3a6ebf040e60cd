use mathlib.Core.Path.{◌≡◌}
use lib.ListN.{length}
use Rattle.chain.proofs.Layers.{Layer}
use Rattle.chain.proofs.near.with_signers.Given as goal

abbrev pub invariant-loop-u : goal.invariant-loop-u
invariant-loop-u l = (length l.more ≡ 96) × Layer l.places l.table l.roles l.near l.more l.v l.u

abbrev pub invariant-loop-v : goal.invariant-loop-v
invariant-loop-v l = (length l.more ≡ 96) × Layer l.places l.table l.roles l.near l.more l.v 0
