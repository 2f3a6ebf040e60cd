use mathlib.Core.Path.{◌≡◌}
use lib.ListN.{length, get_or}
use Rattle.chain.specs.Near.{marked_of}
use Rattle.usable.proofs.Slots.{Upto}
use Rattle.chain.proofs.near.with_links.Given as goal

abbrev pub invariant-loop-place : goal.invariant-loop-place
invariant-loop-place l = (length l.more ≡ 96) × Upto 0 (λ p. marked_of (get_or l.near p 0)) l.more l.place
