-- The four octets are stored one after the other.
use native.Mathlib.Omega.{arith}
use lib.ListN.{length-set}
use Rattle.octets.specs.Octets.{big}
use Rattle.writer.proofs.Stores.{set-four, last-octet}
use Rattle.writer.proofs.put_four.Goals as goal

pub bounds-out-1 : goal.bounds-out-1
bounds-out-1 c = simp length-set (omega arith)

pub bounds-out-2 : goal.bounds-out-2
bounds-out-2 c = simp length-set (omega arith)

pub returns : goal.returns
unfolding big
returns c = rw (← last-octet c.args.n) (set-four c.args.out.now _ _ _ _ c.requires)
