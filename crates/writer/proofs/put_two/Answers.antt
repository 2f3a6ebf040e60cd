-- The two octets are stored one after the other.
use Rattle.octets.specs.Octets.{big}
use Rattle.writer.proofs.Stores.{set-two, last-octet}
use Rattle.writer.proofs.put_two.Goals as goal

pub returns : goal.returns
unfolding big
returns c = rw (← last-octet c.args.n) (set-two c.args.out.now _ _ c.requires)
