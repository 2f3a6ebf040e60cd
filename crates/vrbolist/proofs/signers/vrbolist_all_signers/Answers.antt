-- The answer is taken apart as it is defined to be told.
use Rattle.vrbolist.specs.Signers.{signers_told, forwarded}
use Rattle.vrbolist.proofs.signers.vrbolist_all_signers.Goals as goal

pub returns-in-Ok : goal.returns-in-Ok
unfolding signers_told
returns-in-Ok c =
    forwarded _ c.all_signers.ensures (rw c.in-Ok.is)

pub returns-in-Err : goal.returns-in-Err
unfolding signers_told
returns-in-Err c =
    forwarded _ c.all_signers.ensures (rw (c.in-Err.is, c.number.ensures, c.detail.ensures))
