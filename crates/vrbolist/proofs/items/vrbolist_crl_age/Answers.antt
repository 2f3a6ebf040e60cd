-- The answer is taken apart as it is defined to be told.
use Rattle.vrbolist.proofs.items.vrbolist_crl_age.Goals as goal

pub returns : goal.returns
returns c = rw c.age.ensures at c.days_told.ensures
