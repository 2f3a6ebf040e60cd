-- The answer is taken apart as it is defined to be told.
use mathlib.Core.Path.{refl}
use Rattle.vrbolist.specs.Told.{crl_passed}
use Rattle.vrbolist.proofs.lists.passed.Goals as goal

pub returns : goal.returns
unfolding crl_passed
returns c = refl
