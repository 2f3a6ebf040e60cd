-- The answer is taken apart as it is defined to be told.
use mathlib.Core.Path.{refl}
use Rattle.vrbolist.specs.Told.{certificate_passed}
use Rattle.vrbolist.proofs.certificates.passed.Goals as goal

pub returns : goal.returns
unfolding certificate_passed
returns c = refl
