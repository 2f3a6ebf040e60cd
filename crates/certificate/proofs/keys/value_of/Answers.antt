-- The value is what the definition makes of the offsets.
use mathlib.Core.Path.{refl}
use Rattle.certificate.specs.Values.{value_of}
use Rattle.certificate.proofs.keys.value_of.Goals as goal

pub returns : goal.returns
unfolding value_of
returns c = refl
