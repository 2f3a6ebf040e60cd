-- A chain of no places is refused.
use mathlib.Core.Path.{refl}
use Rattle.chain.specs.Answer.{nothing, something}
use Rattle.chain.proofs.shown.Goals as goal

pub returns-then-length-eq0 : goal.returns-then-length-eq0
returns-then-length-eq0 c = nothing c.if-length-eq0.true c.refused.ensures

pub returns : goal.returns
returns c = something c.if-length-eq0.false refl refl refl
