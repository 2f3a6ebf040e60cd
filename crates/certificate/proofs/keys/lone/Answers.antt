-- The two forms of the fast path pass the walk.
use native.Mathlib.Omega.{arith}
use Rattle.elements.proofs.Shorts.{short-within}
use Rattle.certificate.proofs.Lone.{lone-octets, lone-sequence}
use Rattle.certificate.proofs.keys.lone.Goals as goal

pub returns-then-fills : goal.returns-then-fills
returns-then-fills c = λ yes. lone-octets _ _ (c.fills.ensures.whole c.if-fills.true)

pub overflow_add-at : goal.overflow_add-at
overflow_add-at c = omega (arith, short-within _ _ _ _ (c.fills-2.ensures.whole c.if-not-fills.false))

pub returns : goal.returns
returns c = λ yes. lone-sequence _ _ (c.fills-2.ensures.whole c.if-not-fills.false) (c.fills-3.ensures.whole yes)
