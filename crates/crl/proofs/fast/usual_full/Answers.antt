-- A year from 2050 on, and what stands after its century as in a UTCTime.
use Rattle.crl.proofs.Digits.{never, full-time}
use Rattle.crl.proofs.fast.usual_full.Goals as goal

pub returns-then-not-later : goal.returns-then-not-later
returns-then-not-later c = λ no. never no

pub returns : goal.returns
returns c = λ some.
    full-time c.args.c.now c.requires (c.later.ensures c.if-not-later.false)
    (c.usual_utc.ensures some)
