-- The fast path tells it, or the time is read.
use mathlib.Core.Path.{sym}
use Rattle.elements.specs.Elements.{contents_of}
use Rattle.times.specs.Times.{time_of}
use Rattle.crl.proofs.stamps.is_full.Goals as goal

pub returns-then-usual_full : goal.returns-then-usual_full
unfolding time_of contents_of
returns-then-usual_full c = sym (c.usual_full.ensures c.if-usual_full.true)
