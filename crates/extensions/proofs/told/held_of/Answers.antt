-- The parts of an extension that is there, or none.
use Rattle.extensions.specs.Extensions.{held_of}
use Rattle.extensions.proofs.told.held_of.Goals as goal

pub returns-in_err-own : goal.returns-in_err-own
unfolding held_of
returns-in_err-own c = rw c.in_err-own.was c.from_residual.ensures

pub returns : goal.returns
unfolding held_of
returns c = rw c.in_ok-own.was
