-- An image is read, and what is refused is refused.
use Rattle.std.proofs.lemmas.Result.{err_from_is_err_and}
use Rattle.writer.specs.Writing.{on_written}
use Rattle.writer.specs.Picking.{on_picked, picked_of, picked_out}
use Rattle.writer.proofs.picking.write_places.Goals as goal

pub write_picked-requires : goal.write_picked-requires
write_picked-requires c = rw c.in_ok-read.ensures.ok.0 c.in_ok-read.ensures.ok.1

pub returns-in_err-read : goal.returns-in_err-read
unfolding picked_of on_picked picked_out on_written
returns-in_err-read c =
    let p = err_from_is_err_and c.from_residual.result c.from_residual.ensures.1 in
    record { answer = rw (p.1, p.2, c.in_err-read.ensures.err); output = rw c.in_err-read.ensures.err }

pub returns : goal.returns
returns c = rw (← c.in_ok-read.ensures.ok.0) (record { answer = c.write_picked.ensures.answer; output = c.write_picked.ensures.output })
