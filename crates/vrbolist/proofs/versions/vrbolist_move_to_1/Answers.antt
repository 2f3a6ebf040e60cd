-- The answer is told, and the output is as the move leaves it.
use Rattle.vrbolist.proofs.versions.vrbolist_move_to_1.Goals as goal

pub returns : goal.returns
returns c = let done = c.move_to_1.ensures in record { answer = rw done.answer at c.write_told.ensures; output = done.output }
