-- The answer is told, and the output is as the writer leaves it.
use Rattle.vrbolist.proofs.images.vrbolist_write.Goals as goal

pub returns : goal.returns
returns c = let done = c.write.ensures in record { answer = rw done.answer at c.write_told.ensures; output = done.output }
