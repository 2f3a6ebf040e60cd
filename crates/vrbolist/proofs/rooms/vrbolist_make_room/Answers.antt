-- The answer is told, and both outputs are as the making of room leaves them.
use Rattle.vrbolist.proofs.rooms.vrbolist_make_room.Goals as goal

pub returns : goal.returns
returns c =
    let done = c.make_room.ensures in
    record { answer = rw done.answer at c.room_told.ensures; image = done.image; table = done.table }
