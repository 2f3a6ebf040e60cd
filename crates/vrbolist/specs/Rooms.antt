-- What the C interface tells of room that is made: the lengths of both outputs and how many items stay.
use Rattle.std.specs.Prelude.{Result, Ok, Err}
use Rattle.refusal.specs.declared.Refusal.{Refusal}
use Rattle.refusal.specs.Numbers.{number_of, detail_of}
use Rattle.room.specs.declared.Made.{Made}
use Rattle.vrbolist.specs.declared.rooms.RoomAnswer.{RoomAnswer}

unfoldable pub room_told : Result Made Refusal → RoomAnswer
room_told (Ok m) =
    record { number = 0; detail = 0; length = m.length; table_length = m.table_length; entries = m.entries }
room_told (Err why) =
    record { number = number_of why; detail = detail_of why; length = 0; table_length = 0; entries = 0 }
