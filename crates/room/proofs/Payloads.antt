-- What an answer carries, by its parts.
use Rattle.std.specs.Prelude.{ℕ, Result, Ok}
use Rattle.refusal.specs.declared.Refusal.{Refusal}
use Rattle.room.specs.declared.Made.{Made}

abbrev pub room_made : ℕ → ℕ → ℕ → Result Made Refusal
room_made length table_length entries = Ok (record { length = length; table_length = table_length; entries = entries })
