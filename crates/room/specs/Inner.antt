-- What is told where some places of an image are written with the table cut to them. No public promise cites this.
use Rattle.std.specs.Prelude.{ℕ, ◌*◌, cond, List, leb, length, Result, Ok, Err}
use Rattle.refusal.specs.declared.Refusal.TheVariants.{Short}
use Rattle.refusal.specs.declared.Refusal.{Refusal}
use Rattle.writer.specs.Picking.{picked_of}
use Rattle.room.specs.declared.Made.{Made}

unfoldable pub on_put : ℕ → Result ℕ Refusal → Result Made Refusal
on_put count (Err refusal) = Err refusal
on_put count (Ok size) = Ok (record { length = size; table_length = (count * count); entries = count })

unfoldable pub put_of : List ℕ → List ℕ → ℕ → ℕ → Result Made Refusal
put_of s places room more =
    cond (leb (length places * length places) more) (on_put (length places) (picked_of s places room)) (Err Short)
