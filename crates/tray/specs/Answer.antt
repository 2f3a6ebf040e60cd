-- What a replay answers, and the lent list after it.
use Rattle.std.specs.Prelude.{ℕ, ◌%◌, cond, List, ◌++◌, eqb, leb, length, drop, Result, Ok, Err}
use Rattle.refusal.specs.declared.Refusal.TheVariants.{Argument, Short}
use Rattle.refusal.specs.declared.Refusal.{Refusal}
use Rattle.tray.specs.Machine.{at_first, faulty_from}
use Rattle.tray.specs.Records.{entries_of}

-- the numbers of the faulty records of a log, ascending
unfoldable pub faulty_of : List ℕ → List ℕ
faulty_of log = faulty_from 0 at_first (entries_of log)

-- 1 for a log not of whole records, then 9 for a list without room for the numbers
unfoldable pub replay_of : List ℕ → ℕ → Result ℕ Refusal
replay_of log room =
    cond (eqb (length log % 8) 0)
    (cond (leb (length (faulty_of log)) room) (Ok (length (faulty_of log))) (Err Short))
    (Err Argument)

-- the list after the call: the numbers and what stood behind them; as it was on a refusal
unfoldable pub on_replayed : Result ℕ Refusal → List ℕ → List ℕ → List ℕ
on_replayed (Err refusal) numbers old = old
on_replayed (Ok count) numbers old = numbers ++ drop count old

unfoldable pub list_of : List ℕ → List ℕ → List ℕ
list_of log old = on_replayed (replay_of log (length old)) (faulty_of log) old
