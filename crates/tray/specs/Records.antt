-- The records of a log: 8 octets each, action, unit, two octets that are to be zero, and the day.
use Rattle.std.specs.Prelude.{ℕ, cond, eqb, Option, Some, None, zero, suc, ◌+◌, ◌/◌, List, [], ◌∷◌, length, get_or, take, drop}
use Rattle.octets.specs.Octets.{number}
use Rattle.tray.specs.declared.Action.{Action}
use Rattle.tray.specs.declared.Action.TheVariants.{Open, Load, Burn}
use Rattle.tray.specs.declared.Entry.{Entry}

-- an action's number
unfoldable pub action_of : ℕ → Option Action
action_of n = cond (eqb n 1) (Some Open) (cond (eqb n 2) (Some Load) (cond (eqb n 3) (Some Burn) None))

-- the record that starts at an offset
unfoldable pub entry_at : List ℕ → ℕ → Entry
entry_at log at =
    record {
      action = action_of (get_or log at 0);
      unit = get_or log (at + 1) 0;
      padding = number (take 2 (drop (at + 2) log));
      day = number (take 4 (drop (at + 4) log));
    }

-- as many records as asked for, from an offset on
unfoldable pub entries_from : ℕ → List ℕ → ℕ → List Entry
entries_from zero log at = []
entries_from (suc count) log at = entry_at log at ∷ entries_from count log (at + 8)

unfoldable pub entries_of : List ℕ → List Entry
entries_of log = entries_from (length log / 8) log 0
