-- The plain machine of the bench: what a tray log does, one record at a time.
use Rattle.std.specs.Prelude.{ℕ, ◌+◌, Bool, false, cond, ◌&&◌, true, not, Option, Some, None, List, [], ◌∷◌, eqb, leb, get_or, set, replicate}
use Rattle.calendar.specs.Days.{real_day}
use Rattle.tray.specs.declared.Action.{Action}
use Rattle.tray.specs.declared.Action.TheVariants.{Open, Load, Burn}
use Rattle.tray.specs.declared.Entry.{Entry}
use Rattle.tray.specs.declared.State.{State}

-- before the first record
unfoldable pub at_first : State
at_first = record { tray = 0; image = 0; marks = replicate 41 false }

-- opening: no unit, a real day, not before that of the last good opening
unfoldable pub opens : State → Entry → Bool
opens state entry = eqb entry.unit 0 && (real_day 1950 2099 entry.day && leb state.tray entry.day)

-- loading: no unit, a real day
unfoldable pub loads : Entry → Bool
loads entry = eqb entry.unit 0 && real_day 1950 2099 entry.day

-- burning: no day; a tray is open, the image's day is the tray's, the unit is 1 to 40 and not yet burnt in this tray
unfoldable pub burns : State → Entry → Bool
burns state entry =
    eqb entry.day 0
    && (leb 1 state.tray
    && (eqb state.image state.tray
    && (leb 1 entry.unit && (leb entry.unit 40 && not (get_or state.marks entry.unit false)))))

unfoldable pub allowed : Option Action → State → Entry → Bool
allowed (Some Open) state entry = opens state entry
allowed (Some Load) state entry = loads entry
allowed (Some Burn) state entry = burns state entry
allowed None state entry = false

-- a record is good where its two zero bytes are zero and its action may be done; another action is faulty
unfoldable pub good_record : State → Entry → Bool
good_record state entry = eqb entry.padding 0 && allowed entry.action state entry

-- what a good record does: opening empties the tray and keeps the image
unfoldable pub after : Option Action → State → Entry → State
after (Some Open) state entry = record { tray = entry.day; image = state.image; marks = replicate 41 false }
after (Some Load) state entry = record { tray = state.tray; image = entry.day; marks = state.marks }
after (Some Burn) state entry = record { tray = state.tray; image = state.image; marks = set state.marks entry.unit true }
after None state entry = state

unfoldable pub done : State → Entry → State
done state entry = after entry.action state entry

-- a faulty record changes nothing
unfoldable pub stepped : State → Entry → State
stepped state entry = cond (good_record state entry) (done state entry) state

-- the state after some records
unfoldable pub replayed : State → List Entry → State
replayed state [] = state
replayed state (entry ∷ rest) = replayed (stepped state entry) rest

-- the numbers of the faulty records, the first record having number `from`
unfoldable pub faulty_from : ℕ → State → List Entry → List ℕ
faulty_from from state [] = []
faulty_from from state (entry ∷ rest) =
    cond (good_record state entry) (faulty_from (from + 1) (stepped state entry) rest)
    (from ∷ faulty_from (from + 1) (stepped state entry) rest)
