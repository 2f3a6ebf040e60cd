-- What the machine promises, from its definitions alone.
use Prim.Native.Nat.{ℕ, zero, suc, ◌+◌, ◌≤◌, ◌<◌}
use Rattle.std.specs.Prelude.{Option, Some, None}
use mathlib.Core.Bool.{Bool, true, false, true≢false}
use mathlib.Core.Path.{◌≡◌, refl, ap, sym, ◌∙◌}
use mathlib.Core.List.{List, [], ◌∷◌, ◌++◌}
use native.Mathlib.Omega.{arith}
use lib.ListN.{length, get_or, set, length-set}
use Rattle.calendar.proofs.Days.{by-test}
use Rattle.tray.specs.Machine.{at_first, good_record, after, done, stepped, replayed, faulty_from}
use Rattle.tray.specs.declared.Action.{Action}
use Rattle.tray.specs.declared.Action.TheVariants.{Open, Load, Burn}
use Rattle.tray.specs.declared.Entry.{Entry}
use Rattle.tray.specs.declared.State.{State}
use Rattle.tray.proofs.Told.{good-opening, good-burn}

-- a faulty record changes nothing
pub faulty-keeps : (state : State) (entry : Entry) → good_record state entry ≡ false → stepped state entry ≡ state
unfolding stepped
faulty-keeps state entry bad = rw bad

stepped-good : (state : State) (entry : Entry) → good_record state entry ≡ true → stepped state entry ≡ done state entry
unfolding stepped
stepped-good state entry good = rw good

-- every good burn is of an image whose day is the tray's, and a tray is open
pub burn-of-the-day :
    (state : State) (entry : Entry) → good_record state entry ≡ true → entry.action ≡ Some Burn
    → (state.image ≡ state.tray) × (1 ≤ state.tray)
burn-of-the-day state entry good e =
    let b = good-burn state entry good e in
    (b.days, b.opened)

-- days of good openings never go back: the tray's day never falls, whatever the records, and a good opening is not before it
day-after : (a : Option Action) (state : State) (entry : Entry) → entry.action ≡ a → good_record state entry ≡ true
    → state.tray ≤ (after a state entry).tray
unfolding after
day-after (Some Open) state entry e good = (good-opening state entry good e).later
day-after (Some Load) state entry e good = omega arith
day-after (Some Burn) state entry e good = omega arith
day-after None state entry e good = omega arith

day-once : (state : State) (entry : Entry) → state.tray ≤ (stepped state entry).tray
unfolding done
day-once state entry =
    by-test (good_record state entry)
    (λ good. rw (stepped-good state entry good) (day-after entry.action state entry refl good))
    (λ bad. rw (faulty-keeps state entry bad) (omega arith))

pub days-forward : (state : State) (log : List Entry) → state.tray ≤ (replayed state log).tray
unfolding replayed
days-forward state [] = omega arith
days-forward state (entry ∷ rest) = omega (arith, day-once state entry, days-forward (stepped state entry) rest)

day-opened : (state : State) (entry : Entry) → entry.action ≡ Some Open → (done state entry).tray ≡ entry.day
unfolding done after
day-opened state entry e = rw e

pub opening-forward :
    (state : State) (first : Entry) (log : List Entry) (second : Entry)
    → good_record state first ≡ true → first.action ≡ Some Open
    → good_record (replayed (stepped state first) log) second ≡ true → second.action ≡ Some Open
    → first.day ≤ second.day
opening-forward state first log second good e good₂ e₂ =
    omega (
      arith,
      ap (λ (s : State). s.tray) (stepped-good state first good),
      day-opened state first e,
      days-forward (stepped state first) log,
      (good-opening (replayed (stepped state first) log) second good₂ e₂).later,
    )

-- a log cut in two replays as the whole, from the state in between
pub cut-state : (state : State) (a b : List Entry) → replayed state (a ++ b) ≡ replayed (replayed state a) b
unfolding replayed
cut-state state [] b = refl
cut-state state (entry ∷ a) b = cut-state (stepped state entry) a b

pub cut-faulty :
    (n : ℕ) (state : State) (a b : List Entry)
    → faulty_from n state (a ++ b) ≡ faulty_from n state a ++ faulty_from (n + length a) (replayed state a) b
unfolding replayed faulty_from
cut-faulty n state [] b = let same : n ≡ n + 0 = omega arith in ap (λ (k : ℕ). faulty_from k state b) same
cut-faulty n state (entry ∷ a) b =
    let later : n + 1 + length a ≡ n + suc (length a) = omega arith in
    let rest : faulty_from (n + 1) (stepped state entry) (a ++ b)
    ≡ faulty_from (n + 1) (stepped state entry) a ++ faulty_from (n + suc (length a)) (replayed (stepped state entry) a) b =
    cut-faulty (n + 1) (stepped state entry) a b
    ∙ ap (λ (k : ℕ). faulty_from (n + 1) (stepped state entry) a ++ faulty_from k (replayed (stepped state entry) a) b) later in
    by-test (good_record state entry) (λ good. simp good rest) (λ bad. simp bad (ap (◌∷◌ n) rest))

-- a mark stays whatever is marked, and the unit that is marked has one
mark-kept : (marks : List Bool) (v u : ℕ) → get_or marks u false ≡ true → get_or (set marks v true) u false ≡ true
mark-kept [] v u h = h
mark-kept (x ∷ l) zero zero h = refl
mark-kept (x ∷ l) zero (suc u) h = h
mark-kept (x ∷ l) (suc v) zero h = h
mark-kept (x ∷ l) (suc v) (suc u) h = mark-kept l v u h

mark-new : (marks : List Bool) (u : ℕ) → u < length marks → get_or (set marks u true) u false ≡ true
mark-new [] u h = absurd (omega arith)
mark-new (x ∷ l) zero h = refl
mark-new (x ∷ l) (suc u) h = mark-new l u (omega arith)

-- each state of a replay has 41 marks
marks-after : (a : Option Action) (state : State) (entry : Entry) → length state.marks ≡ 41 → length (after a state entry).marks ≡ 41
unfolding after
marks-after (Some Open) state entry h = refl
marks-after (Some Load) state entry h = h
marks-after (Some Burn) state entry h = rw length-set h
marks-after None state entry h = h

marks-once : (state : State) (entry : Entry) → length state.marks ≡ 41 → length (stepped state entry).marks ≡ 41
unfolding done
marks-once state entry h =
    by-test (good_record state entry)
    (λ good. rw (stepped-good state entry good) (marks-after entry.action state entry h))
    (λ bad. rw (faulty-keeps state entry bad) h)

marks-all : (state : State) (log : List Entry) → length state.marks ≡ 41 → length (replayed state log).marks ≡ 41
unfolding replayed
marks-all state [] h = h
marks-all state (entry ∷ rest) h = marks-all (stepped state entry) rest (marks-once state entry h)

-- no record of these is a good opening
pub data NoOpening : State → List Entry → Type 0 where
  no_record : {state : State} → NoOpening state []
  no-opening :
      {state : State} {entry : Entry} {rest : List Entry} → (good_record state entry ≡ true → entry.action ≡ Some Open → ⊥)
      → NoOpening (stepped state entry) rest → NoOpening state (entry ∷ rest)

stays-after : (a : Option Action) (state : State) (entry : Entry) (u : ℕ) → (a ≡ Some Open → ⊥)
    → get_or state.marks u false ≡ true → get_or (after a state entry).marks u false ≡ true
unfolding after
stays-after (Some Open) state entry u n h = absurd (n refl)
stays-after (Some Load) state entry u n h = h
stays-after (Some Burn) state entry u n h = mark-kept state.marks entry.unit u h
stays-after None state entry u n h = h

stays-marked :
    (state : State) (log : List Entry) (u : ℕ) → NoOpening state log → get_or state.marks u false ≡ true
    → get_or (replayed state log).marks u false ≡ true
unfolding replayed done
stays-marked state [] u no_record h = h
stays-marked state (entry ∷ rest) u (no-opening n more) h =
    stays-marked (stepped state entry) rest u more
    (by-test (good_record state entry)
    (λ good. rw (stepped-good state entry good) (stays-after entry.action state entry u (n good) h))
    (λ bad. rw (faulty-keeps state entry bad) h))

-- a unit is burnt at most once a tray: after a good burn of it any burn of it is faulty, until a good opening
pub burnt-once :
    (before : List Entry) (first : Entry) (log : List Entry) (again : Entry)
    → good_record (replayed at_first before) first ≡ true → first.action ≡ Some Burn
    → NoOpening (stepped (replayed at_first before) first) log
    → again.action ≡ Some Burn → again.unit ≡ first.unit
    → good_record (replayed (stepped (replayed at_first before) first) log) again ≡ false
unfolding at_first done after
burnt-once before first log again good burn none burn₂ same =
    let state = replayed at_first before in
    let burnt = good-burn state first good burn in
    let marked : get_or (stepped state first).marks first.unit false ≡ true =
    rw (stepped-good state first good, burn)
    (mark-new state.marks first.unit (omega (arith, burnt.high, marks-all at_first before refl))) in
    let later = replayed (stepped state first) log in
    let stays : get_or later.marks first.unit false ≡ true = stays-marked (stepped state first) log first.unit none marked in
    by-test (good_record later again)
    (λ good₂.
    let twice = good-burn later again good₂ burn₂ in
    absurd (true≢false (sym stays ∙ ap (λ (u : ℕ). get_or later.marks u false) (sym same) ∙ twice.new)))
    (λ bad. bad)
