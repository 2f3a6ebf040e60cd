-- The entries that are left, with what was found of those before them, come to what all of them come to.
use Rattle.std.specs.Prelude.{Option, Some, None}
use Prim.Native.Nat.{ℕ, zero, suc, ◌+◌, ◌-◌, ◌<◌, ◌≤◌}
use mathlib.Core.Bool.{Bool, true, false, cond, not, ◌&&◌, and-true, and_assoc}
use mathlib.Core.List.{List, [], ◌∷◌}
use mathlib.Core.Path.{◌≡◌, ap, sym, ◌∙◌}
use native.Mathlib.Omega.{arith}
use lib.ListN.{length, get_or}
use Rattle.der.specs.Forms.{paper}
use Rattle.elements.specs.declared.elements.Element.{Element}
use Rattle.elements.specs.Elements.{found_at, on_found, members_in, members_of}
use Rattle.times.specs.Times.{time_of}
use Rattle.elements.proofs.Members.{found_within, members-none, members-more}
use Rattle.crl.specs.declared.entries.Survey.{Survey}
use Rattle.crl.specs.declared.entries.Entry.{Entry}
use Rattle.crl.specs.FastEntries.{Usual}
use Rattle.crl.specs.Entries.{entry_of, shaped, is_time, timely, calm, all_shaped, all_timely, all_calm, survey_of}
use Rattle.crl.proofs.Payloads.{a_survey}

-- there are no more members than octets
members-in-few : (fuel : ℕ) (s : List ℕ) (from end : ℕ) → length (members_in paper fuel s from end) ≤ fuel
unfolding members_in on_found
members-in-few zero s from end = omega arith
members-in-few (suc fuel) s from end = go (λ at. members-in-few fuel s at end) (found_at paper s from end)
  where
    go : ((at : ℕ) → length (members_in paper fuel s at end) ≤ fuel) → (f : Option Element) → length (on_found f [] (λ e. e ∷ members_in paper fuel s e.end end)) ≤ suc fuel
    go less None = omega arith
    go less (Some e) = omega (arith, less e.end)

pub members-few : (s : List ℕ) (from end : ℕ) → length (members_of paper s from end) ≤ length s
unfolding members_of
members-few s from end = members-in-few (length s) s from end

-- the survey of the entries that are left, with the number, times and calm of those before them
unfoldable pub survey_with : List ℕ → ℕ → Bool → Bool → List Element → Option Survey
survey_with s count times quiet rest =
    cond (all_shaped paper s rest) (a_survey (count + length rest) (times && all_timely paper s rest) (quiet && all_calm paper s rest)) None

pub survey-starts : (s : List ℕ) (from end : ℕ) → survey_of paper s from end ≡ survey_with s 0 true true (members_of paper s from end)
unfolding survey_of survey_with
survey-starts s from end =
    let none : 0 + length (members_of paper s from end) ≡ length (members_of paper s from end) = omega arith in
    rw none

-- what one entry adds: it has the shape, and its time and calm count
pub record Adds (s : List ℕ) (e : Element) (times quiet times' quiet' : Bool) : Type 0 where
  pub fit : shaped (entry_of paper s e) ≡ true
  pub timed : times' ≡ (times && timely s (entry_of paper s e))
  pub calmed : quiet' ≡ (quiet && calm (entry_of paper s e))

module _ (s : List ℕ) (count : ℕ) (times quiet : Bool) (at end : ℕ) where
  pub survey-done : found_at paper s at end ≡ None → survey_with s count times quiet (members_of paper s at end) ≡ a_survey count times quiet
  unfolding survey_with all_shaped all_timely all_calm
  survey-done h =
      let none : count + length {A = Element} [] ≡ count = omega arith in
      rw (members-none s at end h, none, and-true times, and-true quiet)

  module _ {e : Element} (h : found_at paper s at end ≡ Some e) where
    pub survey-bad : shaped (entry_of paper s e) ≡ false → survey_with s count times quiet (members_of paper s at end) ≡ None
    unfolding survey_with all_shaped
    survey-bad g = rw (members-more s at end h, g)

    pub survey-on : {times' quiet' : Bool} → Adds s e times quiet times' quiet' → survey_with s count times quiet (members_of paper s at end) ≡ survey_with s (count + 1) times' quiet' (members_of paper s e.end end)
    unfolding survey_with all_shaped all_timely all_calm
    survey-on a =
        let more : count + suc (length (members_of paper s e.end end)) ≡ count + 1 + length (members_of paper s e.end end) = omega arith in
        rw (members-more s at end h, a.fit, a.timed, a.calmed, and_assoc times _ _, and_assoc quiet _ _, more)

-- a mark that falls, and one that stays
pub falls : (mark : Bool) {good mark' : Bool} → good ≡ false → mark' ≡ false → mark' ≡ (mark && good)
falls true h g = g ∙ sym h
falls false h g = g

pub stays : (mark : Bool) {good mark' : Bool} → good ≡ true → mark' ≡ mark → mark' ≡ (mark && good)
stays mark h g = rw (g, h, and-true mark)

-- a usual entry adds its time
module _ {s : List ℕ} {at end : ℕ} {time : Element} (u : Usual s at end time) where
  pub usual-within : at + 2 + get_or s (at + 1) 0 ≤ length s
  usual-within = omega (arith, u.ends, found_within s at end u.found)

  pub usual-more : length (members_of paper s at end) ≡ suc (length (members_of paper s (at + 2 + get_or s (at + 1) 0) end))
  usual-more = rw u.ends at (ap length (members-more s at end u.found))

  pub usual-less : end - (at + 2 + get_or s (at + 1) 0) < end - at
  usual-less = omega (arith, u.ends, found_within s at end u.found)

  pub usual-on : (count : ℕ) (times quiet : Bool) {times' : Bool} → times' ≡ (times && is_time (time_of s time))
      → survey_with s count times quiet (members_of paper s at end) ≡ survey_with s (count + 1) times' quiet (members_of paper s (at + 2 + get_or s (at + 1) 0) end)
  usual-on count times quiet {times'} t =
      let adds : Adds s u.entry times quiet times' quiet = record { fit = u.fit; timed = rw u.timed t; calmed = rw (u.calmed, and-true quiet) } in
      rw u.ends at (survey-on s count times quiet at end u.found adds)

-- and so does any other
module _ (s : List ℕ) (at end : ℕ) {e : Element} (h : found_at paper s at end ≡ Some e) where
  pub entry-more : length (members_of paper s at end) ≡ suc (length (members_of paper s e.end end))
  entry-more = ap length (members-more s at end h)

  pub entry-less : end - e.end < end - at
  entry-less = omega (arith, found_within s at end h)

  pub entry-bad : (count : ℕ) (times quiet : Bool) → entry_of paper s e ≡ None → survey_with s count times quiet (members_of paper s at end) ≡ None
  unfolding shaped
  entry-bad count times quiet bad = survey-bad s count times quiet at end h (rw bad)

  pub entry-on : (count : ℕ) (times quiet : Bool) {x : Entry} {time : Bool} → entry_of paper s e ≡ Some x → time ≡ is_time (time_of s x.time)
      → survey_with s count times quiet (members_of paper s at end) ≡ survey_with s (count + 1) (times && time) (quiet && not x.marked) (members_of paper s e.end end)
  unfolding shaped timely calm
  entry-on count times quiet good told = survey-on s count times quiet at end h (record { fit = rw good; timed = rw (good, told); calmed = rw good })
