-- One turn of the replay: what is left of the faulty numbers falls by the record's own number, if it is faulty, and by nothing else.
use Prim.Native.Nat.{ℕ, suc, ◌+◌, ◌*◌, ◌-◌, ◌/◌, ◌<◌, ◌≤◌}
use mathlib.Core.Bool.{true, false}
use mathlib.Core.Path.{◌≡◌, refl, ap, sym, ◌∙◌}
use mathlib.Core.List.{List, [], ◌∷◌}
use native.Mathlib.Omega.{arith}
use lib.ListN.{length, set, length-set}
use Rattle.tray.specs.Machine.{at_first, good_record, done, stepped, faulty_from}
use Rattle.tray.specs.declared.Entry.{Entry}
use Rattle.tray.specs.declared.State.{State}
use Rattle.tray.specs.Records.{entry_at, entries_from, entries_of}
use Rattle.tray.specs.Listing.{stored}
use Rattle.tray.specs.Answer.{faulty_of}

pub good-next :
    (n : ℕ) (state : State) (entry : Entry) (rest : List Entry) → good_record state entry ≡ true
    → faulty_from n state (entry ∷ rest) ≡ faulty_from (n + 1) (done state entry) rest
unfolding faulty_from stepped
good-next n state entry rest good = simp good

pub faulty-next :
    (n : ℕ) (state : State) (entry : Entry) (rest : List Entry) → good_record state entry ≡ false
    → faulty_from n state (entry ∷ rest) ≡ n ∷ faulty_from (n + 1) state rest
unfolding faulty_from stepped
faulty-next n state entry rest bad = simp bad

entries_next :
    (log : List ℕ) (count next : ℕ) → next < count
    → entries_from (count - next) log (next * 8) ≡ entry_at log (next * 8) ∷ entries_from (count - (next + 1)) log ((next + 1) * 8)
unfolding entries_from
entries_next log count next h =
    let more : count - next ≡ suc (count - (next + 1)) = omega arith in
    let there : next * 8 + 8 ≡ (next + 1) * 8 = omega arith in
    rw more (ap (λ (at : ℕ). entry_at log (next * 8) ∷ entries_from (count - (next + 1)) log at) there)

abbrev pub left : List ℕ → ℕ → ℕ → State → List ℕ
left log count next state = faulty_from next state (entries_from (count - next) log (next * 8))

-- what holds before each record
pub record Turn (log old : List ℕ) (count : ℕ) (state : State) (list : List ℕ) (faulty next : ℕ) : Type 0 where
  pub all : count ≡ length log / 8
  pub inside : next ≤ count
  pub fewer : faulty ≤ next
  pub counted : faulty + length (left log count next state) ≡ length (faulty_of log)
  pub listed : stored faulty list (left log count next state) ≡ stored 0 old (faulty_of log)
  pub same : length list ≡ length old

pub start :
    (log old : List ℕ) → Turn log old (length log / 8) (at_first) old 0 0
unfolding faulty_of entries_of at_first
start log old =
    let none : length log / 8 - 0 ≡ length log / 8 = omega arith in
    let whole : left log (length log / 8) 0 (at_first) ≡ faulty_of log =
    ap (λ (k : ℕ). faulty_from 0 (at_first) (entries_from k log 0)) none in
    record {
      all = refl;
      inside = omega arith;
      fewer = omega arith;
      counted = omega (arith, ap length whole);
      listed = ap (stored 0 old) whole;
      same = refl;
    }

pub end_of :
    {log old : List ℕ} {count : ℕ} {state : State} {list : List ℕ} {faulty next : ℕ}
    → Turn log old count state list faulty next → count ≤ next
    → (faulty ≡ length (faulty_of log)) × (list ≡ stored 0 old (faulty_of log))
unfolding entries_from faulty_from stored
end_of {log} {old} {count} {state} {list} {faulty} {next} t h =
    let none : count - next ≡ 0 = omega arith in
    let gone : left log count next state ≡ [] =
    ap (λ (k : ℕ). faulty_from next state (entries_from k log (next * 8))) none in (
      omega (arith, ap length gone, t.counted),
      ap (stored faulty list) (sym gone) ∙ t.listed,
    )

module _
    {log old : List ℕ} {count : ℕ} {state : State} {list : List ℕ} {faulty next : ℕ} {this : Entry}
    (t : Turn log old count state list faulty next) (h : next < count) (e : this ≡ entry_at log (next * 8)) where
  abbrev rest : List Entry
  rest = entries_from (count - (next + 1)) log ((next + 1) * 8)

  left-now : left log count next state ≡ faulty_from next state (this ∷ rest)
  left-now =
      ap (faulty_from next state) (entries_next log count next h ∙ ap (λ (x : Entry). x ∷ rest) (sym e))

  pub went-well :
      (after : State) → good_record state this ≡ true → done state this ≡ after
      → Turn log old count after list faulty (next + 1)
  went-well after good e =
      let same : left log count next state ≡ left log count (next + 1) after =
      left-now ∙ good-next next state this rest good ∙ ap (λ (s : State). faulty_from (next + 1) s rest) e in
      record {
        all = t.all;
        inside = omega arith;
        fewer = omega (arith, t.fewer);
        counted = rw (← same) t.counted;
        listed = rw (← same) t.listed;
        same = t.same;
      }

  module _ (bad : good_record state this ≡ false) where
    one_less : left log count next state ≡ next ∷ left log count (next + 1) state
    one_less = left-now ∙ faulty-next next state this rest bad

    counts : faulty + 1 + length (left log count (next + 1) state) ≡ length (faulty_of log)
    counts = omega (arith, ap length one_less, t.counted)

    pub went-wrong : Turn log old count state (set list faulty next) (faulty + 1) (next + 1)
    unfolding stored
    went-wrong =
        record {
          all = t.all;
          inside = omega arith;
          fewer = omega (arith, t.fewer);
          counted = counts;
          listed = rw one_less at t.listed;
          same = rw length-set t.same;
        }
