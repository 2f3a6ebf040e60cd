-- The answers of a replay, each from its case; numbers that are stored stand at the front, and there are no more of them than records.
use Rattle.std.specs.Prelude.{Ok, Err}
use Prim.Native.Nat.{ℕ, zero, suc, ◌+◌, ◌/◌, ◌%◌, ◌≤◌, ◌<◌}
use mathlib.Core.Path.{◌≡◌, refl, ap, sym, ◌∙◌}
use mathlib.Core.List.{List, [], ◌∷◌, ◌++◌}
use native.Mathlib.Omega.{arith}
use borrow.Author.Tests.{eq-eqb, ne_eqb, le-leb, lt-leb}
use lib.ListN.{length, drop, length-append}
use lib.Seq.{set_at, append_snoc}
use Rattle.refusal.specs.declared.Refusal.TheVariants.{Argument, Short}
use Rattle.calendar.proofs.Days.{by-test}
use Rattle.tray.specs.Machine.{at_first, good_record, done, faulty_from}
use Rattle.tray.specs.declared.Entry.{Entry}
use Rattle.tray.specs.declared.State.{State}
use Rattle.tray.specs.Records.{entries_from, entries_of}
use Rattle.tray.specs.Listing.{stored}
use Rattle.tray.specs.Answer.{faulty_of, replay_of, on_replayed, list_of}
use Rattle.tray.proofs.Turns.{good-next, faulty-next}

stored-behind :
    (front old numbers : List ℕ) → length numbers ≤ length old
    → stored (length front) (front ++ old) numbers ≡ front ++ (numbers ++ drop (length numbers) old)
unfolding stored
stored-behind front old [] h = refl
stored-behind front [] (n ∷ rest) h = absurd (omega arith)
stored-behind front (o ∷ old) (n ∷ rest) h =
    let count : length front + 1 ≡ length (front ++ (n ∷ [])) = rw length-append (omega arith) in
    let less : length rest ≤ length old = omega arith in
    ap (λ (l : List ℕ). stored (length front + 1) l rest)
    (set_at front o old n (length front) refl ∙ sym (append_snoc front n old))
    ∙ ap (λ (k : ℕ). stored k ((front ++ (n ∷ [])) ++ old) rest) count
    ∙ stored-behind (front ++ (n ∷ [])) old rest less
    ∙ append_snoc front n (rest ++ drop (length rest) old)

faulty-few : (n : ℕ) (state : State) (entries : List Entry) → length (faulty_from n state entries) ≤ length entries
unfolding faulty_from
faulty-few n state [] = omega arith
faulty-few n state (entry ∷ rest) =
    by-test (good_record state entry)
    (λ e. omega (arith, ap length (good-next n state entry rest e), faulty-few (n + 1) (done state entry) rest))
    (λ e. omega (arith, ap length (faulty-next n state entry rest e), faulty-few (n + 1) state rest))

entries-count : (count : ℕ) (log : List ℕ) (at : ℕ) → length (entries_from count log at) ≡ count
unfolding entries_from
entries-count zero log at = refl
entries-count (suc count) log at = ap suc (entries-count count log (at + 8))

pub no_more : (log : List ℕ) → length (faulty_of log) ≤ length log / 8
unfolding faulty_of entries_of
no_more log =
    omega (arith, faulty-few 0 at_first (entries_from (length log / 8) log 0), entries-count (length log / 8) log 0)

nothing : (old numbers : List ℕ) → length numbers ≡ 0 → old ≡ stored 0 old numbers
unfolding stored
nothing old [] z = refl
nothing old (n ∷ rest) z = absurd (omega arith)

module _ (log old : List ℕ) where
  pub refused-argument : (length log % 8 ≡ 0 → ⊥) → (Err Argument ≡ replay_of log (length old)) × (old ≡ list_of log old)
  unfolding replay_of list_of on_replayed
  refused-argument n = (simp (ne_eqb _ _ n), simp (ne_eqb _ _ n))

  module _ (whole : length log % 8 ≡ 0) where
    pub refused-short : length old < length (faulty_of log) → (Err Short ≡ replay_of log (length old)) × (old ≡ list_of log old)
    unfolding replay_of list_of on_replayed
    refused-short h = (simp (eq-eqb _ _ whole, lt-leb _ _ h), simp (eq-eqb _ _ whole, lt-leb _ _ h))

    pub all_listed :
        length (faulty_of log) ≤ length old
        → (Ok (length (faulty_of log)) ≡ replay_of log (length old)) × (stored 0 old (faulty_of log) ≡ list_of log old)
    unfolding replay_of list_of on_replayed
    all_listed h =
        (simp (eq-eqb _ _ whole, le-leb _ _ h), simp (eq-eqb _ _ whole, le-leb _ _ h) (stored-behind [] old (faulty_of log) h))

    pub none-listed : length (faulty_of log) ≡ 0 → (Ok 0 ≡ replay_of log (length old)) × (old ≡ list_of log old)
    none-listed e =
        let fits : length (faulty_of log) ≤ length old = omega arith in
        let all = all_listed fits in
        (ap Ok (sym e) ∙ all.0, nothing old (faulty_of log) e ∙ all.1)
