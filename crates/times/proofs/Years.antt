-- The year in front: two digits of a UTCTime, four of a GeneralizedTime, and what ten digits after it come to.
use Rattle.std.specs.Prelude.{None}
use Prim.Native.Nat.{ℕ, ◌+◌, ◌*◌, ◌-◌, ◌%◌, ◌<◌, ◌≤◌}
use mathlib.Core.List.{List, [], ◌∷◌}
use mathlib.Core.Path.{◌≡◌, refl, ap, ◌∙◌}
use native.Mathlib.Nat.{zero-add}
use native.Mathlib.Omega.{arith}
use borrow.Author.Tests.{lt-ltb, le-ltb}
use lib.ListN.{length, get_or, take, drop, length-drop}
use lib.Seq.{length-take-le}
use Rattle.times.specs.Pairs.{Digit, Pair, Year}
use Rattle.times.specs.Times.{Figures, Number, Wordy, figures, decimal_of, real_time, real_number, in_century, in_full, time_in}
use Rattle.times.proofs.Pairs.{pair_read, pair-wordy}
use Rattle.times.proofs.Moments.{written}

-- the year takes i octets of a time
pub a-year :
    (tag : ℕ) (c : List ℕ) (i r : ℕ) → length c ≡ 11 + i → r ≤ 9999 → time_in tag c ≡ real_number (figures r (take 10 (drop i c)))
    → Year tag c r
a-year tag c i r h few e =
    let left : length c - 11 ≡ i = omega arith in
    record { few = few; long = omega arith; is = rw left e }

take-two : (c : List ℕ) → 2 ≤ length c → take 12 c ≡ get_or c 0 0 ∷ get_or c 1 0 ∷ take 10 (drop 2 c)
take-two [] h = absurd (omega arith)
take-two (a ∷ []) h = absurd (omega arith)
take-two (a ∷ b ∷ c) h = refl

take-four : (c : List ℕ) → 4 ≤ length c → take 14 c ≡ get_or c 0 0 ∷ get_or c 1 0 ∷ get_or c 2 0 ∷ get_or c 3 0 ∷ take 10 (drop 4 c)
take-four [] h = absurd (omega arith)
take-four (a ∷ []) h = absurd (omega arith)
take-four (a ∷ b ∷ []) h = absurd (omega arith)
take-four (a ∷ b ∷ x ∷ []) h = absurd (omega arith)
take-four (a ∷ b ∷ x ∷ y ∷ c) h = refl

first-pair : (a b : ℕ) (rest : List ℕ) {r : ℕ} → Pair a b r → figures 0 (a ∷ b ∷ rest) ≡ figures r rest
first-pair a b rest p = rw zero-add at (pair_read a b rest 0 p)

module _ (c : List ℕ) (two : 2 ≤ length c) where
  pub short-wordy : (Digit (get_or c 0 0) → Digit (get_or c 1 0) → ⊥) → decimal_of (take 12 c) ≡ Wordy
  unfolding decimal_of
  short-wordy none = rw (take-two c two) (pair-wordy _ _ _ 0 none)

  pub short-read : {year : ℕ} → Pair (get_or c 0 0) (get_or c 1 0) year → decimal_of (take 12 c) ≡ figures year (take 10 (drop 2 c))
  unfolding decimal_of
  short-read told = rw (take-two c two) (first-pair _ _ _ told)

module _ (c : List ℕ) (four : 4 ≤ length c) where
  pub front-wordy : (Digit (get_or c 0 0) → Digit (get_or c 1 0) → ⊥) → decimal_of (take 14 c) ≡ Wordy
  unfolding decimal_of
  front-wordy none = rw (take-four c four) (pair-wordy _ _ _ 0 none)

  module _ {century : ℕ} (told : Pair (get_or c 0 0) (get_or c 1 0) century) where
    pub back-wordy : (Digit (get_or c 2 0) → Digit (get_or c 3 0) → ⊥) → decimal_of (take 14 c) ≡ Wordy
    unfolding decimal_of
    back-wordy none = rw (take-four c four) (first-pair _ _ _ told ∙ pair-wordy _ _ _ _ none)

    pub long-read : {rest : ℕ} → Pair (get_or c 2 0) (get_or c 3 0) rest → decimal_of (take 14 c) ≡ figures (century * 100 + rest) (take 10 (drop 4 c))
    unfolding decimal_of
    long-read also = rw (take-four c four) (first-pair _ _ _ told ∙ pair_read _ _ _ _ also)

pub ten-left : (c : List ℕ) (i : ℕ) → i + 10 ≤ length c → length (take 10 (drop i c)) ≡ 10
ten-left c i h = length-take-le 10 (drop i c) (rw length-drop (omega arith))

-- what ten digits come to after one year and after another
data Both (year other : ℕ) (t : List ℕ) : Type 0 where
  neither : figures year t ≡ Wordy → figures other t ≡ Wordy → Both year other t
  either : (k : ℕ) → k < 10000000000 → figures year t ≡ Number (year * 10000000000 + k) → figures other t ≡ Number (other * 10000000000 + k) → Both year other t

module _ (t : List ℕ) (ten : length t ≡ 10) where
  both : (year other : ℕ) → Both year other t
  both year other = go (figures year t) (figures other t) refl refl
    where
      go : (f g : Figures) → figures year t ≡ f → figures other t ≡ g → Both year other t
      go Wordy Wordy e h = neither e h
      go (Number m) g e h = let w = written year t ten m e in either (m % 10000000000) (omega arith) (w.anew year) (w.anew other)
      go Wordy (Number m) e h = let w = written other t ten m h in let z : ◌≡◌ {A = ℕ} 0 1 = cc (w.anew year) in absurd (omega arith)

  pub in-two-thousands : (year : ℕ) → year < 50 → real_number (figures (2000 + year) t) ≡ in_century (figures year t)
  unfolding real_number in_century
  in-two-thousands year h = go (both year (2000 + year))
    where
      go : Both year (2000 + year) t → real_number (figures (2000 + year) t) ≡ in_century (figures year t)
      go (neither e f) = rw (e, f)
      go (either k few e f) = rw (e, f) (simp (lt-ltb (year * 10000000000 + k) 500000000000 (omega arith)) (ap real_time (omega arith)))

  pub in-nineteen-hundreds : (year : ℕ) → 50 ≤ year → real_number (figures (1900 + year) t) ≡ in_century (figures year t)
  unfolding real_number in_century
  in-nineteen-hundreds year h = go (both year (1900 + year))
    where
      go : Both year (1900 + year) t → real_number (figures (1900 + year) t) ≡ in_century (figures year t)
      go (neither e f) = rw (e, f)
      go (either k few e f) = rw (e, f) (simp (le-ltb (year * 10000000000 + k) 500000000000 (omega arith)) (ap real_time (omega arith)))

  pub too-early : (year : ℕ) → year < 2050 → None ≡ in_full (figures year t)
  unfolding in_full
  too-early year h = go (both year year)
    where
      go : Both year year t → None ≡ in_full (figures year t)
      go (neither e f) = rw e
      go (either k few e f) = rw e (simp (lt-ltb (year * 10000000000 + k) 20500000000000 (omega arith)))

  pub late-enough : (year : ℕ) → 2050 ≤ year → real_number (figures year t) ≡ in_full (figures year t)
  unfolding real_number in_full
  late-enough year h = go (both year year)
    where
      go : Both year year t → real_number (figures year t) ≡ in_full (figures year t)
      go (neither e f) = rw e
      go (either k few e f) = rw e (simp (le-ltb (year * 10000000000 + k) 20500000000000 (omega arith)))
