-- Digits read two by two: each pair goes on from the number before it, and what ten digits write after a year falls apart into the year
-- and five pairs again.
use Prim.Native.Nat.{ℕ, suc, ◌+◌, ◌*◌, ◌-◌, ◌<◌, ◌≤◌}
use mathlib.Core.Bool.{Bool, true, false, cond, ◌&&◌}
use mathlib.Core.List.{List, ◌∷◌}
use mathlib.Core.Path.{◌≡◌, refl, ap, sym, ◌∙◌}
use native.Mathlib.Numerals.{add-one}
use native.Mathlib.Omega.{arith}
use borrow.Author.Tests.{le-leb, leb-true}
use lib.Dec.{leb}
use lib.ListN.{length, get_or, drop}
use lib.Seq.{drop-cons}
use Rattle.times.specs.Times.{Figures, Number, Wordy, figures}
use Rattle.times.specs.Pairs.{Digit, Pair}

abbrev value_of : ℕ → ℕ → ℕ
value_of a b = (a - 48) * 10 + (b - 48)

-- the octets from i on, two and the rest
pub drop-two : (c : List ℕ) (i : ℕ) → i + 2 ≤ length c → drop i c ≡ get_or c i 0 ∷ get_or c (i + 1) 0 ∷ drop (i + 2) c
drop-two c i h =
    let more : suc i < length c = omega arith in
    let two : i + 2 ≡ suc (suc i) = omega arith in
    rw (add-one, two, drop-cons c i 0 (omega arith), drop-cons c (suc i) 0 more)

module _ (n : ℕ) (rest : List ℕ) where
  digit-read : (o : ℕ) → Digit o → figures n (o ∷ rest) ≡ figures (n * 10 + (o - 48)) rest
  unfolding figures
  digit-read o d = simp (le-leb _ _ d.low, le-leb _ _ d.high)

  -- what is a number has begun with a digit
  digit-was : (o m : ℕ) → figures n (o ∷ rest) ≡ Number m → Digit o × (figures (n * 10 + (o - 48)) rest ≡ Number m)
  unfolding figures
  digit-was o m e = go (leb 48 o) (leb o 57) refl refl e
    where
      go : (low high : Bool) → leb 48 o ≡ low → leb o 57 ≡ high → cond (low && high) (figures (n * 10 + (o - 48)) rest) Wordy ≡ Number m → Digit o × (figures (n * 10 + (o - 48)) rest ≡ Number m)
      go true true l h f = (record { low = leb-true _ _ l; high = leb-true _ _ h }, f)
      go true false l h f = let z : ◌≡◌ {A = ℕ} 0 1 = cc in absurd (omega arith)
      go false high l h f = let z : ◌≡◌ {A = ℕ} 0 1 = cc in absurd (omega arith)

pub pair-few : {a b r : ℕ} → Pair a b r → r ≤ 99
pair-few p = omega (arith, p.value, p.tens.high, p.ones.high)

-- two digits write one number
pub pair-same : {a b r t : ℕ} → Pair a b r → Pair a b t → r ≡ t
pair-same p q = p.value ∙ sym q.value

module _ (a b : ℕ) (rest : List ℕ) where
  digits-read : (n : ℕ) → Digit a → Digit b → figures n (a ∷ b ∷ rest) ≡ figures (n * 100 + value_of a b) rest
  digits-read n da db =
      let sum : (n * 10 + (a - 48)) * 10 + (b - 48) ≡ n * 100 + value_of a b = omega arith in
      digit-read n (b ∷ rest) a da ∙ digit-read (n * 10 + (a - 48)) rest b db ∙ ap (λ (k : ℕ). figures k rest) sum

  pub pair_read : (n : ℕ) {r : ℕ} → Pair a b r → figures n (a ∷ b ∷ rest) ≡ figures (n * 100 + r) rest
  pair_read n p = rw p.value (digits-read n p.tens p.ones)

  -- the two digits at the front, and how any number goes on by them
  pub record Begins : Type 0 where
    pub read : ℕ
    pub told : Pair a b read
    pub goes_on : (n : ℕ) → figures n (a ∷ b ∷ rest) ≡ figures (n * 100 + read) rest

  -- a number has begun with two digits
  pub pair-was : (n m : ℕ) → figures n (a ∷ b ∷ rest) ≡ Number m → Begins
  pair-was n m e =
      let (da, f) = digit-was n (b ∷ rest) a m e in
      let (db, g) = digit-was (n * 10 + (a - 48)) rest b m f in
      record {
        read = value_of a b;
        told = record { tens = da; ones = db; value = refl };
        goes_on = λ n. digits-read n da db;
      }

  -- other octets write no number
  pub pair-wordy : (n : ℕ) → (Digit a → Digit b → ⊥) → figures n (a ∷ b ∷ rest) ≡ Wordy
  pair-wordy n none = go (figures n (a ∷ b ∷ rest)) refl
    where
      go : (f : Figures) → figures n (a ∷ b ∷ rest) ≡ f → f ≡ Wordy
      go Wordy e = refl
      go (Number m) e = let w = pair-was n m e in absurd (none w.told.tens w.told.ones)
