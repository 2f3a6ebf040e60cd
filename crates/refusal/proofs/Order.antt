-- The first rule broken is told by going past those that hold.
use Prim.Native.Nat.{ℕ, zero, suc, ◌+◌, ◌-◌, ◌≤◌, ◌<◌}
use mathlib.Core.Bool.{Bool, true, false, true≢false, false≢true}
use mathlib.Core.List.{List, [], ◌∷◌, ◌++◌}
use mathlib.Core.Logic.{⊎_elim}
use mathlib.Core.Path.{◌≡◌, refl, sym}
use native.Mathlib.Nat.{eq-or-lt_of_le}
use native.Mathlib.Omega.{arith}
use lib.ListN.{length, get_or}
use Rattle.refusal.specs.Rules.{first_broken, Smallest}

module _ (rule : ℕ) (rest : List Bool) {holds : Bool} where
  pub broken-here : holds ≡ false → first_broken rule (holds ∷ rest) ≡ rule
  unfolding first_broken
  broken-here h = rw h

  pub broken-later : holds ≡ true → first_broken rule (holds ∷ rest) ≡ first_broken (suc rule) rest
  unfolding first_broken
  broken-later h = rw h

pub none-broken : (rule : ℕ) → first_broken rule [] ≡ 0
unfolding first_broken
none-broken rule = refl

-- one of the first rules is broken
pub broken-first : (rule : ℕ) (xs ys : List Bool) → (first_broken rule xs ≡ 0 → ⊥) → first_broken rule (xs ++ ys) ≡ first_broken rule xs
unfolding first_broken
broken-first rule [] ys h = absurd (h refl)
broken-first rule (true ∷ xs) ys h = broken-first (suc rule) xs ys h
broken-first rule (false ∷ xs) ys h = refl

-- none of them is
pub broken-second : (rule : ℕ) (xs ys : List Bool) → 0 < rule → first_broken rule xs ≡ 0 → first_broken rule (xs ++ ys) ≡ first_broken (rule + length xs) ys
unfolding first_broken
broken-second rule [] ys g h = let same : rule + 0 ≡ rule = omega arith in rw same
broken-second rule (true ∷ xs) ys g h = let same : rule + suc (length xs) ≡ suc rule + length xs = omega arith in rw same (broken-second (suc rule) xs ys (omega arith) h)
broken-second rule (false ∷ xs) ys g h = absurd (omega arith)

-- where none is broken, each holds
pub all_hold : (rule : ℕ) (xs : List Bool) → 0 < rule → first_broken rule xs ≡ 0 → (i : ℕ) → get_or xs i true ≡ true
unfolding first_broken
all_hold rule [] g h i = refl
all_hold rule (true ∷ xs) g h zero = refl
all_hold rule (true ∷ xs) g h (suc i) = all_hold (suc rule) xs (omega arith) h i
all_hold rule (false ∷ xs) g h i = absurd (omega arith)

-- the rules after the first, and the first
earlier : (first : ℕ) (xs : List Bool) {k : ℕ} → ((j : ℕ) → suc first ≤ j → j < k → get_or xs (j - suc first) true ≡ true) → (j : ℕ) → first ≤ j → j < k → get_or (true ∷ xs) (j - first) true ≡ true
earlier first xs rest j low high =
    ⊎_elim
    (λ (e : first ≡ j). let here : j - first ≡ 0 = omega arith in rw here)
    (λ (l : first < j). let there : j - first ≡ suc (j - suc first) = omega arith in rw there (rest j l high))
    (eq-or-lt_of_le low)

-- the one that is told is broken, and each smaller one holds
pub told-smallest : (first : ℕ) (xs : List Bool) {k : ℕ} → first_broken first xs ≡ k → (k ≡ 0 → ⊥) → Smallest first xs k
unfolding first_broken
told-smallest first [] h g = absurd (g (sym h))
told-smallest first (false ∷ xs) {k} h g =
    let here : k - first ≡ 0 = omega arith in
    record { numbered = omega arith; listed = omega arith; broken = rw here; smaller = λ j low high. absurd (omega arith) }
told-smallest first (true ∷ xs) {k} h g =
    let rest : Smallest (suc first) xs k = told-smallest (suc first) xs h g in
    let there : k - first ≡ suc (k - suc first) = omega (arith, rest.numbered) in
    record { numbered = omega (arith, rest.numbered); listed = omega (arith, rest.listed); broken = rw there rest.broken; smaller = earlier first xs rest.smaller }

-- and the smallest that is broken is the one that is told
pub smallest-told : (first : ℕ) (xs : List Bool) {k : ℕ} → Smallest first xs k → first_broken first xs ≡ k
unfolding first_broken
smallest-told first [] least = absurd (omega (arith, least.numbered, least.listed))
smallest-told first (false ∷ xs) {k} least =
    ⊎_elim
    (λ (e : first ≡ k). e)
    (λ (l : first < k). let here : first - first ≡ 0 = omega arith in absurd (false≢true (rw here at (least.smaller first (omega arith) l))))
    (eq-or-lt_of_le least.numbered)
smallest-told first (true ∷ xs) {k} least =
    ⊎_elim
    (λ (e : first ≡ k). let here : k - first ≡ 0 = omega arith in absurd (true≢false (rw here at least.broken)))
    (λ (l : first < k).
    let there : k - first ≡ suc (k - suc first) = omega arith in
    smallest-told (suc first) xs
    record {
      numbered = l;
      listed = omega (arith, least.listed);
      broken = rw there at least.broken;
      smaller = λ j low high. let past : j - first ≡ suc (j - suc first) = omega arith in rw past at (least.smaller j (omega arith) high);
    })
    (eq-or-lt_of_le least.numbered)
