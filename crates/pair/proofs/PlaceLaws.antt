-- In which of two images a place lies, and how far an entry's offset reaches.
use Prim.Native.Nat.{ℕ, zero, suc, ◌+◌, ◌-◌, ◌^◌, ◌≤◌, ◌<◌}
use mathlib.Core.Path.{◌≡◌, refl}
use mathlib.Core.Bool.{Bool, true, false}
use mathlib.Core.Logic.{◌⊎◌, inl, inr}
use mathlib.Core.List.{List, [], ◌∷◌}
use native.Mathlib.Nat.{pow-le-pow_right}
use native.Mathlib.Omega.{arith}
use borrow.Author.Tests.{lt-ltb, le-ltb, ltb-true, ltb-false}
use lib.Dec.{ltb}
use lib.ListN.{length, get_or, take, drop, length-take}
use lib.Seq.{get_or-drop}
use Rattle.octets.proofs.Weights.{number-below}
use Rattle.image.specs.Index.{field, entry_at, entry_of}
use Rattle.pair.specs.declared.Span.{Span}
use Rattle.pair.specs.Places.{behind, entry_over}

module _ (span : Span) (s u : List ℕ) (place : ℕ) where
  pub entry_first : place < span.own → entry_over span s u place ≡ entry_of span.version s place
  unfolding entry_over
  entry_first inside = simp (lt-ltb _ _ inside)

  pub entry-update :
      span.own ≤ place → entry_over span s u place ≡ behind (length s) (entry_of span.later u (place - span.own))
  unfolding entry_over
  entry-update beyond = simp (le-ltb _ _ beyond)

-- below a number or not
pub below_or_not : (a b : ℕ) → (a < b) ⊎ (b ≤ a)
below_or_not a b = go (ltb a b) refl
  where
    go : (t : Bool) → ltb a b ≡ t → (a < b) ⊎ (b ≤ a)
    go true e = inl (ltb-true a b e)
    go false e = inr (ltb-false a b e)

-- a part of octets is octets
taken : (c : List ℕ) (k i : ℕ) → ((p : ℕ) → get_or c p 0 < 256) → get_or (take k c) i 0 < 256
taken c zero i octets = omega arith
taken [] (suc k) i octets = omega arith
taken (x ∷ xs) (suc k) zero octets = octets 0
taken (x ∷ xs) (suc k) (suc i) octets = taken xs k i (λ p. octets (suc p))

pub offset-below : (version : ℕ) (s : List ℕ) (at : ℕ) → ((p : ℕ) → get_or s p 0 < 256) → (entry_at version s at).offset < 2 ^ 32
unfolding entry_at field
offset-below version s at octets =
    let rest : List ℕ = drop (at + 4) s in
    let part : List ℕ = take 4 rest in
    let few : length part ≤ 4 = omega (arith, length-take 4 rest) in
    let power : 256 ^ length part ≤ 256 ^ 4 = pow-le-pow_right (omega arith) few in
    omega (arith, number-below part (λ i. taken rest 4 i (λ p. rw (get_or-drop (at + 4) s p 0) (octets (at + 4 + p)))))
