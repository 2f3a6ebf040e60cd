-- A proposed chain, and what is answered: it is accepted exactly when it is a good chain to the signer asked for.
use Rattle.std.specs.Prelude.{ℕ, ◌≡◌, Bool, true, false, ◌&&◌, List, [], ◌∷◌, leb, ltb, length, Result, Ok, Err}
use Rattle.refusal.specs.declared.Refusal.{Refusal}
use Rattle.refusal.specs.declared.Refusal.TheVariants as refusal
use Rattle.graph.specs.Chains.{Chain}
use Rattle.chain.specs.Answer.{asked_of, good_chains}

-- each place is in the image
unfoldable pub inside : ℕ → List ℕ → Bool
inside n [] = true
inside n (place ∷ rest) = ltb place n && inside n rest

-- the proposal's own range: 2 to 96 places, all in the image
unfoldable pub range_good : ℕ → List ℕ → Bool
range_good n places = leb 2 (length places) && (leb (length places) 96 && inside n places)

-- question order: that of a chain (5, 1), then the proposal's own range (1), then 7
pub data Proposed (s table : List ℕ) (moment target : ℕ) (places : List ℕ) (r : Result (Unit {0}) Refusal) : Type 0 where
  -- the question is refused
  refused :
      (why : Refusal) → asked_of s table moment target ≡ Err why → r ≡ Err why
      → Proposed s table moment target places r
  -- 1: not 2 to 96 places, or one that is not in the image
  outside :
      {n version : ℕ} → asked_of s table moment target ≡ Ok (record { places = n; version = version }) → range_good n places ≡ false → r ≡ Err refusal.Argument
      → Proposed s table moment target places r
  -- a good chain to the signer asked for
  accepted :
      {n version : ℕ} → asked_of s table moment target ≡ Ok (record { places = n; version = version }) → range_good n places ≡ true
      → Chain (good_chains s table moment) target places → r ≡ Ok tt → Proposed s table moment target places r
  -- 7: it is none
  unfounded :
      {n version : ℕ} → asked_of s table moment target ≡ Ok (record { places = n; version = version }) → range_good n places ≡ true
      → (Chain (good_chains s table moment) target places → ⊥) → r ≡ Err refusal.Chain
      → Proposed s table moment target places r
