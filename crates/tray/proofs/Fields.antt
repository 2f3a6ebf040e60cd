-- A record's numbers octet by octet: each octet adds itself to 256 times those before it.
use Prim.Native.Nat.{ℕ, suc, ◌+◌, ◌*◌, ◌<◌, ◌≤◌}
use mathlib.Core.Path.{◌≡◌, refl, ap, ◌∙◌}
use mathlib.Core.List.{List}
use native.Mathlib.Omega.{arith}
use lib.ListN.{length, get_or, take, drop, length-drop}
use lib.Seq.{get_or-drop}
use Rattle.octets.specs.Octets.{number}
use Rattle.octets.proofs.Weights.{number-next}

field_next :
    (s : List ℕ) (at k : ℕ) → at + k < length s → number (take (suc k) (drop at s)) ≡ number (take k (drop at s)) * 256 + get_or s (at + k) 0
field_next s at k h =
    let more : k < length (drop at s) = rw length-drop (omega arith) in
    number-next (drop at s) k more ∙ rw (get_or-drop at s k 0)

nothing : (s : List ℕ) (at : ℕ) → number (take 0 (drop at s)) ≡ 0
unfolding number
nothing s at = refl

module _ (s : List ℕ) (at : ℕ) where
  pub field-two : at + 2 ≤ length s → number (take 2 (drop at s)) ≡ get_or s at 0 * 256 + get_or s (at + 1) 0
  field-two h =
      let here : at + 0 ≡ at = omega arith in
      omega (
        arith,
        nothing s at,
        field_next s at 0 (omega arith),
        field_next s at 1 (omega arith),
        ap (λ (i : ℕ). get_or s i 0) here,
      )

  pub field-four :
      at + 4 ≤ length s
      → number (take 4 (drop at s)) ≡ ((get_or s at 0 * 256 + get_or s (at + 1) 0) * 256 + get_or s (at + 2) 0) * 256 + get_or s (at + 3) 0
  field-four h =
      omega (
        arith,
        field-two (omega arith),
        field_next s at 2 (omega arith),
        field_next s at 3 (omega arith),
      )
