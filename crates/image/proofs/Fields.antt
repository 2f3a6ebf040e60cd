-- A field octet by octet: each octet that is there adds itself to 256 times those before it, and beyond the end there is none.
use Prim.Native.Nat.{ℕ, zero, suc, ◌+◌, ◌*◌, ◌<◌, ◌≤◌}
use mathlib.Core.Path.{◌≡◌, refl, ap, sym, ◌∙◌}
use mathlib.Core.Bool.{Bool, true, false, cond}
use mathlib.Core.List.{List, [], ◌∷◌}
use native.Mathlib.Nat.{add_assoc}
use native.Mathlib.Omega.{arith}
use lib.Dec.{eqb}
use lib.ListN.{length, get_or, drop, length-drop, drop_of_length-le}
use lib.Seq.{get_or-drop, take-nil}
use Rattle.octets.specs.Octets.{number}
use Rattle.octets.proofs.Weights.{number-next}
use Rattle.image.specs.Index.{field, letter_at, entry_at}

pub field_next :
    (s : List ℕ) (at k : ℕ) → at + k < length s → field s at (suc k) ≡ field s at k * 256 + get_or s (at + k) 0
unfolding field
field_next s at k h =
    let more : k < length (drop at s) = rw length-drop (omega arith) in
    number-next (drop at s) k more ∙ rw (get_or-drop at s k 0)

nothing : (s : List ℕ) (at : ℕ) → field s at 0 ≡ 0
unfolding field number
nothing s at = refl

pub field-one : (s : List ℕ) (at : ℕ) → at < length s → field s at 1 ≡ get_or s at 0
field-one s at h =
    let here : at + 0 ≡ at = omega arith in
    omega (arith, nothing s at, field_next s at 0 (omega arith), ap (λ (i : ℕ). get_or s i 0) here)

pub field_past : (s : List ℕ) (at k : ℕ) → length s ≤ at → field s at k ≡ 0
unfolding field number
field_past s at k h = rw (drop_of_length-le s, take-nil)

-- one octet, there or not
octet-field : (s : List ℕ) (at : ℕ) → get_or s at 0 ≡ field s at 1
unfolding field
octet-field [] at = sym (field_past [] at 1 (omega arith))
octet-field (x ∷ s) zero = sym (field-one (x ∷ s) 0 (omega arith))
octet-field (x ∷ s) (suc at) = octet-field s at

-- so the kind is the first octet of an entry
pub entry-kind : (version : ℕ) (s : List ℕ) (at : ℕ) → get_or s at 0 ≡ (entry_at version s at).kind
unfolding entry_at
entry-kind version s at = octet-field s at

pub field-two :
    (s : List ℕ) (at : ℕ) → at + 2 ≤ length s → field s at 2 ≡ get_or s at 0 * 256 + get_or s (at + 1) 0
field-two s at h = omega (arith, field_next s at 1 (omega arith), field-one s at (omega arith))

pub field-four :
    (s : List ℕ) (at : ℕ) → at + 4 ≤ length s → field s at 4 ≡ field s at 2 * 65536 + field s (at + 2) 2
field-four s at h =
    omega (
      arith,
      field_next s at 3 (omega arith),
      field_next s at 2 (omega arith),
      field-two s (at + 2) (omega arith),
      ap (λ (i : ℕ). get_or s i 0) (add_assoc at 2 1),
    )

-- nothing, whether it was asked for or not
none : (b : Bool) {n : ℕ} → n ≡ 0 → 0 ≡ cond b n 0
none true e = sym e
none false e = refl

pub letter-past : (version : ℕ) (s : List ℕ) (at : ℕ) → length s ≤ at → 0 ≡ letter_at version s at
unfolding letter_at
letter-past version s at h = none (eqb version 2) (field_past s at 1 h)

pub entry_past :
    (version : ℕ) (s : List ℕ) (at : ℕ) → length s ≤ at
    → record { kind = 0; flags = 0; length = 0; offset = 0; first = 0; second = 0 } ≡ entry_at version s at
unfolding entry_at
entry_past version s at h =
    rw (
      field_past s at 1 h,
      field_past s (at + 1) 1 (omega arith),
      field_past s (at + 2) 2 (omega arith),
      field_past s (at + 4) 4 (omega arith),
      ← letter-past version s (at + 8) (omega arith),
      ← letter-past version s (at + 9) (omega arith),
    )

-- a field of one octet, there or not, is an octet
octet-small : (s : List ℕ) (at : ℕ) → ((i : ℕ) → get_or s i 0 < 256) → field s at 1 < 256
octet-small s at small = rw (← octet-field s at) (small at)

pub entry-small :
    (version : ℕ) (s : List ℕ) (at : ℕ) → ((i : ℕ) → get_or s i 0 < 256) → ((entry_at version s at).kind < 256) × ((entry_at version s at).flags < 256)
unfolding entry_at
entry-small version s at small = (octet-small s at small, octet-small s (at + 1) small)
