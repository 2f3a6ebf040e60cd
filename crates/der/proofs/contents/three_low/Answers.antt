-- Octets below 80 are sub-identifiers of one octet each.
use Prim.Native.Nat.{ℕ, ◌<◌}
use mathlib.Core.Bool.{true}
use mathlib.Core.List.{List, [], ◌∷◌}
use mathlib.Core.Path.{◌≡◌}
use native.Mathlib.Omega.{arith}
use borrow.Author.Tests.{ne_eqb, lt-ltb, ltb-true}
use lib.ListN.{length, get_or}
use Rattle.der.specs.Contents.{sub_identifiers, oid_good}
use Rattle.der.proofs.contents.three_low.Goals as goal

low : (c : List ℕ) → length c ≡ 3 → get_or c 0 0 < 128 → get_or c 1 0 < 128 → get_or c 2 0 < 128 → oid_good c ≡ true
unfolding oid_good sub_identifiers
low (x ∷ (y ∷ (z ∷ []))) h f g k =
    simp (
      ne_eqb x 128 (λ e. omega arith),
      ne_eqb y 128 (λ e. omega arith),
      ne_eqb z 128 (λ e. omega arith),
      lt-ltb x 128 f,
      lt-ltb y 128 g,
      lt-ltb z 128 k,
    )
low [] h f g k = absurd (omega arith)
low (x ∷ []) h f g k = absurd (omega arith)
low (x ∷ (y ∷ [])) h f g k = absurd (omega arith)
low (x ∷ (y ∷ (z ∷ (w ∷ rest)))) h f g k = absurd (omega arith)

pub returns : goal.returns
returns c = λ e. low _ c.if-c-ne3.false c.if-c-ge128.false c.if-c-ge128-2.false (ltb-true _ _ e)
