-- The bits of the constant are compared with the definitions one by one.
use Prim.Native.Nat.{ℕ, zero, suc, ◌/◌, ◌%◌, ◌^◌, ◌≤◌, ◌<◌}
use mathlib.Core.Bool.{Bool, true, false, cond, not, ◌&&◌}
use mathlib.Core.List.{List}
use mathlib.Core.Logic.{⊎_elim}
use mathlib.Core.Path.{◌≡◌, refl}
use native.Mathlib.Nat.{eq-or-lt_of_le}
use native.Mathlib.Omega.{arith}
use lib.Dec.{eqb}
use Rattle.der.specs.Heading.{identifier_good, constructed}
use Rattle.der.specs.Contents.{contents_good}
use Rattle.der.specs.Fast.{Unjudged}
use Rattle.der.proofs.Laws.{and_left, and_right, turned}
use Rattle.der.proofs.fast.unjudged.Goals as goal

-- the identifiers whose contents are judged
unfoldable quiet : ℕ → Bool
quiet n = cond (eqb n 1) false (cond (eqb n 2) false (cond (eqb n 3) false (cond (eqb n 5) false (cond (eqb n 6) false true))))

passed : (b x y z : Bool) → cond b false y ≡ true → (y ≡ true → z ≡ true) → cond b x z ≡ true
passed true x y z e f = let w : ◌≡◌ {A = ℕ} 0 1 = cc in absurd (omega arith)
passed false x y z e f = f e

quiet-good : (n : ℕ) (c : List ℕ) → quiet n ≡ true → contents_good n c ≡ true
unfolding quiet contents_good
quiet-good n c e =
    passed (eqb n 1) _ _ _ e λ e. passed (eqb n 2) _ _ _ e λ e. passed (eqb n 3) _ _ _ e λ e. passed (eqb n 5) _ _ _ e λ e. passed (eqb n 6) _ _ _ e λ e. e

-- the bits of the code's constant
abbrev bit : ℕ → Bool
bit n = eqb (2147286928 / 2 ^ n % 2) 1

unfoldable fine : ℕ → Bool
fine n = identifier_good n && (not (constructed n) && quiet n)

abbrev implied : Bool → Bool → Bool
implied true b = b
implied false b = true

abbrev covered : ℕ → Bool
covered zero = true
covered (suc k) = implied (bit k) (fine k) && covered k

implied-is : (a b : Bool) → implied a b ≡ true → a ≡ true → b ≡ true
implied-is true b e h = e
implied-is false b e h = let w : ◌≡◌ {A = ℕ} 0 1 = cc in absurd (omega arith)

below : (k : ℕ) → covered k ≡ true → (n : ℕ) → n < k → bit n ≡ true → fine n ≡ true
below zero e n h g = absurd (omega arith)
below (suc k) e n h g =
    let most : n ≤ k = omega arith in
    ⊎_elim (λ last. rw last (implied-is (bit k) (fine k) (and_left _ (covered k) e) (rw last at g))) (λ before. below k (and_right (implied (bit k) (fine k)) (covered k) e) n before g) (eq-or-lt_of_le most)

all : covered 64 ≡ true
unfolding fine quiet identifier_good constructed
all = refl

tells : (tag : ℕ) → fine tag ≡ true → Unjudged tag
unfolding fine
tells tag e =
    let rest : (not (constructed tag) && quiet tag) ≡ true = and_right (identifier_good tag) _ e in
    record {
      known = and_left (identifier_good tag) _ e;
      primitive = turned (constructed tag) (and_left (not (constructed tag)) (quiet tag) rest);
      unjudged = λ c. quiet-good tag c (and_right (not (constructed tag)) (quiet tag) rest);
    }

pub returns-then-tag-lt64 : goal.returns-then-tag-lt64
returns-then-tag-lt64 c = λ e. tells c.args.tag (below 64 all c.args.tag c.if-tag-lt64.true e)
