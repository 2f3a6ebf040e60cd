-- Laws of the signed difference of two numbers: it is the distance, negative when the first is the smaller.
use mathlib.Core.Path.{◌≡◌, sym, ◌∙◌, ap}
use Prim.Native.Nat.{ℕ, zero, suc, ◌+◌, ◌-◌, ◌<◌, ◌≤◌, ◌^◌}
use native.Mathlib.Omega.{arith}
use lib.Dec.{ltb}
use lib.IntN.{ℤ, pos, negsuc, neg_ℤ, ◌+ℤ◌, ◌-ℤ◌, +ℤ_assoc, +ℤ_comm, +ℤ_invl, +ℤ_idl, neg_ℤ-+ℤ, neg_ℤ-neg_ℤ}
use borrow.Author.Tests.{ltb-true, ltb-false, lt-ltb, le-ltb}
use mir.Syntax.{w64}
use mir.Val.{SFits, to_z}
use mir.ValLaws.{to_z_pos}
use Rattle.calendar.proofs.Days.{by-test}

pub less : (a b : ℕ) → a < b → pos a -ℤ pos b ≡ negsuc (b - suc a)
less a zero h = absurd (omega arith)
less a (suc b) h = simp (lt-ltb a (suc b) h)

pub more : (a b : ℕ) → b ≤ a → pos a -ℤ pos b ≡ pos (a - b)
more a zero h = ap pos (omega arith)
more a (suc b) h = simp (le-ltb a (suc b) h)

-- the difference of two numbers that are read as signed ones fits
pub fits : (a b : ℕ) → a < 2 ^ 63 → b < 2 ^ 63 → SFits w64 (to_z w64 a -ℤ to_z w64 b)
fits a b ha hb =
    rw (to_z_pos w64 a ha, to_z_pos w64 b hb)
    (by-test (ltb a b)
    (λ e. rw (less a b (ltb-true a b e)) (record { sfits = omega arith }))
    (λ e. rw (more a b (ltb-false a b e)) (record { sfits = omega arith })))

-- from a to c is from a to b and on from b to c
pub adds : (a b c : ℤ) → c -ℤ a ≡ (b -ℤ a) +ℤ (c -ℤ b)
adds a b c =
    sym
    (+ℤ_comm (b -ℤ a) (c -ℤ b)
    ∙ +ℤ_assoc c (neg_ℤ b) (b -ℤ a)
    ∙ ap (λ x. c +ℤ x)
    (sym (+ℤ_assoc (neg_ℤ b) b (neg_ℤ a)) ∙ ap (λ x. x +ℤ neg_ℤ a) (+ℤ_invl b) ∙ +ℤ_idl (neg_ℤ a)))

-- the way back is the negative
pub turns : (a b : ℤ) → a -ℤ b ≡ neg_ℤ (b -ℤ a)
turns a b =
    sym (neg_ℤ-+ℤ b (neg_ℤ a) ∙ ap (λ x. neg_ℤ b +ℤ x) (neg_ℤ-neg_ℤ a) ∙ +ℤ_comm (neg_ℤ b) a)
