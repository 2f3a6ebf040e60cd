-- Each turn finds one block more that is the same in both.
use Prim.Native.Nat.{ℕ, ◌+◌, ◌-◌, ◌≤◌}
use mathlib.Core.Bool.{true}
use mathlib.Core.List.{List}
use mathlib.Core.Path.{◌≡◌, refl, sym, subst}
use native.Mathlib.Omega.{arith}
use lib.ListN.{length, take, drop}
use Rattle.octets.specs.Alike.{alike}
use Rattle.octets.proofs.Likeness.{taken_more}
use Rattle.der.proofs.order.alike_to.Invariants.{Alike}
use Rattle.der.proofs.order.alike_to.Goals as goal

next : (a b : List ℕ) (i : ℕ) → i + 16 ≤ length a → i + 16 ≤ length b → take i a ≡ take i b
    → alike (take (i + 16 - i) (drop i a)) (take (i + 16 - i) (drop i b)) ≡ true → Alike a b (i + 16)
next a b i h g e f =
    let span : i + 16 - i ≡ 16 = omega arith in
    (h, g, taken_more a b i 16 e (subst (λ n. alike (take n (drop i a)) (take n (drop i b)) ≡ true) span f))

pub loop-i-init : goal.loop-i-init
loop-i-init c = (omega arith, omega arith, refl)

pub loop-i-preserved : goal.loop-i-preserved
loop-i-preserved c = next _ _ _ c.loop-i-test.true c.if-i-b.true c.loop-i.invariant.2 (sym c.if-same.ensures)
