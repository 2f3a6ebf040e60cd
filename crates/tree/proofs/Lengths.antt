-- Of one, two and three octets only one width holds a length and is needed for it.
use mathlib.Core.Path.{◌≡◌}
use Prim.Native.Nat.{ℕ, zero, suc, ◌-◌, ◌^◌, ◌≤◌, ◌<◌, max}
use native.Mathlib.Nat.{pow-le-pow_right}
use native.Mathlib.Omega.{arith}
use borrow.Author.Tests.{lt-ltb, le-ltb, ltb-true, ltb-false, leb-true, leb-false}
use lib.Dec.{ltb, leb}
use Rattle.der.specs.Heading.{smallest}
use Rattle.tree.specs.Tree.{length_width}
use Rattle.tree.proofs.Cases.{by-test}

-- w octets hold n, and fewer, or the short form, do not
pub record Width (n w : ℕ) : Type 0 where
  pub some : 1 ≤ w
  pub three : w ≤ 3
  pub needed : smallest w ≤ n
  pub holds : n < 256 ^ w

pub width_fits : (n : ℕ) → 128 ≤ n → n < 16777216 → Width n (length_width n)
unfolding length_width smallest
width_fits n l h =
    by-test (ltb n 256) (λ one. rw one record { some = omega arith; three = omega arith; needed = omega arith; holds = omega (arith, ltb-true) })
    λ more. by-test (ltb n 65536)
    (λ two. rw (more, two) record { some = omega arith; three = omega arith; needed = omega (arith, ltb-false); holds = omega (arith, ltb-true) })
    (λ three. rw (more, three) record { some = omega arith; three = omega arith; needed = omega (arith, ltb-false); holds = omega (arith, ltb-true) })

pub width_one : (n w : ℕ) → Width n w → length_width n ≡ w
unfolding length_width smallest
width_one n zero h = absurd (omega (arith, h.some))
width_one n (suc zero) h = rw (lt-ltb n 256 h.holds)
width_one n (suc (suc zero)) h = rw (le-ltb n 256 (omega (arith, h.needed)), lt-ltb n 65536 h.holds)
width_one n (suc (suc (suc zero))) h = rw (le-ltb n 256 (omega (arith, h.needed)), le-ltb n 65536 (omega (arith, h.needed)))
width_one n (suc (suc (suc (suc w)))) h = absurd (omega (arith, h.three))

pub width-large : (n w : ℕ) → Width n w → 128 ≤ n
unfolding smallest
width-large n w h = omega (arith, h.needed)

-- a length below what k octets can tell needs no more than k
pub width-told : (n w k : ℕ) → Width n w → n < max 128 (256 ^ k) → w ≤ k
unfolding smallest
width-told n w k h below =
    by-test (leb w k) (λ t. leb-true w k t) λ f.
    let less : k < w = leb-false w k f in
    let powers : 256 ^ k ≤ 256 ^ (w - 1) = pow-le-pow_right (omega arith) (omega arith) in
    let needed : max 128 (256 ^ (w - 1)) ≤ n = h.needed in
    absurd (omega arith)
