-- Each call is on fewer octets, so fuel that is enough at the start is enough all the way, and more changes nothing.
use Rattle.std.specs.Prelude.{Option, Some, None, Result, Ok, Err}
use mathlib.Core.Path.{◌≡◌, refl, subst}
use mathlib.Core.Bool.{Bool}
use mathlib.Core.List.{List, []}
use Prim.Native.Nat.{ℕ, zero, suc, ◌+◌, ◌*◌, ◌≤◌}
use native.Mathlib.Omega.{arith}
use lib.ListN.{length, take, drop, length-take, length-drop}
use Rattle.der.specs.declared.heading.Heading.{Heading}
use Rattle.der.specs.declared.walking.Read.{Read}
use Rattle.refusal.specs.declared.Refusal.{Refusal}
use Rattle.der.specs.Forms.{Forms}
use Rattle.der.specs.Heading.{heading_of}
use Rattle.der.specs.Order.{is_set, handed}
use Rattle.der.specs.Walk.{opened, after, element_at, list_at}
use Rattle.tree.proofs.Written.{Headed, heading-fits}
use Rattle.tree.proofs.Bounds.{Bound, ReadBound, element-bound}
use Rattle.der.proofs.Payloads.{a_heading}
use Rattle.der.proofs.Payloads.{a_read}

opened-same :
    (h : Option Heading) (fault : Result Read Refusal) {next other : ℕ → ℕ → ℕ → Result Read Refusal}
    → ((tag skip size : ℕ) → h ≡ a_heading tag skip size → next tag skip size ≡ other tag skip size) → opened h fault next ≡ opened h fault other
unfolding opened
opened-same None fault q = refl
opened-same (Some h) fault q = q h.tag h.skip h.size refl

after_same :
    (r : Result Read Refusal) {next other : ℕ → ℕ → Result ℕ Refusal} → ((used m : ℕ) → r ≡ a_read used m → next used m ≡ other used m) → after r next ≡ after r other
unfolding after
after_same (Ok r) q = q r.used r.count refl
after_same (Err refusal) q = refl

module _ (forms : Forms) where
  mutual
    unfolding element_at list_at

    pub element-fuel :
        (f g : ℕ) (prior s : List ℕ) (base d n : ℕ) → 2 * length s + 1 ≤ f → 2 * length s + 1 ≤ g
        → element_at f forms prior s base d n ≡ element_at g forms prior s base d n
    element-fuel zero g prior s base d n p q = absurd (omega arith)
    element-fuel (suc f) zero prior s base d n p q = absurd (omega arith)
    element-fuel (suc f) (suc g) prior s base d n p q =
        opened-same (heading_of forms s) (Err _) λ tag skip size e.
        let h : Headed forms s tag skip size = heading-fits forms s tag skip size e in
        let c : List ℕ = take size (drop skip s) in
        let short : 2 * length c + 4 ≤ 2 * length s = omega (arith, length-take size (drop skip s), length-drop skip s, h.some, h.fits) in
        rw (list-fuel f g (is_set tag) [] c (base + skip) (d + 1) (n + 1) (omega arith) (omega arith))

    pub list-fuel :
        (f g : ℕ) (set : Bool) (prior s : List ℕ) (base d n : ℕ) → 2 * length s + 2 ≤ f → 2 * length s + 2 ≤ g
        → list_at f forms set prior s base d n ≡ list_at g forms set prior s base d n
    list-fuel zero g set prior s base d n p q = absurd (omega arith)
    list-fuel (suc f) zero set prior s base d n p q = absurd (omega arith)
    list-fuel (suc f) (suc g) set prior s base d n p q =
        let first : element_at f forms prior s base d n ≡ element_at g forms prior s base d n =
        element-fuel f g prior s base d n (omega arith) (omega arith) in
        let rest :
        after (element_at f forms prior s base d n) (λ used k. list_at f forms set (handed set (take used s)) (drop used s) (base + used) d k)
        ≡ after (element_at g forms prior s base d n) (λ used k. list_at g forms set (handed set (take used s)) (drop used s) (base + used) d k) =
        rw first (after_same (element_at g forms prior s base d n) λ used m e.
        let b : Bound forms s used m = subst (ReadBound forms s) e (element-bound forms g prior s base d n) in
        let short : 2 * length (drop used s) + 4 ≤ 2 * length s = omega (arith, length-drop used s, b.some, b.fits) in
        list-fuel f g set (handed set (take used s)) (drop used s) (base + used) d m (omega arith) (omega arith)) in
        rw rest
