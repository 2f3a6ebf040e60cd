-- Each turn reads one leaf more, or goes into the last element; a leaf that ends too far ends the loop.
use Prim.Native.Nat.{ℕ, ◌+◌, ◌-◌, ◌≤◌, ◌<◌}
use mathlib.Core.Bool.{false}
use mathlib.Core.List.{List}
use mathlib.Core.Path.{◌≡◌, subst}
use native.Mathlib.Omega.{arith}
use lib.ListN.{length}
use Rattle.der.specs.Forms.{Forms}
use Rattle.der.specs.Fast.{stretch, Reads, Fills, Last}
use Rattle.der.proofs.Flat.{reads_on, fills-none, last-fills}
use Rattle.der.proofs.fast.leaves.Invariants.{Left}
use Rattle.der.proofs.fast.leaves.Goals as goal
use Rattle.der.proofs.fast.leaves.Goals.{then-s-i-eq1+else-deep-lt2+else-not-last, else-s-i-eq1+in_ok-i}

module _ (s : List ℕ) (from end left count i read deep : ℕ) (inside : end ≤ length s) (two : i + 2 ≤ end) (begun : from ≤ i)
    (above : deep ≤ left) (rest : Left s from end left count i read deep) where
  one_more : (r : ℕ) → 1 ≤ deep → ((forms : Forms) (depth count : ℕ) → depth ≤ forms.depth → count < forms.elements → Reads forms
      (stretch s i end) depth count (r - i) (count + 1)) → Left s from end left count r (read + 1) deep
  one_more r some f forms room levels m p = rest forms (omega arith) levels m (reads_on forms s i end two inside (forms.depth + 1 - deep) read r (read + 1) m
      (f forms (forms.depth + 1 - deep) read (omega arith) (omega arith)) p)

  into : 2 ≤ deep → end ≤ i + 127 → Last s i end → Left s from end left count (i + 2) (read + 1) (deep - 1)
  into some short l forms room levels m p =
      let deeper : forms.depth + 1 - (deep - 1) ≡ forms.depth + 1 - deep + 1 = omega arith in
      rest forms (omega arith) levels m
      (last-fills forms s i end two inside (forms.depth + 1 - deep) read m (omega arith) (omega arith) l (omega (arith, l.ends))
      (subst (λ n. Fills forms false (stretch s (i + 2) end) n (read + 1) m) deeper p) false)

pub loop-i-init : goal.loop-i-init
loop-i-init c = (omega arith, omega arith, omega arith, omega arith, λ h. (omega arith, omega arith, λ forms room levels m p. p))

pub overflow_add-read : goal.overflow_add-read
overflow_add-read c = omega (arith, (c.loop-i.invariant.4 (omega arith)).1)

pub loop-i-smaller : goal.loop-i-smaller
loop-i-smaller c =
    elim c.if-s-i-eq1.branch [
      | then-s-i-eq1+else-deep-lt2+else-not-last w ↦ omega (arith, w.i-is)
      | else-s-i-eq1+in_ok-i w ↦ let h = w.in_ok-i.ensures in omega (arith, w.i-is, h.0)
    ]

pub loop-i-preserved : goal.loop-i-preserved
loop-i-preserved c =
    let here = c.loop-i in
    let so = here.invariant.4 (omega arith) in
    elim c.if-s-i-eq1.branch [
      | then-s-i-eq1+else-deep-lt2+else-not-last w ↦ rw (w.i-is, w.deep-is) (
        omega arith,
        omega arith,
        omega (arith, w.if-deep-lt2.false),
        omega arith,
        λ h. (
          omega arith,
          omega arith,
          into _ _ c.args.end _ _ here.i here.read here.deep c.requires.2 c.loop-i-test.true here.invariant.1 here.invariant.3 so.2
              w.if-deep-lt2.false (omega arith) (w.last.ensures w.if-not-last.false),
        ),
      )
      | else-s-i-eq1+in_ok-i w ↦ let far = w.in_ok-i.ensures in rw (w.i-is, w.deep-is) (
        omega (arith, far.1),
        omega (arith, far.0),
        omega arith,
        omega arith,
        λ h. (
          omega arith,
          omega (arith, far.0),
          one_more _ _ c.args.end _ _ here.i here.read here.deep c.requires.2 c.loop-i-test.true here.invariant.1 here.invariant.3 so.2
              w.in_ok-i.i here.invariant.2 (far.2 h),
        ),
      )
    ]

pub returns-then-i-end : goal.returns-then-i-end
returns-then-i-end c =
    let here = c.loop-i in
    let so = here.invariant.4 (omega arith) in (
      so.0,
      λ forms room levels. so.2 forms room levels _ (rw c.if-i-end.true (fills-none forms _ c.args.end (forms.depth + 1 - here.deep) _
          c.requires.2)),
    )
