-- Sub-identifiers read from octet i on, after the octet before it, are good just if they all are.
use Prim.Native.Nat.{ℕ, ◌+◌, ◌-◌, ◌<◌}
use mathlib.Core.Bool.{Bool, true, false, ◌&&◌}
use mathlib.Core.List.{List, []}
use mathlib.Core.Path.{◌≡◌, refl, sym, ◌∙◌}
use native.Mathlib.Numerals.{add-one}
use native.Mathlib.Omega.{arith}
use borrow.Author.Tests.{eq-eqb, ne_eqb, lt-ltb, le-ltb}
use lib.Dec.{ltb, eqb}
use lib.ListN.{length, get_or, drop, drop_of_length-le}
use lib.Seq.{drop-cons}
use Rattle.der.specs.Contents.{sub_identifiers, oid_good}
use Rattle.der.proofs.contents.oid_good.Goals as goal
use Rattle.der.proofs.contents.oid_good.Goals.{else-c-i-via-then-c-i+else-c-i-lt128, else-c-i-via-else-c-i}

module _ (c : List ℕ) (i : ℕ) (starts : Bool) (h : i < length c) where
  -- one octet more
  further : (starts && eqb (get_or c i 0) 128) ≡ false
      → sub_identifiers (ltb (get_or c i 0) 128) (drop (i + 1) c) ≡ sub_identifiers starts (drop i c)
  unfolding sub_identifiers
  further e = rw (add-one, drop-cons c i 0) (simp e)

  stopped : (starts && eqb (get_or c i 0) 128) ≡ true → sub_identifiers starts (drop i c) ≡ false
  unfolding sub_identifiers
  stopped e = rw (drop-cons c i 0) (simp e)

either : (a b : Bool) → b ≡ false → (a && b) ≡ false
either true b e = e
either false b e = refl

pub returns-then-c-eq0 : goal.returns-then-c-eq0
unfolding oid_good
returns-then-c-eq0 c = simp (eq-eqb _ _ c.if-c-eq0.true)

pub returns-then-three_low : goal.returns-then-three_low
returns-then-three_low c = sym (c.three_low.ensures c.if-three_low.true)

pub returns-then-c : goal.returns-then-c
unfolding oid_good
returns-then-c c =
    simp (ne_eqb _ _ c.if-c-eq0.false) (sym (stopped c.args.c.now 0 true (omega arith) (eq-eqb _ _ c.if-c.true)))

pub loop-i-init : goal.loop-i-init
loop-i-init c =
    (omega arith, omega arith, further c.args.c.now 0 true (omega arith) (ne_eqb _ _ c.if-c.false))

pub returns-then-c-i-lt128 : goal.returns-then-c-i-lt128
unfolding oid_good
returns-then-c-i-lt128 c =
    let l = c.args.c.now in
    let i = c.loop-i.i in
    let both : (ltb (get_or l (i - 1) 0) 128 && eqb (get_or l i 0) 128) ≡ true =
    simp (lt-ltb _ _ c.if-c-i-lt128.true, eq-eqb _ _ c.if-c-i.true) in
    simp (ne_eqb _ _ c.if-c-eq0.false) (sym (stopped l i (ltb (get_or l (i - 1) 0) 128) c.loop-i-test.true both) ∙ c.loop-i.invariant.2)

pub loop-i-preserved : goal.loop-i-preserved
loop-i-preserved c =
    let l = c.args.c.now in
    let i = c.loop-i.i in
    let plain : (ltb (get_or l (i - 1) 0) 128 && eqb (get_or l i 0) 128) ≡ false =
    elim c.else-c-i.branch [
      | else-c-i-via-then-c-i+else-c-i-lt128 w ↦ simp (le-ltb _ _ w.if-c-i-lt128.false)
      | else-c-i-via-else-c-i w ↦ either (ltb (get_or l (i - 1) 0) 128) (eqb (get_or l i 0) 128) (ne_eqb _ _ w.if-c-i.false)
    ] in
    let back : i + 1 - 1 ≡ i = omega arith in
    (omega arith, omega arith, rw back (further l i (ltb (get_or l (i - 1) 0) 128) c.loop-i-test.true plain ∙ c.loop-i.invariant.2))

pub returns : goal.returns
unfolding oid_good sub_identifiers
returns c =
    let l = c.args.c.now in
    let last : length l ≡ c.loop-i.i = omega arith in
    let ended : drop c.loop-i.i l ≡ [] = drop_of_length-le l c.loop-i-test.false in
    simp (ne_eqb _ _ c.if-c-eq0.false) (rw last (rw ended at c.loop-i.invariant.2))
