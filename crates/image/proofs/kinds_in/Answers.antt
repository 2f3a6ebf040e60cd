-- The kinds of the places so far are told, and the next entry starts where the last one ends.
use Prim.Native.Nat.{ℕ, ◌+◌, ◌*◌, ◌<◌}
use mathlib.Core.Path.{◌≡◌, refl, ap, ◌∙◌}
use native.Mathlib.Omega.{arith}
use borrow.Author.Count.{below_more}
use lib.ListN.{length, get_or, length-set}
use lib.Seq.{get_or-set_same, get_or-set_other}
use Rattle.image.specs.Index.{index_start, width, entry_of}
use Rattle.image.proofs.Fields.{entry-kind}
use Rattle.image.proofs.Widths.{width-most, widths}
use Rattle.image.proofs.kinds_in.Goals as goal

pub loop-place-init : goal.loop-place-init
loop-place-init c = (omega arith, refl, omega (arith, c.index_start-at.ensures.0), λ p h. absurd (omega arith))

pub bounds-kinds-place : goal.bounds-kinds-place
bounds-kinds-place c = omega (arith, c.loop-place-test.true)

pub overflow_add-at : goal.overflow_add-at
overflow_add-at c =
    let version = c.args.version in
    omega (arith, c.loop-place.invariant.2, c.loop-place-test.true, c.index_start-at.ensures.0, c.index_start-at.ensures.1, c.width-wide.ensures, width-most version, widths version c.loop-place.place refl)

pub overflow_add-place : goal.overflow_add-place
overflow_add-place c = omega (arith, c.loop-place-test.true)

pub loop-place-smaller : goal.loop-place-smaller
loop-place-smaller c = omega (arith, c.loop-place-test.true)

pub loop-place-preserved : goal.loop-place-preserved
loop-place-preserved c =
    let l = c.loop-place in
    let a = c.args in
    let s = a.image.now in
    let room : l.place < length l.kinds = omega (arith, l.invariant.1, c.loop-place-test.true) in
    let here : c.octet.result ≡ (entry_of a.version s l.place).kind =
    c.octet.ensures ∙ ap (λ (i : ℕ). get_or s i 0) l.invariant.2 ∙ entry-kind a.version s (index_start s + width a.version * l.place) in (
      omega (arith, c.loop-place-test.true),
      rw length-set l.invariant.1,
      omega (arith, l.invariant.2, c.width-wide.ensures),
      below_more _ l.place
          (λ p h. get_or-set_other l.kinds l.place p c.octet.result 0 (λ (e : p ≡ l.place). omega arith) ∙ l.invariant.3 p h)
          (get_or-set_same l.kinds l.place c.octet.result 0 room ∙ here),
    )

pub returns : goal.returns
returns c = λ p h. c.loop-place.invariant.3 p (omega (arith, c.loop-place-test.false))
