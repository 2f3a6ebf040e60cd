-- The first image's kinds stay before its end, and the update's stand behind it so far.
use Prim.Native.Nat.{ℕ, ◌-◌, ◌<◌, ◌≤◌}
use mathlib.Core.Logic.{⊎_elim}
use mathlib.Core.Path.{◌≡◌, refl, sym, ap, ◌∙◌}
use native.Mathlib.Omega.{arith}
use borrow.Author.Count.{below_more}
use lib.ListN.{get_or, length-set}
use lib.Seq.{get_or-set_same, get_or-set_other}
use Rattle.image.specs.declared.IndexEntry.{IndexEntry}
use Rattle.pair.specs.Places.{behind, entry_over}
use Rattle.pair.proofs.PlaceLaws.{below_or_not, entry_first, entry-update}
use Rattle.pair.proofs.places.kinds_over.Goals as goal
use Rattle.pair.proofs.places.kinds_over.Goals.{After-kinds_in-kinds, After-kinds_in-later}

abbrev kind : IndexEntry → ℕ
kind e = e.kind

-- a place of the first image
own-kind : (c : After-kinds_in-kinds) (p : ℕ) →
    let a = c.args in
    p < 96 → p < a.span.own → get_or c.kinds_in-kinds.result p 0 ≡ (entry_over a.span a.first.now a.update.now p).kind
own-kind c p few h =
    let a = c.args in
    c.kinds_in-kinds.ensures p few ∙ sym (ap kind (entry_first a.span a.first.now a.update.now p h))

-- a place of the update
later-kind : (c : After-kinds_in-later) (p : ℕ) →
    let a = c.args in
    p < 96 → a.span.own ≤ p → get_or c.kinds_in-later.result (p - a.span.own) 0 ≡ (entry_over a.span a.first.now a.update.now p).kind
unfolding behind
later-kind c p few h =
    let a = c.args in
    c.kinds_in-later.ensures (p - a.span.own) (omega arith) ∙ sym (ap kind (entry-update a.span a.first.now a.update.now p h))

pub returns-then-span-own : goal.returns-then-span-own
returns-then-span-own c = λ p few h. own-kind (goal.at.returns-then-span-own c).After-kinds_in-kinds p few (omega (arith, c.if-span-own.true))

pub loop-place-init : goal.loop-place-init
loop-place-init c = (omega arith, omega (arith, c.kinds_in-kinds.type_inv), λ p h. refl, λ p h l. absurd (omega arith))

pub overflow_sub-kinds : goal.overflow_sub-kinds
overflow_sub-kinds c = omega (arith, c.loop-place.invariant.0)

pub bounds-later-place : goal.bounds-later-place
bounds-later-place c = omega (arith, c.loop-place-test.true)

pub bounds-kinds-place : goal.bounds-kinds-place
bounds-kinds-place c = omega (arith, c.loop-place-test.true)

pub overflow_add-place : goal.overflow_add-place
overflow_add-place c = omega (arith, c.loop-place-test.true)

pub loop-place-smaller : goal.loop-place-smaller
loop-place-smaller c = omega (arith, c.loop-place-test.true)

pub loop-place-preserved : goal.loop-place-preserved
loop-place-preserved c =
    let l = c.loop-place in (
      omega (arith, l.invariant.0),
      rw length-set l.invariant.1,
      λ p h. get_or-set_other l.kinds l.place p _ 0 (λ (e : p ≡ l.place). omega (arith, l.invariant.0)) ∙ l.invariant.2 p h,
      below_more _ l.place
          (λ p h b. get_or-set_other l.kinds l.place p _ 0 (λ (e : p ≡ l.place). omega arith) ∙ l.invariant.3 p h b)
          (λ b. get_or-set_same l.kinds l.place _ 0 (omega (arith, l.invariant.1, c.loop-place-test.true))),
    )

pub returns : goal.returns
returns c = λ p few h.
    let l = c.loop-place in
    ⊎_elim
    (λ in-first. l.invariant.2 p in-first ∙ own-kind (goal.at.returns c).After-kinds_in-kinds p few in-first)
    (λ beyond. l.invariant.3 p (omega (arith, c.loop-place-test.false)) beyond ∙ later-kind (goal.at.returns c).After-kinds_in-later p few beyond)
    (below_or_not p c.args.span.own)
