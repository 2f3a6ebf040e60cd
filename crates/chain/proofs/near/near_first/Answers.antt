-- The slots of the places so far are told.
use Prim.Native.Nat.{ℕ, ◌<◌}
use mathlib.Core.Path.{◌≡◌, refl, sym, ap, ◌∙◌}
use native.Mathlib.Omega.{arith}
use lib.ListN.{get_or, length-set}
use Rattle.image.specs.Index.{entry_in, entry_count}
use Rattle.image.specs.declared.IndexEntry.{IndexEntry}
use Rattle.image.specs.Items.{Item}
use Rattle.image.proofs.Places.{entry-own}
use Rattle.chain.specs.Near.{first_of}
use Rattle.chain.proofs.PlacesMean.{item-told}
use Rattle.usable.proofs.Slots.{empty-slots, slot-set}
use Rattle.chain.proofs.near.near_first.Goals as goal

pub loop-place-init : goal.loop-place-init
loop-place-init c = (c.requires.2, refl, record { before = λ c h. absurd (omega arith); behind = λ c h. empty-slots 96 c })

pub bounds-kinds-place : goal.bounds-kinds-place
bounds-kinds-place c = omega (arith, c.loop-place.invariant.0, c.loop-place-test.true)

pub bounds-near-place : goal.bounds-near-place
bounds-near-place c = omega (arith, c.loop-place.invariant.0, c.loop-place-test.true)

pub loop-place-preserved : goal.loop-place-preserved
loop-place-preserved c =
    let inv = c.loop-place.invariant in (
      inv.0,
      rw length-set inv.1,
      slot-set inv.2 (omega (arith, inv.0, inv.1, c.loop-place-test.true)) c.first.ensures,
    )

pub returns : goal.returns
returns c = λ k h.
    let l = c.loop-place in
    let image = c.args.image.now in
    let there : k < entry_count image = omega (arith, c.requires.1, h) in
    let told : get_or c.kinds_in-kinds.result k 0 ≡ (entry_in image k).kind =
    c.kinds_in-kinds.ensures k (omega (arith, l.invariant.0, h)) ∙ ap (λ (e : IndexEntry). e.kind) (entry-own image c.requires.0 k) in
    l.invariant.2.before k (omega (arith, c.loop-place-test.false))
    ∙ ap (λ (i : ℕ). first_of c.args.target k i) (told ∙ sym (ap (λ (i : Item). i.kind) (item-told image k there)))
