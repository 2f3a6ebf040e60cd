-- The rows of the places so far are told.
use Prim.Native.Nat.{◌<◌}
use mathlib.Core.Path.{refl, sym, ◌∙◌}
use native.Mathlib.Omega.{arith}
use lib.ListN.{length-set}
use Rattle.image.specs.Index.{entry_count}
use Rattle.image.proofs.Places.{entry-own}
use Rattle.usable.proofs.RowLaws.{row-set, row-left}
use Rattle.chain.proofs.OpeningLaws.{row_fresh, row-shut, row_stays}
use Rattle.chain.proofs.PlacesMean.{kind-read, bytes_read, row_read}
use Rattle.chain.proofs.opening.open_items.Goals as goal
use Rattle.chain.proofs.opening.open_items.Goals.{then-fresh+then-wanted, then-fresh+else-wanted, else-fresh}

pub loop-place-init : goal.loop-place-init
loop-place-init c =
    let p = c.requires in
    (p.0, p.1, p.2, p.3, record { before = λ k h. absurd (omega arith); behind = λ k h. refl })

pub bounds-before-place : goal.bounds-before-place
bounds-before-place c = omega (arith, c.loop-place.invariant.2, c.loop-place-test.true)

pub bounds-near-place : goal.bounds-near-place
bounds-near-place c = omega (arith, c.loop-place.invariant.2, c.loop-place-test.true)

pub wanted-requires : goal.wanted-requires
wanted-requires c = (c.loop-place.invariant.2, c.loop-place-test.true)

pub offset_bounds-rows-place : goal.offset_bounds-rows-place
offset_bounds-rows-place c = omega (arith, c.loop-place.invariant.2, c.loop-place-test.true)

pub bounds-rows-place : goal.bounds-rows-place
bounds-rows-place c =
    let i = c.loop-place.invariant in
    omega (arith, i.2, i.3, c.loop-place-test.true)

pub loop-place-preserved : goal.loop-place-preserved
loop-place-preserved c =
    let i = c.loop-place.invariant in
    let inside = c.loop-place-test.true in
    let there : c.loop-place.place < entry_count c.args.image.now = omega (arith, i.1, inside) in
    let told = sym c.fresh.ensures in (
      i.0,
      i.1,
      i.2,
      elim c.if-fresh.branch [
        | then-fresh+then-wanted w ↦ rw (w.rows-is, length-set) i.3
        | then-fresh+else-wanted w ↦ rw w.rows-is i.3
        | else-fresh w ↦ rw w.rows-is i.3
      ],
      elim c.if-fresh.branch [
        | then-fresh+then-wanted w ↦
            let kind = kind-read _ _ there (w.entry_of-e.ensures ∙ entry-own _ i.0 _) w.part-item.ensures in
            let bytes = bytes_read _ _ there (w.entry_of-e.ensures ∙ entry-own _ i.0 _) w.part-item.ensures in
            rw w.rows-is
            (row-set _ i.4 (omega (arith, i.2, i.3, inside))
            (row_fresh _ _ _ _ _ _ _ _ _ _ _ (told ∙ w.if-fresh.true) (sym (w.wanted.ensures _ kind bytes) ∙ w.if-wanted.true)
            (row_read _ _ there (w.entry_of-e.ensures ∙ entry-own _ i.0 _) w.part-item.ensures _ w.open_item.ensures)))
        | then-fresh+else-wanted w ↦
            let kind = kind-read _ _ there (w.entry_of-e.ensures ∙ entry-own _ i.0 _) w.part-item.ensures in
            let bytes = bytes_read _ _ there (w.entry_of-e.ensures ∙ entry-own _ i.0 _) w.part-item.ensures in
            rw w.rows-is
            (row-left i.4 (row-shut _ _ _ _ _ _ _ _ _ _ _ (told ∙ w.if-fresh.true) (sym (w.wanted.ensures _ kind bytes) ∙ w.if-wanted.false)))
        | else-fresh w ↦ rw w.rows-is (row-left i.4 (row_stays _ _ _ _ _ _ _ _ _ _ _ (told ∙ w.if-fresh.false)))
      ],
    )

pub returns : goal.returns
returns c = let i = c.loop-place.invariant in (i.3, λ k h. i.4.before k (omega (arith, c.loop-place-test.false)))
