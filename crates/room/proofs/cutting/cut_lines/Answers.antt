-- One line more, behind those before it.
use Prim.Native.Nat.{ℕ, ◌+◌, ◌*◌}
use mathlib.Core.Path.{◌≡◌, refl, ap, sym, ◌∙◌}
use mathlib.Core.List.{◌++◌}
use native.Mathlib.Omega.{arith}
use lib.ListN.{length, get_or, take, drop, length-append, length-take, length-drop}
use lib.Seq.{take_all}
use Rattle.room.specs.Kept.{cut_line, cut_lines}
use Rattle.writer.proofs.Stores.{put_next}
use Rattle.room.proofs.Cut.{line-long, lines_long, lines-more, lines-within}
use Rattle.room.proofs.cutting.cut_lines.Goals as goal
use Rattle.room.proofs.cutting.cut_lines.Goals.{In-loop-row}

next : (c : In-loop-row) →
    let a = c.args in
    c.loop-row.at + length a.columns.now ≡ length (cut_lines a.n a.table.now a.columns.now (take (c.loop-row.row-index + 1) a.rows.now))
next c =
    let a = c.args in
    let more = lines-more a.n a.table.now a.columns.now a.rows.now c.loop-row.row-index c.loop-row-test.true in
    rw (more, length-append, line-long, ← c.loop-row.invariant.long) refl

pub loop-row-init : goal.loop-row-init
unfolding cut_lines
loop-row-init c = record { long = refl; put = refl }

pub cut_line-requires : goal.cut_line-requires
cut_line-requires c =
    let a = c.args in
    let within = lines-within a.n a.table.now a.columns.now a.rows.now c.loop-row.row-index c.loop-row-test.true in (
      c.requires.0,
      simp (length-take, length-drop) (omega (arith, next (goal.at.cut_line-requires c).In-loop-row, within, c.requires.1, c.loop-row.auto.out)),
    )

pub overflow_add-at : goal.overflow_add-at
overflow_add-at c =
    let a = c.args in
    let within = lines-within a.n a.table.now a.columns.now a.rows.now c.loop-row.row-index c.loop-row-test.true in
    omega (arith, next (goal.at.overflow_add-at c).In-loop-row, within, c.requires.1, c.loop-row.auto.out)

pub loop-row-preserved : goal.loop-row-preserved
loop-row-preserved c =
    let a = c.args in
    let now = c.loop-row in
    let rows = a.rows.now in
    let columns = a.columns.now in
    let done = cut_lines a.n a.table.now columns (take now.row-index rows) in
    let line = cut_line a.n a.table.now (get_or rows now.row-index 0) columns in
    let more = lines-more a.n a.table.now columns rows now.row-index c.loop-row-test.true in
    record {
      long = next (goal.at.loop-row-preserved c).In-loop-row;
      put = rw more (put_next a.out.now done line _ _ now.at (length columns) (sym now.invariant.long) now.invariant.put c.cut_line.ensures);
    }

pub returns : goal.returns
returns c =
    let a = c.args in
    let now = c.loop-row in
    let rows = a.rows.now in
    let columns = a.columns.now in
    let all : take now.row-index rows ≡ rows = take_all now.row-index rows (omega arith) in
    let long = rw all at now.invariant.long in
    let put = rw all at now.invariant.put in
    put ∙ ap (λ (k : ℕ). cut_lines a.n a.table.now columns rows ++ drop k a.out.now) (long ∙ lines_long a.n a.table.now columns rows)
