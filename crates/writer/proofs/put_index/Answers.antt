-- The entries written so far and those of the rows left are the whole index; each ends where the next begins.
use mathlib.Core.Path.{◌≡◌, refl, ap, sym, ◌∙◌}
use native.Mathlib.Omega.{arith}
use Prim.Native.Nat.{ℕ, ◌+◌, ◌*◌, ◌≤◌}
use mathlib.Core.List.{List, [], ◌++◌, append_assoc, append-nil}
use lib.ListN.{length, get_or, drop, length-append, length-take, length-drop, drop_of_length-le}
use Rattle.image.specs.Items.{entry_bytes}
use Rattle.image.specs.Index.{width}
use Rattle.image.proofs.Widths.{width-within, entry_length}
use Rattle.writer.specs.Rows.{rows_bytes}
use Rattle.writer.proofs.Stores.{put_next}
use Rattle.writer.proofs.Columns.{rows_next}
use Rattle.writer.proofs.put_index.Goals as goal
use Rattle.writer.proofs.put_index.Goals.{In-loop-i}

-- the entry at hand ends within the output
within : (c : In-loop-i) →
    let a = c.args in
    c.loop-i.at + width a.version ≤ length a.out.now
within c =
    let a = c.args in
    let now = c.loop-i in
    omega (arith, now.invariant.1, c.requires.4, width-within (width a.version) now.i (length a.kinds.now) c.loop-i-test.true)

pub loop-i-init : goal.loop-i-init
loop-i-init c = (omega arith, omega arith, omega arith, refl, ([], refl, refl, refl))

pub offset_bounds-lengths-i : goal.offset_bounds-lengths-i
offset_bounds-lengths-i c = omega (arith, c.requires)

pub bounds-lengths-i : goal.bounds-lengths-i
bounds-lengths-i c = omega (arith, c.requires)

pub overflow_cast-size : goal.overflow_cast-size
overflow_cast-size c = omega (arith, c.type_inv.lengths c.loop-i.i)

pub overflow_mul-first : goal.overflow_mul-first
overflow_mul-first c = omega (arith, c.requires, c.loop-i-test.true)

pub bounds-letters-i : goal.bounds-letters-i
bounds-letters-i c = omega (arith, c.requires, c.loop-i-test.true)

pub overflow_mul-second : goal.overflow_mul-second
overflow_mul-second c = omega (arith, c.requires, c.loop-i-test.true)

pub overflow_add-second : goal.overflow_add-second
overflow_add-second c = omega (arith, c.requires, c.loop-i-test.true)

pub bounds-letters-i-in-loop-i : goal.bounds-letters-i-in-loop-i
bounds-letters-i-in-loop-i c = omega (arith, c.requires, c.loop-i-test.true)

pub bounds-kinds-i : goal.bounds-kinds-i
bounds-kinds-i c =
    omega (arith, c.requires, c.loop-i-test.true)

pub bounds-flags-i : goal.bounds-flags-i
bounds-flags-i c = omega (arith, c.requires, c.loop-i-test.true)

pub slice_bounds-put_entry-count : goal.slice_bounds-put_entry-count
slice_bounds-put_entry-count c = omega (arith, c.loop-i.invariant.3, within (goal.at.slice_bounds-put_entry-count c).In-loop-i)

pub slice_bounds-put_entry-start : goal.slice_bounds-put_entry-start
slice_bounds-put_entry-start c = omega (arith, c.loop-i.invariant.3, within (goal.at.slice_bounds-put_entry-start c).In-loop-i)

pub slice_bounds-put_entry-end : goal.slice_bounds-put_entry-end
slice_bounds-put_entry-end c = omega (arith, c.loop-i.invariant.3, within (goal.at.slice_bounds-put_entry-end c).In-loop-i)

pub put_entry-requires : goal.put_entry-requires
put_entry-requires c =
    simp (length-take, length-drop) (omega (arith, c.loop-i.invariant.3, within (goal.at.put_entry-requires c).In-loop-i))

pub overflow_add-offset : goal.overflow_add-offset
overflow_add-offset c =
    omega (arith, c.requires, c.type_inv.lengths c.loop-i.i)

pub overflow_add-at : goal.overflow_add-at
overflow_add-at c =
    omega (arith, c.well_formed, c.width-wide.ensures, within (goal.at.overflow_add-at c).In-loop-i)

pub overflow_add-i : goal.overflow_add-i
overflow_add-i c = omega (arith, c.requires)

pub loop-i-smaller : goal.loop-i-smaller
loop-i-smaller c = omega (arith, c.requires)

pub loop-i-preserved : goal.loop-i-preserved
loop-i-preserved c =
    let a = c.args in
    let version = a.version in
    let now = c.loop-i in
    let wide = c.width-wide.result in
    let same : wide ≡ width version = c.width-wide.ensures in
    let done = now.invariant.4.0 in
    let entry = entry_bytes version (get_or a.kinds.now now.i 0) (get_or a.flags.now now.i 0) (get_or a.lengths.now now.i 0) now.offset (get_or a.letters.now (2 * now.i) 0) (get_or a.letters.now (2 * now.i + 1) 0) in
    let row = rows_next a.kinds.now a.flags.now a.lengths.now now.i c.loop-i-test.true
    a.letters.now version now.offset in
    let rest = rows_bytes version (now.offset + get_or a.lengths.now now.i 0) (drop (now.i + 1) a.kinds.now) (drop (now.i + 1) a.flags.now) (drop (now.i + 1) a.lengths.now) (drop (2 * (now.i + 1)) a.letters.now) in
    let long : length entry ≡ width version = entry_length version _ _ _ _ _ _ in
    let size : length (done ++ entry) ≡ now.at + wide = omega (arith, length-append done entry, now.invariant.4.1, long, same) in
    let put = put_next a.out.now done entry now.out _ now.at (width version) now.invariant.4.1 now.invariant.4.2 c.put_entry.ensures in (
      omega arith,
      omega (arith, now.invariant.1, same),
      omega (arith, c.type_inv.lengths now.i),
      c.out-1.given.1 ∙ now.invariant.3,
      (
        done ++ entry,
        size,
        put ∙ ap (λ (n : ℕ). (done ++ entry) ++ drop (now.at + n) a.out.now) (sym same),
        append_assoc done entry rest ∙ (ap (λ (l : List ℕ). done ++ l) (sym row) ∙ now.invariant.4.3),
      ),
    )

pub shape_of-out : goal.shape_of-out
shape_of-out c = omega (arith, c.requires)

pub returns : goal.returns
unfolding rows_bytes
returns c =
    let a = c.args in
    let kinds = a.kinds.now in
    let now = c.loop-i in
    let last : now.i ≡ length kinds = omega (arith, now.invariant.0, c.loop-i-test.false) in
    let all : now.at ≡ width a.version * length kinds = now.invariant.1 ∙ ap (λ (n : ℕ). width a.version * n) last in
    let none = drop_of_length-le kinds c.loop-i-test.false in
    let done : now.invariant.4.0 ≡ rows_bytes a.version 0 kinds a.flags.now a.lengths.now a.letters.now = rw (none, append-nil) at now.invariant.4.3 in
    rw (all, done) at now.invariant.4.2
