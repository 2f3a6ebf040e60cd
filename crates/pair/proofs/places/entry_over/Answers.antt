-- Either image tells the entry of its own places; an offset is below 2 to the power of 32, so that nothing wraps.
use Prim.Native.Nat.{◌+◌, ◌*◌, ◌-◌}
use mathlib.Core.Path.{sym, ap, ◌∙◌}
use native.Mathlib.Omega.{arith}
use lib.ListN.{length}
use Rattle.image.specs.declared.IndexEntry.{IndexEntry}
use Rattle.image.specs.Index.{index_start, width}
use Rattle.pair.specs.Places.{behind}
use Rattle.pair.proofs.PlaceLaws.{entry_first, entry-update, offset-below}
use Rattle.pair.proofs.places.entry_over.Goals as goal

pub returns-then-place-span : goal.returns-then-place-span
returns-then-place-span c =
    let a = c.args in
    c.entry_of.ensures ∙ sym (entry_first a.span a.first.now a.update.now a.place c.if-place-span.true)

pub overflow_add-result : goal.overflow_add-result
overflow_add-result c =
    let a = c.args in
    let u = a.update.now in
    let v = a.span.later in
    let below = offset-below v u (index_start u + width v * (a.place - a.span.own)) (λ p. (c.type_inv.update p).fits) in
    omega (arith, below, ap (λ (e : IndexEntry). e.offset) c.entry_of-e.ensures, c.well_formed)

pub returns : goal.returns
unfolding behind
returns c =
    let a = c.args in
    let s = a.first.now in
    ap (behind (length s)) c.entry_of-e.ensures
    ∙ sym (entry-update a.span s a.update.now a.place c.if-place-span.false)
