-- Past as many places as the least entries have room, an entry lies beyond the end.
use mathlib.Core.Path.{refl, ap, ◌∙◌}
use native.Mathlib.Omega.{arith}
use Prim.Native.Nat.{ℕ, ◌+◌, ◌*◌}
use Rattle.image.specs.Index.{index_start, width, entry_at}
use Rattle.image.proofs.Fields.{entry_past}
use Rattle.image.proofs.Widths.{width-most, widths}
use Rattle.image.proofs.entry_of.Goals as goal

pub returns-then-n-place : goal.returns-then-n-place
returns-then-n-place c =
    let a = c.args in
    let s = a.image.now in
    entry_past a.version s (index_start s + width a.version * a.place) (omega (arith, widths a.version a.place refl))

pub overflow_add-at : goal.overflow_add-at
overflow_add-at c = omega (arith, c.entry_start-at.ensures.1, c.width.ensures, width-most c.args.version)

pub entry_cut-requires : goal.entry_cut-requires
entry_cut-requires c = c.entry_start-at.ensures.1

pub returns-then-n-at : goal.returns-then-n-at
returns-then-n-at c =
    let a = c.args in
    c.entry_cut.ensures ∙ ap (λ (at : ℕ). entry_at a.version a.image.now at) c.entry_start-at.ensures.0

pub entry_at-requires : goal.entry_at-requires
entry_at-requires c = omega (arith, c.if-n-at.false, c.width.ensures)

pub returns : goal.returns
returns c =
    let a = c.args in
    c.entry_at.ensures.0 ∙ ap (λ (at : ℕ). entry_at a.version a.image.now at) c.entry_start-at.ensures.0
