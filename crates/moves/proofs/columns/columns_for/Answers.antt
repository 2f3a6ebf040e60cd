-- Each turn fills the next place of every column.
use Prim.Native.Nat.{◌<◌}
use mathlib.Core.Path.{◌≡◌, refl, sym, subst}
use native.Mathlib.Omega.{arith}
use Rattle.image.specs.declared.IndexEntry.{IndexEntry}
use Rattle.image.specs.Index.{entry_count}
use Rattle.moves.specs.Rows.{Small}
use Rattle.moves.proofs.Filled.{filled_none, filled_more, filled-all}
use Rattle.moves.proofs.columns.columns_for.Goals as goal
use Rattle.moves.proofs.columns.columns_for.Goals.{After-entry-e}

inside : (c : After-entry-e) → c.loop-place.place < entry_count c.args.image.now
inside c = omega (arith, c.entries-place-end.ensures.count)

-- the entry that was read is small
small : (c : After-entry-e) → Small c.args.image.now c.entry-e.result
small c =
    subst (λ (e : IndexEntry). Small c.args.image.now e) (sym c.entry-e.ensures.own) (c.requires c.loop-place.place (inside c))

-- its place is one of the columns'
slot : (c : After-entry-e) → c.loop-place.place < 96
slot c = omega (arith, c.entries-place-end.ensures.few)

pub loop-place-init : goal.loop-place-init
loop-place-init c = filled_none _ _

pub overflow_cast-kinds : goal.overflow_cast-kinds
overflow_cast-kinds c = omega (arith, (small (goal.at.overflow_cast-kinds c).After-entry-e).kind)

pub overflow_cast-flags : goal.overflow_cast-flags
overflow_cast-flags c = omega (arith, (small (goal.at.overflow_cast-flags c).After-entry-e).flags)

pub overflow_cast-lengths : goal.overflow_cast-lengths
overflow_cast-lengths c = omega (arith, (small (goal.at.overflow_cast-lengths c).After-entry-e).size)

pub loop-place-preserved : goal.loop-place-preserved
loop-place-preserved c =
    let there = (goal.at.loop-place-preserved c).After-entry-e in
    let s = c.args.image.now in
    filled_more c.args.version s c.loop-place.place (inside there) (slot there) c.entry-e.ensures.own (c.requires c.loop-place.place (inside there)) refl
    c.country_for-country.ensures c.loop-place.invariant

pub returns : goal.returns
returns c =
    let all : c.loop-place.place ≡ entry_count c.args.image.now = omega (arith, c.entries-place-end.ensures.count) in
    rw all at (filled-all c.loop-place.invariant all)
