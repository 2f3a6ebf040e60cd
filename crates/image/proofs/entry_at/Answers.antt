-- The octets are there, so each field is what they write.
use Prim.Native.Nat.{◌+◌, ◌≤◌}
use mathlib.Core.Path.{sym}
use native.Mathlib.Omega.{arith}
use lib.ListN.{length}
use Rattle.image.specs.Index.{entry_at}
use Rattle.image.proofs.Fields.{field-one}
use Rattle.image.proofs.Widths.{width-least}
use Rattle.image.proofs.entry_at.Goals as goal
use Rattle.image.proofs.entry_at.Goals.{Start}

-- there is room for what every entry begins with
room : (c : Start) → c.args.at + 8 ≤ length c.args.image.now
room c = omega (arith, c.requires, width-least c.args.version)

pub overflow_add-at : goal.overflow_add-at
overflow_add-at c = omega (arith, c.well_formed, room (goal.at.overflow_add-at c).Start)

pub overflow_add-at-2 : goal.overflow_add-at-2
overflow_add-at-2 c = omega (arith, c.well_formed, room (goal.at.overflow_add-at-2 c).Start)

pub bounds-image-at : goal.bounds-image-at
bounds-image-at c = omega (arith, room (goal.at.bounds-image-at c).Start)

pub overflow_cast-result : goal.overflow_cast-result
overflow_cast-result c = omega (arith, c.type_inv.image c.args.at)

pub overflow_add-result : goal.overflow_add-result
overflow_add-result c = omega (arith, room (goal.at.overflow_add-result c).Start)

pub bounds-image-at-2 : goal.bounds-image-at-2
bounds-image-at-2 c = omega (arith, room (goal.at.bounds-image-at-2 c).Start)

pub overflow_cast-result-2 : goal.overflow_cast-result-2
overflow_cast-result-2 c = omega (arith, c.type_inv.image (c.args.at + 1))

pub overflow_add-at-3 : goal.overflow_add-at-3
overflow_add-at-3 c = omega (arith, room (goal.at.overflow_add-at-3 c).Start)

pub two-requires : goal.two-requires
two-requires c = omega (arith, room (goal.at.two-requires c).Start)

pub overflow_add-at-4 : goal.overflow_add-at-4
overflow_add-at-4 c = omega (arith, room (goal.at.overflow_add-at-4 c).Start)

pub four-requires : goal.four-requires
four-requires c = omega (arith, room (goal.at.four-requires c).Start)

pub returns : goal.returns
unfolding entry_at
returns c =
    let a = c.args in
    let s = a.image.now in
    let at = a.at in (
      (λ i. record {
        kind = sym (field-one s at (omega (arith, room (goal.at.returns c).Start))) i;
        flags = sym (field-one s (at + 1) (omega (arith, room (goal.at.returns c).Start))) i;
        length = c.two.ensures.0 i;
        offset = c.four.ensures.0 i;
        first = c.letter-first.ensures i;
        second = c.letter-second.ensures i;
      }),
      c.two.ensures.1,
    )
