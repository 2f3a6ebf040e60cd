-- Entries of the least octets have room in the image, so those before this one are less than twice as many octets.
use native.Mathlib.Omega.{arith}
use Rattle.image.proofs.Widths.{widths}
use Rattle.image.proofs.entry_start.Goals as goal

pub overflow_mul-result : goal.overflow_mul-result
overflow_mul-result c =
    omega (arith, c.well_formed, c.requires, widths _ c.args.place c.width.ensures)

pub overflow_add-result : goal.overflow_add-result
overflow_add-result c =
    omega (arith, c.well_formed, c.requires, c.index_start.ensures.1, widths _ c.args.place c.width.ensures)

pub returns : goal.returns
returns c = (
  rw (c.index_start.ensures.0, c.width.ensures),
  omega (arith, c.well_formed, c.requires, c.index_start.ensures.1, widths _ c.args.place c.width.ensures),
)
