-- The largest octet read so far is a bit, and those left decide.
use mathlib.Core.Bool.{and-true}
use mathlib.Core.Path.{refl, sym, ◌∙◌}
use lib.ListN.{get_or, drop_of_length-le}
use Rattle.usable.specs.Table.{bits}
use Rattle.usable.proofs.Bits.{bits-more, larger}
use Rattle.usable.proofs.table.all_bits.Goals as goal

pub loop-octet-init : goal.loop-octet-init
loop-octet-init c = refl

pub loop-octet-preserved : goal.loop-octet-preserved
loop-octet-preserved c =
    let l = c.loop-octet in
    bits-more l.most c.max-most.result c.args.table.now l.octet-index c.loop-octet-test.true
    (rw c.max-most.ensures (larger l.most (get_or c.args.table.now l.octet-index 0)))
    ∙ l.invariant

pub returns : goal.returns
unfolding bits
returns c = let none = drop_of_length-le c.args.table.now c.loop-octet-test.false in sym (and-true _) ∙ (rw none at c.loop-octet.invariant)
