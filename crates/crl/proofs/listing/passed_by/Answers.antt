-- The entry and its serial have short headers, so its length and last octet are those of its contents.
use Prim.Native.Nat.{◌+◌}
use native.Mathlib.Omega.{arith}
use Rattle.crl.proofs.FastEntries.{passed_length, passed-last}
use Rattle.crl.proofs.listing.passed_by.Goals as goal

pub overflow_add-whole : goal.overflow_add-whole
overflow_add-whole c = let o = c.opens.ensures c.if-not-opens.false in omega (arith, o.room, o.inside)

pub bounds-item-at : goal.bounds-item-at
bounds-item-at c = let o = c.opens.ensures c.if-not-opens.false in omega (arith, o.room, o.inside)

pub overflow_cast-whole : goal.overflow_cast-whole
overflow_cast-whole c =
    omega (arith, c.type_inv.item (c.args.at + 1))

pub overflow_add-size : goal.overflow_add-size
overflow_add-size c = let o = c.opens.ensures c.if-not-opens.false in omega (arith, o.room, o.inside)

pub bounds-item-at-2 : goal.bounds-item-at-2
bounds-item-at-2 c = let o = c.opens.ensures c.if-not-opens.false in omega (arith, o.room, o.inside)

pub overflow_cast-size : goal.overflow_cast-size
overflow_cast-size c =
    omega (arith, c.type_inv.item (c.args.at + 3))

pub overflow_add-size-2 : goal.overflow_add-size-2
overflow_add-size-2 c =
    omega (arith, c.type_inv.item (c.args.at + 3))

pub overflow_add-next : goal.overflow_add-next
overflow_add-next c = let o = c.opens.ensures c.if-not-opens.false in omega (arith, o.room, o.fits, o.inside, c.if-whole-size.false)

pub overflow_add-next-2 : goal.overflow_add-next-2
overflow_add-next-2 c = let o = c.opens.ensures c.if-not-opens.false in omega (arith, o.room, o.fits, o.inside, c.if-whole-size.false)

pub overflow_add-after : goal.overflow_add-after
overflow_add-after c = let o = c.opens.ensures c.if-not-opens.false in omega (arith, o.room, o.fits, o.inside, c.if-whole-size.false)

pub overflow_add-after-2 : goal.overflow_add-after-2
overflow_add-after-2 c = let o = c.opens.ensures c.if-not-opens.false in omega (arith, o.room, o.fits, o.inside, c.if-whole-size.false)

pub returns-then-size-serial : goal.returns-then-size-serial
returns-then-size-serial c =
    passed_length (c.opens.ensures c.if-not-opens.false) c.if-whole-size.false c.if-size-serial.true

pub bounds-item-after : goal.bounds-item-after
bounds-item-after c =
    let o = c.opens.ensures c.if-not-opens.false in omega (arith, o.room, o.fits, o.inside, c.if-whole-size.false)

pub returns-then-item-after : goal.returns-then-item-after
returns-then-item-after c =
    passed-last (c.opens.ensures c.if-not-opens.false) c.if-whole-size.false c.if-size-eq0.false c.if-item-after.true
