-- The entry opens as it should, and the time after its serial ends with it or stands before extensions.
use Prim.Native.Nat.{ℕ, ◌+◌, ◌≤◌, ◌<◌}
use native.Mathlib.Omega.{arith}
use lib.ListN.{length, get_or}
use Rattle.crl.specs.FastEntries.{Opening}
use Rattle.crl.proofs.FastEntries.{header-told, opened-bare, opened-mild}
use Rattle.crl.proofs.usual.usual_time.Goals as goal
use Rattle.crl.proofs.usual.usual_time.Goals.{Else-not-opens, Joined-whole-size, then-whole-size+else-not-calm_list, else-whole-size}

-- the entry opens as it should
opened : (c : Else-not-opens) → let a = c.args in Opening a.item.now a.at a.end
opened c = c.opens.ensures c.if-not-opens.false

-- the octets of its lengths are octets
octet : (c : Else-not-opens) (i : ℕ) → get_or c.args.item.now i 0 < 256
octet c i = (c.type_inv.item i).fits

-- the serial is short, and so is the time
brief : (c : Else-not-opens) → get_or c.args.item.now (c.args.at + 3) 0 < 256
brief c = octet c _

few : (c : Else-not-opens) → c.args.octets < 128
few c = c.requires.2

-- the time has room for its header
room : (c : Joined-whole-size) →
    let a = c.args in
    a.at + 4 + get_or a.item.now (a.at + 3) 0 + 2 ≤ length a.item.now
room c =
    let o = opened (record { before = c.before.before.before.before; type_inv = record { item = c.type_inv.item } }) in
    elim c.if-whole-size.branch [
      | then-whole-size+else-not-calm_list w ↦ omega (arith, o.fits, o.inside, (w.calm_list.ensures w.if-not-calm_list.false).low)
      | else-whole-size w ↦ omega (arith, o.fits, o.inside, w.if-whole-size.false)
    ]

pub overflow_add-size : goal.overflow_add-size
overflow_add-size c = let o = opened (goal.at.overflow_add-size c).Else-not-opens in omega (arith, o.room, o.inside)

pub bounds-item-at : goal.bounds-item-at
bounds-item-at c = let o = opened (goal.at.bounds-item-at c).Else-not-opens in omega (arith, o.room, o.inside)

pub overflow_cast-size : goal.overflow_cast-size
overflow_cast-size c = omega (arith, brief (goal.at.overflow_cast-size c).Else-not-opens)

pub overflow_add-whole : goal.overflow_add-whole
overflow_add-whole c = let o = opened (goal.at.overflow_add-whole c).Else-not-opens in omega (arith, o.room, o.inside)

pub bounds-item-at-2 : goal.bounds-item-at-2
bounds-item-at-2 c = let o = opened (goal.at.bounds-item-at-2 c).Else-not-opens in omega (arith, o.room, o.inside)

pub overflow_cast-whole : goal.overflow_cast-whole
overflow_cast-whole c = omega (arith, (opened (goal.at.overflow_cast-whole c).Else-not-opens).brief)

pub overflow_add-time : goal.overflow_add-time
overflow_add-time c = let o = opened (goal.at.overflow_add-time c).Else-not-opens in omega (arith, o.room, o.inside)

pub overflow_add-time-2 : goal.overflow_add-time-2
overflow_add-time-2 c = let o = opened (goal.at.overflow_add-time-2 c).Else-not-opens in omega (arith, o.room, o.inside, brief (goal.at.overflow_add-time-2 c).Else-not-opens)

pub overflow_add-size-2 : goal.overflow_add-size-2
overflow_add-size-2 c = omega (arith, brief (goal.at.overflow_add-size-2 c).Else-not-opens)

pub overflow_add-size-3 : goal.overflow_add-size-3
overflow_add-size-3 c = omega (arith, few (goal.at.overflow_add-size-3 c).Else-not-opens, brief (goal.at.overflow_add-size-3 c).Else-not-opens)

pub overflow_add-time-then-whole-size : goal.overflow_add-time-then-whole-size
overflow_add-time-then-whole-size c =
    let o = opened (goal.at.overflow_add-time-then-whole-size c).Else-not-opens in
    omega (arith, few (goal.at.overflow_add-time-then-whole-size c).Else-not-opens, o.room, o.inside, brief (goal.at.overflow_add-time-then-whole-size c).Else-not-opens)

pub overflow_add-at : goal.overflow_add-at
overflow_add-at c = let o = opened (goal.at.overflow_add-at c).Else-not-opens in omega (arith, o.room, o.inside)

pub overflow_add-at-then-whole-size : goal.overflow_add-at-then-whole-size
overflow_add-at-then-whole-size c = let o = opened (goal.at.overflow_add-at-then-whole-size c).Else-not-opens in omega (arith, o.fits, o.inside)

pub calm_list-requires : goal.calm_list-requires
calm_list-requires c =
    let o = opened (goal.at.calm_list-requires c).Else-not-opens in
    (omega arith, omega (arith, o.fits, o.inside), omega (arith, few (goal.at.calm_list-requires c).Else-not-opens, brief (goal.at.calm_list-requires c).Else-not-opens))

pub bounds-item-time : goal.bounds-item-time
bounds-item-time c = omega (arith, room (goal.at.bounds-item-time c).Joined-whole-size)

pub overflow_add-time-3 : goal.overflow_add-time-3
overflow_add-time-3 c = omega (arith, room (goal.at.overflow_add-time-3 c).Joined-whole-size)

pub bounds-item-time-2 : goal.bounds-item-time-2
bounds-item-time-2 c = omega (arith, room (goal.at.bounds-item-time-2 c).Joined-whole-size)

pub returns : goal.returns
returns c =
    let o = opened (goal.at.returns c).Else-not-opens in
    let told = header-told (octet (goal.at.returns c).Else-not-opens _) (omega arith) c.four.ensures c.four-2.ensures c.if-four.false in
    elim c.if-whole-size.branch [
      | then-whole-size+else-not-calm_list w ↦ opened-mild o c.requires.0 c.requires.1 (few (goal.at.returns c).Else-not-opens) told.0 told.1 (w.calm_list.ensures w.if-not-calm_list.false)
      | else-whole-size w ↦ opened-bare o c.requires.0 c.requires.1 (few (goal.at.returns c).Else-not-opens) told.0 told.1 w.if-whole-size.false
    ]
