-- One search gives the tables, and by them each record is put.
use Rattle.search.proofs.RecordsPut.{too-many-stay, too-short-stay, all-recorded}
use Rattle.search.proofs.Traces.{paths}
use Rattle.search.proofs.all.chains_to_all.Goals as goal

pub returns-then-places-gt96 : goal.returns-then-places-gt96
returns-then-places-gt96 c = let a = c.args in too-many-stay a.places a.roles.now _ c.if-places-gt96.true

pub returns-then-out-places : goal.returns-then-out-places
returns-then-out-places c =
    let a = c.args in
    too-short-stay a.places a.roles.now _ c.if-places-gt96.false c.if-out-places.true

pub record_all-requires : goal.record_all-requires
record_all-requires c =
    (c.if-places-gt96.false, c.if-out-places.false, paths c.search.ensures)

pub returns : goal.returns
returns c =
    let a = c.args in
    all-recorded a.places a.roles.now _ c.if-places-gt96.false c.if-out-places.false
    (c.record_all.ensures _ c.search.ensures)
