-- The tests come in the order of the refusals; a pass that lists finds room, since there are no more faulty records than records, or
-- since they were counted.
use Rattle.std.specs.Prelude.{Ok}
use mathlib.Core.Path.{ap, ◌∙◌}
use native.Mathlib.Omega.{arith}
use Rattle.tray.proofs.Answers.{no_more, refused-argument, refused-short, all_listed, none-listed}
use Rattle.tray.proofs.replay.Goals as goal

pub returns-then-size-ne0 : goal.returns-then-size-ne0
returns-then-size-ne0 c = refused-argument c.args.log.now c.args.list.now c.if-size-ne0.true

pub returns-then-size-room : goal.returns-then-size-room
returns-then-size-room c =
    let log = c.args.log.now in
    let old = c.args.list.now in
    let told = all_listed log old c.if-size-ne0.false (omega (arith, no_more log, c.if-size-room.true)) in
    (ap Ok c.run.ensures.0 ∙ told.0, c.run.ensures.1 ∙ told.1)

pub returns-then-room-faulty : goal.returns-then-room-faulty
returns-then-room-faulty c =
    let log = c.args.log.now in
    let old = c.args.list.now in
    let told = refused-short log old c.if-size-ne0.false (omega (arith, c.run-faulty.ensures.0, c.if-room-faulty.true)) in
    told

pub returns-then-faulty-eq0 : goal.returns-then-faulty-eq0
returns-then-faulty-eq0 c =
    let log = c.args.log.now in
    let old = c.args.list.now in
    let told = none-listed log old c.if-size-ne0.false (omega (arith, c.run-faulty.ensures.0, c.if-faulty-eq0.true)) in
    told

pub returns : goal.returns
returns c =
    let log = c.args.log.now in
    let old = c.args.list.now in
    let told = all_listed log old c.if-size-ne0.false (omega (arith, c.run-faulty.ensures.0, c.if-room-faulty.false)) in
    (ap Ok c.run-2.ensures.0 ∙ told.0, c.run-2.ensures.1 ∙ told.1)
