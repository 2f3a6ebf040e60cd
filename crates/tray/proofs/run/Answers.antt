-- Before each record the state is the machine's, and what was counted and listed, with what is left, comes to all.
use mathlib.Core.Path.{sym, ◌∙◌}
use Rattle.std.proofs.lemmas.List.{set_past}
use Rattle.tray.specs.Machine.{at_first}
use Rattle.tray.proofs.Turns.{start, end_of, went-well, went-wrong}
use Rattle.tray.proofs.run.Goals as goal
use Rattle.tray.proofs.run.Goals.{then-good, else-good, then-faulty-list, else-faulty-list}

pub loop-next-init : goal.loop-next-init
unfolding at_first
loop-next-init c = start c.args.log.now c.args.list.now

pub loop-next-preserved : goal.loop-next-preserved
loop-next-preserved c =
    let t = c.loop-next.invariant in
    let h = c.loop-next-test.true in
    let e = c.entry_at-entry.ensures in
    elim c.if-good.branch [
      | then-good w ↦ rw (w.list-is, w.state-is, w.faulty-is) (went-well t h e _ (sym c.good.ensures ∙ w.if-good.true) (sym w.done.ensures))
      | else-good w ↦
          let more = went-wrong t h e (sym c.good.ensures ∙ w.if-good.false) in
          rw (w.list-is, w.state-is, w.faulty-is)
          (elim w.if-faulty-list.branch [
            | then-faulty-list v ↦ rw v.list-is more
            | else-faulty-list v ↦ rw v.list-is (rw (set_past _ _ _ v.if-faulty-list.false) at more)
          ])
    ]

pub returns : goal.returns
returns c = end_of c.loop-next.invariant c.loop-next-test.false
