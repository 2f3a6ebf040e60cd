use Rattle.tray.proofs.Turns.{Turn}
use Rattle.tray.proofs.run.Given as goal

abbrev pub invariant-loop-next : goal.invariant-loop-next
invariant-loop-next l = Turn l.log l.initial.list l.next-end l.state l.list l.faulty l.next
