use Rattle.image.specs.Index.{entry_count}
use Rattle.anchors.specs.Inner.{test_for}
use Rattle.image.proofs.Choosing.{Turn}
use Rattle.anchors.proofs.among.Given as goal

abbrev pub invariant-loop-place : goal.invariant-loop-place
invariant-loop-place l = Turn l.image (entry_count l.image) (test_for l.indexed l.first l.second) l.places l.count l.place
