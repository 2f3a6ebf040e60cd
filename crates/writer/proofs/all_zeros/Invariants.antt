use mathlib.Core.Path.{◌≡◌}
use mathlib.Core.Bool.{◌&&◌}
use lib.ListN.{drop}
use Rattle.writer.specs.Writing.{zeros}
use Rattle.writer.proofs.all_zeros.Given as goal

abbrev pub invariant-loop-letter : goal.invariant-loop-letter
invariant-loop-letter l = zeros l.letters ≡ (l.good && zeros (drop l.letter-index l.letters))
