use mathlib.Core.Path.{◌≡◌}
use lib.ListN.{drop}
use Rattle.image.specs.Index.{items_in}
use Rattle.letters.specs.TrueLetters.{all_lettered}
use Rattle.letters.proofs.checking.all_lettered.Given as goal

abbrev pub invariant-loop-place : goal.invariant-loop-place
invariant-loop-place l = all_lettered (drop l.place (items_in l.image)) ≡ all_lettered (items_in l.image)
