-- The check of an image's letters: 5 as reading an image of version 2, of which version 1 breaks rule 2; else whether each item's
-- letters are its true ones.
use Rattle.refusal.specs.declared.Refusal.{Refusal}
use Rattle.std.specs.Prelude.{ℕ, List, Bool, Result, Ok, Err}
use Rattle.image.specs.declared.Opened.{Opened}
use Rattle.image.specs.Answer.{opened_as}
use Rattle.image.specs.Index.{items_in}
use Rattle.letters.specs.TrueLetters.{all_lettered}

unfoldable pub on_checked : List ℕ → Result Opened Refusal → Result Bool Refusal
on_checked s (Err refusal) = Err refusal
on_checked s (Ok o) = Ok (all_lettered (items_in s))

unfoldable pub checked_of : List ℕ → Result Bool Refusal
checked_of s = on_checked s (opened_as 2 s)
