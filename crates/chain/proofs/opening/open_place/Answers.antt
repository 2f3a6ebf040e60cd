-- What the entry tells is the place's item, and its row is made of it.
use mathlib.Core.Path.{◌∙◌}
use Rattle.image.proofs.Places.{entry-own}
use Rattle.chain.proofs.PlacesMean.{row_read}
use Rattle.chain.proofs.opening.open_place.Goals as goal

pub returns : goal.returns
returns c =
    row_read _ _ c.requires.1 (c.entry_of-e.ensures ∙ entry-own _ c.requires.0 _) c.part-item.ensures _ c.open_item.ensures
