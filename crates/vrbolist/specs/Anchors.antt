-- What the C interface tells of a country's anchors: in a refusal count 0 and slots of 255.
use Rattle.std.specs.Prelude.{Result, Ok, Err, replicate}
use Rattle.refusal.specs.declared.Refusal.{Refusal}
use Rattle.refusal.specs.Numbers.{number_of, detail_of}
use Rattle.anchors.specs.declared.Listing.{Listing}
use Rattle.vrbolist.specs.declared.countries.AnchorsAnswer.{AnchorsAnswer}

unfoldable pub anchors_told : Result Listing Refusal → AnchorsAnswer
anchors_told (Ok l) = record { number = 0; detail = 0; count = l.count; places = l.places }
anchors_told (Err why) = record { number = number_of why; detail = detail_of why; count = 0; places = replicate 96 255 }
