-- What stays of an image at a moment: the items that pass their profile for their kind, and whose end, or a CRL's next update, does not
-- lie before the moment. Starts, flags and letters play no part.
use Rattle.std.specs.Prelude.{ℕ, ◌+◌, ◌*◌, Bool, false, cond, List, [], ◌∷◌, ◌++◌, leb, eqb, length, get_or, take, Result, Ok, Err}
use Rattle.der.specs.Forms.{paper}
use Rattle.refusal.specs.declared.Refusal.{Refusal}
use Rattle.certificate.specs.declared.Fields.{Fields}
use Rattle.certificate.specs.Answer.{judged_of}
use Rattle.crl.specs.declared.Fields as list-fields
use Rattle.crl.specs.Answer as lists
use Rattle.image.specs.Items.{Item}
use Rattle.image.specs.Chosen.{chosen, places_from}

unfoldable pub certificate_stays : ℕ → Result Fields Refusal → Bool
certificate_stays moment (Err refusal) = false
certificate_stays moment (Ok f) = leb moment f.end

unfoldable pub list_stays : ℕ → Result list-fields.Fields Refusal → Bool
list_stays moment (Err refusal) = false
list_stays moment (Ok f) = leb moment f.next_update

-- of the octets of an item of a kind: kind 4 is a CRL, any other a certificate in that role
unfoldable pub stays_of : ℕ → ℕ → List ℕ → Bool
stays_of moment kind bytes = cond (eqb kind 4) (list_stays moment (lists.judged_of paper bytes)) (certificate_stays moment (judged_of bytes kind))

abbrev pub stays : ℕ → Item → Bool
stays moment item = stays_of moment item.kind item.bytes

-- the items that stay, as they are and in their order, and the places at which they stood
abbrev pub kept : ℕ → List Item → List Item
kept moment items = chosen (stays moment) items

abbrev pub kept_places : ℕ → List Item → List ℕ
kept_places moment items = places_from (stays moment) 0 items

-- the new number of a place: how many places before it stay
unfoldable pub new_place : ℕ → List Item → ℕ → ℕ
new_place moment items place = length (kept moment (take place items))

-- a verdict table of n rows, cut to some places: of these rows the octets in these columns
unfoldable pub cut_line : ℕ → List ℕ → ℕ → List ℕ → List ℕ
cut_line n table row [] = []
cut_line n table row (column ∷ rest) = get_or table (row * n + column) 0 ∷ cut_line n table row rest

unfoldable pub cut_lines : ℕ → List ℕ → List ℕ → List ℕ → List ℕ
cut_lines n table columns [] = []
cut_lines n table columns (row ∷ rest) = cut_line n table row columns ++ cut_lines n table columns rest

abbrev pub cut : ℕ → List ℕ → List ℕ → List ℕ
cut n table places = cut_lines n table places places
