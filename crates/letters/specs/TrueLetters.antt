-- The true letters of an item: those that it reports where it passes its profile for its kind, else two zeros. Time and flags
-- play no part.
use Rattle.std.specs.Prelude.{ℕ, Bool, true, cond, ◌&&◌, List, [], ◌∷◌, eqb, Result, Ok, Err}
use Rattle.der.specs.Forms.{paper}
use Rattle.refusal.specs.declared.Refusal.{Refusal}
use Rattle.certificate.specs.declared.Fields.{Fields}
use Rattle.certificate.specs.Answer.{judged_of}
use Rattle.crl.specs.declared.Fields as list-fields
use Rattle.crl.specs.Answer as lists
use Rattle.image.specs.Items.{Item}
use Rattle.letters.specs.declared.telling.Country.{Country}

abbrev pub no_country : Country
no_country = record { first = 0; second = 0 }

unfoldable pub of_certificate : Result Fields Refusal → Country
of_certificate (Err refusal) = no_country
of_certificate (Ok f) = record { first = f.first; second = f.second }

unfoldable pub of_list : Result list-fields.Fields Refusal → Country
of_list (Err refusal) = no_country
of_list (Ok f) = record { first = f.first; second = f.second }

-- of the octets of an item of a kind: kind 4 is a CRL, any other a certificate in that role
unfoldable pub true_of : ℕ → List ℕ → Country
true_of kind bytes = cond (eqb kind 4) (of_list (lists.judged_of paper bytes)) (of_certificate (judged_of bytes kind))

abbrev pub true_letters : Item → Country
true_letters item = true_of item.kind item.bytes

-- letters that are a country's
unfoldable pub spells : ℕ → ℕ → Country → Bool
spells first second country = eqb first country.first && eqb second country.second

-- an item whose letters are its true ones
unfoldable pub lettered : Item → Bool
lettered item = spells item.first item.second (true_letters item)

unfoldable pub all_lettered : List Item → Bool
all_lettered [] = true
all_lettered (item ∷ rest) = lettered item && all_lettered rest
