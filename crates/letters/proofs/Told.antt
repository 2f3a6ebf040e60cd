-- What a judge answers tells the letters.
use Rattle.std.specs.Prelude.{Result, Ok, Err, MatchResult}
use mathlib.Core.Path.{◌≡◌}
use Rattle.refusal.specs.declared.Refusal.{Refusal}
use Rattle.certificate.specs.declared.Fields.{Fields}
use Rattle.crl.specs.declared.Fields as list-fields
use Rattle.letters.specs.declared.telling.Country.{Country}
use Rattle.letters.specs.TrueLetters.{no_country, of_certificate, of_list}

module _ {country : Country} where
  pub list_told :
      (j : Result list-fields.Fields Refusal) {P : list-fields.Fields → Type 0}
      → ((f : list-fields.Fields) → P f → country ≡ record { first = f.first; second = f.second })
      → MatchResult j P (λ e. country ≡ no_country) → country ≡ of_list j
  unfolding of_list
  list_told (Ok f) post told = post f told
  list_told (Err e) post told = told

  pub certificate_told :
      (j : Result Fields Refusal) {P : Fields → Type 0} → ((f : Fields) → P f → country ≡ record { first = f.first; second = f.second })
      → MatchResult j P (λ e. country ≡ no_country) → country ≡ of_certificate j
  unfolding of_certificate
  certificate_told (Ok f) post told = post f told
  certificate_told (Err e) post told = told
