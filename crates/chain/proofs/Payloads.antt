-- What an answer carries, by its parts.
use Rattle.std.specs.Prelude.{ℕ, Result, Ok}
use mathlib.Core.Path.{◌≡◌, ap}
use Rattle.refusal.proofs.Results.{same_Ok}
use Rattle.refusal.specs.declared.Refusal.{Refusal}
use Rattle.chain.specs.declared.asking.Asked.{Asked}

abbrev pub a_question : ℕ → ℕ → Result Asked Refusal
a_question places version = Ok (record { places = places; version = version })

-- questions told alike are over as many places, of the same version
pub same_question : {m n v w : ℕ} → a_question m v ≡ a_question n w → (m ≡ n) × (v ≡ w)
same_question p = let same = same_Ok _ _ p in (ap (λ (q : Asked). q.places) same, ap (λ (q : Asked). q.version) same)
