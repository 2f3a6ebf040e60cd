-- What an answer carries, by its parts.
use Rattle.std.specs.Prelude.{ℕ, Option, Some}
use Rattle.std.proofs.lemmas.Option.{same_Some}
use mathlib.Core.Path.{◌≡◌, ap}
use Rattle.names.specs.declared.Letters.{Letters}

abbrev pub some_letters : ℕ → ℕ → Option Letters
some_letters first second = Some (record { first = first; second = second })

-- two equal pairs of letters have the same letters
pub two_same : {a b c d : ℕ} → some_letters a b ≡ some_letters c d → (a ≡ c) × (b ≡ d)
two_same p = let same = same_Some _ _ p in (ap (λ (l : Letters). l.first) same, ap (λ (l : Letters). l.second) same)
