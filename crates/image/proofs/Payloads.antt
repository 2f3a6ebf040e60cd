-- What an answer carries, by its parts.
use Rattle.std.specs.Prelude.{ℕ, Result, Ok}
use Rattle.refusal.proofs.Results.{same_Ok}
use mathlib.Core.Path.{◌≡◌, ap}
use Rattle.refusal.specs.declared.Refusal.{Refusal}
use Rattle.image.specs.declared.Opened.{Opened}

abbrev pub an_image : ℕ → ℕ → ℕ → Result Opened Refusal
an_image entries day version = Ok (record { entries = entries; day = day; version = version })

-- images told alike have the same parts
pub same_image : {n d v m e w : ℕ} → an_image n d v ≡ an_image m e w → (n ≡ m) × (d ≡ e) × (v ≡ w)
same_image p =
    let same = same_Ok _ _ p in (ap (λ (o : Opened). o.entries) same, ap (λ (o : Opened). o.day) same, ap (λ (o : Opened). o.version) same)
