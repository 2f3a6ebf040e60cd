-- What an answer carries, by its parts.
use Rattle.std.specs.Prelude.{ℕ, Bool, Option, Some}
use Rattle.std.proofs.lemmas.Option.{same_Some}
use mathlib.Core.Path.{◌≡◌, ap}
use Rattle.elements.specs.declared.elements.Element.{Element}
use Rattle.extensions.specs.declared.Extension.{Extension}
use Rattle.extensions.specs.declared.stranger.Stranger.{Stranger}

abbrev pub an_extension : Element → Bool → Element → Option Extension
an_extension oid critical value = Some (record { oid = oid; critical = critical; value = value })

abbrev pub a_stranger : ℕ → ℕ → Element → Option Stranger
a_stranger place next oid = Some (record { place = place; next = next; oid = oid })

-- extensions told alike have the same parts
pub same_extension :
    {a b c d : Element} {p q : Bool} → an_extension a p b ≡ an_extension c q d → (a ≡ c) × (p ≡ q) × (b ≡ d)
same_extension h =
    let same = same_Some _ _ h in (ap (λ (x : Extension). x.oid) same, ap (λ (x : Extension). x.critical) same, ap (λ (x : Extension). x.value) same)
