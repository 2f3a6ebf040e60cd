-- What an answer carries, by its parts.
use Rattle.std.specs.Prelude.{Option, Some}
use Rattle.std.proofs.lemmas.Option.{same_Some}
use mathlib.Core.Path.{◌≡◌, ap}
use Rattle.elements.specs.declared.elements.Element.{Element}
use Rattle.elements.specs.declared.envelopes.Envelope.{Envelope}

abbrev pub an_envelope : Element → Element → Option Envelope
an_envelope tbs algorithm = Some (record { tbs = tbs; algorithm = algorithm })

-- envelopes told alike have the same parts
pub same_envelope : {a b c d : Element} → an_envelope a b ≡ an_envelope c d → (a ≡ c) × (b ≡ d)
same_envelope p = let same = same_Some _ _ p in (ap (λ (v : Envelope). v.tbs) same, ap (λ (v : Envelope). v.algorithm) same)
