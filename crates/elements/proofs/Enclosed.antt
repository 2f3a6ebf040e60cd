-- What is said of an envelope that is there, and of one that is not.
use Rattle.std.specs.Prelude.{Option, None}
use mathlib.Core.Path.{◌≡◌}
use Rattle.elements.specs.declared.elements.Element.{Element}
use Rattle.elements.specs.declared.envelopes.Envelope.{Envelope}
use Rattle.elements.specs.Envelope.{on_envelope}
use Rattle.elements.proofs.Payloads.{an_envelope}

module _ {A : Type 0} {x : Option Envelope} where
  pub envelope-bad : {formless : A} (next : Element → Element → A) → x ≡ None → formless ≡ on_envelope x formless next
  unfolding on_envelope
  envelope-bad next h = rw h

  pub envelope-good :
      (formless : A) (next : Element → Element → A) {tbs algorithm : Element} {r : A} → x ≡ an_envelope tbs algorithm → r ≡ next tbs algorithm
      → r ≡ on_envelope x formless next
  unfolding on_envelope
  envelope-good formless next h g = rw h g
