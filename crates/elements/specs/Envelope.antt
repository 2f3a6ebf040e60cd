-- What certificates and CRLs have around them: SEQUENCE of tbs SEQUENCE, algorithm SEQUENCE, BIT STRING.
use Rattle.std.specs.Prelude.{ℕ, cond, List, eqb, length, Option, Some, None}
use Rattle.der.specs.Forms.{Forms}
use Rattle.elements.specs.declared.elements.Element.{Element}
use Rattle.elements.specs.declared.envelopes.Envelope.{Envelope}
use Rattle.elements.specs.Elements.{found_tagged, on_found}

unfoldable pub envelope_of : Forms → List ℕ → Option Envelope
envelope_of forms s =
    on_found (found_tagged forms s 0 (length s) 0x30) None λ outermost.
    on_found (found_tagged forms s outermost.contents outermost.end 0x30) None λ tbs.
    on_found (found_tagged forms s tbs.end outermost.end 0x30) None λ algorithm.
    on_found (found_tagged forms s algorithm.end outermost.end 0x03) None λ signature.
    cond (eqb signature.end outermost.end) (Some (record { tbs = tbs; algorithm = algorithm })) None

-- what is to be said of an item without that form, and of the parts of one with it
unfoldable pub on_envelope : {A : Type 0} → Option Envelope → A → (Element → Element → A) → A
on_envelope None formless next = formless
on_envelope (Some v) formless next = next v.tbs v.algorithm
