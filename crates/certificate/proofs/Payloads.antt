-- What an answer carries, by its parts.
use Rattle.std.specs.Prelude.{Bool, Option, Some}
use Rattle.elements.specs.declared.elements.Element.{Element}
use Rattle.certificate.specs.declared.shapes.Validity.{Validity}
use Rattle.certificate.specs.declared.shapes.Front.{Front}
use Rattle.certificate.specs.declared.shapes.Back.{Back}

abbrev pub a_validity : Element → Element → Option Validity
a_validity start finish = Some (record { start = start; finish = finish })

abbrev pub a_front : Element → Element → Element → Element → Element → Option Front
a_front version serial inner issuer validity = Some (record { version = version; serial = serial; inner = inner; issuer = issuer; validity = validity })

abbrev pub a_back : Element → Element → Bool → Element → Option Back
a_back subject key unique extensions = Some (record { subject = subject; key = key; unique = unique; extensions = extensions })
