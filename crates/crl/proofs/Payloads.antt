-- What an answer carries, by its parts.
use Rattle.std.specs.Prelude.{ℕ, Bool, Option, Some}
use Rattle.elements.specs.declared.elements.Element.{Element}
use Rattle.crl.specs.declared.shapes.Front.{Front}
use Rattle.crl.specs.declared.entries.Entry.{Entry}
use Rattle.crl.specs.declared.entries.Survey.{Survey}

abbrev pub a_front : Element → Element → Element → Element → Element → Option Front
a_front version inner issuer current coming = Some (record { version = version; inner = inner; issuer = issuer; current = current; coming = coming })

abbrev pub a_survey : ℕ → Bool → Bool → Option Survey
a_survey count timely calm = Some (record { count = count; timely = timely; calm = calm })

abbrev pub an_entry : Element → Element → Bool → Option Entry
an_entry serial time marked = Some (record { serial = serial; time = time; marked = marked })
