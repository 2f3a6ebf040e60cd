-- What is answered of a CRL: the walk's 2 and 3, 4 with the smallest rule broken, or its fields.
use Rattle.std.specs.Prelude.{ℕ, ◌-◌, cond, List, eqb, Option, Some, None, Result, Ok, Err}
use Rattle.refusal.specs.declared.Refusal.TheVariants.{Profile}
use Rattle.refusal.specs.declared.Refusal.{Refusal}
use Rattle.der.specs.Forms.{Forms}
use Rattle.der.specs.Walk.{walk_of}
use Rattle.names.specs.Names.{first_letter, second_letter}
use Rattle.refusal.specs.Rules.{first_broken}
use Rattle.times.specs.Times.{moment_of}
use Rattle.crl.specs.declared.rules.Readings.{Readings}
use Rattle.crl.specs.declared.shapes.Layout.{Layout}
use Rattle.crl.specs.declared.Fields.{Fields}
use Rattle.crl.specs.Rules.{readings_of, rules2to8}
use Rattle.crl.specs.Shape.{layout_of}

-- the two times, letters, number of entries, offset and length of the whole issuer; where the entries stand
unfoldable pub fields_of : Layout → Readings → Fields
fields_of l r =
    record {
      this_update = moment_of r.current;
      next_update = moment_of r.coming;
      first = first_letter r.country;
      second = second_letter r.country;
      entries = l.count;
      issuer_at = l.issuer.at;
      issuer_len = l.issuer.end - l.issuer.at;
      entries_from = l.listing.from;
      entries_end = l.listing.end;
    }

unfoldable pub graded : ℕ → Fields → Result Fields Refusal
graded rule fields = cond (eqb rule 0) (Ok fields) (Err (Profile rule))

unfoldable pub on_shape : Option Layout → (Layout → Result Fields Refusal) → Result Fields Refusal
on_shape None next = Err (Profile 1)
on_shape (Some l) next = next l

unfoldable pub on_walk : Result ℕ Refusal → Result Fields Refusal → Result Fields Refusal
on_walk (Err refusal) next = Err refusal
on_walk (Ok count) next = next

-- rules 1 to 8 of a walked item
unfoldable pub profile_of : Forms → List ℕ → Result Fields Refusal
profile_of forms s =
    on_shape (layout_of forms s) λ l. graded (first_broken 2 (rules2to8 forms s l (readings_of s l))) (fields_of l (readings_of s l))

unfoldable pub judged_of : Forms → List ℕ → Result Fields Refusal
judged_of forms s = on_walk (walk_of forms s) (profile_of forms s)
