-- What is answered of a certificate: 1 for another role, the walk's 2 and 3, 4 with the smallest rule broken, or its fields.
use Rattle.std.specs.Prelude.{ℕ, ◌-◌, Bool, cond, ◌&&◌, List, ◌++◌, leb, eqb, Option, Some, None, Result, Ok, Err}
use Rattle.refusal.specs.declared.Refusal.TheVariants.{Argument, Profile}
use Rattle.refusal.specs.declared.Refusal.{Refusal}
use Rattle.der.specs.Forms.{paper}
use Rattle.der.specs.Walk.{walk_of}
use Rattle.names.specs.Names.{first_letter, second_letter}
use Rattle.refusal.specs.Rules.{first_broken}
use Rattle.times.specs.Times.{moment_of}
use Rattle.certificate.specs.declared.keys.KeyId.{KeyId}
use Rattle.certificate.specs.declared.keys.KeyId.TheVariants.{Key, Keyless, Misformed}
use Rattle.certificate.specs.declared.rules.Readings.{Readings}
use Rattle.certificate.specs.declared.shapes.Layout.{Layout}
use Rattle.certificate.specs.declared.Fields.{Fields}
use Rattle.certificate.specs.Rules.{readings_of, rules2to8, rules9to14}
use Rattle.certificate.specs.Shape.{layout_of}

-- offset and length of a key identifier's contents, 0 and 0 if absent
unfoldable pub key_start : KeyId → ℕ
key_start Misformed = 0
key_start Keyless = 0
key_start (Key at end) = at

unfoldable pub key_length : KeyId → ℕ
key_length Misformed = 0
key_length Keyless = 0
key_length (Key at end) = end - at

-- times and letters, offset and length of the whole issuer, subject and key and of the contents of serial and key identifiers
unfoldable pub fields_of : Layout → Readings → Fields
fields_of l r =
    record {
      start = moment_of r.start;
      end = moment_of r.finish;
      first = first_letter r.issuer;
      second = second_letter r.issuer;
      issuer_at = l.issuer.at;
      issuer_len = l.issuer.end - l.issuer.at;
      subject_at = l.subject.at;
      subject_len = l.subject.end - l.subject.at;
      key_at = l.key.at;
      key_len = l.key.end - l.key.at;
      serial_at = l.serial.contents;
      serial_len = l.serial.end - l.serial.contents;
      subject_key_at = key_start r.own;
      subject_key_len = key_length r.own;
      authority_key_at = key_start r.authority;
      authority_key_len = key_length r.authority;
    }

unfoldable pub graded : ℕ → Fields → Result Fields Refusal
graded rule fields = cond (eqb rule 0) (Ok fields) (Err (Profile rule))

unfoldable pub on_shape : Option Layout → (Layout → Result Fields Refusal) → Result Fields Refusal
on_shape None next = Err (Profile 1)
on_shape (Some l) next = next l

unfoldable pub on_walk : Result ℕ Refusal → Result Fields Refusal → Result Fields Refusal
on_walk (Err refusal) next = Err refusal
on_walk (Ok count) next = next

-- all the rules but the first
unfoldable pub rules_of : List ℕ → Layout → Readings → ℕ → List Bool
rules_of s l r role = rules2to8 s l r ++ rules9to14 s l.extensions r role

-- rules 1 to 14 of a walked item
unfoldable pub profile_of : List ℕ → ℕ → Result Fields Refusal
profile_of s role =
    on_shape (layout_of s) λ l.
    graded (first_broken 2 (rules_of s l (readings_of s l) role)) (fields_of l (readings_of s l))

unfoldable pub judged_of : List ℕ → ℕ → Result Fields Refusal
judged_of s role = cond (leb 1 role && leb role 3) (on_walk (walk_of paper s) (profile_of s role)) (Err Argument)
