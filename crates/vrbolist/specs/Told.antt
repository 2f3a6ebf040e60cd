-- What the C interface tells of each answer: number 0 and the fields of a pass, or a refusal's number and detail and zeros.
use Rattle.std.specs.Prelude.{cond, [], ◌∷◌, pos, ℕ, ℤ, Bool, Result, Ok, Err}
use Rattle.refusal.specs.Numbers.{number_of, detail_of}
use Rattle.refusal.specs.declared.Refusal.{Refusal}
use Rattle.certificate.specs.declared.Fields as certificate
use Rattle.crl.specs.declared.Fields as crl
use Rattle.image.specs.declared.Opened.{Opened}
use Rattle.image.specs.declared.IndexEntry.{IndexEntry}
use Rattle.vrbolist.specs.declared.items.WalkAnswer.{WalkAnswer}
use Rattle.vrbolist.specs.declared.items.IntegerAnswer.{IntegerAnswer}
use Rattle.vrbolist.specs.declared.items.DaysAnswer.{DaysAnswer}
use Rattle.vrbolist.specs.declared.certificates.CertificateAnswer.{CertificateAnswer}
use Rattle.vrbolist.specs.declared.lists.CrlAnswer.{CrlAnswer}
use Rattle.vrbolist.specs.declared.images.ImageAnswer.{ImageAnswer}
use Rattle.vrbolist.specs.declared.images.EntryAnswer.{EntryAnswer}
use Rattle.vrbolist.specs.declared.images.WriteAnswer.{WriteAnswer}
use Rattle.vrbolist.specs.declared.versions.LettersAnswer.{LettersAnswer}
use Rattle.vrbolist.specs.declared.trays.ReplayAnswer.{ReplayAnswer}

unfoldable pub walk_told : Result ℕ Refusal → WalkAnswer
walk_told (Ok count) = record { number = 0; detail = 0; count = count }
walk_told (Err why) = record { number = number_of why; detail = detail_of why; count = 0 }

unfoldable pub integer_told : Result ℤ Refusal → IntegerAnswer
integer_told (Ok value) = record { number = 0; detail = 0; value = value }
integer_told (Err why) = record { number = number_of why; detail = detail_of why; value = pos 0 }

unfoldable pub days_told : Result ℤ Refusal → DaysAnswer
days_told (Ok days) = record { number = 0; detail = 0; days = days }
days_told (Err why) = record { number = number_of why; detail = detail_of why; days = pos 0 }

unfoldable pub certificate_passed : certificate.Fields → CertificateAnswer
certificate_passed f =
    record {
      number = 0;
      detail = 0;
      start = f.start;
      end = f.end;
      issuer_at = f.issuer_at;
      issuer_len = f.issuer_len;
      subject_at = f.subject_at;
      subject_len = f.subject_len;
      key_at = f.key_at;
      key_len = f.key_len;
      serial_at = f.serial_at;
      serial_len = f.serial_len;
      subject_key_id_at = f.subject_key_at;
      subject_key_id_len = f.subject_key_len;
      authority_key_id_at = f.authority_key_at;
      authority_key_id_len = f.authority_key_len;
      country = f.first ∷ f.second ∷ [];
    }

unfoldable pub certificate_told : Result certificate.Fields Refusal → CertificateAnswer
certificate_told (Ok f) = certificate_passed f
certificate_told (Err why) =
    record {
      number = number_of why;
      detail = detail_of why;
      start = 0;
      end = 0;
      issuer_at = 0;
      issuer_len = 0;
      subject_at = 0;
      subject_len = 0;
      key_at = 0;
      key_len = 0;
      serial_at = 0;
      serial_len = 0;
      subject_key_id_at = 0;
      subject_key_id_len = 0;
      authority_key_id_at = 0;
      authority_key_id_len = 0;
      country = 0 ∷ 0 ∷ [];
    }

unfoldable pub crl_passed : crl.Fields → CrlAnswer
crl_passed f =
    record {
      number = 0;
      detail = 0;
      this_update = f.this_update;
      next_update = f.next_update;
      entries = f.entries;
      issuer_at = f.issuer_at;
      issuer_len = f.issuer_len;
      country = f.first ∷ f.second ∷ [];
    }

unfoldable pub crl_told : Result crl.Fields Refusal → CrlAnswer
crl_told (Ok f) = crl_passed f
crl_told (Err why) =
    record {
      number = number_of why;
      detail = detail_of why;
      this_update = 0;
      next_update = 0;
      entries = 0;
      issuer_at = 0;
      issuer_len = 0;
      country = 0 ∷ 0 ∷ [];
    }

unfoldable pub image_told : Result Opened Refusal → ImageAnswer
image_told (Ok o) =
    record { number = 0; detail = 0; entries = o.entries; day = o.day; version = o.version }
image_told (Err why) =
    record { number = number_of why; detail = detail_of why; entries = 0; day = 0; version = 0 }

unfoldable pub entry_told : Result IndexEntry Refusal → EntryAnswer
entry_told (Ok e) =
    record {
      number = 0;
      detail = 0;
      kind = e.kind;
      flags = e.flags;
      length = e.length;
      offset = e.offset;
      country = e.first ∷ e.second ∷ [];
    }
entry_told (Err why) =
    record {
      number = number_of why;
      detail = detail_of why;
      kind = 0;
      flags = 0;
      length = 0;
      offset = 0;
      country = 0 ∷ 0 ∷ [];
    }

unfoldable pub write_told : Result ℕ Refusal → WriteAnswer
write_told (Ok size) = record { number = 0; detail = 0; length = size }
write_told (Err why) = record { number = number_of why; detail = detail_of why; length = 0 }

unfoldable pub letters_told : Result Bool Refusal → LettersAnswer
letters_told (Ok so) = record { number = 0; detail = 0; letters_true = cond so 1 0 }
letters_told (Err why) = record { number = number_of why; detail = detail_of why; letters_true = 0 }

unfoldable pub replay_told : Result ℕ Refusal → ReplayAnswer
replay_told (Ok count) = record { number = 0; detail = 0; faulty = count }
replay_told (Err why) = record { number = number_of why; detail = detail_of why; faulty = 0 }
