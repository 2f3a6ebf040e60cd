-- Good chains stand on kinds, flags and octets alone: of item lists that differ in letters only they are the same.
use Prim.Native.Nat.{ℕ}
use mathlib.Core.Path.{◌≡◌}
use mathlib.Core.Bool.{Bool, ◌&&◌, ◌||◌, not}
use mathlib.Core.List.{List}
use lib.Dec.{eqb}
use lib.ListN.{length, take, drop}
use Rattle.octets.specs.Alike.{alike}
use Rattle.der.specs.Forms.{paper}
use Rattle.certificate.specs.Answer.{judged_of}
use Rattle.crl.specs.Answer as lists-answer
use Rattle.crl.specs.Listed.{listed_of}
use Rattle.image.specs.Items.{Item}
use Rattle.usable.specs.Items.{item_at, on_certificate, certificate_at, on_list, list_at, some_below, some_place, within, part_of}
use Rattle.usable.specs.Usable.{valid, usable_anchor, same_country, counts, covers, lists, speaks_of, usable}
use Rattle.usable.specs.Steps.{has_kind, fits, good_step}
use Rattle.chain.specs.Good.{chains}

-- as many items, and at each place the same kind, flags and octets
pub record Alike (a b : List Item) : Type 0 where
  pub many : length a ≡ length b
  pub kinds : (place : ℕ) → (item_at a place).kind ≡ (item_at b place).kind
  pub flags : (place : ℕ) → (item_at a place).flags ≡ (item_at b place).flags
  pub octets : (place : ℕ) → (item_at a place).bytes ≡ (item_at b place).bytes

module _ {a b : List Item} (s : Alike a b) where
  certificate-same : certificate_at a ≡ certificate_at b
  unfolding certificate_at
  certificate-same = λ i place test. on_certificate (judged_of (s.octets place i) (s.kinds place i)) test

  list_same : list_at a ≡ list_at b
  unfolding list_at
  list_same = λ i place test. on_list (lists-answer.judged_of paper (s.octets place i)) test

  some_same : some_place a ≡ some_place b
  unfolding some_place
  some_same = λ i test. some_below (s.many i) test

  part_same : part_of a ≡ part_of b
  unfolding part_of
  part_same = λ i place at size. take size (drop at (s.octets place i))

  kind-same : has_kind a ≡ has_kind b
  unfolding has_kind
  kind-same = λ i kind place. eqb (s.kinds place i) kind

  valid_same : valid a ≡ valid b
  unfolding valid
  valid_same = λ i moment place. certificate-same i place λ f. within f.start f.end moment

  anchor-same : usable_anchor a ≡ usable_anchor b
  unfolding usable_anchor
  anchor-same = λ i moment place. eqb (s.kinds place i) 1 && (eqb (s.flags place i) 1 && valid_same i moment place)

  country-same : same_country a ≡ same_country b
  unfolding same_country
  country-same =
      λ i place crl. certificate-same i place λ f. list_same i crl λ g. eqb f.first g.first && eqb f.second g.second

  counts_same : counts a ≡ counts b
  unfolding counts
  counts_same =
      λ i verdict moment crl. eqb (s.kinds crl i) 4
      && (list_same i crl (λ g. within g.this_update g.next_update moment)
      && some_same i λ u. anchor-same i moment u && (country-same i u crl && verdict u crl))

  covers-same : covers a ≡ covers b
  unfolding covers
  covers-same = λ i crl place. country-same i place crl

  lists-same : lists a ≡ lists b
  unfolding lists
  lists-same =
      λ i crl place. list_same i crl λ g.
      certificate-same i place λ f.
      listed_of paper (s.octets crl i) g.entries_from g.entries_end (part_same i place f.serial_at f.serial_len)

  speaks-same : speaks_of a ≡ speaks_of b
  unfolding speaks_of
  speaks-same = λ i verdict moment place crl. counts_same i verdict moment crl && covers-same i crl place

  usable_same : usable a ≡ usable b
  unfolding usable
  usable_same =
      λ i verdict moment place. valid_same i moment place
      && (some_same i (λ c. speaks-same i verdict moment place c)
      && not (some_same i λ c. speaks-same i verdict moment place c && lists-same i c place))

  fits-same : fits a ≡ fits b
  unfolding fits
  fits-same =
      λ i u v. certificate-same i u λ f.
      certificate-same i v λ g.
      alike (part_same i v g.issuer_at g.issuer_len) (part_same i u f.subject_at f.subject_len)
      && alike (part_same i v g.authority_key_at g.authority_key_len)
      (part_same i u f.subject_key_at f.subject_key_len)

  step_same : good_step a ≡ good_step b
  unfolding good_step
  step_same =
      λ i verdict u v. (kind-same i 1 u || kind-same i 2 u)
      && ((kind-same i 2 v || kind-same i 3 v) && (verdict u v && fits-same i u v))

  pub chains-same : (verdict : ℕ → ℕ → Bool) (moment : ℕ) → chains a verdict moment ≡ chains b verdict moment
  unfolding chains
  chains-same verdict moment =
      λ i.
      record {
        places = s.many i;
        anchor = anchor-same i moment;
        link = λ p. kind-same i 2 p && usable_same i verdict moment p;
        signer = λ p. kind-same i 3 p && usable_same i verdict moment p;
        step = step_same i verdict;
      }
