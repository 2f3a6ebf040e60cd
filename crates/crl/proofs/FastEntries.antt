-- What short headers tell of an entry: a serial of another length or with another last octet is another, and a serial and a
-- UTCTime can be the whole of it.
use Rattle.std.specs.Prelude.{Some}
use Prim.Native.Nat.{ℕ, ◌+◌, ◌*◌, ◌-◌, ◌<◌, ◌≤◌}
use mathlib.Core.Bool.{true, false}
use mathlib.Core.List.{List}
use mathlib.Core.Path.{◌≡◌, refl, ap, sym, ◌∙◌}
use native.Mathlib.Omega.{arith}
use borrow.Author.Tests.{eq-eqb, ne_eqb, leb-true}
use lib.Dec.{leb}
use lib.ListN.{length, get_or, drop, length-drop}
use lib.Seq.{length-take-le, get_or-take, get_or-drop}
use Rattle.der.specs.Forms.{paper}
use Rattle.der.specs.Heading.{identifier_good}
use Rattle.elements.specs.declared.elements.Element.{Element}
use Rattle.elements.specs.Elements.{found_at, found_tagged, on_found, members_of, contents_of}
use Rattle.octets.specs.Alike.{alike}
use Rattle.elements.specs.Short.{short_end}
use Rattle.octets.proofs.Likeness.{unequal-unlike, unlike-length}
use Rattle.elements.proofs.Members.{tag-kept, found_within, members-more}
use Rattle.elements.proofs.Shorts.{brief, short-there, short-told, short-found, short-within}
use Rattle.times.specs.Times.{time_at, time_tag}
use Rattle.crl.proofs.Payloads.{an_entry}
use Rattle.crl.specs.Entries.{entry_of, extended, shaped, timely, calm}
use Rattle.crl.specs.Listed.{lists, some_lists}
use Rattle.crl.specs.FastEntries.{stamp_at, Mild, Opening, Usual, Another}

-- an element with a header of two octets that stands at `at` and ends at r
pub record Short (s : List ℕ) (at end tag r : ℕ) : Type 0 where
  pub inside : end ≤ length s
  pub low : at + 2 ≤ r
  pub high : r ≤ end
  pub found : found_at paper s at end ≡ Some (brief tag at r)

pub short : {s : List ℕ} {at end r : ℕ} (tag : ℕ) → identifier_good tag ≡ true → short_end s at end tag ≡ Some r → Short s at end tag r
short {s} {at} {end} tag good is =
    let t = short-told s at end tag is in
    let w = short-within s at end tag is in
    record { inside = t.inside; low = w.0; high = w.1; found = short-found s at end tag good is }

module _
    {s : List ℕ} {at end next after : ℕ} (serial : List ℕ)
    (entry : Short s at end 0x30 next)
    (first : Short s (at + 2) next 0x02 after) where
  own : Element
  own = record { tag = 0x02; at = at + 2; contents = at + 2 + 2; end = after }

  own-length : length (contents_of s own) ≡ after - at - 4
  unfolding contents_of own
  own-length =
      let fits : after - (at + 2 + 2) ≤ length (drop (at + 2 + 2) s) = rw length-drop (omega (arith, entry.inside, entry.high, first.high)) in
      length-take-le _ _ fits ∙ omega arith

  another : alike (contents_of s own) serial ≡ false → Another s at end serial next
  unfolding lists found_tagged on_found own
  another h =
      record {
        entry = record { tag = 0x30; at = at; contents = at + 2; end = next };
        found = entry.found;
        ends = refl;
        other = rw (tag-kept 0x02 first.found refl) h;
      }

  pub other_length : (after - at - 4 ≡ length serial → ⊥) → Another s at end serial next
  other_length h = another (unlike-length _ _ (λ e. h (sym own-length ∙ e)))

  pub other_last : (n : ℕ) → after - at - 4 ≡ n → (n ≡ 0 → ⊥) → (get_or s (after - 1) 0 ≡ get_or serial (n - 1) 0 → ⊥) → Another s at end serial next
  unfolding contents_of own
  other_last n e some differ = another (unequal-unlike _ _ λ same.
      differ
      (ap (λ (i : ℕ). get_or s i 0) (omega (arith, first.low))
      ∙ sym (get_or-take (after - (at + 2 + 2)) (drop (at + 2 + 2) s) (n - 1) 0 (omega arith) ∙ get_or-drop (at + 2 + 2) s (n - 1) 0)
      ∙ ap (λ (l : List ℕ). get_or l (n - 1) 0) same))

-- the entry is passed by
module _ {s : List ℕ} {at end : ℕ} {serial : List ℕ} {r : ℕ} (a : Another s at end serial r) where
  pub none-lost : some_lists paper s serial (members_of paper s at end) ≡ some_lists paper s serial (members_of paper s r end)
  unfolding some_lists
  none-lost = rw (members-more s at end a.found, a.other, a.ends)

  pub farther : end - r < end - at
  farther = omega (arith, a.ends, found_within s at end a.found)

-- a serial and a time: the whole of the entry, or followed by extensions of which none is critical
module _
    {s : List ℕ} {at end next time : ℕ} {t : Element}
    (entry : Short s at end 0x30 next)
    (first : Short s (at + 2) next 0x02 time)
    (found : found_at paper s time next ≡ Some t)
    (tag : time_tag t.tag ≡ true)
    (long : next ≡ at + 2 + get_or s (at + 1) 0) where
  bare : t.end ≡ next → entry_of paper s (brief 0x30 at next) ≡ an_entry (brief 0x02 (at + 2) time) t false
  unfolding entry_of found_tagged time_at on_found
  bare ends = simp (tag-kept 0x02 first.found refl, found, tag, eq-eqb t.end next ends)

  milder : Mild s t.end next → entry_of paper s (brief 0x30 at next) ≡ an_entry (brief 0x02 (at + 2) time) t false
  unfolding entry_of extended found_tagged time_at on_found
  milder m =
      let more : t.end ≡ next → ⊥ = λ e. omega (arith, m.low, e) in
      simp (tag-kept 0x02 first.found refl, found, tag, ne_eqb t.end next more, tag-kept 0x30 m.found refl, eq-eqb next next refl, m.fit, m.calm)

  room : t.end ≤ length s
  room = omega (arith, found_within s time next found)

  pub bare-usual : t.end ≡ next → Usual s at end t
  unfolding shaped timely calm
  bare-usual e =
      record { room = room; entry = brief 0x30 at next; found = entry.found; ends = long; fit = rw (bare e); timed = rw (bare e); calmed = rw (bare e) }

  pub mild-usual : Mild s t.end next → Usual s at end t
  unfolding shaped timely calm
  mild-usual m =
      record { room = room; entry = brief 0x30 at next; found = entry.found; ends = long; fit = rw (milder m); timed = rw (milder m); calmed = rw (milder m) }

-- an element by the octets of its header
module _ (s : List ℕ) (from end tag size r : ℕ) (few : size < 128) (is : r ≡ from + 2 + size) (fits : r ≤ end) (inside : end ≤ length s) where
  pub header-end : get_or s from 0 ≡ tag → get_or s (from + 1) 0 ≡ size → short_end s from end tag ≡ Some r
  header-end first second =
      short-there s from end tag inside (omega (arith, is, fits)) first (omega (arith, second, few)) (omega (arith, second, is, fits))
      ∙ ap Some (ap (λ (n : ℕ). from + 2 + n) second ∙ sym is)

  pub header-found : identifier_good tag ≡ true → get_or s from 0 ≡ tag → get_or s (from + 1) 0 ≡ size → found_at paper s from end ≡ Some (brief tag from r)
  header-found good first second = (short tag good (header-end first second)).found

own-size : (at n : ℕ) → at + 4 + n - at - 4 ≡ n
own-size at n = omega arith

-- tag and length in one number
pub header-told : {a b p q r k : ℕ} → a < 256 → p < 256 → r ≡ ((0 * 256 + 0) * 256 + b) * 256 + a → k ≡ ((0 * 256 + 0) * 256 + q) * 256 + p → r ≡ k → (a ≡ p) × (b ≡ q)
header-told h g e f is = (omega arith, omega arith)

pub left-told : (size at end : ℕ) → at + 4 ≤ end → leb size (end - at - 2) ≡ true → at + 2 + size ≤ end
left-told size at end h e = omega (arith, h, leb-true size (end - at - 2) e)

-- an entry that opens so, and a serial that it has room for
module _ {s : List ℕ} {at end : ℕ} (o : Opening s at end) where
  pub opened : Short s at end 0x30 (at + 2 + get_or s (at + 1) 0)
  unfolding identifier_good
  opened = short 0x30 refl (short-there s at end 0x30 o.inside (omega (arith, o.fits)) o.tag o.brief o.fits)

  pub serial-first : get_or s (at + 3) 0 + 2 ≤ get_or s (at + 1) 0 → Short s (at + 2) (at + 2 + get_or s (at + 1) 0) 0x02 (at + 4 + get_or s (at + 3) 0)
  unfolding identifier_good
  serial-first h =
      let three : get_or s (at + 2 + 1) 0 ≡ get_or s (at + 3) 0 = ap (λ (i : ℕ). get_or s i 0) (omega arith) in
      let ends : at + 4 + get_or s (at + 3) 0 ≡ at + 2 + 2 + get_or s (at + 2 + 1) 0 = omega (arith, three) in
      short 0x02 refl
      (short-there s (at + 2) (at + 2 + get_or s (at + 1) 0) 0x02 (omega (arith, o.fits, o.inside)) (omega (arith, h)) o.first
      (omega (arith, three, h, o.brief)) (omega (arith, three, h)) ∙ ap Some (sym ends))

  -- with the time after the serial, which ends with the entry or stands before extensions
  module _
      {tag octets : ℕ} (timed : time_tag tag ≡ true) (good : identifier_good tag ≡ true) (few : octets < 128)
      (first : get_or s (at + 4 + get_or s (at + 3) 0) 0 ≡ tag)
      (second : get_or s (at + 4 + get_or s (at + 3) 0 + 1) 0 ≡ octets) where
    stamp : at + 4 + get_or s (at + 3) 0 + 2 + octets ≤ at + 2 + get_or s (at + 1) 0
        → found_at paper s (at + 4 + get_or s (at + 3) 0) (at + 2 + get_or s (at + 1) 0) ≡ Some (stamp_at tag octets (at + 4 + get_or s (at + 3) 0))
    stamp h =
        let inside : at + 2 + get_or s (at + 1) 0 ≤ length s = omega (arith, o.fits, o.inside) in
        header-found s (at + 4 + get_or s (at + 3) 0) (at + 2 + get_or s (at + 1) 0) tag octets (at + 4 + get_or s (at + 3) 0 + 2 + octets) few refl h inside good first second

    pub opened-bare : get_or s (at + 1) 0 ≡ get_or s (at + 3) 0 + 2 + (octets + 2) → Usual s at end (stamp_at tag octets (at + 4 + get_or s (at + 3) 0))
    opened-bare long = bare-usual opened (serial-first (omega (arith, long))) (stamp (omega (arith, long))) timed refl (omega (arith, long))

    pub opened-mild : Mild s (at + 4 + get_or s (at + 3) 0 + (octets + 2)) (at + 2 + get_or s (at + 1) 0) → Usual s at end (stamp_at tag octets (at + 4 + get_or s (at + 3) 0))
    opened-mild m =
        let from : at + 4 + get_or s (at + 3) 0 + (octets + 2) ≡ at + 4 + get_or s (at + 3) 0 + 2 + octets = omega arith in
        mild-usual opened (serial-first (omega (arith, m.low))) (stamp (omega (arith, m.low))) timed refl (rw from at m)

  -- with another serial
  module _ (room : get_or s (at + 3) 0 + 2 ≤ get_or s (at + 1) 0) {serial : List ℕ} where
    pub passed_length : (get_or s (at + 3) 0 ≡ length serial → ⊥) → Another s at end serial (at + 2 + get_or s (at + 1) 0)
    passed_length h = other_length serial opened (serial-first room) (λ e. h (sym (own-size at (get_or s (at + 3) 0)) ∙ e))

    pub passed-last : (get_or s (at + 3) 0 ≡ 0 → ⊥) → (get_or s (at + 4 + get_or s (at + 3) 0 - 1) 0 ≡ get_or serial (get_or s (at + 3) 0 - 1) 0 → ⊥)
        → Another s at end serial (at + 2 + get_or s (at + 1) 0)
    passed-last some differ = other_last serial opened (serial-first room) (get_or s (at + 3) 0) (own-size at (get_or s (at + 3) 0)) some differ
