-- An extension whose headers have two octets each is what the fast path tells.
use Rattle.std.specs.Prelude.{Some}
use Prim.Native.Nat.{ℕ, ◌+◌, ◌-◌, ◌<◌, ◌≤◌}
use mathlib.Core.Path.{◌≡◌, refl, sym, ap, ◌∙◌}
use mathlib.Core.Bool.{true, false}
use mathlib.Core.List.{List, [], ◌∷◌}
use native.Mathlib.Omega.{arith}
use borrow.Author.Tests.{eq-eqb}
use lib.ListN.{length, get_or, take, drop, length-drop}
use lib.Seq.{length-take-le, get_or-take, get_or-drop}
use Rattle.der.specs.Forms.{paper}
use Rattle.der.specs.Heading.{identifier_good}
use Rattle.elements.specs.declared.elements.Element.{Element}
use Rattle.elements.specs.Elements.{found_at, with_tag, found_tagged, on_found, contents_of}
use Rattle.elements.specs.Short.{short_end}
use Rattle.elements.proofs.Shorts.{brief, short-there, short-told, short-found, short-inside}
use Rattle.extensions.specs.Extensions.{present, holding_of, extension_of, refused_critical, oid_of}
use Rattle.extensions.specs.Fast.{Member, Plain}
use Rattle.extensions.specs.Strange.{strange_oid, Passed}
use Rattle.extensions.proofs.Oids.{by-oid}
use Rattle.extensions.proofs.Slotless.{with-slot}
use Rattle.octets.specs.Alike.{alike}
use Rattle.octets.proofs.Likeness.{three}
use Rattle.extensions.proofs.Payloads.{an_extension}

module _ (s : List ℕ) (e : Element) {next : ℕ} (tag : e.tag ≡ 0x30) (oid : short_end s e.contents e.end 0x06 ≡ Some next) where
  first : found_at paper s e.contents e.end ≡ Some (brief 0x06 e.contents next)
  unfolding identifier_good
  first = short-found s e.contents e.end 0x06 refl oid

  brief-uncritical : short_end s next e.end 0x04 ≡ Some e.end → an_extension (brief 0x06 e.contents next) false (brief 0x04 next e.end) ≡ extension_of paper s e
  unfolding identifier_good extension_of holding_of found_tagged with_tag on_found
  brief-uncritical last =
      sym (rw (eq-eqb _ _ tag, first, short-found s next e.end 0x04 refl last, eq-eqb e.end e.end refl))

  brief-critical :
      {from : ℕ} → short_end s next e.end 0x01 ≡ Some from → get_or s (next + 2) 0 ≡ 255 → short_end s from e.end 0x04 ≡ Some e.end
      → an_extension (brief 0x06 e.contents next) true (brief 0x04 from e.end) ≡ extension_of paper s e
  unfolding identifier_good extension_of holding_of found_tagged with_tag on_found
  brief-critical {from} flag set last =
      sym
      (rw (
        eq-eqb _ _ tag,
        first,
        short-found s next e.end 0x01 refl flag,
        eq-eqb _ _ set,
        short-found s from e.end 0x04 refl last,
        eq-eqb e.end e.end refl,
      ))

-- the same of an element that starts at an offset
module _ (s : List ℕ) (from stop : ℕ) {end next : ℕ} (here : short_end s from stop 0x30 ≡ Some end) (oid : short_end s (from + 2) end 0x06 ≡ Some next) where
  there : found_at paper s from stop ≡ Some (brief 0x30 from end)
  unfolding identifier_good
  there = short-found s from stop 0x30 refl here

  pub member-uncritical : short_end s next end 0x04 ≡ Some end → Member s from stop end (an_extension (brief 0x06 (from + 2) next) false (brief 0x04 next end))
  member-uncritical last = record { e = brief 0x30 from end; found = there; ends = refl; is = brief-uncritical s (brief 0x30 from end) refl oid last }

  pub member-critical :
      {from' : ℕ} → short_end s next end 0x01 ≡ Some from' → get_or s (next + 2) 0 ≡ 255 → short_end s from' end 0x04 ≡ Some end
      → Member s from stop end (an_extension (brief 0x06 (from + 2) next) true (brief 0x04 from' end))
  member-critical flag set last = record { e = brief 0x30 from end; found = there; ends = refl; is = brief-critical s (brief 0x30 from end) refl oid flag set last }

  plain-member : short_end s next end 0x04 ≡ Some end → Plain s from stop end
  unfolding present refused_critical
  plain-member last =
      let m = member-uncritical last in
      record { e = m.e; found = m.found; ends = m.ends; there = rw (← m.is); mild = rw (← m.is) }

  -- an OID of three octets
  module _ (size : next ≡ from + 7) where
    pub three-octets : contents_of s (brief 0x06 (from + 2) next) ≡ get_or s (from + 4) 0 ∷ get_or s (from + 5) 0 ∷ get_or s (from + 6) 0 ∷ []
    unfolding contents_of
    three-octets =
        let count : next - (from + 2 + 2) ≡ 3 = omega (arith, size) in
        let start : from + 2 + 2 ≡ from + 4 = omega arith in
        rw (count, start)
        (three (take 3 (drop (from + 4) s)) (length-take-le 3 (drop (from + 4) s) (rw length-drop (omega (arith, size, short-inside s (from + 2) end 0x06 oid))))
        ∙ rw (nth 0 {j = from + 4} (omega arith) (omega arith), nth 1 {j = from + 5} (omega arith) (omega arith), nth 2 {j = from + 6} (omega arith) (omega arith)))
      where
        nth : (i : ℕ) {j : ℕ} → i < 3 → from + 4 + i ≡ j → get_or (take 3 (drop (from + 4) s)) i 0 ≡ get_or s j 0
        nth i h q = get_or-take 3 (drop (from + 4) s) i 0 h ∙ get_or-drop (from + 4) s i 0 ∙ ap (λ (n : ℕ). get_or s n 0) q

    -- one that has a slot
    module _ {k : ℕ} (l : k < 23) (slot : alike (get_or s (from + 4) 0 ∷ get_or s (from + 5) 0 ∷ get_or s (from + 6) 0 ∷ []) (oid_of k) ≡ true) where
      pub passed-slot : Passed paper s from stop end
      unfolding strange_oid found_tagged with_tag identifier_good
      passed-slot =
          record {
            e = brief 0x30 from end;
            found = there;
            ends = refl;
            familiar = λ more.
                by-oid s (brief 0x30 from end) (brief 0x06 (from + 2) next) (λ x. strange_oid s x more ≡ more) refl
                (λ critical value. rw (with-slot (contents_of s (brief 0x06 (from + 2) next)) 23 k l
                (ap (λ (o : List ℕ). alike o (oid_of k)) three-octets ∙ slot)))
                (rw (short-found s (from + 2) end 0x06 refl oid));
          }

-- an element with a short header, by its octets
short-at :
    (s : List ℕ) (from end tag second size : ℕ) → end ≤ length s → get_or s from 0 ≡ tag → second ≡ from + 1 → get_or s second 0 ≡ size
    → size < 128 → from + 2 + size ≤ end → short_end s from end tag ≡ Some (from + 2 + size)
short-at s from end tag second size inside same next is short fits =
    let q : get_or s (from + 1) 0 ≡ size = ap (λ (n : ℕ). get_or s n 0) (sym next) ∙ is in
    rw q at (short-there s from end tag inside (omega arith) same (rw q short) (rw q fits))

module _ (s : List ℕ) (from stop : ℕ) {end size : ℕ} (here : short_end s from stop 0x30 ≡ Some end) where
  pub plain-octets :
      6 ≤ end - from → get_or s (from + 2) 0 ≡ 0x06 → get_or s (from + 3) 0 ≡ size → size ≤ end - from - 6 → get_or s (from + 4 + size) 0 ≡ 0x04
      → get_or s (from + 4 + size + 1) 0 ≡ end - (from + 4 + size) - 2 → Plain s from stop end
  plain-octets six tag is fits value last =
      let t = short-told s from stop 0x30 here in
      let inside : end ≤ length s = omega (arith, t.fits, t.inside) in
      let least : end < from + 130 = omega (arith, t.ends, t.short) in
      let oid : from + 4 + size ≡ from + 2 + 2 + size = omega arith in
      let filled : end ≡ from + 4 + size + 2 + (end - (from + 4 + size) - 2) = omega (arith, six, fits) in
      let second : from + 3 ≡ from + 2 + 1 = omega arith in
      plain-member s from stop {next = from + 4 + size} here
      (short-at s (from + 2) end 0x06 (from + 3) size inside tag second is (omega (arith, six, fits, least)) (omega (arith, six, fits)) ∙ ap Some (sym oid))
      (short-at s (from + 4 + size) end 0x04 (from + 4 + size + 1) (end - (from + 4 + size) - 2) inside value refl last (omega (arith, six, fits, least)) (omega (arith, filled)) ∙ ap Some (sym filled))
