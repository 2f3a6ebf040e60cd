-- A SET with one attribute, all headers short: its OID is countryName, or does not end as that does.
use Rattle.std.specs.Prelude.{Option, Some, None}
use Prim.Native.Nat.{ℕ, ◌+◌, ◌-◌, ◌≤◌}
use mathlib.Core.Path.{◌≡◌, refl, sym, ap, ◌∙◌}
use mathlib.Core.Bool.{true, false}
use mathlib.Core.List.{List, ◌∷◌}
use native.Mathlib.Omega.{arith}
use borrow.Author.Tests.{eq-eqb}
use lib.ListN.{length, get_or, take, drop, length-take, length-drop}
use lib.Seq.{get_or-take, get_or-drop}
use Rattle.der.specs.Forms.{paper}
use Rattle.der.specs.Heading.{identifier_good}
use Rattle.elements.specs.declared.elements.Element.{Element}
use Rattle.elements.specs.Elements.{found_at, with_tag, found_tagged, on_found, contents_of}
use Rattle.octets.specs.Alike.{alike}
use Rattle.elements.specs.Short.{short_end}
use Rattle.octets.proofs.Likeness.{three, is-alike, unequal-unlike}
use Rattle.elements.proofs.Members.{found_within}
use Rattle.elements.proofs.Shorts.{brief, short-found, short-inside}
use Rattle.names.specs.Names.{country_name, attribute_of, attributes_of}
use Rattle.names.specs.declared.Seen.{Seen}
use Rattle.names.specs.Fast.{one_set_more, Alone}
use Rattle.names.proofs.Sets.{attributes-country, attributes-other, attributes-done, set-filled}

-- nothing starts at the end
at-end : (s : List ℕ) (end : ℕ) → found_at paper s end end ≡ None
at-end s end = go (found_at paper s end end) refl
  where
    go : (f : Option Element) → found_at paper s end end ≡ f → f ≡ None
    go None e = refl
    go (Some x) e = absurd (omega (arith, found_within s end end e))

-- an OID that does not end in 6
unlike : (s : List ℕ) (at end : ℕ) → end ≤ length s → (get_or s (end - 1) 0 ≡ 6 → ⊥) → alike (take (end - at) (drop at s)) country_name ≡ false
unlike s at end h n = unequal-unlike _ _ λ e. n (last e)
  where
    last : take (end - at) (drop at s) ≡ country_name → get_or s (end - 1) 0 ≡ 6
    last e =
        let three : length (take (end - at) (drop at s)) ≡ 3 = ap length e in
        let wide : end - at ≡ 3 = omega (arith, three, length-take (end - at) (drop at s), length-drop at s) in
        let place : end - 1 ≡ at + 2 = omega arith in
        let there : get_or (take (end - at) (drop at s)) 2 0 ≡ 6 = ap (λ (l : List ℕ). get_or l 2 0) e in
        rw place (sym (get_or-take (end - at) (drop at s) 2 0 (omega arith) ∙ get_or-drop at s 2 0) ∙ there)

-- the three octets of an OID that is countryName
is-country : (s : List ℕ) (at : ℕ) → at + 3 ≤ length s → get_or s at 0 ≡ 0x55 → get_or s (at + 1) 0 ≡ 0x04 → get_or s (at + 2) 0 ≡ 0x06 → take 3 (drop at s) ≡ country_name
is-country s at l a b c =
    let zero : at + 0 ≡ at = omega arith in
    let long : length (take 3 (drop at s)) ≡ 3 = omega (arith, length-take 3 (drop at s), length-drop at s) in
    let x : get_or (take 3 (drop at s)) 0 0 ≡ 0x55 = get_or-take 3 (drop at s) 0 0 (omega arith) ∙ get_or-drop at s 0 0 ∙ ap (λ (n : ℕ). get_or s n 0) zero ∙ a in
    let y : get_or (take 3 (drop at s)) 1 0 ≡ 0x04 = get_or-take 3 (drop at s) 1 0 (omega arith) ∙ get_or-drop at s 1 0 ∙ b in
    let z : get_or (take 3 (drop at s)) 2 0 ≡ 0x06 = get_or-take 3 (drop at s) 2 0 (omega arith) ∙ get_or-drop at s 2 0 ∙ c in
    three (take 3 (drop at s)) long ∙ rw (x, y, z) refl

module _ (s : List ℕ) (at end : ℕ) {after value : ℕ} (set : short_end s at end 0x31 ≡ Some after) (attribute : short_end s (at + 2) after 0x30 ≡ Some after)
    (oid : short_end s (at + 4) after 0x06 ≡ Some value) where
  -- what the one attribute is, the SET holds
  alone : {country : Option Element} →
      ((seen : Seen) → (rest : List Element) → attributes_of paper s (brief 0x30 (at + 2) after ∷ rest) seen ≡ attributes_of paper s rest (one_set_more seen country))
      → Alone s at end (record { end = after; country = country })
  unfolding identifier_good
  alone is =
      record {
        e = brief 0x31 at after;
        found = short-found s at end 0x31 refl set;
        ends = refl;
        holds = λ seen.
            set-filled s (brief 0x31 at after) seen refl (short-found s (at + 2) after 0x30 refl attribute) ∙ is seen _ ∙ attributes-done s after after _ (at-end s after);
      }

  first : found_at paper s (at + 2 + 2) after ≡ Some (brief 0x06 (at + 2 + 2) value)
  unfolding identifier_good
  first = let four : at + 4 ≡ at + 2 + 2 = omega arith in rw (← four) (short-found s (at + 4) after 0x06 refl oid)

  pub other-set :
      (tag : ℕ) → (get_or s (value - 1) 0 ≡ 6 → ⊥) → identifier_good tag ≡ true → short_end s value after tag ≡ Some after
      → Alone s at end (record { end = after; country = None })
  unfolding attribute_of found_tagged with_tag on_found contents_of one_set_more
  other-set tag n good last =
      alone λ seen rest. attributes-other s _ rest seen
      (rw (first, short-found s value after tag good last, eq-eqb after after refl, unlike s (at + 2 + 2 + 2) value (short-inside s (at + 4) after 0x06 oid) n))

  pub country-set :
      value ≡ at + 9 → get_or s (at + 6) 0 ≡ 0x55 → get_or s (at + 7) 0 ≡ 0x04 → get_or s (value - 1) 0 ≡ 0x06 → short_end s value after 0x13 ≡ Some after
      → Alone s at end (record { end = after; country = Some (brief 0x13 value after) })
  unfolding identifier_good attribute_of found_tagged with_tag on_found contents_of one_set_more
  country-set nine a b c last =
      let wide : value - (at + 2 + 2 + 2) ≡ 3 = omega arith in
      let from : at + 2 + 2 + 2 ≡ at + 6 = omega arith in
      let seven : at + 7 ≡ at + 6 + 1 = omega arith in
      let eight : value - 1 ≡ at + 6 + 2 = omega arith in
      let inside : at + 9 ≤ length s = omega (arith, nine, short-inside s (at + 4) after 0x06 oid) in
      let name = is-country s (at + 6) (omega (arith, inside)) a (rw (← seven) b) (rw (← eight) c) in
      alone λ seen rest. attributes-country s _ rest seen
      (rw (first, short-found s value after 0x13 refl last, eq-eqb after after refl, wide, from, is-alike _ _ name))
