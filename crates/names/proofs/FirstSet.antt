-- A name that holds countryName once has the letters of its first SET, where that is a countryName: what is seen once stays so or
-- becomes more.
use Rattle.std.specs.Prelude.{Option, Some, None}
use Prim.Native.Nat.{ℕ, ◌+◌, ◌-◌, ◌<◌, ◌≤◌}
use mathlib.Core.Path.{◌≡◌, refl, sym, ap, ◌∙◌}
use mathlib.Core.Bool.{Bool, true, false, cond}
use mathlib.Core.List.{List, [], ◌∷◌}
use mathlib.Core.Logic.{◌⊎◌, inl, inr}
use native.Mathlib.Omega.{arith}
use borrow.Author.Tests.{ltb-false}
use lib.Dec.{ltb, eqb}
use lib.ListN.{length, get_or, take, drop, length-take}
use lib.Seq.{get_or-take, get_or-drop}
use Rattle.der.specs.Forms.{paper}
use Rattle.octets.specs.Alike.{alike}
use Rattle.octets.proofs.Likeness.{alike_is}
use Rattle.elements.specs.declared.elements.Element.{Element}
use Rattle.elements.specs.Elements.{found_at, members_of, inside, contents_of}
use Rattle.elements.proofs.Members.{found_within}
use Rattle.elements.proofs.Shorts.{brief, short-there}
use Rattle.elements.specs.Short.{short_end}
use Rattle.names.specs.declared.Attribute.{Attribute}
use Rattle.names.specs.declared.Attribute.TheVariants.{Country, Other, Misshapen}
use Rattle.names.specs.declared.Seen.{Seen}
use Rattle.names.specs.declared.Seen.TheVariants.{Never, Once, Often}
use Rattle.names.specs.declared.Letters.{Letters}
use Rattle.names.specs.Names.{attribute_of, one_more, attributed, attributes_of, one_set, after_set, sets_of, name_of, letters_of, on_name}
use Rattle.names.specs.Fast.{one_set_more, Alone}
use Rattle.names.specs.Country.{usual_set, begins, usual_value, country_in}
use Rattle.names.proofs.FastSets.{country-set}
use Rattle.names.proofs.Sets.{sets-done, sets-alone}
use Rattle.names.proofs.Payloads.{some_letters}

no_name : {seen : Seen} → ◌≡◌ {A = (Option Seen)} None (Some seen) → ⊥
no_name e = let z : ◌≡◌ {A = ℕ} 0 1 = cc in omega arith

no-letters : {a b : ℕ} → ◌≡◌ {A = (Option Letters)} None (some_letters a b) → ⊥
no-letters e = let z : ◌≡◌ {A = ℕ} 0 1 = cc in omega arith

-- what is seen is the value, or more
abbrev Still : Element → Seen → Type 0
Still value seen = (seen ≡ Once value) ⊎ (seen ≡ Often)

module _ (s : List ℕ) (value : Element) where
  one-still : (other : Element) (seen : Seen) → Still value seen → Still value (one_more seen other)
  unfolding one_more
  one-still other seen (inl e) = rw e (inr refl)
  one-still other seen (inr e) = rw e (inr refl)

  attributes-still :
      (es : List Element) (seen now : Seen) → Still value seen → attributes_of paper s es seen ≡ Some now → Still value now
  unfolding attributes_of attributed
  attributes-still [] seen now still h = let e : seen ≡ now = cc in rw (← e) still
  attributes-still (e ∷ es) seen now still h = go (λ more. attributes-still es more now) (attribute_of paper s e) h
    where
      go :
          ((more : Seen) → Still value more → attributes_of paper s es more ≡ Some now → Still value now)
          → (a : Attribute) → attributed a seen (λ more. attributes_of paper s es more) ≡ Some now → Still value now
      go rest Misshapen k = absurd (no_name k)
      go rest Other k = rest seen still k
      go rest (Country other) k = rest (one_more seen other) (one-still other seen still) k

  set-still : (e : Element) (seen now : Seen) → Still value seen → one_set paper s e seen ≡ Some now → Still value now
  unfolding one_set
  set-still e seen now still = go (eqb e.tag 0x31) (eqb (length (inside paper s e)) 0)
    where
      go : (a b : Bool) → cond a (cond b None (attributes_of paper s (inside paper s e) seen)) None ≡ Some now → Still value now
      go true true k = absurd (no_name k)
      go true false k = attributes-still (inside paper s e) seen now still k
      go false b k = absurd (no_name k)

  sets-still : (es : List Element) (seen now : Seen) → Still value seen → sets_of paper s es seen ≡ Some now → Still value now
  unfolding sets_of after_set
  sets-still [] seen now still h = let e : seen ≡ now = cc in rw (← e) still
  sets-still (e ∷ es) seen now still h = go (λ more. sets-still es more now) (one_set paper s e seen) refl h
    where
      go :
          ((more : Seen) → Still value more → sets_of paper s es more ≡ Some now → Still value now)
          → (v : Option Seen) → one_set paper s e seen ≡ v → after_set v (λ more. sets_of paper s es more) ≡ Some now → Still value now
      go rest None p k = absurd (no_name k)
      go rest (Some more) p k = rest more (set-still e seen more still p) k

  still-letters : {a b : ℕ} (seen : Seen) → Still value seen → letters_of s seen ≡ some_letters a b → letters_of s (Once value) ≡ some_letters a b
  unfolding letters_of
  still-letters seen (inl e) h = sym (ap (letters_of s) e) ∙ h
  still-letters seen (inr e) h = absurd (no-letters (sym (ap (letters_of s) e) ∙ h))

never-unfit : (s : List ℕ) → None ≡ letters_of s Never
unfolding letters_of
never-unfit s = refl

-- a usual SET has room in what holds it
pub begins-fits : (s : List ℕ) (e : Element) → begins (contents_of s e) ≡ true → e.contents + 13 ≤ e.end
unfolding begins contents_of
begins-fits s e h = go (ltb (length c) 13) refl (alike (take 11 c) usual_set) h
  where
    c : List ℕ
    c = take (e.end - e.contents) (drop e.contents s)

    go : (short : Bool) → ltb (length c) 13 ≡ short → (like : Bool) → cond short false like ≡ true → e.contents + 13 ≤ e.end
    go true p like k = absurd (let z : ◌≡◌ {A = ℕ} 0 1 = cc in omega arith)
    go false p like k =
        let long : 13 ≤ length c = ltb-false _ _ p in
        omega (arith, length-take (e.end - e.contents) (drop e.contents s))

-- an octet of a usual SET, where that stands in the item
usual-octet :
    (s : List ℕ) (at size : ℕ) → 13 ≤ length (take size (drop at s)) → take 11 (take size (drop at s)) ≡ usual_set
    → (i : ℕ) → i < 11 → get_or s (at + i) 0 ≡ get_or usual_set i 0
usual-octet s at size long is i h =
    let wide : i < size = omega (arith, length-take size (drop at s)) in
    sym (get_or-take 11 (take size (drop at s)) i 0 h ∙ get_or-take size (drop at s) i 0 wide ∙ get_or-drop at s i 0)
    ∙ ap (λ (l : List ℕ). get_or l i 0) is

-- where a short header stands that ends there
ends_at :
    (s : List ℕ) (from end tag size after : ℕ) → end ≤ length s → after ≤ end → get_or s from 0 ≡ tag → get_or s (from + 1) 0 ≡ size → size < 128
    → from + 2 + size ≡ after → short_end s from end tag ≡ Some after
ends_at s from end tag size after inside fits first second short ends =
    let last : from + 2 + get_or s (from + 1) 0 ≡ after = rw second ends in
    short-there s from end tag inside (omega arith) first (rw second short) (omega arith) ∙ ap Some last

module _ (s : List ℕ) (at end : ℕ) (inside : end ≤ length s) (fits : at + 13 ≤ end) (octet : (i : ℕ) → i < 11 → get_or s (at + i) 0 ≡ get_or usual_set i 0) where
  nth : (i at_i : ℕ) → at + i ≡ at_i → i < 11 → get_or s at_i 0 ≡ get_or usual_set i 0
  nth i at_i e h = rw (← e) (octet i h)

  usual-land : Alone s at end (record { end = at + 13; country = Some (brief 0x13 (at + 9) (at + 13)) })
  usual-land =
      country-set s at end
      (ends_at s at end 0x31 0x0B (at + 13) inside fits (nth 0 at (omega arith) (omega arith)) (nth 1 (at + 1) refl (omega arith)) (omega arith) (omega arith))
      (ends_at s (at + 2) (at + 13) 0x30 0x09 (at + 13) (omega arith) (omega arith) (nth 2 (at + 2) refl (omega arith)) (nth 3 (at + 2 + 1) (omega arith) (omega arith)) (omega arith) (omega arith))
      (ends_at s (at + 4) (at + 13) 0x06 0x03 (at + 9) (omega arith) (omega arith) (nth 4 (at + 4) refl (omega arith)) (nth 5 (at + 4 + 1) (omega arith) (omega arith)) (omega arith) (omega arith))
      refl (nth 6 (at + 6) refl (omega arith)) (nth 7 (at + 7) refl (omega arith)) (nth 8 (at + 9 - 1) (omega arith) (omega arith))
      (ends_at s (at + 9) (at + 13) 0x13 0x02 (at + 13) (omega arith) (omega arith) (nth 9 (at + 9) refl (omega arith)) (nth 10 (at + 9 + 1) (omega arith) (omega arith)) (omega arith) (omega arith))

-- The letters of a name that holds countryName once are its country's.
pub country-letters :
    (s : List ℕ) (e : Element) (seen : Seen) (a b : ℕ) → name_of paper s e ≡ Some seen → letters_of s seen ≡ some_letters a b → country_in paper s e ≡ some_letters a b
unfolding country_in begins contents_of name_of inside on_name one_more one_set_more
country-letters s e seen a b name two =
    go (ltb (length c) 13) refl (alike (take 11 c) usual_set) refl (eqb e.tag 0x30) name
  where
    c : List ℕ
    c = take (e.end - e.contents) (drop e.contents s)

    usual :
        13 ≤ length c → take 11 c ≡ usual_set → (f : Option Element) → found_at paper s e.contents e.end ≡ f
        → sets_of paper s (members_of paper s e.contents e.end) Never ≡ Some seen → letters_of s (Once (usual_value e.contents)) ≡ some_letters a b
    usual long is None f h = absurd (never (sym (sets-done s e.contents e.end Never f) ∙ h))
      where
        never : ◌≡◌ {A = (Option Seen)} (Some Never) (Some seen) → ⊥
        never k = let same : Never ≡ seen = cc in no-letters (never-unfit s ∙ ap (letters_of s) same ∙ two)
    usual long is (Some x) f h =
        let w = found_within s e.contents e.end f in
        let inside : e.end ≤ length s = w.3 in
        let fits : e.contents + 13 ≤ e.end = omega (arith, length-take (e.end - e.contents) (drop e.contents s)) in
        let eleven : e.contents + 11 ≡ e.contents + 9 + 2 = omega arith in
        let land = usual-land s e.contents e.end inside fits (usual-octet s e.contents (e.end - e.contents) long is) in
        still-letters s (usual_value e.contents) seen
        (sets-still s (usual_value e.contents) (members_of paper s (e.contents + 13) e.end) (one_more Never (usual_value e.contents)) seen (inl refl)
        (ap (λ (n : ℕ). sets_of paper s (members_of paper s (e.contents + 13) e.end)
        (Once (record { tag = 0x13; at = e.contents + 9; contents = n; end = e.contents + 13 }))) eleven ∙ sym (sets-alone s e.contents e.end Never land refl) ∙ h))
        two

    go :
        (short : Bool) → ltb (length c) 13 ≡ short → (like : Bool) → alike (take 11 c) usual_set ≡ like → (tagged : Bool)
        → cond tagged (sets_of paper s (members_of paper s e.contents e.end) Never) None ≡ Some seen
        → cond (cond short false like) (letters_of s (Once (usual_value e.contents)))
        (on_name (cond tagged (sets_of paper s (members_of paper s e.contents e.end) Never) None) None λ more. letters_of s more)
        ≡ some_letters a b
    go true p like q tagged h = rw h two
    go false p false q tagged h = rw h two
    go false p true q false h = absurd (no_name h)
    go false p true q true h = usual (ltb-false _ _ p) (alike_is _ _ q) (found_at paper s e.contents e.end) refl h
