-- Each test of a short header leaves one way through its definition, and what passes them all is the element that stands there.
use Rattle.std.specs.Prelude.{Option, Some, None}
use Prim.Native.Nat.{ℕ, ◌+◌, ◌-◌, ◌<◌, ◌≤◌}
use mathlib.Core.Path.{◌≡◌, refl, sym, ap, ◌∙◌}
use mathlib.Core.Bool.{true}
use mathlib.Core.List.{List}
use native.Mathlib.Omega.{arith}
use borrow.Author.Tests.{le-leb, lt-leb, lt-ltb, le-ltb, eq-eqb, ne_eqb, leb-true, ltb-true, eqb-true}
use Rattle.std.proofs.lemmas.Option.{none-some}
use lib.Dec.{leb, ltb, eqb}
use lib.ListN.{length, get_or, take, drop, length-drop}
use lib.Seq.{length-take-le, get_or-take, get_or-drop}
use Rattle.der.specs.Forms.{paper}
use Rattle.der.specs.Heading.{identifier_good, heading_of}
use Rattle.der.specs.Member.{placed, member_of}
use Rattle.der.proofs.Laws.{short-header}
use Rattle.der.proofs.Bounds.{cond-by}
use Rattle.elements.specs.declared.elements.Element.{Element}
use Rattle.elements.specs.Elements.{stepped, found_at}
use Rattle.elements.specs.Short.{short_end}
use Rattle.der.proofs.Payloads.{a_heading}

module _ (s : List ℕ) (from end tag : ℕ) where
  pub short-outside : length s < end → None ≡ short_end s from end tag
  unfolding short_end
  short-outside h = rw (lt-leb _ _ h)

  module _ (inside : end ≤ length s) where
    pub short_none : end < from + 2 → None ≡ short_end s from end tag
    unfolding short_end
    short_none h = rw (le-leb _ _ inside, lt-leb _ _ h)

    module _ (two : from + 2 ≤ end) where
      pub short-other : (get_or s from 0 ≡ tag → ⊥) → None ≡ short_end s from end tag
      unfolding short_end
      short-other h = rw (le-leb _ _ inside, le-leb _ _ two, ne_eqb _ _ h)

      module _ (same : get_or s from 0 ≡ tag) where
        pub short-long : 128 ≤ get_or s (from + 1) 0 → None ≡ short_end s from end tag
        unfolding short_end
        short-long h = rw (le-leb _ _ inside, le-leb _ _ two, eq-eqb _ _ same, le-ltb _ _ h)

        module _ (short : get_or s (from + 1) 0 < 128) where
          pub short-beyond : end < from + 2 + get_or s (from + 1) 0 → None ≡ short_end s from end tag
          unfolding short_end
          short-beyond h = rw (le-leb _ _ inside, le-leb _ _ two, eq-eqb _ _ same, lt-ltb _ _ short, lt-leb _ _ h)

          pub short-there : from + 2 + get_or s (from + 1) 0 ≤ end → short_end s from end tag ≡ Some (from + 2 + get_or s (from + 1) 0)
          unfolding short_end
          short-there h = rw (le-leb _ _ inside, le-leb _ _ two, eq-eqb _ _ same, lt-ltb _ _ short, le-leb _ _ h)

-- what an end tells of the octets
pub record ShortAt (s : List ℕ) (from end tag r : ℕ) : Type 0 where
  pub inside : end ≤ length s
  pub two : from + 2 ≤ end
  pub same : get_or s from 0 ≡ tag
  pub short : get_or s (from + 1) 0 < 128
  pub ends : r ≡ from + 2 + get_or s (from + 1) 0
  pub fits : r ≤ end

pub short-told : (s : List ℕ) (from end tag : ℕ) {r : ℕ} → short_end s from end tag ≡ Some r → ShortAt s from end tag r
unfolding short_end
short-told s from end tag {r} =
    cond-by Told (leb end (length s))
    (λ a. cond-by Told (leb (from + 2) end)
    (λ b. cond-by Told (eqb (get_or s from 0) tag)
    (λ c. cond-by Told (ltb (get_or s (from + 1) 0) 128)
    (λ d. cond-by Told (leb (from + 2 + get_or s (from + 1) 0) end)
    (λ e h. let ends : from + 2 + get_or s (from + 1) 0 ≡ r = cc in
    let fit : from + 2 + get_or s (from + 1) 0 ≤ end = leb-true _ _ e in
    record { inside = leb-true _ _ a; two = leb-true _ _ b; same = eqb-true _ _ c; short = ltb-true _ _ d; ends = sym ends; fits = omega (arith, ends, fit) })
    none)
    none)
    none)
    none)
    none
  where
    Told : Option ℕ → Type 0
    Told o = o ≡ Some r → ShortAt s from end tag r

    none : {A : Type 0} → A → Told None
    none a h = absurd (none-some r h)

-- an element with a header of two octets
abbrev pub brief : ℕ → ℕ → ℕ → Element
brief tag at end = record { tag = tag; at = at; contents = at + 2; end = end }

-- the element with a good tag that ends there
pub short-found :
    (s : List ℕ) (from end tag : ℕ) {r : ℕ} → identifier_good tag ≡ true → short_end s from end tag ≡ Some r
    → found_at paper s from end ≡ Some (brief tag from r)
unfolding found_at stepped member_of placed
short-found s from end tag {r} good is =
    let t : ShortAt s from end tag r = short-told s from end tag is in
    let long : length part ≡ end - from = length-take-le (end - from) (drop from s) (rw length-drop (omega (arith, t.inside, t.two))) in
    let zero : from + 0 ≡ from = omega arith in
    let first : get_or part 0 0 ≡ tag = get_or-take (end - from) (drop from s) 0 0 (omega (arith, t.two)) ∙ get_or-drop from s 0 0 ∙ ap (λ (n : ℕ). get_or s n 0) zero ∙ t.same in
    let second : get_or part 1 0 ≡ get_or s (from + 1) 0 = get_or-take (end - from) (drop from s) 1 0 (omega (arith, t.two)) ∙ get_or-drop from s 1 0 in
    let head : heading_of paper part ≡ a_heading tag 2 (get_or s (from + 1) 0) =
    short-header paper part (omega (arith, long, t.two)) (rw first good) (rw second t.short) (rw second (omega (arith, long, t.ends, t.fits)))
    ∙ rw (first, second) refl in
    let here : leb from end ≡ true = le-leb from end (omega (arith, t.two)) in
    rw (here, le-leb _ _ t.inside, head, t.ends)
  where
    part : List ℕ
    part = take (end - from) (drop from s)

pub short-within : (s : List ℕ) (from end tag : ℕ) {r : ℕ} → short_end s from end tag ≡ Some r → (from + 2 ≤ r) × (r ≤ end)
short-within s from end tag is = let t = short-told s from end tag is in (omega (arith, t.ends), t.fits)

pub short-inside : (s : List ℕ) (from end tag : ℕ) {r : ℕ} → short_end s from end tag ≡ Some r → r ≤ length s
short-inside s from end tag is = let t = short-told s from end tag is in omega (arith, t.fits, t.inside)
