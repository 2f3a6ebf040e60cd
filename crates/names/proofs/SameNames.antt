-- Names that are equal octet by octet have the same letters: their headers have as many octets, so their contents are equal too.
use Rattle.std.specs.Prelude.{Option, Some, None}
use Prim.Native.Nat.{ℕ, ◌+◌, ◌-◌}
use mathlib.Core.Path.{◌≡◌, refl, sym, ap, ◌∙◌}
use mathlib.Core.Bool.{Bool, true, false, cond, ◌&&◌}
use mathlib.Core.List.{List}
use native.Mathlib.Omega.{arith}
use borrow.Author.Tests.{eqb-true}
use lib.Dec.{leb, ltb, eqb}
use lib.ListN.{length, get_or, take, drop, length-drop}
use lib.Seq.{length-take-le, get_or-take, get_or-drop}
use Rattle.der.specs.declared.heading.Heading.{Heading}
use Rattle.der.specs.Forms.{paper}
use Rattle.der.specs.Heading.{identifier_good, within, smallest, long, sized, wide_heading, heading_of}
use Rattle.der.specs.Member.{placed, member_of}
use Rattle.elements.specs.declared.elements.Element.{Element}
use Rattle.elements.specs.Elements.{stepped, found_at, with_tag, found_tagged}
use Rattle.elements.proofs.Members.{found_within}
use Rattle.octets.specs.Octets.{number}
use Rattle.names.specs.declared.Seen.{Seen}
use Rattle.names.specs.Names.{name_of, letters_of}
use Rattle.names.proofs.Moved.{Twin, moved-letters}
use Rattle.der.proofs.Payloads.{a_heading, skip_in}
use Rattle.names.proofs.Payloads.{some_letters, two_same}

-- how many octets a header has, by its second
unfoldable skip_of : ℕ → ℕ
skip_of octet = cond (ltb octet 128) 2 (2 + (octet - 128))

heading-skip : (s : List ℕ) (tag skip count : ℕ) → heading_of paper s ≡ a_heading tag skip count → skip ≡ skip_of (get_or s 1 0)
unfolding heading_of sized wide_heading long within skip_of
heading-skip s tag skip count e =
    go (ltb (length s) 2) (identifier_good (get_or s 0 0)) (leb (length s) 1) (ltb (get_or s 1 0) 128) (leb (2 + get_or s 1 0) (length s))
    (leb 1 k && (leb k paper.length_octets && leb (2 + k) (length s))) (leb (smallest k) (number (take k (drop 2 s))))
    (leb (2 + k + number (take k (drop 2 s))) (length s)) e
  where
    k : ℕ
    k = get_or s 1 0 - 128

    bad : {A : Type 0} → ◌≡◌ {A = (Option Heading)} None (a_heading tag skip count) → A
    bad p = absurd (let z : ◌≡◌ {A = ℕ} 0 1 = cc in omega arith)

    go :
        (x y none short fits many least room : Bool)
        → cond x None
        (cond y
        (cond none None
        (cond short (cond fits (a_heading (get_or s 0 0) 2 (get_or s 1 0)) None)
        (cond many (cond least (cond room (a_heading (get_or s 0 0) (2 + k) (number (take k (drop 2 s)))) None) None) None)))
        None)
        ≡ a_heading tag skip count
        → skip ≡ cond short 2 (2 + k)
    go true y none short fits many least room p = bad p
    go false false none short fits many least room p = bad p
    go false true true short fits many least room p = bad p
    go false true false true false many least room p = bad p
    go false true false true true many least room p = sym (ap skip_in p)
    go false true false false fits false least room p = bad p
    go false true false false fits true false room p = bad p
    go false true false false fits true true false p = bad p
    go false true false false fits true true true p = sym (ap skip_in p)

-- where the contents of an element start, by its second octet
contents-at : (s : List ℕ) (from end : ℕ) (e : Element) → found_at paper s from end ≡ Some e → e.contents ≡ from + skip_of (get_or s (from + 1) 0)
unfolding found_at stepped member_of placed
contents-at s from end e h =
    let w = found_within s from end h in
    go (leb from end) (leb end (length s)) (heading_of paper (take (end - from) (drop from s))) refl
    (get_or-take (end - from) (drop from s) 1 0 (omega (arith, w)) ∙ get_or-drop from s 1 0) h
  where
    go :
        (x y : Bool) (g : Option Heading) → heading_of paper (take (end - from) (drop from s)) ≡ g
        → get_or (take (end - from) (drop from s)) 1 0 ≡ get_or s (from + 1) 0
        → stepped from (cond x (cond y (placed from g) None) None) ≡ Some e → e.contents ≡ from + skip_of (get_or s (from + 1) 0)
    go true true (Some h) k o p =
        let skips : h.skip ≡ skip_of (get_or s (from + 1) 0) = heading-skip _ h.tag h.skip h.size k ∙ ap skip_of o in
        let there : from + h.skip ≡ e.contents = cc in
        rw (← skips) (sym there)
    go true true None k o p = absurd (let z : ◌≡◌ {A = ℕ} 0 1 = cc in omega arith)
    go true false g k o p = absurd (let z : ◌≡◌ {A = ℕ} 0 1 = cc in omega arith)
    go false y g k o p = absurd (let z : ◌≡◌ {A = ℕ} 0 1 = cc in omega arith)

-- a name of so many octets at an offset, and its letters
pub record NameAt (s : List ℕ) (at size first second : ℕ) : Type 0 where
  pub element : Element
  pub end : ℕ
  pub found : found_tagged paper s at end 0x30 ≡ Some element
  pub long : size ≡ element.end - at
  pub seen : Seen
  pub named : name_of paper s element ≡ Some seen
  pub letters : letters_of s seen ≡ some_letters first second

tagged-found : (f : Option Element) (tag : ℕ) (e : Element) → with_tag tag f ≡ Some e → (f ≡ Some e) × (e.tag ≡ tag)
unfolding with_tag
tagged-found None tag e h = absurd (let z : ◌≡◌ {A = ℕ} 0 1 = cc in omega arith)
tagged-found (Some x) tag e h = go (eqb x.tag tag) refl h
  where
    go : (b : Bool) → eqb x.tag tag ≡ b → cond b (Some x) None ≡ Some e → (◌≡◌ {A = (Option Element)} (Some x) (Some e)) × (e.tag ≡ tag)
    go true k p = let same : x ≡ e = cc in (p, ap (λ (y : Element). y.tag) (sym same) ∙ eqb-true x.tag tag k)
    go false k p = absurd (let z : ◌≡◌ {A = ℕ} 0 1 = cc in omega arith)

-- Names that are equal octet by octet have the same letters.
pub same-letters :
    {s t : List ℕ} {at size from other a b c d : ℕ} → NameAt s at size a b → NameAt t from other c d
    → take size (drop at s) ≡ take other (drop from t) → (a ≡ c) × (b ≡ d)
unfolding found_tagged
same-letters {s} {t} {at} {size} {from} {other} {a} {b} {c} {d} x y same =
    let e = x.element in
    let f = y.element in
    let u = tagged-found (found_at paper s at x.end) 0x30 e x.found in
    let v = tagged-found (found_at paper t from y.end) 0x30 f y.found in
    let g = found_within s at x.end u.0 in
    let h = found_within t from y.end v.0 in
    let wide : length (take size (drop at s)) ≡ size = length-take-le size (drop at s) (rw length-drop (omega (arith, g, x.long))) in
    let broad : length (take other (drop from t)) ≡ other = length-take-le other (drop from t) (rw length-drop (omega (arith, h, y.long))) in
    let equal : size ≡ other = sym wide ∙ ap length same ∙ broad in
    let second : get_or s (at + 1) 0 ≡ get_or t (from + 1) 0 =
    sym (get_or-take size (drop at s) 1 0 (omega (arith, g, x.long)) ∙ get_or-drop at s 1 0)
    ∙ ap (λ (l : List ℕ). get_or l 1 0) same ∙ get_or-take other (drop from t) 1 0 (omega (arith, h, y.long)) ∙ get_or-drop from t 1 0 in
    let here = contents-at s at x.end e u.0 in
    let there : f.contents ≡ from + skip_of (get_or s (at + 1) 0) = contents-at t from y.end f v.0 ∙ ap (λ (n : ℕ). from + skip_of n) (sym second) in
    let twin : Twin s t at from size (same ∙ ap (λ (n : ℕ). take n (drop from t)) (sym equal)) (omega (arith, g, x.long)) (omega (arith, h, y.long, equal)) e f =
    record {
      tag = u.1 ∙ sym v.1;
      contents = omega (arith, here, there);
      end = omega (arith, g, h, x.long, y.long, equal);
      low = omega (arith, g);
      order = omega (arith, g);
      high = omega (arith, g, x.long);
    } in
    two_same (sym x.letters ∙ moved-letters s t at from size _ _ _ twin x.named y.named ∙ y.letters)
