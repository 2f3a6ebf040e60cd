-- The letters of a name are told by its octets alone, wherever they stand: what is read of a stretch is read of another with the same
-- octets, as far on.
use Rattle.std.specs.Prelude.{Option, Some, None}
use Prim.Native.Nat.{ℕ, zero, suc, ◌+◌, ◌-◌, ◌≤◌}
use mathlib.Core.Path.{◌≡◌, refl, sym, ap, ◌∙◌}
use mathlib.Core.Bool.{Bool, true, false, cond}
use mathlib.Core.List.{List, [], ◌∷◌}
use native.Mathlib.Omega.{arith}
use borrow.Author.Tests.{le-leb, leb-true, leb-false, eqb-true, eqb-false}
use lib.Dec.{leb, eqb}
use lib.ListN.{length, take, drop, length-take, length-drop}
use lib.Seq.{take-take}
use Rattle.der.specs.declared.heading.Heading.{Heading}
use Rattle.der.specs.Forms.{paper}
use Rattle.der.specs.Heading.{heading_of}
use Rattle.der.specs.Member.{placed, member_of}
use Rattle.der.proofs.Bounds.{heading-within}
use Rattle.der.proofs.Parts.{part-drop}
use Rattle.elements.specs.declared.elements.Element.{Element}
use Rattle.elements.specs.Elements.{stepped, found_at, with_tag, found_tagged, on_found, members_of, inside, contents_of}
use Rattle.elements.proofs.Members.{found_within, members-none, members-more}
use Rattle.octets.specs.Alike.{alike}
use Rattle.names.specs.declared.Attribute.{Attribute}
use Rattle.names.specs.declared.Attribute.TheVariants.{Country, Other, Misshapen}
use Rattle.names.specs.declared.Seen.{Seen}
use Rattle.names.specs.declared.Seen.TheVariants.{Never, Once, Often}
use Rattle.names.specs.Names.{country_name, attribute_of, one_more, attributed, attributes_of, one_set, after_set, sets_of, name_of, letters_in, letters_of}

-- a part of a stretch
inner :
    (s : List ℕ) (a size m n : ℕ) → a ≤ m → n ≤ a + size
    → take (n - m) (drop m s) ≡ take (n - m) (drop (m - a) (take size (drop a s)))
inner s a size m n low high =
    let here : a + (m - a) ≡ m = omega arith in
    let wide : a + size - a ≡ size = omega arith in
    let d : drop (m - a) (take size (drop a s)) ≡ take (a + size - m) (drop m s) = rw (here, wide) at (part-drop s a (m - a) (a + size)) in
    sym (ap (take (n - m)) d ∙ take-take (n - m) (a + size - m) (drop m s) (omega arith))

-- a test of two numbers, and of two others as far on
moved-eqb : (a b m n p q : ℕ) → m + b ≡ p + a → n + b ≡ q + a → eqb m n ≡ eqb p q
moved-eqb a b m n p q e f = go (eqb m n) refl (eqb p q) refl
  where
    go : (x : Bool) → eqb m n ≡ x → (y : Bool) → eqb p q ≡ y → x ≡ y
    go true g true h = refl
    go false g false h = refl
    go true g false h = absurd (eqb-false p q h (let k : m ≡ n = eqb-true m n g in omega arith))
    go false g true h = absurd (eqb-false m n g (let k : p ≡ q = eqb-true p q h in omega arith))

-- what holds of the answers of two tests that agree
cond_both :
    {A : Type 0} (R : A → A → Type 0) (c d : Bool) {x y u v : A} → c ≡ d → R x u → R y v → R (cond c x y) (cond d u v)
cond_both R true true e r q = r
cond_both R false false e r q = q
cond_both R true false e r q = absurd (let z : ◌≡◌ {A = ℕ} 0 1 = cc in omega arith)
cond_both R false true e r q = absurd (let z : ◌≡◌ {A = ℕ} 0 1 = cc in omega arith)

module _ (s t : List ℕ) (a b size : ℕ) (same : take size (drop a s) ≡ take size (drop b t)) (left : a + size ≤ length s) (right : b + size ≤ length t) where
  part_same :
      (m n p q : ℕ) → m + b ≡ p + a → n + b ≡ q + a → a ≤ m → n ≤ a + size → take (n - m) (drop m s) ≡ take (q - p) (drop p t)
  part_same m n p q e f low high =
      let wide : n - m ≡ q - p = omega arith in
      let from : m - a ≡ p - b = omega arith in
      inner s a size m n low high ∙ ap (λ (l : List ℕ). take (n - m) (drop (m - a) l)) same
      ∙ rw (wide, from) (sym (inner t b size p q (omega arith) (omega arith)))

  -- an element of the one stretch, and the one as far on in the other
  pub record Twin (x y : Element) : Type 0 where
    pub tag : x.tag ≡ y.tag
    pub contents : x.contents + b ≡ y.contents + a
    pub end : x.end + b ≡ y.end + a
    pub low : a ≤ x.contents
    pub order : x.contents ≤ x.end
    pub high : x.end ≤ a + size

  twin-contents : {x y : Element} → Twin x y → contents_of s x ≡ contents_of t y
  unfolding contents_of
  twin-contents {x} {y} w = part_same x.contents x.end y.contents y.end w.contents w.end w.low w.high

  tag_same : {x y : Element} → Twin x y → (tag : ℕ) → eqb x.tag tag ≡ eqb y.tag tag
  tag_same w tag = ap (λ (n : ℕ). eqb n tag) w.tag

  data Both : Option Element → Option Element → Type 0 where
    neither : Both None None
    each : {x y : Element} → Twin x y → Both (Some x) (Some y)

  headed :
      (m n p q : ℕ) → m + b ≡ p + a → n + b ≡ q + a → a ≤ m → m ≤ n → n ≤ a + size → (h : Option Heading)
      → heading_of paper (take (q - p) (drop p t)) ≡ h → Both (stepped m (placed m h)) (stepped p (placed p h))
  unfolding stepped placed
  headed m n p q e f low order high None h = neither
  headed m n p q e f low order high (Some h1) h =
      let w = heading-within paper (take (q - p) (drop p t)) h1.tag h1.skip h1.size h in
      let l = length-take (q - p) (drop p t) in
      let k = length-drop p t in
      each
      {x = record { tag = h1.tag; at = m; contents = m + h1.skip; end = m + h1.skip + h1.size }}
      {y = record { tag = h1.tag; at = p; contents = p + h1.skip; end = p + h1.skip + h1.size }}
      (record {
        tag = refl;
        contents = omega arith;
        end = omega arith;
        low = omega arith;
        order = omega arith;
        high = omega (arith, w.0, w.1, l);
      })

  found-both : (m n p q : ℕ) → m + b ≡ p + a → n + b ≡ q + a → a ≤ m → n ≤ a + size → Both (found_at paper s m n) (found_at paper t p q)
  unfolding found_at stepped member_of
  found-both m n p q e f low high = go (leb m n) refl (leb p q) refl
    where
      go :
          (g : Bool) → leb m n ≡ g → (h : Bool) → leb p q ≡ h
          → Both (stepped m (cond g (cond (leb n (length s)) (placed m (heading_of paper (take (n - m) (drop m s)))) None) None))
          (stepped p (cond h (cond (leb q (length t)) (placed p (heading_of paper (take (q - p) (drop p t)))) None) None))
      go true u true v =
          let order : m ≤ n = leb-true m n u in
          let here : leb n (length s) ≡ true = le-leb n (length s) (omega arith) in
          let there : leb q (length t) ≡ true = le-leb q (length t) (omega arith) in
          rw (here, there, part_same m n p q e f low high)
          (headed m n p q e f low order high (heading_of paper (take (q - p) (drop p t))) refl)
      go false u false v = neither
      go true u false v = absurd (let k = leb-true m n u in let l = leb-false p q v in omega arith)
      go false u true v = absurd (let k = leb-false m n u in let l = leb-true p q v in omega arith)

  tagged-both : (tag : ℕ) {f g : Option Element} → Both f g → Both (with_tag tag f) (with_tag tag g)
  unfolding with_tag
  tagged-both tag neither = neither
  tagged-both tag (each {x = x} {y = y} w) = cond_both Both (eqb x.tag tag) (eqb y.tag tag) (tag_same w tag) (each w) neither

  on_both :
      {A : Type 0} (R : A → A → Type 0) {f g : Option Element} {u v : A} {k l : Element → A} → Both f g → R u v
      → ((x y : Element) → f ≡ Some x → Twin x y → R (k x) (l y)) → R (on_found f u k) (on_found g v l)
  unfolding on_found
  on_both R neither r q = r
  on_both R (each {x = x} {y = y} w) r q = q x y refl w

  data Lists : List Element → List Element → Type 0 where
    none : Lists [] []
    more : {x y : Element} {xs ys : List Element} → Twin x y → Lists xs ys → Lists (x ∷ xs) (y ∷ ys)

  lists-long : {xs ys : List Element} → Lists xs ys → length xs ≡ length ys
  lists-long none = refl
  lists-long (more w l) = ap suc (lists-long l)

  members-both :
      (fuel m n p q : ℕ) → n - m ≤ fuel → m + b ≡ p + a → n + b ≡ q + a → a ≤ m → n ≤ a + size
      → Lists (members_of paper s m n) (members_of paper t p q)
  members-both zero m n p q enough e f low high = go (found_at paper s m n) (found_at paper t p q) refl refl (found-both m n p q e f low high)
    where
      go : (u v : Option Element) → found_at paper s m n ≡ u → found_at paper t p q ≡ v → Both u v → Lists (members_of paper s m n) (members_of paper t p q)
      go None None g h neither = rw (members-none s m n g, members-none t p q h) none
      go (Some x) (Some y) g h (each w) = absurd (omega (arith, found_within s m n g))
      go (Some x) None g h b = elim b [ ]
      go None (Some y) g h b = elim b [ ]
  members-both (suc fuel) m n p q enough e f low high =
      go (λ x y. members-both fuel x.end n y.end q) (found_at paper s m n) (found_at paper t p q) refl refl (found-both m n p q e f low high)
    where
      go :
          ((x y : Element) → n - x.end ≤ fuel → x.end + b ≡ y.end + a → n + b ≡ q + a → a ≤ x.end → n ≤ a + size
          → Lists (members_of paper s x.end n) (members_of paper t y.end q))
          → (u v : Option Element) → found_at paper s m n ≡ u → found_at paper t p q ≡ v → Both u v → Lists (members_of paper s m n) (members_of paper t p q)
      go rest None None g h neither = rw (members-none s m n g, members-none t p q h) none
      go rest (Some x) (Some y) g h (each w) =
          rw (members-more s m n g, members-more t p q h)
          (more w (rest x y (omega (arith, found_within s m n g)) w.end f (omega (arith, w.low, w.order)) high))
      go rest (Some x) None g h b = elim b [ ]
      go rest None (Some y) g h b = elim b [ ]

  inside_both : {x y : Element} → Twin x y → Lists (inside paper s x) (inside paper t y)
  unfolding inside
  inside_both {x} {y} w = members-both (x.end - x.contents) x.contents x.end y.contents y.end (omega arith) w.contents w.end w.low w.high

  data Tells : Attribute → Attribute → Type 0 where
    misshapen : Tells Misshapen Misshapen
    other : Tells Other Other
    country : {x y : Element} → Twin x y → Tells (Country x) (Country y)

  attribute-both : {x y : Element} → Twin x y → Tells (attribute_of paper s x) (attribute_of paper t y)
  unfolding attribute_of found_tagged
  attribute-both {x} {y} w =
      cond_both Tells (eqb x.tag 0x30) (eqb y.tag 0x30) (tag_same w 0x30)
      (on_both Tells (tagged-both 0x06 (found-both x.contents x.end y.contents y.end w.contents w.end w.low w.high)) misshapen
      (λ i j f v.
      on_both Tells (found-both i.end x.end j.end y.end v.end w.end (omega (arith, v.low, v.order)) w.high) misshapen
      (λ k l g z.
      cond_both Tells (eqb k.end x.end) (eqb l.end y.end) (moved-eqb a b k.end x.end l.end y.end z.end w.end)
      (cond_both Tells (alike (contents_of s i) country_name) (alike (contents_of t j) country_name)
      (ap (λ (c : List ℕ). alike c country_name) (twin-contents v)) (country z) other)
      misshapen)))
      misshapen

  data Sees : Seen → Seen → Type 0 where
    never : Sees Never Never
    once : {x y : Element} → Twin x y → Sees (Once x) (Once y)
    often : Sees Often Often

  one-both : {p q : Seen} {x y : Element} → Sees p q → Twin x y → Sees (one_more p x) (one_more q y)
  unfolding one_more
  one-both never w = once w
  one-both (once v) w = often
  one-both often w = often

  data Names : Option Seen → Option Seen → Type 0 where
    shapeless : Names None None
    holds : {p q : Seen} → Sees p q → Names (Some p) (Some q)

  attributed-both :
      {u v : Attribute} {p q : Seen} {k l : Seen → Option Seen} → Tells u v → Sees p q → ((g h : Seen) → Sees g h → Names (k g) (l h))
      → Names (attributed u p k) (attributed v q l)
  unfolding attributed
  attributed-both misshapen e next = shapeless
  attributed-both {p = p} {q = q} other e next = next p q e
  attributed-both {p = p} {q = q} (country {x = x} {y = y} w) e next = next (one_more p x) (one_more q y) (one-both e w)

  attributes-both : {xs ys : List Element} → Lists xs ys → (p q : Seen) → Sees p q → Names (attributes_of paper s xs p) (attributes_of paper t ys q)
  unfolding attributes_of
  attributes-both none p q e = holds e
  attributes-both (more w l) p q e = attributed-both (attribute-both w) e (λ g h f. attributes-both l g h f)

  set_both : {x y : Element} → Twin x y → (p q : Seen) → Sees p q → Names (one_set paper s x p) (one_set paper t y q)
  unfolding one_set
  set_both {x} {y} w p q e =
      cond_both Names (eqb x.tag 0x31) (eqb y.tag 0x31) (tag_same w 0x31)
      (cond_both Names (eqb (length (inside paper s x)) 0) (eqb (length (inside paper t y)) 0) (ap (λ (n : ℕ). eqb n 0) (lists-long (inside_both w))) shapeless
      (attributes-both (inside_both w) p q e))
      shapeless

  after_both :
      {u v : Option Seen} {k l : Seen → Option Seen} → Names u v → ((g h : Seen) → Sees g h → Names (k g) (l h)) → Names (after_set u k) (after_set v l)
  unfolding after_set
  after_both shapeless next = shapeless
  after_both (holds {p = p} {q = q} e) next = next p q e

  sets-both : {xs ys : List Element} → Lists xs ys → (p q : Seen) → Sees p q → Names (sets_of paper s xs p) (sets_of paper t ys q)
  unfolding sets_of
  sets-both none p q e = holds e
  sets-both (more w l) p q e = after_both (set_both w p q e) (λ g h f. sets-both l g h f)

  name-both : {x y : Element} → Twin x y → Names (name_of paper s x) (name_of paper t y)
  unfolding name_of
  name-both {x} {y} w =
      cond_both Names (eqb x.tag 0x30) (eqb y.tag 0x30) (tag_same w 0x30) (sets-both (inside_both w) Never Never never) shapeless

  letters-both : {p q : Seen} → Sees p q → letters_of s p ≡ letters_of t q
  unfolding letters_of
  letters-both never = refl
  letters-both often = refl
  letters-both (once {x = x} {y = y} w) = ap (λ (n : ℕ). letters_in n (contents_of s x)) w.tag ∙ ap (letters_in y.tag) (twin-contents w)

  -- the letters of one name are those of the other
  pub moved-letters : {x y : Element} {p q : Seen} → Twin x y → name_of paper s x ≡ Some p → name_of paper t y ≡ Some q → letters_of s p ≡ letters_of t q
  moved-letters {x} {y} {p} {q} w e f = go (name_of paper s x) (name_of paper t y) e f (name-both w)
    where
      go : (u v : Option Seen) → u ≡ Some p → v ≡ Some q → Names u v → letters_of s p ≡ letters_of t q
      go None None g h shapeless = absurd (let z : ◌≡◌ {A = ℕ} 0 1 = cc in omega arith)
      go (Some c) (Some d) g h (holds k) =
          let i : c ≡ p = cc in
          let j : d ≡ q = cc in
          ap (letters_of s) (sym i) ∙ letters-both k ∙ ap (letters_of t) j
      go (Some c) None g h b = elim b [ ]
      go None (Some d) g h b = elim b [ ]
