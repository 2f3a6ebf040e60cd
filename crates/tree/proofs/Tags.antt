-- The identifier octets of a tag, one or two, tell it; the length octets follow.
use mathlib.Core.Path.{◌≡◌, refl, sym, ◌∙◌, ap}
use mathlib.Core.Bool.{true, false, false≢true, ◌&&◌, and-eq-true_iff}
use mathlib.Core.List.{List, [], ◌∷◌, ◌++◌}
use Prim.Native.Nat.{ℕ, suc, ◌+◌, ◌*◌, ◌/◌, ◌%◌, ◌≤◌, ◌<◌}
use native.Mathlib.Nat.{div-add-mod'}
use native.Mathlib.Omega.{arith}
use borrow.Author.Tests.{lt-ltb, le-ltb, eq-eqb, ltb-true, ltb-false, leb-true, eqb-true}
use lib.Dec.{ltb, eqb}
use lib.ListN.{length, get_or}
use Rattle.der.specs.Forms.{Forms}
use Rattle.der.specs.Heading.{identifier_good, wide_good, sized, wide_heading, heading_of}
use Rattle.tree.specs.Tree.{identifier, leading, tag_good}
use Rattle.tree.proofs.Cases.{by-test, cond-by}

pub identifier-one : (tag : ℕ) → tag < 256 → identifier tag ≡ tag ∷ []
unfolding identifier
identifier-one tag h = rw (lt-ltb tag 256 h)

pub identifier-two : (tag : ℕ) → 256 ≤ tag → identifier tag ≡ tag / 256 ∷ tag % 256 ∷ []
unfolding identifier
identifier-two tag h = rw (le-ltb tag 256 h)

pub identifier-some : (tag : ℕ) → 1 ≤ length (identifier tag)
unfolding identifier
identifier-some tag = cond-by (λ (l : List ℕ). 1 ≤ length l) (ltb tag 256) (λ t. omega arith) (λ f. omega arith)

pub leading-first : (tag : ℕ) (t : List ℕ) → get_or (identifier tag ++ t) 0 0 ≡ leading tag
unfolding identifier leading
leading-first tag t = by-test (ltb tag 256) (λ e. rw e refl) (λ e. rw e refl)

-- what the two octets of a wide tag are known to be
pub wide-octets : (x y : ℕ) → wide_good x y ≡ true → (x % 32 ≡ 31) × (y ≤ 127)
unfolding wide_good
wide-octets x y h =
    by-test (eqb (x % 32) 31)
    (λ a. by-test (eqb x 63) (λ b. absurd (false≢true (simp (a, b) at h)))
    λ b. by-test (ltb y 31) (λ d. absurd (false≢true (simp (a, b, d) at h)))
    λ d. (eqb-true _ _ a, leb-true _ _ (simp (a, b, d) at h)))
    λ a. absurd (false≢true (simp a at h))

-- a first octet of two is no tag by itself
not-one : (x : ℕ) → x % 32 ≡ 31 → identifier_good x ≡ false
unfolding identifier_good
not-one x h = simp (eq-eqb _ _ h)

module _ (forms : Forms) where
  heading-one : (tag : ℕ) (t : List ℕ) → 1 ≤ length t → identifier_good tag ≡ true → heading_of forms (tag ∷ t) ≡ sized forms (tag ∷ t) tag 1
  unfolding heading_of
  heading-one tag t some good =
      let two : 2 ≤ suc (length t) = omega arith in
      simp (le-ltb _ _ two, good)

  heading-two :
      (x y : ℕ) (t : List ℕ) → forms.wide_tags ≡ true → wide_good x y ≡ true
      → heading_of forms (x ∷ y ∷ t) ≡ sized forms (x ∷ y ∷ t) (x * 256 + y) 2
  unfolding heading_of wide_heading
  heading-two x y t wide good =
      let two : 2 ≤ suc (suc (length t)) = omega arith in
      simp (le-ltb _ _ two, not-one x (wide-octets x y good).0, wide, good)

  good-one : (tag : ℕ) → tag < 256 → tag_good forms tag ≡ identifier_good tag
  unfolding tag_good
  good-one tag h = rw (lt-ltb tag 256 h)

  good-two : (tag : ℕ) → 256 ≤ tag → tag_good forms tag ≡ forms.wide_tags && wide_good (tag / 256) (tag % 256)
  unfolding tag_good
  good-two tag h = rw (le-ltb tag 256 h)

  -- a good tag is read back, and the length octets come next
  pub heading-tag :
      (tag : ℕ) (t : List ℕ) → 1 ≤ length t → tag_good forms tag ≡ true
      → heading_of forms (identifier tag ++ t) ≡ sized forms (identifier tag ++ t) tag (length (identifier tag))
  heading-tag tag t some good =
      by-test (ltb tag 256)
      (λ a. let small : tag < 256 = ltb-true _ _ a in
      rw (identifier-one tag small) (heading-one tag t some (sym (good-one tag small) ∙ good)))
      λ a. let large : 256 ≤ tag = ltb-false _ _ a in
      let both = (and-eq-true_iff forms.wide_tags _).0 (sym (good-two tag large) ∙ good) in
      let all : tag / 256 * 256 + tag % 256 ≡ tag = div-add-mod' tag 256 in
      rw (identifier-two tag large)
      (heading-two (tag / 256) (tag % 256) t both.0 both.1 ∙ ap (λ (n : ℕ). sized forms (tag / 256 ∷ tag % 256 ∷ t) n 2) all)

  -- the octets of a tag, as a record of what they tell
  pub record Tagged (tag first : ℕ) (front : List ℕ) : Type 0 where
    pub octets : identifier tag ≡ front
    pub fits : tag < 65536
    pub good : tag_good forms tag ≡ true
    pub leads : leading tag ≡ first

  pub tagged-one-octet : (tag : ℕ) → tag < 256 → identifier_good tag ≡ true → Tagged tag tag (tag ∷ [])
  unfolding leading
  tagged-one-octet tag h good =
      record { octets = identifier-one tag h; fits = omega arith; good = good-one tag h ∙ good; leads = rw (lt-ltb tag 256 h) }

  pub tagged-two-octets : (x y : ℕ) → x < 256 → forms.wide_tags ≡ true → wide_good x y ≡ true → Tagged (x * 256 + y) x (x ∷ y ∷ [])
  unfolding leading
  tagged-two-octets x y h wide good =
      let (first, second) = wide-octets x y good in
      let large : 256 ≤ x * 256 + y = omega arith in
      let high : (x * 256 + y) / 256 ≡ x = omega arith in
      let low : (x * 256 + y) % 256 ≡ y = omega arith in
      record {
        octets = identifier-two _ large ∙ rw (high, low) refl;
        fits = omega arith;
        good = good-two _ large ∙ rw (high, low, wide) good;
        leads = rw (le-ltb _ _ large) high;
      }
