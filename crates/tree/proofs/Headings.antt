-- The length octets that `tagged` writes tell the length of the contents, so that the header is read back.
use mathlib.Core.Path.{◌≡◌, refl, sym, ◌∙◌, ap}
use mathlib.Core.Bool.{true}
use mathlib.Core.List.{List, [], ◌∷◌, ◌++◌, append_assoc}
use Prim.Native.Nat.{ℕ, suc, ◌+◌, ◌-◌, ◌^◌, ◌≤◌, ◌<◌, max}
use native.Mathlib.Nat.{pow-le-pow_right, mod-eq_of_lt}
use native.Mathlib.Omega.{arith}
use borrow.Author.Tests.{lt-ltb, le-ltb, le-leb, lt-leb, ltb-true, ltb-false}
use lib.Dec.{ltb}
use lib.ListN.{length, get_or, take, drop, length-append, length-drop}
use lib.Seq.{take_at, drop_at, take-append_seam, drop-append_seam, get_or-drop, drop-drop}
use Rattle.der.specs.Forms.{Forms}
use Rattle.octets.specs.Octets.{number, big}
use Rattle.der.specs.Heading.{within, smallest, long, sized, heading_of}
use Rattle.tree.specs.Tree.{length_width, length_encoded, identifier, leading, tagged, tag_good}
use Rattle.tree.proofs.Cases.{by-test, cond-by}
use Rattle.tree.proofs.Tags.{leading-first, heading-tag}
use Rattle.tree.proofs.Numbers.{length-big, number-big}
use Rattle.tree.proofs.Lengths.{Width, width_fits, width-told}
use Rattle.der.proofs.Payloads.{a_heading}

-- one more than the longest length that the forms can tell
abbrev pub told : Forms → ℕ
told forms = max 128 (256 ^ forms.length_octets)

pub encoded-short : (n : ℕ) → n < 128 → length_encoded n ≡ n ∷ []
unfolding length_encoded
encoded-short n h = rw (lt-ltb n 128 h)

pub encoded-long : (n : ℕ) → 128 ≤ n → length_encoded n ≡ (128 + length_width n) ∷ big (length_width n) n
unfolding length_encoded
encoded-long n h = rw (le-ltb n 128 h)

-- octets of which number `at` is x, and t follow it
pub record Seam (s : List ℕ) (at x : ℕ) (t : List ℕ) : Type 0 where
  pub long : length s ≡ at + suc (length t)
  pub first : get_or s at 0 ≡ x
  pub rest : drop (at + 1) s ≡ t

pub seam : (s : List ℕ) (at x : ℕ) (t : List ℕ) → drop at s ≡ x ∷ t → Seam s at x t
seam s at x t e =
    let zero-on : at ≡ at + 0 = omega arith in
    record {
      long = omega (arith, length-drop at s, ap length e);
      first = ap (λ (k : ℕ). get_or s k 0) zero-on ∙ sym (get_or-drop at s 0 0) ∙ ap (λ (l : List ℕ). get_or l 0 0) e;
      rest = sym (drop-drop 1 at s) ∙ ap (drop 1) e;
    }

module _ (forms : Forms) (s : List ℕ) (tag at size : ℕ) (t : List ℕ) where
  sized-short : drop at s ≡ size ∷ t → size < 128 → size ≤ length t → sized forms s tag at ≡ a_heading tag (at + 1) size
  unfolding sized within
  sized-short e small fits =
      let m : Seam s at size t = seam s at size t e in
      let some : at < length s = omega (arith, m.long) in
      let inside : at + 1 + size ≤ length s = omega (arith, m.long) in
      simp (lt-leb _ _ some, m.first, lt-ltb _ _ small, le-leb _ _ inside)

  sized-long :
      (k : ℕ) → drop at s ≡ (128 + k) ∷ t → 1 ≤ k → k ≤ forms.length_octets → number (take k t) ≡ size → smallest k ≤ size → k + size ≤ length t
      → sized forms s tag at ≡ a_heading tag (at + 1 + k) size
  unfolding sized long within
  sized-long k e some most value needed fits =
      let m : Seam s at (128 + k) t = seam s at (128 + k) t e in
      let more : at < length s = omega (arith, m.long) in
      let after : 128 + k - 128 ≡ k = omega arith in
      let there : at + 1 + k ≤ length s = omega (arith, m.long) in
      let inside : at + 1 + k + size ≤ length s = omega (arith, m.long) in
      let large : 128 ≤ 128 + k = omega arith in
      simp (lt-leb _ _ more, m.first, le-ltb _ _ large, after, le-leb _ _ some, le-leb _ _ most, le-leb _ _ there, m.rest, value, le-leb _ _ needed, le-leb _ _ inside)

-- the length octets of an encoded element, whatever comes before and follows
sized-of :
    (forms : Forms) → forms.length_octets ≤ 3 → (s : List ℕ) (tag at : ℕ) (c rest : List ℕ)
    → drop at s ≡ (length_encoded (length c) ++ c) ++ rest → length c < told forms
    → sized forms s tag at ≡ a_heading tag (at + length (length_encoded (length c))) (length c)
sized-of forms limit s tag at c rest e below =
    let n = length c in
    by-test (ltb n 128)
    (λ t. let small : n < 128 = ltb-true _ _ t in
    let octets : length_encoded n ≡ n ∷ [] = encoded-short n small in
    rw octets (sized-short forms s tag at n (c ++ rest) (e ∙ rw octets refl) small (omega (arith, length-append c rest))))
    λ f.
    let large : 128 ≤ n = ltb-false _ _ f in
    let most : 256 ^ forms.length_octets ≤ 256 ^ 3 = pow-le-pow_right (omega arith) limit in
    let w = length_width n in
    let fit : Width n w = width_fits n large (omega arith) in
    let octets : length_encoded n ≡ (128 + w) ∷ big w n = encoded-long n large in
    let skip : at + suc (length (big w n)) ≡ at + 1 + w = omega (arith, length-big w n) in
    let value : number (take w (big w n ++ c ++ rest)) ≡ n =
    rw (append_assoc, take_at (big w n) (c ++ rest) w (length-big w n)) (number-big w n ∙ mod-eq_of_lt fit.holds) in
    rw (octets, skip)
    (sized-long forms s tag at n (big w n ++ c ++ rest) w (e ∙ rw octets refl) fit.some (width-told n w _ fit below) value fit.needed
    (omega (arith, length-append (big w n ++ c) rest, length-append (big w n) c, length-big w n)))

pub length-encoded-some : (n : ℕ) → 1 ≤ length (length_encoded n)
unfolding length_encoded
length-encoded-some n = cond-by (λ (l : List ℕ). 1 ≤ length l) (ltb n 128) (λ t. omega arith) (λ f. omega arith)

-- the octets of the header: identifier and length octets
abbrev pub skipped : ℕ → ℕ → ℕ
skipped tag n = length (identifier tag) + length (length_encoded n)

-- the header of an encoded element, whatever follows it
pub heading-of :
    (forms : Forms) → forms.length_octets ≤ 3 → (tag : ℕ) (c rest : List ℕ) → tag_good forms tag ≡ true → length c < told forms
    → heading_of forms (tagged tag c ++ rest) ≡ a_heading tag (skipped tag (length c)) (length c)
unfolding tagged
heading-of forms limit tag c rest good below =
    let i : List ℕ = identifier tag in
    let l : List ℕ = length_encoded (length c) in
    let some : 1 ≤ length ((l ++ c) ++ rest) = omega (arith, length-append (l ++ c) rest, length-append l c, length-encoded-some (length c)) in
    rw (append_assoc i (l ++ c) rest)
    (heading-tag forms tag ((l ++ c) ++ rest) some good
    ∙ sized-of forms limit (i ++ ((l ++ c) ++ rest)) tag (length i) c rest (drop-append_seam i ((l ++ c) ++ rest)) below)

pub length-tagged : (tag : ℕ) (c : List ℕ) → length (tagged tag c) ≡ skipped tag (length c) + length c
unfolding tagged
length-tagged tag c =
    omega (arith, length-append (identifier tag) (length_encoded (length c) ++ c), length-append (length_encoded (length c)) c)

pub tagged-behind : (tag : ℕ) (c rest : List ℕ) → drop (skipped tag (length c)) (tagged tag c ++ rest) ≡ c ++ rest
unfolding tagged
tagged-behind tag c rest =
    let i : List ℕ = identifier tag in
    let l : List ℕ = length_encoded (length c) in
    let again : (i ++ l) ++ (c ++ rest) ≡ (i ++ (l ++ c)) ++ rest = simp append_assoc in
    rw (← again) (drop_at (i ++ l) (c ++ rest) (length i + length l) (length-append i l))

pub tagged-contents : (tag : ℕ) (c rest : List ℕ) → take (length c) (drop (skipped tag (length c)) (tagged tag c ++ rest)) ≡ c
tagged-contents tag c rest = rw tagged-behind (take-append_seam c rest)

pub tagged-first : (tag : ℕ) (c rest : List ℕ) → get_or (tagged tag c ++ rest) 0 0 ≡ leading tag
unfolding tagged
tagged-first tag c rest = rw append_assoc (leading-first tag _)
