-- Lengths are written in one way only, so what a header is read from is what `tagged` writes.
use Rattle.std.specs.Prelude.{Option, Some, None}
use mathlib.Core.Path.{◌≡◌, refl, sym, ◌∙◌, ap, subst}
use mathlib.Core.Bool.{true, ◌&&◌, and-eq-true_iff}
use mathlib.Core.List.{List, [], ◌∷◌, ◌++◌, append_assoc}
use Prim.Native.Nat.{ℕ, suc, ◌+◌, ◌-◌, ◌*◌, ◌^◌, ◌≤◌, ◌<◌}
use native.Mathlib.Nat.{pow-le-pow_right}
use native.Mathlib.Omega.{arith}
use borrow.Author.Tests.{ltb-true, ltb-false, leb-true}
use lib.Dec.{ltb, leb}
use lib.ListN.{length, get_or, take, drop, length-drop, length-append, take-append-drop}
use lib.Seq.{take-add, length-take-le}
use Rattle.der.specs.declared.heading.Heading.{Heading}
use Rattle.der.specs.Forms.{Forms}
use Rattle.octets.specs.Octets.{Octets, octet, number, big}
use Rattle.der.specs.Heading.{identifier_good, wide_good, within, smallest, long, sized, wide_heading, heading_of}
use Rattle.tree.specs.Tree.{length_width, length_encoded, identifier, leading, tagged, tag_good}
use Rattle.tree.proofs.Cases.{cond-by}
use Rattle.tree.proofs.Tags.{Tagged, tagged-one-octet, tagged-two-octets}
use Rattle.tree.proofs.Numbers.{number-below, big-number, octets-take, octets-drop}
use Rattle.tree.proofs.Lengths.{Width, width_one, width-large}
use Rattle.tree.proofs.Headings.{told, encoded-short, encoded-long, Seam, seam, length-tagged}
use Rattle.der.proofs.Payloads.{a_heading}

-- the tag that the first octets tell, and where the length octets start
data Front (forms : Forms) (s : List ℕ) (tag at : ℕ) : Type 0 where
  one : at ≡ 1 → get_or s 0 0 ≡ tag → identifier_good tag ≡ true → Front forms s tag at
  two :
      at ≡ 2 → get_or s 0 0 * 256 + get_or s 1 0 ≡ tag → forms.wide_tags ≡ true → wide_good (get_or s 0 0) (get_or s 1 0) ≡ true
      → Front forms s tag at

-- what the length octets tell
data Form (forms : Forms) (s : List ℕ) (at skip size : ℕ) : Type 0 where
  short : skip ≡ at + 1 → get_or s at 0 ≡ size → size < 128 → Form forms s at skip size
  longer :
      (k : ℕ) → skip ≡ at + 1 + k → 128 ≤ get_or s at 0 → get_or s at 0 - 128 ≡ k → 1 ≤ k → k ≤ forms.length_octets
      → number (take k (drop (at + 1) s)) ≡ size → smallest k ≤ size → Form forms s at skip size

pub record Headed (forms : Forms) (s : List ℕ) (tag skip size : ℕ) : Type 0 where
  pub some : 2 ≤ skip
  pub fits : skip + size ≤ length s
  at : ℕ
  front : Front forms s tag at
  form : Form forms s at skip size

abbrev Told : Forms → List ℕ → Option Heading → Type 0
Told forms s None = Unit {0}
Told forms s (Some h) = Headed forms s h.tag h.skip h.size

sized-told : (forms : Forms) (s : List ℕ) (tag at : ℕ) → 1 ≤ at → Front forms s tag at → Told forms s (sized forms s tag at)
unfolding sized long within
sized-told forms s tag at there front =
    let P : Option Heading → Type 0 = Told forms s in
    cond-by P (leb (length s) at) (λ none. tt) λ more.
    cond-by P (ltb (get_or s at 0) 128)
    (λ small. cond-by P (leb (at + 1 + get_or s at 0) (length s))
    (λ fits. record { some = omega arith; fits = leb-true _ _ fits; at = at; front = front; form = short refl refl (ltb-true _ _ small) })
    λ over. tt)
    λ large. let k : ℕ = get_or s at 0 - 128 in
    let n : ℕ = number (take k (drop (at + 1) s)) in
    cond-by P (leb 1 k && (leb k forms.length_octets && leb (at + 1 + k) (length s)))
    (λ all.
    let rest : leb k forms.length_octets && leb (at + 1 + k) (length s) ≡ true = ((and-eq-true_iff (leb 1 k) _).0 all).1 in
    cond-by P (leb (smallest k) n)
    (λ needed. cond-by P (leb (at + 1 + k + n) (length s))
    (λ fits. record {
      some = omega arith;
      fits = leb-true _ _ fits;
      at = at;
      front = front;
      form = longer k refl (ltb-false _ _ large) refl (leb-true _ _ ((and-eq-true_iff (leb 1 k) _).0 all).0)
          (leb-true _ _ ((and-eq-true_iff (leb k forms.length_octets) _).0 rest).0) refl (leb-true _ _ needed);
    })
    λ over. tt)
    λ idle. tt)
    λ no-form. tt

heading-told : (forms : Forms) (s : List ℕ) → Told forms s (heading_of forms s)
unfolding heading_of wide_heading
heading-told forms s =
    let P : Option Heading → Type 0 = Told forms s in
    cond-by P (ltb (length s) 2) (λ none. tt) λ more.
    cond-by P (identifier_good (get_or s 0 0)) (λ good. sized-told forms s _ 1 (omega arith) (one refl refl good)) λ bad.
    cond-by P forms.wide_tags
    (λ wide. cond-by P (wide_good (get_or s 0 0) (get_or s 1 0)) (λ good. sized-told forms s _ 2 (omega arith) (two refl refl wide good)) λ other. tt)
    λ narrow. tt

-- an element read from octets: its identifier, its encoded length and its contents stand there, before the rest
pub record Taken (forms : Forms) (s : List ℕ) (tag skip size : ℕ) : Type 0 where
  pub octets : tagged tag (take size (drop skip s)) ++ drop (skip + size) s ≡ s
  pub takes : length (tagged tag (take size (drop skip s))) ≡ skip + size
  pub below : length (take size (drop skip s)) < told forms
  pub tag_fits : tag < 65536
  pub good : tag_good forms tag ≡ true
  pub leads : leading tag ≡ get_or s 0 0

pub heading-fits : (forms : Forms) (s : List ℕ) (tag skip size : ℕ) → heading_of forms s ≡ a_heading tag skip size → Headed forms s tag skip size
heading-fits forms s tag skip size e = subst (Told forms s) e (heading-told forms s)

front-octets : (forms : Forms) (s : List ℕ) (tag at : ℕ) → Octets s → 2 ≤ length s → Front forms s tag at → Tagged forms tag (get_or s 0 0) (take at s)
front-octets forms [] tag at o h f = absurd (omega arith)
front-octets forms (x ∷ []) tag at o h f = absurd (omega arith)
front-octets forms (x ∷ y ∷ t) tag at (octet b o) h (one e first good) =
    rw (e, ← first) (tagged-one-octet forms x b (rw first good))
front-octets forms (x ∷ y ∷ t) tag at (octet b o) h (two e all wide good) = rw (e, ← all) (tagged-two-octets forms x y b wide good)

module _ (forms : Forms) (limit : forms.length_octets ≤ 3) (s : List ℕ) (at skip size : ℕ) where
  -- the length octets are those that are written for the length
  record Lengthened : Type 0 where
    octets : length_encoded size ≡ take (skip - at) (drop at s)
    below : size < told forms
    after : at < skip

  length-octets : Octets s → skip + size ≤ length s → Form forms s at skip size → Lengthened
  length-octets o fits f = go (drop at s) refl (octets-drop at o) f
    where
      go : (u : List ℕ) → drop at s ≡ u → Octets u → Form forms s at skip size → Lengthened
      go [] e o (short skips first small) = absurd (omega (arith, length-drop at s, ap length e))
      go [] e o (longer k skips large less some most value needed) = absurd (omega (arith, length-drop at s, ap length e))
      go (x ∷ t) e (octet b o) (short skips first small) =
          let m : Seam s at x t = seam s at x t e in
          let n : skip - at ≡ 1 = omega arith in
          let same : x ≡ size = sym m.first ∙ first in
          record { octets = rw (n, e, encoded-short size small, same) refl; below = omega arith; after = omega arith }
      go (x ∷ t) e (octet b o) (longer k skips large less some most value needed) =
          let m : Seam s at x t = seam s at x t e in
          let n : skip - at ≡ suc k = omega arith in
          let number_is : number (take k t) ≡ size = rw m.rest at value in
          let long : length (take k t) ≡ k = length-take-le k t (omega (arith, m.long)) in
          let holds : number (take k t) < 256 ^ k = rw long at (number-below (octets-take k o)) in
          let fit : Width size k = record { some = some; three = omega arith; needed = needed; holds = rw (← number_is) holds } in
          let power : 256 ^ k ≤ 256 ^ forms.length_octets = pow-le-pow_right (omega arith) most in
          let second : x ≡ 128 + length_width size = omega (arith, width_one size k fit, m.first) in
          let digits : big (length_width size) size ≡ take k t =
          rw (width_one size k fit, ← number_is) (big-number k (octets-take k o) long) in
          record {
            octets = rw (n, e, encoded-long size (width-large size k fit), ← second, digits) refl;
            below = omega arith;
            after = omega arith;
          }

module _ (forms : Forms) (limit : forms.length_octets ≤ 3) (tag skip size : ℕ) where
  pub heading-taken : (s : List ℕ) → Octets s → heading_of forms s ≡ a_heading tag skip size → Taken forms s tag skip size
  unfolding tagged
  heading-taken s o e =
      let c : List ℕ = take size (drop skip s) in
      let d : List ℕ = drop (skip + size) s in
      let h : Headed forms s tag skip size = heading-fits forms s tag skip size e in
      let t : Tagged forms tag (get_or s 0 0) (take h.at s) = front-octets forms s tag h.at o (omega (arith, h.some, h.fits)) h.front in
      let l : Lengthened forms limit s h.at skip size = length-octets forms limit s h.at skip size o h.fits h.form in
      let sum : h.at + (skip - h.at) ≡ skip = omega (arith, l.after) in
      let front : identifier tag ++ length_encoded size ≡ take skip s =
      rw (t.octets, l.octets) (sym (take-add h.at (skip - h.at) s) ∙ ap (λ (k : ℕ). take k s) sum) in
      let long : length c ≡ size = length-take-le size (drop skip s) (omega (arith, length-drop skip s, h.fits)) in
      record {
        octets =
            ap (λ (n : ℕ). (identifier tag ++ (length_encoded n ++ c)) ++ d) long
            ∙ ap (λ (l : List ℕ). l ++ d) (sym (append_assoc (identifier tag) (length_encoded size) c)) ∙ ap (λ (l : List ℕ). (l ++ c) ++ d) front
            ∙ ap (λ (l : List ℕ). l ++ d) (sym (take-add skip size s)) ∙ take-append-drop (skip + size) s;
        takes = omega (arith, length-tagged tag c, ap (λ (k : ℕ). length (length_encoded k)) long, ap length front, length-append (identifier tag) (length_encoded size), length-take-le skip s (omega (arith, h.fits)));
        below = omega (arith, l.below);
        tag_fits = t.fits;
        good = t.good;
        leads = t.leads;
      }
