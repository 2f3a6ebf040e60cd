-- The length octets of the long forms as numbers: one octet, two octets, three octets; and what a length in the long form comes to.
use Rattle.std.specs.Prelude.{None}
use mathlib.Core.Path.{◌≡◌, refl, ◌∙◌}
use mathlib.Core.List.{List}
use Prim.Native.Nat.{ℕ, ◌+◌, ◌*◌, ◌<◌, ◌≤◌}
use native.Mathlib.Omega.{arith}
use borrow.Author.Tests.{le-leb, lt-leb}
use lib.ListN.{length, get_or, take, drop, length-drop}
use lib.Seq.{get_or-drop}
use Rattle.octets.specs.Octets.{number}
use Rattle.octets.proofs.Weights.{number-next}
use Rattle.der.specs.Heading.{within, smallest, long}
use Rattle.der.specs.Forms.{Forms}

module _ (s : List ℕ) (at : ℕ) where
  pub one-octet : at + 1 ≤ length s → number (take 1 (drop at s)) ≡ get_or s at 0
  unfolding number
  one-octet h =
      let more : 0 < length (drop at s) = rw length-drop (omega arith) in
      let z : at + 0 ≡ at = omega arith in
      number-next (drop at s) 0 more ∙ rw (get_or-drop at s 0 0, z) (omega arith)

  pub two-octets : at + 2 ≤ length s → number (take 2 (drop at s)) ≡ get_or s at 0 * 256 + get_or s (at + 1) 0
  two-octets h =
      let more : 1 < length (drop at s) = rw length-drop (omega arith) in
      number-next (drop at s) 1 more ∙ rw (one-octet (omega arith), get_or-drop at s 1 0) refl

  pub three-octets : at + 3 ≤ length s → number (take 3 (drop at s)) ≡ (get_or s at 0 * 256 + get_or s (at + 1) 0) * 256 + get_or s (at + 2) 0
  three-octets h =
      let more : 2 < length (drop at s) = rw length-drop (omega arith) in
      number-next (drop at s) 2 more ∙ rw (two-octets (omega arith), get_or-drop at s 2 0) refl

module _ (forms : Forms) (s : List ℕ) (tag at k : ℕ) where
  -- no count of octets but those that the forms have
  pub long-none : k ≡ 0 → None ≡ long forms s tag at k
  unfolding long
  long-none e = rw e refl

  pub long-many : forms.length_octets < k → None ≡ long forms s tag at k
  unfolding long
  long-many h =
      let some : 1 ≤ k = omega arith in
      simp (le-leb _ _ some, lt-leb _ _ h)

  module _ (some : 1 ≤ k) (told : k ≤ forms.length_octets) where
    pub long-cut : length s < at + k → None ≡ long forms s tag at k
    unfolding long
    long-cut h = simp (le-leb _ _ some, le-leb _ _ told, lt-leb _ _ h)

    module _ (there : at + k ≤ length s) {n : ℕ} (e : number (take k (drop at s)) ≡ n) where
      pub long-small : n < smallest k → None ≡ long forms s tag at k
      unfolding long
      long-small h = simp (le-leb _ _ some, le-leb _ _ told, le-leb _ _ there, e, lt-leb _ _ h)

      pub long-sized : smallest k ≤ n → long forms s tag at k ≡ within s tag (at + k) n
      unfolding long
      long-sized h = simp (le-leb _ _ some, le-leb _ _ told, le-leb _ _ there, e, le-leb _ _ h)
