-- One law for each answer of the walk's definition: what the element and the list come to under the tests that lead there.
use Rattle.std.specs.Prelude.{None, Ok, Err}
use mathlib.Core.Path.{◌≡◌, refl}
use mathlib.Core.Bool.{Bool, true, false, not, ◌&&◌}
use mathlib.Core.List.{List, []}
use Prim.Native.Nat.{ℕ, suc, ◌+◌, ◌*◌, ◌≤◌, ◌<◌}
use native.Mathlib.Omega.{arith}
use borrow.Author.Tests.{lt-ltb, le-ltb, le-leb, lt-leb, eq-eqb, ne_eqb}
use lib.ListN.{length, get_or, take, drop}
use Rattle.refusal.specs.declared.Refusal.{Refusal}
use Rattle.refusal.specs.declared.Refusal.TheVariants.{Der, Limit}
use Rattle.der.specs.Forms.{Forms}
use Rattle.der.specs.Heading.{identifier_good, within, sized, heading_of, constructed}
use Rattle.der.specs.Contents.{contents_good}
use Rattle.der.specs.Order.{smaller, is_set, handed}
use Rattle.der.specs.Walk.{opened, filled, after, element_at, list_at, whole, walk_of}
use Rattle.der.proofs.Payloads.{a_heading}
use Rattle.der.proofs.Payloads.{a_read}

pub and_left : (a b : Bool) → (a && b) ≡ true → a ≡ true
and_left true b e = refl
and_left false b e = e

pub and_right : (a b : Bool) → (a && b) ≡ true → b ≡ true
and_right true b e = e
and_right false b e = let z : ◌≡◌ {A = ℕ} 0 1 = cc in absurd (omega arith)

pub turned : (b : Bool) → not b ≡ true → b ≡ false
turned true e = let z : ◌≡◌ {A = ℕ} 0 1 = cc in absurd (omega arith)
turned false e = refl

pub turned_back : (b : Bool) → not b ≡ false → b ≡ true
turned_back true e = refl
turned_back false e = let z : ◌≡◌ {A = ℕ} 0 1 = cc in absurd (omega arith)

-- a length in the short form
pub short-header :
    (forms : Forms) (s : List ℕ) → 2 ≤ length s → identifier_good (get_or s 0 0) ≡ true → get_or s 1 0 < 128 → 2 + get_or s 1 0 ≤ length s
    → heading_of forms s ≡ a_heading (get_or s 0 0) 2 (get_or s 1 0)
unfolding heading_of sized within
short-header forms s two good short fits = simp (le-ltb _ _ two, good, lt-leb _ 1 two, lt-ltb _ _ short, le-leb _ _ fits)

-- a primitive that is not judged
pub unjudged : (tag : ℕ) (c : List ℕ) → 6 < tag → contents_good tag c ≡ true
unfolding contents_good
unjudged tag c h =
    rw (
      ne_eqb tag 1 (λ e. omega arith),
      ne_eqb tag 2 (λ e. omega arith),
      ne_eqb tag 3 (λ e. omega arith),
      ne_eqb tag 5 (λ e. omega arith),
      ne_eqb tag 6 (λ e. omega arith),
    )

module _ (forms : Forms) (fuel : ℕ) (prior s : List ℕ) (base depth count : ℕ) where
  pub element-bad : heading_of forms s ≡ None → element_at (suc fuel) forms prior s base depth count ≡ Err (Der base)
  unfolding element_at opened
  element-bad e = simp e

  module _ (tag skip size : ℕ) (e : heading_of forms s ≡ a_heading tag skip size) where
    pub element-deep : forms.depth < depth → element_at (suc fuel) forms prior s base depth count ≡ Err (Limit base)
    unfolding element_at opened
    element-deep h = simp (e, lt-ltb _ _ h)

    module _ (shallow : depth ≤ forms.depth) where
      pub element-many : forms.elements ≤ count → element_at (suc fuel) forms prior s base depth count ≡ Err (Limit base)
      unfolding element_at opened
      element-many h = simp (e, le-ltb _ _ shallow, le-leb _ _ h)

      module _ (few : count < forms.elements) where
        pub element-fallen : smaller (take (skip + size) s) prior ≡ true → element_at (suc fuel) forms prior s base depth count ≡ Err (Der base)
        unfolding element_at opened
        element-fallen h = simp (e, le-ltb _ _ shallow, lt-leb _ _ few, h)

        module _ (risen : smaller (take (skip + size) s) prior ≡ false) where
          pub element-node : constructed (get_or s 0 0) ≡ true
              → element_at (suc fuel) forms prior s base depth count
              ≡ filled (skip + size) (list_at fuel forms (is_set tag) [] (take size (drop skip s)) (base + skip) (depth + 1) (count + 1))
          unfolding element_at opened
          element-node h = simp (e, le-ltb _ _ shallow, lt-leb _ _ few, risen, h)

          pub element-leaf : constructed (get_or s 0 0) ≡ false → contents_good tag (take size (drop skip s)) ≡ true
              → element_at (suc fuel) forms prior s base depth count ≡ a_read (skip + size) (count + 1)
          unfolding element_at opened
          element-leaf h g = simp (e, le-ltb _ _ shallow, lt-leb _ _ few, risen, h, g)

          pub element-spoilt : constructed (get_or s 0 0) ≡ false → contents_good tag (take size (drop skip s)) ≡ false
              → element_at (suc fuel) forms prior s base depth count ≡ Err (Der base)
          unfolding element_at opened
          element-spoilt h g = simp (e, le-ltb _ _ shallow, lt-leb _ _ few, risen, h, g)

module _ (forms : Forms) (fuel : ℕ) (set : Bool) (prior s : List ℕ) (base depth count : ℕ) where
  pub list_done : length s ≡ 0 → list_at (suc fuel) forms set prior s base depth count ≡ Ok count
  unfolding list_at
  list_done h = simp (eq-eqb _ _ h)

  module _ (left : length s ≡ 0 → ⊥) where
    pub list-more : (used n : ℕ) → element_at fuel forms prior s base depth count ≡ a_read used n
        → list_at (suc fuel) forms set prior s base depth count ≡ list_at fuel forms set (handed set (take used s)) (drop used s) (base + used) depth n
    unfolding list_at after
    list-more used n e = simp (ne_eqb _ _ left, e)

    pub list-fault : (refusal : Refusal) → element_at fuel forms prior s base depth count ≡ Err refusal
        → list_at (suc fuel) forms set prior s base depth count ≡ Err refusal
    unfolding list_at after
    list-fault refusal e = simp (ne_eqb _ _ left, e)

module _ (forms : Forms) (s : List ℕ) where
  pub walk-long : forms.item_size < length s → walk_of forms s ≡ Err (Limit 0)
  unfolding walk_of
  walk-long h = simp (lt-ltb _ _ h)

  module _ (short : length s ≤ forms.item_size) where
    pub walk-fault :
        {refusal : Refusal} → element_at (2 * length s + 2) forms [] s 0 1 0 ≡ Err refusal → walk_of forms s ≡ Err refusal
    unfolding walk_of whole
    walk-fault e = simp (le-ltb _ _ short, e)

    module _ {used n : ℕ} (e : element_at (2 * length s + 2) forms [] s 0 1 0 ≡ a_read used n) where
      pub walk-passed : used ≡ length s → walk_of forms s ≡ Ok n
      unfolding walk_of whole
      walk-passed h = simp (le-ltb _ _ short, e, eq-eqb _ _ h)

      pub walk-left : (used ≡ length s → ⊥) → walk_of forms s ≡ Err (Der used)
      unfolding walk_of whole
      walk-left h = simp (le-ltb _ _ short, e, ne_eqb _ _ h)
