-- A stretch of octets without its first ones is a stretch, and so are the contents of an element in it; a list of elements is read
-- when its first element is and the rest is.
use Prim.Native.Nat.{ℕ, zero, suc, ◌+◌, ◌-◌, ◌≤◌, ◌<◌}
use mathlib.Core.Path.{◌≡◌, refl, sym, ◌∙◌}
use mathlib.Core.Bool.{Bool, false}
use mathlib.Core.List.{List, [], ◌∷◌}
use native.Mathlib.Omega.{arith}
use lib.ListN.{length, take, drop, length-take, length-drop}
use lib.Seq.{take-take, drop-drop}
use Rattle.der.specs.Forms.{Forms}
use Rattle.der.specs.Order.{handed}
use Rattle.der.specs.Fast.{stretch, Fills}
use Rattle.der.proofs.Laws.{list_done, list-more}
use Rattle.der.proofs.Enough.{ElementIs}
use Rattle.der.proofs.Payloads.{a_read}

pub passes_none : (forms : Forms) (set : Bool) (s : List ℕ) (depth count : ℕ) → length s ≡ 0 → Fills forms set s depth count count
passes_none forms set s depth count h base zero enough = absurd (omega arith)
passes_none forms set s depth count h base (suc fuel) enough = sym (list_done forms fuel set [] s base depth count h)

module _ (forms : Forms) (s : List ℕ) (depth count : ℕ) {used m : ℕ} (f : (base : ℕ) → ElementIs forms [] s base depth count (a_read used m))
    (some : 0 < length s) where
  pub passes-more : {n : ℕ} → 2 ≤ used → used ≤ length s → Fills forms false (drop used s) depth m n → Fills forms false s depth count n
  unfolding handed
  passes-more wide within g base zero enough = absurd (omega arith)
  passes-more {n} wide within g base (suc fuel) enough =
      g (base + used) fuel (omega (arith, length-drop used s))
      ∙ sym (list-more forms fuel false [] s base depth count (λ e. omega arith) used m (sym (f base fuel (omega arith))))

  -- one element that fills the list, whatever the list is of
  pub passes-one : (set : Bool) → used ≡ length s → Fills forms set s depth count m
  passes-one set all base zero enough = absurd (omega arith)
  passes-one set all base (suc zero) enough = absurd (omega arith)
  passes-one set all base (suc (suc fuel)) enough =
      sym (list-more forms (suc fuel) set [] s base depth count (λ e. omega arith) used m (sym (f base (suc fuel) (omega arith)))
      ∙ list_done forms fuel set (handed set (take used s)) (drop used s) (base + used) depth m (omega (arith, length-drop used s)))

-- a stretch without its first octets
drop-taken : (k n : ℕ) (l : List ℕ) → drop k (take n l) ≡ take (n - k) (drop k l)
drop-taken zero n l = let z : n - 0 ≡ n = omega arith in rw z refl
drop-taken (suc k) zero l = let z : 0 - suc k ≡ 0 = omega arith in rw z refl
drop-taken (suc k) (suc n) [] = nothing (suc n - suc k)
  where
    nothing : (m : ℕ) → ◌≡◌ {A = List ℕ} [] (take m [])
    nothing zero = refl
    nothing (suc m) = refl
drop-taken (suc k) (suc n) (x ∷ xs) = let z : suc n - suc k ≡ n - k = omega arith in drop-taken k n xs ∙ rw z refl

pub part-drop : (s : List ℕ) (i k e : ℕ) → drop k (stretch s i e) ≡ stretch s (i + k) e
part-drop s i k e =
    let n : e - i - k ≡ e - (i + k) = omega arith in
    drop-taken k (e - i) (drop i s) ∙ rw (drop-drop k i s, n) refl

-- the contents of an element, as a part of the item and as a part of the stretch that it stands in
pub part-inner :
    (s : List ℕ) (i skip size e : ℕ) {from stop : ℕ} → from ≡ i + skip → stop ≡ from + size → stop ≤ e
    → stretch s from stop ≡ take (skip + size - skip) (drop skip (stretch s i e))
part-inner s i skip size e {from} {stop} starts ends h =
    let wide : stop - from ≡ skip + size - skip = omega arith in
    rw (part-drop s i skip e, ← starts, wide) (sym (take-take (skip + size - skip) (e - from) (drop from s) (omega arith)))

pub part_length : (s : List ℕ) (i e : ℕ) → e ≤ length s → length (stretch s i e) ≡ e - i
part_length s i e h = omega (arith, length-take (e - i) (drop i s), length-drop i s)
