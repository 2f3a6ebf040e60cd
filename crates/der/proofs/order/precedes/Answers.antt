-- Octets that are the same in both change nothing, and the first ones that are not decide.
use Prim.Native.Nat.{ℕ, suc, ◌+◌, ◌≤◌, ◌<◌}
use mathlib.Core.Bool.{Bool, true, false}
use mathlib.Core.List.{List, ◌∷◌}
use mathlib.Core.Path.{◌≡◌, refl, sym, ◌∙◌, ap}
use native.Mathlib.Omega.{arith}
use borrow.Author.Tests.{ltb-true, ltb-false}
use lib.Dec.{ltb}
use lib.ListN.{length, get_or, drop, drop_of_length-le}
use lib.Seq.{drop-cons, drop-drop, get_or-drop}
use Rattle.der.specs.Order.{smaller}
use Rattle.der.proofs.Ascending.{smaller-none, smaller-first, smaller-next, smaller-not, smaller-behind}
use Rattle.der.proofs.order.precedes.Goals as goal

module _ (a b : List ℕ) (i : ℕ) (inv : smaller (drop i a) (drop i b) ≡ smaller a b) where
  ended : length b ≤ i → false ≡ smaller a b
  ended h = sym (smaller-none (drop i a)) ∙ ap (smaller (drop i a)) (sym (drop_of_length-le b h)) ∙ inv

  module _ (more : i < length b) where
    here : smaller (drop i a) (get_or b i 0 ∷ drop (suc i) b) ≡ smaller a b
    here = ap (smaller (drop i a)) (sym (drop-cons b i 0 more)) ∙ inv

    first : get_or (drop i a) 0 0 ≡ get_or a i 0
    first = let z : i + 0 ≡ i = omega arith in get_or-drop i a 0 0 ∙ ap (λ n. get_or a n 0) z

    less : get_or a i 0 < get_or b i 0 → true ≡ smaller a b
    less h = sym (smaller-first (drop i a) (get_or b i 0) (drop (suc i) b) (rw first h)) ∙ here

    greater : get_or b i 0 < get_or a i 0 → false ≡ smaller a b
    greater h = sym (smaller-not (drop i a) (get_or b i 0) (drop (suc i) b) (rw first h)) ∙ here

    differing : (get_or a i 0 ≡ get_or b i 0 → ⊥) → ltb (get_or a i 0) (get_or b i 0) ≡ smaller a b
    differing ne = go (ltb (get_or a i 0) (get_or b i 0)) (ltb-true _ _) (ltb-false _ _)
      where
        go : (r : Bool) → (r ≡ true → get_or a i 0 < get_or b i 0) → (r ≡ false → get_or b i 0 ≤ get_or a i 0) → r ≡ smaller a b
        go true f g = less (f refl)
        go false f g = let le = g refl in greater (omega (arith, le, ne))

    next : get_or a i 0 ≡ get_or b i 0 → smaller (drop (i + 1) a) (drop (i + 1) b) ≡ smaller a b
    next h =
        let z : i + 1 ≡ suc i = omega arith in
        ap (λ (l : List ℕ). smaller (drop (i + 1) a) l) (ap (λ n. drop n b) z)
        ∙ ap (λ (l : List ℕ). smaller l (drop (suc i) b)) (sym (drop-drop 1 i a))
        ∙ sym (smaller-next (drop i a) (get_or b i 0) (drop (suc i) b) (first ∙ h)) ∙ here

pub loop-i-init : goal.loop-i-init
loop-i-init c = (c.alike_to-i.ensures.1, smaller-behind _ _ _ c.alike_to-i.ensures.0 c.alike_to-i.ensures.1 c.alike_to-i.ensures.2)

pub returns-then-x-b : goal.returns-then-x-b
returns-then-x-b c =
    rw c.octet-x.ensures (differing _ _ _ c.loop-i.invariant.1 c.loop-i-test.true λ e. c.if-x-b.true (c.octet-x.ensures ∙ e))

pub loop-i-preserved : goal.loop-i-preserved
loop-i-preserved c = (
  omega (arith, c.loop-i-test.true),
  next _ _ _ c.loop-i.invariant.1 c.loop-i-test.true (omega (arith, c.octet-x.ensures)),
)

pub returns : goal.returns
returns c = ended _ _ _ c.loop-i.invariant.1 c.loop-i-test.false
