-- The chain of the first anchor that has a good step to the target is the best: none is shorter.
use Prim.Native.Nat.{ℕ, ◌<◌, ◌≤◌}
use mathlib.Core.Path.{◌≡◌, refl, sym, ◌∙◌}
use mathlib.Core.Bool.{true}
use mathlib.Core.List.{List, [], ◌∷◌}
use mathlib.Core.Logic.{◌⊎◌, inl, inr, ⊎_elim}
use native.Mathlib.Nat.{eq-or-lt_of_le}
use native.Mathlib.Omega.{arith}
use borrow.Author.Tests.{eqb-true, eq-eqb}
use lib.Dec.{eqb}
use lib.ListN.{length, get_or}
use Rattle.graph.specs.declared.Found.{Found}
use Rattle.graph.specs.Chains.{Graph, Onward, ends, goes, Chain, chain, NotLater, done, less, same}
use Rattle.graph.specs.Answer.{Answered, found}
use Rattle.image.specs.Items.{Item}
use Rattle.usable.specs.declared.opened.Row.{Row}
use Rattle.usable.specs.Steps.{good_step}
use Rattle.usable.specs.Table.{verdict_in}
use Rattle.usable.specs.Rows.{step_of}
use Rattle.usable.proofs.Booleans.{false-true, second, both_true}
use Rattle.usable.proofs.Scope.{Placed}
use Rattle.usable.proofs.StepsMean.{step-told}
use Rattle.chain.specs.Good.{chains}
use Rattle.chain.specs.Rounds.{Direct}
use Rattle.chain.proofs.Cells.{below_or_not}
use Rattle.chain.proofs.HomeScope.{inside, home-scope}
use Rattle.chain.proofs.Meaning.{good_of}
use Rattle.chain.proofs.RoundsHold.{Round, anchor-inside}

longer : {g : Graph} {target u : ℕ} {c : List ℕ} → Onward g target u c → 1 ≤ length c
longer (ends m signer step) = omega arith
longer (goes m link step rest) = omega arith

module _ (a b : ℕ) (items : List Item) (at : ℕ → ℕ) (held : Row → List ℕ) (placed : Placed held items at) (table : List ℕ) (moment target : ℕ) {round : ℕ} {near : List ℕ} {rows : List (List ℕ)} {counting roles : List ℕ} (r : Round a b items at table moment target round near rows counting roles) (there : target < length items) (three : get_or roles target 0 ≡ 3) where
  -- what the tables tell of a step from an anchor
  from-anchor :
      (u : ℕ) → u < length items → eqb (get_or roles u 0) 1 ≡ true
      → step_of held (length items) table rows roles u target ≡ good_step items (verdict_in (length items) table) u target
  from-anchor u h one =
      step-told items at table moment (home-scope a b items table moment near r.based) rows r.told held placed roles r.known u target h there
      (inl one) (inr (eq-eqb _ _ three))

  signs : (good_of items table moment).signer target ≡ true
  unfolding chains
  signs = second (inside a b items table near target) _ (sym (r.known target there).signer ∙ eq-eqb _ _ three)

  module _ {f : Found} (d : Direct held (length items) table rows roles target f) where
    -- another such chain starts with no smaller place
    later : (w : ℕ) → w < length items → (good_of items table moment).anchor w ≡ true → (good_of items table moment).step w target ≡ true → d.from ≤ w
    unfolding chains
    later w h anchor step =
        let within = anchor-inside a b items table moment target r.country near r.based h anchor (ends there signs step) in
        let one : eqb (get_or roles w 0) 1 ≡ true = (r.known w h).anchor ∙ both_true _ _ within anchor in
        ⊎_elim
        (λ (k : w < d.from). false-true (sym (d.first w k (eqb-true _ _ one)) ∙ from-anchor w h one ∙ step))
        (λ (k : d.from ≤ w). k)
        (below_or_not w d.from)

    pub direct-answer : Answered (good_of items table moment) target f
    unfolding chains
    direct-answer =
        let one : eqb (get_or roles d.from 0) 1 ≡ true = eq-eqb _ _ d.anchor in
        found (d.from ∷ target ∷ [])
        (record {
          good = chain {u = d.from} d.inside (second (inside a b items table near d.from) _ (sym (r.known d.from d.inside).anchor ∙ one))
              (ends there signs (sym (from-anchor d.from d.inside one) ∙ d.good));
          least = least;
        })
        d.count d.slots
      where
        least : (e : List ℕ) → Chain (good_of items table moment) target e → (2 < length e) ⊎ ((2 ≡ length e) × NotLater (d.from ∷ target ∷ []) e)
        least e (chain {u = w} l anchor (ends m signer step)) =
            ⊎_elim (λ (k : d.from ≡ w). inr (refl, rw k (same (same done)))) (λ (k : d.from < w). inr (refl, less k))
            (eq-or-lt_of_le (later w l anchor step))
        least e (chain l anchor (goes m link step rest)) = inl (let k = longer rest in omega (arith, k))
