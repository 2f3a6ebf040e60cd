-- A good chain ends with a good step of an anchor or link to the target. After the first round each link that has one is near, so
-- where the tables tell of no such step there is no chain.
use Prim.Native.Nat.{ℕ, ◌<◌, ◌≤◌}
use mathlib.Core.Path.{◌≡◌, sym, ◌∙◌}
use mathlib.Core.Bool.{true, false}
use mathlib.Core.List.{List, ◌∷◌}
use mathlib.Core.Logic.{◌⊎◌, inl, inr}
use native.Mathlib.Omega.{arith}
use lib.Dec.{eqb}
use lib.ListN.{length, get_or}
use Rattle.graph.specs.declared.Found.{Found}
use Rattle.graph.specs.Chains.{Onward, ends, goes, Chain, chain}
use Rattle.graph.specs.Answer.{NoChain, Answered, none}
use Rattle.image.specs.Items.{Item}
use Rattle.usable.specs.declared.opened.Row.{Row}
use Rattle.usable.specs.Rows.{is_near, step_of}
use Rattle.usable.proofs.Booleans.{false-true, both_true}
use Rattle.usable.proofs.Scope.{Placed}
use Rattle.usable.proofs.StepsMean.{step-told}
use Rattle.chain.specs.Good.{chains}
use Rattle.chain.proofs.HomeScope.{home-scope}
use Rattle.chain.proofs.Meaning.{good_of}
use Rattle.chain.proofs.Transfer.{AllNear, more}
use Rattle.chain.proofs.RoundsHold.{Round, way_home, link_here, anchor-inside, target-role}

module _ (a b : ℕ) (items : List Item) (at : ℕ → ℕ) (held : Row → List ℕ) (placed : Placed held items at) (table : List ℕ) (moment target : ℕ) {round : ℕ} {near : List ℕ} {rows : List (List ℕ)} {counting roles : List ℕ} (r : Round a b items at table moment target round near rows counting roles) (unled : (u : ℕ) → u < length items → step_of held (length items) table rows roles u target ≡ false) where
  -- no anchor or link with its role has a good step to the target
  no_step :
      (u : ℕ) → u < length items → (eqb (get_or roles u 0) 1 ≡ true) ⊎ (eqb (get_or roles u 0) 2 ≡ true) → target < length items
      → (good_of items table moment).signer target ≡ true → (good_of items table moment).step u target ≡ true → ⊥
  unfolding chains
  no_step u h from there signer step =
      let three = target-role a b items at held placed table moment target r there signer in
      false-true
      (sym (unled u h)
      ∙ step-told items at table moment (home-scope a b items table moment near r.based) rows r.told held placed roles r.known u target h there from (inr three)
      ∙ step)

  from-anchor :
      (u : ℕ) → u < length items → (good_of items table moment).anchor u ≡ true → target < length items
      → (good_of items table moment).signer target ≡ true → (good_of items table moment).step u target ≡ true → ⊥
  unfolding chains
  from-anchor u h anchor m signer step =
      let within = anchor-inside a b items table moment target r.country near r.based h anchor (ends m signer step) in
      no_step u h (inl ((r.known u h).anchor ∙ both_true _ _ within anchor)) m signer step

  from-link :
      (u : ℕ) → u < length items → (good_of items table moment).link u ≡ true → is_near near u ≡ true → target < length items
      → (good_of items table moment).signer target ≡ true → (good_of items table moment).step u target ≡ true → ⊥
  unfolding chains
  from-link u h link nearby m signer step =
      let here = link_here a b items table moment target r.country u link (way_home a b items table moment target r.country (ends m signer step)) in
      no_step u h (inr ((r.known u h).link ∙ both_true _ _ (both_true _ _ nearby here) link)) m signer step

  first-near : {v : ℕ} {c : List ℕ} → AllNear (is_near near) (v ∷ c) → is_near near v ≡ true
  first-near (more h others) = h

  -- a way over a link ends with a step of a link that is near
  over-link :
      1 ≤ round → (u v : ℕ) {c : List ℕ} → v < (good_of items table moment).places → (good_of items table moment).link v ≡ true
      → (good_of items table moment).step u v ≡ true → Onward (good_of items table moment) target v c → ⊥
  unfolding chains
  over-link late u v l link step (ends m signer last) =
      from-link v l link (first-near (r.reach (goes {u = u} {v = v} l link step (ends m signer last)) (inl (omega arith)))) m signer last
  over-link late u v l link step (goes {v = x} m other next rest) = over-link late v x m other next rest

  pub no-last-step : {f : Found} → 1 ≤ round → NoChain f → Answered (good_of items table moment) target f
  unfolding chains
  no-last-step late empty = none no_way empty
    where
      no_way : (c : List ℕ) → Chain (good_of items table moment) target c → ⊥
      no_way c (chain {u = u} l anchor (ends m signer step)) = from-anchor u l anchor m signer step
      no_way c (chain {u = u} l anchor (goes {v = v} m link step rest)) = over-link late u v m link step rest
