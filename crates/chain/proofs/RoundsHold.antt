-- What holds at the start of each round: the tables tell what is near, and each good chain of few enough places is near. So a
-- chain of the tables that is short enough is the best.
use Prim.Native.Nat.{ℕ, ◌+◌, ◌<◌, ◌≤◌}
use mathlib.Core.Path.{◌≡◌, refl, sym, ◌∙◌}
use mathlib.Core.Bool.{Bool, true, false, cond}
use mathlib.Core.List.{List}
use mathlib.Core.Logic.{◌⊎◌, inl, inr, ⊎_elim}
use native.Mathlib.Omega.{arith}
use borrow.Author.Tests.{eqb-true, eqb-false, leb-true}
use lib.Dec.{eqb, leb}
use lib.ListN.{length, get_or}
use Rattle.graph.specs.declared.Found.{Found}
use Rattle.graph.specs.Chains.{Onward, ends, goes}
use Rattle.graph.proofs.Targets.{chain-target}
use Rattle.graph.specs.Answer.{NoChain, Answered, none}
use Rattle.image.specs.Items.{Item}
use Rattle.usable.specs.declared.opened.Row.{Row}
use Rattle.usable.specs.Items.{item_at}
use Rattle.usable.specs.Table.{verdict_in}
use Rattle.usable.specs.Rows.{is_near}
use Rattle.usable.proofs.Booleans.{false-true, first, both_true}
use Rattle.usable.proofs.Scope.{Placed, Told}
use Rattle.usable.proofs.CountingMeans.{Counts, anchor-kind}
use Rattle.usable.proofs.RolesMean.{Known}
use Rattle.usable.specs.Steps.{has_kind}
use Rattle.search.specs.Tables.{tables_graph}
use Rattle.chain.specs.Good.{chains}
use Rattle.chain.specs.Rounds.{here_of, enough_of}
use Rattle.chain.proofs.Cells.{below_or_not}
use Rattle.chain.proofs.Homes.{home, step-home, step-verdict}
use Rattle.chain.proofs.HomeScope.{Based, inside, is_open, always-near, here-other, here-anchor, home-scope}
use Rattle.chain.proofs.Meaning.{good_of, tables-part}
use Rattle.chain.proofs.Transfer.{AllNear, done, more, NearOrLonger, answer-out}

-- a chain that settles a round, and in the last round each does
pub settled : (round length : ℕ) → enough_of round length ≡ true → (round ≡ 4) ⊎ ((length ≡ 0 → ⊥) × (length ≤ round + 2))
unfolding enough_of
settled round length e = go (eqb round 4) refl (eqb length 0) refl e
  where
    go :
        (a : Bool) → eqb round 4 ≡ a → (b : Bool) → eqb length 0 ≡ b
        → cond a true (cond b false (leb length (round + 2))) ≡ true → (round ≡ 4) ⊎ ((length ≡ 0 → ⊥) × (length ≤ round + 2))
    go true k b h f = inl (eqb-true round 4 k)
    go false k true h f = false-true f
    go false k false h f = inr (eqb-false length 0 h, leb-true length (round + 2) f)

pub unsettled : (round length : ℕ) → enough_of round length ≡ false → round ≡ 4 → ⊥
unfolding enough_of
unsettled round length e four = false-true (sym e ∙ rw four)

pub unasked : {round : ℕ} {asked : Bool} → (round ≡ 4 → asked ≡ true) → asked ≡ false → round ≡ 4 → ⊥
unasked last e four = false-true (sym e ∙ last four)

-- of a way on to a target of the country all places are of it, and so is where it starts
module _ (a b : ℕ) (items : List Item) (table : List ℕ) (moment target : ℕ) (there : home a b items target ≡ true) where
  stays : (u v : ℕ) → (good_of items table moment).step u v ≡ true → home a b items v ≡ true → home a b items u ≡ true
  unfolding chains
  stays u v step h = step-home a b items (verdict_in (length items) table) u v step h

  pub way_home : {u : ℕ} {c : List ℕ} → Onward (good_of items table moment) target u c → home a b items u ≡ true
  way_home {u} (ends m signer step) = stays u target step there
  way_home {u} (goes {v = v} m link step rest) = stays u v step (way_home rest)

  -- a link or signer of a way is here where it is of the country
  pub link_here : (v : ℕ) → (good_of items table moment).link v ≡ true → home a b items v ≡ true → here_of a b (length items) table items v ≡ true
  unfolding chains has_kind
  link_here v link h =
      let two = eqb-true (item_at items v).kind 2 (first (eqb (item_at items v).kind 2) _ link) in
      here-other a b (length items) table items v (rw two) ∙ h

  signer-here : (good_of items table moment).signer target ≡ true → here_of a b (length items) table items target ≡ true
  unfolding chains has_kind
  signer-here signer =
      let three = eqb-true (item_at items target).kind 3 (first (eqb (item_at items target).kind 3) _ signer) in
      here-other a b (length items) table items target (rw three) ∙ there

  -- so what is near of it is near and here
  pub all-inside :
      (near : List ℕ) {u : ℕ} {c : List ℕ} → Onward (good_of items table moment) target u c → AllNear (is_near near) c
      → AllNear (inside a b items table near) c
  all-inside near (ends m signer step) (more n done) = more (both_true _ _ n (signer-here signer)) done
  all-inside near (goes {v = v} m link step rest) (more n others) =
      more (both_true _ _ n (link_here v link (way_home rest))) (all-inside near rest others)

  -- an anchor from which a way starts
  pub anchor-here : {u : ℕ} {c : List ℕ} → Onward (good_of items table moment) target u c → here_of a b (length items) table items u ≡ true
  unfolding chains
  anchor-here {u} (ends m signer step) =
      here-anchor a b (length items) table items u target m (step-verdict items (verdict_in (length items) table) u target step) (stays u target step there)
  anchor-here {u} (goes {v = v} m link step rest) =
      here-anchor a b (length items) table items u v m (step-verdict items (verdict_in (length items) table) u v step) (stays u v step (way_home rest))

  pub anchor-inside :
      (near : List ℕ) → Based items near → {u : ℕ} {c : List ℕ} → u < length items → (good_of items table moment).anchor u ≡ true
      → Onward (good_of items table moment) target u c → inside a b items table near u ≡ true
  unfolding chains
  anchor-inside near based {u} h anchor o =
      both_true (is_near near u) _ (always-near items near based u h (inl (anchor-kind items moment u anchor))) (anchor-here o)

module _ (a b : ℕ) (items : List Item) (at : ℕ → ℕ) (table : List ℕ) (moment target round : ℕ) (near : List ℕ) (rows : List (List ℕ)) (counting roles : List ℕ) where
  -- the tables tell what is near, and so is each way on to the target of at most a place more than rounds were done, in the
  -- last round each way
  pub record Round : Type 0 where
    pub told : Told moment items at (is_open a b items table near) rows
    pub based : Based items near
    pub counts : Counts items table moment (inside a b items table near) counting
    pub known : Known items table moment (inside a b items table near) roles
    pub country : home a b items target ≡ true
    pub end : is_near near target ≡ true
    pub waiting : (p : ℕ) → p < length items → is_near near p ≡ false → (item_at items p).kind ≡ 2 → get_or near p 0 ≡ 2
    pub reach :
        {u : ℕ} {c : List ℕ} → Onward (good_of items table moment) target u c → (length c ≤ round + 1) ⊎ (round ≡ 4)
        → AllNear (is_near near) c

module _ (a b : ℕ) (items : List Item) (at : ℕ → ℕ) (held : Row → List ℕ) (placed : Placed held items at) (table : List ℕ) (moment target : ℕ) {round : ℕ} {near : List ℕ} {rows : List (List ℕ)} {counting roles : List ℕ} (r : Round a b items at table moment target round near rows counting roles) where
  -- what the tables answer, where each way on to the target is near or no shorter than what is found
  pub answer-by :
      {f : Found} → length items ≤ 96 → Answered (tables_graph held (length items) table rows roles) target f
      → ((u : ℕ) (c : List ℕ) → Onward (good_of items table moment) target u c
      → AllNear (is_near near) c ⊎ ((f.length ≡ 0 → ⊥) × (f.length ≤ length c)))
      → Answered (good_of items table moment) target f
  unfolding chains
  answer-by {f} few answer ways =
      answer-out
      (tables-part items at held placed table moment (home-scope a b items table moment near r.based) rows roles _ few r.told r.known (λ u v hu hv. refl))
      within answer
    where
      within : NearOrLonger (inside a b items table near) (good_of items table moment) target f
      within u c l anchor o =
          ⊎_elim
          (λ m. inl (more {v = u} (anchor-inside a b items table moment target r.country near r.based l anchor o) (all-inside a b items table moment target r.country near o m)))
          inr (ways u c o)

  -- a chain that is short enough, or any in the last round, is the answer
  pub round-answer :
      {f : Found} → length items ≤ 96 → Answered (tables_graph held (length items) table rows roles) target f
      → (round ≡ 4) ⊎ ((f.length ≡ 0 → ⊥) × (f.length ≤ round + 2)) → Answered (good_of items table moment) target f
  round-answer {f} few answer enough =
      answer-by few answer (λ u c o. ⊎_elim (λ last. inl (r.reach o (inr last))) (λ k. short o k) enough)
    where
      short :
          {u : ℕ} {c : List ℕ} → Onward (good_of items table moment) target u c → ((f.length ≡ 0 → ⊥) × (f.length ≤ round + 2))
          → AllNear (is_near near) c ⊎ ((f.length ≡ 0 → ⊥) × (f.length ≤ length c))
      short {c = c} o k =
          ⊎_elim (λ (l : length c < round + 2). inl (r.reach o (inl (omega arith)))) (λ (l : round + 2 ≤ length c). inr (k.0, omega (arith, k.1)))
          (below_or_not (length c) (round + 2))

  -- the role of a usable target
  pub target-role : target < length items → (good_of items table moment).signer target ≡ true → eqb (get_or roles target 0) 3 ≡ true
  unfolding chains has_kind
  target-role h signer =
      let three = eqb-true (item_at items target).kind 3 (first (eqb (item_at items target).kind 3) _ signer) in
      let here = here-other a b (length items) table items target (rw three) ∙ r.country in
      (r.known target h).signer ∙ both_true _ _ (both_true _ _ r.end here) signer

  -- a target that is not usable has no chain
  pub no-signer :
      {f : Found} → target < length items → (get_or roles target 0 ≡ 3 → ⊥) → NoChain f → Answered (good_of items table moment) target f
  no-signer {f} h not_three empty = none (λ c e. not_three (eqb-true (get_or roles target 0) 3 (target-role h (chain-target e).1))) empty
