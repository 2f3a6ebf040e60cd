-- The rounds over the items of an image: as many as its entries, each held where its entry says.
use Prim.Native.Nat.{ℕ, ◌+◌, ◌-◌, ◌<◌, ◌≤◌}
use mathlib.Core.Path.{◌≡◌, sym, ap, ◌∙◌}
use mathlib.Core.Bool.{Bool, false}
use mathlib.Core.List.{List}
use mathlib.Core.Logic.{◌⊎◌}
use native.Mathlib.Omega.{arith}
use lib.ListN.{length, get_or, set, replicate}
use Rattle.graph.specs.declared.Found.{Found}
use Rattle.graph.specs.Chains.{Chain}
use Rattle.graph.specs.Answer.{NoChain, Answered}
use Rattle.image.specs.Items.{Item}
use Rattle.image.specs.Index.{entry_count, entry_in, items_in}
use Rattle.usable.specs.Items.{item_at}
use Rattle.search.specs.Tables.{tables_graph}
use Rattle.usable.specs.Rows.{held_in, row_from, row_of, row_at, step_of, Counted, Roles}
use Rattle.chain.specs.Answer.{good_chains}
use Rattle.chain.specs.Near.{first_of, waiting_of, Wider}
use Rattle.chain.specs.Rounds.{starts_in, Opens, Direct}
use Rattle.chain.specs.Given.{InRange, Named, list_of, Vouching, RolesFit, StepsFit}
use Rattle.chain.proofs.Meaning.{good_of}
use Rattle.image.proofs.Places.{length-items}
use Rattle.chain.proofs.PlacesMean.{item-told, image-placed}
use Rattle.chain.proofs.RoundsHold as rounds
use Rattle.chain.proofs.FirstRound as firsts
use Rattle.chain.proofs.NextRound as nexts
use Rattle.chain.proofs.LastStep as last
use Rattle.chain.proofs.DirectMeans as direct
use Rattle.chain.proofs.GivenChain as goal
use Rattle.chain.proofs.GivenScope as scopes

-- what holds at the start of a round
abbrev pub Round : ℕ → ℕ → List ℕ → List ℕ → ℕ → ℕ → ℕ → List ℕ → List (List ℕ) → List ℕ → List ℕ → Type 0
Round a b s table moment target round near rows counting roles =
    rounds.Round a b (items_in s) (starts_in s) table moment target round near rows counting roles

module _ (s table : List ℕ) (moment target n : ℕ) (same : n ≡ entry_count s) where
  all : n ≡ length (items_in s)
  all = same ∙ sym (length-items s)

  inside : target < n → target < length (items_in s)
  inside h = rw all at h

  told : {f : Found} → Answered (good_of (items_in s) table moment) target f → Answered (good_chains s table moment) target f
  told a = rw (length-items s) at a

  kind_at : (p : ℕ) → p < n → (item_at (items_in s) p).kind ≡ (entry_in s p).kind
  kind_at p h = ap (λ (i : Item). i.kind) (item-told s p (rw same at h))

  kind : target < n → (item_at (items_in s) target).kind ≡ (entry_in s target).kind
  kind h = kind_at target h

  pub first_round :
      {near : List ℕ} → ((p : ℕ) → p < n → get_or near p 0 ≡ first_of target p (item_at (items_in s) p).kind) → (signer : List ℕ)
      → {rows : List (List ℕ)} {counting roles : List ℕ} → n ≤ 96 → target < n → (entry_in s target).kind ≡ 3
      → row_from signer ≡ row_of moment (item_at (items_in s) target) (starts_in s target) → (get_or signer 0 0 ≡ 0 → ⊥)
      → Opens moment (get_or signer 1 0) (get_or signer 2 0) n table (items_in s) (starts_in s) (set (replicate 96 0) target 1) near (set (replicate 96 (replicate 17 0)) target signer) rows
      → Counted n table rows counting → Roles (held_in s) n (replicate 96 0) rows counting (replicate 96 0) roles
      → Round (get_or signer 1 0) (get_or signer 2 0) s table moment target 0 near rows counting roles
  first_round {near} marks signer few h three is some opens counted known =
      firsts.first_round (items_in s) (starts_in s) (held_in s) (image-placed s) table moment target near (rw all at marks) signer (rw all at few) (inside h) (kind h ∙ three)
      is some (rw all at opens) (rw all at counted) (rw all at known)

  pub no_row :
      (signer : List ℕ) {f : Found} → row_from signer ≡ row_of moment (item_at (items_in s) target) (starts_in s target) → get_or signer 0 0 ≡ 0 → NoChain f
      → Answered (good_chains s table moment) target f
  no_row signer is zero empty = told (firsts.no_row (items_in s) (starts_in s) table moment target signer is zero empty)

  pub blank-target :
      (signer : List ℕ) → row_from signer ≡ row_of moment (item_at (items_in s) target) (starts_in s target) → get_or signer 0 0 ≡ 0
      → (c : List ℕ) → Chain (good_chains s table moment) target c → ⊥
  blank-target signer is zero c d = firsts.blank-target (items_in s) (starts_in s) table moment target signer is zero c (rw (← length-items s) at d)

  module _ {a b round : ℕ} {near : List ℕ} {rows : List (List ℕ)} {counting roles : List ℕ} (r : Round a b s table moment target round near rows counting roles) where
    pub no-signer : {f : Found} → target < n → (get_or roles target 0 ≡ 3 → ⊥) → NoChain f → Answered (good_chains s table moment) target f
    no-signer h other empty = told (rounds.no-signer a b (items_in s) (starts_in s) (held_in s) (image-placed s) table moment target r (inside h) other empty)

    pub direct-answer :
        {f : Found} → target < n → get_or roles target 0 ≡ 3 → Direct (held_in s) n table rows roles target f → Answered (good_chains s table moment) target f
    direct-answer h three d =
        told (direct.direct-answer a b (items_in s) (starts_in s) (held_in s) (image-placed s) table moment target r (inside h) three (rw all at d))

    pub round-answer :
        {f : Found} → n ≤ 96 → Answered (tables_graph (held_in s) n table rows roles) target f → (round ≡ 4) ⊎ ((f.length ≡ 0 → ⊥) × (f.length ≤ round + 2))
        → Answered (good_chains s table moment) target f
    round-answer few answer enough =
        told (rounds.round-answer a b (items_in s) (starts_in s) (held_in s) (image-placed s) table moment target r (rw all at few) (rw all at answer) enough)

    pub no-last-step :
        {f : Found} → ((u : ℕ) → u < n → step_of (held_in s) n table rows roles u target ≡ false) → 1 ≤ round → NoChain f
        → Answered (good_chains s table moment) target f
    no-last-step unled late empty =
        told (last.no-last-step a b (items_in s) (starts_in s) (held_in s) (image-placed s) table moment target r (rw all at unled) late empty)

    module _ {wider : List ℕ} (w : Wider n table (round + 1) roles near wider) where
      pub closed-answer :
          {f : Found} → n ≤ 96 → Answered (tables_graph (held_in s) n table rows roles) target f → ((p : ℕ) → p < n → get_or near p 0 ≡ get_or wider p 0)
          → Answered (good_chains s table moment) target f
      closed-answer few answer unchanged =
          told
          (nexts.closed-answer a b (items_in s) (starts_in s) (held_in s) (image-placed s) table moment target r
          (rw all at w) (rw all at few) (rw all at answer)
          (rw all at unchanged))

      pub next-round :
          {opened : List (List ℕ)} {after : List ℕ} → target < n → Opens moment a b n table (items_in s) (starts_in s) near wider rows opened
          → Roles (held_in s) n near opened counting roles after → Round a b s table moment target (round + 1) wider opened counting after
      next-round h opens is =
          nexts.next-round a b (items_in s) (starts_in s) (held_in s) (image-placed s) table moment target r (rw all at w) (inside h) (rw all at opens) (rw all at is)

  -- the tables of a proposal
  abbrev pub Weighed : List ℕ → List (List ℕ) → List ℕ → Type 0
  Weighed c rows roles = goal.Tabled (items_in s) (starts_in s) table moment target c rows roles

  pub given-tables :
      (signer c kinds before near wider : List ℕ) (lists : List Bool) (counting roles : List ℕ) (rows opened : List (List ℕ))
      → n ≤ 96 → target < n → (entry_in s target).kind ≡ 3
      → row_from signer ≡ row_of moment (item_at (items_in s) target) (starts_in s target) → (get_or signer 0 0 ≡ 0 → ⊥)
      → InRange n c → get_or c (length c - 1) 0 ≡ target
      → ((p : ℕ) → p < 96 → get_or kinds p 0 ≡ (entry_in s p).kind) → ((p : ℕ) → p < 96 → get_or before p 0 ≡ waiting_of (get_or kinds p 0)) → Named c before near
      → Opens moment (get_or signer 1 0) (get_or signer 2 0) n table (items_in s) (starts_in s) (set (replicate 96 0) target 1) near (set (replicate 96 (replicate 17 0)) target signer) rows
      → ((p : ℕ) → p < n → get_or lists p false ≡ list_of (row_at rows p)) → Vouching n table lists near wider
      → Opens moment (get_or signer 1 0) (get_or signer 2 0) n table (items_in s) (starts_in s) near wider rows opened
      → Counted n table opened counting → Roles (held_in s) n (replicate 96 0) opened counting (replicate 96 0) roles → Weighed c opened roles
  given-tables signer c kinds before near wider lists counting roles rows opened few h three is some range last kinds-are marks named opens listed voucher more counted known =
      let firsts : (p : ℕ) → p < n → get_or before p 0 ≡ waiting_of (item_at (items_in s) p).kind = λ p k.
      marks p (omega arith) ∙ ap waiting_of (kinds-are p (omega arith) ∙ sym (kind_at p k)) in
      scopes.given-tables (items_in s) (starts_in s) (held_in s) (image-placed s) table moment target signer c before near wider lists counting roles rows opened (rw all at few) (inside h) (kind h ∙ three) is some
      (rw all at range) last (rw all at firsts) named (rw all at opens) (rw all at listed) (rw all at voucher) (rw all at more) (rw all at counted) (rw all at known)

  module _ {c : List ℕ} {rows : List (List ℕ)} {roles : List ℕ} (t : Weighed c rows roles) (range : InRange n c) where
    pub fits-good :
        get_or c (length c - 1) 0 ≡ target → get_or roles target 0 ≡ 3 → RolesFit roles c → StepsFit (held_in s) n table rows c
        → Chain (good_chains s table moment) target c
    fits-good last signer fit steps =
        rw (length-items s) at
        (goal.fits-good (items_in s) (starts_in s) (held_in s) (image-placed s) table moment target c t (rw all at range)
        (λ i e. let k : i ≡ length c - 1 = omega arith in rw k last) signer fit (rw all at steps))

    pub good-fits :
        Chain (good_chains s table moment) target c → (get_or roles target 0 ≡ 3) × RolesFit roles c × StepsFit (held_in s) n table rows c
    good-fits d =
        rw all
        (goal.good-fits (items_in s) (starts_in s) (held_in s) (image-placed s) table moment target c t (rw all at range) (rw (← length-items s) at d))
