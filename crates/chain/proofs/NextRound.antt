-- From a round to the next: what is near stays so, and the links that sign it are so too.
use Prim.Native.Nat.{ℕ, ◌+◌, ◌<◌, ◌≤◌}
use mathlib.Core.Path.{◌≡◌, refl, sym, ◌∙◌}
use mathlib.Core.Bool.{Bool, true, false, ◌&&◌}
use mathlib.Core.List.{List}
use mathlib.Core.Logic.{inl, ⊎_elim}
use native.Mathlib.Omega.{arith}
use borrow.Author.Tests.{eqb-true, eq-eqb}
use lib.Dec.{eqb}
use lib.ListN.{length, get_or}
use Rattle.graph.specs.declared.Found.{Found}
use Rattle.graph.specs.Chains.{Graph, Onward, ends, goes}
use Rattle.graph.specs.Answer.{Answered}
use Rattle.image.specs.Items.{Item}
use Rattle.usable.specs.declared.opened.Row.{Row}
use Rattle.usable.specs.Items.{item_at}
use Rattle.usable.specs.Steps.{has_kind}
use Rattle.usable.specs.Usable.{counts}
use Rattle.usable.specs.Table.{verdict_in}
use Rattle.usable.specs.Rows.{is_near, led_of, Roles}
use Rattle.search.specs.Tables.{tables_graph}
use Rattle.usable.proofs.Booleans.{false-true, first, both_true}
use Rattle.usable.proofs.Scope.{Placed}
use Rattle.usable.proofs.CountingMeans.{Counts}
use Rattle.usable.proofs.RolesMean.{roles-mean}
use Rattle.chain.specs.Good.{chains}
use Rattle.chain.specs.Near.{Wider}
use Rattle.chain.specs.Rounds.{here_of, Opens}
use Rattle.chain.proofs.Homes.{step-verdict}
use Rattle.chain.proofs.HomeScope.{Based, inside, home-scope}
use Rattle.chain.proofs.Meaning.{good_of}
use Rattle.chain.proofs.NearRows.{told-next}
use Rattle.chain.proofs.Transfer.{AllNear, done, more}
use Rattle.chain.proofs.RoundsHold.{Round, way_home, link_here, target-role, answer-by}

-- the kinds and verdicts that a good chain has
module _ (items : List Item) (table : List ℕ) (moment : ℕ) where
  abbrev good : Graph
  good = good_of items table moment

  pub link-kind : (v : ℕ) → good.link v ≡ true → (item_at items v).kind ≡ 2
  unfolding chains has_kind
  link-kind v e = eqb-true (item_at items v).kind 2 (first (eqb (item_at items v).kind 2) _ e)

  verdict-good : (u v : ℕ) → good.step u v ≡ true → verdict_in (length items) table u v ≡ true
  unfolding chains
  verdict-good u v e = step-verdict items (verdict_in (length items) table) u v e

  in-items : (v : ℕ) → v < good.places → v < length items
  unfolding chains
  in-items v h = h

-- a usable link or signer that is near has its role
led-link : (role : ℕ) → eqb role 2 ≡ true → led_of role ≡ true
unfolding led_of
led-link role two = rw two

led-signer : (role : ℕ) → eqb role 3 ≡ true → led_of role ≡ true
unfolding led_of
led-signer role three = rw (eqb-true role 3 three)

module _ (a b : ℕ) (items : List Item) (at : ℕ → ℕ) (held : Row → List ℕ) (placed : Placed held items at) (table : List ℕ) (moment target : ℕ) {round : ℕ} {near : List ℕ} {rows : List (List ℕ)} {counting roles : List ℕ} (r : Round a b items at table moment target round near rows counting roles) {wider : List ℕ} (w : Wider (length items) table (round + 1) roles near wider) where
  kept : (p : ℕ) → p < length items → is_near near p ≡ true → is_near wider p ≡ true
  unfolding is_near
  kept p h e = ⊎_elim (λ k. eq-eqb (get_or wider p 0) 1 k) (λ k. rw k e) (w.layer.kept p h)

  -- what is not near now was not before
  far : (p : ℕ) → p < length items → is_near wider p ≡ false → is_near near p ≡ false
  far p h e = go (is_near near p) refl
    where
      go : (b : Bool) → is_near near p ≡ b → b ≡ false
      go true f = false-true (sym e ∙ kept p h f)
      go false f = refl

  wider-waiting : (p : ℕ) → p < length items → is_near wider p ≡ false → (item_at items p).kind ≡ 2 → get_or wider p 0 ≡ 2
  unfolding is_near
  wider-waiting p h e two =
      ⊎_elim (λ k. false-true (sym e ∙ eq-eqb (get_or wider p 0) 1 k)) (λ k. k ∙ r.waiting p h (far p h e) two)
      (w.layer.kept p h)

  -- a link that was marked is near
  marks : (v : ℕ) → v < length items → (item_at items v).kind ≡ 2 → (get_or near v 0 ≡ 2 → get_or wider v 0 ≡ 1) → is_near wider v ≡ true
  unfolding is_near
  marks v h two mark = go (is_near near v) refl
    where
      go : (b : Bool) → is_near near v ≡ b → eqb (get_or wider v 0) 1 ≡ true
      go true e = kept v h e
      go false e = eq-eqb (get_or wider v 0) 1 (mark (r.waiting v h e two))

  -- what signs a way that was near is near now
  signs :
      {v : ℕ} {c : List ℕ} → v < length items → (item_at items v).kind ≡ 2 → Onward (good_of items table moment) target v c
      → AllNear (is_near near) c → is_near wider v ≡ true
  unfolding chains
  signs {v} h two (ends m signer step) (more n done) =
      let here = in-items items table moment target m in
      let role = target-role a b items at held placed table moment target r here signer in
      marks v h two
      (w.layer.signers v target h here (led-signer (get_or roles target 0) role)
      (verdict-good items table moment v target step))
  signs {v} h two (goes {v = x} m link step rest) (more n others) =
      let here = in-items items table moment x m in
      let home = link_here a b items table moment target r.country x link (way_home a b items table moment target r.country rest) in
      let role = (r.known x here).link ∙ both_true _ _ (both_true _ _ n home) link in
      marks v h two
      (w.layer.signers v x h here (led-link (get_or roles x 0) role)
      (verdict-good items table moment v x step))

  all-kept :
      {u : ℕ} {c : List ℕ} → Onward (good_of items table moment) target u c → AllNear (is_near near) c → AllNear (is_near wider) c
  all-kept (ends m signer step) (more n done) = more (kept target (in-items items table moment target m) n) done
  all-kept (goes {v = x} m link step rest) (more n others) =
      more (kept x (in-items items table moment x m) n) (all-kept rest others)

  -- where nothing is new each way on to the target is near
  pub closed-answer :
      {f : Found} → length items ≤ 96 → Answered (tables_graph held (length items) table rows roles) target f
      → ((p : ℕ) → p < length items → get_or near p 0 ≡ get_or wider p 0) → Answered (good_of items table moment) target f
  unfolding is_near
  closed-answer few answer unchanged = answer-by a b items at held placed table moment target r few answer (λ u c o. inl (all o))
    where
      all : {u : ℕ} {c : List ℕ} → Onward (good_of items table moment) target u c → AllNear (is_near near) c
      all (ends m signer step) = more {v = target} r.end done
      all (goes {v = x} m link step rest) =
          let here = in-items items table moment x m in
          let now = signs here (link-kind items table moment x link) rest (all rest) in
          more {v = x} (rw (unchanged x here) now) (all rest)

  reach-last :
      round + 1 ≡ 4 → {u : ℕ} {c : List ℕ} → Onward (good_of items table moment) target u c → AllNear (is_near wider) c
  reach-last last (ends m signer step) = more (kept target (in-items items table moment target m) r.end) done
  reach-last last (goes {v = x} m link step rest) =
      let here = in-items items table moment x m in
      more (marks x here (link-kind items table moment x link) (w.links last x here)) (reach-last last rest)

  reach-more :
      {u : ℕ} {c : List ℕ} → Onward (good_of items table moment) target u c → length c ≤ round + 2 → AllNear (is_near wider) c
  reach-more (ends m signer step) few = more (kept target (in-items items table moment target m) r.end) done
  reach-more (goes {v = x} {rest = c} m link step rest) few =
      let here = in-items items table moment x m in
      let less : length c ≤ round + 1 = omega arith in
      let all = r.reach rest (inl less) in
      more (signs here (link-kind items table moment x link) rest all) (all-kept rest all)

  -- anchors and CRLs were near before
  wider-based : Based items wider
  wider-based p h e = r.based p h (far p h e)

  -- what is not near is no CRL that counts
  uncounted : (c : ℕ) → c < length items → is_near near c ≡ false → counts items (verdict_in (length items) table) moment c ≡ false
  unfolding counts
  uncounted c h f = rw (r.based c h f).1

  wider-counts : Counts items table moment (inside a b items table wider) counting
  wider-counts c h = r.counts c h ∙ go (is_near wider c) refl (is_near near c) refl (here_of a b (length items) table items c)
    where
      go :
          (x : Bool) → is_near wider c ≡ x → (y : Bool) → is_near near c ≡ y → (z : Bool)
          → ((y && z) && counts items (verdict_in (length items) table) moment c) ≡ ((x && z) && counts items (verdict_in (length items) table) moment c)
      go true e true f z = refl
      go false e false f z = refl
      go true e false f true = sym (uncounted c h f)
      go true e false f false = refl
      go false e true f z = false-true (sym e ∙ kept c h f)

  pub next-round :
      {opened : List (List ℕ)} {after : List ℕ} → target < length items → Opens moment a b (length items) table items at near wider rows opened
      → Roles held (length items) near opened counting roles after → Round a b items at table moment target (round + 1) wider opened counting after
  next-round {opened} {after} h opens is =
      let told = told-next a b items at table moment near wider rows opened r.told kept opens in
      record {
        told = told;
        based = wider-based;
        waiting = wider-waiting;
        counts = wider-counts;
        known = roles-mean items at table moment (home-scope a b items table moment wider wider-based) opened told held placed counting wider-counts near roles after is
            (λ p k e. rw (kept p k e) (rw e at (r.known p k)));
        country = r.country;
        end = kept target h r.end;
        reach = λ o few. ⊎_elim (λ l. reach-more o (omega arith)) (λ l. reach-last l o) few;
      }
