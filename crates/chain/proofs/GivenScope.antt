-- What a proposal opens decides what is told of it: the CRLs of the target's country, and of its anchors those that are named or have
-- verdict 1 for one of these. A CRL that is not within its times says nothing, so it is as good as shut.
use Prim.Native.Nat.{ℕ, suc, ◌-◌, ◌<◌, ◌≤◌}
use mathlib.Core.Path.{◌≡◌, refl, sym, ap, ◌∙◌}
use mathlib.Core.Bool.{Bool, true, false, cond, ◌&&◌}
use mathlib.Core.List.{List, [], ◌∷◌}
use mathlib.Core.Logic.{◌⊎◌, inl, inr, ⊎_elim}
use native.Mathlib.Omega.{arith}
use borrow.Author.Tests.{eqb-true, eq-eqb, ne_eqb}
use lib.Dec.{eqb}
use lib.ListN.{length, get_or, set, replicate}
use Rattle.graph.specs.Chains.{Onward, ends, goes, Chain, chain}
use Rattle.image.specs.Items.{Item}
use Rattle.usable.specs.declared.opened.Row.{Row}
use Rattle.usable.specs.Items.{item_at, list_at}
use Rattle.usable.specs.Usable.{counts, covers}
use Rattle.usable.specs.Steps.{has_kind}
use Rattle.usable.specs.Table.{verdict_in}
use Rattle.usable.specs.Rows.{blank, row_from, row_of, row_at, is_near, Counted, Roles}
use Rattle.usable.proofs.Booleans.{false-true, first, second, middle, both_true}
use Rattle.usable.proofs.CountingMeans.{anchor-kind, counting-means}
use Rattle.usable.proofs.RolesMean.{roles-mean}
use Rattle.usable.proofs.RowReadings.{current_of, Reading, reading, certificate, list, neither}
use Rattle.usable.proofs.Scope.{Placed, Told, Scope}
use Rattle.usable.proofs.StandingMeans.{standing-list}
use Rattle.chain.specs.Good.{chains}
use Rattle.chain.specs.Near.{waiting_of}
use Rattle.chain.specs.Rounds.{here_of, Opens}
use Rattle.chain.specs.Given.{InRange, Named, list_of, Vouching}
use Rattle.chain.proofs.FirstRound.{no-slots, first-told, first-kept, row-home}
use Rattle.chain.proofs.GivenChain.{Tabled}
use Rattle.chain.proofs.Homes.{home, country-same}
use Rattle.chain.proofs.HomeScope.{inside, is_open, asked, here-other, here-anchor, wanted-here}
use Rattle.chain.proofs.Meaning.{good_of}
use Rattle.chain.proofs.NearRows.{told-next}
use Rattle.chain.proofs.RoundsHold.{anchor-here, all-inside}
use Rattle.chain.proofs.Transfer.{AllNear, done, more}

-- a second test that holds
and-true : (x y : Bool) → y ≡ true → (x && y) ≡ x
and-true true y e = e
and-true false y e = refl

-- places that are near one by one
all_near : (near : ℕ → Bool) (c : List ℕ) → ((i : ℕ) → i < length c → near (get_or c i 0) ≡ true) → AllNear near c
all_near near [] h = done
all_near near (v ∷ c) h = more (h 0 (omega arith)) (all_near near c (λ i k. h (suc i) (omega arith)))

module _ (items : List Item) (moment : ℕ) where
  -- a CRL is within its times; of anything else this is not asked
  unfoldable live : ℕ → Bool
  live p = cond (eqb (item_at items p).kind 4) (current_of moment (item_at items p)) true

  live-other : (p : ℕ) → eqb (item_at items p).kind 4 ≡ false → live p ≡ true
  unfolding live
  live-other p e = rw e

  live-list : (p : ℕ) → eqb (item_at items p).kind 4 ≡ true → live p ≡ current_of moment (item_at items p)
  unfolding live
  live-list p e = rw e

  -- the row of a CRL beyond its times is blank, whether it was opened or not
  told-live :
      (at : ℕ → ℕ) (there : ℕ → Bool) (rows : List (List ℕ)) → Told moment items at there rows → Told moment items at (λ p. there p && live p) rows
  unfolding live
  told-live at there rows told p h = told p h ∙ go (there p) (eqb (item_at items p).kind 4) refl (current_of moment (item_at items p)) refl
    where
      row : Row
      row = row_of moment (item_at items p) (at p)

      shut : eqb (item_at items p).kind 4 ≡ true → current_of moment (item_at items p) ≡ false → row ≡ blank
      shut four past = by (reading moment (item_at items p) (at p))
        where
          by : Reading moment (item_at items p) (at p) true row → row ≡ blank
          by (certificate f n j v lo hi on e) = absurd (let k = eqb-true (item_at items p).kind 4 four in omega arith)
          by (list f n k j v e) = false-true (sym past ∙ v)
          by (neither x y z e) = e

      go :
          (t k : Bool) → eqb (item_at items p).kind 4 ≡ k → (n : Bool) → current_of moment (item_at items p) ≡ n
          → cond t row blank ≡ cond (t && cond k n true) row blank
      go true true e true f = refl
      go true true e false f = shut e f
      go true false e n f = refl
      go false k e n f = refl

-- the marks at first, and those with the anchors that have verdict 1 for a CRL
module _ (a b : ℕ) (items : List Item) (at : ℕ → ℕ) (table : List ℕ) (moment : ℕ) (c before near wider : List ℕ) (lists : List Bool) (rows : List (List ℕ)) (firsts : (p : ℕ) → p < length items → get_or before p 0 ≡ waiting_of (item_at items p).kind) (named : Named c before near) (voucher : Vouching (length items) table lists near wider) (listed : (p : ℕ) → p < length items → get_or lists p false ≡ list_of (row_at rows p)) (told : Told moment items at (is_open a b items table near) rows) where
  abbrev there : ℕ → Bool
  there p = is_open a b items table wider p && live items moment p

  abbrev within : ℕ → Bool
  within p = inside a b items table wider p && live items moment p

  pub near-wider : (p : ℕ) → p < length items → is_near near p ≡ true → is_near wider p ≡ true
  unfolding is_near
  near-wider p h e = ⊎_elim (λ one. eq-eqb (get_or wider p 0) 1 one) (λ same. rw same e) (voucher.kept p)

  list-near : (p : ℕ) → p < length items → eqb (item_at items p).kind 4 ≡ true → is_near near p ≡ true
  unfolding is_near waiting_of
  list-near p h four =
      ⊎_elim (λ one. eq-eqb (get_or near p 0) 1 one)
      (λ (same : get_or near p 0 ≡ get_or before p 0). let is : get_or before p 0 ≡ 1 = rw four at (firsts p h) in eq-eqb (get_or near p 0) 1 (same ∙ is)) (named.kept p)

  anchor-waits : (p : ℕ) → p < length items → eqb (item_at items p).kind 1 ≡ true → (is_near near p ≡ true) ⊎ (get_or near p 0 ≡ 2)
  unfolding is_near waiting_of
  anchor-waits p h one =
      let kind : (item_at items p).kind ≡ 1 = eqb-true (item_at items p).kind 1 one in
      ⊎_elim (λ e. inl (eq-eqb (get_or near p 0) 1 e)) (λ (same : get_or near p 0 ≡ get_or before p 0). inr (same ∙ (rw kind at (firsts p h)))) (named.kept p)

  -- a CRL that is here and within its times stands in its row
  list-stands :
      (p : ℕ) → p < length items → eqb (item_at items p).kind 4 ≡ true → here_of a b (length items) table items p ≡ true
      → current_of moment (item_at items p) ≡ true → get_or lists p false ≡ true
  unfolding list_of
  list-stands p h four here current =
      let is_open : is_open a b items table near p ≡ true =
      both_true (is_near near p) _ (list-near p h four) (wanted-here a b (length items) table items p here) in
      let row : row_at rows p ≡ row_of moment (item_at items p) (at p) = rw is_open at (told p h) in
      let stands : eqb (row_at rows p).standing 4 ≡ true =
      rw row (standing-list (reading moment (item_at items p) (at p)) ∙ both_true _ _ four current) in
      rw (listed p h, stands)

  opened : (u : ℕ) → get_or wider u 0 ≡ 1 → is_near wider u ≡ true
  unfolding is_near
  opened u e = eq-eqb (get_or wider u 0) 1 e

  given-scope : Scope items (verdict_in (length items) table) moment there within
  unfolding counts covers list_at current_of
  given-scope =
      record {
        asked = λ p h which. ap (λ (x : Bool). x && live items moment p) (asked a b items table wider p h which);
        inner = λ p h e.
            let in-here = first (inside a b items table wider p) _ e in
            both_true _ _
            (both_true (is_near wider p) _ (first (is_near wider p) _ in-here) (wanted-here a b (length items) table items p (second (is_near wider p) _ in-here)))
            (second (inside a b items table wider p) _ e);
        vouching = λ u l hu hl e four usable country verdict.
            let one = anchor-kind items moment u usable in
            let other : eqb (item_at items u).kind 4 ≡ false = ne_eqb (item_at items u).kind 4 (λ z. let k = eqb-true (item_at items u).kind 1 one in omega arith) in
            let no-anchor : eqb (item_at items l).kind 1 ≡ false = ne_eqb (item_at items l).kind 1 (λ z. let k = eqb-true (item_at items l).kind 4 four in omega arith) in
            let here = second (is_near wider l) _ (first (inside a b items table wider l) _ e) in
            let current = sym (live-list items moment l four) ∙ second (inside a b items table wider l) _ e in
            let is = sym (country-same a b items u l other four country) ∙ sym (here-other a b (length items) table items l no-anchor) ∙ here in
            let marked : is_near wider u ≡ true =
            ⊎_elim (λ k. near-wider u hu k) (λ k. opened u (voucher.heard u l hu hl (list-stands l hl four here current) verdict k)) (anchor-waits u hu one) in
            both_true _ _ (both_true (is_near wider u) _ marked (here-anchor a b (length items) table items u l hl verdict is)) (live-other items moment u other);
        covering = λ l p hl hp counts there least most covers.
            let four = first (eqb (item_at items l).kind 4) _ counts in
            let current : current_of moment (item_at items l) ≡ true = middle (eqb (item_at items l).kind 4) _ _ counts in
            let one : eqb (item_at items p).kind 1 ≡ false = ne_eqb (item_at items p).kind 1 (λ z. omega arith) in
            let other : eqb (item_at items p).kind 4 ≡ false = ne_eqb (item_at items p).kind 4 (λ z. omega arith) in
            let no-anchor : eqb (item_at items l).kind 1 ≡ false = ne_eqb (item_at items l).kind 1 (λ z. let k = eqb-true (item_at items l).kind 4 four in omega arith) in
            let near_p = first (is_near wider p) _ (first (is_open a b items table wider p) _ there) in
            at_home l (near-wider l hl (list-near l hl four)) no-anchor (live-list items moment l four ∙ current)
            ∙ country-same a b items p l other four covers ∙ sym (at_home p near_p one (live-other items moment p other));
      }
    where
      at_home : (p : ℕ) → is_near wider p ≡ true → eqb (item_at items p).kind 1 ≡ false → live items moment p ≡ true → within p ≡ home a b items p
      at_home p e one l = and-true (inside a b items table wider p) _ l ∙ rw (e, here-other a b (length items) table items p one)

  -- a good chain whose places are near is within
  module _ (target : ℕ) (country : home a b items target ≡ true) where
    alive : {u : ℕ} {d : List ℕ} → Onward (good_of items table moment) target u d → AllNear (inside a b items table wider) d → AllNear within d
    unfolding chains has_kind
    alive (ends m signer step) (more x done) =
        let three = eqb-true (item_at items target).kind 3 (first (eqb (item_at items target).kind 3) _ signer) in
        more (both_true _ _ x (live-other items moment target (ne_eqb (item_at items target).kind 4 (λ z. omega arith)))) done
    alive (goes {v = v} m link step rest) (more x others) =
        let two = eqb-true (item_at items v).kind 2 (first (eqb (item_at items v).kind 2) _ link) in
        more (both_true _ _ x (live-other items moment v (ne_eqb (item_at items v).kind 4 (λ z. omega arith)))) (alive rest others)

    chain-within : {d : List ℕ} → Chain (good_of items table moment) target d → AllNear (is_near wider) d → AllNear within d
    unfolding chains
    chain-within (chain {u = u} l anchor o) (more x others) =
        let one = eqb-true (item_at items u).kind 1 (anchor-kind items moment u anchor) in
        let here = anchor-here a b items table moment target country o in
        more (both_true _ _ (both_true (is_near wider u) _ x here) (live-other items moment u (ne_eqb (item_at items u).kind 4 (λ z. omega arith))))
        (alive o (all-inside a b items table moment target country wider o others))

-- the tables of a proposal
module _ (items : List Item) (at : ℕ → ℕ) (held : Row → List ℕ) (placed : Placed held items at) (table : List ℕ) (moment target : ℕ) (signer : List ℕ) where
  pub given-tables :
      (c before near wider : List ℕ) (lists : List Bool) (counting roles : List ℕ) (rows opened : List (List ℕ)) → length items ≤ 96 → target < length items
      → (item_at items target).kind ≡ 3 → row_from signer ≡ row_of moment (item_at items target) (at target) → (get_or signer 0 0 ≡ 0 → ⊥)
      → InRange (length items) c → get_or c (length c - 1) 0 ≡ target
      → ((p : ℕ) → p < length items → get_or before p 0 ≡ waiting_of (item_at items p).kind) → Named c before near
      → Opens moment (get_or signer 1 0) (get_or signer 2 0) (length items) table items at (set (replicate 96 0) target 1) near (set (replicate 96 (replicate 17 0)) target signer) rows
      → ((p : ℕ) → p < length items → get_or lists p false ≡ list_of (row_at rows p)) → Vouching (length items) table lists near wider
      → Opens moment (get_or signer 1 0) (get_or signer 2 0) (length items) table items at near wider rows opened
      → Counted (length items) table opened counting → Roles held (length items) (replicate 96 0) opened counting (replicate 96 0) roles
      → Tabled items at table moment target c opened roles
  unfolding is_near
  given-tables c before near wider lists counting roles rows opened few h three is some range last firsts named opens listed voucher more-open counted known =
      let a = get_or signer 1 0 in
      let b = get_or signer 2 0 in
      let end : is_near near target ≡ true =
      eq-eqb (get_or near target 0) 1 (rw last at (named.named (length c - 1) (omega (arith, range.two)))) in
      let told = told-next a b items at table moment _ near _ rows (first-told items at table moment target a b signer h few three is)
      (λ p k. first-kept items at table moment target near end p) opens in
      let wide = near-wider a b items at table moment c before near wider lists rows firsts named voucher listed told in
      let told-more = told-live items moment at (is_open a b items table wider) opened
      (told-next a b items at table moment near wider rows opened told wide more-open) in
      let scope = given-scope a b items at table moment c before near wider lists rows firsts named voucher listed told in
      let counts = counting-means items at table moment scope opened told-more counting counted in
      record {
        there = λ p. is_open a b items table wider p && live items moment p;
        within = λ p. inside a b items table wider p && live items moment p;
        scope = scope;
        told = told-more;
        known = roles-mean items at table moment scope opened told-more held placed counting counts (replicate 96 0) (replicate 96 0) roles known
            (λ p k e. absurd (no-slots p e));
        near = λ d.
            chain-within a b items at table moment c before near wider lists rows firsts named voucher listed told target (row-home items at table moment target signer three is some) d
            (all_near (is_near wider) c (λ i k. wide (get_or c i 0) (range.inside i k) (eq-eqb _ 1 (named.named i k))));
      }
