-- The first round: the target is opened first, then of what is near the anchors and CRLs of its country, and what else is marked.
use Prim.Native.Nat.{ℕ, ◌+◌, ◌<◌, ◌≤◌}
use mathlib.Core.Path.{◌≡◌, refl, sym, ap, ◌∙◌}
use mathlib.Core.Bool.{Bool, true, false, cond, ◌&&◌}
use mathlib.Core.List.{List}
use mathlib.Core.Logic.{◌⊎◌, ⊎_elim}
use native.Mathlib.Omega.{arith}
use borrow.Author.Tests.{eqb-true, eqb-false, eq-eqb}
use lib.Dec.{eqb}
use lib.ListN.{length, get_or, set, replicate}
use lib.Seq.{get_or-set_same, get_or-set_other}
use Rattle.graph.specs.Chains.{Onward, ends, goes, Chain}
use Rattle.graph.specs.declared.Found.{Found}
use Rattle.graph.specs.Answer.{NoChain, Answered, none}
use Rattle.graph.proofs.Targets.{chain-target}
use Rattle.image.specs.Items.{Item}
use Rattle.usable.specs.declared.opened.Row.{Row}
use Rattle.usable.specs.Items.{item_at}
use Rattle.usable.specs.Usable.{valid, usable}
use Rattle.usable.specs.Steps.{has_kind}
use Rattle.usable.specs.Rows.{blank, row_from, row_of, row_at, is_near, Counted, Roles}
use Rattle.usable.proofs.Booleans.{false-true, first, second, both_true}
use Rattle.usable.proofs.Slots.{empty-slots}
use Rattle.usable.proofs.RowLaws.{blank-rows, set_here, set_there}
use Rattle.usable.proofs.RowReadings.{Reading, reading, certificate, list, neither}
use Rattle.usable.proofs.Scope.{Placed, Told}
use Rattle.usable.proofs.StandingMeans.{standing-signed}
use Rattle.usable.proofs.CountingMeans.{valid-told, counting-means}
use Rattle.usable.proofs.RolesMean.{roles-mean}
use Rattle.chain.specs.Good.{chains}
use Rattle.chain.specs.Near.{first_of}
use Rattle.chain.specs.Rounds.{wanted_of, Opens}
use Rattle.chain.proofs.Homes.{home, certificate-home}
use Rattle.chain.proofs.HomeScope.{Based, is_open, wanted-signer, home-scope}
use Rattle.chain.proofs.Meaning.{good_of}
use Rattle.chain.proofs.NearRows.{told-next}
use Rattle.chain.proofs.Transfer.{AllNear, done, more}
use Rattle.chain.proofs.RoundsHold.{Round}

pub no-slots : (p : ℕ) → is_near (replicate 96 0) p ≡ true → ⊥
unfolding is_near
no-slots p e = false-true (rw (empty-slots {A = ℕ} 96 p) at e)

module _ (items : List Item) (at : ℕ → ℕ) (table : List ℕ) (moment target : ℕ) where
  -- the target's row, and none else, is told first
  pub first-told :
      (a b : ℕ) (signer : List ℕ) → target < length items → length items ≤ 96 → (item_at items target).kind ≡ 3 → row_from signer ≡ row_of moment (item_at items target) (at target)
      → Told moment items at (is_open a b items table (set (replicate 96 0) target 1)) (set (replicate 96 (replicate 17 0)) target signer)
  unfolding is_near
  first-told a b signer h few three is p k = go (eqb p target) refl
    where
      room : target < 96
      room = omega arith

      go :
          (t : Bool) → eqb p target ≡ t
          → row_at (set (replicate 96 (replicate 17 0)) target signer) p
          ≡ cond (eqb (get_or (set (replicate 96 0) target 1) p 0) 1 && wanted_of a b (length items) table items p) (row_of moment (item_at items p) (at p)) blank
      go true e =
          let q : p ≡ target = eqb-true p target e in
          let wanted : wanted_of a b (length items) table items target ≡ true = wanted-signer a b (length items) table items target three in
          rw (q, get_or-set_same {A = ℕ} (replicate 96 0) target 1 0 room, wanted)
          (set_here (replicate 96 (replicate 17 0)) target signer room ∙ is)
      go false e =
          let q = eqb-false p target e in
          rw (get_or-set_other {A = ℕ} (replicate 96 0) target p 1 0 q, empty-slots {A = ℕ} {d = 0} 96 p)
          (set_there (replicate 96 (replicate 17 0)) target signer p q ∙ blank-rows 96 p)

  -- and it is near now too
  pub first-kept :
      (near : List ℕ) → is_near near target ≡ true → (p : ℕ) → is_near (set (replicate 96 0) target 1) p ≡ true → is_near near p ≡ true
  unfolding is_near
  first-kept near end p e = go (eqb p target) refl
    where
      go : (t : Bool) → eqb p target ≡ t → eqb (get_or near p 0) 1 ≡ true
      go true k = let q : p ≡ target = eqb-true p target k in rw q end
      go false k =
          let q = eqb-false p target k in
          false-true (rw (get_or-set_other {A = ℕ} (replicate 96 0) target p 1 0 q, empty-slots {A = ℕ} {d = 0} 96 p) at e)

  -- the letters of a signer's row are its country's
  pub row-home :
      (signer : List ℕ) → (item_at items target).kind ≡ 3 → row_from signer ≡ row_of moment (item_at items target) (at target) → (get_or signer 0 0 ≡ 0 → ⊥)
      → home (get_or signer 1 0) (get_or signer 2 0) items target ≡ true
  unfolding blank
  row-home signer three is some = go (reading moment (item_at items target) (at target))
    where
      go : Reading moment (item_at items target) (at target) true (row_of moment (item_at items target) (at target)) → home (get_or signer 1 0) (get_or signer 2 0) items target ≡ true
      go (certificate f n j v lo hi on h) =
          let first : get_or signer 1 0 ≡ f.first = ap (λ (r : Row). r.first) (is ∙ h) in
          let second : get_or signer 2 0 ≡ f.second = ap (λ (r : Row). r.second) (is ∙ h) in
          certificate-home (get_or signer 1 0) (get_or signer 2 0) items target f j (rw three)
          ∙ rw (first, second, eq-eqb f.first f.first refl) (eq-eqb f.second f.second refl)
      go (list f n four j v h) = absurd (omega arith)
      go (neither x y z h) = absurd (some (ap (λ (r : Row). r.standing) (is ∙ h)))

module _ (items : List Item) (at : ℕ → ℕ) (held : Row → List ℕ) (placed : Placed held items at) (table : List ℕ) (moment target : ℕ) (near : List ℕ) (marks : (p : ℕ) → p < length items → get_or near p 0 ≡ first_of target p (item_at items p).kind) where
  first-based : Based items near
  unfolding is_near first_of
  first-based p h e = go (eqb p target) (eqb (item_at items p).kind 2) refl (eqb (item_at items p).kind 3) refl (rw (marks p h) at e)
    where
      go :
          (a b : Bool) → eqb (item_at items p).kind 2 ≡ b → (c : Bool) → eqb (item_at items p).kind 3 ≡ c
          → eqb (cond a 1 (cond b 2 (cond c 0 1))) 1 ≡ false
          → (eqb (item_at items p).kind 1 ≡ false) × (eqb (item_at items p).kind 4 ≡ false)
      go true b q c k f = false-true (sym f)
      go false true q c k f = let two = eqb-true (item_at items p).kind 2 q in (rw two, rw two)
      go false false q true k f = let three = eqb-true (item_at items p).kind 3 k in (rw three, rw three)
      go false false q false k f = false-true (sym f)

  first-waiting : (p : ℕ) → p < length items → is_near near p ≡ false → (item_at items p).kind ≡ 2 → get_or near p 0 ≡ 2
  unfolding is_near first_of
  first-waiting p h e two =
      let is : get_or near p 0 ≡ first_of target p (item_at items p).kind = marks p h in rw (is, two) (go (eqb p target) (rw (is, two) at e))
    where
      go : (a : Bool) → eqb (cond a 1 2) 1 ≡ false → ◌≡◌ {A = ℕ} (cond a 1 2) 2
      go true f = false-true (sym f)
      go false f = refl

  first-end : target < length items → is_near near target ≡ true
  unfolding is_near first_of
  first-end h =
      let is : get_or near target 0 ≡ first_of target target (item_at items target).kind = marks target h in rw (is, eq-eqb target target refl)

  first_reach :
      target < length items → {u : ℕ} {c : List ℕ} → Onward (good_of items table moment) target u c → (length c ≤ 0 + 1) ⊎ (◌≡◌ {A = ℕ} 0 4)
      → AllNear (is_near near) c
  first_reach h (ends l signer step) few = more (first-end h) done
  first_reach h (goes l link step (ends m signer next)) few = absurd (⊎_elim (λ k. omega arith) (λ k. omega arith) few)
  first_reach h (goes l link step (goes m other next rest)) few = absurd (⊎_elim (λ k. omega arith) (λ k. omega arith) few)

  pub first_round :
      (signer : List ℕ) {rows : List (List ℕ)} {counting roles : List ℕ}
      → length items ≤ 96 → target < length items → (item_at items target).kind ≡ 3
      → row_from signer ≡ row_of moment (item_at items target) (at target) → (get_or signer 0 0 ≡ 0 → ⊥)
      → Opens moment (get_or signer 1 0) (get_or signer 2 0) (length items) table items at (set (replicate 96 0) target 1) near (set (replicate 96 (replicate 17 0)) target signer) rows
      → Counted (length items) table rows counting → Roles held (length items) (replicate 96 0) rows counting (replicate 96 0) roles
      → Round (get_or signer 1 0) (get_or signer 2 0) items at table moment target 0 near rows counting roles
  first_round signer {rows} {counting} {roles} few h three is some opens counted known =
      let a = get_or signer 1 0 in
      let b = get_or signer 2 0 in
      let told = told-next a b items at table moment _ near _ rows (first-told items at table moment target a b signer h few three is)
      (λ p k. first-kept items at table moment target near (first-end h) p) opens in
      let scope = home-scope a b items table moment near first-based in
      let counts = counting-means items at table moment scope rows told counting counted in
      record {
        told = told;
        based = first-based;
        counts = counts;
        known = roles-mean items at table moment scope rows told held placed counting counts (replicate 96 0) (replicate 96 0) roles known
            (λ p k e. absurd (no-slots p e));
        country = row-home items at table moment target signer three is some;
        end = first-end h;
        waiting = first-waiting;
        reach = first_reach h;
      }

-- a target whose row is blank has no chain
pub blank-target :
    (items : List Item) (at : ℕ → ℕ) (table : List ℕ) (moment target : ℕ) (signer : List ℕ)
    → row_from signer ≡ row_of moment (item_at items target) (at target) → get_or signer 0 0 ≡ 0
    → (c : List ℕ) → Chain (good_of items table moment) target c → ⊥
unfolding chains usable has_kind
blank-target items at table moment target signer is zero c e =
    let usable = (chain-target e).1 in
    let kind = first (eqb (item_at items target).kind 3) _ usable in
    let times = sym (valid-told items moment target) ∙ first (valid items moment target) _ (second (eqb (item_at items target).kind 3) _ usable) in
    let standing : (row_of moment (item_at items target) (at target)).standing ≡ 0 = ap (λ (r : Row). r.standing) (sym is) ∙ zero in
    false-true
    (ap (λ (m : ℕ). eqb m 3) (sym standing)
    ∙ standing-signed (reading moment (item_at items target) (at target)) 3 (omega arith) (omega arith) ∙ both_true _ _ kind times)

pub no_row :
    (items : List Item) (at : ℕ → ℕ) (table : List ℕ) (moment target : ℕ) (signer : List ℕ) {f : Found}
    → row_from signer ≡ row_of moment (item_at items target) (at target) → get_or signer 0 0 ≡ 0 → NoChain f → Answered (good_of items table moment) target f
no_row items at table moment target signer is zero empty = none (blank-target items at table moment target signer is zero) empty
