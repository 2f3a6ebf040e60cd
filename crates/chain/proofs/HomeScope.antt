-- What is near and of the target's country: what else is open, or shut, changes nothing that is told of it. An anchor or a CRL is always
-- near, and an anchor from which no verdict leads on neither vouches nor begins a chain.
use Prim.Native.Nat.{ℕ, ◌<◌, ◌≤◌}
use mathlib.Core.Path.{◌≡◌, refl, sym, ap, ◌∙◌}
use mathlib.Core.Bool.{Bool, true, false, cond, ◌&&◌}
use mathlib.Core.List.{List}
use mathlib.Core.Logic.{◌⊎◌, inl, inr, ⊎_elim}
use native.Mathlib.Omega.{arith}
use borrow.Author.Tests.{eqb-true, ne_eqb}
use lib.Dec.{eqb}
use lib.ListN.{length}
use Rattle.image.specs.Items.{Item}
use Rattle.usable.specs.Items.{item_at}
use Rattle.usable.specs.Usable.{counts, covers}
use Rattle.usable.specs.Table.{verdict_in}
use Rattle.usable.specs.Rows.{is_near}
use Rattle.usable.proofs.Booleans.{false-true, first, second, both_true}
use Rattle.usable.proofs.CountingMeans.{anchor-kind}
use Rattle.usable.proofs.RowLaws.{some-there}
use Rattle.usable.proofs.Scope.{Scope}
use Rattle.chain.specs.Rounds.{speaks_up, here_of, wanted_of}
use Rattle.chain.proofs.Homes.{home, country-same}

-- what is not near is neither an anchor nor a CRL
abbrev pub Based : List Item → List ℕ → Type 0
Based items near =
    (p : ℕ) → p < length items → is_near near p ≡ false → (eqb (item_at items p).kind 1 ≡ false) × (eqb (item_at items p).kind 4 ≡ false)

pub always-near :
    (items : List Item) (near : List ℕ) → Based items near → (p : ℕ) → p < length items
    → (eqb (item_at items p).kind 1 ≡ true) ⊎ (eqb (item_at items p).kind 4 ≡ true) → is_near near p ≡ true
always-near items near based p h k = go (is_near near p) refl
  where
    go : (n : Bool) → is_near near p ≡ n → n ≡ true
    go true e = refl
    go false e = let other = based p h e in ⊎_elim (λ one. false-true (sym other.0 ∙ one)) (λ four. false-true (sym other.1 ∙ four)) k

module _ (a b : ℕ) (items : List Item) (table near : List ℕ) where
  -- near, and here
  abbrev pub inside : ℕ → Bool
  inside p = is_near near p && here_of a b (length items) table items p

  -- near, and wanted
  abbrev pub is_open : ℕ → Bool
  is_open p = is_near near p && wanted_of a b (length items) table items p

-- what is here, by its kind
module _ (a b n : ℕ) (table : List ℕ) (items : List Item) (p : ℕ) where
  pub here-other : eqb (item_at items p).kind 1 ≡ false → here_of a b n table items p ≡ home a b items p
  unfolding here_of
  here-other e = rw e

  pub here-anchor : (v : ℕ) → v < n → verdict_in n table p v ≡ true → home a b items p ≡ true → here_of a b n table items p ≡ true
  unfolding here_of speaks_up
  here-anchor v h e is = rw (some-there n (verdict_in n table p) v h e, is) (go (eqb (item_at items p).kind 1))
    where
      go : (t : Bool) → cond t (cond true true false) true ≡ true
      go true = refl
      go false = refl

  pub here-home : here_of a b n table items p ≡ true → home a b items p ≡ true
  unfolding here_of
  here-home e = go (eqb (item_at items p).kind 1) (speaks_up n table p) e
    where
      go : (t s : Bool) → cond t (cond s (home a b items p) false) (home a b items p) ≡ true → home a b items p ≡ true
      go true true k = k
      go true false k = false-true k
      go false s k = k

  -- what is asked
  pub wanted-asked :
      eqb (item_at items p).kind 2 ≡ false → eqb (item_at items p).kind 3 ≡ false → wanted_of a b n table items p ≡ here_of a b n table items p
  unfolding wanted_of
  wanted-asked two three = rw (two, three)

  -- by its kind, which is a number that was read
  module _ (kind : ℕ) (is : (item_at items p).kind ≡ kind) where
    pub wanted-signed : eqb kind 2 ≡ true → wanted_of a b n table items p ≡ true
    unfolding wanted_of
    wanted-signed two = rw (is, two)

    module _ (two : eqb kind 2 ≡ false) where
      pub wanted-third : eqb kind 3 ≡ true → wanted_of a b n table items p ≡ true
      unfolding wanted_of
      wanted-third three = rw (is, two, three)

      module _ (three : eqb kind 3 ≡ false) where
        pub wanted-silent : eqb kind 1 ≡ true → speaks_up n table p ≡ false → wanted_of a b n table items p ≡ false
        unfolding wanted_of here_of
        wanted-silent one silent = rw (is, two, three, one, silent)

        pub wanted-home : (eqb kind 1 ≡ true → speaks_up n table p ≡ true) → wanted_of a b n table items p ≡ home a b items p
        unfolding wanted_of here_of
        wanted-home speaks = go (eqb (item_at items p).kind 2) (ap (λ (k : ℕ). eqb k 2) is ∙ two) (eqb (item_at items p).kind 3) (ap (λ (k : ℕ). eqb k 3) is ∙ three)
            (eqb (item_at items p).kind 1) (λ e. speaks (sym (ap (λ (k : ℕ). eqb k 1) is) ∙ e)) (speaks_up n table p) refl
          where
            go :
                (x : Bool) → x ≡ false → (y : Bool) → y ≡ false → (z : Bool) → (z ≡ true → speaks_up n table p ≡ true) → (s : Bool) → speaks_up n table p ≡ s
                → cond x true (cond y true (cond z (cond s (home a b items p) false) (home a b items p))) ≡ home a b items p
            go true e y f z g s h = false-true (sym e)
            go false e true f z g s h = false-true (sym f)
            go false e false f true g true h = refl
            go false e false f true g false h = false-true (sym h ∙ g refl)
            go false e false f false g s h = refl

  pub wanted-signer : (item_at items p).kind ≡ 3 → wanted_of a b n table items p ≡ true
  unfolding wanted_of
  wanted-signer three = rw three

  pub wanted-here : here_of a b n table items p ≡ true → wanted_of a b n table items p ≡ true
  unfolding wanted_of
  wanted-here h = rw h (go (eqb (item_at items p).kind 2) (eqb (item_at items p).kind 3))
    where
      go : (x y : Bool) → cond x true (cond y true true) ≡ true
      go true y = refl
      go false true = refl
      go false false = refl

module _ (a b : ℕ) (items : List Item) (table near : List ℕ) where
  -- of an anchor or a CRL it is asked whether it is here
  pub asked :
      (p : ℕ) → p < length items → (eqb (item_at items p).kind 1 ≡ true) ⊎ (eqb (item_at items p).kind 4 ≡ true)
      → is_open a b items table near p ≡ inside a b items table near p
  asked p h which =
      let two : eqb (item_at items p).kind 2 ≡ false = ne_eqb (item_at items p).kind 2 (λ z. kind 2 z (omega arith) (omega arith) which) in
      let three : eqb (item_at items p).kind 3 ≡ false = ne_eqb (item_at items p).kind 3 (λ z. kind 3 z (omega arith) (omega arith) which) in
      rw (wanted-asked a b (length items) table items p two three)
    where
      kind : (k : ℕ) → (item_at items p).kind ≡ k → 2 ≤ k → k ≤ 3 → (eqb (item_at items p).kind 1 ≡ true) ⊎ (eqb (item_at items p).kind 4 ≡ true) → ⊥
      kind k is l m (inl e) = let one = eqb-true (item_at items p).kind 1 e in omega arith
      kind k is l m (inr e) = let four = eqb-true (item_at items p).kind 4 e in omega arith

module _ (a b : ℕ) (items : List Item) (table : List ℕ) (moment : ℕ) (near : List ℕ) (based : Based items near) where
  list_inside : (c : ℕ) → c < length items → eqb (item_at items c).kind 4 ≡ true → inside a b items table near c ≡ home a b items c
  list_inside c h four =
      let other : eqb (item_at items c).kind 1 ≡ false = ne_eqb (item_at items c).kind 1 (λ z. let k = eqb-true (item_at items c).kind 4 four in omega arith) in
      rw (always-near items near based c h (inr four), here-other a b (length items) table items c other)

  pub home-scope : Scope items (verdict_in (length items) table) moment (is_open a b items table near) (inside a b items table near)
  unfolding counts covers
  home-scope =
      record {
        asked = asked a b items table near;
        inner = λ p h e.
            both_true (is_near near p) _ (first (is_near near p) _ e) (wanted-here a b (length items) table items p (second (is_near near p) _ e));
        vouching = λ u c hu hc within four usable country verdict.
            let one = anchor-kind items moment u usable in
            let other : eqb (item_at items u).kind 4 ≡ false = ne_eqb (item_at items u).kind 4 (λ z. let k = eqb-true (item_at items u).kind 1 one in omega arith) in
            let is = sym (country-same a b items u c other four country) ∙ sym (list_inside c hc four) ∙ within in
            both_true (is_near near u) _ (always-near items near based u hu (inl one)) (here-anchor a b (length items) table items u c hc verdict is);
        covering = λ c p hc hp counts there least most covers.
            let four = first (eqb (item_at items c).kind 4) _ counts in
            let one : eqb (item_at items p).kind 1 ≡ false = ne_eqb (item_at items p).kind 1 (λ z. omega arith) in
            let other : eqb (item_at items p).kind 4 ≡ false = ne_eqb (item_at items p).kind 4 (λ z. omega arith) in
            list_inside c hc four ∙ country-same a b items p c other four covers
            ∙ rw (first (is_near near p) _ there, here-other a b (length items) table items p one);
      }
