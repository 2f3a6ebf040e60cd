-- What is asked of places that stay is asked of the same items, with the same verdicts, and of those that went nothing is so: the good
-- chains before and after stand on the same places under new numbers.
use Prim.Native.Nat.{ℕ, ◌≤◌}
use mathlib.Core.Path.{◌≡◌, ap, ap₂}
use mathlib.Core.Bool.{Bool, true, false, ◌&&◌, not}
use mathlib.Core.List.{List}
use native.Mathlib.Omega.{arith}
use lib.Dec.{eqb}
use Rattle.graph.proofs.Cases.{either, clash}
use Rattle.image.specs.Items.{Item}
use Rattle.usable.specs.Items.{item_at, certificate_at, list_at, some_place, within, part_of}
use Rattle.usable.specs.Usable.{valid, usable_anchor, same_country, counts, covers, lists, speaks_of, usable}
use Rattle.usable.specs.Steps.{has_kind, fits, good_step}
use Rattle.chain.specs.Good.{chains}
use Rattle.room.specs.Kept.{stays, kept, new_place}
use Rattle.renumbered.specs.Answers.{Stays}
use Rattle.renumbered.proofs.Going.{went-anchor, went-role, went-counts}
use Rattle.renumbered.proofs.Numbers.{old_place, number-inside, same_item, old-of-new, number-order, new-of-old, place-order}
use Rattle.renumbered.proofs.SomePlace.{some-kept}
use Rattle.renumbered.proofs.Carried.{Matched}

-- one item at two places
record One (items others : List Item) (p q : ℕ) : Type 0 where
  is : item_at others q ≡ item_at items p

module _ {items others : List Item} where
  valid_same : (moment : ℕ) {p q : ℕ} → One items others p q → valid others moment q ≡ valid items moment p
  unfolding valid certificate_at
  valid_same moment e = rw e.is

  anchor-same : (moment : ℕ) {p q : ℕ} → One items others p q → usable_anchor others moment q ≡ usable_anchor items moment p
  unfolding usable_anchor
  anchor-same moment e = rw (e.is, valid_same moment e)

  kind-same : (kind : ℕ) {p q : ℕ} → One items others p q → has_kind others kind q ≡ has_kind items kind p
  unfolding has_kind
  kind-same kind e = rw e.is

  country-same : {p q c d : ℕ} → One items others p q → One items others c d → same_country others q d ≡ same_country items p c
  unfolding same_country certificate_at list_at
  country-same e f = simp (e.is, f.is)

  lists-same : {c d p q : ℕ} → One items others c d → One items others p q → lists others d q ≡ lists items c p
  unfolding lists certificate_at list_at part_of
  lists-same f e = simp (e.is, f.is)

  fits-same : {u v w x : ℕ} → One items others u w → One items others v x → fits others w x ≡ fits items u v
  unfolding fits certificate_at part_of
  fits-same e f = simp (e.is, f.is)

module _ (moment later : ℕ) (since : moment ≤ later) (items : List Item) (verdict ruling : ℕ → ℕ → Bool)
    (same :
    (u v : ℕ) → Stays moment items u → Stays moment items v
    → ruling (new_place moment items u) (new_place moment items v) ≡ verdict u v) where
  abbrev others : List Item
  others = kept moment items

  abbrev new : ℕ → ℕ
  new = new_place moment items

  one : {p : ℕ} → Stays moment items p → One items others p (new p)
  one {p} s = record { is = same_item moment items p s }

  counting : (c : ℕ) → Stays moment items c → counts others ruling later (new c) ≡ counts items verdict later c
  unfolding counts some_place list_at
  counting c s =
      rw (one s).is
      (ap (λ (b : Bool). eqb (item_at items c).kind 4 && (list_at items c (λ g. within g.this_update g.next_update later) && b))
      (some-kept moment items _ _
      (λ a t. rw (anchor-same later (one t), country-same (one t) (one s), same a c t s))
      (λ a gone. rw (went-anchor moment later since items a gone))))

  speaking :
      (p c : ℕ) → Stays moment items p → Stays moment items c
      → speaks_of others ruling later (new p) (new c) ≡ speaks_of items verdict later p c
  unfolding speaks_of covers
  speaking p c s t = rw (counting c t, country-same (one s) (one t))

  silent : (p c : ℕ) → stays moment (item_at items c) ≡ false → speaks_of items verdict later p c ≡ false
  unfolding speaks_of
  silent p c gone = rw (went-counts moment later since items c gone verdict)

  still-usable : (p : ℕ) → Stays moment items p → usable others ruling later (new p) ≡ usable items verdict later p
  unfolding usable some_place
  still-usable p s =
      let spoken = some-kept moment items (speaks_of items verdict later p) (speaks_of others ruling later (new p)) (λ c. speaking p c s) (silent p) in
      let listed =
      some-kept moment items (λ c. speaks_of items verdict later p c && lists items c p)
      (λ c. speaks_of others ruling later (new p) c && lists others c (new p))
      (λ c t. rw (speaking p c s t, lists-same (one t) (one s)))
      (λ c gone. rw (silent p c gone)) in
      rw (valid_same later (one s)) (ap₂ (λ (a b : Bool). valid items later p && (a && not b)) spoken listed)

  stepping :
      (u v : ℕ) → Stays moment items u → Stays moment items v → good_step others ruling (new u) (new v) ≡ good_step items verdict u v
  unfolding good_step
  stepping u v s t =
      rw (kind-same 1 (one s), kind-same 2 (one s), kind-same 2 (one t), kind-same 3 (one t), same u v s t, fits-same (one s) (one t))

  role : (kind p : ℕ) → Stays moment items p
      → (has_kind others kind (new p) && usable others ruling later (new p)) ≡ (has_kind items kind p && usable items verdict later p)
  role kind p s = rw (kind-same kind (one s), still-usable p s)

  -- what is so of a place that goes is so of none
  stayed : (p : ℕ) (b : Bool) → (stays moment (item_at items p) ≡ false → b ≡ false) → b ≡ true → stays moment (item_at items p) ≡ true
  stayed p b never e = either (stays moment (item_at items p)) (λ k. k) (λ gone. absurd (clash e (never gone)))

  pub matched :
      Matched (chains items verdict later) (chains others ruling later) (λ p. stays moment (item_at items p)) new (old_place moment items)
  unfolding chains
  matched =
      record {
        inside = λ u l k. number-inside moment items u (record { inside = l; kept = k });
        back = λ k l. let (s, number) = new-of-old moment items k l in (s.inside, s.kept, number);
        forth = λ u l k. old-of-new moment items u (record { inside = l; kept = k });
        order = λ u v l k. number-order moment items u v (record { inside = l; kept = k });
        old-order = place-order moment items;
        anchor = λ u l k. anchor-same later (one {p = u} (record { inside = l; kept = k }));
        link = λ u l k. role 2 u (record { inside = l; kept = k });
        signer = λ u l k. role 3 u (record { inside = l; kept = k });
        step = λ u v l i a b. stepping u v (record { inside = l; kept = a }) (record { inside = i; kept = b });
        anchor-stays = λ u l. stayed u _ (went-anchor moment later since items u);
        link_stays = λ u l. stayed u _ (λ gone. went-role moment later since items u gone verdict 2 (omega arith));
        signer-stays = λ u l. stayed u _ (λ gone. went-role moment later since items u gone verdict 3 (omega arith));
      }
