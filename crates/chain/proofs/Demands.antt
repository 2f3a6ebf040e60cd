-- A best chain of an image's items has what is demanded: each place is what the graph of good chains says of it, a place that stands
-- twice would leave a shorter chain, and a search finds it in 96 slots.
use Rattle.std.specs.Prelude.{Result, Ok, Err}
use Prim.Native.Nat.{ℕ, ◌<◌, ◌≤◌}
use mathlib.Core.Path.{◌≡◌, refl}
use mathlib.Core.Bool.{Bool, true, false, ◌&&◌}
use mathlib.Core.List.{List}
use mathlib.Core.Logic.{◌⊎◌, inl, inr}
use native.Mathlib.Omega.{arith}
use borrow.Author.Tests.{eqb-true, leb-true, ne_eqb}
use lib.Dec.{eqb, leb}
use lib.ListN.{length, get_or}
use Rattle.refusal.specs.declared.Refusal.{Refusal}
use Rattle.certificate.specs.declared.Fields.{Fields}
use Rattle.certificate.specs.Answer.{judged_of}
use Rattle.graph.specs.Chains.{Chain, NotLater, Best}
use Rattle.graph.proofs.Places as places
use Rattle.graph.proofs.Steps.{Apart}
use Rattle.graph.proofs.Targets.{chain-target}
use Rattle.search.proofs.Ending.{best-fits}
use Rattle.image.specs.Items.{Item}
use Rattle.image.specs.Index.{entry_count, items_in}
use Rattle.chain.specs.Answer.{asked_of, good_chains}
use Rattle.chain.specs.Demand.{EnabledAnchor, UsableAs, Demanded}
use Rattle.chain.specs.Given.{InRange}
use Rattle.usable.specs.Items.{item_at, on_certificate, certificate_at, within}
use Rattle.chain.specs.Good.{chains}
use Rattle.usable.specs.Steps.{has_kind}
use Rattle.usable.specs.Table.{verdict_in}
use Rattle.usable.specs.Usable.{valid, usable_anchor, usable}
use Rattle.chain.proofs.Answering.{asked-over}
use Rattle.usable.proofs.Booleans.{false-true, first, second}
use Rattle.image.proofs.Places.{length-items}
use Rattle.chain.proofs.Payloads.{a_question}

module _ (items : List Item) (moment u : ℕ) where
  anchor-kind : usable_anchor items moment u ≡ true → (item_at items u).kind ≡ 1
  unfolding usable_anchor
  anchor-kind h = eqb-true _ _ (first (eqb (item_at items u).kind 1) _ h)

  pub enabled-anchor : usable_anchor items moment u ≡ true → EnabledAnchor items moment u
  unfolding usable_anchor valid certificate_at on_certificate within
  enabled-anchor h = go (judged_of (item_at items u).bytes (item_at items u).kind) refl (second (eqb (item_at items u).flags 1) _ on)
    where
      on : (eqb (item_at items u).flags 1 && valid items moment u) ≡ true
      on = second (eqb (item_at items u).kind 1) _ h

      go : (j : Result Fields Refusal) → judged_of (item_at items u).bytes (item_at items u).kind ≡ j → on_certificate j (λ f. within f.start f.end moment) ≡ true → EnabledAnchor items moment u
      go (Err why) e v = false-true v
      go (Ok f) e v =
          record {
            anchor = anchor-kind h;
            enabled = eqb-true _ _ (first (eqb (item_at items u).flags 1) _ on);
            fields = f;
            passes = rw (anchor-kind h) at e;
            started = leb-true _ _ (first (leb f.start moment) _ v);
            lasting = leb-true _ _ (second (leb f.start moment) _ v);
          }

-- a signer is neither an anchor nor a link: it is of another kind
apart : (items : List Item) (verdict : ℕ → ℕ → Bool) (moment : ℕ) → Apart (chains items verdict moment)
unfolding chains has_kind
apart items verdict moment =
    record {
      anchors = λ {v} h. other v 1 (anchor-kind items moment v h) (omega arith);
      links = λ {v} h. other v 2 (eqb-true _ _ (first (eqb (item_at items v).kind 2) _ h)) (omega arith);
    }
  where
    other : (v kind : ℕ) → (item_at items v).kind ≡ kind → kind < 3 → (eqb (item_at items v).kind 3 && usable items verdict moment v) ≡ false
    other v kind e l = rw (ne_eqb (item_at items v).kind 3 (omega (arith, e)))

module _ (s table : List ℕ) (moment target : ℕ) where
  usable-link : (u : ℕ) → (good_chains s table moment).link u ≡ true → UsableAs 2 s table moment u
  unfolding chains has_kind
  usable-link u h =
      record { is = eqb-true _ _ (first (eqb (item_at (items_in s) u).kind 2) _ h); may = second (eqb (item_at (items_in s) u).kind 2) _ h }

  usable-signer : (u : ℕ) → (good_chains s table moment).signer u ≡ true → UsableAs 3 s table moment u
  unfolding chains has_kind
  usable-signer u h =
      record { is = eqb-true _ _ (first (eqb (item_at (items_in s) u).kind 3) _ h); may = second (eqb (item_at (items_in s) u).kind 3) _ h }

  starts-at : {c : List ℕ} → Chain (good_chains s table moment) target c → EnabledAnchor (items_in s) moment (get_or c 0 0)
  unfolding chains
  starts-at {c} h = enabled-anchor (items_in s) moment (get_or c 0 0) (places.starts h)

  all-places : (good_chains s table moment).places ≡ entry_count s
  unfolding chains
  all-places = length-items s

  module _ {c : List ℕ} (b : Best (good_chains s table moment) target c) where
    no_longer : (d : List ℕ) → (length c < length d) ⊎ ((length c ≡ length d) × NotLater c d) → length c ≤ length d
    no_longer d (inl k) = omega arith
    no_longer d (inr k) = omega (arith, k.0)

    no-later : (d : List ℕ) → length d ≡ length c → (length c < length d) ⊎ ((length c ≡ length d) × NotLater c d) → NotLater c d
    no-later d e (inl k) = absurd (omega arith)
    no-later d e (inr k) = k.1

    pub demands : {n version : ℕ} → asked_of s table moment target ≡ a_question n version → Demanded s table moment target c
    unfolding chains
    demands e =
        let o = asked-over s table moment target e in
        let kinds = apart (items_in s) (verdict_in (entry_count s) table) moment in
        record {
          good = b.good;
          starts = starts-at b.good;
          links = λ i p h. usable-link (get_or c i 0) (places.inner b.good i p h);
          ends = places.last b.good;
          signer = usable-signer target (chain-target b.good).1;
          steps = places.step-by-step b.good;
          two = places.two-places b.good;
          most = best-fits kinds (omega (arith, all-places, o.1, o.2)) b;
          inside = λ i h. omega (arith, all-places, places.below b.good i h);
          once = places.no-place-twice kinds b;
          shortest = λ d h. no_longer d (b.least d h);
          first = λ d h l. no-later d l (b.least d h);
        }

    -- so it is in the range of a proposal
    pub best-in-range : {n version : ℕ} → asked_of s table moment target ≡ a_question n version → InRange n c
    best-in-range e =
        let d = demands e in
        let o = asked-over s table moment target e in
        record { two = d.two; most = d.most; inside = λ i h. omega (arith, o.1, d.inside i h) }
