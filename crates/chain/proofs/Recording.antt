-- The record of a place has the length and slots that a search found for it: where the place is a signer these are what the single
-- question shows, and at any other place no chain ends, so they are 0 and 255s, as the refusal of that question has them.
use Rattle.std.specs.Prelude.{Err}
use Prim.Native.Nat.{ℕ, ◌*◌, ◌<◌, ◌≤◌}
use mathlib.Core.Path.{◌≡◌, refl, sym, subst, ◌∙◌}
use mathlib.Core.Bool.{Bool, true, false, ◌&&◌}
use mathlib.Core.List.{List}
use native.Mathlib.Omega.{arith}
use borrow.Author.Tests.{lt-ltb}
use lib.Dec.{eqb}
use lib.ListN.{length, drop, replicate}
use Rattle.refusal.specs.declared.Refusal.TheVariants as refusal
use Rattle.calendar.specs.Days.{real_moment}
use Rattle.graph.specs.Answer as search
use Rattle.graph.specs.Records as records
use Rattle.graph.proofs.Targets.{all-places, chain-target}
use Rattle.image.specs.Answer.{opened_of}
use Rattle.image.specs.Index.{entry_count, entry_in, items_in}
use Rattle.search.specs.Tables.{tables_graph}
use Rattle.usable.specs.Items.{item_at}
use Rattle.usable.specs.Rows.{held_in, step_of, Counted, Roles}
use Rattle.usable.specs.Steps.{has_kind}
use Rattle.usable.specs.Table.{verdict_in, table_good}
use Rattle.usable.specs.Usable.{usable}
use Rattle.chain.specs.declared.Outcome.TheVariants.{Shown, Refused}
use Rattle.chain.specs.Good.{chains}
use Rattle.chain.specs.Answer.{on_image, asked_of, good_chains, refused, none, found}
use Rattle.chain.specs.Rounds.{starts_in}
use Rattle.chain.specs.Signers.{Recorded, Records}
use Rattle.chain.specs.Whole.{AllOpen}
use Rattle.chain.proofs.PlacesMean.{item-told}
use Rattle.chain.proofs.WholeMeans.{whole-image}
use Rattle.image.proofs.Payloads.{an_image}
use Rattle.chain.proofs.Payloads.{a_question}

-- what was recorded for the tables' graph is recorded for the image's
pub whole-records :
    (s table : List ℕ) (moment n : ℕ) → n ≡ entry_count s → (rows : List (List ℕ)) (counting roles : List ℕ) {old out : List ℕ} → n ≤ 96
    → 97 * n ≤ length old → AllOpen moment n (items_in s) (starts_in s) rows → Counted n table rows counting
    → Roles (held_in s) n (replicate 96 0) rows counting (replicate 96 0) roles
    → records.AllRecorded (tables_graph (held_in s) n table rows roles) old out → records.Records (good_chains s table moment) n old out
whole-records s table moment n same rows counting roles few room told counted is (records.stays short kept) =
    absurd (omega (arith, all-places n roles (step_of (held_in s) n table rows roles) few, short, room))
whole-records s table moment n same rows counting roles {old} {out} few room told counted is (records.written long r) =
    let all = all-places n roles (step_of (held_in s) n table rows roles) few in
    record {
      each = λ p h.
          let e = r.each p (omega (arith, all, h)) in
          record {
            single = e.single;
            answers = whole-image s table moment p n same rows counting roles _ few told counted is (λ u v hu hv. refl) e.answers;
            same = e.same;
          };
      beyond = subst (λ (m : ℕ). drop (97 * m) out ≡ drop (97 * m) old) all r.beyond;
      long = r.long;
    }

first-of : (p q : Bool) → (p && q) ≡ true → p ≡ true
first-of true q e = refl
first-of false q e = e

module _ (s table : List ℕ) (moment n : ℕ) where
  -- a chain ends at a place of kind 3
  signer-kind :
      (p : ℕ) → p < entry_count s → (good_chains s table moment).signer p ≡ true → eqb (entry_in s p).kind 3 ≡ true
  unfolding chains has_kind
  signer-kind p h e =
      let kind : eqb (item_at (items_in s) p).kind 3 ≡ true =
      first-of (eqb (item_at (items_in s) p).kind 3) (usable (items_in s) (verdict_in (entry_count s) table) moment p) e in
      rw (item-told s p h) at kind

  module _ (same : n ≡ entry_count s) {day version : ℕ} (is : opened_of s ≡ an_image n day version) (good : table_good n table ≡ true) (real : real_moment 1950 2099 moment ≡ true) where
    asked-signer : (p : ℕ) → p < n → eqb (entry_in s p).kind 3 ≡ true → asked_of s table moment p ≡ a_question n version
    unfolding asked_of on_image
    asked-signer p h k = rw (is, good, real, lt-ltb _ _ h, k) refl

    asked-other : (p : ℕ) → p < n → eqb (entry_in s p).kind 3 ≡ false → asked_of s table moment p ≡ Err refusal.Argument
    unfolding asked_of on_image
    asked-other p h k = rw (is, good, real, lt-ltb _ _ h, k) refl

    -- the record of a place is that of its single question
    single-record :
        (p : ℕ) {octets : List ℕ} → p < n → records.Recorded (good_chains s table moment) p octets → Recorded s table moment p octets
    single-record p {octets} h r = go (eqb (entry_in s p).kind 3) refl r.answers
      where
        go :
            (b : Bool) → eqb (entry_in s p).kind 3 ≡ b → search.Answered (good_chains s table moment) p r.single
            → Recorded s table moment p octets
        go true k (search.found c b l q) =
            record {
              single = record { outcome = Shown; length = r.single.length; places = r.single.places };
              answers = found c (asked-signer p h k) b (record { told = refl; many = l; slots = q });
              same = r.same;
            }
        go true k (search.none f m) =
            record {
              single = record { outcome = Refused refusal.Chain; length = r.single.length; places = r.single.places };
              answers = none (asked-signer p h k) f (record { told = refl; empty = m.empty; slots = m.slots });
              same = r.same;
            }
        go false k (search.found c b l q) =
            absurd (let t : true ≡ false = sym (signer-kind p (omega (arith, same, h)) (chain-target b.good).1) ∙ k in
            let z : ◌≡◌ {A = ℕ} 0 1 = cc in omega arith)
        go false k (search.none f m) =
            record {
              single = record { outcome = Refused refusal.Argument; length = r.single.length; places = r.single.places };
              answers = refused _ (asked-other p h k) (record { told = refl; empty = m.empty; slots = m.slots });
              same = r.same;
            }

    pub all-records : {old out : List ℕ} → records.Records (good_chains s table moment) n old out → Records s table moment n old out
    all-records r = record { each = λ p h. single-record p h (r.each p h); beyond = r.beyond; long = r.long }
