-- A question that may be asked is over the image's entries, and what the search found for it is the answer.
use Rattle.std.specs.Prelude.{Result, Ok, Err}
use Prim.Native.Nat.{ℕ, ◌<◌, ◌≤◌}
use mathlib.Core.Path.{◌≡◌, refl, sym, ◌∙◌}
use mathlib.Core.Bool.{Bool, true, false, cond}
use mathlib.Core.List.{List}
use native.Mathlib.Omega.{arith}
use borrow.Author.Tests.{ltb-true, eqb-true}
use lib.Dec.{ltb, eqb}
use Rattle.refusal.specs.declared.Refusal.{Refusal}
use Rattle.refusal.specs.declared.Refusal.TheVariants as refusal
use Rattle.calendar.specs.Days.{real_moment}
use Rattle.graph.proofs.Places.{two-places}
use Rattle.graph.specs.declared.Found.{Found}
use Rattle.graph.specs.Answer as search
use Rattle.image.specs.declared.Opened.{Opened}
use Rattle.image.specs.Answer.{opened_of}
use Rattle.image.specs.Index.{entry_count, version_in, entry_in}
use Rattle.chain.specs.declared.asking.Asked.{Asked}
use Rattle.chain.specs.declared.Answer.{Answer}
use Rattle.chain.specs.Answer.{on_image, asked_of, good_chains, Shows, nothing, something, Answered, none, found}
use Rattle.usable.specs.Table.{table_good}
use Rattle.image.proofs.Few.{opened-image}
use Rattle.chain.proofs.Payloads.{a_question, same_question}

not-over : {why : Refusal} {n version : ℕ} → ◌≡◌ {A = (Result Asked Refusal)} (Err why) (a_question n version) → ⊥
not-over e = let z : ◌≡◌ {A = ℕ} 0 1 = cc in omega arith

-- of four tests all have to hold
all-four :
    {m own n version : ℕ} (a b c d : Bool)
    → cond a
    (cond b (cond c (cond d (a_question m own) (Err refusal.Argument)) (Err refusal.Argument))
    (Err refusal.Argument))
    (Err refusal.Argument)
    ≡ a_question n version
    → (m ≡ n) × (own ≡ version) × (c ≡ true) × (d ≡ true)
all-four false b c d e = absurd (not-over e)
all-four true false c d e = absurd (not-over e)
all-four true true false d e = absurd (not-over e)
all-four true true true false e = absurd (not-over e)
all-four true true true true e = let (places, version) = same_question e in (places, version, refl, refl)

module _ (s table : List ℕ) (moment target : ℕ) where
  pub asked-over :
      {n version : ℕ} → asked_of s table moment target ≡ a_question n version
      → (version ≡ version_in s) × (n ≡ entry_count s) × (n ≤ 96) × (target < n) × ((entry_in s target).kind ≡ 3)
  unfolding asked_of on_image
  asked-over {n} {version} = go (opened_of s) refl
    where
      go : (o : Result Opened Refusal) → opened_of s ≡ o → on_image s table moment target o ≡ a_question n version
          → (version ≡ version_in s) × (n ≡ entry_count s) × (n ≤ 96) × (target < n) × ((entry_in s target).kind ≡ 3)
      go (Err why) e f = absurd (not-over f)
      go (Ok opened1) e f =
          let both = all-four (table_good opened1.entries table) (real_moment 1950 2099 moment) (ltb target opened1.entries) (eqb (entry_in s target).kind 3) f in
          let o = opened-image 1 2 s opened1.entries opened1.day opened1.version e in
          let below = ltb-true target opened1.entries both.2 in
          (sym both.1 ∙ o.2, sym both.0 ∙ o.0, omega (arith, o.1, both.0), omega (arith, both.0), eqb-true _ _ both.3)

  pub answering :
      {n version : ℕ} {f : Found} {r : Answer} → asked_of s table moment target ≡ a_question n version
      → search.Answered (good_chains s table moment) target f → Shows f r → Answered s table moment target r
  answering e (search.found c b l p) (nothing z w) = absurd (omega (arith, l, z, two-places b.good))
  answering e (search.found c b l p) (something nz o m q) = found c e b (record { told = o; many = m ∙ l; slots = q ∙ p })
  answering e (search.none f m) (nothing z w) = none e f w
  answering e (search.none f m) (something nz o l q) = absurd (nz m.empty)
