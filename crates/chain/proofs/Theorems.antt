-- What the definition of good chains over items says, taken apart test by test; and what an answer settles, case by case of
-- the answers.
use Rattle.std.specs.Prelude.{Result, Ok, Err}
use Prim.Native.Nat.{ℕ, zero, suc, ◌<◌, ◌≤◌, ◌-◌}
use mathlib.Core.Path.{◌≡◌, refl, sym, ap, ◌∙◌}
use mathlib.Core.Bool.{Bool, true, false, cond, ◌&&◌, ◌||◌, not}
use mathlib.Core.List.{List, ◌∷◌, ◌++◌}
use mathlib.Core.Logic.{◌⊎◌, inl, inr, ⊎_elim}
use native.Mathlib.Nat.{eq-or-lt_of_le}
use native.Mathlib.Omega.{arith}
use borrow.Author.Tests.{eqb-true, not-true}
use lib.Dec.{eqb, ltb}
use lib.ListN.{length, take, replicate}
use lib.Seq.{take-append_seam}
use Rattle.refusal.specs.declared.Refusal.{Refusal}
use Rattle.refusal.specs.declared.Refusal.TheVariants as refusal
use Rattle.refusal.specs.Rules.{first_broken}
use Rattle.calendar.specs.Days.{real_moment}
use Rattle.graph.specs.Chains.{Chain, chain, NotLater, Best}
use Rattle.graph.proofs.Theorems as graph
use Rattle.image.specs.declared.Opened.{Opened}
use Rattle.image.specs.Items.{Item}
use Rattle.image.specs.Index.{entry_count, version_in, day_in, entry_in}
use Rattle.image.specs.Rules.{rules}
use Rattle.image.specs.Answer.{graded, opened_within, opened_of}
use Rattle.chain.specs.declared.Answer.{Answer}
use Rattle.chain.specs.declared.Outcome.TheVariants.{Shown, Refused}
use Rattle.usable.specs.Items.{item_at, some_below, some_place}
use Rattle.usable.specs.Usable.{valid, usable_anchor, counts, covers, lists, speaks_of, usable}
use Rattle.chain.specs.Good.{chains}
use Rattle.usable.specs.Steps.{good_step}
use Rattle.usable.specs.Table.{table_good}
use Rattle.chain.specs.Answer as answers
use Rattle.chain.specs.Answer.{on_image, asked_of, good_chains, With, Answered}
use Rattle.chain.specs.Demand.{Demanded}
use Rattle.chain.specs.Proposal as proposed
use Rattle.chain.specs.Proposal.{range_good, Proposed}
use Rattle.usable.proofs.Booleans.{false-true}
use Rattle.chain.proofs.Demands.{demands, best-in-range}
use Rattle.chain.proofs.Homes.{step-verdict}
use Rattle.chain.proofs.Proposals.{range-good}
use Rattle.image.proofs.Payloads.{an_image}
use Rattle.chain.proofs.Payloads.{a_question, same_question}

both : (p q : Bool) → (p && q) ≡ true → (p ≡ true) × (q ≡ true)
both true q e = (refl, e)
both false q e = (e, cc)

-- a place that meets a test, and places that do not
some : (n : ℕ) (test : ℕ → Bool) → some_below n test ≡ true → (p : ℕ) × (p < n) × (test p ≡ true)
unfolding some_below
some zero test e = absurd (let z : ◌≡◌ {A = ℕ} 0 1 = cc in omega arith)
some (suc n) test e = go (test n) refl (some n test) e
  where
    go :
        (b : Bool) → test n ≡ b → (some_below n test ≡ true → (p : ℕ) × (p < n) × (test p ≡ true)) → (b || some_below n test) ≡ true
        → (p : ℕ) × (p < suc n) × (test p ≡ true)
    go true h below f = (n, omega arith, h)
    go false h below f = let x = below f in (x.0, omega (arith, x.1), x.2)

none : (n : ℕ) (test : ℕ → Bool) → some_below n test ≡ false → (p : ℕ) → p < n → test p ≡ false
unfolding some_below
none zero test e p h = absurd (omega arith)
none (suc n) test e p h = go (test n) refl (λ f. none n test f p) e
  where
    go :
        (b : Bool) → test n ≡ b → (some_below n test ≡ false → p < n → test p ≡ false) → (b || some_below n test) ≡ false
        → test p ≡ false
    go true t below f = absurd (let z : ◌≡◌ {A = ℕ} 0 1 = cc in omega arith)
    go false t below f =
        ⊎_elim (λ (q : suc p ≡ suc n). let same : p ≡ n = omega arith in rw same t) (λ (l : suc p < suc n). below f (omega arith))
        (eq-or-lt_of_le h)

module _ (items : List Item) (verdict : ℕ → ℕ → Bool) (moment : ℕ) where
  -- the three tests of a usable link or signer
  split :
      (v : ℕ) → usable items verdict moment v ≡ true
      → (valid items moment v ≡ true) × (some_place items (speaks_of items verdict moment v) ≡ true)
      × (some_place items (λ c. speaks_of items verdict moment v c && lists items c v) ≡ false)
  unfolding usable
  split v e =
      let covering = some_place items (speaks_of items verdict moment v) in
      let listing = some_place items (λ c. speaks_of items verdict moment v c && lists items c v) in
      let a = both (valid items moment v) (covering && not listing) e in
      let b = both covering (not listing) a.1 in
      (a.0, b.0, not-true listing b.1)

  -- A good chain starts at an anchor that is enabled.
  pub starts-enabled :
      (target u : ℕ) (rest : List ℕ) → Chain (chains items verdict moment) target (u ∷ rest)
      → ((item_at items u).kind ≡ 1) × ((item_at items u).flags ≡ 1)
  unfolding chains usable_anchor
  starts-enabled target u rest (chain below anchor on) =
      let a = both (eqb (item_at items u).kind 1) (eqb (item_at items u).flags 1 && valid items moment u) anchor in
      let b = both (eqb (item_at items u).flags 1) (valid items moment u) a.1 in
      (eqb-true _ _ a.0, eqb-true _ _ b.0)

  -- A usable link or signer is covered by a CRL of its country that counts.
  pub covered :
      (v : ℕ) → usable items verdict moment v ≡ true
      → (c : ℕ) × (c < length items) × (counts items verdict moment c ≡ true) × (covers items c v ≡ true)
  unfolding speaks_of some_place
  covered v e =
      let c = some (length items) (speaks_of items verdict moment v) (split v e).1 in
      let d = both (counts items verdict moment c.0) (covers items c.0 v) c.2 in
      (c.0, c.1, d.0, d.1)

  -- No CRL of its country that counts lists its serial.
  pub unlisted :
      (v c : ℕ) → usable items verdict moment v ≡ true → c < length items → counts items verdict moment c ≡ true
      → covers items c v ≡ true → lists items c v ≡ false
  unfolding speaks_of some_place
  unlisted v c e below counting covering =
      simp (counting, covering) at
      (none (length items) (λ (d : ℕ). speaks_of items verdict moment v d && lists items d v) (split v e).2 c below)

  -- A step of a good chain has the chip's yes.
  pub step-verified : (u v : ℕ) → good_step items verdict u v ≡ true → verdict u v ≡ true
  step-verified = step-verdict items verdict

  -- There is at most one best chain: two readers with the same items, verdicts and moment show the same.
  pub one-best :
      (target : ℕ) (c d : List ℕ) → Best (chains items verdict moment) target c → Best (chains items verdict moment) target d → c ≡ d
  one-best target c d = graph.one-best

-- a refusal of a question: the image's 5, or 1
abbrev pub FiveOrOne : Refusal → Type 0
FiveOrOne why = ((k : ℕ) × (why ≡ refusal.Image k)) ⊎ (why ≡ refusal.Argument)

image-refused : (s : List ℕ) (why : Refusal) → opened_of s ≡ Err why → FiveOrOne why
unfolding opened_within graded
image-refused s why e = go (first_broken 1 (rules 1 2 s)) (eqb (first_broken 1 (rules 1 2 s)) 0) e
  where
    go :
        (rule : ℕ) (b : Bool)
        → cond b (an_image (entry_count s) (day_in s) (version_in s)) (Err (refusal.Image rule)) ≡ Err why → FiveOrOne why
    go rule true f = absurd (let z : ◌≡◌ {A = ℕ} 0 1 = cc in omega arith)
    go rule false f = inl (rule, cc)

tests-refused :
    (a b c d : Bool) (n version : ℕ) (why : Refusal)
    → cond a (cond b (cond c (cond d (a_question n version) (Err refusal.Argument)) (Err refusal.Argument)) (Err refusal.Argument))
    (Err refusal.Argument)
    ≡ Err why → FiveOrOne why
tests-refused true true true true n version why e = absurd (let z : ◌≡◌ {A = ℕ} 0 1 = cc in omega arith)
tests-refused true true true false n version why e = inr (cc)
tests-refused true true false d n version why e = inr (cc)
tests-refused true false c d n version why e = inr (cc)
tests-refused false b c d n version why e = inr (cc)

module _ (s table : List ℕ) (moment target : ℕ) where
  -- A question is refused with the image's 5, or with 1.
  pub question-refused : (why : Refusal) → asked_of s table moment target ≡ Err why → FiveOrOne why
  unfolding asked_of on_image
  question-refused why e = go (opened_of s) refl e
    where
      go : (o : Result Opened Refusal) → opened_of s ≡ o → on_image s table moment target o ≡ Err why → FiveOrOne why
      go (Err w) h f = image-refused s why (h ∙ (cc))
      go (Ok o) h f =
          tests-refused (table_good o.entries table) (real_moment 1950 2099 moment) (ltb target o.entries) (eqb (entry_in s target).kind 3) o.entries o.version why f

  question-not-7 : asked_of s table moment target ≡ Err refusal.Chain → ⊥
  question-not-7 e = go (question-refused refusal.Chain e)
    where
      go : FiveOrOne refusal.Chain → ⊥
      go (inl (k, f)) = let z : ◌≡◌ {A = ℕ} 0 1 = cc in omega arith
      go (inr f) = let z : ◌≡◌ {A = ℕ} 0 1 = cc in omega arith

  -- No second answer fits.
  pub one_answer :
      (r q : Answer) → Answered s table moment target r → Answered s table moment target q
      → (r.outcome ≡ q.outcome) × (r.length ≡ q.length) × (r.places ≡ q.places)
  one_answer r q (answers.refused why e w) (answers.refused other f v) =
      let same : why ≡ other = cc in
      (w.told ∙ ap Refused same ∙ sym v.told, w.empty ∙ sym v.empty, w.slots ∙ sym v.slots)
  one_answer r q (answers.refused why e w) (answers.none f h v) = absurd (let z : ◌≡◌ {A = ℕ} 0 1 = cc in omega arith)
  one_answer r q (answers.refused why e w) (answers.found d f h v) = absurd (let z : ◌≡◌ {A = ℕ} 0 1 = cc in omega arith)
  one_answer r q (answers.none e g w) (answers.refused why f v) = absurd (let z : ◌≡◌ {A = ℕ} 0 1 = cc in omega arith)
  one_answer r q (answers.none e g w) (answers.none f h v) =
      (w.told ∙ sym v.told, w.empty ∙ sym v.empty, w.slots ∙ sym v.slots)
  one_answer r q (answers.none e g w) (answers.found d f h v) = absurd (g d h.good)
  one_answer r q (answers.found c e g w) (answers.refused why f v) = absurd (let z : ◌≡◌ {A = ℕ} 0 1 = cc in omega arith)
  one_answer r q (answers.found c e g w) (answers.none f h v) = absurd (h c g.good)
  one_answer r q (answers.found c e g w) (answers.found d f h v) =
      let same : c ≡ d = graph.one-best g h in (
        w.told ∙ sym v.told,
        w.many ∙ ap length same ∙ sym v.many,
        w.slots ∙ ap (λ (x : List ℕ). x ++ replicate (96 - length x) 255) same ∙ sym v.slots,
      )

  -- So what `best_chain` and `best_chain_by_rounds` answer to one question, each by its own search, is the same.
  pub same-engines :
      (queue rounds : Answer) → Answered s table moment target queue → Answered s table moment target rounds
      → (queue.outcome ≡ rounds.outcome) × (queue.length ≡ rounds.length) × (queue.places ≡ rounds.places)
  same-engines = one_answer

  module _ (r : Answer) (a : Answered s table moment target r) where
    -- What is shown is the best of the good chains.
    pub answer-sound : r.outcome ≡ Shown → (c : List ℕ) × Best (good_chains s table moment) target c × With c r
    answer-sound e = go a
      where
        go : Answered s table moment target r → (c : List ℕ) × Best (good_chains s table moment) target c × With c r
        go (answers.refused why f w) = absurd (let t = w.told in let z : ◌≡◌ {A = ℕ} 0 1 = cc in omega arith)
        go (answers.none f h w) = absurd (let t = w.told in let z : ◌≡◌ {A = ℕ} 0 1 = cc in omega arith)
        go (answers.found c f h w) = (c, h, w)

    -- Demand 3: what is shown is a chain that has all that is demanded of it.
    pub demand-three : r.outcome ≡ Shown → (c : List ℕ) × Demanded s table moment target c × With c r
    demand-three e = go a
      where
        go : Answered s table moment target r → (c : List ℕ) × Demanded s table moment target c × With c r
        go (answers.refused why f w) = absurd (let t = w.told in let z : ◌≡◌ {A = ℕ} 0 1 = cc in omega arith)
        go (answers.none f h w) = absurd (let t = w.told in let z : ◌≡◌ {A = ℕ} 0 1 = cc in omega arith)
        go (answers.found c f h w) = (c, demands s table moment target h f, w)

    -- The answer is 7 only where the question is good and no good chain exists.
    pub none-sound :
        r.outcome ≡ Refused refusal.Chain
        → ((n : ℕ) × (version : ℕ) × (asked_of s table moment target ≡ a_question n version)) × ((c : List ℕ) → Chain (good_chains s table moment) target c → ⊥)
    none-sound e = go a
      where
        go :
            Answered s table moment target r
            → ((n : ℕ) × (version : ℕ) × (asked_of s table moment target ≡ a_question n version))
            × ((c : List ℕ) → Chain (good_chains s table moment) target c → ⊥)
        go (answers.refused why f w) =
            absurd (let t = w.told in let same : why ≡ refusal.Chain = cc in question-not-7 (f ∙ ap Err same))
        go (answers.none {n} {version} f h w) = ((n, version, f), h)
        go (answers.found c f h w) = absurd (let t = w.told in let z : ◌≡◌ {A = ℕ} 0 1 = cc in omega arith)

    -- And there it is always 7.
    pub none-complete :
        (n version : ℕ) → asked_of s table moment target ≡ a_question n version → ((c : List ℕ) → Chain (good_chains s table moment) target c → ⊥)
        → r.outcome ≡ Refused refusal.Chain
    none-complete n version e empty = go a
      where
        go : Answered s table moment target r → r.outcome ≡ Refused refusal.Chain
        go (answers.refused why f w) = absurd (let z : ◌≡◌ {A = ℕ} 0 1 = cc in omega arith)
        go (answers.none f h w) = w.told
        go (answers.found c f h w) = absurd (empty c h.good)

    -- Where the question is good and a good chain exists, one is shown.
    pub answer-complete :
        (n version : ℕ) (c : List ℕ) → asked_of s table moment target ≡ a_question n version → Chain (good_chains s table moment) target c
        → r.outcome ≡ Shown
    answer-complete n version c e good = go a
      where
        go : Answered s table moment target r → r.outcome ≡ Shown
        go (answers.refused why f w) = absurd (let z : ◌≡◌ {A = ℕ} 0 1 = cc in omega arith)
        go (answers.none f h w) = absurd (h c good)
        go (answers.found d f h w) = w.told

module _ (s table : List ℕ) (moment target : ℕ) where
  -- a range is good or not
  apart :
      (n m : ℕ) {version own : ℕ} (places : List ℕ) → asked_of s table moment target ≡ a_question n version
      → asked_of s table moment target ≡ a_question m own
      → range_good n places ≡ false → range_good m places ≡ true → ⊥
  apart n m places e f a b = let same : n ≡ m = (same_question (sym e ∙ f)).0 in false-true (sym a ∙ (rw (← same) at b))

  -- what is accepted is a good chain
  accepted-good :
      (places : List ℕ) (p : Result (Unit {0}) Refusal) → Proposed s table moment target places p → p ≡ Ok tt
      → ((n : ℕ) × (version : ℕ) × (asked_of s table moment target ≡ a_question n version)) × Chain (good_chains s table moment) target places
  accepted-good places p (proposed.refused why f w) e = absurd (let z : ◌≡◌ {A = ℕ} 0 1 = cc in omega arith)
  accepted-good places p (proposed.outside f b w) e = absurd (let z : ◌≡◌ {A = ℕ} 0 1 = cc in omega arith)
  accepted-good places p (proposed.accepted {n} {version} f b g w) e = ((n, version, f), g)
  accepted-good places p (proposed.unfounded f b g w) e = absurd (let z : ◌≡◌ {A = ℕ} 0 1 = cc in omega arith)

  -- and a best chain is accepted
  best-accepted :
      (n version : ℕ) (c : List ℕ) → asked_of s table moment target ≡ a_question n version
      → Best (good_chains s table moment) target c → (p : Result (Unit {0}) Refusal)
      → Proposed s table moment target c p → p ≡ Ok tt
  best-accepted n version c e b p (proposed.refused why f w) = absurd (let z : ◌≡◌ {A = ℕ} 0 1 = cc in omega arith)
  best-accepted n version c e b p (proposed.outside {n = m} f a w) = absurd (apart m n c f e a (range-good n c (best-in-range s table moment target b e)))
  best-accepted n version c e b p (proposed.accepted f a g w) = w
  best-accepted n version c e b p (proposed.unfounded f a g w) = absurd (g b.good)

  -- No second answer fits a proposal.
  pub one-verdict :
      (places : List ℕ) (p q : Result (Unit {0}) Refusal) → Proposed s table moment target places p → Proposed s table moment target places q → p ≡ q
  one-verdict places p q (proposed.refused why e w) (proposed.refused other f v) =
      let same : why ≡ other = cc in w ∙ ap Err same ∙ sym v
  one-verdict places p q (proposed.refused why e w) (proposed.outside f b v) = absurd (let z : ◌≡◌ {A = ℕ} 0 1 = cc in omega arith)
  one-verdict places p q (proposed.refused why e w) (proposed.accepted f b g v) = absurd (let z : ◌≡◌ {A = ℕ} 0 1 = cc in omega arith)
  one-verdict places p q (proposed.refused why e w) (proposed.unfounded f b g v) = absurd (let z : ◌≡◌ {A = ℕ} 0 1 = cc in omega arith)
  one-verdict places p q (proposed.outside e a w) (proposed.refused why f v) = absurd (let z : ◌≡◌ {A = ℕ} 0 1 = cc in omega arith)
  one-verdict places p q (proposed.outside e a w) (proposed.outside f b v) = w ∙ sym v
  one-verdict places p q (proposed.outside {n} e a w) (proposed.accepted {n = m} f b g v) = absurd (apart n m places e f a b)
  one-verdict places p q (proposed.outside {n} e a w) (proposed.unfounded {n = m} f b g v) = absurd (apart n m places e f a b)
  one-verdict places p q (proposed.accepted e a h w) (proposed.refused why f v) = absurd (let z : ◌≡◌ {A = ℕ} 0 1 = cc in omega arith)
  one-verdict places p q (proposed.accepted {n} e a h w) (proposed.outside {n = m} f b v) = absurd (apart m n places f e b a)
  one-verdict places p q (proposed.accepted e a h w) (proposed.accepted f b g v) = w ∙ sym v
  one-verdict places p q (proposed.accepted e a h w) (proposed.unfounded f b g v) = absurd (g h)
  one-verdict places p q (proposed.unfounded e a h w) (proposed.refused why f v) = absurd (let z : ◌≡◌ {A = ℕ} 0 1 = cc in omega arith)
  one-verdict places p q (proposed.unfounded {n} e a h w) (proposed.outside {n = m} f b v) = absurd (apart m n places f e b a)
  one-verdict places p q (proposed.unfounded e a h w) (proposed.accepted f b g v) = absurd (h g)
  one-verdict places p q (proposed.unfounded e a h w) (proposed.unfounded f b g v) = w ∙ sym v

  -- The chain that is shown is always accepted.
  pub shown-accepted :
      (r : Answer) → Answered s table moment target r → r.outcome ≡ Shown → (p : Result (Unit {0}) Refusal)
      → Proposed s table moment target (take r.length r.places) p → p ≡ Ok tt
  shown-accepted r (answers.refused why f w) e p = absurd (let t = w.told in let z : ◌≡◌ {A = ℕ} 0 1 = cc in omega arith)
  shown-accepted r (answers.none f h w) e p = absurd (let t = w.told in let z : ◌≡◌ {A = ℕ} 0 1 = cc in omega arith)
  shown-accepted r (answers.found {n} {version} c f h w) e p = λ is.
      best-accepted n version c f h p (rw (w.many, w.slots, take-append_seam c (replicate (96 - length c) 255)) at is)

  module _ (places : List ℕ) (p : Result (Unit {0}) Refusal) (is : Proposed s table moment target places p) where
    -- Where a proposal is accepted a chain is shown that is no longer.
    pub never-shorter : (r : Answer) → Answered s table moment target r → p ≡ Ok tt → (r.outcome ≡ Shown) × (r.length ≤ length places)
    never-shorter r a e = go a (accepted-good places p is e)
      where
        least : (c : List ℕ) → (length c < length places) ⊎ ((length c ≡ length places) × NotLater c places) → length c ≤ length places
        least c (inl k) = omega arith
        least c (inr k) = omega (arith, k.0)

        go :
            Answered s table moment target r → ((n : ℕ) × (version : ℕ) × (asked_of s table moment target ≡ a_question n version)) × Chain (good_chains s table moment) target places
            → (r.outcome ≡ Shown) × (r.length ≤ length places)
        go (answers.refused why f w) ((n, version, x), g) = absurd (let z : ◌≡◌ {A = ℕ} 0 1 = cc in omega arith)
        go (answers.none f h w) (x, g) = absurd (h places g)
        go (answers.found c f h w) (x, g) = (w.told, omega (arith, w.many, least c (h.least places g)))

    -- Where the answer is 7 no proposal is accepted.
    pub none-accepted : (r : Answer) → Answered s table moment target r → r.outcome ≡ Refused refusal.Chain → p ≡ Ok tt → ⊥
    none-accepted r a seven e = (none-sound s table moment target r a seven).1 places (accepted-good places p is e).1
