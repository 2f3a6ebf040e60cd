-- An image is opened where each rule holds, and is refused with the first that does not.
use Rattle.std.specs.Prelude.{Option, Some, None, Result, Err}
use mathlib.Core.Path.{◌≡◌, refl, sym, ap, ◌∙◌}
use mathlib.Core.Bool.{true, and-eq-true_iff}
use mathlib.Core.List.{List}
use Prim.Native.Nat.{ℕ, zero, suc, ◌+◌, ◌*◌, ◌≤◌}
use native.Mathlib.Omega.{arith}
use borrow.Author.Tests.{leb-true, eqb-true, le-leb, eq-eqb, ne_eqb}
use lib.Dec.{leb}
use lib.ListN.{length, get_or}
use Rattle.refusal.specs.declared.Refusal.{Refusal}
use Rattle.refusal.specs.declared.Refusal.TheVariants as refusal
use Rattle.refusal.specs.Rules.{first_broken, Smallest}
use Rattle.refusal.proofs.Order.{all_hold, told-smallest, smallest-told}
use Rattle.calendar.specs.Days.{real_day}
use Rattle.image.specs.declared.Opened.{Opened}
use Rattle.image.specs.Index.{index_start, entry_count, version_in, day_in, width}
use Rattle.image.specs.Rules.{rule1, rule2, rule3, rule4, rule5, rule6, rule7, rules, total_of, fit, summed}
use Rattle.image.specs.Answer.{graded, opened_within}
use Rattle.image.proofs.Payloads.{an_image, same_image}

-- what the seven rules say
pub record Holds (least most : ℕ) (s : List ℕ) : Type 0 where
  pub long : 12 ≤ length s
  pub short : length s ≤ 262144
  pub from : least ≤ version_in s
  pub to : version_in s ≤ most
  pub few : entry_count s ≤ 96
  pub real : real_day 1950 2099 (day_in s) ≡ true
  pub ends : index_start s + width (version_in s) * entry_count s + 12 ≡ length s
  pub sums : total_of s ≡ Some (index_start s)

pub holds_opened : (least most : ℕ) (s : List ℕ) → Holds least most s → opened_within least most s ≡ an_image (entry_count s) (day_in s) (version_in s)
unfolding opened_within graded first_broken rules rule1 rule2 rule3 rule4 rule5 rule6 rule7 fit summed
holds_opened least most s h =
    rw (
      le-leb _ _ h.long,
      le-leb _ _ h.short,
      le-leb _ _ h.from,
      le-leb _ _ h.to,
      le-leb _ _ h.few,
      h.real,
      eq-eqb _ _ h.ends,
      h.sums,
      eq-eqb (index_start s) (index_start s) refl,
    )

summed-start : (start : ℕ) (total : Option ℕ) → summed start total ≡ true → total ≡ Some start
unfolding summed
summed-start start (Some sum) e = ap Some (eqb-true sum start e)
summed-start start None e = cc

rules-hold : (least most : ℕ) (s : List ℕ) → ((i : ℕ) → get_or (rules least most s) i true ≡ true) → Holds least most s
unfolding rules rule1 rule2 rule3 rule4 rule5 rule6 rule7
rules-hold least most s all =
    let both = (and-eq-true_iff (leb 12 (length s)) _).0 (all 0) in
    let known = (and-eq-true_iff (leb least (version_in s)) _).0 (all 1) in
    record {
      long = leb-true _ _ both.0;
      short = leb-true _ _ both.1;
      from = leb-true _ _ known.0;
      to = leb-true _ _ known.1;
      few = leb-true _ _ (all 2);
      real = all 3;
      ends = eqb-true _ _ (all 4);
      sums = summed-start (index_start s) (total_of s) (all 6);
    }

-- what holds for some versions holds for more
pub holds-wider : {least most : ℕ} {s : List ℕ} → 1 ≤ least → most ≤ 2 → Holds least most s → Holds 1 2 s
holds-wider low high h =
    record {
      long = h.long;
      short = h.short;
      from = omega (arith, h.from);
      to = omega (arith, h.to);
      few = h.few;
      real = h.real;
      ends = h.ends;
      sums = h.sums;
    }

module _ (least most : ℕ) (s : List ℕ) where
  pub data Answer (a : Result Opened Refusal) : Type 0 where
    good : a ≡ an_image (entry_count s) (day_in s) (version_in s) → Holds least most s → Answer a
    broken : (k : ℕ) → a ≡ Err (refusal.Image k) → Smallest 1 (rules least most s) k → Answer a

  graded-answer :
      (k : ℕ) → first_broken 1 (rules least most s) ≡ k → Answer (graded k (an_image (entry_count s) (day_in s) (version_in s)))
  unfolding graded
  graded-answer zero e = good refl (rules-hold least most s (all_hold 1 (rules least most s) (omega arith) e))
  graded-answer (suc k) e =
      let some : suc k ≡ 0 → ⊥ = omega arith in
      broken (suc k) (rw (ne_eqb (suc k) 0 some)) (told-smallest 1 (rules least most s) e some)

  pub answer : Answer (opened_within least most s)
  unfolding opened_within
  answer = graded-answer (first_broken 1 (rules least most s)) refl

  pub opened-holds :
      (n day version : ℕ) → opened_within least most s ≡ an_image n day version
      → Holds least most s × (n ≡ entry_count s) × (day ≡ day_in s) × (version ≡ version_in s)
  opened-holds n day version e = told (opened_within least most s) e answer
    where
      told :
          (a : Result Opened Refusal) → a ≡ an_image n day version → Answer a
          → Holds least most s × (n ≡ entry_count s) × (day ≡ day_in s) × (version ≡ version_in s)
      told a e (good g h) = let (x, y, z) = same_image (sym e ∙ g) in (h, x, y, z)
      told a e (broken k g first) = let z : ◌≡◌ {A = ℕ} 0 1 = cc in absurd (omega arith)

  pub opened-refused :
      (r : Refusal) → opened_within least most s ≡ Err r → (k : ℕ) × (r ≡ refusal.Image k) × Smallest 1 (rules least most s) k
  opened-refused r e = told (opened_within least most s) e answer
    where
      told : (a : Result Opened Refusal) → a ≡ Err r → Answer a → (k : ℕ) × (r ≡ refusal.Image k) × Smallest 1 (rules least most s) k
      told a e (good g h) = let z : ◌≡◌ {A = ℕ} 0 1 = cc in absurd (omega arith)
      told a e (broken k g first) = (k, cc, first)

  pub refused-smallest : (k : ℕ) → opened_within least most s ≡ Err (refusal.Image k) → Smallest 1 (rules least most s) k
  refused-smallest k e =
      let (n, same, first) = opened-refused (refusal.Image k) e in
      let number : n ≡ k = cc in
      rw number at first

  pub smallest-refused : (k : ℕ) → Smallest 1 (rules least most s) k → opened_within least most s ≡ Err (refusal.Image k)
  unfolding opened_within graded
  smallest-refused k first =
      let same : first_broken 1 (rules least most s) ≡ k = smallest-told 1 (rules least most s) first in
      rw (same, ne_eqb k 0 (λ z. omega (arith, first.numbered)))
