-- One law for each answer about an image: what opening and the sum of the lengths come to under the tests that lead there.
use Rattle.std.specs.Prelude.{None, Err}
use Prim.Native.Nat.{ℕ, suc, ◌+◌}
use mathlib.Core.Path.{◌≡◌}
use mathlib.Core.Bool.{true, false}
use mathlib.Core.List.{List}
use Rattle.refusal.specs.declared.Refusal.TheVariants as refusal
use Rattle.refusal.specs.Rules.{first_broken}
use Rattle.image.specs.Index.{entry_count, version_in, day_in, width, entry_at}
use Rattle.image.specs.Rules.{rule1, rule2, rule3, rule4, rule5, rule6, rule7, rules, entry_good, padded, sum_of}
use Rattle.image.specs.Answer.{graded, opened_within}
use Rattle.image.proofs.Payloads.{an_image}

module _ (least most : ℕ) (s : List ℕ) where
  pub breaks-1 : rule1 s ≡ false → opened_within least most s ≡ Err (refusal.Image 1)
  unfolding opened_within graded rules first_broken
  breaks-1 e = simp e

  module _ (one : rule1 s ≡ true) where
    pub breaks-2 : rule2 least most s ≡ false → opened_within least most s ≡ Err (refusal.Image 2)
    unfolding opened_within graded rules first_broken
    breaks-2 e = simp (one, e)

    module _ (two : rule2 least most s ≡ true) where
      pub breaks-3 : rule3 s ≡ false → opened_within least most s ≡ Err (refusal.Image 3)
      unfolding opened_within graded rules first_broken
      breaks-3 e = simp (one, two, e)

      module _ (three : rule3 s ≡ true) where
        pub breaks-4 : rule4 s ≡ false → opened_within least most s ≡ Err (refusal.Image 4)
        unfolding opened_within graded rules first_broken
        breaks-4 e = simp (one, two, three, e)

        module _ (four : rule4 s ≡ true) where
          pub breaks-5 : rule5 s ≡ false → opened_within least most s ≡ Err (refusal.Image 5)
          unfolding opened_within graded rules first_broken
          breaks-5 e = simp (one, two, three, four, e)

          module _ (five : rule5 s ≡ true) where
            pub breaks-6 : rule6 s ≡ false → opened_within least most s ≡ Err (refusal.Image 6)
            unfolding opened_within graded rules first_broken
            breaks-6 e = simp (one, two, three, four, five, e)

            module _ (six : rule6 s ≡ true) where
              pub breaks-7 : rule7 s ≡ false → opened_within least most s ≡ Err (refusal.Image 7)
              unfolding opened_within graded rules first_broken
              breaks-7 e = simp (one, two, three, four, five, six, e)

              pub keeps-all : rule7 s ≡ true → opened_within least most s ≡ an_image (entry_count s) (day_in s) (version_in s)
              unfolding opened_within graded rules first_broken
              keeps-all e = simp (one, two, three, four, five, six, e)

-- one entry more
module _ (version : ℕ) (s : List ℕ) (at left sum : ℕ) where
  pub sum_more :
      entry_good (entry_at version s at) sum ≡ true → padded version s at ≡ true
      → sum_of version s at (suc left) sum ≡ sum_of version s (at + width version) left (sum + (entry_at version s at).length)
  unfolding sum_of
  sum_more e p = simp (e, p)

  pub sum-unfit : entry_good (entry_at version s at) sum ≡ false → sum_of version s at (suc left) sum ≡ None
  unfolding sum_of
  sum-unfit e = simp e

  pub sum-unpadded :
      entry_good (entry_at version s at) sum ≡ true → padded version s at ≡ false → sum_of version s at (suc left) sum ≡ None
  unfolding sum_of
  sum-unpadded e p = simp (e, p)
