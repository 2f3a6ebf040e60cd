-- The answer names the first rule broken, or passes where there is none.
use Rattle.std.specs.Prelude.{Ok, Err}
use Prim.Native.Nat.{ℕ, suc}
use mathlib.Core.Bool.{Bool, true, false, cond}
use mathlib.Core.List.{List, [], ◌∷◌}
use mathlib.Core.Path.{◌≡◌, refl, sym, ◌∙◌}
use native.Mathlib.Omega.{arith}
use borrow.Author.Tests.{eqb-true, eqb-false}
use lib.Dec.{eqb}
use Rattle.refusal.specs.declared.Refusal.{Refusal}
use Rattle.refusal.specs.declared.Refusal.TheVariants.{Profile}
use Rattle.refusal.specs.Rules.{first_broken}
use Rattle.refusal.proofs.Order as order
use Rattle.crl.specs.declared.Fields.{Fields}
use Rattle.crl.specs.Answer.{graded}

-- no answer both refuses and passes
pub differ : {f : Fields} {refusal : Refusal} → Err refusal ≡ Ok f → ⊥
differ e = let z : ◌≡◌ {A = ℕ} 0 1 = cc in omega arith

-- where no rule is broken, the next holds and none of the others is broken
pub none-broken : (rule : ℕ) (holds : Bool) (rest : List Bool) → first_broken (suc rule) (holds ∷ rest) ≡ 0 → (holds ≡ true) × (first_broken (suc (suc rule)) rest ≡ 0)
unfolding first_broken
none-broken rule true rest e = (refl, e)
none-broken rule false rest e = absurd (omega arith)

-- an answer that passes has no rule broken
pub graded-passed : (rule : ℕ) (fields : Fields) {f : Fields} → graded rule fields ≡ Ok f → (rule ≡ 0) × (f ≡ fields)
unfolding graded
graded-passed rule fields {f} e = go (eqb rule 0) refl e
  where
    go : (t : Bool) → eqb rule 0 ≡ t → cond t (Ok fields) (Err (Profile rule)) ≡ Ok f → (rule ≡ 0) × (f ≡ fields)
    go true g e = (eqb-true rule 0 g, cc)
    go false g e = absurd (differ e)

-- an answer that refuses names a rule that is broken
pub graded-refused : (rule : ℕ) (fields : Fields) {refusal : Refusal} → graded rule fields ≡ Err refusal → (refusal ≡ Profile rule) × (rule ≡ 0 → ⊥)
unfolding graded
graded-refused rule fields {refusal} e = go (eqb rule 0) refl e
  where
    go : (t : Bool) → eqb rule 0 ≡ t → cond t (Ok fields) (Err (Profile rule)) ≡ Err refusal → (refusal ≡ Profile rule) × (rule ≡ 0 → ⊥)
    go true g e = absurd (differ (sym e))
    go false g e = (cc, eqb-false rule 0 g)

-- what the rules come to where the first holds, and where there are none
pub broken-later : (rule : ℕ) {holds : Bool} (rest : List Bool) {r : ℕ} → holds ≡ true → r ≡ first_broken (suc rule) rest → r ≡ first_broken rule (holds ∷ rest)
broken-later rule rest h g = g ∙ sym (order.broken-later rule rest h)

pub broken-none : (rule : ℕ) → 0 ≡ first_broken rule []
broken-none rule = sym (order.none-broken rule)
