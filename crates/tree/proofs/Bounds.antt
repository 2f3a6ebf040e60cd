-- An element takes two octets or more and ends within what holds it, and it is counted only below the limit.
use Rattle.std.specs.Prelude.{Result, Ok, Err}
use mathlib.Core.Path.{subst}
use mathlib.Core.Bool.{Bool}
use mathlib.Core.List.{List}
use Prim.Native.Nat.{ℕ, zero, suc, ◌≤◌}
use native.Mathlib.Omega.{arith}
use lib.ListN.{length}
use Rattle.der.specs.declared.walking.Read.{Read}
use Rattle.refusal.specs.declared.Refusal.{Refusal}
use Rattle.der.specs.Forms.{Forms}
use Rattle.der.specs.Walk.{element_at, list_at}
use Rattle.tree.proofs.Written.{Headed, heading-fits}
use Rattle.tree.proofs.Answers.{element-by, list-by}

pub record Bound (forms : Forms) (s : List ℕ) (used m : ℕ) : Type 0 where
  pub some : 2 ≤ used
  pub fits : used ≤ length s
  pub few : m ≤ forms.elements

abbrev pub ReadBound : Forms → List ℕ → Result Read Refusal → Type 0
ReadBound forms s (Ok r) = Bound forms s r.used r.count
ReadBound forms s (Err refusal) = Unit {0}

abbrev pub WalkedBound : Forms → Result ℕ Refusal → Type 0
WalkedBound forms (Ok m) = m ≤ forms.elements
WalkedBound forms (Err refusal) = Unit {0}

module _ (forms : Forms) where
  mutual
    unfolding element_at list_at

    pub element-bound : (fuel : ℕ) (prior s : List ℕ) (base d n : ℕ) → ReadBound forms s (element_at fuel forms prior s base d n)
    element-bound zero prior s base d n = tt
    element-bound (suc fuel) prior s base d n =
        element-by forms fuel prior s base d n (ReadBound forms s) (λ refusal. tt)
        (λ tag skip size m o built inner.
        let h : Headed forms s tag skip size = heading-fits forms s tag skip size o.header in
        record {
          some = omega (arith, h.some);
          fits = h.fits;
          few = subst (WalkedBound forms) inner (list-bound fuel _ _ _ _ _ _ (omega (arith, o.few)));
        })
        λ tag skip size o primitive good.
        let h : Headed forms s tag skip size = heading-fits forms s tag skip size o.header in
        record { some = omega (arith, h.some); fits = h.fits; few = omega (arith, o.few) }

    pub list-bound : (fuel : ℕ) (set : Bool) (prior s : List ℕ) (base d n : ℕ) → n ≤ forms.elements → WalkedBound forms
        (list_at fuel forms set prior s base d n)
    list-bound zero set prior s base d n few = tt
    list-bound (suc fuel) set prior s base d n few =
        list-by forms fuel prior s base d n set (WalkedBound forms) (λ refusal. tt) (λ done. few) λ used k m first rest.
        let b : Bound forms s used k = subst (ReadBound forms s) first (element-bound fuel prior s base d n) in
        subst (WalkedBound forms) rest (list-bound fuel _ _ _ _ _ _ b.few)
