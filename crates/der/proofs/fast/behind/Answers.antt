-- A SET that one SEQUENCE fills has two headers before the leaves, another element that is no SET has one.
use Prim.Native.Nat.{ℕ, ◌+◌, ◌-◌, ◌%◌, ◌≤◌, ◌<◌}
use mathlib.Core.Bool.{true, not}
use mathlib.Core.List.{List}
use mathlib.Core.Path.{◌≡◌, refl, sym, ◌∙◌}
use native.Mathlib.Omega.{arith}
use borrow.Author.Tests.{le-leb, ne_eqb, ltb-true}
use lib.Dec.{eqb}
use lib.ListN.{get_or}
use Rattle.der.specs.Heading.{identifier_good}
use Rattle.der.specs.Order.{is_set}
use Rattle.der.specs.Fast.{Headed, one, two}
use Rattle.der.proofs.Laws.{turned}
use Rattle.der.proofs.fast.behind.Goals as goal
use Rattle.der.proofs.fast.behind.Goals.{then-tag-eq48-via-then-tag-eq48, then-tag-eq48-via-else-tag-eq48+then-tag-ne31, then-tag-gt63, else-tag-gt63}

module _ (s : List ℕ) (at after left count : ℕ) where
  -- the leaves of a SEQUENCE start behind its header
  of_sequence : get_or s at 0 ≡ 48 → Headed s at after left count (at + 2) (left - 1) (count + 1)
  unfolding identifier_good is_set
  of_sequence e = one (rw e refl) (rw e refl)

  -- and so do those of an identifier above the universal class, of one octet
  of_tag : 63 < get_or s at 0 → not (eqb (get_or s at 0 % 32) 31) ≡ true → Headed s at after left count (at + 2) (left - 1) (count + 1)
  unfolding identifier_good is_set
  of_tag high low =
      let above : 64 ≤ get_or s at 0 = omega arith in
      one (simp (turned _ low, le-leb _ _ above)) (ne_eqb (get_or s at 0) 49 (λ e. omega arith))

pub returns-then-tag-eq49 : goal.returns-then-tag-eq49
returns-then-tag-eq49 c =
    let own = c.last.ensures c.if-not-last.false in
    two c.if-tag-eq49.true c.if-left-lt3.false c.if-after-at.false (record { tag = own.tag; ends = omega (arith, own.ends) })

pub returns-then-tag-eq48 : goal.returns-then-tag-eq48
returns-then-tag-eq48 c =
    elim c.then-tag-eq48.branch [
      | then-tag-eq48-via-then-tag-eq48 w ↦ of_sequence _ _ _ _ _ w.if-tag-eq48.true
      | then-tag-eq48-via-else-tag-eq48+then-tag-ne31 w ↦ elim w.if-tag-gt63.branch [
        | then-tag-gt63 w' ↦ of_tag _ _ _ _ _ w'.if-tag-gt63.true (sym w'.value-is ∙ w.if-tag-ne31.true)
        | else-tag-gt63 w' ↦ absurd (omega (arith, ltb-true 63 _ (sym w'.value-is ∙ w.if-tag-ne31.true), w'.if-tag-gt63.false))
      ]
    ]
