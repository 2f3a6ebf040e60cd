-- Where a test before the order's tells another fault, the order is not asked; where none does, it is what the comparison says.
use Rattle.std.specs.Prelude.{None}
use Rattle.std.specs.Bool.{MatchBool}
use Prim.Native.Nat.{ℕ, ◌+◌, ◌-◌, ◌≤◌, ◌<◌}
use mathlib.Core.Bool.{Bool, true, false}
use mathlib.Core.Logic.{⊎_elim}
use mathlib.Core.List.{List, [], ◌∷◌}
use mathlib.Core.Path.{◌≡◌, refl, sym, ◌∙◌}
use native.Mathlib.Omega.{arith}
use lib.ListN.{length, take, length-take}
use Rattle.der.specs.declared.limits.Limits.{Limits}
use Rattle.der.specs.Forms.{Forms}
use Rattle.der.specs.Given.{Given}
use Rattle.der.specs.Heading.{heading_of}
use Rattle.der.specs.Order.{smaller}
use Rattle.der.specs.Falling.{Falls, Stands}
use Rattle.der.proofs.Bounds.{heading-within}
use Rattle.der.proofs.Enough.{stands-bad, stands-deep, stands-many, stands-risen, falls}
use Rattle.der.proofs.order.fallen.Goals as goal
use Rattle.der.proofs.order.fallen.Goals.{In-Some}
use Rattle.der.proofs.Payloads.{a_heading}

module _ (limits : Limits) (prior s : List ℕ) (left count : ℕ) where
  abbrev Verdict : Bool → Type 0
  Verdict r =
      MatchBool r ((forms : Forms) → Given limits left forms → Falls forms prior s (forms.depth + 1 - left) count)
      ((forms : Forms) → Given limits left forms → Stands forms prior s (forms.depth + 1 - left) count)

  headless : ((forms : Forms) → forms.length_octets ≡ limits.digits → forms.wide_tags ≡ limits.wide → heading_of forms s ≡ None) → Verdict false
  headless e forms g = stands-bad forms prior s (forms.depth + 1 - left) count (e forms g.octets g.tags)

  module _ {tag skip size : ℕ} (e : (forms : Forms) → forms.length_octets ≡ limits.digits → forms.wide_tags ≡ limits.wide
      → heading_of forms s ≡ a_heading tag skip size) where
    ended : skip + size ≤ length s
    ended =
        let forms : Forms = record { item_size = 0; depth = 0; elements = 0; length_octets = limits.digits; wide_tags = limits.wide } in
        (heading-within forms s tag skip size (e forms refl refl)).1

    deep : left ≡ 0 → Verdict false
    deep none forms g = stands-deep forms prior s (forms.depth + 1 - left) count (e forms g.octets g.tags) (omega arith)

    module _ (some : left ≡ 0 → ⊥) where
      many : limits.most ≤ count → Verdict false
      many h forms g =
          stands-many forms prior s (forms.depth + 1 - left) count (e forms g.octets g.tags) (omega arith) (omega (arith, g.limit))

      judged : count < limits.most → {r : Bool} → r ≡ smaller (take (skip + size) s) prior → Verdict r
      judged few {r = true} h = λ forms g.
          falls forms prior s (forms.depth + 1 - left) count (e forms g.octets g.tags) (omega arith) (omega (arith, g.limit)) (sym h)
      judged few {r = false} h = λ forms g.
          stands-risen forms prior s (forms.depth + 1 - left) count (e forms g.octets g.tags) (omega arith) (sym h)

heads : (c : In-Some) (forms : Forms) → forms.length_octets ≡ c.args.limits.digits → forms.wide_tags ≡ c.args.limits.wide
    → heading_of forms c.args.s.now ≡ a_heading c.in-Some.field-0.tag c.in-Some.field-0.skip c.in-Some.field-0.size
heads c forms e w = sym (c.header.ensures forms e w) ∙ c.in-Some.is

within : (c : In-Some) → c.in-Some.field-0.skip + c.in-Some.field-0.size ≤ length c.args.s.now
within c = ended c.args.limits c.args.s.now c.args.s.now 0 0 (heads c)

-- before its first member a SET has no octets to be smaller than
none : (l : List ℕ) → length l ≡ 0 → l ≡ []
none [] e = refl
none (x ∷ xs) e = absurd (omega arith)

pub returns-then-prior-eq0 : goal.returns-then-prior-eq0
returns-then-prior-eq0 c = λ forms g base fuel. rw (none _ c.if-prior-eq0.true) refl

pub returns-in_default : goal.returns-in_default
returns-in_default c = headless c.args.limits c.args.prior.now c.args.s.now c.args.left c.args.count λ forms e w.
    sym (c.header.ensures forms e w) ∙ c.in_default.is

pub returns-then-left-eq0 : goal.returns-then-left-eq0
returns-then-left-eq0 c =
    let by = heads (goal.at.returns-then-left-eq0 c).In-Some in
    ⊎_elim (λ none. deep c.args.limits c.args.prior.now c.args.s.now c.args.left c.args.count by none)
    (λ full. many c.args.limits c.args.prior.now c.args.s.now c.args.left c.args.count by full.0 full.1)
    c.then-left-eq0.either

pub overflow_add-skip : goal.overflow_add-skip
overflow_add-skip c = omega (arith, within (goal.at.overflow_add-skip c).In-Some)

pub slice_bounds-precedes-end : goal.slice_bounds-precedes-end
slice_bounds-precedes-end c =
    omega (
      arith,
      within (goal.at.slice_bounds-precedes-end c).In-Some,
      length-take (c.in-Some.field-0.skip + c.in-Some.field-0.size) c.args.s.now,
    )

pub returns : goal.returns
returns c =
    judged c.args.limits c.args.prior.now c.args.s.now c.args.left c.args.count (heads (goal.at.returns c).In-Some)
    c.if-left-eq0.false c.if-limits-count.false c.precedes.ensures
