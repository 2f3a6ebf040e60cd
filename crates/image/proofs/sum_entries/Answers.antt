-- With what is left of the entries the sum comes to the same as at the start, and no length passes 65,535.
use Prim.Native.Nat.{ℕ, zero, suc, ◌+◌, ◌*◌, ◌-◌, ◌≤◌, ◌<◌}
use mathlib.Core.Path.{◌≡◌, refl, ap, ap₂, sym, ◌∙◌}
use mathlib.Core.Bool.{true}
use native.Mathlib.Omega.{arith}
use lib.ListN.{length}
use Rattle.image.specs.declared.IndexEntry.{IndexEntry}
use Rattle.image.specs.Index.{width, entry_at}
use Rattle.image.specs.Rules.{entry_good, sum_of}
use Rattle.image.proofs.Opening.{sum_more, sum-unfit, sum-unpadded}
use Rattle.image.proofs.Widths.{width-least, widths, index-small}
use Rattle.image.proofs.sum_entries.Goals as goal
use Rattle.image.proofs.sum_entries.Goals.{After-entry_good, Else-not-entry_good, In-loop-at}

-- before the end there is an entry
some : (wide left : ℕ) {at end : ℕ} → at + wide * left ≡ end → at < end → 0 < left
some wide zero e h = absurd (omega arith)
some wide (suc left) e h = omega arith

-- one of them at hand
more_left : (c : In-loop-at) → 0 < c.loop-at.invariant.left
more_left c = some (width c.args.version) c.loop-at.invariant.left c.loop-at.invariant.ends c.loop-at-test.true

-- it and those behind it
within : (c : In-loop-at) →
    let wide = width c.args.version in
    let left = c.loop-at.invariant.left in
    wide * (left - 1) + wide ≡ wide * left
within c =
    let wide : ℕ = width c.args.version in
    let left = c.loop-at.invariant.left in
    let next : suc (left - 1) ≡ left = omega (arith, more_left c) in
    let one : wide * (left - 1) + wide ≡ wide * suc (left - 1) = omega arith in
    one ∙ ap (λ (n : ℕ). wide * n) next

-- it ends within the image
room : (c : In-loop-at) →
    let a = c.args in
    c.loop-at.at + width a.version ≤ length a.image.now
room c = omega (arith, c.loop-at.invariant.ends, c.loop-at.invariant.inside, within c)

-- whether the entry at hand is good
judged : (c : After-entry_good) →
    let now = c.loop-at in
    let a = c.args in
    c.entry_good.result ≡ entry_good (entry_at a.version a.image.now now.at) now.sum
judged c = c.entry_good.ensures ∙ ap (λ e. entry_good e c.loop-at.sum) c.entry_at-e.ensures.0

-- the entry at hand and those behind it
one : (c : In-loop-at) →
    let now = c.loop-at in
    let a = c.args in
    sum_of a.version a.image.now now.at now.invariant.left now.sum
    ≡ sum_of a.version a.image.now now.at (suc (now.invariant.left - 1)) now.sum
one c =
    let now = c.loop-at in
    let a = c.args in
    let same : now.invariant.left ≡ suc (now.invariant.left - 1) = omega (arith, more_left c) in
    ap (λ n. sum_of a.version a.image.now now.at n now.sum) same

good : (c : Else-not-entry_good) →
    let now = c.loop-at in
    let a = c.args in
    entry_good (entry_at a.version a.image.now now.at) now.sum ≡ true
good c = sym (judged (record { before = c.before.before; type_inv = record { image = c.type_inv.image } })) ∙ c.if-not-entry_good.false

pub overflow_mul-end : goal.overflow_mul-end
overflow_mul-end c = omega (arith, index-small c.args.version c.args.entries c.width-wide.ensures c.requires.1)

pub overflow_add-end : goal.overflow_add-end
overflow_add-end c =
    let wide : c.width-wide.result * c.args.entries ≡ width c.args.version * c.args.entries = rw c.width-wide.ensures in
    omega (arith, c.well_formed, c.requires.0, wide)

pub loop-at-init : goal.loop-at-init
loop-at-init c =
    let wide : c.width-wide.result ≡ width c.args.version = c.width-wide.ensures in
    record {
      left = c.args.entries;
      few = omega arith;
      ends = rw wide;
      inside = rw wide (omega (arith, c.requires));
      small = omega arith;
      same = refl;
    }

pub entry_at-e-requires : goal.entry_at-e-requires
entry_at-e-requires c = room (goal.at.entry_at-e-requires c).In-loop-at

pub returns-then-not-entry_good : goal.returns-then-not-entry_good
returns-then-not-entry_good c =
    let now = c.loop-at in
    let bad = sym (judged (goal.at.returns-then-not-entry_good c).After-entry_good) ∙ c.if-not-entry_good.true in
    sym (now.invariant.same ∙ one (goal.at.returns-then-not-entry_good c).In-loop-at ∙ sum-unfit _ _ now.at (now.invariant.left - 1) now.sum bad)

pub padding_good-requires : goal.padding_good-requires
padding_good-requires c = room (goal.at.padding_good-requires c).In-loop-at

pub returns-then-not-padding_good : goal.returns-then-not-padding_good
returns-then-not-padding_good c =
    let now = c.loop-at in
    let bad = sym c.padding_good.ensures ∙ c.if-not-padding_good.true in
    sym (now.invariant.same ∙ one (goal.at.returns-then-not-padding_good c).In-loop-at ∙ sum-unpadded _ _ now.at (now.invariant.left - 1) now.sum (good (goal.at.returns-then-not-padding_good c).Else-not-entry_good) bad)

pub overflow_add-sum : goal.overflow_add-sum
overflow_add-sum c = omega (arith, c.entry_at-e.ensures.1, c.loop-at.invariant.small, c.requires.1)

pub overflow_add-at : goal.overflow_add-at
overflow_add-at c =
    omega (arith, c.width-wide.ensures, c.well_formed, room (goal.at.overflow_add-at c).In-loop-at)

pub loop-at-smaller : goal.loop-at-smaller
loop-at-smaller c =
    omega (arith, c.width-wide.ensures, width-least c.args.version, c.loop-at-test.true)

pub loop-at-preserved : goal.loop-at-preserved
loop-at-preserved c =
    let now = c.loop-at in
    let a = c.args in
    let s = a.image.now in
    let version = a.version in
    let wide : c.width-wide.result ≡ width version = c.width-wide.ensures in
    let entry = c.entry_at-e.result in
    let padding = sym c.padding_good.ensures ∙ c.if-not-padding_good.false in
    let more = sum_more version s now.at (now.invariant.left - 1) now.sum (good (goal.at.loop-at-preserved c).Else-not-entry_good) padding in
    let step : sum_of version s now.at now.invariant.left now.sum
    ≡ sum_of version s (now.at + c.width-wide.result) (now.invariant.left - 1) (now.sum + entry.length) =
    one (goal.at.loop-at-preserved c).In-loop-at ∙ more
    ∙ ap₂ (λ (n : ℕ) (e : IndexEntry). sum_of version s (now.at + n) (now.invariant.left - 1) (now.sum + e.length)) (sym wide) (sym c.entry_at-e.ensures.0) in
    record {
      left = now.invariant.left - 1;
      few = omega (arith, now.invariant.few);
      ends = omega (arith, wide, now.invariant.ends, within (goal.at.loop-at-preserved c).In-loop-at);
      inside = now.invariant.inside;
      small = omega (arith, now.invariant.few, now.invariant.small, more_left (goal.at.loop-at-preserved c).In-loop-at, c.entry_at-e.ensures.1);
      same = now.invariant.same ∙ step;
    }

pub returns : goal.returns
unfolding sum_of
returns c =
    let inv = c.loop-at.invariant in
    let a = c.args in
    let none : inv.left ≡ 0 = omega (arith, inv.ends, c.loop-at-test.false, widths a.version inv.left refl) in
    sym (inv.same ∙ rw none)
