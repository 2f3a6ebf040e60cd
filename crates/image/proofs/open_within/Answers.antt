-- The code asks the rules in their order, and the first that is broken decides.
use mathlib.Core.Path.{◌≡◌, ap, sym, ◌∙◌}
use native.Mathlib.Omega.{arith}
use Prim.Native.Nat.{ℕ, ◌+◌, ◌*◌, ◌≤◌}
use mathlib.Core.Bool.{true}
use borrow.Author.Tests.{le-leb, lt-leb, eq-eqb, ne_eqb}
use Rattle.image.specs.Index.{index_start, entry_count, version_in, day_in, width}
use Rattle.image.specs.Rules.{rule1, rule2, rule3, rule4, rule5, rule6, rule7, total_of, fit, summed}
use Rattle.image.proofs.Opening.{breaks-1, breaks-2, breaks-3, breaks-4, breaks-5, breaks-6, breaks-7, keeps-all}
use Rattle.image.proofs.Widths.{index-small}
use Rattle.image.proofs.open_within.Goals as goal
use Rattle.image.proofs.open_within.Goals.{After-real_day, After-sum_entries, After-two-entries, After-two-version, After-width, Else-entries-gt96, Else-most-version, Else-n-gt262144, Else-not-real_day, Else-start-width}

one : (c : Else-n-gt262144) → rule1 c.args.image.now ≡ true
unfolding rule1
one c = simp (le-leb _ _ c.if-n-lt12.false, le-leb _ _ c.if-n-gt262144.false)

-- the version that was read
version : (c : After-two-version) → c.two-version.result ≡ version_in c.args.image.now
unfolding version_in
version c = c.two-version.ensures.0

two : (c : Else-most-version) →
    let a = c.args in
    rule2 a.least a.most a.image.now ≡ true
unfolding rule2
two c = rw (← version (record { before = c.before.before.before; type_inv = record { image = c.type_inv.image } })) (simp (le-leb _ _ c.if-version-least.false, le-leb _ _ c.if-most-version.false))

-- the entries that were counted
entries : (c : After-two-entries) → c.two-entries.result ≡ entry_count c.args.image.now
unfolding entry_count
entries c = c.two-entries.ensures.0

three : (c : Else-entries-gt96) → rule3 c.args.image.now ≡ true
unfolding rule3
three c = le-leb _ _ (rw (entries (record { before = c.before.before; type_inv = record { image = c.type_inv.image } })) at c.if-entries-gt96.false)

-- the three rules that hold where the day is read
three-kept : (c : After-real_day) →
    let a = c.args in
    (rule1 a.image.now ≡ true) × (rule2 a.least a.most a.image.now ≡ true) × (rule3 a.image.now ≡ true)
three-kept c =
    (one (record { before = c.before.before.before.before.before.before.before.before; type_inv = record { image = c.type_inv.image } }), two (record { before = c.before.before.before.before.before; type_inv = record { image = c.type_inv.image } }), three (record { before = c.before.before.before; type_inv = record { image = c.type_inv.image } }))

four : (c : Else-not-real_day) → rule4 c.args.image.now ≡ true
unfolding rule4 day_in
four c = rw (← c.four-day.ensures.0) (sym c.real_day.ensures ∙ c.if-not-real_day.false)

-- the day and where the index starts, and where the image ends by them
day : (c : After-real_day) → c.four-day.result ≡ day_in c.args.image.now
unfolding day_in
day c = c.four-day.ensures.0

start : (c : After-width) → c.four-start.result ≡ index_start c.args.image.now
unfolding index_start
start c = c.four-start.ensures.0

known : (c : After-width) → c.two-version.result ≡ version_in c.args.image.now
unfolding version_in
known c = c.two-version.ensures.0

wide : (c : After-width) → c.width.result ≡ width (version_in c.args.image.now)
wide c = c.width.ensures ∙ ap width (known c)

ending : (c : After-width) →
    let s = c.args.image.now in
    c.four-start.result + c.width.result * c.two-entries.result + 12 ≡ index_start s + width (version_in s) * entry_count s + 12
ending c = cc (start c, wide c, entries (record { before = c.before.before.before.before.before.before.before; type_inv = record { image = c.type_inv.image } }))

-- the octets of the index are few
few : (c : After-width) → c.width.result * c.two-entries.result ≤ 65536
few c = index-small _ c.two-entries.result c.width.ensures c.if-entries-gt96.false

five : (c : Else-start-width) → rule5 c.args.image.now ≡ true
unfolding rule5
five c = eq-eqb _ _ (sym (ending (record { before = c.before.before; type_inv = record { image = c.type_inv.image } })) ∙ c.if-start-width.false)

-- all five that ask nothing of the entries
kept : (c : Else-start-width) →
    let a = c.args in
    let s = a.image.now in
    (rule1 s ≡ true) × (rule2 a.least a.most s ≡ true) × (rule3 s ≡ true) × (rule4 s ≡ true) × (rule5 s ≡ true)
kept c = let k = three-kept (record { before = c.before.before.before.before.before; type_inv = record { image = c.type_inv.image } }) in (k.0, k.1, k.2, four (record { before = c.before.before.before.before; type_inv = record { image = c.type_inv.image } }), five c)

-- what all entries come to
total : (c : After-sum_entries) → total_of c.args.image.now ≡ c.sum_entries.result
unfolding total_of
total c =
    rw (← known (record { before = c.before.before.before; type_inv = record { image = c.type_inv.image } }), ← start (record { before = c.before.before.before; type_inv = record { image = c.type_inv.image } }), ← entries (record { before = c.before.before.before.before.before.before.before.before.before; type_inv = record { image = c.type_inv.image } })) (sym c.sum_entries.ensures)

pub returns-then-n-lt12 : goal.returns-then-n-lt12
unfolding rule1
returns-then-n-lt12 c =
    let a = c.args in
    sym (breaks-1 a.least a.most a.image.now (simp (lt-leb _ _ c.if-n-lt12.true)))

pub returns-then-n-gt262144 : goal.returns-then-n-gt262144
unfolding rule1
returns-then-n-gt262144 c =
    let a = c.args in
    sym (breaks-1 a.least a.most a.image.now (simp (le-leb _ _ c.if-n-lt12.false, lt-leb _ _ c.if-n-gt262144.true)))

pub returns-then-version-least : goal.returns-then-version-least
unfolding rule2
returns-then-version-least c =
    let a = c.args in
    sym (breaks-2 a.least a.most a.image.now (one (goal.at.returns-then-version-least c).Else-n-gt262144)
    (rw (← version (goal.at.returns-then-version-least c).After-two-version) (simp (lt-leb _ _ c.if-version-least.true))))

pub returns-then-most-version : goal.returns-then-most-version
unfolding rule2
returns-then-most-version c =
    let a = c.args in
    sym (breaks-2 a.least a.most a.image.now (one (goal.at.returns-then-most-version c).Else-n-gt262144)
    (rw (← version (goal.at.returns-then-most-version c).After-two-version) (simp (le-leb _ _ c.if-version-least.false, lt-leb _ _ c.if-most-version.true))))

pub returns-then-entries-gt96 : goal.returns-then-entries-gt96
unfolding rule3
returns-then-entries-gt96 c =
    let a = c.args in
    sym (breaks-3 a.least a.most a.image.now (one (goal.at.returns-then-entries-gt96 c).Else-n-gt262144) (two (goal.at.returns-then-entries-gt96 c).Else-most-version)
    (lt-leb _ _ (rw (entries (goal.at.returns-then-entries-gt96 c).After-two-entries) at c.if-entries-gt96.true)))

pub returns-then-not-real_day : goal.returns-then-not-real_day
unfolding rule4 day_in
returns-then-not-real_day c =
    let k = three-kept (goal.at.returns-then-not-real_day c).After-real_day in
    let a = c.args in
    sym (breaks-4 a.least a.most a.image.now k.0 k.1 k.2
    (rw (← c.four-day.ensures.0) (sym c.real_day.ensures ∙ c.if-not-real_day.true)))

pub overflow_mul-width : goal.overflow_mul-width
overflow_mul-width c = omega (arith, few (goal.at.overflow_mul-width c).After-width)

pub overflow_add-start : goal.overflow_add-start
overflow_add-start c = omega (arith, few (goal.at.overflow_add-start c).After-width, c.four-start.ensures.1)

pub overflow_add-start-2 : goal.overflow_add-start-2
overflow_add-start-2 c = omega (arith, few (goal.at.overflow_add-start-2 c).After-width, c.four-start.ensures.1)

pub returns-then-start-width : goal.returns-then-start-width
unfolding rule5
returns-then-start-width c =
    let k = three-kept (goal.at.returns-then-start-width c).After-real_day in
    let a = c.args in
    sym (breaks-5 a.least a.most a.image.now k.0 k.1 k.2 (four (goal.at.returns-then-start-width c).Else-not-real_day)
    (ne_eqb _ _ λ e. c.if-start-width.true (ending (goal.at.returns-then-start-width c).After-width ∙ e)))

pub sum_entries-requires : goal.sum_entries-requires
sum_entries-requires c =
    let n = c.two-entries.result in
    let wide = ap (λ (k : ℕ). k * n) c.width.ensures in
    (omega (arith, wide, c.if-start-width.false), c.if-entries-gt96.false)

pub returns-in_default : goal.returns-in_default
unfolding rule6 fit
returns-in_default c =
    let k = kept (goal.at.returns-in_default c).Else-start-width in
    let a = c.args in
    sym (breaks-6 a.least a.most a.image.now k.0 k.1 k.2 k.3 k.4
    (simp (total (goal.at.returns-in_default c).After-sum_entries ∙ c.in_default.is)))

pub returns-then-sum-start : goal.returns-then-sum-start
unfolding rule6 rule7 fit summed
returns-then-sum-start c =
    let k = kept (goal.at.returns-then-sum-start c).Else-start-width in
    let a = c.args in
    let sum = total (goal.at.returns-then-sum-start c).After-sum_entries ∙ c.in-Some.is in
    sym (breaks-7 a.least a.most a.image.now k.0 k.1 k.2 k.3 k.4 (simp sum)
    (simp (sum, ne_eqb _ _ λ e. c.if-sum-start.true (e ∙ sym (start (goal.at.returns-then-sum-start c).After-width)))))

pub returns : goal.returns
unfolding rule6 rule7 fit summed
returns c =
    let k = kept (goal.at.returns c).Else-start-width in
    let a = c.args in
    let sum = total (goal.at.returns c).After-sum_entries ∙ c.in-Some.is in
    let all = keeps-all a.least a.most a.image.now k.0 k.1 k.2 k.3 k.4 (simp sum)
    (simp (sum, eq-eqb _ _ (c.if-sum-start.false ∙ start (goal.at.returns c).After-width))) in
    cc (all, entries (goal.at.returns c).After-two-entries, day (goal.at.returns c).After-real_day, known (goal.at.returns c).After-width)
