-- An element is read as its definition says, by the law for each way through its tests; a list by reading its elements one
-- by one, some by the fast path, and the members of a SET one by one, each after the test against the one before it.
use Rattle.std.specs.Prelude.{Result, Err}
use Rattle.std.proofs.lemmas.Result.{err_from_is_err_and}
use mathlib.Core.Path.{◌≡◌, refl, sym, subst, ◌∙◌}
use mathlib.Core.Bool.{Bool, true, false}
use mathlib.Core.Logic.{⊎_elim}
use mathlib.Core.List.{List, []}
use Prim.Native.Nat.{ℕ, ◌<◌, ◌≤◌, ◌+◌, ◌*◌, ◌-◌}
use native.Mathlib.Omega.{arith}
use borrow.Author.Tests.{eq-eqb, ne_eqb}
use lib.Dec.{eqb}
use lib.ListN.{length, get_or, take, drop, length-take, length-drop}
use Rattle.refusal.specs.declared.Refusal.{Refusal}
use Rattle.refusal.specs.declared.Refusal.TheVariants.{Der, Limit}
use Rattle.der.specs.declared.walking.Read.{Read}
use Rattle.der.specs.Forms.{Forms}
use Rattle.der.specs.declared.limits.Limits.{Limits}
use Rattle.der.specs.Given.{Given}
use Rattle.der.specs.Heading.{heading_of, constructed}
use Rattle.der.specs.Contents.{contents_good}
use Rattle.der.specs.Order.{is_set, handed}
use Rattle.der.specs.Walk.{filled}
use Rattle.der.specs.Fast.{stretch}
use Rattle.der.specs.Falling.{Stands}
use Rattle.der.proofs.Bounds.{heading-within}
use Rattle.der.proofs.Enough.{ElementIs, ListIs, bad-is, deep_is, many_is, leaf-is, spoilt-is}
use Rattle.der.proofs.Enough.{node-is, ListLeft, left-first, left-none, left-fault, read-within, left-next, left-on}
use Rattle.der.proofs.walking.+element_list_set_list.Goals as goal
use Rattle.der.proofs.walking.+element_list_set_list.Goals.{element-In_ok-tag, list-In_ok-used}
use Rattle.der.proofs.Payloads.{a_heading}
use Rattle.der.proofs.Payloads.{a_read}

-- forms with given limits
abbrev made : Limits → ℕ → Forms
made limits left = record { item_size = 0; depth = left; elements = limits.most; length_octets = limits.digits; wide_tags = limits.wide }

made-given : (limits : Limits) (left : ℕ) → Given limits left (made limits left)
made-given limits left = record { octets = refl; tags = refl; limit = refl; levels = omega arith }

-- the depth that the levels left tell
abbrev level : Forms → ℕ → ℕ
level forms left = forms.depth + 1 - left

module _ (limits : Limits) (s : List ℕ) (base left count : ℕ) where
  -- an answer, whatever the forms with these limits are
  abbrev Answer : Result Read Refusal → Type 0
  Answer r = (forms : Forms) → Given limits left forms → ElementIs forms [] s base (level forms left) count r

  -- the laws of an element at that depth
  module _ {tag skip size : ℕ} (e : (forms : Forms) → forms.length_octets ≡ limits.digits → forms.wide_tags ≡ limits.wide
      → heading_of forms s ≡ a_heading tag skip size) where
    ended : (2 ≤ skip) × (skip + size ≤ length s)
    ended = heading-within (made limits left) s tag skip size (e _ refl refl)

    deep : left ≡ 0 → Answer (Err (Limit base))
    deep none forms g = deep_is forms s base (level forms left) count (e forms g.octets g.tags) (omega arith)

    module _ (some : left ≡ 0 → ⊥) where
      shallow : (forms : Forms) → level forms left ≤ forms.depth
      shallow forms = omega arith

      many : limits.most ≤ count → Answer (Err (Limit base))
      many h forms g = many_is forms s base (level forms left) count (e forms g.octets g.tags) (shallow forms) (omega (arith, g.limit))

      module _ (few : count < limits.most) where
        leaf : constructed (get_or s 0 0) ≡ false → contents_good tag (take (skip + size - skip) (drop skip s)) ≡ true → Answer (a_read (skip + size) (count + 1))
        leaf h c forms g = leaf-is forms s base (level forms left) count (e forms g.octets g.tags) (shallow forms) (omega (arith, g.limit)) h c

        spoilt : constructed (get_or s 0 0) ≡ false → contents_good tag (take (skip + size - skip) (drop skip s)) ≡ false → Answer (Err (Der base))
        spoilt h c forms g = spoilt-is forms s base (level forms left) count (e forms g.octets g.tags) (shallow forms) (omega (arith, g.limit)) h c

        node : {w : Result ℕ Refusal} → constructed (get_or s 0 0) ≡ true
            → ((forms : Forms) → Given limits (left - 1) forms
            → ListIs forms (eqb tag 49) (take (skip + size - skip) (drop skip s)) (base + skip) (level forms (left - 1)) (count + 1) w)
            → Answer (filled (skip + size) w)
        unfolding is_set
        node {w} h f forms g =
            let deeper : level forms (left - 1) ≡ level forms left + 1 = omega (arith, g.levels) in
            let below : Given limits (left - 1) forms = record {
              octets = g.octets;
              tags = g.tags;
              limit = g.limit;
              levels = omega
                  (arith, g.levels);
            } in
            node-is forms s base (level forms left) count (e forms g.octets g.tags) (shallow forms) (omega (arith, g.limit)) refl h
            (subst (λ d. ListIs forms (eqb tag 49) (take (skip + size - skip) (drop skip s)) (base + skip) d (count + 1) w) deeper (f forms below))

module _ (limits : Limits) (set : Bool) (s : List ℕ) (base left count : ℕ) where
  -- a list of which the elements before `at` have been read, the last of them from `prior` on
  abbrev Rest : ℕ → ℕ → ℕ → ℕ → Type 0
  Rest prior at deep read =
      (forms : Forms) → Given limits left forms → ListLeft forms set s base (level forms left) count prior at (level forms deep) read

  module _ (prior at deep read : ℕ) (more : at < length s) (f : Rest prior at deep read) where
    -- the answer of its next element, after the one before it
    abbrev Next : Result Read Refusal → Type 0
    Next r =
        (forms : Forms) → Given limits left forms
        → ElementIs forms (handed set (stretch s prior at)) (stretch s at (length s)) (base + at) (level forms deep) read r

    -- where that one is not in its way
    next : {r : Result Read Refusal} → ((forms : Forms) → Given limits left forms → Stands forms (handed set (stretch s prior at))
        (stretch s at (length s)) (level forms deep) read)
        → ((forms : Forms) → Given limits left forms → ElementIs forms [] (stretch s at (length s)) (base + at) (level forms deep) read r)
        → Next r
    next stands answer forms g fuel enough = answer forms g fuel enough ∙ stands forms g (base + at) fuel

    faulty : {refusal : Refusal} → Next (Err refusal) → (forms : Forms) → Given limits left forms → ListIs forms set s base
        (level forms left) count (Err refusal)
    faulty answer forms g = left-fault forms set s base (level forms left) count prior at (level forms deep) read (f forms g) more (answer forms g)

    past : (used n to : ℕ) → Next (a_read used n) → to ≡ at + used → (at < to) × (to ≤ length s) × (n ≤ limits.most) × Rest at to deep n
    past used n to answer e =
        let forms = made limits left in
        let given = made-given limits left in
        let w : (2 ≤ used) × (at + used ≤ length s) × (n ≤ limits.most) =
        read-within forms set s base (level forms left) count prior at (level forms deep) read (f forms given) more (answer forms given) in (
          omega arith,
          omega arith,
          w.2,
          λ forms g. subst (λ k. ListLeft forms set s base (level forms left) count at k (level forms deep) n) (sym e)
              (left-next forms set s base (level forms left) count prior at (level forms deep) read (f forms g) more (answer forms g)),
        )

-- where no order is asked, it does not matter where the last element started
any-prior : (forms : Forms) (s : List ℕ) (base depth count prior other at deep read : ℕ) → ListLeft forms false s base depth count prior at deep read
    → ListLeft forms false s base depth count other at deep read
unfolding handed
any-prior forms s base depth count prior other at deep read f = f

-- fewer levels are left
lower : {limits : Limits} {left deep : ℕ} {forms : Forms} → deep ≤ left → Given limits left forms → Given limits deep forms
lower h g = record { octets = g.octets; tags = g.tags; limit = g.limit; levels = omega (arith, h, g.levels) }

module _ (limits : Limits) (s : List ℕ) (base left count : ℕ) where
  -- the answer for a list, whatever the forms with these limits are
  abbrev Whole : Bool → Result ℕ Refusal → Type 0
  Whole set w = (forms : Forms) → Given limits left forms → ListIs forms set s base (level forms left) count w

  -- it is known whether it is a SET
  whole : {known set : Bool} {w : Result ℕ Refusal} → set ≡ known → Whole known w → Whole set w
  whole {known} {set} {w} e f forms g = subst (λ b. ListIs forms b s base (level forms left) count w) (sym e) (f forms g)

  -- one turn of the loop of a list that is no SET
  module _ (at deep read : ℕ) (more : at < length s) (lev : deep ≤ left) (f : Rest limits false s base left count 0 at deep read) where
    -- the answer for the next element
    abbrev Answered : Result Read Refusal → Type 0
    Answered r = Answer limits (stretch s at (length s)) (base + at) deep read r

    -- a fault of the next element is the list's
    stops : {refusal : Refusal} → Answered (Err refusal) → Whole false (Err refusal)
    unfolding handed
    stops answer = faulty limits false s base left count 0 at deep read more f λ forms g. answer forms (lower lev g)

    -- an element that is read is left behind
    goes_on : (used n to : ℕ) → Answered (a_read used n) → to ≡ at + used
        → (at < to) × (to ≤ length s) × (n ≤ limits.most) × Rest limits false s base left count 0 to deep n
    unfolding handed
    goes_on used n to answer e =
        let (farther, inside, few, rest) = past limits false s base left count 0 at deep read more f used n to
        (λ forms g. answer forms (lower lev g)) e in (
          farther,
          inside,
          few,
          λ forms g. any-prior forms s base (level forms left) count at 0 to (level forms deep) n (rest forms g),
        )

-- the octets at hand, by their header
heads : (t : ℕ) (c : element-In_ok-tag t) (forms : Forms) → forms.length_octets ≡ c.args.limits.digits → forms.wide_tags ≡ c.args.limits.wide
    → heading_of forms c.args.s.now ≡ a_heading c.in_ok-tag.field-0.tag c.in_ok-tag.field-0.skip c.in_ok-tag.field-0.size
heads t c forms e w = sym (c.header.ensures forms e w) ∙ c.in_ok-tag.ensures.ok_part

within : (t : ℕ) (c : element-In_ok-tag t) → (2 ≤ c.in_ok-tag.field-0.skip) × (c.in_ok-tag.field-0.skip + c.in_ok-tag.field-0.size ≤ length c.args.s.now)
within t c = ended c.args.limits c.args.s.now c.args.place.at c.args.place.left c.args.place.count (heads t c)

pub element-returns-in_err-tag : goal.element-returns-in_err-tag
element-returns-in_err-tag t c =
    let p = err_from_is_err_and c.from_residual.result c.from_residual.ensures.1 in
    let none = c.in_err-tag.ensures.ok_part in
    let told = rw none at c.in_err-tag.ensures.value in
    let same : c.in_err-tag.field-0.0 ≡ Der c.args.place.at = cc in
    rw (p.1, p.2, same) λ forms g.
    bad-is forms c.args.s.now c.args.place.at (level forms c.args.place.left) c.args.place.count (sym (c.header.ensures forms g.octets g.tags) ∙ none)

pub element-returns-then-left-eq0 : goal.element-returns-then-left-eq0
element-returns-then-left-eq0 t c =
    let by = heads t (goal.at.element-returns-then-left-eq0 t c).In_ok-tag in
    ⊎_elim (λ none. deep c.args.limits c.args.s.now c.args.place.at c.args.place.left c.args.place.count by none)
    (λ full. many c.args.limits c.args.s.now c.args.place.at c.args.place.left c.args.place.count by full.0 full.1)
    c.then-left-eq0.either

pub element-overflow_add-end : goal.element-overflow_add-end
element-overflow_add-end t c = omega (arith, within t (goal.at.element-overflow_add-end t c).In_ok-tag)

pub element-bounds-s-0 : goal.element-bounds-s-0
element-bounds-s-0 t c = omega (arith, within t (goal.at.element-bounds-s-0 t c).In_ok-tag)

pub element-slice_bounds-list-end : goal.element-slice_bounds-list-end
element-slice_bounds-list-end t c = omega (arith, within t (goal.at.element-slice_bounds-list-end t c).In_ok-tag)

pub element-overflow_add-members : goal.element-overflow_add-members
element-overflow_add-members t c = omega (arith, within t (goal.at.element-overflow_add-members t c).In_ok-tag)

pub element-list-requires : goal.element-list-requires
element-list-requires t c =
    let skip = c.in_ok-tag.field-0.skip in
    let size = c.in_ok-tag.field-0.size in
    let mu : 2 * length c.args.s.now ≡ t = c.decreases in
    omega (
      arith,
      within t (goal.at.element-list-requires t c).In_ok-tag,
      length-take (skip + size - skip) (drop skip c.args.s.now),
      length-drop skip c.args.s.now,
    )

pub element-returns-in_err-count : goal.element-returns-in_err-count
unfolding filled constructed
element-returns-in_err-count t c =
    let p = err_from_is_err_and c.from_residual-in_err-count.result c.from_residual-in_err-count.ensures.1 in
    rw (p.1, p.2)
    (node c.args.limits c.args.s.now c.args.place.at c.args.place.left c.args.place.count
    (heads t (goal.at.element-returns-in_err-count t c).In_ok-tag) c.if-left-eq0.false c.if-limits-count.false
    (eq-eqb _ _ c.if-s-eq1.true) λ forms g fuel h. sym c.in_err-count.was ∙ c.list.ensures forms g fuel h)

pub element-returns-then-s-eq1 : goal.element-returns-then-s-eq1
unfolding filled constructed
element-returns-then-s-eq1 t c =
    node c.args.limits c.args.s.now c.args.place.at c.args.place.left c.args.place.count
    (heads t (goal.at.element-returns-then-s-eq1 t c).In_ok-tag) c.if-left-eq0.false c.if-limits-count.false
    (eq-eqb _ _ c.if-s-eq1.true) λ forms g fuel h. sym c.in_ok-count.was ∙ c.list.ensures forms g fuel h

pub element-slice_bounds-contents_good-end : goal.element-slice_bounds-contents_good-end
element-slice_bounds-contents_good-end t c = omega (arith, within t (goal.at.element-slice_bounds-contents_good-end t c).In_ok-tag)

pub element-returns-then-contents_good : goal.element-returns-then-contents_good
unfolding constructed
element-returns-then-contents_good t c =
    leaf c.args.limits c.args.s.now c.args.place.at c.args.place.left c.args.place.count
    (heads t (goal.at.element-returns-then-contents_good t c).In_ok-tag) c.if-left-eq0.false c.if-limits-count.false
    (ne_eqb _ _ c.if-s-eq1.false) (sym c.contents_good.ensures ∙ c.if-contents_good.true)

pub element-returns : goal.element-returns
unfolding constructed
element-returns t c =
    spoilt c.args.limits c.args.s.now c.args.place.at c.args.place.left c.args.place.count
    (heads t (goal.at.element-returns t c).In_ok-tag) c.if-left-eq0.false c.if-limits-count.false
    (ne_eqb _ _ c.if-s-eq1.false) (sym c.contents_good.ensures ∙ c.if-contents_good.false)

pub list-set_list-requires : goal.list-set_list-requires
list-set_list-requires t c =
    let mu : 2 * length c.args.s.now + 2 ≡ t = c.decreases in
    omega arith

pub list-loop-place-init : goal.list-loop-place-init
list-loop-place-init t c = (
  omega arith,
  omega arith,
  omega arith,
  λ forms g. left-first forms false c.args.s.now c.args.start.at (level forms c.args.start.left) c.args.start.count,
)

pub list-loop-place-preserved-in-Some : goal.list-loop-place-preserved-in-Some
list-loop-place-preserved-in-Some t c =
    let octet = get_or c.args.s.now (c.loop-place.place.at + 1) 0 in
    let on = goes_on c.args.limits c.args.s.now c.args.start.at c.args.start.left c.args.start.count
    c.loop-place.place.at c.loop-place.place.left c.loop-place.place.count c.loop-place-test.true c.loop-place.invariant.2 c.loop-place.invariant.3
    (2 + octet) c.in-Some.read (c.loop-place.place.at + (2 + octet))
    (λ forms g. c.in-Some.ensures.1 forms g.limit g.levels (c.args.start.at + c.loop-place.place.at)) refl in
    (on.1, on.2, c.loop-place.invariant.2, on.3)

pub list-loop-place-preserved-in-Some-onward : goal.list-loop-place-preserved-in-Some-onward
list-loop-place-preserved-in-Some-onward t c =
    let on = c.in-Some-onward.next in
    let told = c.in-Some-onward.ensures in (
      told.inside,
      told.few,
      omega (arith, told.levels, c.loop-place.invariant.2),
      λ forms g. left-on forms c.args.s.now c.args.start.at (level forms c.args.start.left) c.args.start.count
          0 c.loop-place.place.at (level forms c.loop-place.place.left) c.loop-place.place.count 0 on.at (level forms on.left) on.count
          (c.loop-place.invariant.3 forms g) (told.goes forms (lower c.loop-place.invariant.2 g)),
    )

pub list-element-requires : goal.list-element-requires
list-element-requires t c =
    let s = c.args.s.now in
    let mu : 2 * length s + 2 ≡ t = c.decreases in
    omega (arith, length-take (length s - c.loop-place.place.at) (drop c.loop-place.place.at s), length-drop c.loop-place.place.at s)

pub list-returns-in_err-used : goal.list-returns-in_err-used
list-returns-in_err-used t c =
    let p = err_from_is_err_and c.from_residual.result c.from_residual.ensures.1 in
    rw (p.1, p.2) (
    whole c.args.limits c.args.s.now c.args.start.at c.args.start.left c.args.start.count c.if-set.false
    (stops c.args.limits c.args.s.now c.args.start.at c.args.start.left c.args.start.count
    c.loop-place.place.at c.loop-place.place.left c.loop-place.place.count c.loop-place-test.true c.loop-place.invariant.2 c.loop-place.invariant.3
    λ forms g fuel h. sym c.in_err-used.was ∙ c.element.ensures forms g fuel h))

-- the element was read
slow : (t : ℕ) (c : list-In_ok-used t)
    → let at = c.loop-place.place.at + c.in_ok-used.field-0.used in
    (c.loop-place.place.at < at) × (at ≤ length c.args.s.now) × (c.in_ok-used.field-0.count ≤ c.args.limits.most)
    × Rest c.args.limits false c.args.s.now c.args.start.at c.args.start.left c.args.start.count
    0 at c.loop-place.place.left c.in_ok-used.field-0.count
slow t c =
    goes_on c.args.limits c.args.s.now c.args.start.at c.args.start.left c.args.start.count
    c.loop-place.place.at c.loop-place.place.left c.loop-place.place.count c.loop-place-test.true c.loop-place.invariant.2 c.loop-place.invariant.3
    c.in_ok-used.field-0.used c.in_ok-used.field-0.count (c.loop-place.place.at + c.in_ok-used.field-0.used)
    (λ forms g fuel h. sym c.in_ok-used.was ∙ c.element.ensures forms g fuel h) refl

pub list-overflow_add-place-in_default-onward : goal.list-overflow_add-place-in_default-onward
list-overflow_add-place-in_default-onward t c = omega (arith, slow t (goal.at.list-overflow_add-place-in_default-onward t c).In_ok-used)

pub list-loop-place-smaller : goal.list-loop-place-smaller
list-loop-place-smaller t c = omega (arith, slow t (goal.at.list-loop-place-smaller t c).In_ok-used)

pub list-loop-place-preserved : goal.list-loop-place-preserved
list-loop-place-preserved t c =
    let on = slow t (goal.at.list-loop-place-preserved t c).In_ok-used in
    (on.1, on.2, c.loop-place.invariant.2, on.3)

pub list-returns : goal.list-returns
list-returns t c =
    whole c.args.limits c.args.s.now c.args.start.at c.args.start.left c.args.start.count c.if-set.false
    λ forms g. left-none forms false c.args.s.now c.args.start.at (level forms c.args.start.left) c.args.start.count
    0 c.loop-place.place.at (level forms c.loop-place.place.left) c.loop-place.place.count (c.loop-place.invariant.3 forms g) c.loop-place-test.false

pub set_list-loop-at-init : goal.set_list-loop-at-init
set_list-loop-at-init t c = (
  omega arith,
  omega arith,
  omega arith,
  λ forms g. left-first forms true c.args.s.now c.args.start.at (level forms c.args.start.left) c.args.start.count,
)

pub set_list-returns-then-fallen : goal.set_list-returns-then-fallen
unfolding handed
set_list-returns-then-fallen t c =
    faulty c.args.limits true c.args.s.now c.args.start.at c.args.start.left c.args.start.count
    c.loop-at.prior c.loop-at.at c.args.start.left c.loop-at.read c.loop-at-test.true c.loop-at.invariant.3
    λ forms g. c.if-fallen.ensures forms g (c.args.start.at + c.loop-at.at)

pub set_list-element-requires : goal.set_list-element-requires
set_list-element-requires t c =
    let s = c.args.s.now in
    let mu : 2 * length s + 1 ≡ t = c.decreases in
    omega (arith, length-take (length s - c.loop-at.at) (drop c.loop-at.at s), length-drop c.loop-at.at s)

pub set_list-returns-in_err-used : goal.set_list-returns-in_err-used
unfolding handed
set_list-returns-in_err-used t c =
    let p = err_from_is_err_and c.from_residual.result c.from_residual.ensures.1 in
    rw (p.1, p.2) (
    faulty c.args.limits true c.args.s.now c.args.start.at c.args.start.left c.args.start.count
    c.loop-at.prior c.loop-at.at c.args.start.left c.loop-at.read c.loop-at-test.true c.loop-at.invariant.3
    (next c.args.limits true c.args.s.now c.args.start.at c.args.start.left c.args.start.count
    c.loop-at.prior c.loop-at.at c.args.start.left c.loop-at.read c.loop-at-test.true c.loop-at.invariant.3
    c.if-fallen.ensures λ forms g fuel h. sym c.in_err-used.was ∙ c.element.ensures forms g fuel h))

-- the member was read
set-slow : (t : ℕ) (c : goal.set_list-In_ok-used t)
    → (c.loop-at.at < c.loop-at.at + c.in_ok-used.field-0.used)
    × (c.loop-at.at + c.in_ok-used.field-0.used ≤ length c.args.s.now) × (c.in_ok-used.field-0.count ≤ c.args.limits.most)
    × Rest c.args.limits true c.args.s.now c.args.start.at c.args.start.left c.args.start.count
    c.loop-at.at (c.loop-at.at + c.in_ok-used.field-0.used) c.args.start.left c.in_ok-used.field-0.count
unfolding handed
set-slow t c =
    past c.args.limits true c.args.s.now c.args.start.at c.args.start.left c.args.start.count
    c.loop-at.prior c.loop-at.at c.args.start.left c.loop-at.read c.loop-at-test.true c.loop-at.invariant.3
    c.in_ok-used.field-0.used c.in_ok-used.field-0.count (c.loop-at.at + c.in_ok-used.field-0.used)
    (next c.args.limits true c.args.s.now c.args.start.at c.args.start.left c.args.start.count
    c.loop-at.prior c.loop-at.at c.args.start.left c.loop-at.read c.loop-at-test.true c.loop-at.invariant.3
    c.if-fallen.ensures λ forms g fuel h. sym c.in_ok-used.was ∙ c.element.ensures forms g fuel h) refl

pub set_list-overflow_add-at : goal.set_list-overflow_add-at
set_list-overflow_add-at t c = omega (arith, set-slow t c)

pub set_list-loop-at-smaller : goal.set_list-loop-at-smaller
set_list-loop-at-smaller t c = omega (arith, set-slow t c)

pub set_list-loop-at-preserved : goal.set_list-loop-at-preserved
set_list-loop-at-preserved t c = let on = set-slow t c in (omega arith, on.1, on.2, on.3)

pub set_list-returns : goal.set_list-returns
set_list-returns t c = λ forms g.
    left-none forms true c.args.s.now c.args.start.at (level forms c.args.start.left) c.args.start.count
    c.loop-at.prior c.loop-at.at (level forms c.args.start.left) c.loop-at.read (c.loop-at.invariant.3 forms g) c.loop-at-test.false
