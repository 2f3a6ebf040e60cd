-- The inner loop fills one cell more, the outer one a row more.
use Prim.Native.Nat.{ℕ, ◌*◌, ◌+◌, ◌≤◌, ◌<◌}
use mathlib.Core.Path.{refl, sym, ◌∙◌}
use mathlib.Core.List.{List}
use native.Mathlib.Nat.{mul-le-mul}
use native.Mathlib.Omega.{arith}
use lib.ListN.{length, length-set, length-replicate}
use Rattle.usable.proofs.Slots.{empty-slots}
use Rattle.usable.proofs.RowLaws.{line_read, line-short, line-past, step-asked, step-unasked, step-unled}
use Rattle.chain.proofs.Cells.{flag-is, flag_not, cell_set, cell-left, row-rest, row-left}
use Rattle.chain.proofs.by_rounds.matching_steps.Invariants.{Line}
use Rattle.chain.proofs.by_rounds.matching_steps.Goals as goal
use Rattle.chain.proofs.by_rounds.matching_steps.Goals.{
  then-line-v-eq1+then-matched,
  else-line-v-eq1,
  else-line-v-eq1-via-then-line-v-eq1+else-matched,
  else-line-v-eq1-via-else-line-v-eq1,
  then-leads+else-loop-v-test,
  else-leads,
}

-- a column of the line is a place
column : {places : ℕ} {table roles : List ℕ} {u : ℕ} {line : List ℕ} {v : ℕ} → Line places table roles u line → v < length line → v < places
column {places} {table} {roles} {u} l h = let k = line-short table places u l.is in omega (arith, k)

pub loop-u-init : goal.loop-u-init
loop-u-init c = (
  c.requires,
  (
    length-replicate {A = ℕ} 9216 0,
    record { before = λ w x k h. absurd (omega arith); behind = λ w x k h. empty-slots 9216 (w * 96 + x) },
  ),
)

pub bounds-roles-u : goal.bounds-roles-u
bounds-roles-u c = omega (arith, c.loop-u.invariant.0, c.loop-u-test.true)

pub overflow_mul-u : goal.overflow_mul-u
overflow_mul-u c =
    let small = c.loop-u.invariant.0 in
    let inside = c.loop-u-test.true in
    let most : c.loop-u.u * c.args.places ≤ 96 * 96 = mul-le-mul {n₂ = 96} {m₂ = 96} (omega (arith, small, inside)) small in
    omega (arith, most)

pub loop-v-init : goal.loop-v-init
loop-v-init c = (
  record {
    small = c.loop-u.invariant.0;
    place = c.loop-u-test.true;
    leads = sym c.leads.ensures ∙ c.if-leads.true;
    is = c.part-line.ensures;
  },
  c.loop-u.invariant.1,
)

pub bounds-line-v : goal.bounds-line-v
bounds-line-v c = omega (arith, c.loop-v-test.true)

pub bounds-roles-v : goal.bounds-roles-v
bounds-roles-v c = let l = c.loop-v.invariant.0 in omega (arith, column l c.loop-v-test.true, l.small)

pub overflow_mul-steps : goal.overflow_mul-steps
overflow_mul-steps c = let l = c.loop-v.invariant.0 in omega (arith, l.small, l.place)

pub overflow_add-steps : goal.overflow_add-steps
overflow_add-steps c =
    let l = c.loop-v.invariant.0 in
    omega (arith, l.small, l.place, column l c.loop-v-test.true)

pub bounds-steps-u : goal.bounds-steps-u
bounds-steps-u c =
    let l = c.loop-v.invariant.0 in
    omega (arith, l.small, l.place, column l c.loop-v-test.true)

pub loop-v-preserved : goal.loop-v-preserved
loop-v-preserved c =
    let (l, (room, cells)) = c.loop-v.invariant in
    let v = c.loop-v.v in
    let inside = column l c.loop-v-test.true in
    let octet = line_read _ _ _ v l.is inside in
    let here : c.loop-u.u < 96 = omega (arith, l.small, l.place) in
    let there : v < 96 = omega (arith, l.small, inside) in (
      l,
      (
        elim c.if-line-v-eq1.branch [
          | then-line-v-eq1+then-matched w ↦ rw (w.steps-is, length-set) room
          | else-line-v-eq1 w ↦ rw w.steps-is room
        ],
        elim c.if-line-v-eq1.branch [
          | then-line-v-eq1+then-matched w ↦
              rw w.steps-is
              (cell_set l.small cells inside (omega (arith, room, l.small, l.place, inside))
              (flag-is
              (sym (step-asked _ _ _ _ _ _ v refl refl refl refl l.leads octet w.if-line-v-eq1.true (w.matched.ensures.0 here there))
              ∙ w.if-matched.true)))
          | else-line-v-eq1 w ↦
              rw w.steps-is
              (cell-left l.small cells inside
              (flag_not
              (elim w.else-line-v-eq1.branch [
                | else-line-v-eq1-via-then-line-v-eq1+else-matched x ↦
                    sym (step-asked _ _ _ _ _ _ v refl refl refl refl l.leads octet x.if-line-v-eq1.true (x.matched.ensures.0 here there))
                    ∙ x.if-matched.false
                | else-line-v-eq1-via-else-line-v-eq1 x ↦ step-unasked _ _ _ _ _ _ v refl l.leads octet x.if-line-v-eq1.false
              ])))
        ],
      ),
    )

pub loop-u-preserved : goal.loop-u-preserved
loop-u-preserved c =
    let (small, (room, cells)) = c.loop-u.invariant in
    let table = c.args.table.now in
    let places = c.args.places in
    let u = c.loop-u.u in (
      small,
      (
        elim c.if-leads.branch [
          | then-leads+else-loop-v-test w ↦ rw w.steps-is w.loop-v.invariant.1.0
          | else-leads w ↦ rw w.steps-is room
        ],
        elim c.if-leads.branch [
          | then-leads+else-loop-v-test w ↦
              let l = w.loop-v.invariant.0 in
              let short = line-short table places u l.is in
              rw w.steps-is
              (row-rest small (omega (arith, short, w.loop-v.auto.v-end)) w.loop-v.invariant.1.1
              (λ x h k. flag_not (step-unasked _ _ _ _ _ _ x refl l.leads refl (line-past table places u x l.is k (omega (arith, h, w.loop-v-test.false))))))
          | else-leads w ↦
              rw w.steps-is (row-left small cells (λ x k. flag_not (step-unled _ _ _ _ _ _ x refl (sym c.leads.ensures ∙ w.if-leads.false))))
        ],
      ),
    )

pub returns : goal.returns
returns c = λ u v h k.
    let i = c.loop-u.invariant in i.1.1.before u v k (omega (arith, i.0, c.loop-u-test.false))
