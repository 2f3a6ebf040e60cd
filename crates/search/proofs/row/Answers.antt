-- The search stands at the column that comes next, the row is that of the head, which is an anchor or a link, and what is new there has
-- the distance of the head and one more.
use Prim.Native.Nat.{ℕ, ◌+◌, ◌*◌, ◌≤◌, ◌<◌}
use mathlib.Core.Bool.{Bool, true, false}
use mathlib.Core.Path.{◌≡◌, refl, sym, ap, ◌∙◌}
use mathlib.Core.List.{List}
use mathlib.Core.Logic.{◌⊎◌, inl, inr}
use native.Mathlib.Nat.{mul-le-mul}
use native.Mathlib.Omega.{arith}
use lib.ListN.{length, get_or, set}
use Rattle.graph.specs.Search.{followed, Reached}
use Rattle.graph.proofs.Walks.{distance-place}
use Rattle.usable.specs.Rows.{held_in, row_at, matched_of}
use Rattle.usable.proofs.RowLaws.{line_read, line-short, line-past}
use Rattle.search.specs.Queue.{At}
use Rattle.search.specs.Tables.{tables_graph}
use Rattle.search.proofs.Stepping.{leads-nowhere, no-verdict, fitting, unfitting}
use Rattle.search.proofs.Turns.{skip-rest, row_room, head-place, head-far, passed, taken, head-kept, next-kept, room-left}
use Rattle.search.proofs.row.Invariants.{Turn}
use Rattle.search.proofs.row.Goals as goal
use Rattle.search.proofs.row.Goals.{
  Start,
  else-line-v-eq1-via-then-line-v-eq1+then-parent-v+else-matched,
  else-line-v-eq1-via-then-line-v-eq1+else-parent-v,
  else-line-v-eq1-via-else-line-v-eq1,
  then-line-v-eq1+then-parent-v+then-matched,
  else-line-v-eq1,
}

module _ {octets table : List ℕ} {places : ℕ} {rows : List (List ℕ)} {roles : List ℕ} {head : ℕ} {queue parent distance : List ℕ} {u far : ℕ} {line : List ℕ} {end v : ℕ} (t : Turn octets table places rows roles head queue parent distance u far line end v) where
  short : length line ≤ places
  short = line-short table places u t.is

  -- the columns beyond the line have no verdict
  rest : v ≡ length line → At places (followed places (tables_graph (held_in octets) places table rows roles)) queue parent distance (end + 1) head places
  rest h =
      skip-rest t.small t.stands (omega (arith, short))
      (λ w k l.
      rw t.this
      (no-verdict (held_in octets) places table rows roles u w t.place t.leads (line-past table places u w t.is l (omega arith))))

  module _ (h : v < length line) where
    below : v < places
    below = omega (arith, short)

    octet : get_or line v 0 ≡ get_or table (u * places + v) 0
    octet = line_read table places u v t.is below

    -- a turn in which nothing is new
    nothing-new :
        Reached parent v ⊎ (followed places (tables_graph (held_in octets) places table rows roles) u v ≡ false)
        → Turn octets table places rows roles head queue parent distance u far line end (v + 1)
    nothing-new w =
        record {
          small = t.small;
          stands = passed t.small t.stands t.this refl below w;
          this = t.this;
          place = t.place;
          next = t.next;
          leads = t.leads;
          is = t.is;
        }

    unasked : (get_or line v 0 ≡ 1 → ⊥) → followed places (tables_graph (held_in octets) places table rows roles) u v ≡ false
    unasked d = no-verdict (held_in octets) places table rows roles u v t.place t.leads (λ z. d (octet ∙ z))

    module _ {value : Bool} (one : get_or line v 0 ≡ 1) (says : u < 96 → v < 96 → value ≡ matched_of (held_in octets) (row_at rows u) (row_at rows v) (get_or roles v 0)) where
      said : value ≡ matched_of (held_in octets) (row_at rows u) (row_at rows v) (get_or roles v 0)
      said = says (omega (arith, t.small, t.place)) (omega (arith, t.small, below))

      unfit : value ≡ false → followed places (tables_graph (held_in octets) places table rows roles) u v ≡ false
      unfit d = unfitting (held_in octets) places table rows roles u v t.place t.leads (sym octet ∙ one) said d

      -- a turn in which a place is new
      module _ (new : get_or parent v 0 ≡ 255) (fits : value ≡ true) where
        good : followed places (tables_graph (held_in octets) places table rows roles) u v ≡ true
        good = fitting (held_in octets) places table rows roles u v t.place t.leads (sym octet ∙ one) said fits

        one-new : Turn octets table places rows roles head (set queue (end + 1) v) (set parent v u) (set distance v far) u far line (end + 1) (v + 1)
        one-new =
            record {
              small = t.small;
              stands = taken t.small t.stands t.this refl below t.next new good;
              this = head-kept t.small t.stands t.this refl below t.next new good;
              place = t.place;
              next = next-kept t.small t.stands t.this refl below t.next new good;
              leads = t.leads;
              is = t.is;
            }

        room : end + 1 < 97
        room = room-left t.small t.stands t.this refl below t.next new good

-- the head is a place
within : (c : Start) → get_or c.args.queue.now c.args.head 0 < c.args.places
within c = let p = c.requires in head-place p.places_bound.0 p.at p.places_bound.1

pub bounds-queue-head : goal.bounds-queue-head
bounds-queue-head c = let p = c.requires in (row_room p.places_bound.0 p.at).0

pub bounds-roles-u : goal.bounds-roles-u
bounds-roles-u c = omega (arith, within (goal.at.bounds-roles-u c).Start, c.requires.places_bound.0)

pub returns-then-not-leads : goal.returns-then-not-leads
returns-then-not-leads c =
    let a = c.args in
    skip-rest c.requires.places_bound.0 c.requires.at (omega arith)
    (λ v k h.
    leads-nowhere (held_in a.octets.now) a.places a.table.now a.rows.now a.roles.now (get_or a.queue.now a.head 0) v
    (within (goal.at.returns-then-not-leads c).Start) (sym c.leads.ensures ∙ c.if-not-leads.true))

pub bounds-distance-u : goal.bounds-distance-u
bounds-distance-u c = omega (arith, within (goal.at.bounds-distance-u c).Start, c.requires.places_bound.0)

pub overflow_add-far : goal.overflow_add-far
overflow_add-far c =
    let h = within (goal.at.overflow_add-far c).Start in
    omega (arith, head-far c.requires.places_bound.0 c.requires.at refl, distance-place c.args.places c.args.distance.now _ h)

pub overflow_mul-u : goal.overflow_mul-u
overflow_mul-u c =
    let few = c.requires.places_bound.0 in
    let h : get_or c.args.queue.now c.args.head 0 ≤ 96 = omega (arith, within (goal.at.overflow_mul-u c).Start) in
    let most : get_or c.args.queue.now c.args.head 0 * c.args.places ≤ 96 * 96 = mul-le-mul h few in
    omega (arith, most)

pub loop-v-init : goal.loop-v-init
loop-v-init c =
    let h = within (goal.at.loop-v-init c).Start in
    record {
      small = c.requires.places_bound.0;
      stands = c.requires.at;
      this = refl;
      place = h;
      next = sym (ap (λ (x : ℕ). x + 1) (distance-place c.args.places c.args.distance.now _ h));
      leads = sym c.leads.ensures ∙ c.if-not-leads.false;
      is = c.part-line.ensures;
    }

pub bounds-parent-v : goal.bounds-parent-v
bounds-parent-v c = let t = c.loop-v.invariant in omega (arith, t.small, short t, c.loop-v-test.true)

pub bounds-roles-v : goal.bounds-roles-v
bounds-roles-v c = let t = c.loop-v.invariant in omega (arith, t.small, short t, c.loop-v-test.true)

pub overflow_cast-parent : goal.overflow_cast-parent
overflow_cast-parent c = let t = c.loop-v.invariant in omega (arith, t.small, t.place)

pub bounds-parent-v-then-matched : goal.bounds-parent-v-then-matched
bounds-parent-v-then-matched c = let t = c.loop-v.invariant in omega (arith, t.small, short t, c.loop-v-test.true)

pub bounds-distance-v : goal.bounds-distance-v
bounds-distance-v c = let t = c.loop-v.invariant in omega (arith, t.small, short t, c.loop-v-test.true)

pub overflow_add-end : goal.overflow_add-end
overflow_add-end c = let t = c.loop-v.invariant in omega (arith, row_room t.small t.stands)

pub overflow_cast-queue : goal.overflow_cast-queue
overflow_cast-queue c = let t = c.loop-v.invariant in omega (arith, t.small, short t, c.loop-v-test.true)

pub bounds-queue-end : goal.bounds-queue-end
bounds-queue-end c =
    room c.loop-v.invariant c.loop-v-test.true c.if-line-v-eq1.true c.matched.ensures.0 c.if-parent-v.true c.if-matched.true

pub loop-v-preserved : goal.loop-v-preserved
loop-v-preserved c =
    let t = c.loop-v.invariant in
    let h = c.loop-v-test.true in
    elim c.if-line-v-eq1.branch [
      | then-line-v-eq1+then-parent-v+then-matched w ↦
          rw (w.queue-is, w.parent-is, w.distance-is, w.end-is)
          (one-new t h w.if-line-v-eq1.true w.matched.ensures.0 w.if-parent-v.true w.if-matched.true)
      | else-line-v-eq1 w ↦
          rw (w.queue-is, w.parent-is, w.distance-is, w.end-is)
          (nothing-new t h
          (elim w.else-line-v-eq1.branch [
            | else-line-v-eq1-via-then-line-v-eq1+then-parent-v+else-matched x ↦
                inr (unfit t h x.if-line-v-eq1.true x.matched.ensures.0 x.if-matched.false)
            | else-line-v-eq1-via-then-line-v-eq1+else-parent-v x ↦ inl x.if-parent-v.false
            | else-line-v-eq1-via-else-line-v-eq1 x ↦ inr (unasked t h x.if-line-v-eq1.false)
          ]))
    ]

pub returns : goal.returns
returns c = let l = c.loop-v in rest l.invariant (omega (arith, l.auto.v-end, c.loop-v-test.false))
