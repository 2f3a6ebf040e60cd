-- One turn of the search keeps what it knows: a step that is tried next gives a path behind all that are in the queue, so a
-- place that is new goes to the end of the queue, and one that is there already was found by a path before it.
use Prim.Native.Nat.{ℕ, ◌+◌, ◌*◌, ◌<◌, ◌≤◌}
use mathlib.Core.Path.{◌≡◌, refl, sym, subst, ◌∙◌}
use mathlib.Core.Bool.{Bool, true, false, cond}
use mathlib.Core.List.{List, [], ◌∷◌, ◌++◌}
use mathlib.Core.Logic.{◌⊎◌, ⊎_elim}
use native.Mathlib.Omega.{arith}
use borrow.Author.Count.{below_more}
use borrow.Author.Tests.{eq-eqb, ne_eqb}
use lib.Dec.{eqb}
use lib.ListN.{length, get_or, set, replicate, length-set, length-append, length-replicate, get_or-replicate}
use lib.Seq.{get_or-set_same, get_or-set_other}
use Rattle.graph.specs.Search.{rank, rank_from, Reached, Seen, outside, place, distance_of}
use Rattle.graph.proofs.Cases.{same?, less?, clash}
use Rattle.graph.proofs.Slots.{filled-le, filled-set, filled_none}
use Rattle.graph.proofs.Ranks.{rank-snoc}
use Rattle.graph.proofs.Walks.{seen-le, seen_by}
use Rattle.search.specs.Queue.{Grown, QueueTables, At}

-- one path changed
upd : (ℕ → List ℕ) → ℕ → List ℕ → ℕ → List ℕ
upd path v p w = cond (eqb w v) p (path w)

upd_same : (path : ℕ → List ℕ) (v : ℕ) (p : List ℕ) → upd path v p v ≡ p
unfolding upd
upd_same path v p = rw (eq-eqb v v refl)

upd_other : (path : ℕ → List ℕ) (v : ℕ) (p : List ℕ) {w : ℕ} → (w ≡ v → ⊥) → upd path v p w ≡ path w
unfolding upd
upd_other path v p {w} d = rw (ne_eqb w v d)

-- the tables unchanged, at another row or column
moved : {n : ℕ} {step : ℕ → ℕ → Bool} {queue parent distance : List ℕ} {tail head column : ℕ} (a : At n step queue parent distance tail head column) (row next : ℕ) → row < tail → ((j : ℕ) → j < tail → rank (a.path (get_or queue j 0)) < rank (a.path (get_or queue row 0)) * 97 + next + 1) → ((j v : ℕ) → j < tail → v < n → j * 97 + v < row * 97 + next → step (get_or queue j 0) v ≡ true → Reached parent v × (rank (a.path v) ≤ rank (a.path (get_or queue j 0)) * 97 + v + 1)) → At n step queue parent distance tail row next
moved a row next within front closed =
    record {
      path = a.path;
      start = a.start;
      root = a.root;
      slots = a.slots;
      distances = a.distances;
      room = a.room;
      count = a.count;
      within = within;
      seen = a.seen;
      short = a.short;
      queued = a.queued;
      grows = a.grows;
      sorted = a.sorted;
      front = front;
      closed = closed;
    }

module _ {n : ℕ} {step : ℕ → ℕ → Bool} {queue parent distance : List ℕ} {tail head : ℕ} (small : n ≤ 96) where
  -- a place that was reached has a path before the one that is tried
  before : {column : ℕ} (a : At n step queue parent distance tail head column) → column < n → Reached parent column → rank (a.path column) < rank (a.path (get_or queue head 0)) * 97 + column + 1
  before {column} a h r =
      let q = a.queued column h r in
      subst (λ v. rank (a.path v) < rank (a.path (get_or queue head 0)) * 97 + column + 1) q.2 (a.front q.0 q.1)

  -- a column that gives nothing new
  skip : {column : ℕ} (a : At n step queue parent distance tail head column) → column < n → Reached parent column ⊎ (step (get_or queue head 0) column ≡ false) → At n step queue parent distance tail head (column + 1)
  skip {column} a h w =
      moved a head (column + 1) a.within (λ j k. omega (arith, a.front j k))
      (λ j v k l m s.
      ⊎_elim (λ o. a.closed j v k l o s)
      (λ o.
      let ej : j ≡ head = omega arith in
      let ev : v ≡ column = omega arith in
      rw (ej, ev) (⊎_elim (λ r. (r, omega (arith, before a h r))) (λ f. absurd (clash (rw (ej, ev) at s) f)) w))
      (less? (j * 97 + v) (head * 97 + column)))

  -- the rest of a row that gives nothing
  pub skip-rest : {column : ℕ} (a : At n step queue parent distance tail head column) → column ≤ n → ((v : ℕ) → column ≤ v → v < n → step (get_or queue head 0) v ≡ false) → At n step queue parent distance tail head n
  skip-rest {column} a inside w =
      moved a head n a.within (λ j k. omega (arith, a.front j k))
      (λ j v k l m s.
      ⊎_elim (λ o. a.closed j v k l o s)
      (λ o. let ej : j ≡ head = omega arith in absurd (clash (rw ej at s) (w v (omega arith) l)))
      (less? (j * 97 + v) (head * 97 + column)))

  -- the next row
  pub next : (a : At n step queue parent distance tail head n) → head + 1 < tail → At n step queue parent distance tail (head + 1) 0
  next a h =
      moved a (head + 1) 0 h (λ j k. omega (arith, a.front j k, a.sorted head (head + 1) (omega arith) h))
      (λ j v k l m s. a.closed j v k l (omega arith) s)

  -- no row is left
  pub finish : (a : At n step queue parent distance tail head n) → head + 1 ≡ tail → QueueTables n step parent distance
  finish a h =
      record {
        path = a.path;
        start = a.start;
        grows = a.grows;
        short = λ v l r.
            let q = a.queued v l r in
            let t : length (a.path (get_or queue q.0 0)) ≤ 96 = omega (arith, a.short q.0 q.1, q.1, a.count, filled-le parent, a.slots) in
            rw q.2 at t;
        closed = λ u v w l s. go u v l s w;
      }
    where
      at : (u v j : ℕ) → v < n → step u v ≡ true → j < tail → get_or queue j 0 ≡ u → Reached parent v × (rank (a.path v) ≤ rank (a.path u) * 97 + v + 1)
      at u v j l s k e = rw e at (a.closed j v k l (omega arith) (rw e s))

      go : (u v : ℕ) → v < n → step u v ≡ true → Seen n parent u → Reached parent v × (rank (a.path v) ≤ rank (a.path u) * 97 + v + 1)
      go u v l s (outside e) = at u v 0 l s (omega (arith, a.within)) (a.root ∙ sym e)
      go u v l s (place o r) = let q = a.queued u o r in at u v q.0 l s q.1 q.2

  -- the queue has room for what it holds
  pub row_room : {column : ℕ} → At n step queue parent distance tail head column → (head < 97) × (tail ≤ 97) × (get_or queue head 0 ≤ n)
  row_room a =
      (omega (arith, a.within, a.count, a.slots, filled-le parent), omega (arith, a.count, a.slots, filled-le parent), seen-le (a.seen head a.within))

  -- outside is the first in the queue alone
  pub head-place : {column : ℕ} (a : At n step queue parent distance tail head column) → 0 < head → get_or queue head 0 < n
  head-place a h =
      seen_by (a.seen head a.within) (λ e. absurd (omega (arith, rw (a.root, e) at (a.sorted 0 head h a.within)))) (λ l r. l)

  -- the distance of a place that was seen is the length of its path
  far-seen : {column w : ℕ} (a : At n step queue parent distance tail head column) → Seen n parent w → distance_of n distance w ≡ length (a.path w)
  unfolding distance_of
  far-seen {w = w} a (outside e) = rw (eq-eqb w n e, e, a.start)
  far-seen {w = w} a (place l r) = rw (ne_eqb w n (omega arith)) (a.grows w l r).far

  pub head-far : {column u : ℕ} → At n step queue parent distance tail head column → get_or queue head 0 ≡ u → distance_of n distance u < 97
  head-far a e = rw (← e) (omega (arith, far-seen a (a.seen head a.within), a.short head a.within, (row_room a).0))

  -- a place that is new
  module _ {column far : ℕ} (a : At n step queue parent distance tail head column) (next : far ≡ distance_of n distance (get_or queue head 0) + 1) (h : column < n) (new : get_or parent column 0 ≡ 255) (good : step (get_or queue head 0) column ≡ true) where
    u : ℕ
    u = get_or queue head 0

    path' : ℕ → List ℕ
    path' = upd a.path column (a.path u ++ (column ∷ []))

    parent' : List ℕ
    parent' = set parent column u

    distance' : List ℕ
    distance' = set distance column far

    queue' : List ℕ
    queue' = set queue tail column

    u-small : u ≤ 96
    unfolding u
    u-small = omega (arith, seen-le (a.seen head a.within))

    tail-small : tail < 97
    unfolding u
    tail-small = omega (arith, a.count, a.slots, length-set parent column u, filled-le (set parent column u), filled-set parent column u (omega (arith, a.slots)) new (omega (arith, u-small)))

    other : {w : ℕ} → Seen n parent w → w ≡ column → ⊥
    other (outside e) f = omega arith
    other (place l r) f = r (rw f new)

    parent-new : get_or parent' column 0 ≡ u
    unfolding parent'
    parent-new = get_or-set_same parent column u 0 (omega (arith, a.slots))

    parent-kept : {w : ℕ} → (w ≡ column → ⊥) → get_or parent' w 0 ≡ get_or parent w 0
    unfolding parent'
    parent-kept {w} d = get_or-set_other parent column w u 0 d

    distance-new : get_or distance' column 0 ≡ far
    unfolding distance'
    distance-new = get_or-set_same distance column far 0 (omega (arith, a.distances))

    distance-kept : {w : ℕ} → (w ≡ column → ⊥) → get_or distance' w 0 ≡ get_or distance w 0
    unfolding distance'
    distance-kept {w} d = get_or-set_other distance column w far 0 d

    far-new : far ≡ length (a.path u ++ (column ∷ []))
    unfolding u
    far-new = next ∙ rw (far-seen a (a.seen head a.within), length-append)

    far-kept : distance_of n distance' u ≡ distance_of n distance u
    unfolding distance_of u
    far-kept = rw (distance-kept (other (a.seen head a.within)))

    queue-new : get_or queue' tail 0 ≡ column
    unfolding queue'
    queue-new = get_or-set_same queue tail column 0 (omega (arith, a.room, tail-small))

    queue-kept : (j : ℕ) → j < tail → get_or queue' j 0 ≡ get_or queue j 0
    unfolding queue'
    queue-kept j k = get_or-set_other queue tail j column 0 (omega arith)

    path-kept : {w : ℕ} → Seen n parent w → path' w ≡ a.path w
    unfolding path'
    path-kept s = upd_other a.path column _ (other s)

    path-new : path' column ≡ a.path u ++ (column ∷ [])
    unfolding path'
    path-new = upd_same a.path column _

    node_kept : (j : ℕ) → j < tail → path' (get_or queue' j 0) ≡ a.path (get_or queue j 0)
    node_kept j k = rw (queue-kept j k) (path-kept (a.seen j k))

    node-new : path' (get_or queue' tail 0) ≡ a.path u ++ (column ∷ [])
    node-new = rw queue-new path-new

    rank-new : rank (path' (get_or queue' tail 0)) ≡ rank (a.path u) * 97 + column + 1
    rank-new = rw node-new (rank-snoc (a.path u) column)

    reached-kept : {w : ℕ} → (w ≡ column → ⊥) → Reached parent' w → Reached parent w
    reached-kept d r e = r (parent-kept d ∙ e)

    reached-new : Reached parent' column
    reached-new e = omega (arith, u-small, sym parent-new ∙ e)

    reached-more : (w : ℕ) → Reached parent w → Reached parent' w
    reached-more w r = ⊎_elim (λ e. rw e reached-new) (λ d f. r (sym (parent-kept d) ∙ f)) (same? w column)

    seen_more : {w : ℕ} → Seen n parent w → Seen n parent' w
    seen_more (outside e) = outside e
    seen_more {w} (place l r) = place l (reached-more w r)

    grown-new : Grown n step parent' distance' path' column
    unfolding u
    grown-new =
        record {
          from = rw parent-new (seen_more (a.seen head a.within));
          good = rw parent-new good;
          longer = rw parent-new (path-new ∙ rw (path-kept (a.seen head a.within)));
          far = rw (distance-new, path-new) far-new;
        }

    grown-kept : {v : ℕ} → (v ≡ column → ⊥) → v < n → Reached parent v → Grown n step parent' distance' path' v
    grown-kept {v} d l r =
        let g = a.grows v l r in
        record {
          from = rw (parent-kept d) (seen_more g.from);
          good = rw (parent-kept d) g.good;
          longer = rw (parent-kept d) (path-kept (place l r) ∙ g.longer ∙ rw (path-kept g.from));
          far = rw (distance-kept d, path-kept (place l r)) g.far;
        }

    take : At n step (set queue tail column) (set parent column (get_or queue head 0)) (set distance column far) (tail + 1) head (column + 1)
    unfolding u parent' distance' queue'
    take =
        record {
          path = path';
          start = path-kept (outside refl) ∙ a.start;
          root = queue-kept 0 (omega (arith, a.within)) ∙ a.root;
          slots = length-set parent column u ∙ a.slots;
          distances = length-set distance column far ∙ a.distances;
          room = length-set queue tail column ∙ a.room;
          count = omega (arith, a.count, filled-set parent column u (omega (arith, a.slots)) new (omega (arith, u-small)));
          within = omega (arith, a.within);
          seen = below_more (λ j. Seen n parent' (get_or queue' j 0)) tail (λ j k. rw (queue-kept j k) (seen_more (a.seen j k))) (rw queue-new (place h reached-new));
          short = below_more (λ j. length (path' (get_or queue' j 0)) ≤ j) tail (λ j k. rw (node_kept j k) (a.short j k))
              (rw (node-new, length-append) (omega (arith, a.short head a.within, a.within)));
          queued = λ v l r.
              ⊎_elim (λ e. (tail, omega arith, queue-new ∙ sym e))
              (λ d. let q = a.queued v l (reached-kept d r) in (q.0, omega (arith, q.1), queue-kept q.0 q.1 ∙ q.2))
              (same? v column);
          grows = λ v l r. ⊎_elim (λ e. rw e grown-new) (λ d. grown-kept d l (reached-kept d r)) (same? v column);
          sorted = λ i j o k.
              ⊎_elim (λ m. rw (node_kept i (omega arith), node_kept j m) (a.sorted i j o m))
              (λ m. let e : j ≡ tail = omega arith in rw (e, rank-new, node_kept i (omega arith)) (a.front i (omega arith)))
              (less? j tail);
          front = λ j k. rw (node_kept head a.within)
              (⊎_elim (λ m. rw (node_kept j m) (omega (arith, a.front j m)))
              (λ m. let e : j ≡ tail = omega arith in rw (e, rank-new) (omega arith))
              (less? j tail));
          closed = λ j v k l m s.
              let i : j < tail = omega (arith, a.within) in
              let kept = rw (queue-kept j i) at s in
              rw (node_kept j i)
              (⊎_elim
              (λ o. let c = a.closed j v i l o kept in (reached-more v c.0, rw (path-kept (place l c.0)) c.1))
              (λ o.
              let ej : j ≡ head = omega arith in
              let ev : v ≡ column = omega arith in
              rw (ev, ej) (reached-new, rw (path-new, rank-snoc (a.path (get_or queue head 0)) column) (omega arith)))
              (less? (j * 97 + v) (head * 97 + column)));
        }

  -- the column's place and the row's by other names, as code has them
  module _ {u v column : ℕ} (a : At n step queue parent distance tail head column) (eu : get_or queue head 0 ≡ u) (ev : v ≡ column) (h : column < n) where
    pub passed : Reached parent v ⊎ (step u v ≡ false) → At n step queue parent distance tail head (column + 1)
    passed w = skip a h (rw (eu, ← ev) w)

    module _ {far : ℕ} (next : far ≡ distance_of n distance u + 1) (new : get_or parent v 0 ≡ 255) (good : step u v ≡ true) where
      pub taken : At n step (set queue tail v) (set parent v u) (set distance v far) (tail + 1) head (column + 1)
      taken = rw (← eu, ev) (take a (rw eu next) h (rw (← ev) new) (rw (eu, ← ev) good))

      pub head-kept : get_or (set queue tail v) head 0 ≡ u
      unfolding queue'
      head-kept = rw ev (queue-kept {far = far} a (rw eu next) h (rw (← ev) new) (rw (eu, ← ev) good) head a.within ∙ eu)

      pub next-kept : far ≡ distance_of n (set distance v far) u + 1
      unfolding u distance'
      next-kept = rw (← eu, ev) (rw (far-kept {far = far} a (rw eu next) h (rw (← ev) new) (rw (eu, ← ev) good)) (rw eu next))

      pub room-left : tail < 97
      room-left = tail-small {far = far} a (rw eu next) h (rw (← ev) new) (rw (eu, ← ev) good)

-- with outside alone in the queue no place is reached
pub none_found : {n : ℕ} {step : ℕ → ℕ → Bool} {queue parent distance : List ℕ} {head column : ℕ} → At n step queue parent distance 1 head column → (w : ℕ) → w < n → get_or parent w 0 ≡ 255
none_found {n} {parent = parent} a w h =
    ⊎_elim (λ e. e)
    (λ r.
    let q = a.queued w h r in
    let first : q.0 ≡ 0 = omega (arith, q.1) in
    let here : n ≡ w = sym a.root ∙ (rw first at q.2) in
    absurd (omega arith))
    (same? (get_or parent w 0) 255)

-- the start: outside alone is in the queue
pub begin : (n : ℕ) (step : ℕ → ℕ → Bool) → n ≤ 96 → At n step (set (replicate 97 0) 0 n) (replicate 96 255) (replicate 96 0) 1 0 0
unfolding rank_from
begin n step small =
    record {
      path = λ v. [];
      start = refl;
      root = refl;
      slots = length-replicate {A = ℕ} 96 255;
      distances = length-replicate {A = ℕ} 96 0;
      room = length-replicate {A = ℕ} 97 0;
      count = rw (filled_none 96);
      within = omega arith;
      seen = λ j k. let e : j ≡ 0 = omega arith in rw e (outside refl);
      short = λ j k. omega arith;
      queued = λ v l r. absurd (r (get_or-replicate 96 v 255 0 (omega arith)));
      grows = λ v l r. absurd (r (get_or-replicate 96 v 255 0 (omega arith)));
      sorted = λ i j o k. absurd (omega arith);
      front = λ j k. omega arith;
      closed = λ j v k l m s. absurd (omega arith);
    }
