-- One turn of the search by rounds keeps what it knows: a step that is tried leads to a place that is marked already, and then no
-- further than this round marks, or to one that is marked now; and a round that marks nothing has left no step.
use Prim.Native.Nat.{ℕ, ◌+◌, ◌*◌, ◌<◌, ◌≤◌}
use mathlib.Core.Path.{◌≡◌, sym, ◌∙◌}
use mathlib.Core.Bool.{Bool, true, false}
use mathlib.Core.List.{List}
use mathlib.Core.Logic.{◌⊎◌, inl, inr, ⊎_elim}
use native.Mathlib.Omega.{arith}
use lib.ListN.{get_or, set, replicate, length-set, length-replicate, get_or-replicate}
use lib.Seq.{get_or-set_same, get_or-set_other}
use Rattle.graph.specs.Search.{Reached, Seen, outside, place, distance_of}
use Rattle.graph.specs.Rounds.{Nearer, InRound, RoundTable}
use Rattle.graph.proofs.Cases.{same?, less?, clash}
use Rattle.graph.proofs.Slots.{filled-le, filled-set}
use Rattle.graph.proofs.Walks.{seen-le, distance-outside, distance-place, seen_by}

-- a step that was tried
abbrev Tried : ℕ → List ℕ → ℕ → ℕ → Type 0
Tried n distance u v = Reached distance v × (get_or distance v 0 ≤ distance_of n distance u + 1)

-- the place of a step in the order of the rounds
abbrev turn : ℕ → List ℕ → ℕ → ℕ → ℕ
turn n distance u v = distance_of n distance u * 9409 + u * 97 + v

-- at the start nothing is marked, and the row is that of outside
pub round-begin : (n : ℕ) (step : ℕ → ℕ → Bool) → n ≤ 96 → InRound n step (replicate 96 255) 0 n 0 0
round-begin n step small =
    record {
      slots = length-replicate {A = ℕ} 96 255;
      from = λ v l r. absurd (r (get_or-replicate 96 v 255 0 (omega arith)));
      near = λ v l r. absurd (r (get_or-replicate 96 v 255 0 (omega arith)));
      old = λ e v l r. absurd (r (get_or-replicate 96 v 255 0 (omega arith)));
      count = omega arith;
      closed = λ u v s l k e.
          seen_by s (λ o. absurd (omega (arith, distance-outside n (replicate 96 255) u o)))
          (λ m r. absurd (r (get_or-replicate 96 u 255 0 (omega arith))));
    }

-- a place that is so far is seen
pub seen-far : (n : ℕ) (distance : List ℕ) (u far : ℕ) → u ≤ n → distance_of n distance u ≡ far → far ≤ 96 → Seen n distance u
seen-far n distance u far l e k =
    ⊎_elim (λ m. place m (λ z. omega (arith, distance-place n distance u m)))
    (λ m. outside (omega arith))
    (less? u n)

module _ {n : ℕ} {step : ℕ → ℕ → Bool} {distance : List ℕ} {far : ℕ} (small : n ≤ 96) where
  -- each round before this one marked a place
  pub round_room : {row column new : ℕ} → InRound n step distance far row column new → far + new ≤ 96
  round_room a = omega (arith, a.count, filled-le distance, a.slots)

  -- the table unchanged, at a later row or column
  moved :
      {row column new : ℕ} (a : InRound n step distance far row column new) (down along : ℕ)
      → ((u v : ℕ) → Seen n distance u → v < n → far * 9409 + row * 97 + column ≤ turn n distance u v
      → turn n distance u v < far * 9409 + down * 97 + along → step u v ≡ true → Tried n distance u v)
      → InRound n step distance far down along new
  moved {row} {column} a down along tried =
      record {
        slots = a.slots;
        from = a.from;
        near = a.near;
        old = a.old;
        count = a.count;
        closed = λ u v s l k e.
            ⊎_elim (λ o. a.closed u v s l o e) (λ o. tried u v s l o k e) (less? (turn n distance u v) (far * 9409 + row * 97 + column));
      }

  module _ {row new : ℕ} (inside : row ≤ n) where
    -- a column that gives nothing new
    pub column-passed :
        {column : ℕ} → column < n → InRound n step distance far row column new → Reached distance column ⊎ (step row column ≡ false)
        → InRound n step distance far row (column + 1) new
    column-passed {column} h a w =
        moved a row (column + 1)
        (λ u v s l o k e.
        let b = seen-le s in
        let ef : distance_of n distance u ≡ far = omega arith in
        let eu : u ≡ row = omega arith in
        let ev : v ≡ column = omega arith in
        ⊎_elim (λ r. let q : Reached distance v = rw ev r in (q, omega (arith, a.near v l q))) (λ f. absurd (clash (rw (eu, ev) at e) f)) w)

    -- a whole row that gives nothing
    pub row-passed :
        InRound n step distance far row 0 new → (distance_of n distance row ≡ far → (v : ℕ) → v < n → step row v ≡ true → ⊥)
        → InRound n step distance far (row + 1) 0 new
    row-passed a w =
        moved a (row + 1) 0
        (λ u v s l o k e.
        let b = seen-le s in
        let ef : distance_of n distance u ≡ far = omega arith in
        let eu : u ≡ row = omega arith in
        absurd (w (rw eu at ef) v l (rw eu at e)))

    -- the next row
    pub row_done : InRound n step distance far row n new → InRound n step distance far (row + 1) 0 new
    row_done a = moved a (row + 1) 0 (λ u v s l o k e. absurd (omega (arith, seen-le s)))

  -- outside is in no round but the first
  pub rows-done : {new : ℕ} → 1 ≤ far → InRound n step distance far n 0 new → InRound n step distance far n n new
  rows-done late a =
      moved a n n
      (λ u v s l o k e.
      let b = seen-le s in
      let ef : distance_of n distance u ≡ far = omega arith in
      let eu : u ≡ n = omega arith in
      absurd (omega (arith, distance-outside n distance u eu)))

  -- the next round
  pub round-next : {new : ℕ} → InRound n step distance far n n new → (new ≡ 0 → ⊥) → InRound n step distance (far + 1) 0 0 0
  round-next a some =
      record {
        slots = a.slots;
        from = a.from;
        near = λ v l r. omega (arith, a.near v l r);
        old = λ e v l r. a.near v l r;
        count = omega (arith, a.count);
        closed = λ u v s l k e. a.closed u v s l (omega (arith, seen-le s)) e;
      }

  -- no round is left
  pub round-end : {new : ℕ} → InRound n step distance far n n new → new ≡ 0 → RoundTable n step distance
  round-end a none =
      record {
        from = a.from;
        short = λ v l r. omega (arith, a.old none v l r, round_room a);
        closed = λ u v s l e.
            let b = seen-le s in
            let k : distance_of n distance u ≤ far =
            seen_by s (λ o. omega (arith, distance-outside n distance u o)) (λ m r. omega (arith, distance-place n distance u m, a.old none u m r)) in
            a.closed u v s l (omega arith) e;
      }

  -- a place that is new
  module _ {row column new : ℕ} (a : InRound n step distance far row column new) (h : column < n) (inside : row ≤ n) (this : distance_of n distance row ≡ far) (empty : get_or distance column 0 ≡ 255) (good : step row column ≡ true) where
    more : List ℕ
    more = set distance column (far + 1)

    low : far ≤ 96
    low = omega (arith, round_room a)

    other : {w : ℕ} → Seen n distance w → w ≡ column → ⊥
    other s e = seen_by s (λ o. omega arith) (λ l r. r (rw e empty))

    here : get_or more column 0 ≡ far + 1
    unfolding more
    here = get_or-set_same distance column (far + 1) 0 (omega (arith, a.slots))

    kept : {w : ℕ} → (w ≡ column → ⊥) → get_or more w 0 ≡ get_or distance w 0
    unfolding more
    kept {w} d = get_or-set_other distance column w (far + 1) 0 d

    kept-far : {w : ℕ} → Seen n distance w → distance_of n more w ≡ distance_of n distance w
    unfolding distance_of
    kept-far s = rw (kept (other s))

    reached-here : Reached more column
    reached-here e = omega (arith, here, low)

    reached-more : (w : ℕ) → Reached distance w → Reached more w
    reached-more w r = ⊎_elim (λ e. rw e reached-here) (λ d f. r (sym (kept d) ∙ f)) (same? w column)

    reached-before : (w : ℕ) → (w ≡ column → ⊥) → Reached more w → Reached distance w
    reached-before w d r e = r (kept d ∙ e)

    seen_more : {w : ℕ} → Seen n distance w → Seen n more w
    seen_more {w} s = seen_by s (λ o. outside o) (λ l r. place l (reached-more w r))

    from_more : {v : ℕ} → v < n → Reached more v → Nearer n step more v
    from_more {v} l r =
        ⊎_elim
        (λ (e : v ≡ column).
        let s = seen-far n distance row far inside this low in
        record { back = row; seen = seen_more s; one = rw (e, here, kept-far s, this); good = rw e good })
        (λ d.
        let x = a.from v l (reached-before v d r) in
        record { back = x.back; seen = seen_more x.seen; one = kept d ∙ x.one ∙ rw (kept-far x.seen); good = x.good })
        (same? v column)

    -- a place that is seen now was seen before, or is the new one
    seen-before : {w : ℕ} → Seen n more w → (w ≡ column) ⊎ Seen n distance w
    seen-before {w} s =
        ⊎_elim (λ e. inl e)
        (λ d. inr (seen_by s (λ o. outside o) (λ l r. place l (reached-before w d r))))
        (same? w column)

    closed-more : (u v : ℕ) → Seen n more u → v < n → turn n more u v < far * 9409 + row * 97 + (column + 1) → step u v ≡ true → Tried n more u v
    closed-more u v s l k e =
        ⊎_elim
        (λ (c : u ≡ column). let f : get_or more u 0 ≡ far + 1 = rw c here in absurd (omega (arith, distance-place n more u (omega arith))))
        (λ (t : Seen n distance u).
        let b = seen-le t in
        let f = kept-far t in
        ⊎_elim
        (λ o. let x = a.closed u v t l o e in (reached-more v x.0, rw (kept (other (place l x.0)), f) x.1))
        (λ (o : far * 9409 + row * 97 + column ≤ turn n distance u v).
        let eu : u ≡ row = omega arith in
        let ev : v ≡ column = omega arith in
        let g : distance_of n more u ≡ far = f ∙ rw eu this in
        (rw ev reached-here, rw (ev, here, g) (omega arith)))
        (less? (turn n distance u v) (far * 9409 + row * 97 + column)))
        (seen-before s)

    pub column-marked : InRound n step (set distance column (far + 1)) far row (column + 1) (new + 1)
    unfolding more
    column-marked =
        record {
          slots = length-set distance column (far + 1) ∙ a.slots;
          from = λ v l r. from_more l r;
          near = λ v l r. ⊎_elim (λ (e : v ≡ column). rw (e, here) (omega arith)) (λ d. rw (kept d) (a.near v l (reached-before v d r))) (same? v column);
          old = λ e. absurd (omega arith);
          count = omega (arith, a.count, filled-set distance column (far + 1) (omega (arith, a.slots)) empty (omega (arith, low)));
          closed = closed-more;
        }

    pub row_kept : distance_of n (set distance column (far + 1)) row ≡ far
    unfolding more
    row_kept = kept-far (seen-far n distance row far inside this low) ∙ this
