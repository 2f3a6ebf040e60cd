-- The distances make a path to each place that is marked: back from a place, of those one nearer that lead to it, always the one
-- whose path is the least number. Then no walk is a smaller number: one that is no longer than the distance goes by such places, and
-- a longer one is larger.
use Prim.Native.Nat.{ℕ, zero, suc, ◌<◌, ◌≤◌}
use mathlib.Core.Path.{◌≡◌, refl, sym, ◌∙◌}
use mathlib.Core.Bool.{Bool, true, false, cond}
use mathlib.Core.List.{List, [], ◌∷◌, ◌++◌}
use mathlib.Core.Logic.{◌⊎◌, inl, inr, ⊎_elim}
use native.Mathlib.Omega.{arith}
use borrow.Author.Tests.{eq-eqb, eqb-true}
use lib.Dec.{eqb}
use lib.ListN.{length, get_or, length-append}
use Rattle.graph.specs.Search.{rank, rank_from, Reached, Seen, outside, place, distance_of, Walk, begun, gone, Searched}
use Rattle.graph.specs.Rounds.{RoundTable}
use Rattle.graph.proofs.Cases.{less?, clash}
use Rattle.graph.proofs.Least.{least_of, least-of, least-in}
use Rattle.graph.proofs.Ranks.{rank-snoc, rank-shorter}
use Rattle.graph.proofs.Walks.{distance-outside, distance-place, seen_by, longer-by-one, walk-small}

module _ (n : ℕ) (step : ℕ → ℕ → Bool) (distance : List ℕ) where
  -- a place so far that leads to another
  leads : ℕ → ℕ → ℕ → Bool
  leads k v u = cond (eqb (distance_of n distance u) k) (step u v) false

  leads-so : {k v u : ℕ} → distance_of n distance u ≡ k → step u v ≡ true → leads k v u ≡ true
  unfolding leads
  leads-so e s = rw (eq-eqb _ _ e) s

  leads-then : {k v u : ℕ} → leads k v u ≡ true → (distance_of n distance u ≡ k) × (step u v ≡ true)
  unfolding leads
  leads-then {k} {v} {u} t = go (eqb (distance_of n distance u) k) refl t
    where
      go : (b : Bool) → eqb (distance_of n distance u) k ≡ b → cond b (step u v) false ≡ true → (distance_of n distance u ≡ k) × (step u v ≡ true)
      go true e s = (eqb-true _ _ e, s)
      go false e s = absurd (clash s refl)

  -- the path to a place that is so far
  path_by : ℕ → ℕ → List ℕ
  path_by zero v = []
  path_by (suc k) v = path_by k (least_of (leads k v) (λ u. rank (path_by k u)) n n) ++ (v ∷ [])

  path-long : (k v : ℕ) → length (path_by k v) ≡ k
  unfolding path_by
  path-long zero v = refl
  path-long (suc k) v = let m = path-long k (least_of (leads k v) (λ u. rank (path_by k u)) n n) in simp length-append (omega arith)

  path : ℕ → List ℕ
  path v = path_by (distance_of n distance v) v

  -- the place before the last on a path
  back : ℕ → ℕ → ℕ
  back k v = least_of (leads k v) (λ u. rank (path_by k u)) n n

  path-grows : (k v : ℕ) → path_by (suc k) v ≡ path_by k (back k v) ++ (v ∷ [])
  unfolding path_by back
  path-grows k v = refl

  seen-in : {u : ℕ} → Seen n distance u → (u ≡ n) ⊎ (u < n)
  seen-in s = seen_by s (λ e. inl e) (λ l r. inr l)

  back-least :
      (k v u : ℕ) → Seen n distance u → distance_of n distance u ≡ k → step u v ≡ true
      → (leads k v (back k v) ≡ true) × (rank (path_by k (back k v)) ≤ rank (path_by k u))
  unfolding back
  back-least k v u s e good = least-of (leads k v) (λ w. rank (path_by k w)) n n u (seen-in s) (leads-so e good)

  back_in : (k v : ℕ) → (back k v ≡ n) ⊎ (back k v < n)
  unfolding back
  back_in k v = least-in (leads k v) (λ w. rank (path_by k w)) n n

module _ {n : ℕ} {step : ℕ → ℕ → Bool} {distance : List ℕ} (small : n ≤ 96) (s : RoundTable n step distance) where
  -- a walk has no fewer places than its end is far
  pub walk-far : {v : ℕ} {p : List ℕ} → Walk n step v p → Seen n distance v × (distance_of n distance v ≤ length p)
  walk-far {v} (begun e z) = (outside e, omega (arith, distance-outside n distance v e))
  walk-far {v} (gone {u = u} {p = p} w l good q) =
      let x = walk-far w in
      let y = s.closed u v x.0 l good in
      (place l y.0, omega (arith, x.1, y.1, longer-by-one p v q, distance-place n distance v l))

  -- one place back on a path
  one-back :
      (k v : ℕ) → v < n → Reached distance v → get_or distance v 0 ≡ suc k
      → Seen n distance (back n step distance k v) × (distance_of n distance (back n step distance k v) ≡ k) × (step (back n step distance k v) v ≡ true)
  one-back k v l r e =
      let b = back n step distance k v in
      let x = s.from v l r in
      let y = back-least n step distance k v x.back x.seen (omega (arith, x.one)) x.good in
      let z = leads-then n step distance y.0 in
      let few = s.short v l r in
      let is = z.0 in
      let seen : Seen n distance b =
      ⊎_elim (λ o. outside o) (λ m. place m (λ f. omega (arith, distance-place n distance b m))) (back_in n step distance k v) in
      (seen, is, z.1)

  path-walk : (k : ℕ) {v : ℕ} → Seen n distance v → distance_of n distance v ≡ k → Walk n step v (path_by n step distance k v)
  unfolding path_by
  path-walk zero {v} seen e =
      seen_by seen (λ o. begun o refl) (λ l r. absurd (omega (arith, distance-place n distance v l, (s.from v l r).one)))
  path-walk (suc k) {v} seen e =
      seen_by seen (λ o. absurd (omega (arith, distance-outside n distance v o)))
      (λ l r.
      let b = one-back k v l r (omega (arith, distance-place n distance v l)) in
      gone (path-walk k b.0 b.1) l b.2 (path-grows n step distance k v))

  walk_first : {v : ℕ} {p : List ℕ} → Walk n step v p → Seen n distance v × (rank (path n step distance v) ≤ rank p)
  unfolding path path_by rank_from
  walk_first {v} (begun e z) = (outside e, rw (distance-outside n distance v e) (omega arith))
  walk_first {v} (gone {u = u} {p = p} w l good q) =
      let x = walk_first w in
      let y = s.closed u v x.0 l good in
      let d = distance-place n distance v l in
      let k = distance_of n distance u in
      let seen : Seen n distance v = place l y.0 in (
        seen,
        ⊎_elim
            (λ (o : k < distance_of n distance v).
            let e : distance_of n distance v ≡ suc k = omega (arith, y.1) in
            let b = back-least n step distance k v u x.0 refl good in
            let before : List ℕ = path_by n step distance k (back n step distance k v) in
            rw (e, path-grows n step distance k v, rank-snoc before v, q, rank-snoc p v) (omega (arith, b.1, x.1)))
            (λ (o : distance_of n distance v ≤ k).
            let t = path-walk (distance_of n distance v) seen refl in
            let long : length (path_by n step distance (distance_of n distance v) v) < length (path_by n step distance k u ++ (v ∷ [])) =
            simp (length-append, path-long n step distance) (omega arith) in
            let r = rank-shorter (path_by n step distance k u ++ (v ∷ [])) (walk-small small t) long in
            rw (q, rank-snoc p v) (omega (arith, x.1, rank-snoc (path_by n step distance k u) v)))
            (less? k (distance_of n distance v)),
      )

  pub round-searched : Searched n step distance
  unfolding path
  round-searched =
      record {
        path = path n step distance;
        walks = λ v l r. path-walk (distance_of n distance v) (place l r) refl;
        first = λ v p l w. let x = walk_first w in seen_by x.0 (λ o. absurd (omega arith)) (λ m r. (r, x.1));
        short = λ v l r. omega (arith, path-long n step distance (distance_of n distance v) v, distance-place n distance v l, s.short v l r);
      }

  -- the distance of a place is the length of its path
  pub round-long : {v : ℕ} → v < n → get_or distance v 0 ≡ length (round-searched.path v)
  unfolding path round-searched
  round-long {v} l = sym (path-long n step distance (distance_of n distance v) v ∙ distance-place n distance v l)
