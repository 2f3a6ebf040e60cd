-- The paths that the parents make are walks, place by place back; and along any walk each place has a path that is no larger a
-- number than the walk up to there.
use Prim.Native.Nat.{ℕ, zero, suc, ◌<◌, ◌≤◌}
use mathlib.Core.Bool.{Bool}
use mathlib.Core.List.{List}
use native.Mathlib.Omega.{arith}
use native.Mathlib.Nat.{le_refl}
use lib.ListN.{length, get_or}
use Rattle.graph.specs.Search.{rank, rank_from, Reached, Seen, outside, place, Walk, begun, gone, Searched}
use Rattle.graph.proofs.Ranks.{rank-snoc}
use Rattle.graph.proofs.Walks.{seen_by, longer-by-one}
use Rattle.search.specs.Queue.{QueueTables}

module _ {n : ℕ} {step : ℕ → ℕ → Bool} {parent distance : List ℕ} (s : QueueTables n step parent distance) where
  pub path-walk : (k : ℕ) {v : ℕ} → length (s.path v) ≤ k → v < n → Reached parent v → Walk n step v (s.path v)
  path-walk zero {v} b h r = let x = s.grows v h r in absurd (omega (arith, longer-by-one (s.path (get_or parent v 0)) v x.longer))
  path-walk (suc k) {v} b h r =
      let x = s.grows v h r in
      let l = longer-by-one (s.path (get_or parent v 0)) v x.longer in
      seen_by x.from
      (λ e. gone {p = s.path (get_or parent v 0)} (begun e (rw e s.start)) h x.good x.longer)
      (λ m q. gone (path-walk k (omega arith) m q) h x.good x.longer)

  pub walk_first : {v : ℕ} {p : List ℕ} → Walk n step v p → Seen n parent v × (rank (s.path v) ≤ rank p)
  unfolding rank_from
  walk_first (begun e z) = (outside e, rw (e, s.start) (omega arith))
  walk_first {v} (gone {u = u} {p = p} w l good q) =
      let x = walk_first w in
      let y = s.closed u v x.0 l good in
      (place l y.0, rw (q, rank-snoc p v) (omega (arith, x.1, y.1)))

  abbrev pub searched : Searched n step parent
  searched =
      record {
        path = s.path;
        walks = λ v h r. path-walk (length (s.path v)) (le_refl _) h r;
        first = λ v p h w. seen_by (walk_first w).0 (λ e. absurd (omega arith)) (λ l r. (r, (walk_first w).1));
        short = s.short;
      }
