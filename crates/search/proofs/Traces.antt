-- Back along the parents each place stands last on its path, so the places found from the target on back are the path's, the
-- last first, and outside the path is empty.
use Prim.Native.Nat.{ℕ, ◌+◌, ◌-◌, ◌<◌, ◌≤◌}
use mathlib.Core.Path.{◌≡◌, sym, ap, ◌∙◌}
use mathlib.Core.Bool.{Bool}
use mathlib.Core.List.{List, [], ◌∷◌, ◌++◌, append-nil}
use native.Mathlib.Omega.{arith}
use lib.ListN.{length, get_or, set, replicate, length-append, length-replicate, replicate-append-replicate}
use lib.Seq.{append_snoc, set_at}
use Rattle.graph.specs.Search.{Reached, Seen, outside, place}
use Rattle.graph.proofs.Walks.{seen-le}
use Rattle.search.specs.Queue.{QueueTables, Paths}

abbrev pub paths : {n : ℕ} {step : ℕ → ℕ → Bool} {parent distance : List ℕ} → QueueTables n step parent distance → Paths n parent distance
paths s =
    record {
      path = s.path;
      start = s.start;
      from = λ v h r. (s.grows v h r).from;
      longer = λ v h r. (s.grows v h r).longer;
      far = λ v h r. (s.grows v h r).far;
      short = s.short;
    }

module _ {n : ℕ} {parent distance : List ℕ} (s : Paths n parent distance) where
  -- one place back
  record Back (v : ℕ) : Type 0 where
    below : v < n
    from : Seen n parent (get_or parent v 0)
    longer : s.path v ≡ s.path (get_or parent v 0) ++ (v ∷ [])
    long : length (s.path v) ≡ length (s.path (get_or parent v 0)) + 1

  back : {v : ℕ} → Seen n parent v → (v ≡ n → ⊥) → Back v
  back (outside e) d = absurd (d e)
  back {v} (place l r) d =
      record { below = l; from = s.from v l r; longer = s.longer v l r; long = ap length (s.longer v l r) ∙ simp length-append }

  -- the slots hold the end of the path, from `left` on
  pub record Filling (target v left : ℕ) (slots : List ℕ) : Type 0 where
    pub rest : List ℕ
    pub seen : Seen n parent v
    pub split : s.path target ≡ s.path v ++ rest
    pub first : left ≡ length (s.path v)
    pub holds : slots ≡ replicate left 255 ++ (rest ++ replicate (96 - length (s.path target)) 255)

  module _ {target : ℕ} (h : target < n) (r : Reached parent target) where
    pub fill_start : {left : ℕ} → left ≡ get_or distance target 0 → Filling target target left (replicate 96 255)
    fill_start {left} e =
        let long : left ≡ length (s.path target) = e ∙ s.far target h r in
        let whole : left + (96 - length (s.path target)) ≡ 96 = omega (arith, s.short target h r) in
        record {
          rest = [];
          seen = place h r;
          split = sym (append-nil (s.path target));
          first = long;
          holds = sym (replicate-append-replicate left (96 - length (s.path target)) 255 ∙ ap (λ (k : ℕ). replicate k 255) whole);
        }

    module _ {v : ℕ} (d : v ≡ n → ⊥) where
      pub fill-room : {left : ℕ} {slots : List ℕ} → Filling target v left slots → (0 < left) × (left ≤ 96) × (v < n) × (get_or parent v 0 ≤ n)
      fill-room f =
          let b = back f.seen d in
          let l : length (s.path target) ≡ length (s.path v) + length f.rest = ap length f.split ∙ simp length-append in
          (omega (arith, f.first, b.long), omega (arith, f.first, s.short target h r), b.below, seen-le b.from)

  module _ {target v : ℕ} (d : v ≡ n → ⊥) where
    pub fill_more : {left : ℕ} {slots : List ℕ} → Filling target v left slots → Filling target (get_or parent v 0) (left - 1) (set slots (left - 1) v)
    fill_more {left} {slots} f =
        let b = back f.seen d in
        let k : ℕ = length (s.path (get_or parent v 0)) in
        let e : left ≡ k + 1 = f.first ∙ b.long in
        let p : left - 1 ≡ k = omega arith in
        let after : List ℕ = f.rest ++ replicate (96 - length (s.path target)) 255 in
        let z : slots ≡ replicate k 255 ++ (255 ∷ after) = f.holds ∙ rw (e, ← replicate-append-replicate {A = ℕ} k 1 255) (append_snoc (replicate k 255) 255 after) in
        record {
          rest = v ∷ f.rest;
          seen = b.from;
          split = f.split ∙ rw b.longer (append_snoc (s.path (get_or parent v 0)) v f.rest);
          first = p;
          holds = rw (p, z) (set_at (replicate k 255) 255 after v k (length-replicate k 255));
        }

  empty : {v : ℕ} → v ≡ n → s.path v ≡ []
  empty e = rw e s.start

  module _ {target v : ℕ} (e : v ≡ n) where
    pub fill_end : {left : ℕ} {slots : List ℕ} → Filling target v left slots → slots ≡ s.path target ++ replicate (96 - length (s.path target)) 255
    fill_end {left} f =
        let z : left ≡ 0 = f.first ∙ ap length (empty e) in
        let w : s.path target ≡ f.rest = f.split ∙ rw (empty e) in
        f.holds ∙ rw (z, w)
