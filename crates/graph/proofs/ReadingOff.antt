-- Along the ways from outside, always to the first place: of all walks of as many places that keep to the ways none comes before
-- this one, and the first walk to the target keeps to them, so at the target it is this one.
use Prim.Native.Nat.{ℕ, zero, suc, ◌+◌, ◌-◌, ◌<◌, ◌≤◌}
use mathlib.Core.Path.{◌≡◌, refl, sym, ap, ◌∙◌}
use mathlib.Core.Bool.{Bool, true}
use mathlib.Core.List.{List, [], ◌∷◌, ◌++◌}
use mathlib.Core.Logic.{◌⊎◌, inl, inr, ⊎_elim}
use native.Mathlib.Omega.{arith}
use lib.ListN.{length, get_or, set, replicate, length-append}
use lib.Seq.{append_snoc, set_at}
use Rattle.graph.specs.Search.{rank, Reached, Seen, distance_of, Walk, begun, gone, Searched}
use Rattle.graph.specs.Rounds.{RoundTable, Onto, there, by, Back, Next}
use Rattle.graph.proofs.Cases.{less?}
use Rattle.graph.proofs.Ranks.{rank-snoc, rank-shorter}
use Rattle.graph.proofs.RoundPaths.{walk-far}
use Rattle.graph.proofs.Walks.{distance-outside, distance-place, seen_by, longer-by-one, walk_end, walk-small}

-- so many places are read off, the last of them this one, and stand in the slots
pub record Forward (n : ℕ) (step : ℕ → ℕ → Bool) (ways : List ℕ) (i last : ℕ) (slots : List ℕ) : Type 0 where
  pub read : List ℕ
  pub walk : Walk n step last read
  pub long : length read ≡ i
  pub here : distance_of n ways last ≡ i
  pub least :
      (u : ℕ) (q : List ℕ) → Walk n step u q → length q ≡ i → distance_of n ways u ≡ i
      → (rank read < rank q) ⊎ ((read ≡ q) × (last ≡ u))
  pub holds : slots ≡ read ++ replicate (96 - i) 255

no_step : {n : ℕ} {step : ℕ → ℕ → Bool} {u : ℕ} {q : List ℕ} → Walk n step u q → length q ≡ 0 → ([] ≡ q) × (n ≡ u)
no_step (begun e z) l = (sym z, sym e)
no_step {u = u} (gone {p = p} w h s q) l = absurd (omega (arith, longer-by-one p u q))

pub forward-begin : (n : ℕ) (step : ℕ → ℕ → Bool) (ways : List ℕ) → Forward n step ways 0 n (replicate 96 255)
forward-begin n step ways =
    record {
      read = [];
      walk = begun refl refl;
      long = refl;
      here = distance-outside n ways n refl;
      least = λ u q w l d. inr (no_step w l);
      holds = refl;
    }

pub forward-last : {n : ℕ} {step : ℕ → ℕ → Bool} {ways : List ℕ} {i last : ℕ} {slots : List ℕ} → Forward n step ways i last slots → last ≤ n
forward-last f = ⊎_elim (λ o. omega (arith, o.0)) (λ l. omega arith) (walk_end f.walk)

-- a step onward from a place of the ways
pub record Ahead (n : ℕ) (step : ℕ → ℕ → Bool) (ways : List ℕ) (u far : ℕ) : Type 0 where
  pub next : ℕ
  pub inside : next < n
  pub on : get_or ways next 0 ≡ far
  pub good : step u next ≡ true

-- some place of the ways
record Some (n : ℕ) (distance ways : List ℕ) (far : ℕ) : Type 0 where
  one : ℕ
  inside : one < n
  on : Reached ways one
  is : get_or distance one 0 ≡ far

module _ {n : ℕ} {step : ℕ → ℕ → Bool} {distance : List ℕ} {target : ℕ} {ways : List ℕ} (small : n ≤ 96) (s : RoundTable n step distance) (b : Back n step distance target ways 1 n) (h : target < n) (r : Reached distance target) where
  most : get_or distance target 0 ≤ 96
  most = s.short target h r

  numbered : (v k : ℕ) → get_or ways v 0 ≡ k → k ≤ 96 → Reached ways v
  numbered v k e m f = omega arith

  -- a place that leads on to the ways is on them
  joins :
      {u v : ℕ} → Seen n distance u → v < n → Reached ways v → get_or ways v 0 ≡ distance_of n distance u + 1 → step u v ≡ true
      → distance_of n ways u ≡ distance_of n distance u
  joins {u} {v} seen l on e good =
      seen_by seen (λ o. distance-outside n ways u o ∙ sym (distance-outside n distance u o))
      (λ m q.
      let d = distance-place n distance u m in
      let k = (s.from u m q).one in
      let reached = b.all u v m l (omega arith) on (e ∙ rw d) good in
      distance-place n ways u m ∙ b.told u m reached ∙ sym d)

  -- the ways have a place at each distance
  some_at : (j k : ℕ) → j + k ≡ get_or distance target 0 → 1 ≤ k → Some n distance ways k
  some_at zero k e m = record { one = target; inside = h; on = b.end; is = omega arith }
  some_at (suc j) k e m =
      let x = some_at j (k + 1) (omega arith) (omega arith) in
      let y = s.from x.one x.inside (b-reached x.one x.is (omega (arith, most))) in
      let far : distance_of n distance y.back ≡ k = omega (arith, y.one, x.is) in
      let on = joins y.seen x.inside x.on (b.told x.one x.inside x.on ∙ y.one) y.good in
      seen_by y.seen
      (λ o. absurd (omega (arith, distance-outside n distance y.back o)))
      (λ l q.
      record {
        one = y.back;
        inside = l;
        on = numbered y.back k (sym (distance-place n ways y.back l) ∙ on ∙ far) (omega (arith, most));
        is = sym (distance-place n distance y.back l) ∙ far;
      })
    where
      b-reached : (v : ℕ) → get_or distance v 0 ≡ k + 1 → k + 1 ≤ 96 → Reached distance v
      b-reached v is few f = omega arith

  from-outside : Some n distance ways 1 → Ahead n step ways n 1
  from-outside x =
      let y = s.from x.one x.inside (λ f. omega (arith, x.is)) in
      let out : y.back ≡ n =
      seen_by y.seen (λ o. o)
      (λ l q. absurd (omega (arith, distance-place n distance y.back l, (s.from y.back l q).one, y.one, x.is))) in
      record { next = x.one; inside = x.inside; on = b.told x.one x.inside x.on ∙ x.is; good = rw out at y.good }

  first_some : Some n distance ways 1
  first_some = let k = (s.from target h r).one in some_at (get_or distance target 0 - 1) 1 (omega arith) (omega arith)

  -- before the target the ways lead on
  ahead : {u i : ℕ} {p : List ℕ} → Walk n step u p → distance_of n ways u ≡ i → i < get_or distance target 0 → Ahead n step ways u (i + 1)
  ahead {u} {i} w e m =
      ⊎_elim
      (λ o.
      let z : i ≡ 0 = sym e ∙ distance-outside n ways u o.0 in
      rw (o.0, z) (from-outside first_some))
      (λ l.
      let d : get_or ways u 0 ≡ i = sym (distance-place n ways u l) ∙ e in
      let reached = numbered u i d (omega (arith, most)) in
      go d (b.told u l reached) (b.onto u l reached))
      (walk_end w)
    where
      go : get_or ways u 0 ≡ i → get_or ways u 0 ≡ get_or distance u 0 → Onto n step distance target ways u → Ahead n step ways u (i + 1)
      go d t (there f) = absurd (let z : get_or distance u 0 ≡ get_or distance target 0 = rw f in omega arith)
      go d t (by x k l f good) = let z : get_or distance u 0 ≡ i = sym t ∙ d in record { next = x; inside = k; on = f ∙ rw z; good = good }

  module _ {i last : ℕ} {slots : List ℕ} (f : Forward n step ways i last slots) (m : i < get_or distance target 0) where
    pub forward-ahead : Ahead n step ways last (i + 1)
    forward-ahead = ahead f.walk f.here m

    module _ {v : ℕ} (x : Next n step ways last (i + 1) v) where
      pub forward-inside : v < n
      forward-inside =
          ⊎_elim (λ l. l)
          (λ l. let y = forward-ahead in absurd (x.first y.next (omega (arith, y.inside)) y.on y.good))
          (less? v n)

      -- a walk of one place more, whose last step is to a place of the ways
      least_more :
          (u : ℕ) (q : List ℕ) → Walk n step u q → length q ≡ i + 1 → distance_of n ways u ≡ i + 1
          → (rank (f.read ++ (v ∷ [])) < rank q) ⊎ ((f.read ++ (v ∷ []) ≡ q) × (v ≡ u))
      least_more u q (begun e z) l d = absurd (omega (arith, distance-outside n ways u e))
      least_more u q (gone {u = t} {p = p} w k good e) l d =
          let long : length p ≡ i = omega (arith, longer-by-one p u e) in
          let far = walk-far small s w in
          let step-far = s.closed t u far.0 k good in
          let slot : get_or ways u 0 ≡ i + 1 = sym (distance-place n ways u k) ∙ d in
          let on = numbered u (i + 1) slot (omega (arith, most)) in
          let is : distance_of n distance t ≡ i = omega (arith, far.1, step-far.1, b.told u k on) in
          let this : distance_of n ways t ≡ i = joins far.0 k on (slot ∙ rw is) good ∙ is in
          let vs = forward-inside in
          ⊎_elim
          (λ (o : rank f.read < rank p). inl (rw (e, rank-snoc p u, rank-snoc f.read v) (omega arith)))
          (λ (o : (f.read ≡ p) × (last ≡ t)).
          let good-last : step last u ≡ true = rw o.1 good in
          ⊎_elim
          (λ (lt : v < u). inl (rw (e, rank-snoc p u, rank-snoc f.read v, o.0) (omega arith)))
          (λ (le : u ≤ v).
          let same : v ≡ u = ⊎_elim (λ (lt : u < v). absurd (x.first u lt slot good-last)) (λ (ge : v ≤ u). omega arith) (less? u v) in
          inr (rw (e, o.0, same), same))
          (less? v u))
          (f.least t p w long this)

      pub forward-more : Forward n step ways (i + 1) v (set slots i v)
      forward-more =
          let room : 96 - i ≡ suc (96 - (i + 1)) = omega (arith, most) in
          let before : slots ≡ f.read ++ (255 ∷ replicate (96 - (i + 1)) 255) = f.holds ∙ rw room in
          record {
            read = f.read ++ (v ∷ []);
            walk = gone f.walk forward-inside (x.is forward-inside).1 refl;
            long = simp length-append (omega (arith, f.long));
            here = distance-place n ways v forward-inside ∙ (x.is forward-inside).0;
            least = least_more;
            holds = rw (before, append_snoc) (set_at f.read 255 (replicate (96 - (i + 1)) 255) v i f.long);
          }

  module _ {last : ℕ} {slots : List ℕ} (f : Forward n step ways (get_or distance target 0) last slots) where
    arrived : last ≡ target
    arrived =
        ⊎_elim
        (λ o. absurd (omega (arith, f.here, distance-outside n ways last o.0, (s.from target h r).one)))
        (λ l.
        let d : get_or ways last 0 ≡ get_or distance target 0 = sym (distance-place n ways last l) ∙ f.here in
        let reached = numbered last (get_or distance target 0) d most in
        go d (b.told last l reached) (b.onto last l reached))
        (walk_end f.walk)
      where
        go : get_or ways last 0 ≡ get_or distance target 0 → get_or ways last 0 ≡ get_or distance last 0 → Onto n step distance target ways last → last ≡ target
        go d t (there e) = e
        go d t (by x k l e good) = absurd (omega arith)

    -- the first walk to the target is what was read off
    read-path : (q : Searched n step distance) → f.read ≡ q.path target
    read-path q =
        let w = q.walks target h r in
        let own : Walk n step target f.read = rw arrived at f.walk in
        let no-later = (q.first target f.read h own).1 in
        let far = (walk-far small s w).1 in
        let d = distance-place n distance target h in
        let on : distance_of n ways target ≡ get_or distance target 0 = distance-place n ways target h ∙ b.told target h b.end in
        ⊎_elim
        (λ (lt : get_or distance target 0 < length (q.path target)).
        absurd (omega (arith, no-later, rank-shorter (q.path target) (walk-small small own) (omega (arith, f.long)))))
        (λ (le : length (q.path target) ≤ get_or distance target 0).
        ⊎_elim (λ (o : rank f.read < rank (q.path target)). absurd (omega (arith, no-later))) (λ o. o.0)
        (f.least target (q.path target) w (omega arith) on))
        (less? (get_or distance target 0) (length (q.path target)))

    pub forward-end : (q : Searched n step distance) → slots ≡ q.path target ++ replicate (96 - length (q.path target)) 255
    forward-end q =
        let e = read-path q in
        let l : get_or distance target 0 ≡ length (q.path target) = sym f.long ∙ ap length e in
        f.holds ∙ rw (e, l)
