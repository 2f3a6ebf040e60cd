-- Back from the target a place is on the ways if a good step leads from it to one that is: row by row, and from one distance to the
-- next nearer, this stays so of all places that were looked at.
use Prim.Native.Nat.{ℕ, ◌+◌, ◌*◌, ◌<◌, ◌≤◌}
use mathlib.Core.Path.{◌≡◌, sym, ◌∙◌}
use mathlib.Core.Bool.{Bool, true}
use mathlib.Core.List.{List}
use mathlib.Core.Logic.{⊎_elim}
use native.Mathlib.Omega.{arith}
use lib.ListN.{length, get_or, set, replicate, length-set, length-replicate, get_or-replicate}
use lib.Seq.{get_or-set_same, get_or-set_other}
use Rattle.graph.specs.Search.{Reached}
use Rattle.graph.specs.Rounds.{Onto, there, by, Back}
use Rattle.graph.proofs.Cases.{same?, less?}

-- one slot changed
module _ (ways : List ℕ) (row far : ℕ) (room : row < length ways) where
  slot-here : get_or (set ways row far) row 0 ≡ far
  slot-here = get_or-set_same ways row far 0 room

  slot_kept : {v : ℕ} → (v ≡ row → ⊥) → get_or (set ways row far) v 0 ≡ get_or ways v 0
  slot_kept {v} d = get_or-set_other ways row v far 0 d

-- at the start the target alone is on the ways
module _ (n far target : ℕ) (small : n ≤ 96) (h : target < n) where
  start : List ℕ
  start = set (replicate 96 255) target far

  start-room : target < length {A = ℕ} (replicate 96 255)
  start-room = rw (length-replicate {A = ℕ} 96 255) (omega arith)

  start-here : get_or start target 0 ≡ far
  unfolding start
  start-here = slot-here (replicate 96 255) target far start-room

  only : (v : ℕ) → v < n → Reached start v → v ≡ target
  unfolding start
  only v l q =
      ⊎_elim (λ e. e)
      (λ d. absurd (q (slot_kept (replicate 96 255) target far start-room d ∙ get_or-replicate 96 v 255 0 (omega arith))))
      (same? v target)

  pub back-begin :
      (step : ℕ → ℕ → Bool) (distance : List ℕ) → far ≡ get_or distance target 0 → Reached distance target
      → Back n step distance target (set (replicate 96 255) target far) far n
  unfolding start
  back-begin step distance is r =
      record {
        slots = length-set (replicate 96 255) target far ∙ length-replicate {A = ℕ} 96 255;
        told = λ v l q. rw (only v l q) (start-here ∙ is);
        end = λ e. r (sym (start-here ∙ is) ∙ e);
        most = omega arith;
        onto = λ v l q. there (only v l q);
        all = λ u v k l o q e good.
            let f : far ≡ get_or distance u 0 + 1 = sym start-here ∙ (rw (only v l q) at e) in absurd (omega arith);
      }

module _ {n : ℕ} {step : ℕ → ℕ → Bool} {distance : List ℕ} {target : ℕ} (small : n ≤ 96) where
  module _ {ways : List ℕ} where
    -- one distance nearer
    pub back-nearer : {far less : ℕ} → less + 1 ≡ far → Back n step distance target ways far n → Back n step distance target ways less 0
    back-nearer e b =
        record {
          slots = b.slots;
          told = b.told;
          end = b.end;
          most = omega (arith, b.most);
          onto = b.onto;
          all = λ u v k l o q f good. b.all u v k l (omega arith) q f good;
        }

    module _ {far row : ℕ} (h : row < n) (b : Back n step distance target ways far row) where
      -- a place that is not so far, or leads to none of the ways
      pub back-passed :
          (get_or distance row 0 ≡ far → (v : ℕ) → v < n → get_or ways v 0 ≡ far + 1 → step row v ≡ true → ⊥)
          → Back n step distance target ways far (row + 1)
      back-passed none =
          record {
            slots = b.slots;
            told = b.told;
            end = b.end;
            most = b.most;
            onto = b.onto;
            all = λ u v k l o q e good.
                ⊎_elim (λ m. b.all u v k l m q e good)
                (λ m.
                let same : u ≡ row = omega arith in
                let this : get_or distance u 0 ≡ far = omega arith in
                absurd (none (rw same at this) v l (e ∙ rw this) (rw same at good)))
                (less? (far * 97 + u) (get_or distance u 0 * 97 + row));
          }

      -- a place so far that leads to one of them
      module _ (most : get_or distance target 0 ≤ 96) (this : get_or distance row 0 ≡ far) (w : ℕ) (l : w < n) (on : get_or ways w 0 ≡ far + 1) (good : step row w ≡ true) where
        more : List ℕ
        more = set ways row far

        low : far ≤ 96
        low = omega (arith, b.most, most)

        here : get_or more row 0 ≡ far
        unfolding more
        here = slot-here ways row far (omega (arith, b.slots))

        kept : {v : ℕ} → (v ≡ row → ⊥) → get_or more v 0 ≡ get_or ways v 0
        unfolding more
        kept d = slot_kept ways row far (omega (arith, b.slots)) d

        reached-here : Reached more row
        reached-here e = omega (arith, here, low)

        reached-more : (v : ℕ) → Reached ways v → Reached more v
        reached-more v r = ⊎_elim (λ e. rw e reached-here) (λ d f. r (sym (kept d) ∙ f)) (same? v row)

        -- the slot of a place that is on the ways stays as it is
        same-slot : (v : ℕ) → Reached ways v → get_or more v 0 ≡ get_or ways v 0
        same-slot v r = ⊎_elim (λ (e : v ≡ row). rw (e, here) (sym (b.told row h (rw e at r) ∙ this))) (λ d. kept d) (same? v row)

        numbered : (v k : ℕ) → get_or ways v 0 ≡ k → k ≤ 97 → Reached ways v
        numbered v k e m f = omega arith

        -- so far is nearer than the target
        nearer : far < get_or distance target 0
        nearer = go (b.onto w l on-ways)
          where
            on-ways : Reached ways w
            on-ways = numbered w (far + 1) on (omega (arith, low))

            is : get_or distance w 0 ≡ far + 1
            is = sym (b.told w l on-ways) ∙ on

            go : Onto n step distance target ways w → far < get_or distance target 0
            go (there e) = omega (arith, rw e at is)
            go (by x k m e f) = omega (arith, is)

        onto-more : {v : ℕ} → Onto n step distance target ways v → Onto n step distance target more v
        onto-more (there e) = there e
        onto-more (by x k m e f) = by x k m (same-slot x (numbered x _ e (omega (arith, most))) ∙ e) f

        onto-here : Onto n step distance target more row
        onto-here =
            by w l (omega (arith, nearer)) (same-slot w (numbered w (far + 1) on (omega (arith, low))) ∙ on ∙ rw this) good

        all_more :
            (u v : ℕ) → u < n → v < n → far * 97 + u < get_or distance u 0 * 97 + (row + 1) → Reached more v
            → get_or more v 0 ≡ get_or distance u 0 + 1 → step u v ≡ true → Reached more u
        all_more u v k m o q e f =
            ⊎_elim
            (λ x. let z : far ≡ get_or distance u 0 + 1 = sym here ∙ (rw x at e) in absurd (omega arith))
            (λ x.
            ⊎_elim
            (λ y. rw y reached-here)
            (λ y. reached-more u (b.all u v k m (omega arith) (λ z. q (kept x ∙ z)) (sym (kept x) ∙ e) f))
            (same? u row))
            (same? v row)

        pub back-marked : Back n step distance target (set ways row far) far (row + 1)
        unfolding more
        back-marked =
            record {
              slots = length-set ways row far ∙ b.slots;
              told = λ v k q. ⊎_elim (λ (e : v ≡ row). rw (e, here) (sym this)) (λ d. kept d ∙ b.told v k (λ z. q (kept d ∙ z))) (same? v row);
              end = reached-more target b.end;
              most = b.most;
              onto = λ v k q. ⊎_elim (λ e. rw e onto-here) (λ d. onto-more (b.onto v k (λ z. q (kept d ∙ z)))) (same? v row);
              all = all_more;
            }
