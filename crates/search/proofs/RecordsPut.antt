-- A record that is put leaves those before it and what stands beyond all of them, since it reaches from its place to the next.
use Prim.Native.Nat.{ℕ, suc, ◌+◌, ◌*◌, ◌-◌, ◌<◌, ◌≤◌}
use mathlib.Core.Path.{◌≡◌, refl, sym, ap, subst, ◌∙◌}
use mathlib.Core.Bool.{Bool}
use mathlib.Core.List.{List, [], ◌∷◌, ◌++◌}
use mathlib.Core.Logic.{⊎_elim}
use native.Mathlib.Nat.{eq-or-lt_of_le}
use native.Mathlib.Numerals.{add-one}
use native.Mathlib.Omega.{arith}
use lib.ListN.{length, set, take, drop, length-append}
use lib.Seq.{append_snoc, take-suc-set, drop-set-lt, paste, length-paste, drop-paste, take-append-le, take_at, drop_at, take-add, take-take, take_all, drop-drop, length-take-le}
use Rattle.graph.specs.declared.Found.{Found}
use Rattle.graph.specs.Chains.{Graph, graph_by}
use Rattle.graph.specs.Answer.{Answered}
use Rattle.graph.specs.Records.{Recorded, Records, AllRecorded, stays, written}
use Rattle.graph.proofs.Targets.{all-places, no-places}

-- the length first, then the slots
pub head-put : (d : List ℕ) (at x : ℕ) (p : List ℕ) → at < length d → paste (set d at x) (at + 1) p 96 ≡ paste d at (x ∷ p) 97
head-put d at x p h =
    let first : take (at + 1) (set d at x) ≡ take at d ++ (x ∷ []) = rw (add-one at) (take-suc-set d at x h) in
    let same : at + 1 + 96 ≡ at + 97 = omega arith in
    let last : drop (at + 97) (set d at x) ≡ drop (at + 97) d = drop-set-lt (at + 97) d at x (omega arith) in
    rw (first, same, last, append_snoc (take at d) x (take 96 p)) refl

-- so many octets from k on, where they end within the list
part_of : (k m : ℕ) (l : List ℕ) → k ≤ length l → take m (drop k l) ≡ drop k (take (k + m) l)
part_of k m l h =
    sym (ap (drop k) (take-add k m l) ∙ drop_at (take k l) (take m (drop k l)) k (length-take-le k l h))

module _ (d : List ℕ) (at : ℕ) (s : List ℕ) (n : ℕ) (fits : at + n ≤ length d) (all : length s ≡ n) where
  pub kept-before : (k m : ℕ) → k + m ≤ at → take m (drop k (paste d at s n)) ≡ take m (drop k d)
  kept-before k m h =
      let long : length (paste d at s n) ≡ length d = length-paste d at s n fits (omega arith) in
      let head : length (take at d) ≡ at = length-take-le at d (omega arith) in
      let more : k + m ≤ length (take at d ++ take n s) = omega (arith, length-append (take at d) (take n s)) in
      let front : take (k + m) (paste d at s n) ≡ take (k + m) d =
      take-append-le (k + m) (take at d ++ take n s) (drop (at + n) d) more
      ∙ take-append-le (k + m) (take at d) (take n s) (omega (arith, head)) ∙ take-take (k + m) at d h in
      part_of k m (paste d at s n) (omega (arith, long)) ∙ ap (drop k) front ∙ sym (part_of k m d (omega arith))

  pub put-there : take n (drop at (paste d at s n)) ≡ s
  put-there =
      let long : length (paste d at s n) ≡ length d = length-paste d at s n fits (omega arith) in
      let head : length (take at d) ≡ at = length-take-le at d (omega arith) in
      part_of at n (paste d at s n) (omega (arith, long))
      ∙ ap (drop at)
      (take_at (take at d ++ take n s) (drop (at + n) d) (at + n)
      (omega (arith, head, length-append (take at d) (take n s), ap length (take_all n s (omega arith)))))
      ∙ drop_at (take at d) (take n s) at head ∙ take_all n s (omega arith)

  pub kept-beyond : (k : ℕ) → at + n ≤ k → drop k (paste d at s n) ≡ drop k d
  kept-beyond k h =
      let sum : k ≡ at + n + (k - (at + n)) = omega arith in
      ap (λ (j : ℕ). drop j (paste d at s n)) sum ∙ sym (drop-drop (k - (at + n)) (at + n) (paste d at s n))
      ∙ ap (drop (k - (at + n))) (drop-paste d at s n (omega arith) (omega arith))
      ∙ drop-drop (k - (at + n)) (at + n) d ∙ ap (λ (j : ℕ). drop j d) (sym sum)

-- the records of the places before one, and what stands beyond all of them
pub record SoFar (g : Graph) (n : ℕ) (old out : List ℕ) (p : ℕ) : Type 0 where
  pub each : (q : ℕ) → q < p → Recorded g q (take 97 (drop (97 * q) out))
  pub beyond : drop (97 * n) out ≡ drop (97 * n) old
  pub long : length out ≡ length old

pub none_yet : {g : Graph} {n : ℕ} {old : List ℕ} → SoFar g n old old 0
none_yet = record { each = λ q h. absurd (omega arith); beyond = refl; long = refl }

module _ {g : Graph} {n : ℕ} {old out : List ℕ} {p : ℕ} (b : SoFar g n old out p) where
  pub one_more :
      {f : Found} → p < n → 97 * n ≤ length old → Answered g p f → length f.places ≡ 96
      → SoFar g n old (paste out (97 * p) (f.length ∷ f.places) 97) (p + 1)
  one_more {f} below room answer many =
      let s = f.length ∷ f.places in
      let full : length s ≡ 97 = omega (arith, many) in
      let fits : 97 * p + 97 ≤ length out = omega (arith, b.long) in
      record {
        each = λ q h.
            ⊎_elim
            (λ (e : suc q ≡ p + 1).
            let here : q ≡ p = omega arith in
            rw here (record { single = f; answers = answer; same = put-there out (97 * p) s 97 fits full }))
            (λ (l : suc q < p + 1).
            rw (kept-before out (97 * p) s 97 fits full (97 * q) 97 (omega arith)) (b.each q (omega arith)))
            (eq-or-lt_of_le h);
        beyond = kept-beyond out (97 * p) s 97 fits full (97 * n) (omega arith) ∙ b.beyond;
        long = length-paste out (97 * p) s 97 fits (omega (arith, full)) ∙ b.long;
      }

  pub all_done : n ≤ p → Records g n old out
  all_done h = record { each = λ q k. b.each q (omega arith); beyond = b.beyond; long = b.long }

-- the cases of the whole output
module _ (places : ℕ) (roles : List ℕ) (step : ℕ → ℕ → Bool) {old : List ℕ} where
  pub too-many-stay : 96 < places → AllRecorded (graph_by places roles step) old old
  too-many-stay h =
      let none = no-places places roles step h in
      written (omega (arith, none))
      (record { each = λ p l. absurd (omega (arith, none, l)); beyond = refl; long = refl })

  pub too-short-stay : places ≤ 96 → length old < 97 * places → AllRecorded (graph_by places roles step) old old
  too-short-stay h l = stays (rw (all-places places roles step h) l) refl

  pub all-recorded :
      {out : List ℕ} → places ≤ 96 → 97 * places ≤ length old → Records (graph_by places roles step) places old out
      → AllRecorded (graph_by places roles step) old out
  all-recorded {out} h l r =
      let all = all-places places roles step h in
      written (rw all l) (subst (λ (n : ℕ). Records (graph_by places roles step) n old out) (sym all) r)
