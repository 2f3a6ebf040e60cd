-- Two questions whose good chains match: the answers match.
use Prim.Native.Nat.{ℕ, ◌<◌}
use mathlib.Core.Path.{◌≡◌, subst}
use mathlib.Core.Bool.{Bool, true}
use mathlib.Core.List.{List, map}
use native.Mathlib.Omega.{arith}
use Rattle.graph.proofs.Theorems.{one-best}
use Rattle.image.specs.Items.{Item}
use Rattle.chain.specs.declared.Answer.{Answer}
use Rattle.chain.specs.Answer.{asked_of, good_chains, With, Answered, refused, none, found}
use Rattle.room.specs.Kept.{new_place}
use Rattle.renumbered.specs.Answers.{Renumbered, shown, seven}
use Rattle.renumbered.proofs.Carried.{Matched, renumbered, from_first, best-renumbered}
use Rattle.chain.proofs.Payloads.{a_question}

module _ {s table t ruling : List ℕ} {later p n k from to moment : ℕ} {items : List Item} {stay : ℕ → Bool} {old : ℕ → ℕ}
    (m : Matched (good_chains s table later) (good_chains t ruling later) stay (new_place moment items) old)
    (below : p < (good_chains s table later).places) (stays : stay p ≡ true)
    (asks : asked_of s table later p ≡ a_question n from)
    (asks-again : asked_of t ruling later (new_place moment items p) ≡ a_question k to) where
  pub answers-match :
      {r q : Answer} → Answered s table later p r → Answered t ruling later (new_place moment items p) q → Renumbered moment items r q
  answers-match (refused why e w) b = absurd (let z : ◌≡◌ {A = ℕ} 0 1 = cc in omega arith)
  answers-match (none e empty w) (refused why f v) = absurd (let z : ◌≡◌ {A = ℕ} 0 1 = cc in omega arith)
  answers-match (none e empty w) (none f void v) = seven w v
  answers-match (none e empty w) (found d f best v) = absurd (let (c, is, good) = from_first m below stays best.good in empty c good)
  answers-match (found c e best w) (refused why f v) = absurd (let z : ◌≡◌ {A = ℕ} 0 1 = cc in omega arith)
  answers-match (found c e best w) (none f void v) = absurd (void (map (new_place moment items) c) (renumbered m best.good))
  answers-match {q = q} (found c e best w) (found d f other v) =
      let same : d ≡ map (new_place moment items) c = one-best other (best-renumbered m below stays best) in
      shown c w (subst (λ (x : List ℕ). With x q) same v)
