-- What the table of any search tells of the target is the answer: none where it is not marked, else its path in the slots.
use Prim.Native.Nat.{ℕ, ◌-◌, ◌<◌, ◌≤◌}
use mathlib.Core.Path.{◌≡◌}
use mathlib.Core.Bool.{Bool}
use mathlib.Core.List.{List, ◌++◌}
use borrow.Author.Tests.{eq-eqb}
use lib.ListN.{length, get_or, replicate}
use Rattle.graph.specs.declared.Found.{Found}
use Rattle.graph.specs.Chains.{graph_by}
use Rattle.graph.specs.Answer.{NoChain, Answered, found, none}
use Rattle.graph.specs.Search.{followed, Reached, Searched}
use Rattle.graph.proofs.Steps.{roles-apart}
use Rattle.graph.proofs.BestFound.{best, no-chain-found}
use Rattle.graph.proofs.Targets.{all-places}

module _ (places : ℕ) (roles : List ℕ) (step : ℕ → ℕ → Bool) {target : ℕ} {table : List ℕ} {r : Found} (small : places ≤ 96) (s : Searched places (followed places (graph_by places roles step)) table) where
  pub unreached : get_or table target 0 ≡ 255 → NoChain r → Answered (graph_by places roles step) target r
  unreached e n = none (no-chain-found (all-places places roles step small) small (roles-apart places roles step) s e) n

  pub reached :
      target < places → get_or roles target 0 ≡ 3 → Reached table target → r.length ≡ length (s.path target)
      → r.places ≡ s.path target ++ replicate (96 - length (s.path target)) 255 → Answered (graph_by places roles step) target r
  reached h e f l p =
      found (s.path target)
      (best (all-places places roles step small) small (roles-apart places roles step) s h (eq-eqb _ _ e) f)
      l
      p
