-- The chains of the tables are good chains of the items, those that are within, since roles and steps mean the definitions.
use Prim.Native.Nat.{ℕ, ◌<◌, ◌≤◌}
use mathlib.Core.Path.{◌≡◌, refl, ◌∙◌}
use mathlib.Core.Bool.{Bool, cond}
use mathlib.Core.List.{List}
use borrow.Author.Tests.{le-leb}
use lib.Dec.{leb, eqb}
use lib.ListN.{length, get_or}
use Rattle.graph.specs.Chains.{Graph, graph_by}
use Rattle.image.specs.Items.{Item}
use Rattle.usable.specs.declared.opened.Row.{Row}
use Rattle.usable.specs.Table.{verdict_in}
use Rattle.usable.specs.Rows.{step_of}
use Rattle.usable.proofs.Scope.{Placed, Told, Scope}
use Rattle.usable.proofs.RolesMean.{Known}
use Rattle.usable.proofs.StepsMean.{step-told}
use Rattle.chain.specs.Good.{chains}
use Rattle.chain.proofs.Transfer.{Part}

-- the good chains of an item list, by a table of verdicts
abbrev pub good_of : List Item → List ℕ → ℕ → Graph
good_of items table moment = chains items (verdict_in (length items) table) moment

-- the graph of the tables, by any steps that agree with theirs, is the part of that of the items that is within
pub tables-part :
    (items : List Item) (at : ℕ → ℕ) (held : Row → List ℕ) → Placed held items at → (table : List ℕ) (moment : ℕ) {there within : ℕ → Bool}
    → Scope items (verdict_in (length items) table) moment there within → (rows : List (List ℕ)) (roles : List ℕ) (step : ℕ → ℕ → Bool)
    → length items ≤ 96 → Told moment items at there rows → Known items table moment within roles
    → ((u v : ℕ) → u < length items → v < length items → step u v ≡ step_of held (length items) table rows roles u v)
    → Part within (graph_by (length items) roles step) (good_of items table moment)
unfolding chains
tables-part items at held placed table moment scope rows roles step few told known agrees =
    let here : cond (leb (length items) 96) (length items) 0 ≡ length items = rw (le-leb (length items) 96 few) in
    record {
      places = here;
      anchor = λ u h. (known u (rw here at h)).anchor;
      link = λ u h. (known u (rw here at h)).link;
      signer = λ u h. (known u (rw here at h)).signer;
      step = λ u v hu hv from to.
          agrees u v (rw here at hu) (rw here at hv)
          ∙ step-told items at table moment scope rows told held placed roles known u v (rw here at hu) (rw here at hv) from to;
    }

-- the graph of roles and rows, with no table of steps
abbrev pub rows_graph : (Row → List ℕ) → ℕ → List ℕ → List (List ℕ) → List ℕ → Graph
rows_graph held n table rows roles =
    record {
      places = n;
      anchor = λ u. eqb (get_or roles u 0) 1;
      link = λ u. eqb (get_or roles u 0) 2;
      signer = λ u. eqb (get_or roles u 0) 3;
      step = step_of held n table rows roles;
    }

pub rows-part :
    (items : List Item) (at : ℕ → ℕ) (held : Row → List ℕ) → Placed held items at → (table : List ℕ) (moment : ℕ) {there within : ℕ → Bool}
    → Scope items (verdict_in (length items) table) moment there within → (rows : List (List ℕ)) (roles : List ℕ)
    → Told moment items at there rows → Known items table moment within roles
    → Part within (rows_graph held (length items) table rows roles) (good_of items table moment)
unfolding chains
rows-part items at held placed table moment scope rows roles told known =
    record {
      places = refl;
      anchor = λ u h. (known u h).anchor;
      link = λ u h. (known u h).link;
      signer = λ u h. (known u h).signer;
      step = λ u v hu hv. step-told items at table moment scope rows told held placed roles known u v hu hv;
    }
