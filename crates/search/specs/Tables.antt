-- The graph that the tables of opened items tell.
use Rattle.std.specs.Prelude.{ℕ, List}
use Rattle.graph.specs.Chains.{Graph, graph_by}
use Rattle.usable.specs.declared.opened.Row.{Row}
use Rattle.usable.specs.Rows.{step_of}

-- roles by the table of roles, good steps by the verdicts, the rows and the roles
abbrev pub tables_graph : (Row → List ℕ) → ℕ → List ℕ → List (List ℕ) → List ℕ → Graph
tables_graph held n table rows roles = graph_by n roles (step_of held n table rows roles)
