-- The good chains of a list of items with a table of verdicts at a moment; and those of the items that stay, with the table cut to them.
use Rattle.std.specs.Prelude.{ℕ, List, length}
use Rattle.graph.specs.Chains.{Graph}
use Rattle.image.specs.Items.{Item}
use Rattle.usable.specs.Table.{verdict_in}
use Rattle.chain.specs.Good.{chains}
use Rattle.room.specs.Kept.{kept, kept_places, cut}

abbrev pub chains_of : List Item → ℕ → List ℕ → ℕ → Graph
chains_of items n table later = chains items (verdict_in n table) later

abbrev pub chains_kept : ℕ → List Item → ℕ → List ℕ → ℕ → Graph
chains_kept moment items n table later = chains_of (kept moment items) (length (kept moment items)) (cut n table (kept_places moment items)) later
