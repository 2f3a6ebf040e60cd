-- The graph whose chains are the good chains of an item list.
use Rattle.std.specs.Prelude.{ℕ, Bool, ◌&&◌, List, length}
use Rattle.graph.specs.Chains.{Graph}
use Rattle.image.specs.Items.{Item}
use Rattle.usable.specs.Usable.{usable_anchor, usable}
use Rattle.usable.specs.Steps.{has_kind, good_step}

-- a good chain: a usable anchor, then usable links, then the DS asked for, usable, each step good
unfoldable pub chains : List Item → (ℕ → ℕ → Bool) → ℕ → Graph
chains items verdict moment =
    record {
      places = length items;
      anchor = usable_anchor items moment;
      link = λ p. has_kind items 2 p && usable items verdict moment p;
      signer = λ p. has_kind items 3 p && usable items verdict moment p;
      step = good_step items verdict;
    }
