-- What the fast path for a SET of a name tells. No public promise cites this.
use Rattle.std.specs.Prelude.{ℕ, List, ◌≡◌, Option, Some, None}
use Rattle.der.specs.Forms.{paper}
use Rattle.elements.specs.declared.elements.Element.{Element}
use Rattle.elements.specs.Elements.{found_at}
use Rattle.names.specs.declared.Seen.{Seen}
use Rattle.names.specs.declared.fast.Lone.{Lone}
use Rattle.names.specs.Names.{one_more, one_set}

-- the countryNames seen so far, and the one of another SET, if it has one
unfoldable pub one_set_more : Seen → Option Element → Seen
one_set_more seen None = seen
one_set_more seen (Some value) = one_more seen value

-- a SET at `at` that has one attribute, of which `r` tells
pub record Alone (s : List ℕ) (at end : ℕ) (r : Lone) : Type 0 where
  pub e : Element
  pub found : found_at paper s at end ≡ Some e
  pub ends : e.end ≡ r.end
  pub holds : (seen : Seen) → one_set paper s e seen ≡ Some (one_set_more seen r.country)
