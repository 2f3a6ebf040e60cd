-- The countryName attributes of a name's tree: a SEQUENCE of SETs of SEQUENCE {OID, one element}.
use Rattle.std.specs.Prelude.{cond, List, [], ◌∷◌, ◌++◌}
use Rattle.tree.specs.Tree.{Tree, leaf, node, Trees, none, more, contents_of}
use Rattle.octets.specs.Alike.{alike}
use Rattle.names.specs.Names.{country_name}

-- the value of an attribute, if its OID is countryName
unfoldable pub country_in : Tree → List Tree
country_in (leaf tag c) = []
country_in (node tag none) = []
country_in (node tag (more oid none)) = []
country_in (node tag (more oid (more value rest))) = cond (alike (contents_of oid) country_name) (value ∷ []) []

-- those of a SET's attributes
unfoldable pub countries_in : Trees → List Tree
countries_in none = []
countries_in (more attribute rest) = country_in attribute ++ countries_in rest

unfoldable pub set_in : Tree → List Tree
set_in (leaf tag c) = []
set_in (node tag attributes) = countries_in attributes

-- those of all the SETs
unfoldable pub countries_of : Trees → List Tree
countries_of none = []
countries_of (more set rest) = set_in set ++ countries_of rest
