-- X.690 11.6: the members of a SET stand in ascending order of their encodings.
use Rattle.std.specs.Prelude.{ℕ, Bool, true, false, cond, List, [], ◌∷◌, ltb, eqb, get_or, drop}

-- One encoding is smaller than another: octet by octet from the first, the shorter padded with zero octets. Nothing is smaller
-- than no octets.
unfoldable pub smaller : List ℕ → List ℕ → Bool
smaller a [] = false
smaller a (y ∷ b) = cond (ltb (get_or a 0 0) y) true (cond (eqb (get_or a 0 0) y) (smaller (drop 1 a) b) false)

-- universal 17
unfoldable pub is_set : ℕ → Bool
is_set tag = eqb tag 49

-- what a member hands on for the test of the next: its octets inside a SET, none where no order is asked
unfoldable pub handed : Bool → List ℕ → List ℕ
handed set member = cond set member []
