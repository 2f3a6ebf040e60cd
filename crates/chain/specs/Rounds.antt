-- Which items a round opens, and what it makes of its tables. No public promise cites this: that what stays shut changes no answer is
-- proved.
use Rattle.std.specs.Prelude.{ℕ, ◌+◌, ◌<◌, ◌≡◌, Bool, true, false, cond, List, [], ◌∷◌, ◌++◌, eqb, leb, get_or, replicate}
use Rattle.graph.specs.declared.Found.{Found}
use Rattle.image.specs.Items.{Item}
use Rattle.image.specs.Index.{entry_in}
use Rattle.usable.specs.declared.opened.Row.{Row}
use Rattle.usable.specs.Items.{item_at, some_below}
use Rattle.usable.specs.Country.{home_of}
use Rattle.usable.specs.Table.{verdict_in}
use Rattle.usable.specs.Rows.{row_of, row_at, step_of}
use Rattle.chain.specs.Near.{fresh_of}

-- the octet of an image at which the item of a place starts
unfoldable pub starts_in : List ℕ → ℕ → ℕ
starts_in s place = (entry_in s place).offset

-- a place that has verdict 1 for some other
unfoldable pub speaks_up : ℕ → List ℕ → ℕ → Bool
speaks_up n table place = some_below n (verdict_in n table place)

-- of the country, and an anchor such that a verdict leads on from it
unfoldable pub here_of : ℕ → ℕ → ℕ → List ℕ → List Item → ℕ → Bool
here_of first second n table items place =
    cond (eqb (item_at items place).kind 1) (cond (speaks_up n table place) (home_of first second (item_at items place)) false)
    (home_of first second (item_at items place))

-- of links and signers this is not asked
unfoldable pub wanted_of : ℕ → ℕ → ℕ → List ℕ → List Item → ℕ → Bool
wanted_of first second n table items place =
    cond (eqb (item_at items place).kind 2) true
    (cond (eqb (item_at items place).kind 3) true
    (here_of first second n table items place))

-- the row of a place that was not near before and is wanted, any other as it was; the items start at the octets `at`
unfoldable pub row_in : ℕ → ℕ → ℕ → ℕ → List ℕ → List Item → (ℕ → ℕ) → List ℕ → List ℕ → List (List ℕ) → ℕ → Row
row_in moment first second n table items at before near rows p =
    cond (fresh_of (get_or before p 0) (get_or near p 0))
    (cond (wanted_of first second n table items p) (row_of moment (item_at items p) (at p)) (row_at rows p))
    (row_at rows p)

abbrev pub Opens : ℕ → ℕ → ℕ → ℕ → List ℕ → List Item → (ℕ → ℕ) → List ℕ → List ℕ → List (List ℕ) → List (List ℕ) → Type 0
Opens moment first second n table items at before near rows more =
    (p : ℕ) → p < n → row_at more p ≡ row_in moment first second n table items at before near rows p

-- the chain of the first anchor that has a good step to the target
pub record Direct (held : Row → List ℕ) (n : ℕ) (table : List ℕ) (rows : List (List ℕ)) (roles : List ℕ) (target : ℕ) (r : Found) : Type 0 where
  pub from : ℕ
  pub inside : from < n
  pub anchor : get_or roles from 0 ≡ 1
  pub good : step_of held n table rows roles from target ≡ true
  pub first : (u : ℕ) → u < from → get_or roles u 0 ≡ 1 → step_of held n table rows roles u target ≡ false
  pub count : r.length ≡ 2
  pub slots : r.places ≡ (from ∷ target ∷ []) ++ replicate 94 255

-- whether a chain of so many places settles a round
unfoldable pub enough_of : ℕ → ℕ → Bool
enough_of round length = cond (eqb round 4) true (cond (eqb length 0) false (leb length (round + 2)))
