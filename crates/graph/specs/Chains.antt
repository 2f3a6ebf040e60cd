-- Good chains over places, and the best of them. Nothing here speaks of a search.
use Rattle.std.specs.Prelude.{ℕ, ◌<◌, ◌+◌, ◌*◌, ◌≡◌, Bool, true, cond, List, [], ◌∷◌, ◌⊎◌, leb, eqb, length, get_or}

-- what each of so many places may be in a chain, and which steps between two of them are good
pub record Graph : Type 0 where
  pub places : ℕ
  pub anchor : ℕ → Bool
  pub link : ℕ → Bool
  pub signer : ℕ → Bool
  pub step : ℕ → ℕ → Bool

-- from a place on: any number of links, then the signer asked for, each step good
pub data Onward (g : Graph) (target : ℕ) : ℕ → List ℕ → Type 0 where
  ends : {u : ℕ} → target < g.places → g.signer target ≡ true → g.step u target ≡ true → Onward g target u (target ∷ [])
  goes :
      {u v : ℕ} {rest : List ℕ} → v < g.places → g.link v ≡ true → g.step u v ≡ true → Onward g target v rest
      → Onward g target u (v ∷ rest)

-- a good chain: an anchor, then on to the signer
pub data Chain (g : Graph) (target : ℕ) : List ℕ → Type 0 where
  chain :
      {u : ℕ} {rest : List ℕ} → u < g.places → g.anchor u ≡ true → Onward g target u rest → Chain g target (u ∷ rest)

-- two chains of equal length, read from the anchor: at the first place where they differ the smaller number comes first
pub data NotLater : List ℕ → List ℕ → Type 0 where
  done : NotLater [] []
  less : {a b : ℕ} {p q : List ℕ} → a < b → NotLater (a ∷ p) (b ∷ q)
  same : {a : ℕ} {p q : List ℕ} → NotLater p q → NotLater (a ∷ p) (a ∷ q)

-- good, none shorter, and among those as short the first
pub record Best (g : Graph) (target : ℕ) (c : List ℕ) : Type 0 where
  pub good : Chain g target c
  pub least : (d : List ℕ) → Chain g target d → (length c < length d) ⊎ ((length c ≡ length d) × NotLater c d)

-- the graph that roles and steps tell: role 1 an anchor, 2 a link, 3 a signer; at most 96 places
abbrev pub graph_by : ℕ → List ℕ → (ℕ → ℕ → Bool) → Graph
graph_by places roles step =
    record {
      places = cond (leb places 96) places 0;
      anchor = λ u. eqb (get_or roles u 0) 1;
      link = λ u. eqb (get_or roles u 0) 2;
      signer = λ u. eqb (get_or roles u 0) 3;
      step = step;
    }

-- the same by a table of steps: 96 rows, the signers, of 96 columns, the signed, 1 for a good step
abbrev pub graph_of : ℕ → List ℕ → List ℕ → Graph
graph_of places roles steps = graph_by places roles (λ u v. eqb (get_or steps (u * 96 + v) 0) 1)
