-- What is tested of a proposed chain, over the tables of roles and rows. No public promise cites this: that it tells the good chains
-- from the others is proved.
use Rattle.std.specs.Prelude.{ℕ, ◌+◌, ◌<◌, ◌≤◌, ◌≡◌, Bool, true, false, cond, List, ◌⊎◌, eqb, length, get_or}
use Rattle.usable.specs.declared.opened.Row.{Row}
use Rattle.usable.specs.Rows.{row_at, fits_of}
use Rattle.usable.specs.Table.{verdict_in}

-- whether something is so
pub data Decides (A : Type 0) : Bool → Type 0 where
  yes : A → Decides A true
  no : (A → ⊥) → Decides A false

-- 2 to 96 places, all in the image
pub record InRange (n : ℕ) (c : List ℕ) : Type 0 where
  pub two : 2 ≤ length c
  pub most : length c ≤ 96
  pub inside : (i : ℕ) → i < length c → get_or c i 0 < n

-- some slots are 1 now, among them each place that the proposal names
pub record Named (c before near : List ℕ) : Type 0 where
  pub kept : (p : ℕ) → (get_or near p 0 ≡ 1) ⊎ (get_or near p 0 ≡ get_or before p 0)
  pub named : (i : ℕ) → i < length c → get_or near (get_or c i 0) 0 ≡ 1

-- a CRL that is open and within its times
unfoldable pub list_of : Row → Bool
list_of row = eqb row.standing 4

-- some slots are 1 now, among them each anchor that waits and has verdict 1 for one of the CRLs
pub record Vouching (n : ℕ) (table : List ℕ) (lists : List Bool) (before near : List ℕ) : Type 0 where
  pub kept : (p : ℕ) → (get_or near p 0 ≡ 1) ⊎ (get_or near p 0 ≡ get_or before p 0)
  pub heard :
      (u v : ℕ) → u < n → v < n → get_or lists v false ≡ true → verdict_in n table u v ≡ true → get_or before u 0 ≡ 2 → get_or near u 0 ≡ 1

-- the role that is asked of a place before the last: the first an anchor, the others links
unfoldable pub role_asked : ℕ → ℕ
role_asked i = cond (eqb i 0) 1 2

-- each place before the last has its role
abbrev pub RolesFit : List ℕ → List ℕ → Type 0
RolesFit roles c = (i : ℕ) → i + 1 < length c → get_or roles (get_or c i 0) 0 ≡ role_asked i

-- verdict 1, and the second row fits the first
unfoldable pub joined : (Row → List ℕ) → ℕ → List ℕ → List (List ℕ) → ℕ → ℕ → Bool
joined held n table rows u v = cond (verdict_in n table u v) (fits_of held (row_at rows u) (row_at rows v)) false

-- each place and the next are
abbrev pub StepsFit : (Row → List ℕ) → ℕ → List ℕ → List (List ℕ) → List ℕ → Type 0
StepsFit held n table rows c = (i : ℕ) → i + 1 < length c → joined held n table rows (get_or c i 0) (get_or c (i + 1) 0) ≡ true
