-- What is demanded of a chain that is shown, clause by clause, over the good chains of an image's items. That every chain shown has
-- it is proved (`demand-three` in `proofs/Theorems.antt`).
use Rattle.std.specs.Prelude.{ℕ, ◌+◌, ◌<◌, ◌≤◌, ◌≡◌, true, List, length, get_or, Ok}
use Rattle.certificate.specs.declared.Fields.{Fields}
use Rattle.certificate.specs.Answer.{judged_of}
use Rattle.graph.specs.Chains.{Chain, NotLater}
use Rattle.image.specs.Items.{Item}
use Rattle.image.specs.Index.{entry_count, items_in}
use Rattle.chain.specs.Answer.{good_chains}
use Rattle.usable.specs.Items.{item_at}
use Rattle.usable.specs.Steps.{good_step}
use Rattle.usable.specs.Table.{verdict_in}
use Rattle.usable.specs.Usable.{usable}

-- an anchor that is enabled, passes its profile, and has the moment within its times
pub record EnabledAnchor (items : List Item) (moment place : ℕ) : Type 0 where
  pub anchor : (item_at items place).kind ≡ 1
  pub enabled : (item_at items place).flags ≡ 1
  pub fields : Fields
  pub passes : judged_of (item_at items place).bytes 1 ≡ Ok fields
  pub started : fields.start ≤ moment
  pub lasting : moment ≤ fields.end

-- a link (kind 2) or a signer (kind 3) that is usable
pub record UsableAs (kind : ℕ) (s table : List ℕ) (moment place : ℕ) : Type 0 where
  pub is : (item_at (items_in s) place).kind ≡ kind
  pub may : usable (items_in s) (verdict_in (entry_count s) table) moment place ≡ true

-- places are counted from 0, so that the last one's number and 1 is the length
pub record Demanded (s table : List ℕ) (moment target : ℕ) (c : List ℕ) : Type 0 where
  -- a good chain
  pub good : Chain (good_chains s table moment) target c
  -- it starts at an enabled anchor
  pub starts : EnabledAnchor (items_in s) moment (get_or c 0 0)
  -- then come usable links
  pub links : (i : ℕ) → 0 < i → i + 1 < length c → UsableAs 2 s table moment (get_or c i 0)
  -- and it ends at the signer asked for, which is usable
  pub ends : (i : ℕ) → i + 1 ≡ length c → get_or c i 0 ≡ target
  pub signer : UsableAs 3 s table moment target
  -- each step is good
  pub steps :
      (i : ℕ) → i + 1 < length c
      → good_step (items_in s) (verdict_in (entry_count s) table) (get_or c i 0) (get_or c (i + 1) 0) ≡ true
  -- 2 to 96 places
  pub two : 2 ≤ length c
  pub most : length c ≤ 96
  -- each of them in the image, and none twice
  pub inside : (i : ℕ) → i < length c → get_or c i 0 < entry_count s
  pub once : (i j : ℕ) → i < j → j < length c → get_or c i 0 ≡ get_or c j 0 → ⊥
  -- none of the good chains is shorter
  pub shortest : (d : List ℕ) → Chain (good_chains s table moment) target d → length c ≤ length d
  -- and of those as short it is the first by place number, read from the anchor
  pub first : (d : List ℕ) → Chain (good_chains s table moment) target d → length d ≡ length c → NotLater c d
