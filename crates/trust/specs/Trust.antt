-- What more trust can do: two questions alike but that some verdicts for links or signers went from 0 to 1, or that disabled anchors
-- which vouch for no CRL were enabled. A chain found stays found, and the chain shown gets no longer.
use Rattle.std.specs.Prelude.{ℕ, ◌<◌, ◌≤◌, ◌≡◌, Bool, true, false, List, ◌⊎◌, length}
use Rattle.graph.specs.Chains.{Graph, Chain, Best}
use Rattle.image.specs.Items.{Item}
use Rattle.usable.specs.Items.{item_at}
use Rattle.chain.specs.Good.{chains}

-- what good chains are asked over
pub record Question : Type 0 where
  pub items : List Item
  pub verdict : ℕ → ℕ → Bool
  pub moment : ℕ

-- a place of its list; verdicts are asked of such places alone, since a table has an octet for no other pair
abbrev pub Place : Question → ℕ → Type 0
Place q p = p < length q.items

abbrev pub chains_of : Question → Graph
chains_of q = chains q.items q.verdict q.moment

-- one verdict, for a link or a signer, went from 0 to 1; all else is the same
pub record OneVerdict (q r : Question) : Type 0 where
  pub from : ℕ
  pub to : ℕ
  pub signed : ((item_at q.items to).kind ≡ 2) ⊎ ((item_at q.items to).kind ≡ 3)
  pub before : q.verdict from to ≡ false
  pub after : r.verdict from to ≡ true
  pub others : (u v : ℕ) → Place q u → Place q v → ((u ≡ from) × (v ≡ to) → ⊥) → q.verdict u v ≡ r.verdict u v
  pub items : q.items ≡ r.items
  pub moment : q.moment ≡ r.moment

-- one anchor that was disabled and has verdict 1 for no CRL was enabled; all else is the same
pub record OneAnchor (q r : Question) : Type 0 where
  pub place : ℕ
  pub anchor : (item_at q.items place).kind ≡ 1
  pub disabled : (item_at q.items place).flags ≡ 0
  pub enabled : (item_at r.items place).flags ≡ 1
  pub silent : (crl : ℕ) → (item_at q.items crl).kind ≡ 4 → q.verdict place crl ≡ false
  pub kind : (item_at r.items place).kind ≡ 1
  pub bytes : (item_at r.items place).bytes ≡ (item_at q.items place).bytes
  pub others : (p : ℕ) → (p ≡ place → ⊥) → item_at q.items p ≡ item_at r.items p
  pub many : length q.items ≡ length r.items
  pub verdicts : (u v : ℕ) → Place q u → Place q v → q.verdict u v ≡ r.verdict u v
  pub moment : q.moment ≡ r.moment

-- alike but for such changes, none, one or several
pub data MoreTrust : Question → Question → Type 0 where
  alike : {q : Question} → MoreTrust q q
  verdict : {q r : Question} → OneVerdict q r → MoreTrust q r
  anchor : {q r : Question} → OneAnchor q r → MoreTrust q r
  several : {q r s : Question} → MoreTrust q r → MoreTrust r s → MoreTrust q s

-- each chain found stays found; the best afterwards is not longer than the best before
pub record Keeps (q r : Question) (target : ℕ) : Type 0 where
  pub found : (c : List ℕ) → Chain (chains_of q) target c → Chain (chains_of r) target c
  pub no_longer : (c d : List ℕ) → Best (chains_of q) target c → Best (chains_of r) target d → length d ≤ length c
