-- What a longer list can do: two questions alike but that one counting CRL lists more serials beside the old ones, its issuer's country
-- the same. A signer without a chain stays without one. Its octets may differ in any other way: what is asked of the two is
-- what they report.
use Rattle.std.specs.Prelude.{ℕ, ◌≡◌, true, List, length, Ok}
use Rattle.der.specs.Forms.{paper}
use Rattle.crl.specs.declared.Fields.{Fields}
use Rattle.crl.specs.Answer.{judged_of}
use Rattle.crl.specs.Listed.{listed_of}
use Rattle.graph.specs.Chains.{Chain}
use Rattle.usable.specs.Items.{item_at}
use Rattle.usable.specs.Usable.{counts}
use Rattle.trust.specs.Trust.{Question, Place, chains_of}

-- a CRL at a place, what it reports, and that it counts
pub record Counting (q : Question) (crl : ℕ) : Type 0 where
  pub fields : Fields
  pub passes : judged_of paper (item_at q.items crl).bytes ≡ Ok fields
  pub counting : counts q.items q.verdict q.moment crl ≡ true

pub record MoreListed (q r : Question) : Type 0 where
  pub crl : ℕ
  -- it counts in both
  pub before : Counting q crl
  pub after : Counting r crl
  -- the same letters
  pub first : before.fields.first ≡ after.fields.first
  pub second : before.fields.second ≡ after.fields.second
  -- every serial listed before is listed still
  pub listed :
      (serial : List ℕ)
      → listed_of paper (item_at q.items crl).bytes before.fields.entries_from before.fields.entries_end serial ≡ true
      → listed_of paper (item_at r.items crl).bytes after.fields.entries_from after.fields.entries_end serial ≡ true
  -- all else is the same
  pub others : (p : ℕ) → (p ≡ crl → ⊥) → item_at q.items p ≡ item_at r.items p
  pub many : length q.items ≡ length r.items
  pub verdicts : (u v : ℕ) → Place q u → Place q v → q.verdict u v ≡ r.verdict u v
  pub moment : q.moment ≡ r.moment

-- where no chain was good before, none is now
abbrev pub StaysRefused : Question → Question → ℕ → Type 0
StaysRefused q r target = ((c : List ℕ) → Chain (chains_of q) target c → ⊥) → (c : List ℕ) → Chain (chains_of r) target c → ⊥
