-- What more trust can do, and what a longer list can: over good chains, and over the answers of two calls.
use Prim.Native.Nat.{ℕ, ◌+◌, ◌*◌, ◌<◌, ◌≤◌}
use mathlib.Core.Path.{◌≡◌}
use mathlib.Core.List.{List}
use mathlib.Core.Logic.{◌⊎◌, ⊎_elim}
use native.Mathlib.Omega.{arith}
use lib.ListN.{length, get_or, set}
use Rattle.graph.specs.Chains.{Chain}
use Rattle.image.specs.Index.{entry_count, items_in}
use Rattle.usable.specs.Items.{item_at}
use Rattle.chain.specs.declared.Answer.{Answer}
use Rattle.chain.proofs.Theorems.{answer-sound, answer-complete, none-sound, none-complete}
use Rattle.trust.specs.Trust.{Question, chains_of, MoreTrust, alike, verdict, anchor, several, Keeps}
use Rattle.trust.specs.Lists.{MoreListed, StaysRefused}
use Rattle.trust.specs.Answers.{asks, Call, ShownStays, SevenStays}
use Rattle.trust.proofs.Carried.{carried}
use Rattle.trust.proofs.Verdicts.{verdict-within}
use Rattle.trust.proofs.Anchors.{anchor-within}
use Rattle.trust.proofs.Octets.{octet-verdict}
use Rattle.trust.proofs.Longer.{longer-within}

-- With more trust each good chain stays a good chain.
pub chain-stays : {q r : Question} → MoreTrust q r → (target : ℕ) (c : List ℕ) → Chain (chains_of q) target c → Chain (chains_of r) target c
chain-stays alike target c good = good
chain-stays (verdict o) target c good = carried (verdict-within o) c good
chain-stays (anchor o) target c good = carried (anchor-within o) c good
chain-stays (several first then) target c good = chain-stays then target c (chain-stays first target c good)

-- With more trust a chain found stays found, and the best one gets no longer.
pub trust-keeps : {q r : Question} → MoreTrust q r → (target : ℕ) → Keeps q r target
trust-keeps more target =
    record {
      found = chain-stays more target;
      no_longer = λ c d before after.
          ⊎_elim (λ less. omega (arith, less)) (λ same. omega (arith, same.0)) (after.least c (chain-stays more target c before.good));
    }

-- One octet of the table that goes from 0 to 1, for a link or a signer, is more trust.
pub octet-trusts :
    (s table : List ℕ) (moment from to : ℕ) → let n = entry_count s in
    from < n → to < n → length table ≡ n * n → get_or table (from * n + to) 0 ≡ 0
    → ((item_at (items_in s) to).kind ≡ 2) ⊎ ((item_at (items_in s) to).kind ≡ 3)
    → MoreTrust (asks s table moment) (asks s (set table (from * n + to) 1) moment)
octet-trusts s table moment from to h l many was signed = verdict (octet-verdict s table moment from to h l many was signed)

-- Where one counting CRL lists more, a signer without a good chain stays without one.
pub list-refuses : {q r : Question} → MoreListed q r → (target : ℕ) → StaysRefused q r target
list-refuses more target empty c good = empty c (carried (longer-within more) c good)

module _ {s table others ruling : List ℕ} {moment target : ℕ} {a b : Answer}
    (before : Call s table moment target a) (after : Call others ruling moment target b) where
  -- If the call before showed a chain of length k, the call with more trust shows one of length at most k.
  pub shown-stays : MoreTrust (asks s table moment) (asks others ruling moment) → ShownStays a b
  shown-stays more shown =
      let (c, best, with-c) = answer-sound s table moment target a before.answer shown in
      let keeps = trust-keeps more target in
      let still = answer-complete others ruling moment target b after.answer after.places after.version c after.good (keeps.found c best.good) in
      let (d, other, with-d) = answer-sound others ruling moment target b after.answer still in
      let short : length d ≤ length c = keeps.no_longer c d best other in
      (still, omega (arith, short, with-c.many, with-d.many))

  -- If the call before was refused with 7, so is the call in whose image one counting CRL lists more.
  pub seven-stays : MoreListed (asks s table moment) (asks others ruling moment) → SevenStays a b
  seven-stays more seven =
      let (question, empty) = none-sound s table moment target a before.answer seven in
      none-complete others ruling moment target b after.answer after.places after.version after.good (list-refuses more target empty)
