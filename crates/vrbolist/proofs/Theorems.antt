-- No second answer fits the promise of the question for a chain, or that of a proposal: the answer that is told has none. So both searches
-- tell the same.
use Prim.Native.Nat.{ℕ}
use mathlib.Core.Path.{◌≡◌, sym, ap, ◌∙◌}
use mathlib.Core.List.{List}
use Rattle.chain.specs.declared.Answer.{Answer}
use Rattle.chain.proofs.Theorems as chain
use Rattle.vrbolist.specs.declared.told.ToldAnswer.{ToldAnswer}
use Rattle.chain.proofs.SignersTheorems as signers
use Rattle.vrbolist.specs.declared.chains.ChainAnswer.{ChainAnswer}
use Rattle.vrbolist.specs.declared.signers.SignersAnswer.{SignersAnswer}
use Rattle.vrbolist.specs.Signers as all
use Rattle.vrbolist.specs.Chains.{chain_told, Forwarded, forwarded}
use Rattle.vrbolist.specs.Proposals.{proposal_told, Weighed, weighed}

told_same :
    (a b : Answer) → a.outcome ≡ b.outcome → a.length ≡ b.length → a.places ≡ b.places → chain_told a ≡ chain_told b
unfolding chain_told
told_same a b e f g = rw (e, f, g)

pub one_answer :
    (s table : List ℕ) (moment target : ℕ) (r q : ChainAnswer) → Forwarded s table moment target r
    → Forwarded s table moment target q → r ≡ q
one_answer s table moment target r q (forwarded a e f) (forwarded b g h) =
    let o = chain.one_answer s table moment target a b e g in
    f ∙ told_same a b o.0 o.1 o.2 ∙ sym h

pub one-verdict :
    (s table : List ℕ) (moment target : ℕ) (places : List ℕ) (r q : ToldAnswer) → Weighed s table moment target places r
    → Weighed s table moment target places q → r ≡ q
one-verdict s table moment target places r q (weighed a e f) (weighed b g h) =
    f ∙ ap proposal_told (chain.one-verdict s table moment target places a b e g) ∙ sym h

-- So what `vrbolist_chain` and `vrbolist_chain_by_rounds` answer to one question, each by its own search, is the same.
pub same-engines :
    (s table : List ℕ) (moment target : ℕ) (queue rounds : ChainAnswer) → Forwarded s table moment target queue
    → Forwarded s table moment target rounds → queue ≡ rounds
same-engines = one_answer

-- No second answer and no second output fit the promise of every signer in one call.
pub one-output :
    (s table : List ℕ) (moment : ℕ) {old out other : List ℕ} (r q : SignersAnswer) → all.AllForwarded s table moment old out r
    → all.AllForwarded s table moment old other q → (r ≡ q) × (out ≡ other)
one-output s table moment r q (all.forwarded a e f) (all.forwarded b g h) =
    let o = signers.one-output s table moment e g in
    (f ∙ ap all.signers_told o.0 ∙ sym h, o.1)
