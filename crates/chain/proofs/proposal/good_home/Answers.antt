-- The tables tell what has a say in the proposal, so what fits them is a good chain, and each good chain fits.
use Prim.Native.Nat.{ℕ, ◌<◌}
use mathlib.Core.Path.{◌≡◌, refl, ap, ◌∙◌}
use native.Mathlib.Omega.{arith}
use lib.ListN.{get_or}
use Rattle.image.specs.Index.{entry_in}
use Rattle.image.specs.declared.IndexEntry.{IndexEntry}
use Rattle.image.proofs.Places.{entry-own}
use Rattle.chain.specs.Given.{no}
use Rattle.chain.proofs.ImageRounds.{given-tables, fits-good, good-fits}
use Rattle.chain.proofs.Proposals.{so, not_so, both_ways, range-more}
use Rattle.chain.proofs.proposal.good_home.Goals as goal
use Rattle.chain.proofs.proposal.good_home.Goals.{After-kinds_in}

-- the kinds are those of the image
kinds : (c : After-kinds_in) →
    let image = c.args.image.now in
    (p : ℕ) → p < 96 → get_or c.kinds_in.result p 0 ≡ (entry_in image p).kind
kinds c = λ p h. c.kinds_in.ensures p h ∙ ap (λ (e : IndexEntry). e.kind) (entry-own c.args.image.now c.requires.0 p)

pub near_named-near-requires : goal.near_named-near-requires
near_named-near-requires c = range-more _ c.requires.2 c.requires.7

pub open_first-requires : goal.open_first-requires
open_first-requires c = (c.requires.0, c.requires.1, c.requires.2, c.requires.3, refl)

pub open_lists-requires : goal.open_lists-requires
open_lists-requires c = c.requires.2

pub near_vouching-wider-requires : goal.near_vouching-wider-requires
near_vouching-wider-requires c = c.requires.2

pub open_items-requires : goal.open_items-requires
open_items-requires c =
    (c.requires.0, c.requires.1, c.requires.2, c.open_first.ensures.0)

pub bounds-roles-target : goal.bounds-roles-target
bounds-roles-target c = omega (arith, c.requires.2, c.requires.3)

pub returns-then-roles-target-ne3 : goal.returns-then-roles-target-ne3
returns-then-roles-target-ne3 c =
    let tables =
    given-tables _ _ _ _ _ c.requires.1 c.args.signer _ c.kinds_in.result _ _ _ _ _ c.roles_of-roles.result _ _ c.requires.2 c.requires.3 c.requires.4 c.requires.5 c.requires.6
    c.requires.7 c.requires.8 (kinds (goal.at.returns-then-roles-target-ne3 c).After-kinds_in) c.near_lists.ensures c.near_named-near.ensures c.open_first.ensures.1
    c.open_lists.ensures c.near_vouching-wider.ensures c.open_items.ensures.1
    (c.counting_lists-counting.ensures.0 c.requires.2) (c.roles_of-roles.ensures.0 c.requires.2) in
    no (λ d. c.if-roles-target-ne3.true (good-fits _ _ _ _ _ c.requires.1 tables c.requires.7 d).0)

pub roles_fit-requires : goal.roles_fit-requires
roles_fit-requires c = range-more _ c.requires.2 c.requires.7

pub returns-then-not-roles_fit : goal.returns-then-not-roles_fit
returns-then-not-roles_fit c =
    let tables =
    given-tables _ _ _ _ _ c.requires.1 c.args.signer _ c.kinds_in.result _ _ _ _ _ c.roles_of-roles.result _ _ c.requires.2 c.requires.3 c.requires.4 c.requires.5 c.requires.6
    c.requires.7 c.requires.8 (kinds (goal.at.returns-then-not-roles_fit c).After-kinds_in) c.near_lists.ensures c.near_named-near.ensures c.open_first.ensures.1
    c.open_lists.ensures c.near_vouching-wider.ensures c.open_items.ensures.1
    (c.counting_lists-counting.ensures.0 c.requires.2) (c.roles_of-roles.ensures.0 c.requires.2) in
    no (λ d. not_so c.roles_fit.ensures c.if-not-roles_fit.true (good-fits _ _ _ _ _ c.requires.1 tables c.requires.7 d).1)

pub steps_fit-requires : goal.steps_fit-requires
steps_fit-requires c = (c.requires.2, c.requires.7)

pub returns : goal.returns
returns c =
    let tables =
    given-tables _ _ _ _ _ c.requires.1 c.args.signer _ c.kinds_in.result _ _ _ _ _ c.roles_of-roles.result _ _ c.requires.2 c.requires.3 c.requires.4 c.requires.5 c.requires.6
    c.requires.7 c.requires.8 (kinds (goal.at.returns c).After-kinds_in) c.near_lists.ensures c.near_named-near.ensures c.open_first.ensures.1
    c.open_lists.ensures c.near_vouching-wider.ensures c.open_items.ensures.1
    (c.counting_lists-counting.ensures.0 c.requires.2) (c.roles_of-roles.ensures.0 c.requires.2) in
    both_ways
    (λ steps.
    fits-good _ _ _ _ _ c.requires.1 tables c.requires.7 c.requires.8 c.if-roles-target-ne3.false
    (so c.roles_fit.ensures c.if-not-roles_fit.false) steps)
    (λ d. (good-fits _ _ _ _ _ c.requires.1 tables c.requires.7 d).2) c.steps_fit.ensures
