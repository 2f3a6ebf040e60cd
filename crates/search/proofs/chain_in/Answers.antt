-- The tables give the best chain, or tell that there is none; the tests before them leave no chain either.
use native.Mathlib.Omega.{arith}
use Rattle.graph.specs.Answer.{none}
use Rattle.graph.proofs.Answers.{unreached, reached}
use Rattle.graph.proofs.Targets.{no-such-place, no-signer}
use Rattle.search.proofs.QueuePaths.{searched}
use Rattle.search.proofs.Traces.{paths}
use Rattle.search.proofs.chain_in.Goals as goal

pub returns-then-places-target : goal.returns-then-places-target
returns-then-places-target c =
    let a = c.args in (
      λ step s. none (no-such-place a.places a.roles.now step a.target c.requires.places_bound c.if-places-target.true) c.no_chain.ensures,
      omega (arith, c.no_chain.ensures.empty),
    )

pub returns-then-roles-target-ne3 : goal.returns-then-roles-target-ne3
returns-then-roles-target-ne3 c =
    let a = c.args in (
      λ step s. none (no-signer a.places a.roles.now step a.target c.if-roles-target-ne3.true) c.no_chain-then-roles-target-ne3.ensures,
      omega (arith, c.no_chain-then-roles-target-ne3.ensures.empty),
    )

pub returns-then-parent-target : goal.returns-then-parent-target
returns-then-parent-target c = (
  λ step s. unreached c.args.places c.args.roles.now step c.requires.places_bound (searched s) c.if-parent-target.true c.no_chain-then-parent-target.ensures,
  omega (arith, c.no_chain-then-parent-target.ensures.empty),
)

pub path_places-slots-requires : goal.path_places-slots-requires
path_places-slots-requires c =
    let p = c.requires in
    record { places_bound = p.places_bound; target_lt_places = c.if-places-target.false; reached = c.if-parent-target.false; paths = p.paths }

pub returns : goal.returns
returns c =
    let p = c.requires in
    let below = c.if-places-target.false in
    let marked = c.if-parent-target.false in (
      λ step s.
          reached c.args.places c.args.roles.now step p.places_bound (searched s) below c.if-roles-target-ne3.false marked
          (s.grows _ below marked).far (c.path_places-slots.ensures (paths s)),
      omega (arith, p.paths.far _ below marked, p.paths.short _ below marked),
    )
