-- What holds at the start of a round holds at that of the next, and what a round settles is the answer.
use Prim.Native.Nat.{ℕ}
use mathlib.Core.Path.{◌≡◌, refl, sym, ap, ◌∙◌}
use mathlib.Core.List.{List}
use native.Mathlib.Omega.{arith}
use lib.ListN.{get_or}
use Rattle.std.proofs.lemmas.Bool.Decides.{Decides-eqb}
use Rattle.std.proofs.lemmas.Slice.Eq.{slice_eq-Decides}
use Rattle.chain.proofs.ImageRounds.{first_round, next-round, no-signer, direct-answer, round-answer, closed-answer, no-last-step}
use Rattle.chain.proofs.RoundsHold.{settled, unsettled, unasked}
use Rattle.chain.proofs.rounds.chain_home.Goals as goal

pub bounds-signer-1 : goal.bounds-signer-1
bounds-signer-1 c = omega arith

pub bounds-signer-2 : goal.bounds-signer-2
bounds-signer-2 c = omega arith

pub near_first-near-requires : goal.near_first-near-requires
near_first-near-requires c = (c.requires.0, c.requires.1, c.requires.2)

pub open_first-requires : goal.open_first-requires
open_first-requires c = (c.requires.0, c.requires.1, c.requires.2, c.requires.3, refl)

pub bounds-roles-target : goal.bounds-roles-target
bounds-roles-target c = omega (arith, c.requires.2, c.requires.3)

pub returns-then-roles-target-ne3 : goal.returns-then-roles-target-ne3
returns-then-roles-target-ne3 c =
    no-signer _ _ _ _ _ c.requires.1 {roles = c.roles_of-roles.result}
    (first_round _ _ _ _ _ c.requires.1 c.near_first-near.ensures c.args.signer c.requires.2 c.requires.3 c.requires.4 c.requires.5 c.requires.6
    c.open_first.ensures.1 (c.counting_lists-counting.ensures.0 c.requires.2) (c.roles_of-roles.ensures.0 c.requires.2))
    c.requires.3 c.if-roles-target-ne3.true c.no_chain.ensures

pub direct_chain-direct-requires : goal.direct_chain-direct-requires
direct_chain-direct-requires c = (c.requires.2, c.requires.3)

pub returns-then-direct-ne0 : goal.returns-then-direct-ne0
returns-then-direct-ne0 c =
    direct-answer _ _ _ _ _ c.requires.1
    (first_round _ _ _ _ _ c.requires.1 c.near_first-near.ensures c.args.signer c.requires.2 c.requires.3 c.requires.4 c.requires.5 c.requires.6
    c.open_first.ensures.1 (c.counting_lists-counting.ensures.0 c.requires.2) (c.roles_of-roles.ensures.0 c.requires.2))
    c.requires.3 c.if-roles-target-ne3.false (c.direct_chain-direct.ensures c.if-direct-ne0.true)

pub loop-near-init : goal.loop-near-init
loop-near-init c =
    record {
      own = c.requires.0;
      all = c.requires.1;
      small = c.requires.2;
      there = c.requires.3;
      early = omega arith;
      slots = c.open_first.ensures.0;
      holds =
          first_round _ _ _ _ _ c.requires.1 c.near_first-near.ensures c.args.signer c.requires.2 c.requires.3 c.requires.4 c.requires.5 c.requires.6
          c.open_first.ensures.1 (c.counting_lists-counting.ensures.0 c.requires.2) (c.roles_of-roles.ensures.0 c.requires.2);
    }

pub overflow_add-round : goal.overflow_add-round
overflow_add-round c = omega (arith, c.loop-near.invariant.early)

pub near_next-wider-requires : goal.near_next-wider-requires
near_next-wider-requires c = c.loop-near.invariant.small

pub open_items-requires : goal.open_items-requires
open_items-requires c = let i = c.loop-near.invariant in (i.own, i.all, i.small, i.slots)

pub led_to-requires : goal.led_to-requires
led_to-requires c = let i = c.loop-near.invariant in (i.small, i.there)

pub returns-then-not-led_to : goal.returns-then-not-led_to
returns-then-not-led_to c =
    let i = c.loop-near.invariant in
    no-last-step _ _ _ _ _ i.all
    (next-round _ _ _ _ _ i.all i.holds c.near_next-wider.ensures i.there c.open_items.ensures.1
    (c.roles_of-known.ensures.0 i.small))
    (c.led_to.ensures c.if-not-led_to.true) (omega arith) c.no_chain-then-not-led_to.ensures

pub worthwhile-requires : goal.worthwhile-requires
worthwhile-requires c = c.loop-near.invariant.small

pub enough-requires : goal.enough-requires
enough-requires c = omega (arith, c.loop-near.invariant.early)

pub returns-then-enough : goal.returns-then-enough
returns-then-enough c =
    let i = c.loop-near.invariant in
    round-answer _ _ _ _ _ i.all
    (next-round _ _ _ _ _ i.all i.holds c.near_next-wider.ensures i.there c.open_items.ensures.1
    (c.roles_of-known.ensures.0 i.small))
    i.small c.chain_to-found.ensures (settled _ _ (sym c.enough.ensures ∙ c.if-enough.true))

pub loop-near-smaller-else-enough : goal.loop-near-smaller-else-enough
loop-near-smaller-else-enough c = omega (arith, c.loop-near.invariant.early)

pub loop-near-preserved-else-enough : goal.loop-near-preserved-else-enough
loop-near-preserved-else-enough c =
    let i = c.loop-near.invariant in
    let z = unsettled _ _ (sym c.enough.ensures ∙ c.if-enough.false) in
    record {
      own = i.own;
      all = i.all;
      small = i.small;
      there = i.there;
      early = omega (arith, z, i.early);
      slots = c.open_items.ensures.0;
      holds =
          next-round _ _ _ _ _ i.all i.holds c.near_next-wider.ensures i.there c.open_items.ensures.1
          (c.roles_of-known.ensures.0 i.small);
    }

pub loop-near-smaller : goal.loop-near-smaller
loop-near-smaller c = omega (arith, c.loop-near.invariant.early)

pub loop-near-preserved : goal.loop-near-preserved
loop-near-preserved c =
    let i = c.loop-near.invariant in
    let z = unasked c.worthwhile.ensures c.if-worthwhile.false in
    record {
      own = i.own;
      all = i.all;
      small = i.small;
      there = i.there;
      early = omega (arith, z, i.early);
      slots = c.open_items.ensures.0;
      holds =
          next-round _ _ _ _ _ i.all i.holds c.near_next-wider.ensures i.there c.open_items.ensures.1
          (c.roles_of-known.ensures.0 i.small);
    }

pub returns-then-eq : goal.returns-then-eq
returns-then-eq c =
    let i = c.loop-near.invariant in
    let same : c.loop-near.near ≡ c.near_next-wider.result = (slice_eq-Decides Decides-eqb _ _ _ c.eq.ensures).0 c.if-eq.true in
    closed-answer _ _ _ _ _ i.all i.holds c.near_next-wider.ensures i.small c.chain_to.ensures
    (λ p h. ap (λ (near : List ℕ). get_or near p 0) same)
