-- Each arm is the definition's answer for its tag; where none is met, the definition's tests all fail.
use borrow.Author.Tests.{ne_eqb}
use native.Mathlib.Omega.{arith}
use Rattle.der.specs.Contents.{contents_good}
use Rattle.der.proofs.contents.contents_good.Goals as goal

pub returns-in-1 : goal.returns-in-1
unfolding contents_good
returns-in-1 c = rw c.in-1.is c.boolean_good.ensures

pub returns-in-2 : goal.returns-in-2
unfolding contents_good
returns-in-2 c = rw c.in-2.is c.integer_good.ensures

pub returns-in-3 : goal.returns-in-3
unfolding contents_good
returns-in-3 c = rw c.in-3.is c.bit_string_good.ensures

pub returns-in-5 : goal.returns-in-5
unfolding contents_good
returns-in-5 c = rw c.in-5.is

pub returns-in-6 : goal.returns-in-6
unfolding contents_good
returns-in-6 c = rw c.in-6.is c.oid_good.ensures

pub returns-in_default : goal.returns-in_default
unfolding contents_good
returns-in_default c =
    simp (
      ne_eqb c.args.tag 1 (λ e. omega arith),
      ne_eqb c.args.tag 2 (λ e. omega arith),
      ne_eqb c.args.tag 3 (λ e. omega arith),
      ne_eqb c.args.tag 5 (λ e. omega arith),
      ne_eqb c.args.tag 6 (λ e. omega arith),
    )
