-- A tag of one octet is tried first, then one of two.
use mathlib.Core.Path.{sym, ◌∙◌}
use borrow.Author.Tests.{lt-ltb, le-ltb}
use Rattle.der.specs.Heading.{heading_of}
use Rattle.der.proofs.heading.header.Goals as goal

pub returns-then-s-lt2 : goal.returns-then-s-lt2
unfolding heading_of
returns-then-s-lt2 c = λ forms e t. simp (lt-ltb _ _ c.if-s-lt2.true)

pub returns-then-identifier : goal.returns-then-identifier
unfolding heading_of
returns-then-identifier c = λ forms e t. simp (le-ltb _ _ c.if-s-lt2.false, sym c.identifier.ensures ∙ c.if-identifier.true) (c.length_at.ensures forms e)

pub returns : goal.returns
unfolding heading_of
returns c = λ forms e t. simp (le-ltb _ _ c.if-s-lt2.false, sym c.identifier.ensures ∙ c.if-identifier.false) (c.wide_tagged.ensures forms e t)
