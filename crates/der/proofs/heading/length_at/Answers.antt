-- A first length octet below 128 is the length.
use borrow.Author.Tests.{lt-leb, lt-ltb, le-ltb}
use Rattle.der.specs.Heading.{sized}
use Rattle.der.proofs.heading.length_at.Goals as goal

pub returns-then-first-lt128 : goal.returns-then-first-lt128
unfolding sized
returns-then-first-lt128 c = λ forms e. simp (lt-leb _ _ c.requires.1, lt-ltb _ _ c.if-first-lt128.true) c.ending.ensures

pub returns : goal.returns
unfolding sized
returns c = λ forms e. simp (lt-leb _ _ c.requires.1, le-ltb _ _ c.if-first-lt128.false) (c.long_length.ensures forms e)
