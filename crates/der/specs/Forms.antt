-- The limits and forms that a walk goes by, and those of the rules paper.
use Rattle.std.specs.Prelude.{ℕ, Bool, false}

pub record Forms : Type 0 where
  -- the octets of an item
  pub item_size : ℕ
  -- the depth of an element; the outermost is at 1
  pub depth : ℕ
  -- the elements of an item
  pub elements : ℕ
  -- the octets that a length in the long form may have after its first
  pub length_octets : ℕ
  -- whether a tag may have two octets
  pub wide_tags : Bool

abbrev pub paper : Forms
paper = record { item_size = 16384; depth = 16; elements = 4096; length_octets = 2; wide_tags = false }
