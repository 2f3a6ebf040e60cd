-- The number that a serial's contents write.
use Rattle.std.specs.Prelude.{ℕ, ◌≤◌, ◌≡◌, List, pos, length}
use Rattle.octets.specs.Octets.{twos}

-- one to 20 octets which, as two's complement, write a number above zero
pub record Positive (contents : List ℕ) : Type 0 where
  pub some : 1 ≤ length contents
  pub short : length contents ≤ 20
  pub value : ℕ
  pub writes : twos contents ≡ pos value
  pub above : 1 ≤ value
