-- Each number has four octets where its place is below a quarter of them, and the places that are left grow fewer.
use native.Mathlib.Omega.{arith}
use lib.ListN.{length-set}
use Rattle.cases.proofs.writing.read_lengths.Goals as goal

pub returns-then-octets-i : goal.returns-then-octets-i
returns-then-octets-i c = tt

pub number-requires : goal.number-requires
number-requires c = tt

pub loop-i-smaller : goal.loop-i-smaller
loop-i-smaller c = simp length-set (omega arith)

pub returns : goal.returns
returns c = tt
