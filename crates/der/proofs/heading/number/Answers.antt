-- As many octets as there are, each weighing 256 times less than the one before it.
use Prim.Native.Nat.{ℕ, ◌≤◌}
use mathlib.Core.List.{List}
use mathlib.Core.Path.{◌≡◌, sym, ◌∙◌, ap}
use native.Mathlib.Omega.{arith}
use lib.ListN.{length, take}
use lib.Seq.{take_all}
use Rattle.octets.specs.Octets.{number}
use Rattle.der.proofs.LengthOctets.{one-octet, two-octets, three-octets}
use Rattle.der.proofs.heading.number.Goals as goal

whole : (k : ℕ) (c : List ℕ) → length c ≤ k → number (take k c) ≡ number c
whole k c h = ap number (take_all k c h)

pub returns-in-len1 : goal.returns-in-len1
returns-in-len1 c = sym (one-octet c.args.c.now 0 (omega arith)) ∙ whole 1 _ (omega arith)

pub returns-in-len2 : goal.returns-in-len2
returns-in-len2 c = sym (two-octets c.args.c.now 0 (omega arith)) ∙ whole 2 _ (omega arith)

pub returns-in-len3 : goal.returns-in-len3
returns-in-len3 c = sym (three-octets c.args.c.now 0 (omega arith)) ∙ whole 3 _ (omega arith)

pub returns-in_default : goal.returns-in_default
unfolding number
returns-in_default c = whole 0 c.args.c.now (omega (arith, c.in_default.len_below))
