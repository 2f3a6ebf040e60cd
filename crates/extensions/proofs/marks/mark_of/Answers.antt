-- The mark is worked out as it is defined; of no octets it is 0.
use Prim.Native.Nat.{ℕ}
use mathlib.Core.List.{List, [], ◌∷◌}
use mathlib.Core.Path.{◌≡◌, refl, ap, ◌∙◌}
use native.Mathlib.Omega.{arith}
use lib.ListN.{length}
use Rattle.extensions.specs.Strange.{mark_of, own_oid}
use Rattle.extensions.proofs.marks.mark_of.Goals as goal

none-marked : (o : List ℕ) → length o ≡ 0 → 0 ≡ mark_of o
unfolding mark_of
none-marked [] h = refl
none-marked (x ∷ rest) h = absurd (omega arith)

pub returns-in_default : goal.returns-in_default
unfolding mark_of own_oid
returns-in_default c = record { is = rw c.in_default.is; low = omega arith }

pub returns-then-n-eq0 : goal.returns-then-n-eq0
unfolding own_oid
returns-then-n-eq0 c = record { is = rw c.in-Some.is (none-marked _ c.if-n-eq0.true ∙ ap mark_of c.contents-own.ensures); low = omega arith }

pub returns : goal.returns
unfolding own_oid mark_of
returns c = record { is = rw (c.in-Some.is, ← c.contents-own.ensures); low = omega arith }
