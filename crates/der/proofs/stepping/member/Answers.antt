-- The header is read from the part from `from` to `end`, within which its element ends, so no sum wraps.
use Rattle.std.specs.Prelude.{None}
use Prim.Native.Nat.{ℕ, ◌+◌, ◌≤◌, ◌<◌}
use mathlib.Core.Bool.{Bool, true, false, cond}
use mathlib.Core.List.{List}
use mathlib.Core.Logic.{◌⊎◌, ⊎_elim}
use mathlib.Core.Path.{◌≡◌, refl, sym, ◌∙◌}
use borrow.Author.Tests.{le-leb, lt-leb}
use native.Mathlib.Omega.{arith}
use lib.Dec.{leb}
use lib.ListN.{length}
use Rattle.der.specs.Forms.{paper}
use Rattle.der.specs.Member.{placed, member_of}
use Rattle.der.proofs.Bounds.{heading-within}
use Rattle.der.proofs.stepping.member.Goals as goal
use Rattle.der.proofs.stepping.member.Goals.{In_ok-tag}

-- the element ends within the part
ended : (c : In_ok-tag) → c.args.from + c.in_ok-tag.field-0.skip + c.in_ok-tag.field-0.size ≤ c.args.end
ended c = omega (arith, c.in_ok-get.ensures.lookup, heading-within paper _ _ _ _ (sym (c.header.ensures paper refl refl) ∙ c.in_ok-tag.was))

either : {A : Type 0} {x : A} (b : Bool) → x ≡ cond b x x
either true = refl
either false = refl

-- offsets that are none of a part
missed : (s : List ℕ) (from end : ℕ) → (end < from) ⊎ (length s < end) → None ≡ member_of paper s from end
unfolding member_of
missed s from end =
    ⊎_elim (λ h. simp (lt-leb _ _ h)) λ h. simp (lt-leb _ _ h) (either (leb from end))

pub returns-in_err-get : goal.returns-in_err-get
returns-in_err-get c = rw c.from_residual.ensures (missed _ _ _ c.in_err-get.ensures.lookup.0)

pub overflow_add-contents : goal.overflow_add-contents
overflow_add-contents c = omega (arith, ended (goal.at.overflow_add-contents c).In_ok-tag)

pub overflow_add-result : goal.overflow_add-result
overflow_add-result c = omega (arith, ended (goal.at.overflow_add-result c).In_ok-tag)

pub returns-in_err-tag : goal.returns-in_err-tag
unfolding member_of placed
returns-in_err-tag c =
    let (least, most, part, long) = c.in_ok-get.ensures.lookup.0 in
    rw c.from_residual-in_err-tag.ensures
    (simp (le-leb _ _ least, le-leb _ _ most, sym part, sym (c.header.ensures paper refl refl) ∙ c.in_err-tag.was))

pub returns : goal.returns
unfolding member_of placed
returns c =
    let (least, most, part, long) = c.in_ok-get.ensures.lookup.0 in
    simp (le-leb _ _ least, le-leb _ _ most, sym part, sym (c.header.ensures paper refl refl) ∙ c.in_ok-tag.was)
