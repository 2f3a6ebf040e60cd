-- The code makes the definition's tests in its order, and the header's element ends within the item.
use Rattle.std.specs.Prelude.{Ok}
use Rattle.refusal.specs.declared.Refusal.TheVariants.{Argument}
use Rattle.std.proofs.lemmas.Result.{err_from_is_err_and}
use Prim.Native.Nat.{ℕ, ◌+◌, ◌≤◌}
use mathlib.Core.List.{List}
use mathlib.Core.Path.{◌≡◌, refl, sym, ◌∙◌}
use borrow.Author.Tests.{lt-ltb, le-ltb, eq-eqb, ne_eqb}
use native.Mathlib.Nat.{add-sub_cancel_left}
use native.Mathlib.Omega.{arith}
use lib.ListN.{length}
use mir.Syntax.{w64}
use mir.ValLaws.{to_z-of_z}
use Rattle.der.specs.Forms.{paper}
use Rattle.der.specs.Heading.{heading_of}
use Rattle.der.specs.Integer.{held, asked, integer_of}
use Rattle.der.specs.Walk.{walk_of}
use Rattle.der.proofs.Bounds.{heading-within}
use Rattle.der.proofs.numbers.integer.Goals as goal
use Rattle.der.proofs.numbers.integer.Goals.{In_ok-tag, In_ok-walk}
use Rattle.der.proofs.Payloads.{a_heading}

walked : (c : In_ok-walk) → walk_of paper c.args.item.now ≡ Ok c.in_ok-walk.field-0
walked c = sym c.walk.ensures.answer ∙ c.in_ok-walk.was

-- the header is that of the item's outermost element
headed : (c : In_ok-tag) →
    heading_of paper c.args.item.now ≡ a_heading c.in_ok-tag.field-0.tag c.in_ok-tag.field-0.skip c.in_ok-tag.field-0.size
headed c = sym (c.header.ensures paper refl refl) ∙ c.in_ok-tag.ensures.ok_part

-- so the answer hangs on that element alone, which ends within the item
told : (item : List ℕ) (tag skip size count : ℕ) → walk_of paper item ≡ Ok count → heading_of paper item ≡ a_heading tag skip size
    → integer_of paper item ≡ held item (a_heading tag skip size)
unfolding integer_of asked
told item tag skip size count h g = simp (h, g)

inside : (c : In_ok-tag) →
    c.in_ok-tag.field-0.skip + c.in_ok-tag.field-0.size ≤ length c.args.item.now
inside c = (heading-within paper _ _ _ _ (headed c)).1

pub returns-in_err-walk : goal.returns-in_err-walk
unfolding integer_of asked
returns-in_err-walk c =
    let p = err_from_is_err_and c.from_residual.result c.from_residual.ensures.1 in
    rw (p.1, p.2) (simp (sym c.walk.ensures.answer ∙ c.in_err-walk.was))

pub returns-in_err-tag : goal.returns-in_err-tag
unfolding integer_of asked held
returns-in_err-tag c =
    let p = err_from_is_err_and c.from_residual-in_err-tag.result c.from_residual-in_err-tag.ensures.1 in
    let none = c.in_err-tag.ensures.ok_part in
    let told = rw none at c.in_err-tag.ensures.value in
    let same : c.in_err-tag.field-0.0 ≡ Argument = cc in
    rw (p.1, p.2, same) (simp (walked (goal.at.returns-in_err-tag c).In_ok-walk, sym (c.header.ensures paper refl refl) ∙ none))

pub returns-then-tag-ne2 : goal.returns-then-tag-ne2
unfolding held
returns-then-tag-ne2 c =
    let at = goal.at.returns-then-tag-ne2 c in
    simp (told _ _ _ _ _ (walked at.In_ok-walk) (headed at.In_ok-tag), ne_eqb _ _ c.if-tag-ne2.true)

pub returns-then-size-gt8 : goal.returns-then-size-gt8
unfolding held
returns-then-size-gt8 c =
    let at = goal.at.returns-then-size-gt8 c in
    simp (told _ _ _ _ _ (walked at.In_ok-walk) (headed at.In_ok-tag), eq-eqb _ _ c.if-tag-ne2.false, lt-ltb _ _ c.if-size-gt8.true)

pub overflow_add-end : goal.overflow_add-end
overflow_add-end c = omega (arith, inside (goal.at.overflow_add-end c).In_ok-tag)

pub slice_bounds-signed-end : goal.slice_bounds-signed-end
slice_bounds-signed-end c = inside (goal.at.slice_bounds-signed-end c).In_ok-tag

pub returns : goal.returns
unfolding held
returns c =
    rw (to_z-of_z w64 c.signed.result (record { sfits = c.signed.type_inv }))
    (simp (
      told _ _ _ _ _ (walked (goal.at.returns c).In_ok-walk) (headed (goal.at.returns c).In_ok-tag),
      eq-eqb _ _ c.if-tag-ne2.false,
      le-ltb _ _ c.if-size-gt8.false,
      c.signed.ensures,
      add-sub_cancel_left,
    ))
