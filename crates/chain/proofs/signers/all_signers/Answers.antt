-- The image first, then the table, the moment and the room; then each record is that of its single question.
use Prim.Native.Nat.{ℕ, ◌≤◌}
use mathlib.Core.Path.{◌≡◌, refl, sym, ◌∙◌}
use mathlib.Core.List.{List}
use native.Mathlib.Omega.{arith}
use borrow.Author.Tests.{le-leb, lt-leb}
use Rattle.refusal.specs.declared.Refusal.TheVariants as refusal
use Rattle.chain.specs.Signers.{on_signers, signers_of, refused, told}
use Rattle.image.specs.Answer.{opened_within}
use Rattle.image.proofs.Few.{opened-image}
use Rattle.chain.proofs.Recording.{all-records}
use Rattle.chain.proofs.signers.all_signers.Goals as goal
use Rattle.std.proofs.lemmas.Result.{err_from_is_err_and}
use Rattle.image.proofs.Payloads.{an_image}

-- an image has at most 96 places, so that what is told of the table is whether it is good
few : (s : List ℕ) (n day version : ℕ) → opened_within 1 2 s ≡ an_image n day version → n ≤ 96
few s n day version e = (opened-image 1 2 s n day version e).1

pub returns-then-not-table_good : goal.returns-then-not-table_good
unfolding signers_of on_signers
returns-then-not-table_good c =
    refused refusal.Argument
    (rw (
      sym c.«open».ensures ∙ c.in_ok-entries.was,
      sym (c.table_good.ensures.0 (few c.args.image.now _ _ _ (sym c.«open».ensures ∙ c.in_ok-entries.was))) ∙ c.if-not-table_good.true,
    ) refl)
    refl refl

pub returns-then-not-real_moment : goal.returns-then-not-real_moment
unfolding signers_of on_signers
returns-then-not-real_moment c =
    refused refusal.Argument
    (rw (
      sym c.«open».ensures ∙ c.in_ok-entries.was,
      sym (c.table_good.ensures.0 (few c.args.image.now _ _ _ (sym c.«open».ensures ∙ c.in_ok-entries.was))) ∙ c.if-not-table_good.false,
      sym c.real_moment.ensures ∙ c.if-not-real_moment.true,
    ) refl)
    refl refl

pub overflow_mul-size : goal.overflow_mul-size
overflow_mul-size c = omega (arith, few c.args.image.now _ _ _ (sym c.«open».ensures ∙ c.in_ok-entries.was))

pub returns-then-out-size : goal.returns-then-out-size
unfolding signers_of on_signers
returns-then-out-size c =
    refused refusal.Short
    (rw (
      sym c.«open».ensures ∙ c.in_ok-entries.was,
      sym (c.table_good.ensures.0 (few c.args.image.now _ _ _ (sym c.«open».ensures ∙ c.in_ok-entries.was))) ∙ c.if-not-table_good.false,
      sym c.real_moment.ensures ∙ c.if-not-real_moment.false,
      lt-leb _ _ c.if-out-size.true,
    ) refl)
    refl refl

pub record_signers-requires : goal.record_signers-requires
record_signers-requires c =
    let n = opened-image 1 2 c.args.image.now _ _ _ (sym c.«open».ensures ∙ c.in_ok-entries.was) in
    (n.2, n.0, n.1, c.if-out-size.false)

pub returns-in_err-entries : goal.returns-in_err-entries
unfolding signers_of on_signers
returns-in_err-entries c =
    let p = err_from_is_err_and c.from_residual.result c.from_residual.ensures.1 in
    refused c.in_err-entries.field-0.0 (rw (sym c.«open».ensures ∙ c.in_err-entries.was) refl) (rw (p.1, p.2)) refl

pub returns : goal.returns
unfolding signers_of on_signers
returns c =
    let image = sym c.«open».ensures ∙ c.in_ok-entries.was in
    let table = sym (c.table_good.ensures.0 (few c.args.image.now _ _ _ (sym c.«open».ensures ∙ c.in_ok-entries.was))) ∙ c.if-not-table_good.false in
    let moment = sym c.real_moment.ensures ∙ c.if-not-real_moment.false in
    told {n = c.in_ok-entries.field-0.entries} (rw (image, table, moment, le-leb _ _ c.if-out-size.false) refl) refl
    (all-records _ _ _ _ (opened-image 1 2 c.args.image.now _ _ _ image).0 image table moment c.record_signers.ensures)
