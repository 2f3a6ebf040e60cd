-- The image first, then the table, the moment and the target.
use Prim.Native.Nat.{ℕ, ◌≤◌}
use mathlib.Core.Path.{◌≡◌, sym, ◌∙◌}
use mathlib.Core.List.{List}
use borrow.Author.Tests.{lt-ltb, le-ltb, eq-eqb, ne_eqb}
use Rattle.chain.specs.Answer.{on_image, asked_of}
use Rattle.image.specs.Answer.{opened_within}
use Rattle.image.proofs.Few.{opened-image}
use Rattle.image.proofs.Places.{entry-own}
use Rattle.chain.proofs.asking.question.Goals as goal
use Rattle.std.proofs.lemmas.Result.{err_from_is_err_and}
use Rattle.image.proofs.Payloads.{an_image}

-- an image has at most 96 places, so that what is told of the table is whether it is good
few : (s : List ℕ) (n day version : ℕ) → opened_within 1 2 s ≡ an_image n day version → n ≤ 96
few s n day version e = (opened-image 1 2 s n day version e).1

pub returns-then-not-table_good : goal.returns-then-not-table_good
unfolding asked_of on_image
returns-then-not-table_good c =
    rw (
      sym c.«open».ensures ∙ c.in_ok-entries.was,
      sym (c.table_good.ensures.0 (few c.args.image.now _ _ _ (sym c.«open».ensures ∙ c.in_ok-entries.was))) ∙ c.if-not-table_good.true,
    )

pub returns-then-not-real_moment : goal.returns-then-not-real_moment
unfolding asked_of on_image
returns-then-not-real_moment c =
    rw (
      sym c.«open».ensures ∙ c.in_ok-entries.was,
      sym (c.table_good.ensures.0 (few c.args.image.now _ _ _ (sym c.«open».ensures ∙ c.in_ok-entries.was))) ∙ c.if-not-table_good.false,
      sym c.real_moment.ensures ∙ c.if-not-real_moment.true,
    )

pub returns-then-entries-target : goal.returns-then-entries-target
unfolding asked_of on_image
returns-then-entries-target c =
    rw (
      sym c.«open».ensures ∙ c.in_ok-entries.was,
      sym (c.table_good.ensures.0 (few c.args.image.now _ _ _ (sym c.«open».ensures ∙ c.in_ok-entries.was))) ∙ c.if-not-table_good.false,
      sym c.real_moment.ensures ∙ c.if-not-real_moment.false,
      le-ltb _ _ c.if-entries-target.true,
    )

pub returns-then-e-ne3 : goal.returns-then-e-ne3
unfolding asked_of on_image
returns-then-e-ne3 c =
    let kind = c.entry_of-e.ensures ∙ entry-own _ (opened-image 1 2 _ _ _ _ (sym c.«open».ensures ∙ c.in_ok-entries.was)).2 _ in
    rw (
      sym c.«open».ensures ∙ c.in_ok-entries.was,
      sym (c.table_good.ensures.0 (few c.args.image.now _ _ _ (sym c.«open».ensures ∙ c.in_ok-entries.was))) ∙ c.if-not-table_good.false,
      sym c.real_moment.ensures ∙ c.if-not-real_moment.false,
      lt-ltb _ _ c.if-entries-target.false,
      ← kind,
      ne_eqb _ _ c.if-e-ne3.true,
    )

pub returns-in_err-entries : goal.returns-in_err-entries
unfolding asked_of on_image
returns-in_err-entries c =
    let p = err_from_is_err_and c.from_residual.result c.from_residual.ensures.1 in
    rw (p.1, p.2) (rw (sym c.«open».ensures ∙ c.in_err-entries.was))

pub returns : goal.returns
unfolding asked_of on_image
returns c =
    let kind = c.entry_of-e.ensures ∙ entry-own _ (opened-image 1 2 _ _ _ _ (sym c.«open».ensures ∙ c.in_ok-entries.was)).2 _ in
    rw (
      sym c.«open».ensures ∙ c.in_ok-entries.was,
      sym (c.table_good.ensures.0 (few c.args.image.now _ _ _ (sym c.«open».ensures ∙ c.in_ok-entries.was))) ∙ c.if-not-table_good.false,
      sym c.real_moment.ensures ∙ c.if-not-real_moment.false,
      lt-ltb _ _ c.if-entries-target.false,
      ← kind,
      eq-eqb _ _ c.if-e-ne3.false,
    )
