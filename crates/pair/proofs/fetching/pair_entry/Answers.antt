-- Opening decides, then the place, then which image it is in.
use Prim.Native.Nat.{◌-◌}
use mathlib.Core.Path.{sym, ap, ◌∙◌}
use mathlib.Core.Bool.{true, false}
use Rattle.std.proofs.lemmas.Result.{err_from_is_err_and}
use Rattle.image.specs.declared.IndexEntry.{IndexEntry}
use Rattle.image.proofs.Places.{entry-own}
use Rattle.pair.specs.Spans.{Spans}
use Rattle.pair.proofs.PairLaws.{held-refused, held-beyond, held_first, held_update}
use Rattle.pair.proofs.Readable.{readable, spans}
use Rattle.pair.proofs.fetching.pair_entry.Goals as goal
use Rattle.pair.proofs.fetching.pair_entry.Goals.{In_ok-span}
use Rattle.pair.proofs.Payloads.{a_held}

spanned : (c : In_ok-span) →
    let a = c.args in
    Spans c.in_ok-span.field-0.span a.first.now a.update.now
spanned c = let a = c.args in spans a.first.now a.update.now _ _ (readable _ _ _ _ (sym c.open_pair.ensures ∙ c.in_ok-span.was))

pub returns-in_err-span : goal.returns-in_err-span
returns-in_err-span c =
    let p = err_from_is_err_and c.from_residual.result c.from_residual.ensures.1 in
    rw (p.1, p.2) (sym (held-refused _ _ _ (sym c.open_pair.ensures ∙ c.in_err-span.was)))

pub returns-then-span-place : goal.returns-then-span-place
returns-then-span-place c = sym (held-beyond _ _ _ (sym c.open_pair.ensures ∙ c.in_ok-span.was) c.if-span-place.true)

pub returns-then-at-span : goal.returns-then-at-span
returns-then-at-span c =
    let a = c.args in
    ap (λ (e : IndexEntry). a_held e false)
    (c.entry_of.ensures ∙ entry-own a.first.now (spanned (goal.at.returns-then-at-span c).In_ok-span).version a.place)
    ∙ sym (held_first _ _ _ (sym c.open_pair.ensures ∙ c.in_ok-span.was) c.if-span-place.false c.if-at-span.true)

pub returns : goal.returns
returns c =
    let a = c.args in
    let own = c.in_ok-span.field-0.span.own in
    ap (λ (e : IndexEntry). a_held e true)
    (c.entry_of-2.ensures ∙ entry-own a.update.now (spanned (goal.at.returns c).In_ok-span).later (a.place - own))
    ∙ sym (held_update _ _ _ (sym c.open_pair.ensures ∙ c.in_ok-span.was) c.if-span-place.false c.if-at-span.false)
