-- What is left of the items is as true as all of them were, as long as each item passed had its true letters.
use Prim.Native.Nat.{◌<◌, ◌≤◌}
use mathlib.Core.Path.{sym, ◌∙◌}
use native.Mathlib.Omega.{arith}
use Rattle.image.specs.Index.{entry_count}
use Rattle.letters.proofs.Places.{letters-false, letters-more, letters-end}
use Rattle.letters.proofs.checking.all_lettered.Goals as goal

pub returns-then-not-spell : goal.returns-then-not-spell
returns-then-not-spell c =
    let inside : c.loop-place.place < entry_count c.args.image.now = omega (arith, c.entries-place-end.ensures.count) in
    letters-false _ _ inside c.entry-e.ensures.own c.item.ensures c.true_letters.ensures c.spell.ensures c.if-not-spell.true
    ∙ c.loop-place.invariant

pub loop-place-preserved : goal.loop-place-preserved
loop-place-preserved c =
    let inside : c.loop-place.place < entry_count c.args.image.now = omega (arith, c.entries-place-end.ensures.count) in
    sym (letters-more _ _ inside c.entry-e.ensures.own c.item.ensures c.true_letters.ensures c.spell.ensures c.if-not-spell.false)
    ∙ c.loop-place.invariant

pub returns : goal.returns
returns c =
    let past : entry_count c.args.image.now ≤ c.loop-place.place = omega (arith, c.entries-place-end.ensures.count) in
    letters-end _ _ past ∙ c.loop-place.invariant
