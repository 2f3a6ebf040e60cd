-- The tests stand in the order of the definition.
use mathlib.Core.Bool.{true, false}
use mathlib.Core.Path.{◌≡◌, sym, ap, ◌∙◌}
use Rattle.certificate.specs.Values.{value_of, value_in}
use Rattle.certificate.specs.Keys.{walks}
use Rattle.certificate.proofs.keys.value_in.Goals as goal

pub returns-in_default : goal.returns-in_default
unfolding value_in
returns-in_default c = rw c.in_default.is

pub returns-then-own : goal.returns-then-own
unfolding value_in
returns-then-own c = rw (c.in-Some.is, c.if-own.true)

pub returns-then-walks_alone : goal.returns-then-walks_alone
unfolding value_in
returns-then-walks_alone c =
    let s = c.args.item.now in
    let is : c.value_of-value.result ≡ value_of c.in-Some.own = c.value_of-value.ensures in
    let walked : walks s (value_of c.in-Some.own) ≡ true = sym (c.walks_alone.ensures ∙ ap (walks s) is) ∙ c.if-walks_alone.true in
    rw (c.in-Some.is, walked, ← is, c.if-own.false)

pub returns : goal.returns
unfolding value_in
returns c =
    let s = c.args.item.now in
    let is : c.value_of-value.result ≡ value_of c.in-Some.own = c.value_of-value.ensures in
    let walked : walks s (value_of c.in-Some.own) ≡ false = sym (c.walks_alone.ensures ∙ ap (walks s) is) ∙ c.if-walks_alone.false in
    rw (c.in-Some.is, walked, c.if-own.false)
