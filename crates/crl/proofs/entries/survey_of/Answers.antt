-- The entries from `at` on, with what was found of those before them, come to what all of them come to.
use mathlib.Core.Bool.{◌&&◌}
use mathlib.Core.Path.{refl, ap, sym, ◌∙◌}
use native.Mathlib.Omega.{arith}
use Rattle.std.proofs.lemmas.Grind.{common_steps}
use Rattle.der.specs.Heading.{identifier_good}
use Rattle.times.specs.Times.{time_tag}
use Rattle.crl.proofs.Surveys.{members-few, survey-starts, survey-done, falls, stays, usual-within, usual-more, usual-less, usual-on, entry-more, entry-less, entry-bad, entry-on}
use Rattle.crl.proofs.entries.survey_of.Goals as goal
use Rattle.crl.proofs.entries.survey_of.Goals.{then-not-is_utc, else-not-is_utc}

pub loop-utc-init : goal.loop-utc-init
loop-utc-init c = (omega (arith, members-few c.args.item.now c.args.from c.args.end), survey-starts _ _ _)

pub usual_time-requires : goal.usual_time-requires
unfolding time_tag identifier_good
usual_time-requires c = (refl, refl, omega arith)

pub is_utc-requires : goal.is_utc-requires
is_utc-requires c = c.in-Some.ensures.room

pub overflow_add-count : goal.overflow_add-count
overflow_add-count c = omega (arith, c.loop-utc.invariant.0, usual-more c.in-Some.ensures)

pub overflow_add-at : goal.overflow_add-at
overflow_add-at c = omega (arith, usual-within c.in-Some.ensures)

pub overflow_add-at-in-Some : goal.overflow_add-at-in-Some
overflow_add-at-in-Some c = omega (arith, usual-within c.in-Some.ensures)

pub bounds-item-at : goal.bounds-item-at
bounds-item-at c = omega (arith, usual-within c.in-Some.ensures)

pub overflow_cast-at : goal.overflow_cast-at
overflow_cast-at c = omega (arith, usual-within c.in-Some.ensures)

pub overflow_add-at-in-Some-2 : goal.overflow_add-at-in-Some-2
overflow_add-at-in-Some-2 c = omega (arith, usual-within c.in-Some.ensures)

pub loop-utc-smaller-in-Some : goal.loop-utc-smaller-in-Some
loop-utc-smaller-in-Some c = usual-less c.in-Some.ensures

pub loop-utc-preserved-in-Some : goal.loop-utc-preserved-in-Some
loop-utc-preserved-in-Some c =
    let was = c.loop-utc in
    let seen = c.in-Some.ensures in
    let told = c.is_utc.ensures in (
      omega (arith, was.invariant.0, usual-more seen),
      was.invariant.1
          ∙ usual-on seen _ _ _
          (elim c.if-not-is_utc.branch [
            | then-not-is_utc w ↦ falls was.timely (sym told ∙ w.if-not-is_utc.true) w.timely-is
            | else-not-is_utc w ↦ stays was.timely (sym told ∙ w.if-not-is_utc.false) w.timely-is
          ]),
    )

pub usual_time-requires-in-loop-utc : goal.usual_time-requires-in-loop-utc
unfolding time_tag identifier_good
usual_time-requires-in-loop-utc c = (refl, refl, omega arith)

pub is_full-timely-requires : goal.is_full-timely-requires
is_full-timely-requires c = c.in-Some-usual_time.ensures.room

pub overflow_add-count-in-Some-usual_time : goal.overflow_add-count-in-Some-usual_time
overflow_add-count-in-Some-usual_time c = omega (arith, c.loop-utc.invariant.0, usual-more c.in-Some-usual_time.ensures)

pub overflow_add-at-in-Some-usual_time : goal.overflow_add-at-in-Some-usual_time
overflow_add-at-in-Some-usual_time c = omega (arith, usual-within c.in-Some-usual_time.ensures)

pub overflow_add-at-in-Some-usual_time-2 : goal.overflow_add-at-in-Some-usual_time-2
overflow_add-at-in-Some-usual_time-2 c = omega (arith, usual-within c.in-Some-usual_time.ensures)

pub bounds-item-at-in-Some-usual_time : goal.bounds-item-at-in-Some-usual_time
bounds-item-at-in-Some-usual_time c = omega (arith, usual-within c.in-Some-usual_time.ensures)

pub overflow_cast-at-in-Some-usual_time : goal.overflow_cast-at-in-Some-usual_time
overflow_cast-at-in-Some-usual_time c = omega (arith, usual-within c.in-Some-usual_time.ensures)

pub overflow_add-at-in-Some-usual_time-3 : goal.overflow_add-at-in-Some-usual_time-3
overflow_add-at-in-Some-usual_time-3 c = omega (arith, usual-within c.in-Some-usual_time.ensures)

pub loop-utc-smaller-in-Some-usual_time : goal.loop-utc-smaller-in-Some-usual_time
loop-utc-smaller-in-Some-usual_time c = usual-less c.in-Some-usual_time.ensures

pub loop-utc-preserved-in-Some-usual_time : goal.loop-utc-preserved-in-Some-usual_time
loop-utc-preserved-in-Some-usual_time c =
    let was = c.loop-utc in
    let seen = c.in-Some-usual_time.ensures in
    (omega (arith, was.invariant.0, usual-more seen), was.invariant.1 ∙ usual-on seen _ _ _ (ap (◌&&◌ was.timely) c.is_full-timely.ensures))

pub returns-in_default-element_at : goal.returns-in_default-element_at
returns-in_default-element_at c = sym (c.loop-utc.invariant.1 ∙ survey-done _ _ _ _ _ _ (sym c.element_at.ensures ∙ c.in_default-element_at.is))

pub returns-in_err-entry : goal.returns-in_err-entry
returns-in_err-entry c =
    let none = entry-bad _ _ _ (sym c.element_at.ensures ∙ c.in-Some-element_at.is) c.loop-utc.count c.loop-utc.timely c.loop-utc.calm (sym c.entry_of.ensures ∙ c.in_err-entry.was) in
    grind (arith, common_steps)

pub overflow_add-count-in-loop-utc : goal.overflow_add-count-in-loop-utc
overflow_add-count-in-loop-utc c = omega (arith, c.loop-utc.invariant.0, entry-more _ _ _ (sym c.element_at.ensures ∙ c.in-Some-element_at.is))

pub loop-utc-smaller : goal.loop-utc-smaller
loop-utc-smaller c = entry-less _ _ _ (sym c.element_at.ensures ∙ c.in-Some-element_at.is)

pub loop-utc-preserved : goal.loop-utc-preserved
loop-utc-preserved c =
    let was = c.loop-utc in
    let found = sym c.element_at.ensures ∙ c.in-Some-element_at.is in
    (omega (arith, was.invariant.0, entry-more _ _ _ found), was.invariant.1 ∙ entry-on _ _ _ found _ _ _ (sym c.entry_of.ensures ∙ c.in_ok-entry.was) c.is_time-timely.ensures)
