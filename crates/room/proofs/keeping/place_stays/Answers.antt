-- The kind in the entry decides which judge is asked, and of which octets.
use Rattle.std.proofs.Common.{of_calls}
use mathlib.Core.Path.{◌∙◌}
use borrow.Author.Tests.{eq-eqb, ne_eqb}
use Rattle.room.proofs.Stays.{list_told, certificate_told, list-item, certificate-item}
use Rattle.room.proofs.keeping.place_stays.Goals as goal

pub returns-then-e-eq4 : goal.returns-then-e-eq4
returns-then-e-eq4 c =
    (rw c.judge.ensures at (list_told c.args.moment c.judge.result (λ f p. search of_calls) c.is_ok_and.ensures))
    ∙ list-item _ _ _ c.entry-e.ensures.own c.item-item.ensures (eq-eqb _ _ c.if-e-eq4.true)

pub returns-else-e-eq4 : goal.returns-else-e-eq4
returns-else-e-eq4 c =
    (rw c.judge-else-e-eq4.ensures at (certificate_told c.args.moment c.judge-else-e-eq4.result (λ f p. search of_calls) c.is_ok_and-else-e-eq4.ensures))
    ∙ certificate-item _ _ _ c.entry-e.ensures.own c.item-item.ensures (ne_eqb _ _ c.if-e-eq4.false)
