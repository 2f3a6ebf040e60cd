-- A place that is not open has no role; what the CRLs say is asked for a link or signer alone.
use mathlib.Core.Path.{sym, ◌∙◌}
use Rattle.usable.proofs.RowLaws.{role-shut, role-unsaid, role-said}
use Rattle.usable.proofs.roles.role_at.Goals as goal

pub returns-then-standing_at-eq0 : goal.returns-then-standing_at-eq0
returns-then-standing_at-eq0 c = role-shut _ _ _ _ _ (sym c.standing_at.ensures ∙ c.if-standing_at-eq0.true)

pub returns-then-not-signed : goal.returns-then-not-signed
returns-then-not-signed c = role-unsaid _ _ _ _ c.row_at-own.ensures (sym c.signed.ensures ∙ c.if-not-signed.true) c.role_of.ensures

pub returns : goal.returns
returns c =
    role-said _ _ _ _ c.row_at-own.ensures (sym c.signed.ensures ∙ c.if-not-signed.false) c.spoken_of.ensures c.role_of-2.ensures
