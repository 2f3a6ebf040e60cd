-- Each arm picks one identifier, and the function for it judges as the definition does.
use mathlib.Core.Path.{sym, ◌∙◌}
use borrow.Author.Tests.{eqb-true}
use Rattle.der.proofs.Flat.{leaf-boolean, leaf-integer, leaf-bit-string, leaf-null, leaf-oid}
use Rattle.der.proofs.fast.judged.Goals as goal

pub returns-in-6 : goal.returns-in-6
returns-in-6 c = λ e. leaf-oid c.in-6.is (sym c.oid_good.ensures ∙ e)

pub returns-in-2 : goal.returns-in-2
returns-in-2 c = λ e. leaf-integer c.in-2.is (sym c.integer_good.ensures ∙ e)

pub returns-in-5 : goal.returns-in-5
returns-in-5 c = λ e. leaf-null c.in-5.is (eqb-true _ _ e)

pub returns-in-1 : goal.returns-in-1
returns-in-1 c = λ e. leaf-boolean c.in-1.is (sym c.boolean_good.ensures ∙ e)

pub returns-in-3 : goal.returns-in-3
returns-in-3 c = λ e. leaf-bit-string c.in-3.is (sym c.bit_string_good.ensures ∙ e)
