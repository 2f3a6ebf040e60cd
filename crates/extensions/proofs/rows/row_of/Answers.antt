-- The row of an OID has its numbers; an OID of at most eight octets has one number.
use mathlib.Core.Path.{◌≡◌, refl, sym, ap, ◌∙◌}
use lib.ListN.{take}
use lib.Seq.{take_all}
use Rattle.elements.specs.Elements.{contents_of}
use Rattle.extensions.specs.Strange.{key_from, row_oid}
use Rattle.extensions.proofs.rows.row_of.Goals as goal

pub returns-then-own-le8 : goal.returns-then-own-le8
unfolding row_oid contents_of
returns-then-own-le8 c =
    let own = c.contents-own.ensures in
    let all = c.contents-own.result.now in
    let short : take 8 all ≡ all = take_all 8 all c.if-own-le8.true in
    record { is = refl; numbers = record { last = c.key_of-last.ensures ∙ rw own; first = c.key_of-last.ensures ∙ ap (key_from 0) (sym short) ∙ rw own } }

pub returns : goal.returns
unfolding row_oid contents_of
returns c =
    let own = c.contents-own.ensures in
    record { is = refl; numbers = record { last = c.key_of-last.ensures ∙ rw own; first = c.key_of.ensures ∙ rw (c.part.ensures, own) } }
