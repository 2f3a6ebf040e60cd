-- The OID has three octets, or is compared with the document type list.
use mathlib.Core.Path.{◌≡◌, sym, ap, ◌∙◌}
use native.Mathlib.Omega.{arith}
use borrow.Author.Tests.{ne_eqb}
use Rattle.octets.specs.Alike.{alike}
use Rattle.octets.proofs.Likeness.{three}
use Rattle.extensions.specs.Extensions.{present, has_oid, oid_of}
use Rattle.extensions.proofs.slot.slot_of.Goals as goal

pub returns-in_default : goal.returns-in_default
unfolding has_oid present
returns-in_default c = record { there = rw c.in_default.is; each = λ k l. rw c.in_default.is (ne_eqb 24 k (λ (q : 24 ≡ k). omega arith)) }

pub returns-then-own-eq3 : goal.returns-then-own-eq3
unfolding has_oid present
returns-then-own-eq3 c =
    record {
      there = rw (c.in-Some.is, ne_eqb c.slot_by.result 24 (λ q. omega (arith, c.slot_by.ensures.0)));
      each = λ k l.
          c.slot_by.ensures.1 k l
          ∙ (ap (λ o. alike o (oid_of k)) (sym (three _ c.if-own-eq3.true) ∙ c.contents-own.ensures)
          ∙ rw c.in-Some.is);
    }

pub returns : goal.returns
unfolding has_oid present
returns c =
    record {
      there = rw (c.in-Some.is, ne_eqb c.slot_apart.result 24 (λ q. omega (arith, c.slot_apart.ensures.0)));
      each = λ k l. c.slot_apart.ensures.1 k l ∙ rw (c.contents-own.ensures, c.in-Some.is);
    }
