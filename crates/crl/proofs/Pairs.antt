-- Two extensions with other OIDs, neither of them critical, have the shape, and no OID stands twice.
use Rattle.std.specs.Prelude.{Some}
use Prim.Native.Nat.{ℕ, ◌+◌}
use mathlib.Core.Bool.{true, false}
use mathlib.Core.List.{List, [], ◌∷◌}
use mathlib.Core.Path.{◌≡◌, sym, ap, ◌∙◌}
use native.Mathlib.Omega.{arith}
use borrow.Author.Tests.{eq-eqb}
use lib.ListN.{get_or}
use Rattle.der.specs.Forms.{paper}
use Rattle.octets.specs.Alike.{alike}
use Rattle.elements.specs.declared.elements.Element.{Element}
use Rattle.elements.specs.Elements.{members_of, inside}
use Rattle.elements.specs.Short.{short_end}
use Rattle.elements.proofs.Members.{members-none, members-more}
use Rattle.extensions.specs.Extensions.{
  present,
  all_shaped,
  extensions_shaped,
  has_oid,
  first_with,
  lookup_of,
  same_oids,
  stands_in,
  doubled_in,
  doubled_of,
  refused_critical,
  some_critical,
  critical_of,
}
use Rattle.extensions.proofs.FastMembers.{member-uncritical, three-octets}
use Rattle.extensions.proofs.Places.{beyond}
use Rattle.crl.specs.Own.{own_of, own_usual, Known}
use Rattle.crl.specs.Rules.{key_there, number_there}

-- an extension by its headers and the octets of its OID
pub known-octets :
    (s : List ℕ) (from stop arc : ℕ) {end next : ℕ} → short_end s from stop 0x30 ≡ Some end → short_end s (from + 2) end 0x06 ≡ Some next
    → next ≡ from + 7 → get_or s (from + 4) 0 ≡ 0x55 → get_or s (from + 5) 0 ≡ 0x1D → get_or s (from + 6) 0 ≡ arc → short_end s next end 0x04 ≡ Some end
    → Known paper s from stop arc end
known-octets s from stop arc here oid size a b c last =
    let m = member-uncritical s from stop here oid last in
    record {
      e = m.e;
      found = m.found;
      ends = m.ends;
      oid = _;
      value = _;
      is = sym m.is;
      own = three-octets s from stop here oid size ∙ rw (a, b, c);
    }

module _
    (s : List ℕ) (x : Element) {middle : ℕ} (tag : x.tag ≡ 0x30) (one : Known paper s x.contents x.end 0x23 middle)
    (other : Known paper s middle x.end 0x14 x.end) where
  two : members_of paper s x.contents x.end ≡ one.e ∷ other.e ∷ []
  two =
      members-more s x.contents x.end one.found
      ∙ ap (λ (n : ℕ). one.e ∷ members_of paper s n x.end) (sym one.ends)
      ∙ ap (◌∷◌ one.e) (members-more s middle x.end other.found)
      ∙ ap (λ (n : ℕ). one.e ∷ other.e ∷ members_of paper s n x.end) (sym other.ends)
      ∙ ap (λ (es : List Element). one.e ∷ other.e ∷ es) (members-none s x.end x.end (beyond s (omega arith)))

  shaped : extensions_shaped paper s x ≡ true
  unfolding extensions_shaped inside all_shaped present
  shaped = rw (eq-eqb _ _ tag, two, one.is, other.is)

  mild : critical_of paper s x false ≡ false
  unfolding critical_of inside some_critical refused_critical
  mild = rw (two, one.is, other.is)

  once : doubled_of paper s x ≡ false
  unfolding doubled_of inside doubled_in stands_in same_oids has_oid alike
  once = rw (two, one.is, other.is, one.own, other.own)

  keyed : key_there paper s x ≡ true
  unfolding key_there lookup_of inside first_with has_oid alike present
  keyed = rw (two, one.is, one.own)

  numbered : number_there paper s x ≡ true
  unfolding number_there lookup_of inside first_with has_oid alike present
  numbered = rw (two, one.is, other.is, one.own, other.own)

  pub pair-own : own_usual ≡ own_of paper s x
  unfolding own_of
  pair-own = rw (shaped, mild, once, keyed, numbered)
