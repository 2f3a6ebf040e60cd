-- A reason code alone is a list of one extension, which is not critical; and a list may hold none.
use Rattle.std.specs.Prelude.{Option, Some, None}
use Prim.Native.Nat.{ℕ, ◌+◌, ◌*◌, ◌-◌, ◌<◌, ◌≤◌}
use mathlib.Core.Bool.{false}
use mathlib.Core.List.{List, [], ◌∷◌}
use mathlib.Core.Path.{◌≡◌, refl, ap, sym, ◌∙◌}
use native.Mathlib.Omega.{arith}
use lib.ListN.{length, get_or, take, drop}
use lib.Seq.{get_or-take, get_or-drop}
use Rattle.der.specs.Forms.{paper}
use Rattle.der.specs.Heading.{identifier_good}
use Rattle.elements.specs.declared.elements.Element.{Element}
use Rattle.elements.specs.Elements.{found_at, members_of, inside}
use Rattle.elements.proofs.Members.{found_within, members-none, members-more}
use Rattle.elements.proofs.Shorts.{brief}
use Rattle.extensions.specs.Extensions.{present, all_shaped, extensions_shaped, refused_critical, some_critical, critical_of}
use Rattle.extensions.specs.Fast.{Member}
use Rattle.extensions.proofs.FastMembers.{member-uncritical}
use Rattle.crl.specs.FastEntries.{Mild, Reason}
use Rattle.crl.proofs.FastEntries.{header-end, header-found}
use Rattle.crl.proofs.Words.{apart}
use Rattle.extensions.proofs.Payloads.{an_extension}

-- four octets by the number that they make
pub four-told : {a b c d r : ℕ} (p q u v : ℕ) → a < 256 → b < 256 → c < 256 → p < 256 → q < 256 → u < 256
    → r ≡ ((d * 256 + c) * 256 + b) * 256 + a → r ≡ ((v * 256 + u) * 256 + q) * 256 + p → (a ≡ p) × (b ≡ q) × (c ≡ u) × (d ≡ v)
four-told {a} {b} {c} {d} p q u v ha hb hc hp hq hu is so =
    let (a1, rest) = apart _ a _ p ha hp (sym is ∙ so) in
    let (b1, more) = apart _ b _ q hb hq rest in
    let (c1, d1) = apart d c v u hc hu more in
    (a1, b1, c1, d1)

none_after : (s : List ℕ) (at end : ℕ) → end ≤ at → found_at paper s at end ≡ None
none_after s at end past = go (found_at paper s at end) refl
  where
    go : (f : Option Element) → found_at paper s at end ≡ f → f ≡ None
    go None h = refl
    go (Some e) h = absurd (omega (arith, past, found_within s at end h))

-- a list of none
pub empty-mild : (s : List ℕ) (from end : ℕ) → end ≤ length s → end ≡ from + 2 → get_or s from 0 ≡ 0x30 → get_or s (from + 1) 0 ≡ 0 → Mild s from end
unfolding identifier_good extensions_shaped critical_of inside all_shaped some_critical
empty-mild s from end fits long first second =
    let none = members-none s (from + 2) end (none_after s (from + 2) end (omega (arith, long))) in
    record {
      low = omega (arith, long);
      found = header-found s from end 0x30 0 end (omega arith) (omega (arith, long)) (omega arith) fits refl first second;
      fit = rw none;
      calm = rw none;
    }

module _ (s : List ℕ) (from end : ℕ) (fits : end ≤ length s) (long : end ≡ from + 14) (r : Reason (take (end - from) (drop from s))) where
  octet : (i : ℕ) (at : ℕ) {n : ℕ} → i < 14 → get_or (take (end - from) (drop from s)) i 0 ≡ n → at ≡ from + i → get_or s at 0 ≡ n
  octet i at h g e =
      ap (λ (k : ℕ). get_or s k 0) e
      ∙ sym (get_or-take (end - from) (drop from s) i 0 (omega (arith, long, h)) ∙ get_or-drop from s i 0)
      ∙ g

  member : Member s (from + 2) end end (an_extension (brief 0x06 (from + 2 + 2) (from + 9)) false (brief 0x04 (from + 9) end))
  member =
      let here = header-end s (from + 2) end 0x30 10 end (omega arith) (omega (arith, long)) (omega arith) fits
      (octet 2 (from + 2) (omega arith) r.extension.0 (omega arith)) (octet 3 (from + 2 + 1) (omega arith) r.extension.1 (omega arith)) in
      let oid = header-end s (from + 2 + 2) end 0x06 3 (from + 9) (omega arith) (omega arith) (omega (arith, long)) fits
      (octet 4 (from + 2 + 2) (omega arith) r.oid.0 (omega arith)) (octet 5 (from + 2 + 2 + 1) (omega arith) r.oid.1 (omega arith)) in
      let last = header-end s (from + 9) end 0x04 3 end (omega arith) (omega (arith, long)) (omega arith) fits
      (octet 9 (from + 9) (omega arith) r.value.0 (omega arith)) (octet 10 (from + 9 + 1) (omega arith) r.value.1 (omega arith)) in
      member-uncritical s (from + 2) end here oid last

  members : members_of paper s (from + 2) end ≡ member.e ∷ []
  members =
      members-more s (from + 2) end member.found
      ∙ ap (λ (n : ℕ). member.e ∷ members_of paper s n end) (sym member.ends)
      ∙ ap (◌∷◌ member.e) (members-none s end end (none_after s end end (omega arith)))

  pub reason-mild : Mild s from end
  unfolding identifier_good extensions_shaped critical_of inside all_shaped some_critical present refused_critical
  reason-mild =
      record {
        low = omega (arith, long);
        found = header-found s from end 0x30 12 end (omega arith) (omega (arith, long)) (omega arith) fits refl
            (octet 0 from (omega arith) r.list.0 (omega arith)) (octet 1 (from + 1) (omega arith) r.list.1 (omega arith));
        fit = rw (members, ← member.is);
        calm = rw (members, ← member.is);
      }
