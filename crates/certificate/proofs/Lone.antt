-- Contents that are one primitive element with a short header, or a SEQUENCE of one, pass the walk.
use Rattle.std.specs.Prelude.{Ok, Some}
use Prim.Native.Nat.{ℕ, ◌+◌, ◌-◌, ◌*◌, ◌≤◌}
use mathlib.Core.Path.{◌≡◌, refl, sym, subst}
use mathlib.Core.Bool.{true, false}
use mathlib.Core.List.{List}
use native.Mathlib.Omega.{arith}
use lib.ListN.{length, get_or, drop, length-take, length-drop}
use Rattle.der.specs.Forms.{paper}
use Rattle.der.specs.Heading.{identifier_good, constructed}
use Rattle.der.specs.Contents.{contents_good}
use Rattle.der.specs.Order.{is_set}
use Rattle.der.specs.Fast.{stretch, Reads}
use Rattle.der.specs.Walk.{walk_of}
use Rattle.der.proofs.Laws.{walk-passed}
use Rattle.der.proofs.Flat.{leaf-reads, node-reads, reads-one}
use Rattle.elements.specs.declared.elements.Element.{Element}
use Rattle.elements.specs.Elements.{contents_of}
use Rattle.elements.specs.Short.{short_end}
use Rattle.elements.proofs.Shorts.{ShortAt, short-told}
use Rattle.certificate.specs.Keys.{passes, walks}

-- an item that one element fills
alone : (s : List ℕ) (at end n : ℕ) → end ≤ length s → end ≤ at + 129 → Reads paper (stretch s at end) 1 0 (end - at) n → walk_of paper
    (stretch s at end) ≡ Ok n
alone s at end n inside short f =
    let long : length (stretch s at end) ≡ end - at = omega (arith, length-take (end - at) (drop at s), length-drop at s) in
    walk-passed paper (stretch s at end) (omega (arith, long)) (sym (f 0 (2 * length (stretch s at end) + 2) (omega arith))) (sym long)

module _ (s : List ℕ) (value : Element) where
  abbrev at : ℕ
  at = value.contents

  abbrev end : ℕ
  end = value.end

  facts : (from tag : ℕ) → short_end s from end tag ≡ Some end → ShortAt s from end tag end
  facts from tag is = short-told s from end tag is

  passed : {n : ℕ} → walk_of paper (stretch s at end) ≡ Ok n → walks s value ≡ true
  unfolding walks passes contents_of
  passed h = rw h

  pub lone-octets : short_end s at end 0x04 ≡ Some end → walks s value ≡ true
  unfolding identifier_good constructed contents_good
  lone-octets is =
      let t = facts at 0x04 is in
      passed
      (alone s at end 1 t.inside (omega (arith, t.ends, t.short))
      (leaf-reads paper s at end t.two t.inside t.ends (omega arith) t.short (rw t.same refl) 1 0 (omega arith) (omega arith)
      (rw t.same refl) (rw t.same refl)))

  pub lone-sequence : short_end s at end 0x30 ≡ Some end → short_end s (at + 2) end 0x80 ≡ Some end → walks s value ≡ true
  unfolding identifier_good constructed contents_good is_set
  lone-sequence is inner =
      let t = facts at 0x30 is in
      let u = facts (at + 2) 0x80 inner in
      let used : 2 + get_or s (at + 1) 0 ≡ end - at = omega (arith, t.ends) in
      passed
      (alone s at end 2 t.inside (omega (arith, t.ends, t.short))
      (subst (λ (k : ℕ). Reads paper (stretch s at end) 1 0 k 2) used
      (node-reads paper s at end t.two t.inside t.ends (omega arith) t.short (rw t.same refl) 1 0 (omega arith) (omega arith)
      {set = false} (rw t.same refl) (rw t.same refl)
      (reads-one paper s (at + 2) end u.two u.inside 2 1 refl
      (leaf-reads paper s (at + 2) end u.two u.inside u.ends (omega arith) u.short (rw u.same refl) 2 1 (omega arith) (omega arith)
      (rw u.same refl) (rw u.same refl))
      false))))
