-- An OID stands twice just if one that has a slot does, or one that has none.
use Rattle.std.specs.Prelude.{Option, Some, None}
use mathlib.Core.Path.{◌≡◌, refl, sym, ap, ◌∙◌}
use mathlib.Core.Bool.{Bool, true, false, cond, ◌||◌}
use mathlib.Core.List.{List, [], ◌∷◌}
use Prim.Native.Nat.{ℕ, ◌<◌, ◌≤◌}
use native.Mathlib.Omega.{arith}
use borrow.Author.Tests.{eq-eqb}
use Rattle.der.specs.Forms.{paper}
use Rattle.octets.specs.Alike.{alike}
use Rattle.octets.proofs.Likeness.{unequal-unlike}
use Rattle.elements.specs.declared.elements.Element.{Element}
use Rattle.elements.specs.Elements.{contents_of}
use Rattle.extensions.specs.declared.Extension.{Extension}
use Rattle.extensions.specs.Extensions.{extension_of, has_oid, same_oids, stands_in, doubled_in, oid_of, Slotted}
use Rattle.extensions.specs.Strange.{slotless, strange_oid, strange_oids, is_in, twice_in}
use Rattle.extensions.proofs.Slotless.{with-slot, no_slot}
use Rattle.extensions.proofs.Payloads.{an_extension}

-- whether an extension's OID has a slot, and a test holds
unfoldable pub slot_and : List ℕ → Option Extension → Bool → Bool
slot_and s None t = false
slot_and s (Some x) t = cond (slotless 23 (contents_of s x.oid)) false t

-- whether an OID that has a slot stands twice
unfoldable pub slot_twice : List ℕ → List Element → Bool
slot_twice s [] = false
slot_twice s (e ∷ rest) = slot_and s (extension_of paper s e) (stands_in paper s (extension_of paper s e) rest) || slot_twice s rest

-- by the slot of the extension
module _ {s : List ℕ} {x : Option Extension} {slot : ℕ} (h : Slotted s x slot) where
  pub slot-and : slot < 23 → (t : Bool) → slot_and s x t ≡ t
  unfolding slot_and has_oid
  slot-and l t = go x (sym (h.each slot l) ∙ eq-eqb slot slot refl)
    where
      go : (y : Option Extension) → has_oid s (oid_of slot) y ≡ true → slot_and s y t ≡ t
      go None q = let z : ◌≡◌ {A = ℕ} 0 1 = cc in absurd (omega arith)
      go (Some x) q = rw (with-slot (contents_of s x.oid) 23 slot l q)

  pub stranger-and : 23 ≤ slot → (t : Bool) → slot_and s x t ≡ false
  unfolding slot_and
  stranger-and far t = go x h
    where
      go : (y : Option Extension) → Slotted s y slot → slot_and s y t ≡ false
      go None q = refl
      go (Some x) q = rw (no_slot q far)

-- an OID without a slot stands among extensions just if it stands among their OIDs without a slot
module _ (s : List ℕ) (oid value : Element) (critical : Bool) (n : slotless 23 (contents_of s oid) ≡ true) where
  stands-in : (es : List Element) → stands_in paper s (an_extension oid critical value) es ≡ is_in (contents_of s oid) (strange_oids paper s es)
  unfolding stands_in is_in strange_oids same_oids has_oid strange_oid
  stands-in [] = refl
  stands-in (e ∷ rest) = rw (stands-in rest) (go (extension_of paper s e))
    where
      go : (y : Option Extension) → cond (has_oid s (contents_of s oid) y) true (is_in (contents_of s oid) (strange_oids paper s rest)) ≡ is_in (contents_of s oid) (strange_oid s y (strange_oids paper s rest))
      go None = refl
      go (Some x) = by (slotless 23 (contents_of s x.oid)) refl
        where
          by : (t : Bool) → slotless 23 (contents_of s x.oid) ≡ t → cond (alike (contents_of s x.oid) (contents_of s oid)) true (is_in (contents_of s oid) (strange_oids paper s rest)) ≡ is_in (contents_of s oid) (cond t (contents_of s x.oid ∷ strange_oids paper s rest) (strange_oids paper s rest))
          by true q = refl
          by false q =
              rw (unequal-unlike (contents_of s x.oid) (contents_of s oid) λ e.
              let z : true ≡ false = sym n ∙ ap (slotless 23) (sym e) ∙ q in let y : ◌≡◌ {A = ℕ} 0 1 = cc in omega arith)

stands-absent : (s : List ℕ) (es : List Element) → stands_in paper s None es ≡ false
unfolding stands_in same_oids
stands-absent s [] = refl
stands-absent s (e ∷ rest) = stands-absent s rest

-- an OID stands twice just if one with a slot does, or one without
pub split : (s : List ℕ) (es : List Element) → doubled_in paper s es ≡ (slot_twice s es || twice_in (strange_oids paper s es))
unfolding doubled_in slot_twice slot_and strange_oids strange_oid twice_in
split s [] = refl
split s (e ∷ rest) = rw (split s rest) (go (extension_of paper s e))
  where
    or : (a p q : Bool) → cond a true (p || q) ≡ (p || cond a true q)
    or true true q = refl
    or true false q = refl
    or false p q = refl

    or' : (a p q : Bool) → cond a true (p || q) ≡ ((a || p) || q)
    or' true p q = refl
    or' false p q = refl

    go : (x : Option Extension) → cond (stands_in paper s x rest) true (slot_twice s rest || twice_in (strange_oids paper s rest)) ≡ ((slot_and s x (stands_in paper s x rest) || slot_twice s rest) || twice_in (strange_oid s x (strange_oids paper s rest)))
    go None = rw (stands-absent s rest)
    go (Some x) = by (slotless 23 (contents_of s x.oid)) refl
      where
        by : (t : Bool) → slotless 23 (contents_of s x.oid) ≡ t → cond (stands_in paper s (an_extension x.oid x.critical x.value) rest) true (slot_twice s rest || twice_in (strange_oids paper s rest)) ≡ ((cond t false (stands_in paper s (an_extension x.oid x.critical x.value) rest) || slot_twice s rest) || twice_in (cond t (contents_of s x.oid ∷ strange_oids paper s rest) (strange_oids paper s rest)))
        by true q = rw (stands-in s x.oid x.value x.critical q rest) (or (is_in (contents_of s x.oid) (strange_oids paper s rest)) (slot_twice s rest) (twice_in (strange_oids paper s rest)))
        by false q = or' (stands_in paper s (an_extension x.oid x.critical x.value) rest) (slot_twice s rest) (twice_in (strange_oids paper s rest))
