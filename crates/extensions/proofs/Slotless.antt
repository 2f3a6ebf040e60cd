-- Which OIDs have no slot: by the slot that an extension has, and among the members of a list.
use Rattle.std.specs.Prelude.{Option, Some, None}
use mathlib.Core.Path.{◌≡◌, refl, sym, ap, ◌∙◌}
use mathlib.Core.Bool.{Bool, true, false, cond}
use mathlib.Core.List.{List, [], ◌∷◌}
use Prim.Native.Nat.{ℕ, zero, suc, ◌<◌, ◌≤◌}
use native.Mathlib.Omega.{arith}
use borrow.Author.Tests.{eq-eqb, ne_eqb, eqb-true, eqb-false}
use lib.Dec.{eqb}
use Rattle.der.specs.Forms.{paper}
use Rattle.octets.specs.Alike.{alike}
use Rattle.elements.specs.declared.elements.Element.{Element}
use Rattle.elements.specs.Elements.{found_at, contents_of}
use Rattle.elements.proofs.Members.{members-none, members-more}
use Rattle.extensions.specs.declared.Extension.{Extension}
use Rattle.extensions.specs.Extensions.{extension_of, has_oid, oid_of, Slotted}
use Rattle.extensions.specs.Strange.{slotless, strange_oid, strange_oids, strange_from, Passed}
use Rattle.extensions.proofs.Payloads.{an_extension}

module _ (o : List ℕ) where
  pub without-slot : (n : ℕ) → ((k : ℕ) → k < n → alike o (oid_of k) ≡ false) → slotless n o ≡ true
  unfolding slotless
  without-slot zero h = refl
  without-slot (suc n) h = rw (h n (omega arith)) (without-slot n (λ k l. h k (omega arith)))

  pub with-slot : (n k : ℕ) → k < n → alike o (oid_of k) ≡ true → slotless n o ≡ false
  unfolding slotless
  with-slot zero k l h = absurd (omega arith)
  with-slot (suc n) k l h = go (with-slot n k) (eqb k n) refl
    where
      both : (t : Bool) → cond t false false ≡ false
      both true = refl
      both false = refl

      go : (k < n → alike o (oid_of k) ≡ true → slotless n o ≡ false) → (t : Bool) → eqb k n ≡ t → cond (alike o (oid_of n)) false (slotless n o) ≡ false
      go less true q = rw (ap (λ (i : ℕ). alike o (oid_of i)) (sym (eqb-true k n q)) ∙ h)
      go less false q = rw (less (omega (arith, eqb-false k n q)) h) (both (alike o (oid_of n)))

module _ {s : List ℕ} {slot : ℕ} where
  pub strange-slot : {x : Option Extension} → Slotted s x slot → slot < 23 → (more : List (List ℕ)) → strange_oid s x more ≡ more
  unfolding strange_oid has_oid
  strange-slot {x} h l more = go x (sym (h.each slot l) ∙ eq-eqb slot slot refl)
    where
      go : (y : Option Extension) → has_oid s (oid_of slot) y ≡ true → strange_oid s y more ≡ more
      go None q = refl
      go (Some x) q = rw (with-slot (contents_of s x.oid) 23 slot l q)

  module _ {oid value : Element} {critical : Bool} (h : Slotted s (an_extension oid critical value) slot) (far : 23 ≤ slot) where
    pub no_slot : slotless 23 (contents_of s oid) ≡ true
    unfolding has_oid
    no_slot = without-slot (contents_of s oid) 23 (λ k l. sym (h.each k l) ∙ ne_eqb slot k (λ (q : slot ≡ k). omega arith))

    pub strange-own : (more : List (List ℕ)) → strange_oid s (an_extension oid critical value) more ≡ contents_of s oid ∷ more
    unfolding strange_oid
    strange-own more = rw no_slot

module _ (s : List ℕ) (at end : ℕ) where
  pub strange-none : found_at paper s at end ≡ None → strange_from paper s at end ≡ []
  unfolding strange_from strange_oids
  strange-none h = rw (members-none s at end h)

  pub strange-more : {e : Element} → found_at paper s at end ≡ Some e → strange_from paper s at end ≡ strange_oid s (extension_of paper s e) (strange_from paper s e.end end)
  unfolding strange_from strange_oids
  strange-more h = rw (members-more s at end h)

  -- a member that has a slot or is no extension is passed
  pub strange-passed : {next : ℕ} → Passed paper s at end next → strange_from paper s at end ≡ strange_from paper s next end
  strange-passed m = strange-more m.found ∙ m.familiar _ ∙ ap (λ (n : ℕ). strange_from paper s n end) (sym m.ends)

  -- a member by the extension that it is
  module _ {e : Element} {x : Option Extension} (f : found_at paper s at end ≡ Some e) (is : x ≡ extension_of paper s e) where
    pub strange-absent : x ≡ None → strange_from paper s at end ≡ strange_from paper s e.end end
    unfolding strange_oid
    strange-absent h = strange-more f ∙ rw (← is, h)

    pub strange-skip : {slot : ℕ} → Slotted s x slot → slot < 23 → strange_from paper s at end ≡ strange_from paper s e.end end
    strange-skip h l = strange-more f ∙ rw (← is) (strange-slot h l (strange_from paper s e.end end))

    pub strange-met :
        {slot : ℕ} {oid value : Element} {critical : Bool} → x ≡ an_extension oid critical value → Slotted s x slot → 23 ≤ slot
        → strange_from paper s at end ≡ contents_of s oid ∷ strange_from paper s e.end end
    strange-met q h far = strange-more f ∙ rw (← is, q) (strange-own (rw q at h) far (strange_from paper s e.end end))
