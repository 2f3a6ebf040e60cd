-- What a pass over extensions knows of their shape and of those that are critical, where the extensions from `at` on are left.
use Rattle.std.specs.Prelude.{Some, None}
use mathlib.Core.Path.{◌≡◌, refl, sym, subst, ◌∙◌}
use mathlib.Core.Bool.{Bool, true, false, cond, ◌&&◌, ◌||◌}
use mathlib.Core.List.{List}
use Prim.Native.Nat.{ℕ}
use lib.Dec.{eqb}
use Rattle.der.specs.Forms.{paper}
use Rattle.elements.specs.declared.elements.Element.{Element}
use Rattle.elements.specs.Elements.{found_at, members_of, inside}
use Rattle.elements.proofs.Members.{members-none, members-more}
use Rattle.extensions.specs.Fast.{Plain}
use Rattle.extensions.specs.Extensions.{extension_of, present, all_shaped, extensions_shaped, refused_critical, some_critical, critical_of}

and-true : (t : Bool) → (t && true) ≡ t
and-true true = refl
and-true false = refl

or-false : (t : Bool) → (t || false) ≡ t
or-false true = refl
or-false false = refl

pub record Shaping (s : List ℕ) (x : Element) (shaped : Bool) (at : ℕ) : Type 0 where
  pub is : extensions_shaped paper s x ≡ (shaped && all_shaped paper s (members_of paper s at x.end))

pub record Marking (s : List ℕ) (x : Element) (allow flag : Bool) (at : ℕ) : Type 0 where
  pub is : critical_of paper s x allow ≡ (flag || some_critical paper s allow (members_of paper s at x.end))

module _ (s : List ℕ) (x : Element) where
  pub shape-start : Shaping s x (eqb x.tag 0x30) x.contents
  unfolding extensions_shaped inside
  shape-start = record { is = go (eqb x.tag 0x30) }
    where
      go : (t : Bool) → cond t (all_shaped paper s (members_of paper s x.contents x.end)) false ≡ (t && all_shaped paper s (members_of paper s x.contents x.end))
      go true = refl
      go false = refl

  pub mark-start : (allow : Bool) → Marking s x allow false x.contents
  unfolding critical_of inside
  mark-start allow = record { is = refl }

module _ {s : List ℕ} {x : Element} {at : ℕ} where
  module _ (f : found_at paper s at x.end ≡ None) where
    pub shape-end : {shaped : Bool} → Shaping s x shaped at → shaped ≡ extensions_shaped paper s x
    unfolding all_shaped
    shape-end {shaped} p = sym (p.is ∙ rw (members-none s at x.end f) (and-true shaped))

    pub mark-end : {allow flag : Bool} → Marking s x allow flag at → flag ≡ critical_of paper s x allow
    unfolding some_critical
    mark-end {allow} {flag} p = sym (p.is ∙ rw (members-none s at x.end f) (or-false flag))

  module _ {e : Element} {next : ℕ} (f : found_at paper s at x.end ≡ Some e) (ends : next ≡ e.end) where
    pub shape_on : {shaped there : Bool} → Shaping s x shaped at → there ≡ present (extension_of paper s e) → Shaping s x (shaped && there) next
    unfolding all_shaped
    shape_on {shaped} {there} p h =
        record { is = p.is ∙ rw (members-more s at x.end f, ← h, ends) (go shaped there (all_shaped paper s (members_of paper s e.end x.end))) }
      where
        go : (a b c : Bool) → (a && cond b c false) ≡ ((a && b) && c)
        go true true c = refl
        go true false c = refl
        go false b c = refl

    pub mark_on : {allow flag more : Bool} → Marking s x allow flag at → more ≡ refused_critical s allow (extension_of paper s e) → Marking s x allow (flag || more) next
    unfolding some_critical
    mark_on {allow} {flag} {more} p h =
        record { is = p.is ∙ rw (members-more s at x.end f, ← h, ends) (go flag more (some_critical paper s allow (members_of paper s e.end x.end))) }
      where
        go : (a b c : Bool) → (a || cond b true c) ≡ ((a || b) || c)
        go true b c = refl
        go false true c = refl
        go false false c = refl

  -- a member that the fast path passes changes neither flag
  module _ {next : ℕ} (m : Plain s at x.end next) where
    pub shape-plain : {shaped : Bool} → Shaping s x shaped at → Shaping s x shaped next
    shape-plain {shaped} p = subst (λ (t : Bool). Shaping s x t next) (and-true shaped) (shape_on m.found m.ends p (sym m.there))

    pub mark-plain : {flag : Bool} → Marking s x false flag at → Marking s x false flag next
    mark-plain {flag} p = subst (λ (t : Bool). Marking s x false t next) (or-false flag) (mark_on m.found m.ends p (sym m.mild))
