-- What the pass knows where the extensions from `at` on are left.
use Rattle.std.specs.Prelude.{Option, Some, None}
use mathlib.Core.Path.{◌≡◌, refl, sym, ap, ◌∙◌}
use mathlib.Core.Bool.{Bool, true, false, ◌&&◌, ◌||◌, not}
use mathlib.Core.List.{List}
use Prim.Native.Nat.{ℕ, ◌<◌, ◌≤◌}
use native.Mathlib.Omega.{arith}
use borrow.Author.Tests.{eq-eqb}
use lib.Dec.{eqb}
use lib.ListN.{get_or, set, replicate}
use Rattle.der.specs.Forms.{paper}
use Rattle.elements.specs.declared.elements.Element.{Element}
use Rattle.extensions.specs.declared.Extension.{Extension}
use Rattle.std.specs.Option.{is_some}
use Rattle.extensions.specs.declared.Held.{Held}
use Rattle.elements.specs.Elements.{found_at, inside}
use Rattle.extensions.specs.Extensions.{extension_of, present, extensions_shaped, doubled_of, refused_critical, critical_of, oid_of, held_of, lookup_of, Slotted, Placed}
use Rattle.extensions.specs.Strange.{strange_oids, strange_from, own_oid, mark_of, twice_in}
use Rattle.extensions.proofs.Outlining.{Shaping, Marking, shape-start, mark-start, shape-end, mark-end, shape_on, mark_on}
use Rattle.extensions.proofs.Slots.{has_there, held-there, Open, open-start, open_none, open-set, open-left}
use Rattle.extensions.proofs.Strangers.{Apart, apart-start, apart_none, apart-few, apart-again, apart-new, apart-stranger, apart-absent}

pub record Far (s : List ℕ) (x : Element) (shaped marked critical twice unsure : Bool) (slots : List (Option Held)) (marks : List Bool) (at : ℕ) : Type 0 where
  pub shape : Shaping s x shaped at
  pub mild : Marking s x false marked at
  pub harsh : Marking s x true critical at
  pub table : Open s x.contents x.end slots at
  pub apart : Apart s x.contents x.end slots twice unsure marks at

pub far-start :
    (s : List ℕ) (x : Element)
    → Far s x (eqb x.tag 0x30) false false false false (replicate 23 (held_of None)) (replicate 64 false) x.contents
far-start s x =
    record {
      shape = shape-start s x;
      mild = mark-start s x false;
      harsh = mark-start s x true;
      table = open-start s x.contents x.end;
      apart = apart-start s x.contents x.end;
    }

module _
    {s : List ℕ} {x : Element} {shaped marked critical twice unsure : Bool} {slots : List (Option Held)} {marks : List Bool} {at : ℕ}
    (p : Far s x shaped marked critical twice unsure slots marks at) where
  module _ (f : found_at paper s at x.end ≡ None) where
    pub end-shape : shaped ≡ extensions_shaped paper s x
    end-shape = shape-end f p.shape

    pub end-marks : marked ≡ critical_of paper s x false
    end-marks = mark-end f p.mild

    pub end-harsh : critical ≡ critical_of paper s x true
    end-harsh = mark-end f p.harsh

    pub end-placed : Placed paper s x slots
    unfolding lookup_of inside
    end-placed = record { each = open_none p.table f }

    -- what the OIDs without a slot decide
    pub end-asked : twice ≡ false → twice_in (strange_oids paper s (inside paper s x)) ≡ doubled_of paper s x
    unfolding doubled_of inside strange_from
    end-asked t = sym (apart_none p.apart f t)

    pub end-apart : twice ≡ false → unsure ≡ false → twice ≡ doubled_of paper s x
    unfolding doubled_of inside
    end-apart t u = t ∙ sym (apart_none p.apart f t ∙ apart-few p.apart f u)

    pub end-twice : twice ≡ true → twice ≡ doubled_of paper s x
    unfolding doubled_of inside
    end-twice t = t ∙ sym (p.apart.told t)

  module _ {e : Element} {slot next : ℕ} {mark told : Bool} (f : found_at paper s at x.end ≡ Some e) (ends : next ≡ e.end) (h : Slotted s (extension_of paper s e) slot) (m : mark ≡ refused_critical s false (extension_of paper s e)) (u : told ≡ refused_critical s true (extension_of paper s e)) where
    abbrev Next : Bool → Bool → List (Option Held) → List Bool → Type 0
    Next twice unsure slots marks = Far s x (shaped && not (eqb slot 24)) (marked || mark) (critical || told) twice unsure slots marks next

    far-next :
        {after : List (Option Held)} {noted : List Bool} {doubled doubt : Bool} → Open s x.contents x.end after e.end
        → Apart s x.contents x.end after doubled doubt noted e.end → Next doubled doubt after noted
    far-next o a =
        record {
          shape = shape_on f ends p.shape (sym h.there);
          mild = mark_on f ends p.mild m;
          harsh = mark_on f ends p.harsh u;
          table = rw ends o;
          apart = rw ends a;
        }

    pub far-new :
        {held : Option Held} → held ≡ held_of (extension_of paper s e) → slot < 23 → is_some (get_or slots slot (held_of None)) ≡ false
        → Next twice unsure (set slots slot held) marks
    far-new {held} new l g = far-next (open-set p.table f h new l g) (apart-new p.apart f h l held there p.table.long g)
      where
        there : is_some held ≡ true
        there = ap (λ (f : Option Held). is_some f) new ∙ held-there (extension_of paper s e) (has_there s (oid_of slot) (extension_of paper s e) (sym (h.each slot l) ∙ eq-eqb slot slot refl))

    pub far-again : slot < 23 → is_some (get_or slots slot (held_of None)) ≡ true → Next true unsure slots marks
    far-again l n = far-next (open-left p.table f h (λ r. n)) (apart-again p.apart f h l n)

    pub far-stranger :
        {place : ℕ} → 23 ≤ slot → (slot ≡ 24 → ⊥) → place ≡ mark_of (own_oid s (extension_of paper s e)) → place < 64
        → Next twice (unsure || get_or marks place false) slots (set marks place true)
    far-stranger l n is low = far-next (open-left p.table f h (λ r. absurd (omega arith))) (apart-stranger p.apart f h l n is low)

    pub far_none : slot ≡ 24 → Next twice unsure slots marks
    unfolding present
    far_none q =
        far-next (open-left p.table f h (λ r. absurd (omega arith)))
        (apart-absent p.apart f h (omega arith) (absent (extension_of paper s e) (h.there ∙ rw (eq-eqb slot 24 q))))
      where
        absent : (y : Option Extension) → present y ≡ false → y ≡ None
        absent None z = refl
        absent (Some x) z = cc
