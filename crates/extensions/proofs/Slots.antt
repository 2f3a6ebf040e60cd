-- The slots of OIDs, and the table of them: what a vacant slot will hold is among the extensions left.
use Rattle.std.specs.Prelude.{Option, Some, None}
use mathlib.Core.Path.{◌≡◌, refl, sym, ap, ◌∙◌}
use mathlib.Core.Bool.{Bool, true, false, cond, ◌&&◌, ◌||◌, not}
use mathlib.Core.List.{List, [], ◌∷◌}
use Prim.Native.Nat.{ℕ, ◌+◌, ◌-◌, ◌<◌, ◌≤◌}
use native.Mathlib.Omega.{arith}
use borrow.Author.Tests.{eq-eqb, ne_eqb, eqb-true, eqb-false, lt-ltb, ltb-true, ltb-false}
use lib.Dec.{eqb, ltb}
use lib.ListN.{length, get_or, set, replicate, get_or-replicate, length-set}
use lib.Seq.{get_or-set_same, get_or-set_other}
use Rattle.der.specs.Forms.{paper}
use Rattle.elements.specs.declared.elements.Element.{Element}
use Rattle.extensions.specs.declared.Extension.{Extension}
use Rattle.std.specs.Option.{is_some}
use Rattle.extensions.specs.declared.Held.{Held}
use Rattle.octets.specs.Alike.{alike}
use Rattle.elements.specs.Elements.{found_at, members_of}
use Rattle.octets.proofs.Likeness.{alike_is, is-alike, unequal-unlike}
use Rattle.elements.proofs.Members.{members-none, members-more}
use Rattle.extensions.specs.Extensions.{extension_of, present, has_oid, first_with, oid_of, held_of, usual, refused_critical, Slotted}
use Rattle.extensions.proofs.Payloads.{an_extension}

-- a test of two numbers is any other that says the same
same_test : (m n : ℕ) (x : Bool) → (m ≡ n → x ≡ true) → (x ≡ true → m ≡ n) → eqb m n ≡ x
same_test m n x p q = go (eqb m n) refl x refl
  where
    go : (t : Bool) → eqb m n ≡ t → (y : Bool) → x ≡ y → t ≡ y
    go true e true f = refl
    go false e false f = refl
    go true e false f = sym (p (eqb-true m n e)) ∙ f
    go false e true f = absurd (eqb-false m n e (q f))

abbrev types_oid : List ℕ
types_oid = 0x67 ∷ 0x81 ∷ 0x08 ∷ 0x01 ∷ 0x01 ∷ 0x06 ∷ 0x02 ∷ []

-- what is the OID of a slot is one of 2.5.29, or the document type list
oid-by : {P : Type 0} (c : List ℕ) (k : ℕ) → c ≡ oid_of k → (k < 22 → c ≡ 0x55 ∷ 0x1D ∷ (k + 14) ∷ [] → P) → (22 ≤ k → c ≡ types_oid → P) → P
unfolding oid_of
oid-by {P} c k e p q = go (ltb k 22) refl e
  where
    go : (t : Bool) → ltb k 22 ≡ t → c ≡ cond t (0x55 ∷ 0x1D ∷ (k + 14) ∷ []) types_oid → P
    go true h f = p (ltb-true k 22 h) f
    go false h f = q (ltb-false k 22 h) f

pub unslotted : (c : List ℕ) (k : ℕ) → k < 23 → (c ≡ oid_of k → ⊥) → eqb 23 k ≡ alike c (oid_of k)
unslotted c k l n = ne_eqb 23 k (λ (q : 23 ≡ k). omega arith) ∙ sym (unequal-unlike c (oid_of k) n)

-- an OID of three octets
module _ (a b c k : ℕ) where
  pub three-slot : a ∷ b ∷ c ∷ [] ≡ oid_of k → (a ≡ 0x55) × (b ≡ 0x1D) × (c ≡ k + 14) × (k < 22)
  three-slot e =
      oid-by _ k e (λ l f. (cc, cc, cc, l))
      (λ l f. let z : ◌≡◌ {A = ℕ} 3 7 = ap length f in absurd (omega arith))

  pub slot-three : a ≡ 0x55 → b ≡ 0x1D → 14 ≤ c → c ≤ 35 → eqb (c - 14) k ≡ alike (a ∷ b ∷ c ∷ []) (oid_of k)
  unfolding oid_of
  slot-three ha hb low high = same_test (c - 14) k _ (λ q. is-alike _ _ (here q)) (λ q. let t = three-slot (alike_is _ _ q) in omega (arith, t))
    where
      here : c - 14 ≡ k → a ∷ b ∷ c ∷ [] ≡ oid_of k
      here q = let s : c ≡ k + 14 = omega arith in let l : k < 22 = omega arith in rw (lt-ltb k 22 l, ha, hb, s)

-- the document type list, and any other
module _ (c : List ℕ) (k : ℕ) (l : k < 23) where
  pub slot-types : alike c types_oid ≡ true → eqb 22 k ≡ alike c (oid_of k)
  unfolding oid_of
  slot-types h = same_test 22 k _ (λ q. is-alike _ _ (alike_is _ _ h ∙ here q)) back
    where
      here : 22 ≡ k → types_oid ≡ oid_of k
      here q = rw (← q)

      back : alike c (oid_of k) ≡ true → 22 ≡ k
      back q =
          oid-by c k (alike_is _ _ q)
          (λ m f. let z : ◌≡◌ {A = ℕ} 7 3 = ap length (sym (alike_is _ _ h) ∙ f) in absurd (omega arith))
          (λ m f. omega arith)

  pub slot-none : (length c ≡ 3 → ⊥) → alike c types_oid ≡ false → eqb 23 k ≡ alike c (oid_of k)
  slot-none n h =
      unslotted c k l λ e.
      oid-by c k e (λ m f. n (ap length f))
      (λ m f. let z : true ≡ false = sym (is-alike _ _ f) ∙ h in let y : ◌≡◌ {A = ℕ} 0 1 = cc in absurd (omega arith))

-- whether an extension is critical that may not be, by its slot
module _ {s : List ℕ} {oid value : Element} {critical : Bool} {slot : ℕ} (h : Slotted s (an_extension oid critical value) slot) where
  pub harsh-slot : refused_critical s true (an_extension oid critical value) ≡ (critical && not (eqb slot 1 || eqb slot 5))
  unfolding refused_critical usual has_oid oid_of
  harsh-slot = rw (← h.each 1 (omega arith), ← h.each 5 (omega arith))

-- A slot while the extensions from some offset on are left: it is vacant, and the first of all is the first of those, or it
-- holds the first of all.
pub data Slot (all rest : Option Extension) (held : Option Held) : Type 0 where
  vacant : held ≡ held_of None → all ≡ rest → Slot all rest held
  taken : held ≡ held_of all → present all ≡ true → Slot all rest held

module _ {all rest : Option Extension} {held : Option Held} where
  slot-moved : {next : Option Extension} → rest ≡ next → Slot all rest held → Slot all next held
  slot-moved q (vacant h e) = vacant h (e ∙ q)
  slot-moved q (taken h e) = taken h e

  slot-end : rest ≡ None → Slot all rest held → held ≡ held_of all
  slot-end q (vacant h e) = h ∙ ap held_of (sym (e ∙ q))
  slot-end q (taken h e) = h

  slot-free : is_some held ≡ false → Slot all rest held → all ≡ rest
  unfolding held_of present
  slot-free n (vacant h e) = e
  slot-free n (taken h e) = absurd (go all h e)
    where
      go : (x : Option Extension) → held ≡ held_of x → present x ≡ true → ⊥
      go None p q = let z : ◌≡◌ {A = ℕ} 0 1 = cc in omega arith
      go (Some x) p q = let z : true ≡ false = sym (ap (λ (f : Option Held). is_some f) p) ∙ n in let y : ◌≡◌ {A = ℕ} 0 1 = cc in omega arith

  slot-full : {next : Option Extension} → is_some held ≡ true → Slot all rest held → Slot all next held
  unfolding held_of
  slot-full n (vacant h e) = let z : true ≡ false = sym n ∙ ap (λ (f : Option Held). is_some f) h in let y : ◌≡◌ {A = ℕ} 0 1 = cc in absurd (omega arith)
  slot-full n (taken h e) = taken h e

-- the table while the extensions from `at` on are left
pub record Open (s : List ℕ) (from end : ℕ) (slots : List (Option Held)) (at : ℕ) : Type 0 where
  pub long : length slots ≡ 23
  pub each : (k : ℕ) → k < 23 → Slot (first_with paper s (oid_of k) (members_of paper s from end)) (first_with paper s (oid_of k) (members_of paper s at end)) (get_or slots k (held_of None))

pub open-start : (s : List ℕ) (from end : ℕ) → Open s from end (replicate 23 (held_of None)) from
open-start s from end = record { long = refl; each = λ k l. vacant (get_or-replicate 23 k (held_of None) (held_of None) l) refl }

pub has_there : (s oid : List ℕ) (x : Option Extension) → has_oid s oid x ≡ true → present x ≡ true
unfolding has_oid present
has_there s oid None h = h
has_there s oid (Some x) h = refl

pub held-there : (x : Option Extension) → present x ≡ true → is_some (held_of x) ≡ true
unfolding present held_of
held-there None h = h
held-there (Some x) h = refl

pub some-present : (x : Option Extension) → is_some x ≡ present x
unfolding present
some-present None = refl
some-present (Some x) = refl

-- what is held says whether it is there
pub there-present : {held : Option Held} (x : Option Extension) → held ≡ held_of x → is_some held ≡ present x
unfolding held_of present
there-present None h = rw h
there-present (Some x) h = rw h

module _ {s : List ℕ} {from end at : ℕ} {slots : List (Option Held)} (o : Open s from end slots at) where
  pub open_none : found_at paper s at end ≡ None → (k : ℕ) → k < 23 → get_or slots k (held_of None) ≡ held_of (first_with paper s (oid_of k) (members_of paper s from end))
  unfolding first_with
  open_none h k l = slot-end (rw (members-none s at end h)) (o.each k l)

  module _ {e : Element} {slot : ℕ} (f : found_at paper s at end ≡ Some e) (h : Slotted s (extension_of paper s e) slot) where
    next : (k : ℕ) → k < 23 → (slot ≡ k → ⊥) → first_with paper s (oid_of k) (members_of paper s at end) ≡ first_with paper s (oid_of k) (members_of paper s e.end end)
    unfolding first_with
    next k l n = rw (members-more s at end f, ← h.each k l, ne_eqb slot k n)

    here : slot < 23 → first_with paper s (oid_of slot) (members_of paper s at end) ≡ extension_of paper s e
    unfolding first_with
    here l = rw (members-more s at end f, ← h.each slot l, eq-eqb slot slot refl)

    pub open-set : {held : Option Held} → held ≡ held_of (extension_of paper s e) → slot < 23 → is_some (get_or slots slot (held_of None)) ≡ false → Open s from end (set slots slot held) e.end
    open-set {held} new room n = record { long = rw length-set o.long; each = λ k l. go k l (eqb slot k) refl }
      where
        first : first_with paper s (oid_of slot) (members_of paper s from end) ≡ extension_of paper s e
        first = slot-free n (o.each slot room) ∙ here room

        own : Slot (first_with paper s (oid_of slot) (members_of paper s from end)) (first_with paper s (oid_of slot) (members_of paper s e.end end)) (get_or (set slots slot held) slot (held_of None))
        own =
            let fits : slot < length slots = omega (arith, o.long) in
            taken (get_or-set_same slots slot held (held_of None) fits ∙ new ∙ ap held_of (sym first))
            (ap present first ∙ has_there s (oid_of slot) (extension_of paper s e) (sym (h.each slot room) ∙ eq-eqb slot slot refl))

        go : (k : ℕ) → k < 23 → (t : Bool) → eqb slot k ≡ t → Slot (first_with paper s (oid_of k) (members_of paper s from end)) (first_with paper s (oid_of k) (members_of paper s e.end end)) (get_or (set slots slot held) k (held_of None))
        go k l true q = rw (sym (eqb-true slot k q)) own
        go k l false q = rw (get_or-set_other slots slot k held (held_of None) (λ w. eqb-false slot k q (sym w))) (slot-moved (next k l (eqb-false slot k q)) (o.each k l))

    pub open-left : (slot < 23 → is_some (get_or slots slot (held_of None)) ≡ true) → Open s from end slots e.end
    open-left n = record { long = o.long; each = λ k l. go k l (eqb slot k) refl }
      where
        go : (k : ℕ) → k < 23 → (t : Bool) → eqb slot k ≡ t → Slot (first_with paper s (oid_of k) (members_of paper s from end)) (first_with paper s (oid_of k) (members_of paper s e.end end)) (get_or slots k (held_of None))
        go k l true q = let same : slot ≡ k = eqb-true slot k q in slot-full (rw same at (n (omega arith))) (o.each k l)
        go k l false q = slot-moved (next k l (eqb-false slot k q)) (o.each k l)
