-- The members of a stretch, one by one: a member that is found has two octets or more and ends within the stretch, so there are
-- never more members than octets.
use Rattle.std.specs.Prelude.{Option, Some, None}
use mathlib.Core.Path.{◌≡◌, refl, ap, subst, ◌∙◌}
use mathlib.Core.Bool.{Bool, true, false, cond}
use Rattle.std.specs.Bool.{then_some}
use mathlib.Core.List.{List, [], ◌∷◌}
use Prim.Native.Nat.{ℕ, zero, suc, ◌+◌, ◌-◌, ◌≤◌}
use native.Mathlib.Omega.{arith}
use borrow.Author.Tests.{leb-true, eq-eqb, ne_eqb}
use lib.Dec.{leb, eqb}
use lib.ListN.{length, take, drop, length-drop}
use lib.Seq.{length-take-le}
use Rattle.der.specs.declared.heading.Heading.{Heading}
use Rattle.der.specs.declared.stepping.Step.{Step}
use Rattle.der.specs.Forms.{paper}
use Rattle.der.specs.Heading.{heading_of}
use Rattle.der.specs.Member.{placed, member_of}
use Rattle.der.proofs.Bounds.{cond-by, heading-within}
use Rattle.elements.specs.declared.elements.Element.{Element}
use Rattle.elements.specs.Elements.{stepped, found_at, with_tag, on_found, members_in, members_of}

-- what is said of a missing element, and of one that is found
module _ {A : Type 0} {f : Option Element} where
  pub on-missing : {missing : A} (next : Element → A) → f ≡ None → missing ≡ on_found f missing next
  unfolding on_found
  on-missing next h = rw h

  -- the same where the answer to a missing element was handed on
  pub on-none : {missing : A} (next : Element → A) {r : A} → f ≡ None → r ≡ missing → r ≡ on_found f missing next
  on-none next h g = g ∙ on-missing next h

  pub on-found : (missing : A) (next : Element → A) {e : Element} {r : A} → f ≡ Some e → r ≡ next e → r ≡ on_found f missing next
  unfolding on_found
  on-found missing next h g = rw h g

pub kept_if : {A : Type 0} (b : Bool) (x : A) → then_some b x ≡ cond b (Some x) None
kept_if true x = refl
kept_if false x = refl

-- an element that has the tag is kept, and no other
module _ {f : Option Element} (tag : ℕ) where
  pub tag-missing : f ≡ None → with_tag tag f ≡ None
  unfolding with_tag
  tag-missing h = rw h

  module _ {e : Element} (h : f ≡ Some e) where
    pub tag-kept : e.tag ≡ tag → with_tag tag f ≡ Some e
    unfolding with_tag
    tag-kept g = rw (h, eq-eqb _ _ g)

    pub tag-kept-if : then_some (eqb e.tag tag) e ≡ with_tag tag f
    unfolding with_tag
    tag-kept-if = rw h (kept_if _ _)

    pub tag-other : (e.tag ≡ tag → ⊥) → with_tag tag f ≡ None
    unfolding with_tag
    tag-other g = rw (h, ne_eqb _ _ g)

abbrev Within : List ℕ → ℕ → ℕ → Element → Type 0
Within s from end e =
    (e.at ≡ from) × (from + 2 ≤ e.end) × (e.end ≤ end) × (end ≤ length s) × (e.at + 2 ≤ e.contents) × (e.contents ≤ e.end)

data FoundWithin (s : List ℕ) (from end : ℕ) : Option Element → Type 0 where
  one_in : {e : Element} → Within s from end e → FoundWithin s from end (Some e)
  missing-in : FoundWithin s from end None

found-keeps : (s : List ℕ) (from end : ℕ) → FoundWithin s from end (found_at paper s from end)
unfolding found_at stepped member_of placed
found-keeps s from end =
    cond-by Keeps (leb from end)
    (λ h. cond-by Keeps (leb end (length s)) (λ g. go (leb-true _ _ h) (leb-true _ _ g) (heading_of paper part) refl) (λ g. missing-in))
    (λ h. missing-in)
  where
    Keeps : Option Step → Type 0
    Keeps step = FoundWithin s from end (stepped from step)

    part : List ℕ
    part = take (end - from) (drop from s)

    go : from ≤ end → end ≤ length s → (heading : Option Heading) → heading_of paper part ≡ heading → Keeps (placed from heading)
    go h g None e = missing-in
    go h g (Some h1) e =
        let long : length part ≡ end - from = length-take-le _ _ (rw length-drop (omega arith)) in
        let inside : (2 ≤ h1.skip) × (h1.skip + h1.size ≤ length part) = heading-within paper part h1.tag h1.skip h1.size e in
        one_in {e = record { tag = h1.tag; at = from; contents = from + h1.skip; end = from + h1.skip + h1.size }} (refl, omega arith, omega arith, g, omega arith, omega arith)

pub found_within : (s : List ℕ) (from end : ℕ) {e : Element} → found_at paper s from end ≡ Some e → Within s from end e
found_within s from end {e} h = go (subst (FoundWithin s from end) h (found-keeps s from end))
  where
    go : FoundWithin s from end (Some e) → Within s from end e
    go (one_in w) = w

-- fuel beyond the octets that are left changes nothing
spare : (fuel : ℕ) (s : List ℕ) (from end : ℕ) → end - from ≤ fuel → members_in paper (suc fuel) s from end ≡ members_in paper fuel s from end
unfolding members_in on_found
spare zero s from end h = go (found_at paper s from end) refl
  where
    go : (f : Option Element) → found_at paper s from end ≡ f → on_found f [] (λ e. e ∷ []) ≡ []
    go None g = refl
    go (Some e) g = absurd (omega (arith, found_within s from end g))
spare (suc fuel) s from end h = go (λ at. spare fuel s at end) (found_at paper s from end) refl
  where
    go : ((at : ℕ) → end - at ≤ fuel → members_in paper (suc fuel) s at end ≡ members_in paper fuel s at end) → (f : Option Element) → found_at paper s from end ≡ f → on_found f [] (λ e. e ∷ members_in paper (suc fuel) s e.end end) ≡ on_found f [] (λ e. e ∷ members_in paper fuel s e.end end)
    go less None g = refl
    go less (Some e) g = ap (◌∷◌ e) (less e.end (omega (arith, found_within s from end g)))

module _ (s : List ℕ) (from end : ℕ) where
  pub members-none : found_at paper s from end ≡ None → members_of paper s from end ≡ []
  unfolding members_of members_in on_found
  members-none h = go (length s)
    where
      go : (fuel : ℕ) → members_in paper fuel s from end ≡ []
      go zero = refl
      go (suc fuel) = rw h

  pub members-more : {e : Element} → found_at paper s from end ≡ Some e → members_of paper s from end ≡ e ∷ members_of paper s e.end end
  unfolding members_of members_in on_found
  members-more {e} h = go (length s) (omega (arith, found_within s from end h))
    where
      go : (fuel : ℕ) → end - e.end + 1 ≤ fuel → members_in paper fuel s from end ≡ e ∷ members_in paper fuel s e.end end
      go zero g = absurd (omega arith)
      go (suc fuel) g = rw (h, spare fuel s e.end end (omega arith))
