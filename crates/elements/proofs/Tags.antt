-- The tag of an element is its first octet: where that is another, no element with the tag is found.
use Rattle.std.specs.Prelude.{Option, Some, None}
use Prim.Native.Nat.{ℕ, ◌+◌, ◌-◌, ◌≤◌}
use mathlib.Core.Path.{◌≡◌, refl, sym, ap, ◌∙◌}
use mathlib.Core.Bool.{◌&&◌}
use mathlib.Core.List.{List}
use native.Mathlib.Omega.{arith}
use borrow.Author.Tests.{leb-true, ne_eqb}
use lib.Dec.{leb, ltb}
use lib.ListN.{length, get_or, take, drop, length-drop}
use lib.Seq.{length-take-le, get_or-take, get_or-drop}
use Rattle.der.specs.declared.heading.Heading.{Heading}
use Rattle.der.specs.declared.stepping.Step.{Step}
use Rattle.der.specs.Forms.{paper}
use Rattle.der.specs.Heading.{identifier_good, within, long, smallest, sized, wide_heading, heading_of}
use Rattle.octets.specs.Octets.{number}
use Rattle.der.specs.Member.{placed, member_of}
use Rattle.der.proofs.Bounds.{cond-by, heading-within}
use Rattle.elements.specs.Elements.{stepped, found_at, with_tag}

unfoldable Tagged : ℕ → Option Heading → Type 0
Tagged first (Some h) = h.tag ≡ first
Tagged first None = first ≡ first

within-tagged : (s : List ℕ) (tag skip size : ℕ) → Tagged tag (within s tag skip size)
unfolding within Tagged
within-tagged s tag skip size = cond-by (Tagged tag) (leb (skip + size) (length s)) (λ h. refl) (λ h. refl)

sized-tagged : (s : List ℕ) (tag at : ℕ) → Tagged tag (sized paper s tag at)
unfolding sized long Tagged
sized-tagged s tag at =
    cond-by Is (leb (length s) at) (λ h. refl)
    (λ h. cond-by Is (ltb (get_or s at 0) 128) (λ f. within-tagged s tag (at + 1) (get_or s at 0))
    (λ f. cond-by Is (leb 1 k && (leb k paper.length_octets && leb (at + 1 + k) (length s)))
    (λ e. cond-by Is (leb (smallest k) n) (λ d. within-tagged s tag (at + 1 + k) n) (λ d. refl))
    (λ e. refl)))
  where
    Is : Option Heading → Type 0
    Is = Tagged tag

    k : ℕ
    k = get_or s at 0 - 128

    n : ℕ
    n = number (take k (drop (at + 1) s))

-- the paper has no tags of two octets
heading-tagged : (s : List ℕ) → Tagged (get_or s 0 0) (heading_of paper s)
unfolding heading_of wide_heading Tagged
heading-tagged s =
    cond-by Is (ltb (length s) 2) (λ h. refl)
    (λ h. cond-by Is (identifier_good (get_or s 0 0)) (λ g. sized-tagged s (get_or s 0 0) 1) (λ g. refl))
  where
    Is : Option Heading → Type 0
    Is = Tagged (get_or s 0 0)

pub found-other : (s : List ℕ) (from end tag : ℕ) → (get_or s from 0 ≡ tag → ⊥) → with_tag tag (found_at paper s from end) ≡ None
unfolding found_at stepped member_of placed with_tag Tagged
found-other s from end tag other =
    cond-by Lost (leb from end)
    (λ h. cond-by Lost (leb end (length s)) (λ g. go (leb-true _ _ h) (leb-true _ _ g) (heading_of paper part) refl (heading-tagged part)) (λ g. refl))
    (λ h. refl)
  where
    Lost : Option Step → Type 0
    Lost step = with_tag tag (stepped from step) ≡ None

    part : List ℕ
    part = take (end - from) (drop from s)

    go : from ≤ end → end ≤ length s → (heading : Option Heading) → heading_of paper part ≡ heading → Tagged (get_or part 0 0) heading → Lost (placed from heading)
    go h g None e t = refl
    go h g (Some h1) e is =
        let long : length part ≡ end - from = length-take-le _ _ (rw length-drop (omega arith)) in
        let inside : (2 ≤ h1.skip) × (h1.skip + h1.size ≤ length part) = heading-within paper part h1.tag h1.skip h1.size e in
        let zero : from + 0 ≡ from = omega arith in
        let first : get_or part 0 0 ≡ get_or s from 0 = get_or-take (end - from) (drop from s) 0 0 (omega (arith, long, inside)) ∙ get_or-drop from s 0 0 ∙ ap (λ (n : ℕ). get_or s n 0) zero in
        rw (ne_eqb _ _ (λ q. other (sym first ∙ (sym is ∙ q))))
