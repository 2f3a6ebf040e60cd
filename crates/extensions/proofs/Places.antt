-- No member is found from the end on.
use Rattle.std.specs.Prelude.{Option, Some, None}
use Prim.Native.Nat.{ℕ, ◌≤◌}
use mathlib.Core.List.{List}
use mathlib.Core.Path.{◌≡◌, refl}
use native.Mathlib.Omega.{arith}
use Rattle.der.specs.Forms.{paper}
use Rattle.elements.specs.declared.elements.Element.{Element}
use Rattle.elements.specs.Elements.{found_at}
use Rattle.elements.proofs.Members.{found_within}

pub beyond : (s : List ℕ) {at end : ℕ} → end ≤ at → found_at paper s at end ≡ None
beyond s {at} {end} l = go (found_at paper s at end) refl
  where
    go : (f : Option Element) → found_at paper s at end ≡ f → f ≡ None
    go None h = refl
    go (Some e) h = absurd (omega (arith, found_within s at end h))
