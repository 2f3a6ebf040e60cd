-- An element has a member just if one is found where its contents start.
use Rattle.std.specs.Prelude.{Option, Some, None}
use Rattle.std.proofs.Common.{is_some}
use Prim.Native.Nat.{ℕ}
use mathlib.Core.Bool.{not}
use mathlib.Core.List.{List}
use mathlib.Core.Path.{◌≡◌, refl}
use lib.Dec.{eqb, eqb-suc-zero}
use lib.ListN.{length}
use Rattle.der.specs.Forms.{paper}
use Rattle.elements.specs.declared.elements.Element.{Element}
use Rattle.elements.specs.Elements.{found_at, inside}
use Rattle.elements.proofs.Members.{members-none, members-more}

pub some-inside : (s : List ℕ) (e : Element) → not (eqb (length (inside paper s e)) 0) ≡ is_some (found_at paper s e.contents e.end)
unfolding inside
some-inside s e = go (found_at paper s e.contents e.end) refl
  where
    go : (f : Option Element) → found_at paper s e.contents e.end ≡ f → not (eqb (length (inside paper s e)) 0) ≡ is_some f
    go None h = rw (members-none s e.contents e.end h)
    go (Some first) h = rw (members-more s e.contents e.end h, eqb-suc-zero)
