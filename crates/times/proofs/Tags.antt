-- The element that has the tag of a UTCTime, or else that of a GeneralizedTime.
use Rattle.std.specs.Prelude.{Option, Some, None}
use mathlib.Core.Path.{◌≡◌, refl, sym}
use mathlib.Core.Bool.{Bool, true, false, cond}
use lib.Dec.{eqb}
use Rattle.elements.specs.declared.elements.Element.{Element}
use Rattle.elements.specs.Elements.{with_tag, on_found}
use Rattle.times.specs.Times.{time_tag}

abbrev pub kept : Option Element → Option Element
kept f = on_found f None λ e. cond (time_tag e.tag) (Some e) None

pub utc-kept : (f : Option Element) {e : Element} → with_tag 0x17 f ≡ Some e → Some e ≡ kept f
unfolding with_tag on_found time_tag
utc-kept None h = cc
utc-kept (Some x) {e} h = go (eqb x.tag 0x17) h
  where
    go : (t : Bool) → cond t (Some x) None ≡ Some e → Some e ≡ cond (cond t true (eqb x.tag 0x18)) (Some x) None
    go true g = sym g
    go false g = cc

pub other-kept : (f : Option Element) → with_tag 0x17 f ≡ None → with_tag 0x18 f ≡ kept f
unfolding with_tag on_found time_tag
other-kept None h = refl
other-kept (Some x) h = go (eqb x.tag 0x17) h
  where
    go : (t : Bool) → cond t (Some x) None ≡ None → cond (eqb x.tag 0x18) (Some x) None ≡ cond (cond t true (eqb x.tag 0x18)) (Some x) None
    go true g = cc
    go false g = refl
