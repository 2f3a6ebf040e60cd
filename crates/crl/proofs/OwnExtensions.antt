-- What is kept of the CRL's own extensions is what the rules ask of them.
use Rattle.std.specs.Prelude.{Option, Some, None}
use Prim.Native.Nat.{ℕ}
use mathlib.Core.Bool.{false}
use mathlib.Core.List.{List}
use mathlib.Core.Path.{◌≡◌, ap}
use Rattle.der.specs.Forms.{paper}
use Rattle.elements.specs.declared.elements.Element.{Element}
use Rattle.extensions.specs.declared.Extension.{Extension}
use Rattle.std.specs.Option.{is_some}
use Rattle.extensions.specs.declared.Held.{Held}
use Rattle.extensions.specs.Extensions.{present, extensions_shaped, held_of, doubled_of, critical_of}
use Rattle.crl.specs.declared.own.Own.{Own}
use Rattle.crl.specs.Own.{own_of}
use Rattle.crl.specs.Rules.{key_there, number_there}

-- a slot tells whether its extension is there
pub there-told : {held : Option Held} (x : Option Extension) → held ≡ held_of x → is_some held ≡ present x
unfolding held_of present
there-told None h = rw h
there-told (Some x) h = rw h

module _ {own : Own} (s : List ℕ) (e : Element) (h : own ≡ own_of paper s e) where
  pub own-shaped : own.shaped ≡ extensions_shaped paper s e
  unfolding own_of
  own-shaped = ap (λ (o : Own). o.shaped) h

  pub own-marked : own.marked ≡ critical_of paper s e false
  unfolding own_of
  own-marked = ap (λ (o : Own). o.marked) h

  pub own-doubled : own.doubled ≡ doubled_of paper s e
  unfolding own_of
  own-doubled = ap (λ (o : Own). o.doubled) h

  pub own-keyed : own.keyed ≡ key_there paper s e
  unfolding own_of
  own-keyed = ap (λ (o : Own). o.keyed) h

  pub own-numbered : own.numbered ≡ number_there paper s e
  unfolding own_of
  own-numbered = ap (λ (o : Own). o.numbered) h
