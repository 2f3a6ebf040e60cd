-- What is told of a CRL's own extensions. No public promise cites this.
use Rattle.std.specs.Prelude.{ℕ, true, false, List, [], ◌∷◌, ◌≡◌, Some}
use Rattle.der.specs.Forms.{Forms}
use Rattle.elements.specs.declared.elements.Element.{Element}
use Rattle.elements.specs.Elements.{found_at, contents_of}
use Rattle.extensions.specs.Extensions.{extension_of, extensions_shaped, doubled_of, critical_of}
use Rattle.crl.specs.declared.own.Own.{Own}
use Rattle.crl.specs.Rules.{key_there, number_there}

unfoldable pub own_of : Forms → List ℕ → Element → Own
own_of forms s extensions =
    record {
      shaped = extensions_shaped forms s extensions;
      marked = critical_of forms s extensions false;
      doubled = doubled_of forms s extensions;
      keyed = key_there forms s extensions;
      numbered = number_there forms s extensions;
    }

-- what is told of authorityKeyIdentifier and cRLNumber alone, neither of them critical
abbrev pub own_usual : Own
own_usual = record { shaped = true; marked = false; doubled = false; keyed = true; numbered = true }

-- the extension 2.5.29.arc, not critical, starts at `from` and ends at r
pub record Known (forms : Forms) (s : List ℕ) (from stop arc r : ℕ) : Type 0 where
  pub e : Element
  pub found : found_at forms s from stop ≡ Some e
  pub ends : r ≡ e.end
  pub oid : Element
  pub value : Element
  pub is : extension_of forms s e ≡ Some (record { oid = oid; critical = false; value = value })
  pub own : contents_of s oid ≡ 0x55 ∷ 0x1D ∷ arc ∷ []
