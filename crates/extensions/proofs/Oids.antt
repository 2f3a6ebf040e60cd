-- The OID of an extension is its first element: what starts with an OID is no extension, or one that has this OID.
use Rattle.std.specs.Prelude.{Option, Some, None}
use mathlib.Core.Path.{◌≡◌}
use mathlib.Core.Bool.{Bool, true, false, cond}
use mathlib.Core.List.{List}
use Prim.Native.Nat.{ℕ}
use lib.Dec.{eqb}
use lib.ListN.{get_or}
use Rattle.der.specs.Forms.{paper}
use Rattle.der.proofs.Bounds.{cond-by}
use Rattle.elements.specs.declared.elements.Element.{Element}
use Rattle.elements.specs.Elements.{found_at, found_tagged, with_tag, on_found}
use Rattle.extensions.specs.declared.Extension.{Extension}
use Rattle.extensions.specs.Extensions.{holding_of, extension_of}
use Rattle.extensions.proofs.Payloads.{an_extension}

module _ (s : List ℕ) (e own : Element) (P : Option Extension → Type 0) (none : P None) (some : (critical : Bool) (value : Element) → P (an_extension own critical value)) where
  held : (critical : Bool) (next : Option Element) → P (holding_of e own critical next)
  unfolding holding_of with_tag on_found
  held critical None = none
  held critical (Some v) =
      cond-by (λ (f : Option Element). P (on_found f None λ value. cond (eqb value.end e.end) (an_extension own critical value) None)) (eqb v.tag 0x04)
      (λ t. cond-by P (eqb v.end e.end) (λ t. some critical v) (λ t. none))
      (λ t. none)

  pub by-oid : found_tagged paper s e.contents e.end 0x06 ≡ Some own → P (extension_of paper s e)
  unfolding extension_of on_found
  by-oid h = cond-by P (eqb e.tag 0x30) (λ t. rw h (after (found_at paper s own.end e.end))) (λ t. none)
    where
      after : (f : Option Element) → P (on_found f None λ next. cond (eqb next.tag 0x01) (cond (eqb (get_or s next.contents 0) 255) (holding_of e own true (found_at paper s next.end e.end)) None) (holding_of e own false (Some next)))
      after None = none
      after (Some m) =
          cond-by P (eqb m.tag 0x01)
          (λ t. cond-by P (eqb (get_or s m.contents 0) 255) (λ u. held true (found_at paper s m.end e.end)) (λ u. none))
          (λ t. held false (Some m))
