-- What the pass over extensions is told of one member. No public promise cites this.
use Rattle.std.specs.Prelude.{ℕ, true, false, List, ◌≡◌, Option, Some, None, MatchOption}
use Rattle.der.specs.Forms.{paper}
use Rattle.elements.specs.declared.elements.Element.{Element}
use Rattle.elements.specs.Elements.{found_at}
use Rattle.extensions.specs.declared.Extension.{Extension}
use Rattle.extensions.specs.declared.members.Met.{Met}
use Rattle.extensions.specs.Extensions.{extension_of, present, refused_critical}

-- the member at an offset, and the extension that it is
pub record Member (s : List ℕ) (at end next : ℕ) (own : Option Extension) : Type 0 where
  pub e : Element
  pub found : found_at paper s at end ≡ Some e
  pub ends : next ≡ e.end
  pub is : own ≡ extension_of paper s e

-- what is met at an offset: a member, or none
abbrev pub Meets : List ℕ → ℕ → ℕ → Option Met → Type 0
Meets s at end o = MatchOption o (found_at paper s at end ≡ None) (λ m. Member s at end m.next m.own)

-- a member that ends at `next` and is an extension that is not critical
pub record Plain (s : List ℕ) (at end next : ℕ) : Type 0 where
  pub e : Element
  pub found : found_at paper s at end ≡ Some e
  pub ends : next ≡ e.end
  pub there : present (extension_of paper s e) ≡ true
  pub mild : refused_critical s false (extension_of paper s e) ≡ false
