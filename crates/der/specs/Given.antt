-- The forms that the numbers of a call stand for. No public promise cites this.
use Rattle.std.specs.Prelude.{ℕ, ◌≤◌, ◌≡◌}
use Rattle.der.specs.declared.limits.Limits.{Limits}
use Rattle.der.specs.Forms.{Forms}

-- `left` levels of depth are left
pub record Given (limits : Limits) (left : ℕ) (forms : Forms) : Type 0 where
  pub octets : forms.length_octets ≡ limits.digits
  pub tags : forms.wide_tags ≡ limits.wide
  pub limit : forms.elements ≡ limits.most
  pub levels : left ≤ forms.depth
