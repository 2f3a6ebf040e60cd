-- The contents that rules 9 and 10 ask for pass the walk, as computing it tells: so what was compared with them need not be walked.
use Rattle.std.specs.Prelude.{Ok}
use Prim.Native.Nat.{ℕ}
use mathlib.Core.Bool.{Bool, true, false, cond}
use mathlib.Core.List.{List, [], ◌∷◌}
use mathlib.Core.Path.{◌≡◌, refl}
use lib.Dec.{eqb}
use Rattle.der.specs.Contents.{boolean_good, integer_good, bit_string_good, contents_good}
use Rattle.der.specs.Forms.{paper}
use Rattle.der.specs.Heading.{constructed, identifier_good, within, smallest, long, sized, heading_of}
use Rattle.octets.specs.Octets.{number}
use Rattle.der.specs.Order.{smaller, is_set, handed}
use Rattle.der.specs.Walk.{opened, filled, after, element_at, list_at, whole, walk_of}
use Rattle.elements.specs.declared.elements.Element.{Element}
use Rattle.elements.specs.Elements.{contents_of}
use Rattle.octets.proofs.Likeness.{alike_is}
use Rattle.certificate.specs.Keys.{passes, walks}
use Rattle.certificate.specs.Rules.{usage_of, signing_once, critical_with}
use Rattle.extensions.proofs.Payloads.{an_extension}

-- 03 02 07 80 and 03 02 01 06 are one element, 30 06 01 01 FF 02 01 00 is three.
pub usage-walks : (role : ℕ) → walk_of paper (usage_of role) ≡ Ok 1
unfolding usage_of smaller is_set handed walk_of whole element_at list_at opened filled after heading_of sized long within smallest identifier_good constructed contents_good bit_string_good number
usage-walks role = go (eqb role 3)
  where
    go : (b : Bool) → walk_of paper (cond b (0x03 ∷ 0x02 ∷ 0x07 ∷ 0x80 ∷ []) (0x03 ∷ 0x02 ∷ 0x01 ∷ 0x06 ∷ [])) ≡ Ok 1
    go true = refl
    go false = refl

pub constraints-walk : walk_of paper signing_once ≡ Ok 3
unfolding smaller is_set handed walk_of whole element_at list_at opened filled after heading_of sized long within smallest identifier_good constructed contents_good boolean_good integer_good bit_string_good number
constraints-walk = refl

compared :
    (s octets : List ℕ) (oid : Element) (critical : Bool) (value : Element) → critical_with s octets (an_extension oid critical value) ≡ true
    → contents_of s value ≡ octets
unfolding critical_with
compared s octets oid true value e = alike_is (contents_of s value) octets e
compared s octets oid false value e = cc

-- What rules 9 and 10 take has contents that pass the walk.
pub compared-walks :
    (s : List ℕ) (role : ℕ) (oid : Element) (critical : Bool) (value : Element)
    → (critical_with s (usage_of role) (an_extension oid critical value) ≡ true → walks s value ≡ true)
    × (critical_with s signing_once (an_extension oid critical value) ≡ true → walks s value ≡ true)
unfolding walks passes
compared-walks s role oid critical value = (
  (λ e. rw (compared s (usage_of role) oid critical value e, usage-walks role)),
  (λ e. rw (compared s signing_once oid critical value e, constraints-walk)),
)
