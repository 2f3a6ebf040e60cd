-- What the answers say of a CRL: the rules that it meets, the first that it breaks, and where a serial is listed.
use Rattle.std.specs.Prelude.{ℕ, Bool, true, false, ◌≡◌, Option, Some, None, Ok, Err}
use mathlib.Core.List.{List, [], ◌∷◌, Memᴰ}
use Rattle.refusal.specs.declared.Refusal.{Refusal}
use Rattle.refusal.specs.declared.Refusal.TheVariants.{Profile}
use Rattle.refusal.specs.Rules.{Smallest}
use Rattle.der.specs.Forms.{Forms}
use Rattle.der.specs.Walk.{walk_of}
use Rattle.elements.specs.declared.elements.Element.{Element}
use Rattle.elements.specs.Elements.{found_tagged, contents_of}
use Rattle.crl.specs.declared.shapes.Layout.{Layout}
use Rattle.crl.specs.declared.Fields.{Fields}
use Rattle.crl.specs.Answer.{fields_of}
use Rattle.crl.specs.Rules.{readings_of, rule2, rule3, rule4, rule5, rule6, rule7, rule8, rules2to8}
use Rattle.crl.specs.Shape.{layout_of}

-- rules 1 to 8, of a CRL that has the parts `l`
pub record Meets (forms : Forms) (s : List ℕ) (l : Layout) : Type 0 where
  -- 1: the shape
  pub shape : layout_of forms s ≡ Some l
  -- 2: version number 1
  pub version : rule2 s l ≡ true
  -- 3: algorithms equal
  pub algorithms : rule3 s l ≡ true
  -- 4: the issuer's country
  pub country : rule4 (readings_of s l) ≡ true
  -- 5: the times
  pub times : rule5 l (readings_of s l) ≡ true
  -- 6: no empty entry list
  pub entries : rule6 l ≡ true
  -- 7: the extensions
  pub extensions : rule7 forms s l ≡ true
  -- 8: nothing critical
  pub critical : rule8 forms s l ≡ true

-- the walk passes, each rule is met, and the fields are those of the parts
pub record Passes (forms : Forms) (s : List ℕ) (f : Fields) : Type 0 where
  pub count : ℕ
  pub walks : walk_of forms s ≡ Ok count
  pub parts : Layout
  pub meets : Meets forms s parts
  pub fields : f ≡ fields_of parts (readings_of s parts)

-- rules 1 to 8; where the shape is broken there is nothing that the others could read
unfoldable pub rules_in : Forms → List ℕ → Option Layout → List Bool
rules_in forms s None = false ∷ []
rules_in forms s (Some l) = true ∷ rules2to8 forms s l (readings_of s l)

unfoldable pub rules1to8 : Forms → List ℕ → List Bool
rules1to8 forms s = rules_in forms s (layout_of forms s)

-- an item that is walked, and of whose rules k is the smallest broken
pub record Breaks (forms : Forms) (s : List ℕ) (k : ℕ) : Type 0 where
  pub count : ℕ
  pub walks : walk_of forms s ≡ Ok count
  pub smallest : Smallest 1 (rules1to8 forms s) k

-- what an item is refused for: what the walk refuses, 4 for a rule
pub data RefusedFor (forms : Forms) (s : List ℕ) : Refusal → Type 0 where
  by-walk : {refusal : Refusal} → walk_of forms s ≡ Err refusal → RefusedFor forms s refusal
  by-rule : {k : ℕ} → Breaks forms s k → RefusedFor forms s (Profile k)

-- one of the entries has an INTEGER first whose contents are the serial
pub record InList (forms : Forms) (s : List ℕ) (serial : List ℕ) (entries : List Element) : Type 0 where
  pub entry : Element
  pub own : Element
  pub member : Memᴰ entry entries
  pub first : found_tagged forms s entry.contents entry.end 0x02 ≡ Some own
  pub same : contents_of s own ≡ serial
