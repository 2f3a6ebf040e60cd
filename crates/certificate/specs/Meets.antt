-- What it is to pass, rule by rule, and what a rule's number in a refusal says.
use Rattle.std.specs.Prelude.{ℕ, ◌≤◌, Bool, true, false, List, [], ◌∷◌, ◌≡◌, Option, Some, None, Ok, Err}
use Rattle.refusal.specs.declared.Refusal.{Refusal}
use Rattle.refusal.specs.declared.Refusal.TheVariants.{Argument, Profile}
use Rattle.der.specs.Forms.{paper}
use Rattle.der.specs.Walk.{walk_of}
use Rattle.refusal.specs.Rules.{Smallest}
use Rattle.certificate.specs.declared.shapes.Layout.{Layout}
use Rattle.certificate.specs.declared.Fields.{Fields}
use Rattle.certificate.specs.Rules.{readings_of, rule2, rule3, rule4, rule5, rule6, rule7, rule8, rule9, rule10, rule11, rule12, rule13, rule14}
use Rattle.certificate.specs.Shape.{layout_of}
use Rattle.certificate.specs.Answer.{fields_of, rules_of}

-- rules 2 to 14 of the parts that rule 1 found
pub record Meets (s : List ℕ) (role : ℕ) (l : Layout) : Type 0 where
  pub version : rule2 s l ≡ true  -- 2
  pub serial : rule3 s l ≡ true  -- 3
  pub algorithms : rule4 s l ≡ true  -- 4
  pub countries : rule5 (readings_of s l) ≡ true  -- 5
  pub bare : rule6 l ≡ true  -- 6
  pub times : rule7 (readings_of s l) ≡ true  -- 7
  pub once : rule8 s l ≡ true  -- 8
  pub usage : rule9 s l.extensions role ≡ true  -- 9
  pub constraints : rule10 s l.extensions role ≡ true  -- 10
  pub keys : rule11 (readings_of s l) role ≡ true  -- 11
  pub four : rule12 s l.extensions ≡ true  -- 12
  pub documents : rule13 s l.extensions role ≡ true  -- 13
  pub uncritical : rule14 s l.extensions ≡ true  -- 14

-- an item that passes in a role with these fields
pub record Passes (s : List ℕ) (role : ℕ) (f : Fields) : Type 0 where
  pub low : 1 ≤ role
  pub high : role ≤ 3
  pub count : ℕ
  pub walks : walk_of paper s ≡ Ok count
  pub layout : Layout
  pub shape : layout_of s ≡ Some layout  -- 1
  pub meets : Meets s role layout
  pub fields : f ≡ fields_of layout (readings_of s layout)

-- rules 1 to 14; where the shape is broken there is nothing that the others could read
unfoldable pub rules_in : List ℕ → ℕ → Option Layout → List Bool
rules_in s role None = false ∷ []
rules_in s role (Some l) = true ∷ rules_of s l (readings_of s l) role

unfoldable pub rules1to14 : List ℕ → ℕ → List Bool
rules1to14 s role = rules_in s role (layout_of s)

-- an item that is walked in a role, and of whose rules k is the smallest broken
pub record Breaks (s : List ℕ) (role k : ℕ) : Type 0 where
  pub low : 1 ≤ role
  pub high : role ≤ 3
  pub count : ℕ
  pub walks : walk_of paper s ≡ Ok count
  pub smallest : Smallest 1 (rules1to14 s role) k

-- what an item is refused for: 1 for another role, what the walk refuses, 4 for a rule
pub data RefusedFor (s : List ℕ) (role : ℕ) : Refusal → Type 0 where
  by-role : (1 ≤ role → role ≤ 3 → ⊥) → RefusedFor s role Argument
  by-walk :
      {refusal : Refusal} → 1 ≤ role → role ≤ 3 → walk_of paper s ≡ Err refusal → RefusedFor s role refusal
  by-rule : {k : ℕ} → Breaks s role k → RefusedFor s role (Profile k)
