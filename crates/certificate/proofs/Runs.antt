-- The rules are told in two runs: what the first run refuses is refused, and else what the second run refuses.
use Rattle.std.specs.Prelude.{Some, None, Ok, Err}
use Prim.Native.Nat.{ℕ, suc, ◌+◌}
use mathlib.Core.Bool.{Bool, true, false}
use mathlib.Core.List.{List, [], ◌∷◌, ◌++◌}
use mathlib.Core.Path.{◌≡◌, refl}
use native.Mathlib.Omega.{arith}
use lib.Dec.{eqb-suc-zero}
use lib.ListN.{length}
use Rattle.refusal.specs.declared.Refusal.{Refusal}
use Rattle.refusal.specs.declared.Refusal.TheVariants.{Profile}
use Rattle.refusal.specs.Rules.{first_broken}
use Rattle.der.specs.Forms.{paper}
use Rattle.extensions.specs.Extensions.{extensions_shaped}
use Rattle.certificate.specs.declared.Fields.{Fields}
use Rattle.certificate.specs.declared.rules.Readings.{Readings}
use Rattle.certificate.specs.declared.shapes.Layout.{Layout}
use Rattle.certificate.specs.Rules.{readings_of, rules2to8, rules9to14, told}
use Rattle.certificate.specs.Shape.{on_parts, parts_of, layout_of}
use Rattle.certificate.specs.Answer.{fields_of, graded, on_shape, rules_of, profile_of}

module _ (f : Fields) where
  pub told-early : (rule : ℕ) (xs ys : List Bool) {e : Refusal} → told (suc rule) xs ≡ Err e → Err e ≡ graded (first_broken (suc rule) (xs ++ ys)) f
  unfolding told first_broken graded
  told-early rule [] ys h = cc
  told-early rule (true ∷ xs) ys h = told-early (suc rule) xs ys h
  told-early rule (false ∷ xs) ys h = rw eqb-suc-zero (cc)

  pub told-refused : (rule : ℕ) (xs : List Bool) {e : Refusal} → told (suc rule) xs ≡ Err e → Err e ≡ graded (first_broken (suc rule) xs) f
  unfolding told first_broken graded
  told-refused rule [] h = cc
  told-refused rule (true ∷ xs) h = told-refused (suc rule) xs h
  told-refused rule (false ∷ xs) h = rw eqb-suc-zero (cc)

  pub told-late : (rule : ℕ) (xs ys : List Bool) {u : Unit {0}} → told (suc rule) xs ≡ Ok u
      → graded (first_broken (suc rule) (xs ++ ys)) f ≡ graded (first_broken (suc rule + length xs) ys) f
  unfolding told first_broken
  told-late rule [] ys h = let same : suc rule + 0 ≡ suc rule = omega arith in rw same
  told-late rule (true ∷ xs) ys h = let same : suc rule + suc (length xs) ≡ suc (suc rule) + length xs = omega arith in rw same (told-late (suc rule) xs ys h)
  told-late rule (false ∷ xs) ys h = cc

  pub told-whole : (rule : ℕ) (xs : List Bool) {u : Unit {0}} → told (suc rule) xs ≡ Ok u → Ok f ≡ graded (first_broken (suc rule) xs) f
  unfolding told first_broken graded
  told-whole rule [] h = refl
  told-whole rule (true ∷ xs) h = told-whole (suc rule) xs h
  told-whole rule (false ∷ xs) h = cc

-- what the profile answers, by what is found of the parts, of the extensions and of the rules
module _ (s : List ℕ) (role : ℕ) where
  pub profile-shapeless : parts_of s ≡ None → Err (Profile 1) ≡ profile_of s role
  unfolding profile_of layout_of on_parts on_shape
  profile-shapeless p = rw p

  module _ {l : Layout} (p : parts_of s ≡ Some l) where
    pub profile-misshapen : extensions_shaped paper s l.extensions ≡ false → Err (Profile 1) ≡ profile_of s role
    unfolding profile_of layout_of on_parts on_shape
    profile-misshapen x = rw (p, x)

    module _ (x : extensions_shaped paper s l.extensions ≡ true) {r : Readings} (read : r ≡ readings_of s l) where
      pub profile-early : {e : Refusal} → told 2 (rules2to8 s l r) ≡ Err e → Err e ≡ profile_of s role
      unfolding profile_of layout_of on_parts on_shape rules_of
      profile-early h = rw (p, x, ← read) (told-early _ 1 _ _ h)

      module _ {u : Unit {0}} (early : told 2 (rules2to8 s l r) ≡ Ok u) where
        late : graded (first_broken 2 (rules_of s l r role)) (fields_of l r) ≡ graded (first_broken 9 (rules9to14 s l.extensions r role)) (fields_of l r)
        unfolding rules_of rules2to8
        late = told-late _ 1 _ _ early

        pub profile-late : {e : Refusal} → told 9 (rules9to14 s l.extensions r role) ≡ Err e → Err e ≡ profile_of s role
        unfolding profile_of layout_of on_parts on_shape
        profile-late h = rw (p, x, ← read, late) (told-refused _ 8 _ h)

        pub profile-passed : {v : Unit {0}} → told 9 (rules9to14 s l.extensions r role) ≡ Ok v → Ok (fields_of l r) ≡ profile_of s role
        unfolding profile_of layout_of on_parts on_shape
        profile-passed h = rw (p, x, ← read, late) (told-whole _ 8 _ h)
