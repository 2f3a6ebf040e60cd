-- What the profile answers, by what is found of the parts, of the extensions and of the rules.
use Rattle.std.specs.Prelude.{Some, None, Ok, Err}
use Prim.Native.Nat.{ℕ, suc}
use mathlib.Core.Bool.{Bool, true, false}
use mathlib.Core.List.{List, [], ◌∷◌}
use mathlib.Core.Path.{◌≡◌, refl}
use lib.Dec.{eqb-suc-zero}
use Rattle.der.specs.Forms.{paper}
use Rattle.refusal.specs.declared.Refusal.{Refusal}
use Rattle.refusal.specs.declared.Refusal.TheVariants.{Profile}
use Rattle.refusal.specs.Rules.{first_broken}
use Rattle.extensions.specs.Extensions.{extensions_shaped}
use Rattle.crl.specs.declared.Fields.{Fields}
use Rattle.crl.specs.declared.rules.Readings.{Readings}
use Rattle.crl.specs.declared.shapes.Layout.{Layout}
use Rattle.crl.specs.Rules.{readings_of, rules2to8, told}
use Rattle.crl.specs.Shape.{on_parts, parts_of, layout_of}
use Rattle.crl.specs.Answer.{fields_of, graded, on_shape, profile_of}

module _ (f : Fields) where
  told-refused : (rule : ℕ) (xs : List Bool) {e : Refusal} → told (suc rule) xs ≡ Err e → Err e ≡ graded (first_broken (suc rule) xs) f
  unfolding told first_broken graded
  told-refused rule [] h = cc
  told-refused rule (true ∷ xs) h = told-refused (suc rule) xs h
  told-refused rule (false ∷ xs) h = rw eqb-suc-zero (cc)

  told-whole : (rule : ℕ) (xs : List Bool) {u : Unit {0}} → told (suc rule) xs ≡ Ok u → Ok f ≡ graded (first_broken (suc rule) xs) f
  unfolding told first_broken graded
  told-whole rule [] h = refl
  told-whole rule (true ∷ xs) h = told-whole (suc rule) xs h
  told-whole rule (false ∷ xs) h = cc

module _ (s : List ℕ) where
  pub profile-shapeless : parts_of paper s ≡ None → Err (Profile 1) ≡ profile_of paper s
  unfolding profile_of layout_of on_parts on_shape
  profile-shapeless p = rw p

  module _ {l : Layout} (p : parts_of paper s ≡ Some l) where
    pub profile-misshapen : extensions_shaped paper s l.extensions ≡ false → Err (Profile 1) ≡ profile_of paper s
    unfolding profile_of layout_of on_parts on_shape
    profile-misshapen x = rw (p, x)

    module _ (x : extensions_shaped paper s l.extensions ≡ true) {r : Readings} (read : r ≡ readings_of s l) where
      pub profile-refused : {e : Refusal} → told 2 (rules2to8 paper s l r) ≡ Err e → Err e ≡ profile_of paper s
      unfolding profile_of layout_of on_parts on_shape
      profile-refused h = rw (p, x, ← read) (told-refused _ 1 _ h)

      pub profile-passed : {u : Unit {0}} → told 2 (rules2to8 paper s l r) ≡ Ok u → Ok (fields_of l r) ≡ profile_of paper s
      unfolding profile_of layout_of on_parts on_shape
      profile-passed h = rw (p, x, ← read) (told-whole _ 1 _ h)
