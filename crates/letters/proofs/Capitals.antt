-- True letters are at most Z, whatever the octets: they are capitals, or zeros.
use Rattle.std.specs.Prelude.{Option, Some, None, Result, Ok, Err}
use Prim.Native.Nat.{ℕ, ◌≤◌}
use mathlib.Core.Path.{◌≡◌, refl}
use mathlib.Core.Bool.{Bool, true, false, cond, ◌&&◌, and-eq-true_iff}
use mathlib.Core.List.{List}
use native.Mathlib.Omega.{arith}
use borrow.Author.Tests.{leb-true}
use lib.Dec.{leb, eqb}
use lib.ListN.{length, get_or}
use Rattle.der.specs.Forms.{paper}
use Rattle.names.specs.declared.Letters.{Letters}
use Rattle.names.specs.declared.Seen.{Seen}
use Rattle.names.specs.declared.Seen.TheVariants.{Never, Once, Often}
use Rattle.names.specs.Names.{is_capital, letters_in, letters_of, first_letter, second_letter}
use Rattle.refusal.specs.declared.Refusal.{Refusal}
use Rattle.refusal.specs.declared.Refusal.TheVariants as refusal
use Rattle.refusal.specs.Rules.{first_broken}
use Rattle.der.specs.Walk.{walk_of}
use Rattle.certificate.specs.declared.Fields.{Fields}
use Rattle.certificate.specs.declared.shapes.Layout.{Layout}
use Rattle.certificate.specs.Rules.{readings_of}
use Rattle.certificate.specs.Shape.{layout_of}
use Rattle.certificate.specs.Answer.{fields_of, graded, on_shape, on_walk, rules_of, profile_of, judged_of}
use Rattle.crl.specs.declared.Fields as list-fields
use Rattle.crl.specs.declared.shapes.Layout as list-layout
use Rattle.crl.specs.Rules as list-rules
use Rattle.crl.specs.Shape as list-shapes
use Rattle.crl.specs.Answer as lists
use Rattle.letters.specs.declared.telling.Country.{Country}
use Rattle.letters.specs.TrueLetters.{no_country, of_certificate, of_list, true_of}
use Rattle.names.proofs.Payloads.{some_letters}

pub record Low (country : Country) : Type 0 where
  pub one : country.first ≤ 90
  pub other : country.second ≤ 90

none-low : Low no_country
none-low = record { one = omega arith; other = omega arith }

abbrev pair : Option Letters → Country
pair letters = record { first = first_letter letters; second = second_letter letters }

pub capital-low : (o : ℕ) → is_capital o ≡ true → o ≤ 90
unfolding is_capital
capital-low o e = leb-true o 90 ((and-eq-true_iff (leb 65 o) (leb o 90)).0 e).1

capitals-low :
    (a b : ℕ) (t l x y : Bool) → is_capital a ≡ x → is_capital b ≡ y → Low (pair (cond (t && (l && (x && y))) (some_letters a b) None))
capitals-low a b true true true true p q = record { one = capital-low a p; other = capital-low b q }
capitals-low a b true true true false p q = none-low
capitals-low a b true true false y p q = none-low
capitals-low a b true false x y p q = none-low
capitals-low a b false l x y p q = none-low

in-low : (tag : ℕ) (c : List ℕ) → Low (pair (letters_in tag c))
unfolding letters_in
in-low tag c = capitals-low (get_or c 0 0) (get_or c 1 0) (eqb tag 0x13) (eqb (length c) 2) _ _ refl refl

letters-low : (s : List ℕ) (seen : Seen) → Low (pair (letters_of s seen))
unfolding letters_of
letters-low s Never = none-low
letters-low s Often = none-low
letters-low s (Once value) = in-low _ _

certificate-pick : (b : Bool) (i j : Result Fields Refusal) → Low (of_certificate i) → Low (of_certificate j) → Low (of_certificate (cond b i j))
certificate-pick true i j p q = p
certificate-pick false i j p q = q

certificate-refused : (r : Refusal) → Low (of_certificate (Err r))
unfolding of_certificate
certificate-refused r = none-low

certificate-walk : (w : Result ℕ Refusal) (j : Result Fields Refusal) → Low (of_certificate j) → Low (of_certificate (on_walk w j))
unfolding on_walk
certificate-walk (Err r) j p = certificate-refused r
certificate-walk (Ok count) j p = p

certificate-shape : (shape : Option Layout) (next : Layout → Result Fields Refusal) → ((l : Layout) → Low (of_certificate (next l))) → Low (of_certificate (on_shape shape next))
unfolding on_shape
certificate-shape None next p = certificate-refused (refusal.Profile 1)
certificate-shape (Some l) next p = p l

certificate-graded : (s : List ℕ) (l : Layout) (rule : ℕ) → Low (of_certificate (graded rule (fields_of l (readings_of s l))))
unfolding of_certificate graded fields_of readings_of
certificate-graded s l rule = certificate-pick (eqb rule 0) (Ok (fields_of l (readings_of s l))) (Err (refusal.Profile rule)) (letters-low s _) none-low

certificate-low : (s : List ℕ) (role : ℕ) → Low (of_certificate (judged_of s role))
unfolding judged_of profile_of
certificate-low s role =
    let next : Layout → Result Fields Refusal = λ l. graded (first_broken 2 (rules_of s l (readings_of s l) role)) (fields_of l (readings_of s l)) in
    let shaped = certificate-shape (layout_of s) next (λ l. certificate-graded s l (first_broken 2 (rules_of s l (readings_of s l) role))) in
    let walks = certificate-walk (walk_of paper s) (profile_of s role) shaped in
    certificate-pick (leb 1 role && leb role 3) (on_walk (walk_of paper s) (profile_of s role)) (Err refusal.Argument) walks
    (certificate-refused refusal.Argument)

list-pick : (b : Bool) (i j : Result list-fields.Fields Refusal) → Low (of_list i) → Low (of_list j) → Low (of_list (cond b i j))
list-pick true i j p q = p
list-pick false i j p q = q

list-refused : (r : Refusal) → Low (of_list (Err r))
unfolding of_list
list-refused r = none-low

list-walk : (w : Result ℕ Refusal) (j : Result list-fields.Fields Refusal) → Low (of_list j) → Low (of_list (lists.on_walk w j))
unfolding lists.on_walk
list-walk (Err r) j p = list-refused r
list-walk (Ok count) j p = p

shape-of-list :
    (shape : Option list-layout.Layout) (next : list-layout.Layout → Result list-fields.Fields Refusal) → ((l : list-layout.Layout) → Low (of_list (next l)))
    → Low (of_list (lists.on_shape shape next))
unfolding lists.on_shape
shape-of-list None next p = list-refused (refusal.Profile 1)
shape-of-list (Some l) next p = p l

list-graded : (s : List ℕ) (l : list-layout.Layout) (rule : ℕ) → Low (of_list (lists.graded rule (lists.fields_of l (list-rules.readings_of s l))))
unfolding of_list lists.graded lists.fields_of list-rules.readings_of
list-graded s l rule =
    let passed : Result list-fields.Fields Refusal = Ok (lists.fields_of l (list-rules.readings_of s l)) in
    list-pick (eqb rule 0) passed (Err (refusal.Profile rule)) (letters-low s _) none-low

list-low : (s : List ℕ) → Low (of_list (lists.judged_of paper s))
unfolding lists.judged_of lists.profile_of
list-low s =
    let rule : list-layout.Layout → ℕ = λ l. first_broken 2 (list-rules.rules2to8 paper s l (list-rules.readings_of s l)) in
    let next : list-layout.Layout → Result list-fields.Fields Refusal = λ l. lists.graded (rule l) (lists.fields_of l (list-rules.readings_of s l)) in
    let shaped = shape-of-list (list-shapes.layout_of paper s) next (λ l. list-graded s l (rule l)) in
    list-walk (walk_of paper s) (lists.profile_of paper s) shaped

pub true-low : (kind : ℕ) (bytes : List ℕ) → Low (true_of kind bytes)
unfolding true_of
true-low kind bytes = go (eqb kind 4)
  where
    go : (b : Bool) → Low (cond b (of_list (lists.judged_of paper bytes)) (of_certificate (judged_of bytes kind)))
    go true = list-low bytes
    go false = certificate-low bytes kind
