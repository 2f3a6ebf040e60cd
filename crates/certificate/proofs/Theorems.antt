-- What a certificate's answer says: which items pass, and which rule a refusal tells.
use Rattle.std.specs.Prelude.{Option, Some, None, Result, Ok, Err}
use Prim.Native.Nat.{ℕ, ◌≤◌}
use mathlib.Core.Bool.{Bool, true, false, true≢false, cond, ◌&&◌}
use mathlib.Core.List.{List, [], ◌∷◌}
use mathlib.Core.Logic.{◌↔◌}
use mathlib.Core.Path.{◌≡◌, refl, sym, ap, subst, ◌∙◌}
use native.Mathlib.Omega.{arith}
use borrow.Author.Tests.{leb-true, le-leb, eqb-true, eqb-false, eq-eqb, ne_eqb}
use lib.Dec.{leb, eqb}
use Rattle.refusal.specs.declared.Refusal.{Refusal}
use Rattle.refusal.specs.declared.Refusal.TheVariants.{Argument, Profile}
use Rattle.der.specs.Forms.{paper}
use Rattle.der.specs.Walk.{walk_of}
use Rattle.der.proofs.Bounds.{cond-by}
use Rattle.refusal.specs.Rules.{first_broken, Smallest}
use Rattle.certificate.specs.declared.shapes.Layout.{Layout}
use Rattle.certificate.specs.declared.Fields.{Fields}
use Rattle.certificate.specs.Rules.{readings_of, rules2to8, rules9to14}
use Rattle.certificate.specs.Shape.{layout_of}
use Rattle.certificate.specs.Answer.{fields_of, graded, on_shape, on_walk, rules_of, profile_of, judged_of}
use Rattle.certificate.specs.Meets.{Meets, Passes, rules_in, rules1to14, Breaks, RefusedFor, by-role, by-walk, by-rule}
use Rattle.der.proofs.Faults.{no-profile}
use Rattle.refusal.proofs.Order.{broken-later, none-broken, all_hold, told-smallest, smallest-told}

-- what is answered of a shape that is there, and where no rule is broken
shape-good : {x : Option Layout} (next : Layout → Result Fields Refusal) {l : Layout} {r : Result Fields Refusal} → x ≡ Some l → r ≡ next l → r ≡ on_shape x next
unfolding on_shape
shape-good next h g = rw h g

graded-whole : {fields f : Fields} {rule : ℕ} → rule ≡ 0 → f ≡ fields → Ok f ≡ graded rule fields
unfolding graded
graded-whole h g = rw (g, eq-eqb _ _ h)

-- a conjunction's parts
both : (p q : Bool) → (p && q) ≡ true → (p ≡ true) × (q ≡ true)
both true q e = (refl, e)
both false q e = (e, cc)

module _ (s : List ℕ) (role : ℕ) where
  -- what holds of an answer holds if it does where it was told
  answer-by : (P : Result Fields Refusal → Type 0)
      → ((1 ≤ role → role ≤ 3 → ⊥) → P (Err Argument))
      → (1 ≤ role → role ≤ 3 → (refusal : Refusal) → walk_of paper s ≡ Err refusal → P (Err refusal))
      → (1 ≤ role → role ≤ 3 → (count : ℕ) → walk_of paper s ≡ Ok count → P (profile_of s role))
      → P (judged_of s role)
  unfolding judged_of on_walk
  answer-by P out refused passed =
      cond-by P (leb 1 role && leb role 3)
      (λ e. let h : (leb 1 role ≡ true) × (leb role 3 ≡ true) = both _ _ e in go (leb-true _ _ h.0) (leb-true _ _ h.1) (walk_of paper s) refl)
      (λ e. out λ low high. true≢false (rw (le-leb _ _ low, le-leb _ _ high) at e))
    where
      go : 1 ≤ role → role ≤ 3 → (w : Result ℕ Refusal) → walk_of paper s ≡ w → P (on_walk w (profile_of s role))
      go low high (Err refusal) e = refused low high refusal e
      go low high (Ok count) e = passed low high count e

  profile-by : (P : Result Fields Refusal → Type 0)
      → (layout_of s ≡ None → P (Err (Profile 1)))
      → ((l : Layout) → layout_of s ≡ Some l → P (graded (first_broken 2 (rules_of s l (readings_of s l) role)) (fields_of l (readings_of s l))))
      → P (profile_of s role)
  unfolding profile_of on_shape
  profile-by P broken parts = go (layout_of s) refl
    where
      go : (shape : Option Layout) → layout_of s ≡ shape → P (on_shape shape λ l. graded (first_broken 2 (rules_of s l (readings_of s l) role)) (fields_of l (readings_of s l)))
      go None e = broken e
      go (Some l) e = parts l e

  module _ (l : Layout) where
    meets-none : Meets s role l → first_broken 2 (rules_of s l (readings_of s l) role) ≡ 0
    unfolding rules_of rules2to8 rules9to14
    meets-none m =
        broken-later 2 _ m.version ∙ broken-later 3 _ m.serial ∙ broken-later 4 _ m.algorithms
        ∙ broken-later 5 _ m.countries ∙ broken-later 6 _ m.bare ∙ broken-later 7 _ m.times
        ∙ broken-later 8 _ m.once ∙ broken-later 9 _ m.usage ∙ broken-later 10 _ m.constraints
        ∙ broken-later 11 _ m.keys ∙ broken-later 12 _ m.four ∙ broken-later 13 _ m.documents
        ∙ broken-later 14 _ m.uncritical ∙ none-broken 15

    none-meets : first_broken 2 (rules_of s l (readings_of s l) role) ≡ 0 → Meets s role l
    unfolding rules_of rules2to8 rules9to14
    none-meets h =
        let holds = all_hold 2 (rules_of s l (readings_of s l) role) (omega arith) h in
        record {
          version = holds 0;
          serial = holds 1;
          algorithms = holds 2;
          countries = holds 3;
          bare = holds 4;
          times = holds 5;
          once = holds 6;
          usage = holds 7;
          constraints = holds 8;
          keys = holds 9;
          four = holds 10;
          documents = holds 11;
          uncritical = holds 12;
        }

  -- An item passes in a role with some fields exactly when the role is 1, 2 or 3, the walk passes, the item has the shape, each
  -- of rules 2 to 14 holds, and the fields are those of its parts.
  pub passes-exactly : (f : Fields) → (judged_of s role ≡ Ok f) ↔ Passes s role f
  unfolding judged_of on_walk profile_of graded
  passes-exactly f = (answer-by P (λ out. other) (λ low high refusal e. other) walks, passes)
    where
      P : Result Fields Refusal → Type 0
      P answer = answer ≡ Ok f → Passes s role f

      other : {A : Type 0} {refusal : Refusal} → Err refusal ≡ Ok f → A
      other e = let z : ◌≡◌ {A = ℕ} 0 1 = cc in absurd (omega arith)

      walks : 1 ≤ role → role ≤ 3 → (count : ℕ) → walk_of paper s ≡ Ok count → P (profile_of s role)
      walks low high count w = profile-by P (λ e. other) λ l shape.
          cond-by P (eqb (first_broken 2 (rules_of s l (readings_of s l) role)) 0)
          (λ none e. record {
            low = low;
            high = high;
            count = count;
            walks = w;
            layout = l;
            shape = shape;
            meets = none-meets l (eqb-true _ _ none);
            fields = cc;
          })
          (λ some. other)

      passes : Passes s role f → judged_of s role ≡ Ok f
      passes p =
          rw (le-leb _ _ p.low, le-leb _ _ p.high, p.walks)
          (sym (shape-good _ p.shape (graded-whole (meets-none p.layout p.meets) p.fields)))

  refused-by : (refusal : Refusal) → judged_of s role ≡ Err refusal → RefusedFor s role refusal
  unfolding graded rules1to14 rules_in first_broken
  refused-by refusal =
      answer-by P (λ out e. subst (RefusedFor s role) (same e) (by-role out))
      (λ low high own w e. subst (RefusedFor s role) (same e) (by-walk low high w)) walks
    where
      P : Result Fields Refusal → Type 0
      P answer = answer ≡ Err refusal → RefusedFor s role refusal

      same : {own : Refusal} → ◌≡◌ {A = (Result Fields Refusal)} (Err own) (Err refusal) → own ≡ refusal
      same e = cc

      walks : 1 ≤ role → role ≤ 3 → (count : ℕ) → walk_of paper s ≡ Ok count → P (profile_of s role)
      walks low high count w = profile-by P
          (λ shape e. subst (RefusedFor s role) (same e) (by-rule (record {
            low = low;
            high = high;
            count = count;
            walks = w;
            smallest = rw shape (told-smallest 1 (false ∷ []) refl λ (z : 1 ≡ 0). omega arith);
          })))
          λ l shape.
          cond-by P (eqb (first_broken 2 (rules_of s l (readings_of s l) role)) 0)
          (λ none e. let z : ◌≡◌ {A = ℕ} 0 1 = cc in absurd (omega arith))
          (λ some e. subst (RefusedFor s role) (same e) (by-rule (record {
            low = low;
            high = high;
            count = count;
            walks = w;
            smallest = rw shape (told-smallest 1 (true ∷ rules_of s l (readings_of s l) role) refl (eqb-false _ _ some));
          })))

  broken-refused : (k : ℕ) → Breaks s role k → judged_of s role ≡ Err (Profile k)
  unfolding judged_of on_walk profile_of on_shape graded rules1to14 rules_in first_broken
  broken-refused k b = rw (le-leb _ _ b.low, le-leb _ _ b.high, b.walks) (go (layout_of s) b.smallest)
    where
      go :
          (shape : Option Layout) → Smallest 1 (rules_in s role shape) k
          → on_shape shape (λ l. graded (first_broken 2 (rules_of s l (readings_of s l) role)) (fields_of l (readings_of s l))) ≡ Err (Profile k)
      go None least = ap (λ (n : ℕ). Err (Profile n)) (smallest-told 1 (false ∷ []) least)
      go (Some l) least =
          let told : first_broken 2 (rules_of s l (readings_of s l) role) ≡ k = smallest-told 1 (true ∷ rules_of s l (readings_of s l) role) least in
          rw (told, ne_eqb k 0 (λ (z : k ≡ 0). omega (arith, least.numbered)))

  refusals-told : (refusal : Refusal) → RefusedFor s role refusal → judged_of s role ≡ Err refusal
  unfolding judged_of on_walk
  refusals-told refusal (by-role out) = go (leb 1 role && leb role 3) refl
    where
      go : (b : Bool) → (leb 1 role && leb role 3) ≡ b → cond b (on_walk (walk_of paper s) (profile_of s role)) (Err Argument) ≡ Err Argument
      go true e = let h = both _ _ e in absurd (out (leb-true _ _ h.0) (leb-true _ _ h.1))
      go false e = refl
  refusals-told refusal (by-walk low high w) = rw (le-leb _ _ low, le-leb _ _ high, w)
  refusals-told refusal (by-rule {k = k} b) = broken-refused k b

  -- A certificate is refused with 1 exactly for another role, then as the walk refuses it, and with 4 for a rule.
  pub refusals : (refusal : Refusal) → (judged_of s role ≡ Err refusal) ↔ RefusedFor s role refusal
  refusals refusal = (refused-by refusal, refusals-told refusal)

  -- Rule k of the profile is told exactly when the role is 1 to 3, the walk passes, and rule k is the smallest broken.
  pub detail-smallest : (k : ℕ) → (judged_of s role ≡ Err (Profile k)) ↔ Breaks s role k
  detail-smallest k = ((λ e. only (Profile k) refl (refused-by (Profile k) e)), broken-refused k)
    where
      only : (refusal : Refusal) → refusal ≡ Profile k → RefusedFor s role refusal → Breaks s role k
      only refusal e (by-role out) = let z : ◌≡◌ {A = ℕ} 0 1 = cc in absurd (omega arith)
      only refusal e (by-walk low high w) = absurd (no-profile paper s {k = k} (w ∙ ap Err e))
      only refusal e (by-rule {k = own} b) = let same : own ≡ k = cc in subst (Breaks s role) same b
