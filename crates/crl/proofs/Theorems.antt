-- What the answers of a CRL mean, as theorems over the definitions.
use Rattle.std.specs.Prelude.{Option, Some, None, Result, Ok, Err}
use Prim.Native.Nat.{ℕ}
use mathlib.Core.Bool.{true, false}
use mathlib.Core.List.{List, [], ◌∷◌}
use mathlib.Core.Logic.{◌↔◌}
use mathlib.Core.Path.{◌≡◌, refl, sym, ap, subst, ◌∙◌}
use native.Mathlib.Omega.{arith}
use borrow.Author.Tests.{ne_eqb}
use Rattle.refusal.specs.declared.Refusal.{Refusal}
use Rattle.refusal.specs.declared.Refusal.TheVariants.{Profile}
use Rattle.der.specs.Forms.{paper}
use Rattle.der.specs.Walk.{walk_of}
use Rattle.elements.specs.Elements.{members_of}
use Rattle.refusal.specs.Rules.{first_broken, Smallest}
use Rattle.crl.specs.declared.Fields.{Fields}
use Rattle.crl.specs.declared.shapes.Layout.{Layout}
use Rattle.crl.specs.Answer.{fields_of, graded, on_shape, on_walk, profile_of, judged_of}
use Rattle.crl.specs.Listed.{listed_of}
use Rattle.crl.specs.Meets.{Meets, Passes, rules_in, rules1to8, Breaks, RefusedFor, by-walk, by-rule, InList}
use Rattle.crl.specs.Rules.{readings_of, rules2to8}
use Rattle.crl.specs.Shape.{layout_of}
use Rattle.der.proofs.Faults.{no-profile}
use Rattle.refusal.proofs.Order.{told-smallest, smallest-told}
use Rattle.crl.proofs.Firsts.{differ, none-broken, graded-passed, graded-refused, broken-later, broken-none}
use Rattle.crl.proofs.Serials.{listed_in, in-listed}

module _ (s : List ℕ) where
  rules-met : (l : Layout) → layout_of paper s ≡ Some l → first_broken 2 (rules2to8 paper s l (readings_of s l)) ≡ 0 → Meets paper s l
  unfolding rules2to8
  rules-met l h e2 =
      let r2 = none-broken 1 _ _ e2 in
      let r3 = none-broken 2 _ _ r2.1 in
      let r4 = none-broken 3 _ _ r3.1 in
      let r5 = none-broken 4 _ _ r4.1 in
      let r6 = none-broken 5 _ _ r5.1 in
      let r7 = none-broken 6 _ _ r6.1 in
      let r8 = none-broken 7 _ _ r7.1 in
      record { shape = h; version = r2.0; algorithms = r3.0; country = r4.0; times = r5.0; entries = r6.0; extensions = r7.0; critical = r8.0 }

  met-rules : {l : Layout} → Meets paper s l → 0 ≡ first_broken 2 (rules2to8 paper s l (readings_of s l))
  unfolding rules2to8
  met-rules m =
      broken-later _ _ m.version (broken-later _ _ m.algorithms (broken-later _ _ m.country (broken-later _ _ m.times
      (broken-later _ _ m.entries (broken-later _ _ m.extensions (broken-later _ _ m.critical (broken-none _)))))))

  passes-only : (f : Fields) → judged_of paper s ≡ Ok f → Passes paper s f
  unfolding judged_of on_walk profile_of on_shape
  passes-only f e = go (walk_of paper s) refl e
    where
      shaped : (count : ℕ) → walk_of paper s ≡ Ok count → (shape : Option Layout) → layout_of paper s ≡ shape → on_shape shape (λ l. graded (first_broken 2 (rules2to8 paper s l (readings_of s l))) (fields_of l (readings_of s l))) ≡ Ok f → Passes paper s f
      shaped count w None h e = absurd (differ e)
      shaped count w (Some l) h e =
          let g = graded-passed _ _ e in
          record { count = count; walks = w; parts = l; meets = rules-met l h g.0; fields = g.1 }

      go : (w : Result ℕ Refusal) → walk_of paper s ≡ w → on_walk w (profile_of paper s) ≡ Ok f → Passes paper s f
      go (Err refusal) w e = absurd (differ e)
      go (Ok count) w e = shaped count w (layout_of paper s) refl e

  passes-all : (f : Fields) → Passes paper s f → judged_of paper s ≡ Ok f
  unfolding judged_of on_walk profile_of on_shape graded
  passes-all f p = rw (p.walks, p.meets.shape, ← met-rules p.meets, p.fields)

  -- A CRL passes, with these fields, exactly when the walk passes, rules 1 to 8 are met, and the fields are its own.
  pub passes-exactly : (f : Fields) → (judged_of paper s ≡ Ok f) ↔ Passes paper s f
  passes-exactly f = (passes-only f, passes-all f)

  refused-by : (refusal : Refusal) → judged_of paper s ≡ Err refusal → RefusedFor paper s refusal
  unfolding judged_of on_walk profile_of on_shape rules1to8 rules_in first_broken
  refused-by refusal e = go (walk_of paper s) refl e
    where
      same : {own : Refusal} → ◌≡◌ {A = (Result Fields Refusal)} (Err own) (Err refusal) → own ≡ refusal
      same e = cc

      shaped :
          (count : ℕ) → walk_of paper s ≡ Ok count → (shape : Option Layout) → layout_of paper s ≡ shape
          → on_shape shape (λ l. graded (first_broken 2 (rules2to8 paper s l (readings_of s l))) (fields_of l (readings_of s l))) ≡ Err refusal
          → RefusedFor paper s refusal
      shaped count w None h e =
          subst (RefusedFor paper s) (same e)
          (by-rule (record { count = count; walks = w; smallest = rw h (told-smallest 1 (false ∷ []) refl λ (z : 1 ≡ 0). omega arith) }))
      shaped count w (Some l) h e =
          let g = graded-refused _ _ e in
          subst (RefusedFor paper s) (sym g.0)
          (by-rule (record { count = count; walks = w; smallest = rw h (told-smallest 1 (true ∷ rules2to8 paper s l (readings_of s l)) refl g.1) }))

      go : (w : Result ℕ Refusal) → walk_of paper s ≡ w → on_walk w (profile_of paper s) ≡ Err refusal → RefusedFor paper s refusal
      go (Err own) w e = subst (RefusedFor paper s) (same e) (by-walk w)
      go (Ok count) w e = shaped count w (layout_of paper s) refl e

  broken-refused : (k : ℕ) → Breaks paper s k → judged_of paper s ≡ Err (Profile k)
  unfolding judged_of on_walk profile_of on_shape graded rules1to8 rules_in first_broken
  broken-refused k b = rw b.walks (go (layout_of paper s) b.smallest)
    where
      go :
          (shape : Option Layout) → Smallest 1 (rules_in paper s shape) k
          → on_shape shape (λ l. graded (first_broken 2 (rules2to8 paper s l (readings_of s l))) (fields_of l (readings_of s l))) ≡ Err (Profile k)
      go None least = ap (λ (n : ℕ). Err (Profile n)) (smallest-told 1 (false ∷ []) least)
      go (Some l) least =
          let told : first_broken 2 (rules2to8 paper s l (readings_of s l)) ≡ k = smallest-told 1 (true ∷ rules2to8 paper s l (readings_of s l)) least in
          rw (told, ne_eqb k 0 (λ (z : k ≡ 0). omega (arith, least.numbered)))

  refusals-told : (refusal : Refusal) → RefusedFor paper s refusal → judged_of paper s ≡ Err refusal
  unfolding judged_of on_walk
  refusals-told refusal (by-walk w) = rw w
  refusals-told refusal (by-rule {k = k} b) = broken-refused k b

  -- A CRL is refused exactly as the walk refuses it, and with 4 for a rule.
  pub refusals : (refusal : Refusal) → (judged_of paper s ≡ Err refusal) ↔ RefusedFor paper s refusal
  refusals refusal = (refused-by refusal, refusals-told refusal)

  -- Rule k of the profile is told exactly when the walk passes and rule k is the smallest broken.
  pub detail-smallest : (k : ℕ) → (judged_of paper s ≡ Err (Profile k)) ↔ Breaks paper s k
  detail-smallest k = ((λ e. only (Profile k) refl (refused-by (Profile k) e)), broken-refused k)
    where
      only : (refusal : Refusal) → refusal ≡ Profile k → RefusedFor paper s refusal → Breaks paper s k
      only refusal e (by-walk w) = absurd (no-profile paper s {k = k} (w ∙ ap Err e))
      only refusal e (by-rule {k = own} b) = let same : own ≡ k = cc in subst (Breaks paper s) same b

module _ (s serial : List ℕ) where
  -- A serial is listed exactly when an entry has an INTEGER first whose contents are the serial.
  pub listed-exactly : (from end : ℕ) → (listed_of paper s from end serial ≡ true) ↔ InList paper s serial (members_of paper s from end)
  unfolding listed_of
  listed-exactly from end = (listed_in s serial _, in-listed s serial _)
