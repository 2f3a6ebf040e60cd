-- What is known of an image that is opened, since no rule is broken: what it tells, at most 96 entries, not too long.
use Rattle.std.specs.Prelude.{Err}
use Prim.Native.Nat.{ℕ, ◌≤◌}
use mathlib.Core.Path.{◌≡◌, refl, sym}
use mathlib.Core.Bool.{Bool, true, false, cond, and-eq-true_iff}
use mathlib.Core.List.{List}
use native.Mathlib.Omega.{arith}
use borrow.Author.Tests.{leb-true, eqb-true}
use lib.Dec.{eqb, leb}
use lib.ListN.{length}
use Rattle.refusal.specs.Rules.{first_broken}
use Rattle.refusal.specs.declared.Refusal.TheVariants as refusal
use Rattle.image.specs.Index.{entry_count, version_in, day_in}
use Rattle.image.specs.Rules.{rule1, rule2, rule3, rules}
use Rattle.image.specs.Answer.{graded, opened_within}
use Rattle.image.proofs.Payloads.{an_image, same_image}

-- no rule is broken
unbroken :
    (rule count day version n d v : ℕ) → graded rule (an_image count day version) ≡ an_image n d v → (rule ≡ 0) × (n ≡ count) × (d ≡ day) × (v ≡ version)
unfolding graded
unbroken rule count day version n d v e = go (eqb rule 0) refl e
  where
    go :
        (b : Bool) → eqb rule 0 ≡ b
        → cond b (an_image count day version) (Err (refusal.Image rule)) ≡ an_image n d v
        → (rule ≡ 0) × (n ≡ count) × (d ≡ day) × (v ≡ version)
    go true h f = let (x, y, z) = same_image f in (eqb-true rule 0 h, sym x, sym y, sym z)
    go false h f = absurd (let z : ◌≡◌ {A = ℕ} 0 1 = cc in omega arith)

first : (a : Bool) (rest : ℕ) → cond a rest 1 ≡ 0 → a ≡ true
first true rest e = refl
first false rest e = absurd (omega arith)

third : (a b c : Bool) (rest : ℕ) → cond a (cond b (cond c rest 3) 2) 1 ≡ 0 → c ≡ true
third true true true rest e = refl
third true true false rest e = absurd (omega arith)
third true false c rest e = absurd (omega arith)
third false b c rest e = absurd (omega arith)

pub opened-image :
    (least most : ℕ) (s : List ℕ) (n day version : ℕ) → opened_within least most s ≡ an_image n day version
    → (n ≡ entry_count s) × (n ≤ 96) × (version ≡ version_in s)
unfolding opened_within rules first_broken rule3
opened-image least most s n day version e =
    let u = unbroken (first_broken 1 (rules least most s)) (entry_count s) (day_in s) (version_in s) n day version e in
    let few = leb-true (entry_count s) 96 (third (rule1 s) (rule2 least most s) (rule3 s) _ u.0) in
    (u.1, omega (arith, u.1), u.3)

pub opened-told :
    (least most : ℕ) (s : List ℕ) (n day version : ℕ) → opened_within least most s ≡ an_image n day version
    → (n ≡ entry_count s) × (day ≡ day_in s) × (version ≡ version_in s) × (length s ≤ 262144)
unfolding opened_within rules first_broken rule1
opened-told least most s n day version e =
    let u = unbroken (first_broken 1 (rules least most s)) (entry_count s) (day_in s) (version_in s) n day version e in
    let long = ((and-eq-true_iff (leb 12 (length s)) (leb (length s) 262144)).0 (first (rule1 s) _ u.0)).1 in
    (u.1, u.2, u.3, leb-true (length s) 262144 long)
