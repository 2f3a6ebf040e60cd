-- The walk is the outermost element's reading, held to the item's size and end; no count passes the limit.
use Rattle.std.specs.Prelude.{Result}
use Rattle.std.proofs.lemmas.Result.{err_from_is_err_and}
use mathlib.Core.Path.{◌≡◌, refl, sym, subst, ◌∙◌}
use mathlib.Core.Bool.{false}
use mathlib.Core.List.{List, []}
use Prim.Native.Nat.{ℕ, ◌≤◌, ◌+◌, ◌*◌}
use native.Mathlib.Omega.{arith}
use lib.ListN.{length}
use Rattle.refusal.specs.declared.Refusal.{Refusal}
use Rattle.der.specs.Forms.{paper}
use Rattle.der.specs.declared.limits.Limits.{Limits}
use Rattle.der.specs.Given.{Given}
use Rattle.der.specs.Walk.{element_at, walk_of, counted}
use Rattle.der.proofs.Laws.{walk-long, walk-fault, walk-passed, walk-left}
use Rattle.der.proofs.Bounds.{counted-within}
use Rattle.der.proofs.walking.walk.Goals as goal
use Rattle.der.proofs.walking.walk.Goals.{After-element}

papers : (limits : Limits) → limits.digits ≡ 2 → limits.wide ≡ false → limits.most ≡ 4096 → Given limits 16 paper
papers limits octets tags limit = record { octets = sym octets; tags = sym tags; limit = sym limit; levels = omega arith }

limited : (s : List ℕ) {r : Result ℕ Refusal} → walk_of paper s ≡ r → (r ≡ walk_of paper s) × (counted r ≤ 4096)
limited s e = (sym e, subst (λ w. counted w ≤ 4096) e (counted-within paper s))

pub returns-then-item-gt16384 : goal.returns-then-item-gt16384
returns-then-item-gt16384 c =
    let w = limited c.args.item.now (walk-long paper _ c.if-item-gt16384.true) in
    record { answer = w.0; limited = w.1 }

-- what the outermost element comes to
outermost : (c : After-element) → let s = c.args.item.now in c.element.result ≡ element_at (2 * length s + 2) paper [] s 0 1 0
outermost c = c.element.ensures paper (papers _ refl refl refl) (2 * length c.args.item.now + 2) (omega arith)

pub returns-in_err-used : goal.returns-in_err-used
returns-in_err-used c =
    let e = sym (outermost (goal.at.returns-in_err-used c).After-element) ∙ c.in_err-used.was in
    let w = limited _ (walk-fault paper c.args.item.now c.if-item-gt16384.false e) in
    let p = err_from_is_err_and c.from_residual.result c.from_residual.ensures.1 in
    rw (p.1, p.2) (record { answer = w.0; limited = w.1 })

pub returns-then-used-item : goal.returns-then-used-item
returns-then-used-item c =
    let e = sym (outermost (goal.at.returns-then-used-item c).After-element) ∙ c.in_ok-used.was in
    let w = limited _ (walk-passed paper c.args.item.now c.if-item-gt16384.false e c.if-used-item.true) in
    record { answer = w.0; limited = w.1 }

pub returns-else-used-item : goal.returns-else-used-item
returns-else-used-item c =
    let e = sym (outermost (goal.at.returns-else-used-item c).After-element) ∙ c.in_ok-used.was in
    let w = limited _ (walk-left paper c.args.item.now c.if-item-gt16384.false e c.if-used-item.false) in
    record { answer = w.0; limited = w.1 }
