-- A chain that is given fits the tables exactly where it is a good chain: roles and rows tell the graph of what is near, and a good
-- chain whose links are near is one of that graph.
use Prim.Native.Nat.{ℕ, ◌+◌, ◌*◌, ◌<◌, ◌≤◌}
use mathlib.Core.Path.{◌≡◌, refl, sym, ap, ◌∙◌}
use mathlib.Core.Bool.{Bool, true, false, cond}
use mathlib.Core.List.{List}
use mathlib.Core.Logic.{⊎_elim}
use native.Mathlib.Omega.{arith}
use borrow.Author.Tests.{eqb-true, eq-eqb, ne_eqb}
use lib.Dec.{eqb}
use lib.ListN.{length, get_or}
use Rattle.graph.specs.Chains.{Chain}
use Rattle.graph.proofs.Places.{starts, inner, last, step-by-step, by-places}
use Rattle.graph.proofs.Targets.{chain-target}
use Rattle.image.specs.Items.{Item}
use Rattle.usable.specs.declared.opened.Row.{Row}
use Rattle.usable.specs.Table.{verdict_in}
use Rattle.usable.specs.Rows.{row_at, leads_of, led_of, fits_of, matched_of, step_of}
use Rattle.usable.proofs.Booleans.{false-true}
use Rattle.usable.proofs.RolesMean.{Known}
use Rattle.usable.proofs.Scope.{Placed, Told, Scope}
use Rattle.chain.specs.Given.{InRange, role_asked, RolesFit, joined, StepsFit}
use Rattle.chain.proofs.Cells.{below_or_not}
use Rattle.chain.proofs.Meaning.{good_of, rows_graph, rows-part}
use Rattle.chain.proofs.Transfer.{Part, AllNear, chain-near, chain-out}

-- the role that is asked, case by case
module _ (i : ℕ) where
  first-asked : i ≡ 0 → role_asked i ≡ 1
  unfolding role_asked
  first-asked e = rw e

  inner-asked : 0 < i → role_asked i ≡ 2
  unfolding role_asked
  inner-asked p = rw (ne_eqb i 0 (omega arith))

  leads-asked : leads_of (role_asked i) ≡ true
  unfolding role_asked leads_of
  leads-asked = go (eqb i 0)
    where
      go : (t : Bool) → cond (eqb (cond t 1 2) 1) true (eqb (cond t 1 2) 2) ≡ true
      go true = refl
      go false = refl

-- a step is good where its roles fit and it is joined
module _ (held : Row → List ℕ) (n : ℕ) (table : List ℕ) (rows : List (List ℕ)) (roles : List ℕ) (u v : ℕ) where
  step-joined :
      leads_of (get_or roles u 0) ≡ true → led_of (get_or roles v 0) ≡ true → step_of held n table rows roles u v ≡ joined held n table rows u v
  unfolding step_of matched_of joined
  step-joined leads led = rw (leads, led)

  joined_step : step_of held n table rows roles u v ≡ true → joined held n table rows u v ≡ true
  unfolding step_of matched_of joined
  joined_step = go (leads_of (get_or roles u 0)) (verdict_in n table u v) (led_of (get_or roles v 0)) (fits_of held (row_at rows u) (row_at rows v))
    where
      go : (x y z w : Bool) → cond x (cond y (cond z w false) false) false ≡ true → cond y w false ≡ true
      go true true true w e = e
      go true true false w e = false-true e
      go true false z w e = e
      go false y z w e = false-true e

-- what is asked of a step
module _ (held : Row → List ℕ) (n : ℕ) (table : List ℕ) (rows : List (List ℕ)) (u v : ℕ) where
  pub joined-unasked : {octet : ℕ} → octet ≡ get_or table (u * n + v) 0 → (octet ≡ 1 → ⊥) → false ≡ joined held n table rows u v
  unfolding joined verdict_in
  joined-unasked e other = rw (ne_eqb (get_or table (u * n + v) 0) 1 (λ z. other (e ∙ z)))

  pub joined-asked :
      {octet : ℕ} {value : Bool} → octet ≡ get_or table (u * n + v) 0 → octet ≡ 1 → value ≡ matched_of held (row_at rows u) (row_at rows v) 2
      → value ≡ joined held n table rows u v
  unfolding joined verdict_in matched_of led_of
  joined-asked e one k =
      let is-1 : eqb (get_or table (u * n + v) 0) 1 ≡ true = eq-eqb _ 1 (sym e ∙ one) in
      rw (k, is-1)

module _ (held : Row → List ℕ) (n : ℕ) (table : List ℕ) (rows : List (List ℕ)) (roles : List ℕ) (target : ℕ) (c : List ℕ) (range : InRange n c) where
  -- the last place is the target, a usable signer
  abbrev Ends : Type 0
  Ends = ((i : ℕ) → i + 1 ≡ length c → get_or c i 0 ≡ target) × (get_or roles target 0 ≡ 3)

  fits-rows : Ends → RolesFit roles c → StepsFit held n table rows c → Chain (rows_graph held n table rows roles) target c
  unfolding led_of
  fits-rows (last, signer) fit steps =
      by-places c range.two range.inside (eq-eqb _ 1 (fit 0 (omega (arith, range.two)) ∙ first-asked 0 refl))
      (λ i p h. eq-eqb _ 2 (fit i h ∙ inner-asked i p)) last (eq-eqb _ 3 signer)
      (λ i h.
      step-joined held n table rows roles (get_or c i 0) (get_or c (i + 1) 0) (ap leads_of (fit i h) ∙ leads-asked i) (led i h) ∙ steps i h)
    where
      led : (i : ℕ) → i + 1 < length c → led_of (get_or roles (get_or c (i + 1) 0) 0) ≡ true
      led i h =
          ⊎_elim
          (λ (k : i + 1 + 1 < length c).
          let two : get_or roles (get_or c (i + 1) 0) 0 ≡ 2 = fit (i + 1) k ∙ inner-asked (i + 1) (omega arith) in rw two)
          (λ (k : length c ≤ i + 1 + 1).
          let e : get_or c (i + 1) 0 ≡ target = last (i + 1) (omega arith) in rw (e, signer)) (below_or_not (i + 1 + 1) (length c))

  rows_fit : Chain (rows_graph held n table rows roles) target c → (get_or roles target 0 ≡ 3) × RolesFit roles c × StepsFit held n table rows c
  rows_fit d =
      (eqb-true _ 3 (chain-target d).1, each, λ i h. joined_step held n table rows roles (get_or c i 0) (get_or c (i + 1) 0) (step-by-step d i h))
    where
      each : (i : ℕ) → i + 1 < length c → get_or roles (get_or c i 0) 0 ≡ role_asked i
      each i h =
          ⊎_elim
          (λ (z : i < 1).
          let e : i ≡ 0 = omega arith in
          ap (λ (q : ℕ). get_or roles (get_or c q 0) 0) e ∙ eqb-true _ 1 (starts d) ∙ sym (first-asked i e))
          (λ (p : 1 ≤ i). eqb-true _ 2 (inner d i p h) ∙ sym (inner-asked i p)) (below_or_not i 1)

-- the tables tell the graph of what is within, and a good chain to the target of these places is within
pub record Tabled (items : List Item) (at : ℕ → ℕ) (table : List ℕ) (moment target : ℕ) (c : List ℕ) (rows : List (List ℕ)) (roles : List ℕ) : Type 0 where
  pub there : ℕ → Bool
  pub within : ℕ → Bool
  pub scope : Scope items (verdict_in (length items) table) moment there within
  pub told : Told moment items at there rows
  pub known : Known items table moment within roles
  pub near : Chain (good_of items table moment) target c → AllNear within c

module _ (items : List Item) (at : ℕ → ℕ) (held : Row → List ℕ) (placed : Placed held items at) (table : List ℕ) (moment target : ℕ) (c : List ℕ) {rows : List (List ℕ)} {roles : List ℕ} (t : Tabled items at table moment target c rows roles) where
  part : Part t.within (rows_graph held (length items) table rows roles) (good_of items table moment)
  part = rows-part items at held placed table moment t.scope rows roles t.told t.known

  pub fits-good :
      InRange (length items) c → ((i : ℕ) → i + 1 ≡ length c → get_or c i 0 ≡ target) → get_or roles target 0 ≡ 3 → RolesFit roles c
      → StepsFit held (length items) table rows c → Chain (good_of items table moment) target c
  fits-good range last signer fit steps = chain-out part (fits-rows held (length items) table rows roles target c range (last, signer) fit steps)

  pub good-fits :
      InRange (length items) c → Chain (good_of items table moment) target c
      → (get_or roles target 0 ≡ 3) × RolesFit roles c × StepsFit held (length items) table rows c
  good-fits range d = rows_fit held (length items) table rows roles target c range (chain-near part (t.near d) d)
