-- What a search follows from a place is what the tables tell: from an anchor or link on to a link or signer, where the verdict is 1 and
-- the two fit.
use Prim.Native.Nat.{ℕ, ◌+◌, ◌*◌, ◌<◌}
use mathlib.Core.Path.{◌≡◌, refl, sym, ◌∙◌}
use mathlib.Core.Bool.{Bool, true, false, cond}
use mathlib.Core.List.{List}
use mathlib.Core.Logic.{◌⊎◌, inl, inr, ⊎_elim}
use native.Mathlib.Omega.{arith}
use borrow.Author.Tests.{eqb-true, ne_eqb}
use lib.Dec.{eqb}
use lib.ListN.{get_or}
use Rattle.graph.specs.Search.{followed}
use Rattle.graph.proofs.Cases.{clash, either}
use Rattle.graph.proofs.Steps.{from-signer, no_step, to-link, to-signer}
use Rattle.usable.specs.declared.opened.Row.{Row}
use Rattle.usable.specs.Table.{verdict_in}
use Rattle.usable.specs.Rows.{row_at, leads_of, led_of, fits_of, matched_of, step_of}
use Rattle.usable.proofs.RowLaws.{step-asked, step-unasked, step-unled}
use Rattle.search.specs.Tables.{tables_graph}

-- what leads on is no signer
leads-apart : (role : ℕ) → leads_of role ≡ true → eqb role 3 ≡ false
unfolding leads_of
leads-apart role e = go (eqb role 1) refl e
  where
    go : (b : Bool) → eqb role 1 ≡ b → cond b true (eqb role 2) ≡ true → eqb role 3 ≡ false
    go true k f = ne_eqb role 3 (λ z. omega (arith, eqb-true role 1 k))
    go false k f = ne_eqb role 3 (λ z. omega (arith, eqb-true role 2 f))

led-is : (role : ℕ) → led_of role ≡ true → (eqb role 2 ≡ true) ⊎ (eqb role 3 ≡ true)
unfolding led_of
led-is role e = go (eqb role 2) refl e
  where
    go : (b : Bool) → eqb role 2 ≡ b → cond b true (eqb role 3) ≡ true → (eqb role 2 ≡ true) ⊎ (eqb role 3 ≡ true)
    go true k f = inl k
    go false k f = inr f

module _ (held : Row → List ℕ) (n : ℕ) (table : List ℕ) (rows : List (List ℕ)) (roles : List ℕ) (u v : ℕ) where
  step-roles : step_of held n table rows roles u v ≡ true → (leads_of (get_or roles u 0) ≡ true) × (led_of (get_or roles v 0) ≡ true)
  unfolding step_of matched_of
  step-roles e = go (leads_of (get_or roles u 0)) (verdict_in n table u v) (led_of (get_or roles v 0)) (fits_of held (row_at rows u) (row_at rows v)) e
    where
      go : (a b c d : Bool) → cond a (cond b (cond c d false) false) false ≡ true → (a ≡ true) × (c ≡ true)
      go true true true d f = (refl, refl)
      go true true false d f = absurd (clash f refl)
      go true false c d f = absurd (clash f refl)
      go false b c d f = absurd (clash f refl)

  module _ (h : u < n) where
    -- the tables' own steps are all followed, and no other
    followed-step : followed n (tables_graph held n table rows roles) u v ≡ step_of held n table rows roles u v
    followed-step =
        either (step_of held n table rows roles u v)
        (λ e.
        let r = step-roles e in
        let s = leads-apart (get_or roles u 0) r.0 in
        ⊎_elim (λ l. to-link n (tables_graph held n table rows roles) h s l e) (λ l. to-signer n (tables_graph held n table rows roles) h s l e)
        (led-is (get_or roles v 0) r.1)
        ∙ sym e)
        (λ e.
        either (eqb (get_or roles u 0) 3) (λ s. from-signer n (tables_graph held n table rows roles) v h s)
        (λ s. no_step n (tables_graph held n table rows roles) h s e)
        ∙ sym e)

    -- a place that leads nowhere
    pub leads-nowhere : leads_of (get_or roles u 0) ≡ false → followed n (tables_graph held n table rows roles) u v ≡ false
    leads-nowhere e =
        followed-step ∙ step-unled held n table rows roles u v refl e

    -- one that leads on, by the octet of the table and by whether the two fit
    module _ (lead : leads_of (get_or roles u 0) ≡ true) where
      pub no-verdict : (get_or table (u * n + v) 0 ≡ 1 → ⊥) → followed n (tables_graph held n table rows roles) u v ≡ false
      no-verdict d =
          followed-step
          ∙ step-unasked held n table rows roles u v refl lead refl d

      module _ {value : Bool} (one : get_or table (u * n + v) 0 ≡ 1) (is : value ≡ matched_of held (row_at rows u) (row_at rows v) (get_or roles v 0)) where
        pub fitting : value ≡ true → followed n (tables_graph held n table rows roles) u v ≡ true
        fitting e =
            followed-step
            ∙ sym (step-asked held n table rows roles u v refl refl refl refl lead refl one is) ∙ e

        pub unfitting : value ≡ false → followed n (tables_graph held n table rows roles) u v ≡ false
        unfitting d =
            followed-step
            ∙ sym (step-asked held n table rows roles u v refl refl refl refl lead refl one is) ∙ d
