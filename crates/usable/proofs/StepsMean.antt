-- The tables tell the good steps between usable places: there the rows tell names and keys, and roles tell kinds.
use Prim.Native.Nat.{ℕ, ◌+◌, ◌*◌, ◌<◌, ◌≤◌}
use mathlib.Core.Path.{◌≡◌, refl, sym, ◌∙◌}
use mathlib.Core.Bool.{Bool, true, false, cond, ◌&&◌, ◌||◌}
use mathlib.Core.List.{List}
use mathlib.Core.Logic.{◌⊎◌, inl, inr, ⊎_elim}
use native.Mathlib.Omega.{arith}
use borrow.Author.Tests.{eqb-true}
use lib.Dec.{eqb}
use lib.ListN.{length, get_or}
use Rattle.octets.specs.Alike.{alike}
use Rattle.image.specs.Items.{Item}
use Rattle.usable.specs.declared.opened.Row.{Row}
use Rattle.usable.specs.Items.{item_at, part_of}
use Rattle.usable.specs.Usable.{usable_anchor, usable}
use Rattle.usable.specs.Steps.{has_kind, fits, good_step}
use Rattle.usable.specs.Table.{verdict_in}
use Rattle.usable.specs.Rows.{certificate_told, row_at, piece_of, leads_of, led_of, fits_of, matched_of, step_of, Matched}
use Rattle.usable.proofs.Booleans.{first, second, both_true, middle, but_last, chosen, swapped}
use Rattle.usable.proofs.RowReadings.{valid_of}
use Rattle.usable.proofs.Scope.{Placed, Told, Scope}
use Rattle.usable.proofs.StandingMeans.{standing-signed, certificate-row}
use Rattle.usable.proofs.CountingMeans.{flag_one, Certificate, certificate-told, valid-told, row-reading, anchor-standing}
use Rattle.usable.proofs.RolesMean.{Known}

either : (a b : Bool) → (a ≡ true) ⊎ (b ≡ true) → (a || b) ≡ true
either true b e = refl
either false b (inl e) = absurd (let z : ◌≡◌ {A = ℕ} 0 1 = cc in omega arith)
either false b (inr e) = e

either-cond : (a b : Bool) → (a ≡ true) ⊎ (b ≡ true) → cond a true b ≡ true
either-cond true b e = refl
either-cond false b (inl e) = absurd (let z : ◌≡◌ {A = ℕ} 0 1 = cc in omega arith)
either-cond false b (inr e) = e

-- names and keys of two certificates are those of their rows
fits-rows :
    (held : Row → List ℕ) (items : List Item) (at : ℕ → ℕ) → Placed held items at → (rows : List (List ℕ)) (u v : ℕ) → u < length items
    → v < length items → Certificate items at rows u → Certificate items at rows v → fits_of held (row_at rows u) (row_at rows v) ≡ fits items u v
unfolding fits_of fits piece_of part_of
fits-rows held items at placed rows u v hu hv (f, jf, rf) (g, jg, rg) =
    let part : ℕ → ℕ → ℕ → List ℕ = part_of items in
    rw (
      certificate-told items u f jf,
      certificate-told items v g jg,
      rf,
      rg,
      placed u hu (certificate_told (item_at items u) (at u) f) refl refl,
      placed v hv (certificate_told (item_at items v) (at v) g) refl refl,
    )
    (swapped (alike (part v g.issuer_at g.issuer_len) (part u f.subject_at f.subject_len))
    (alike (part v g.authority_key_at g.authority_key_len) (part u f.subject_key_at f.subject_key_len)))

module _ (items : List Item) (at : ℕ → ℕ) (table : List ℕ) (moment : ℕ) {there within : ℕ → Bool} (scope : Scope items (verdict_in (length items) table) moment there within) (rows : List (List ℕ)) (told : Told moment items at there rows) (held : Row → List ℕ) (placed : Placed held items at) (roles : List ℕ) (known : Known items table moment within roles) where
  -- a place with a role has a certificate's row
  anchor-row : (p : ℕ) → p < length items → eqb (get_or roles p 0) 1 ≡ true → Certificate items at rows p
  anchor-row p h e =
      let one = eqb-true (row_at rows p).standing 1 (anchor-standing items at table moment scope rows told p h ∙ sym (known p h).anchor ∙ e) in
      certificate-row (row-reading items at table moment scope rows told p h) (omega arith) (omega arith)

  signed-row :
      (p k : ℕ) → p < length items → 2 ≤ k → k ≤ 3
      → (within p && (has_kind items k p && usable items (verdict_in (length items) table) moment p)) ≡ true → Certificate items at rows p
  unfolding usable has_kind
  signed-row p k h l m e =
      let f = rw (valid-told items moment p) at e in
      let near = scope.inner p h (first (within p) _ f) in
      let is = eqb-true (row_at rows p).standing k
      (standing-signed (row-reading items at table moment scope rows told p h) k l m
      ∙ both_true (there p) _ near (but_last true (eqb (item_at items p).kind k) (valid_of moment (item_at items p)) _ (second (within p) _ f))) in
      certificate-row (row-reading items at table moment scope rows told p h) (omega arith) (omega arith)

  link_row : (p : ℕ) → p < length items → eqb (get_or roles p 0) 2 ≡ true → Certificate items at rows p
  link_row p h e = signed-row p 2 h (omega arith) (omega arith) (sym (known p h).link ∙ e)

  signer-row : (p : ℕ) → p < length items → eqb (get_or roles p 0) 3 ≡ true → Certificate items at rows p
  signer-row p h e = signed-row p 3 h (omega arith) (omega arith) (sym (known p h).signer ∙ e)

  -- and the kind of its role
  anchor-kind : (p : ℕ) → p < length items → eqb (get_or roles p 0) 1 ≡ true → has_kind items 1 p ≡ true
  unfolding has_kind usable_anchor
  anchor-kind p h e = first (eqb (item_at items p).kind 1) _ (second (within p) _ (sym (known p h).anchor ∙ e))

  link-kind : (p : ℕ) → p < length items → eqb (get_or roles p 0) 2 ≡ true → has_kind items 2 p ≡ true
  link-kind p h e = middle (within p) (has_kind items 2 p) _ (sym (known p h).link ∙ e)

  signer-kind : (p : ℕ) → p < length items → eqb (get_or roles p 0) 3 ≡ true → has_kind items 3 p ≡ true
  signer-kind p h e = middle (within p) (has_kind items 3 p) _ (sym (known p h).signer ∙ e)

  -- between an anchor or link and a link or signer, a step told is a good one
  pub step-told :
      (u v : ℕ) → u < length items → v < length items → (eqb (get_or roles u 0) 1 ≡ true) ⊎ (eqb (get_or roles u 0) 2 ≡ true)
      → (eqb (get_or roles v 0) 2 ≡ true) ⊎ (eqb (get_or roles v 0) 3 ≡ true)
      → step_of held (length items) table rows roles u v ≡ good_step items (verdict_in (length items) table) u v
  unfolding step_of matched_of leads_of led_of good_step
  step-told u v hu hv from to =
      let leads : has_kind items 1 u || has_kind items 2 u ≡ true =
      either _ _ (⊎_elim (λ e. inl (anchor-kind u hu e)) (λ e. inr (link-kind u hu e)) from) in
      let led : has_kind items 2 v || has_kind items 3 v ≡ true =
      either _ _ (⊎_elim (λ e. inl (link-kind v hv e)) (λ e. inr (signer-kind v hv e)) to) in
      let cu : Certificate items at rows u = ⊎_elim (anchor-row u hu) (link_row u hu) from in
      let cv : Certificate items at rows v = ⊎_elim (link_row v hv) (signer-row v hv) to in
      rw (either-cond _ _ from, either-cond _ _ to, leads, led)
      (chosen (verdict_in (length items) table u v) (fits_of held (row_at rows u) (row_at rows v)) (fits items u v)
      (fits-rows held items at placed rows u v hu hv cu cv))

-- the cells of a table of steps tell the same
pub cells-tell :
    (held : Row → List ℕ) (n : ℕ) (table : List ℕ) (rows : List (List ℕ)) (roles steps : List ℕ) → Matched held n table rows roles steps
    → (u v : ℕ) → u < n → v < n → eqb (get_or steps (u * 96 + v) 0) 1 ≡ step_of held n table rows roles u v
cells-tell held n table rows roles steps matched u v hu hv = rw (matched u v hu hv) (flag_one (step_of held n table rows roles u v))
