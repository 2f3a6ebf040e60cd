-- The table of roles tells the usable anchors, links and signers that are within: a role is a standing, and of a link or signer what
-- the CRLs say.
use Prim.Native.Nat.{ℕ, ◌<◌, ◌≤◌}
use mathlib.Core.Path.{◌≡◌, refl, sym, ◌∙◌}
use mathlib.Core.Bool.{Bool, true, false, cond, ◌&&◌}
use mathlib.Core.List.{List}
use native.Mathlib.Omega.{arith}
use borrow.Author.Tests.{eqb-true, ne_eqb}
use lib.Dec.{eqb}
use lib.ListN.{length, get_or}
use Rattle.image.specs.Items.{Item}
use Rattle.usable.specs.declared.opened.Row.{Row}
use Rattle.usable.specs.Items.{item_at}
use Rattle.usable.specs.Usable.{usable_anchor, usable}
use Rattle.usable.specs.Steps.{has_kind}
use Rattle.usable.specs.Table.{verdict_in}
use Rattle.usable.specs.Rows.{row_at, spoken_below, signed_of, role_by, role_of, role_in, is_near, Roles}
use Rattle.usable.proofs.Booleans.{false-true, first, middle}
use Rattle.usable.proofs.RowReadings.{valid_of}
use Rattle.usable.proofs.Scope.{Placed, Told, Scope}
use Rattle.usable.proofs.StandingMeans.{standing-signed, certificate-row}
use Rattle.usable.proofs.CountingMeans.{Counts, Certificate, valid-told, row-reading, anchor-standing}
use Rattle.usable.proofs.SpeakingMeans.{spoken-means}

-- the role of a row with tests x and y for standings 2 and 3, and z for 1
abbrev chosen : Bool → Bool → Bool → ℕ → ℕ
chosen x y z spoken =
    cond (cond x true y) (cond (eqb (cond (cond x true y) spoken 0) 1) (cond x 2 3) 0) (cond z 1 0)

picked-1 : (w : Bool) (k : ℕ) → eqb k 1 ≡ false → eqb (cond w k 0) 1 ≡ false
picked-1 true k e = e
picked-1 false k e = refl

by-anchor : (x y z : Bool) (spoken : ℕ) → (x ≡ true → z ≡ false) → (y ≡ true → z ≡ false) → eqb (chosen x y z spoken) 1 ≡ z
by-anchor true y z spoken f g = rw (f refl) (picked-1 (eqb spoken 1) 2 refl)
by-anchor false true z spoken f g = rw (g refl) (picked-1 (eqb spoken 1) 3 refl)
by-anchor false false true spoken f g = refl
by-anchor false false false spoken f g = refl

picked-2 : (w : Bool) → eqb (cond w 2 0) 2 ≡ w
picked-2 true = refl
picked-2 false = refl

picked-3 : (w : Bool) → eqb (cond w 3 0) 3 ≡ w
picked-3 true = refl
picked-3 false = refl

other : (w : Bool) (a b : ℕ) → eqb a b ≡ false → eqb 0 b ≡ false → eqb (cond w a 0) b ≡ false
other true a b e f = e
other false a b e f = f

by-link : (x y z : Bool) (spoken : ℕ) → eqb (chosen x y z spoken) 2 ≡ (x && eqb spoken 1)
by-link true y z spoken = picked-2 (eqb spoken 1)
by-link false true z spoken = other (eqb spoken 1) 3 2 refl refl
by-link false false z spoken = other z 1 2 refl refl

by-signer : (x y z : Bool) (spoken : ℕ) → (x ≡ true → y ≡ false) → eqb (chosen x y z spoken) 3 ≡ (y && eqb spoken 1)
by-signer true y z spoken f = rw (f refl) (other (eqb spoken 1) 2 3 refl refl)
by-signer false true z spoken f = picked-3 (eqb spoken 1)
by-signer false false z spoken f = other z 1 3 refl refl

-- a number is not two numbers
apart : (m k l : ℕ) → (k ≡ l → ⊥) → eqb m k ≡ true → eqb m l ≡ false
apart m k l d e = let same : m ≡ k = eqb-true m k e in ne_eqb m l (λ z. d (sym same ∙ z))

module _ (held : Row → List ℕ) (n : ℕ) (rows : List (List ℕ)) (counting : List ℕ) (row : Row) where
  role-anchor : eqb (role_of held n rows counting row) 1 ≡ eqb row.standing 1
  unfolding role_of role_by signed_of
  role-anchor =
      by-anchor (eqb row.standing 2) (eqb row.standing 3) (eqb row.standing 1) (spoken_below held rows counting row n)
      (apart row.standing 2 1 (λ z. omega arith)) (apart row.standing 3 1 (λ z. omega arith))

  role-link : eqb (role_of held n rows counting row) 2 ≡ (eqb row.standing 2 && eqb (spoken_below held rows counting row n) 1)
  unfolding role_of role_by signed_of
  role-link =
      by-link (eqb row.standing 2) (eqb row.standing 3) (eqb row.standing 1) (spoken_below held rows counting row n)

  role-signer : eqb (role_of held n rows counting row) 3 ≡ (eqb row.standing 3 && eqb (spoken_below held rows counting row n) 1)
  unfolding role_of role_by signed_of
  role-signer =
      by-signer (eqb row.standing 2) (eqb row.standing 3) (eqb row.standing 1) (spoken_below held rows counting row n)
      (apart row.standing 2 3 (λ z. omega arith))

-- what a role says of a place
pub record Role (items : List Item) (table : List ℕ) (moment p : ℕ) (there : Bool) (role : ℕ) : Type 0 where
  pub anchor : eqb role 1 ≡ (there && usable_anchor items moment p)
  pub link : eqb role 2 ≡ (there && (has_kind items 2 p && usable items (verdict_in (length items) table) moment p))
  pub signer : eqb role 3 ≡ (there && (has_kind items 3 p && usable items (verdict_in (length items) table) moment p))

-- a table of roles tells what is within
abbrev pub Known : List Item → List ℕ → ℕ → (ℕ → Bool) → List ℕ → Type 0
Known items table moment within roles = (p : ℕ) → p < length items → Role items table moment p (within p) (get_or roles p 0)

-- tests in another order, of which one holds where another does
arranged :
    (w given o k v q x : Bool) → given ≡ (o && (k && v)) → (w ≡ true → o ≡ true) → (given ≡ true → q ≡ (w && x))
    → (given && q) ≡ (w && (k && (v && x)))
arranged false true o k v q x e f g = g refl
arranged false false o k v q x e f g = refl
arranged true given false k v q x e f g = false-true (f refl)
arranged true given true true true q x e f g = rw e (g e)
arranged true given true true false q x e f g = rw e
arranged true given true false v q x e f g = rw e

module _ (items : List Item) (at : ℕ → ℕ) (table : List ℕ) (moment : ℕ) {there within : ℕ → Bool} (scope : Scope items (verdict_in (length items) table) moment there within) (rows : List (List ℕ)) (told : Told moment items at there rows) (held : Row → List ℕ) (placed : Placed held items at) (counting : List ℕ) (counts : Counts items table moment within counting) where
  -- a standing of 2 or 3 that the CRLs leave is a usable link or signer that is within
  signed :
      (p k : ℕ) → p < length items → 2 ≤ k → k ≤ 3
      → (eqb (row_at rows p).standing k && eqb (spoken_below held rows counting (row_at rows p) (length items)) 1)
      ≡ (within p && (has_kind items k p && usable items (verdict_in (length items) table) moment p))
  unfolding usable has_kind
  signed p k h l m =
      rw (valid-told items moment p)
      (arranged (within p) (eqb (row_at rows p).standing k) (there p) (eqb (item_at items p).kind k)
      (valid_of moment (item_at items p)) (eqb (spoken_below held rows counting (row_at rows p) (length items)) 1) _
      (stands k l m) (scope.inner p h)
      (λ e.
      spoken-means items at table moment scope rows told held placed counting counts p h (first (there p) _ (sym (stands k l m) ∙ e))
      (least e) (most e) (own (eqb-true (row_at rows p).standing k e))))
    where
      stands : (k : ℕ) → 2 ≤ k → k ≤ 3 → eqb (row_at rows p).standing k ≡ (there p && (eqb (item_at items p).kind k && valid_of moment (item_at items p)))
      stands k l m = standing-signed (row-reading items at table moment scope rows told p h) k l m

      own : (row_at rows p).standing ≡ k → Certificate items at rows p
      own e = certificate-row (row-reading items at table moment scope rows told p h) (omega arith) (omega arith)

      kind : eqb (row_at rows p).standing k ≡ true → (item_at items p).kind ≡ k
      kind e = eqb-true (item_at items p).kind k (middle (there p) (eqb (item_at items p).kind k) _ (sym (stands k l m) ∙ e))

      least : eqb (row_at rows p).standing k ≡ true → 2 ≤ (item_at items p).kind
      least e = rw (kind e) l

      most : eqb (row_at rows p).standing k ≡ true → (item_at items p).kind ≤ 3
      most e = rw (kind e) m

  -- of what is within role 1 is a usable anchor, 2 a usable link and 3 a usable signer
  pub role-means : (p : ℕ) → p < length items → Role items table moment p (within p) (role_of held (length items) rows counting (row_at rows p))
  role-means p h =
      record {
        anchor = role-anchor held (length items) rows counting (row_at rows p) ∙ anchor-standing items at table moment scope rows told p h;
        link = role-link held (length items) rows counting (row_at rows p) ∙ signed p 2 h (omega arith) (omega arith);
        signer = role-signer held (length items) rows counting (row_at rows p) ∙ signed p 3 h (omega arith) (omega arith);
      }

  -- and so are roles that are handed on
  pub roles-mean :
      (before roles more : List ℕ) → Roles held (length items) before rows counting roles more
      → ((p : ℕ) → p < length items → is_near before p ≡ true → Role items table moment p (within p) (get_or roles p 0))
      → Known items table moment within more
  unfolding role_in
  roles-mean before roles more is known p h = rw (is p h) (go (is_near before p) refl)
    where
      go :
          (x : Bool) → is_near before p ≡ x
          → Role items table moment p (within p) (cond x (get_or roles p 0) (role_of held (length items) rows counting (row_at rows p)))
      go true e = known p h e
      go false e = role-means p h
