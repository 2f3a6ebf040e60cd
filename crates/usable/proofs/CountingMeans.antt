-- The table of counting CRLs tells which CRLs within count: an anchor that vouches for one is within, so it is open too.
use Rattle.std.specs.Prelude.{Ok}
use Prim.Native.Nat.{ℕ, zero, suc, ◌<◌}
use mathlib.Core.Path.{◌≡◌, refl, ap, ap₂, sym, ◌∙◌}
use mathlib.Core.Bool.{Bool, true, false, cond, ◌&&◌, ◌||◌}
use mathlib.Core.List.{List}
use mathlib.Core.Logic.{inl, inr}
use native.Mathlib.Omega.{arith}
use borrow.Author.Tests.{eqb-true, eq-eqb}
use lib.Dec.{eqb}
use lib.ListN.{length, get_or}
use Rattle.der.specs.Forms.{paper}
use Rattle.certificate.specs.declared.Fields as certificates
use Rattle.certificate.specs.Answer.{judged_of}
use Rattle.crl.specs.declared.Fields as crls
use Rattle.crl.specs.Answer as lists
use Rattle.image.specs.Items.{Item}
use Rattle.usable.specs.Items.{item_at, on_certificate, certificate_at, on_list, list_at, some_below, some_place}
use Rattle.usable.specs.Usable.{valid, usable_anchor, same_country, counts}
use Rattle.usable.specs.Table.{verdict_in}
use Rattle.usable.specs.Rows.{blank, certificate_told, list_told, row_of, row_at, flag, same_letters, vouched_by, counted_of, Counted}
use Rattle.usable.proofs.Booleans.{false-true, first, middle, chosen, grouped-near}
use Rattle.usable.proofs.RowReadings.{valid_of, current_of, anchor_of, Reading, reading, unopened}
use Rattle.usable.proofs.Scope.{Told, Scope}
use Rattle.usable.proofs.StandingMeans.{standing-anchor, standing-list, certificate-row, list-row}

-- tests that agree at each place
pub some_same : (n : ℕ) (f g : ℕ → Bool) → ((i : ℕ) → i < n → f i ≡ g i) → some_below n f ≡ some_below n g
unfolding some_below
some_same zero f g e = refl
some_same (suc n) f g e = ap₂ ◌||◌ (e n (omega arith)) (some_same n f g (λ i h. e i (omega arith)))

pub flag_one : (b : Bool) → eqb (flag b) 1 ≡ b
unfolding flag
flag_one true = refl
flag_one false = refl

-- what the row of a place tells of the certificate, or of the CRL, that stands there
abbrev pub Certificate : List Item → (ℕ → ℕ) → List (List ℕ) → ℕ → Type 0
Certificate items at rows p =
    (f : certificates.Fields) × (judged_of (item_at items p).bytes (item_at items p).kind ≡ Ok f)
    × (row_at rows p ≡ certificate_told (item_at items p) (at p) f)

abbrev pub Crl : List Item → (ℕ → ℕ) → List (List ℕ) → ℕ → Type 0
Crl items at rows p =
    (f : crls.Fields) × (lists.judged_of paper (item_at items p).bytes ≡ Ok f) × (row_at rows p ≡ list_told (item_at items p) (at p) f)

-- a test of a certificate that passes, and of a CRL
pub certificate-told :
    (items : List Item) (p : ℕ) (f : certificates.Fields) → judged_of (item_at items p).bytes (item_at items p).kind ≡ Ok f
    → (test : certificates.Fields → Bool) → certificate_at items p test ≡ test f
unfolding certificate_at on_certificate
certificate-told items p f j test = rw j

pub list-told :
    (items : List Item) (p : ℕ) (f : crls.Fields) → lists.judged_of paper (item_at items p).bytes ≡ Ok f
    → (test : crls.Fields → Bool) → list_at items p test ≡ test f
unfolding list_at on_list
list-told items p f j test = rw j

-- what an item is at a moment, by its place
pub valid-told : (items : List Item) (moment p : ℕ) → valid items moment p ≡ valid_of moment (item_at items p)
unfolding valid certificate_at valid_of
valid-told items moment p = refl

anchor-told : (items : List Item) (moment p : ℕ) → usable_anchor items moment p ≡ anchor_of moment (item_at items p)
unfolding usable_anchor anchor_of valid certificate_at valid_of
anchor-told items moment p = refl

-- a usable anchor is an anchor
pub anchor-kind : (items : List Item) (moment u : ℕ) → usable_anchor items moment u ≡ true → eqb (item_at items u).kind 1 ≡ true
unfolding usable_anchor
anchor-kind items moment u e = first (eqb (item_at items u).kind 1) _ e

-- the letters of two rows are those of a certificate and a CRL
pub letters :
    (items : List Item) (at : ℕ → ℕ) (rows : List (List ℕ)) (u c : ℕ) → Certificate items at rows u → Crl items at rows c
    → same_letters (row_at rows u) (row_at rows c) ≡ same_country items u c
unfolding same_letters same_country
letters items at rows u c (f, jf, rf) (g, jg, rg) =
    rw (certificate-told items u f jf, list-told items c g jg, rf, rg) (chosen (eqb f.first g.first) (eqb f.second g.second) _ refl)

-- two tests that agree where a third holds
under : (x y k r : Bool) → (k ≡ true → x ≡ y) → (x && (k && r)) ≡ (y && (k && r))
under x y true r f = ap (λ (z : Bool). z && r) (f refl)
under true true false r f = refl
under true false false r f = refl
under false true false r f = refl
under false false false r f = refl

-- a row stands, has verdict 1 and the letters, where the anchor is usable, of the country and has verdict 1
vouches :
    (stands inside anchor verdict letters country : Bool) → stands ≡ (inside && anchor) → (stands ≡ true → letters ≡ country)
    → (anchor ≡ true → country ≡ true → verdict ≡ true → inside ≡ true)
    → cond stands (cond verdict letters false) false ≡ (anchor && (country && verdict))
vouches true true true true l c s e i = go l c (e refl)
  where
    go : (l c : Bool) → l ≡ c → cond true (cond true l false) false ≡ (true && (c && true))
    go true true k = refl
    go true false k = k
    go false true k = k
    go false false k = refl
vouches true true true false l true s e i = refl
vouches true true true false l false s e i = refl
vouches true true false v l c s e i = false-true (sym s)
vouches true false a v l c s e i = false-true (sym s)
vouches false true true v l c s e i = false-true s
vouches false true false v l c s e i = refl
vouches false false false v l c s e i = refl
vouches false false true true l true s e i = false-true (i refl refl refl)
vouches false false true true l false s e i = refl
vouches false false true false l true s e i = refl
vouches false false true false l false s e i = refl

module _ (items : List Item) (at : ℕ → ℕ) (table : List ℕ) (moment : ℕ) {there within : ℕ → Bool} (scope : Scope items (verdict_in (length items) table) moment there within) (rows : List (List ℕ)) (told : Told moment items at there rows) where
  pub row-reading : (p : ℕ) → p < length items → Reading moment (item_at items p) (at p) (there p) (row_at rows p)
  row-reading p h = rw (told p h) (go (there p))
    where
      go : (o : Bool) → Reading moment (item_at items p) (at p) o (cond o (row_of moment (item_at items p) (at p)) blank)
      go true = reading moment (item_at items p) (at p)
      go false = unopened moment (item_at items p) (at p)

  -- standing 1 is a usable anchor that is within
  pub anchor-standing : (p : ℕ) → p < length items → eqb (row_at rows p).standing 1 ≡ (within p && usable_anchor items moment p)
  unfolding anchor_of
  anchor-standing p h =
      standing-anchor (row-reading p h)
      ∙ under (there p) (within p) (eqb (item_at items p).kind 1) _ (λ k. scope.asked p h (inl k))
      ∙ ap (λ (x : Bool). within p && x) (sym (anchor-told items moment p))

  list-standing :
      (c : ℕ) → c < length items
      → eqb (row_at rows c).standing 4 ≡ (within c && (eqb (item_at items c).kind 4 && current_of moment (item_at items c)))
  list-standing c h =
      standing-list (row-reading c h) ∙ under (there c) (within c) (eqb (item_at items c).kind 4) _ (λ k. scope.asked c h (inr k))

  vouched :
      (u c : ℕ) → u < length items → c < length items → (row_at rows c).standing ≡ 4
      → vouched_by (length items) table rows c u
      ≡ (usable_anchor items moment u && (same_country items u c && verdict_in (length items) table u c))
  unfolding vouched_by
  vouched u c hu hc four =
      let stands = sym (list-standing c hc) ∙ eq-eqb (row_at rows c).standing 4 four in
      vouches (eqb (row_at rows u).standing 1) (within u) (usable_anchor items moment u) (verdict_in (length items) table u c) _ (same_country items u c)
      (anchor-standing u hu) (λ one. letters items at rows u c (own (eqb-true (row_at rows u).standing 1 one)) (list-row (row-reading c hc) four))
      (λ a s v. scope.vouching u c hu hc (first (within c) _ stands) (middle (within c) (eqb (item_at items c).kind 4) _ stands) a s v)
    where
      own : (row_at rows u).standing ≡ 1 → Certificate items at rows u
      own one = certificate-row (row-reading u hu) (omega arith) (omega arith)

  pub counted :
      (c : ℕ) → c < length items
      → counted_of (length items) table rows c ≡ (within c && counts items (verdict_in (length items) table) moment c)
  unfolding counted_of counts some_place list_at current_of
  counted c h =
      chosen (eqb (row_at rows c).standing 4) (some_below (length items) (vouched_by (length items) table rows c)) _ refl
      ∙ grouped-near (eqb (row_at rows c).standing 4) (within c) (eqb (item_at items c).kind 4) (current_of moment (item_at items c))
      (some_below (length items) (vouched_by (length items) table rows c)) _ (list-standing c h)
      (λ four. some_same (length items) _ _ (λ u hu. vouched u c hu h (eqb-true (row_at rows c).standing 4 four)))

-- a table that tells which CRLs within count
abbrev pub Counts : List Item → List ℕ → ℕ → (ℕ → Bool) → List ℕ → Type 0
Counts items table moment within counting =
    (c : ℕ) → c < length items → eqb (get_or counting c 0) 1 ≡ (within c && counts items (verdict_in (length items) table) moment c)

pub counting-means :
    (items : List Item) (at : ℕ → ℕ) (table : List ℕ) (moment : ℕ) {there within : ℕ → Bool}
    → Scope items (verdict_in (length items) table) moment there within → (rows : List (List ℕ)) → Told moment items at there rows
    → (counting : List ℕ) → Counted (length items) table rows counting → Counts items table moment within counting
counting-means items at table moment scope rows told counting is c h =
    rw (is c h) (flag_one (counted_of (length items) table rows c) ∙ counted items at table moment scope rows told c h)
