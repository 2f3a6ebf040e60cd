-- What the CRLs within say of a certificate is 1 where it is within, one that counts covers it and none of those lists its serial: a
-- fold over the places keeps whether some covered so far and whether some listed.
use Prim.Native.Nat.{ℕ, zero, suc, ◌<◌, ◌≤◌}
use mathlib.Core.Path.{◌≡◌, refl, ap, ap₂, sym, ◌∙◌}
use mathlib.Core.Bool.{Bool, true, false, cond, ◌&&◌, ◌||◌, not, and_assoc}
use mathlib.Core.List.{List}
use native.Mathlib.Omega.{arith}
use borrow.Author.Tests.{eqb-true}
use lib.Dec.{eqb}
use lib.ListN.{length, get_or}
use Rattle.image.specs.Items.{Item}
use Rattle.usable.specs.declared.opened.Row.{Row}
use Rattle.usable.specs.Items.{item_at, some_below, some_place, part_of}
use Rattle.usable.specs.Usable.{counts, covers, lists, speaks_of}
use Rattle.usable.specs.Table.{verdict_in}
use Rattle.usable.specs.Rows.{certificate_told, list_told, row_at, counted_of, piece_of, same_letters, lists_of, spoken_of, spoken_below}
use Rattle.usable.proofs.Booleans.{first, and-when}
use Rattle.usable.proofs.Scope.{Placed, Told, Scope}
use Rattle.usable.proofs.StandingMeans.{list-row}
use Rattle.usable.proofs.CountingMeans.{some_same, Counts, Certificate, Crl, letters, certificate-told, list-told, row-reading, counted}

-- what is said where some CRL covers and lists, and where some covers
abbrev said : Bool → Bool → ℕ
said listed covered = cond listed 2 (cond covered 1 0)

-- one place more
abbrev next : Bool → Bool → Bool → ℕ → ℕ
next k covers lists before = cond k (cond (eqb before 2) 2 (cond covers (cond lists 2 1) before)) before

turn :
    (k covers lists listed covered : Bool)
    → next k covers lists (said listed covered) ≡ said (((k && covers) && lists) || listed) ((k && covers) || covered)
turn false c l sl sc = refl
turn true false l true sc = refl
turn true false l false true = refl
turn true false l false false = refl
turn true true true true sc = refl
turn true true true false true = refl
turn true true true false false = refl
turn true true false true sc = refl
turn true true false false true = refl
turn true true false false false = refl

is_one : (listed covered : Bool) → eqb (said listed covered) 1 ≡ (covered && not listed)
is_one true true = refl
is_one true false = refl
is_one false true = refl
is_one false false = refl

module _ (held : Row → List ℕ) (rows : List (List ℕ)) (counting : List ℕ) (row : Row) where
  -- a counting CRL that covers the row, and one that lists it besides
  unfoldable speaking : ℕ → Bool
  speaking c = eqb (get_or counting c 0) 1 && same_letters row (row_at rows c)

  unfoldable listing : ℕ → Bool
  listing c = speaking c && lists_of held (row_at rows c) row

  spoken-some : (n : ℕ) → spoken_below held rows counting row n ≡ said (some_below n listing) (some_below n speaking)
  unfolding spoken_below spoken_of some_below speaking listing
  spoken-some zero = refl
  spoken-some (suc c) =
      rw (spoken-some c)
      (turn (eqb (get_or counting c 0) 1) (same_letters row (row_at rows c)) (lists_of held (row_at rows c) row) (some_below c listing)
      (some_below c speaking))

  spoken-one : (n : ℕ) → eqb (spoken_below held rows counting row n) 1 ≡ (some_below n speaking && not (some_below n listing))
  spoken-one n = rw (spoken-some n) (is_one (some_below n listing) (some_below n speaking))

-- tests under one that holds of all
some_with : (n : ℕ) (x : Bool) (test : ℕ → Bool) → some_below n (λ c. x && test c) ≡ (x && some_below n test)
unfolding some_below
some_with n true test = some_same n _ _ (λ c h. refl)
some_with zero false test = refl
some_with (suc n) false test = some_with n false test

together : (x y z : Bool) → ((x && y) && not (x && z)) ≡ (x && (y && not z))
together true y z = refl
together false y z = refl

-- of two tests that agree where two others hold the one is as good as the other
exchanged : (x y k l : Bool) → (k ≡ true → l ≡ true → x ≡ y) → ((x && k) && l) ≡ (y && (k && l))
exchanged x y true true f = rw (f refl refl) (go y)
  where
    go : (z : Bool) → ((z && true) && true) ≡ (z && (true && true))
    go true = refl
    go false = refl
exchanged true true true false f = refl
exchanged true false true false f = refl
exchanged false true true false f = refl
exchanged false false true false f = refl
exchanged true true false l f = refl
exchanged true false false l f = refl
exchanged false true false l f = refl
exchanged false false false l f = refl

module _ (items : List Item) (at : ℕ → ℕ) (table : List ℕ) (moment : ℕ) {there within : ℕ → Bool} (scope : Scope items (verdict_in (length items) table) moment there within) (rows : List (List ℕ)) (told : Told moment items at there rows) (held : Row → List ℕ) (placed : Placed held items at) where
  covers-row :
      (c p : ℕ) → Crl items at rows c → Certificate items at rows p → same_letters (row_at rows p) (row_at rows c) ≡ covers items c p
  unfolding covers
  covers-row c p list own = letters items at rows p c own list

  lists-row :
      (c p : ℕ) → c < length items → p < length items → Crl items at rows c → Certificate items at rows p
      → lists_of held (row_at rows c) (row_at rows p) ≡ lists items c p
  unfolding lists_of lists piece_of part_of
  lists-row c p hc hp (g, jg, rg) (f, jf, rf) =
      rw (list-told items c g jg, certificate-told items p f jf, rg, rf, placed c hc (list_told (item_at items c) (at c) g) refl refl, placed p hp (certificate_told (item_at items p) (at p) f) refl refl)

  counted-list : (c : ℕ) → counted_of (length items) table rows c ≡ true → (row_at rows c).standing ≡ 4
  unfolding counted_of
  counted-list c e = go (eqb (row_at rows c).standing 4) refl (some_below (length items) _) e
    where
      go :
          (b : Bool) → eqb (row_at rows c).standing 4 ≡ b → (o : Bool) → cond b o false ≡ true → (row_at rows c).standing ≡ 4
      go true h o f = eqb-true (row_at rows c).standing 4 h
      go false h o f = absurd (let z : ◌≡◌ {A = ℕ} 0 1 = cc in omega arith)

  module _ (counting : List ℕ) (is : Counts items table moment within counting) where
    counting-list : (c : ℕ) → c < length items → eqb (get_or counting c 0) 1 ≡ true → Crl items at rows c
    counting-list c h e =
        list-row (row-reading items at table moment scope rows told c h)
        (counted-list c (counted items at table moment scope rows told c h ∙ sym (is c h) ∙ e))

    -- a CRL within that counts and covers an open certificate is one that counts and covers it, where that is within
    speaks :
        (p c : ℕ) → p < length items → c < length items → there p ≡ true → 2 ≤ (item_at items p).kind → (item_at items p).kind ≤ 3 → Certificate items at rows p
        → speaking held rows counting (row_at rows p) c ≡ (within p && speaks_of items (verdict_in (length items) table) moment p c)
    unfolding speaking speaks_of
    speaks p c hp hc near least most own =
        and-when (eqb (get_or counting c 0) 1) (same_letters (row_at rows p) (row_at rows c)) (covers items c p)
        (λ k. covers-row c p (counting-list c hc k) own)
        ∙ ap (λ (x : Bool). x && covers items c p) (is c hc)
        ∙ exchanged (within c) (within p) (counts items (verdict_in (length items) table) moment c) (covers items c p)
        (λ k l. scope.covering c p hc hp k near least most l)

    lists-it :
        (p c : ℕ) → p < length items → c < length items → there p ≡ true → 2 ≤ (item_at items p).kind → (item_at items p).kind ≤ 3 → Certificate items at rows p
        → listing held rows counting (row_at rows p) c
        ≡ (within p && (speaks_of items (verdict_in (length items) table) moment p c && lists items c p))
    unfolding listing speaking
    lists-it p c hp hc near least most own =
        and-when (speaking held rows counting (row_at rows p) c) (lists_of held (row_at rows c) (row_at rows p)) (lists items c p)
        (λ k. lists-row c p hc hp (counting-list c hc (speaking-counts c k)) own)
        ∙ ap (λ (x : Bool). x && lists items c p) (speaks p c hp hc near least most own)
        ∙ and_assoc (within p) (speaks_of items (verdict_in (length items) table) moment p c) (lists items c p)
      where
        speaking-counts : (c : ℕ) → speaking held rows counting (row_at rows p) c ≡ true → eqb (get_or counting c 0) 1 ≡ true
        speaking-counts c k = first (eqb (get_or counting c 0) 1) (same_letters (row_at rows p) (row_at rows c)) k

    -- what the CRLs say is 1 where the certificate is within, one that counts covers it, and none of those lists its serial
    pub spoken-means :
        (p : ℕ) → p < length items → there p ≡ true → 2 ≤ (item_at items p).kind → (item_at items p).kind ≤ 3 → Certificate items at rows p
        → eqb (spoken_below held rows counting (row_at rows p) (length items)) 1
        ≡ (within p
        && (some_place items (λ c. speaks_of items (verdict_in (length items) table) moment p c)
        && not (some_place items λ c. speaks_of items (verdict_in (length items) table) moment p c && lists items c p)))
    unfolding some_place
    spoken-means p h near least most own =
        spoken-one held rows counting (row_at rows p) (length items)
        ∙ ap₂ (λ (x y : Bool). x && not y)
        (some_same (length items) _ _ (λ c hc. speaks p c h hc near least most own) ∙ some_with (length items) (within p) _)
        (some_same (length items) _ _ (λ c hc. lists-it p c h hc near least most own) ∙ some_with (length items) (within p) _)
        ∙ together (within p) _ _
