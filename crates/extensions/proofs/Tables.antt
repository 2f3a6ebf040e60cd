-- What a table of OIDs tells: an OID stands twice where one that follows is in the table, or two that follow are equal.
use Rattle.std.specs.Prelude.{Option, None}
use mathlib.Core.Path.{◌≡◌, refl, sym, ap, subst, ◌∙◌}
use mathlib.Core.Bool.{Bool, true, false, cond, ◌||◌}
use mathlib.Core.List.{List, [], ◌∷◌}
use Prim.Native.Nat.{ℕ, zero, suc, ◌+◌, ◌-◌, ◌<◌, ◌≤◌}
use native.Mathlib.Numerals.{add-one}
use native.Mathlib.Omega.{arith}
use borrow.Author.Tests.{eqb-true, eqb-false, ltb-true, ltb-false}
use lib.Dec.{eqb, ltb}
use lib.ListN.{length, get_or, set, replicate, length-set}
use lib.Seq.{get_or-set_same, get_or-set_other}
use Rattle.der.specs.Forms.{paper}
use Rattle.octets.specs.Alike.{alike}
use Rattle.octets.proofs.Likeness.{unequal-unlike}
use Rattle.elements.specs.declared.elements.Element.{Element}
use Rattle.elements.specs.Elements.{contents_of}
use Rattle.extensions.specs.declared.rows.Row.{Row}
use Rattle.extensions.specs.declared.stranger.Stranger.{Stranger}
use Rattle.extensions.proofs.Places.{beyond}
use Rattle.extensions.proofs.Slotless.{strange-none}
use Rattle.extensions.specs.Strange.{is_in, twice_in, strange_from, Ahead, met, none, key_from, row_oid, Numbered, Compared}
use Rattle.extensions.proofs.Payloads.{a_stranger}

-- whether one of them passes a test
unfoldable pub some_in : (List ℕ → Bool) → List (List ℕ) → Bool
some_in seen [] = false
some_in seen (x ∷ rest) = cond (seen x) true (some_in seen rest)

-- a test that lets one OID more pass
pub some_more :
    (seen after : List ℕ → Bool) (o : List ℕ) → ((x : List ℕ) → after x ≡ cond (alike x o) true (seen x)) → (xs : List (List ℕ))
    → some_in after xs ≡ (some_in seen xs || is_in o xs)
unfolding some_in is_in
some_more seen after o h [] = refl
some_more seen after o h (x ∷ rest) = rw (h x, some_more seen after o h rest) (go (alike x o) (seen x) (some_in seen rest) (is_in o rest))
  where
    go : (a b c d : Bool) → cond (cond a true b) true (c || d) ≡ (cond b true c || cond a true d)
    go true true c d = refl
    go true false true d = refl
    go true false false d = refl
    go false true c d = refl
    go false false c d = refl

abbrev pub vacant : Row
vacant = record { last = 0; first = 0; start = 0; end = 0 }

-- whether one of the first rows has that OID
unfoldable pub seen_in : List ℕ → List Row → ℕ → List ℕ → Bool
seen_in s table zero x = false
seen_in s table (suc i) x = cond (alike x (row_oid s (get_or table i vacant))) true (seen_in s table i x)

module _ (s : List ℕ) (table : List Row) (x : List ℕ) where
  pub seen_none : seen_in s table 0 x ≡ false
  unfolding seen_in
  seen_none = refl

  pub seen_other : (i : ℕ) → seen_in s table i x ≡ false → alike x (row_oid s (get_or table i vacant)) ≡ false → seen_in s table (suc i) x ≡ false
  unfolding seen_in
  seen_other i h n = rw (n, h)

  pub seen_here : (count i : ℕ) → i < count → alike x (row_oid s (get_or table i vacant)) ≡ true → seen_in s table count x ≡ true
  unfolding seen_in
  seen_here zero i l h = absurd (omega arith)
  seen_here (suc n) i l h = go (seen_here n i) (eqb i n) refl
    where
      both : (t : Bool) → cond t true true ≡ true
      both true = refl
      both false = refl

      go : (i < n → alike x (row_oid s (get_or table i vacant)) ≡ true → seen_in s table n x ≡ true) → (t : Bool) → eqb i n ≡ t → cond (alike x (row_oid s (get_or table n vacant))) true (seen_in s table n x) ≡ true
      go less true q = rw (ap (λ (j : ℕ). alike x (row_oid s (get_or table j vacant))) (sym (eqb-true i n q)) ∙ h)
      go less false q = rw (less (omega (arith, eqb-false i n q)) h) (both (alike x (row_oid s (get_or table n vacant))))

  -- a row that is written changes none before it
  seen-kept : (row : Row) (count i : ℕ) → i ≤ count → seen_in s (set table count row) i x ≡ seen_in s table i x
  unfolding seen_in
  seen-kept row count zero l = refl
  seen-kept row count (suc i) l =
      rw (get_or-set_other table count i row vacant (λ (q : i ≡ count). omega arith), seen-kept row count i (omega arith))

  seen-set : (row : Row) (count : ℕ) → count < length table → seen_in s (set table count row) (suc count) x ≡ cond (alike x (row_oid s row)) true (seen_in s table count x)
  unfolding seen_in
  seen-set row count l = rw (get_or-set_same table count row vacant l, seen-kept row count count (omega arith))

pub none_in : (seen : List ℕ → Bool) → ((x : List ℕ) → seen x ≡ false) → (xs : List (List ℕ)) → some_in seen xs ≡ false
unfolding some_in
none_in seen h [] = refl
none_in seen h (x ∷ rest) = rw (h x, none_in seen h rest)

-- the first OID from `at` on
pub record Onward (s : List ℕ) (at end place next : ℕ) (o : List ℕ) : Type 0 where
  pub onward : (at ≤ place) × (place < next) × (next ≤ end)
  pub passed : strange_from paper s at end ≡ strange_from paper s place end
  pub first : strange_from paper s place end ≡ o ∷ strange_from paper s next end

module _ (s : List ℕ) (at end : ℕ) {r : Option Stranger} (a : Ahead paper s at end r) where
  pub ahead_none : r ≡ None → strange_from paper s at end ≡ []
  ahead_none q = go (subst (Ahead paper s at end) q a)
    where
      go : Ahead paper s at end None → strange_from paper s at end ≡ []
      go (none h) = h

  pub ahead-row : {place next : ℕ} {oid : Element} → r ≡ a_stranger place next oid → (row : Row) → row_oid s row ≡ contents_of s oid → Onward s at end place next (row_oid s row)
  ahead-row {place} {next} {oid} q row is = go (subst (Ahead paper s at end) q a)
    where
      go : Ahead paper s at end (a_stranger place next oid) → Onward s at end place next (row_oid s row)
      go (met x y z passed first) = record { onward = (x, y, z); passed = passed; first = rw is first }

-- OIDs with other last octets are not equal
pub unequal-last : (s : List ℕ) (own other : Row) → Numbered s own → Numbered s other → (other.last ≡ own.last → ⊥) → alike (row_oid s own) (row_oid s other) ≡ false
unequal-last s own other a b n =
    unequal-unlike (row_oid s own) (row_oid s other) λ q. n (b.last ∙ ap (key_from 0) (sym q) ∙ sym a.last)

module _ (s : List ℕ) (from end : ℕ) where
  -- The OIDs from `at` on are left. While the table has room, all before them are in it; else those from `rest` on are for
  -- another round.
  pub data Phase (table : List Row) (count rest at : ℕ) : Type 0 where
    filling :
        rest ≡ end
        → twice_in (strange_from paper s from end) ≡ (some_in (seen_in s table count) (strange_from paper s at end) || twice_in (strange_from paper s at end))
        → Phase table count rest at
    full :
        rest < end → from < rest → count ≡ 64
        → twice_in (strange_from paper s from end) ≡ (some_in (seen_in s table count) (strange_from paper s at end) || twice_in (strange_from paper s rest end))
        → Phase table count rest at

  pub record Listed (table : List Row) (count rest at : ℕ) : Type 0 where
    pub long : length table ≡ 64
    pub room : count ≤ 64
    pub far : from + count ≤ at
    pub numbered : (i : ℕ) → i < count → Numbered s (get_or table i vacant)
    pub phase : Phase table count rest at

  pub listed_start : Listed (replicate 64 vacant) 0 end from
  listed_start =
      record {
        long = refl;
        room = omega arith;
        far = omega arith;
        numbered = λ i l. absurd (omega arith);
        phase = filling refl (rw (none_in (seen_in s (replicate 64 vacant) 0) (seen_none s (replicate 64 vacant)) (strange_from paper s from end)));
      }

  module _ {table : List Row} {count rest at : ℕ} (p : Listed table count rest at) where
    pub listed-end : strange_from paper s at end ≡ [] → Compared paper s from end (record { twice = false; rest = rest })
    unfolding some_in twice_in
    listed-end h = go p.phase
      where
        go : Phase table count rest at → Compared paper s from end (record { twice = false; rest = rest })
        go (filling e q) =
            let past : strange_from paper s rest end ≡ [] = strange-none s rest end (beyond s (omega arith)) in
            record { is = q ∙ rw (h, past); left = λ l. absurd (omega arith) }
        go (full l b n q) = record { is = q ∙ rw h; left = λ _. (refl, b) }

    -- the next OID that is left
    module _ {place next : ℕ} {o : List ℕ} (m : Onward s at end place next o) where
      pub listed-twice : seen_in s table count o ≡ true → Compared paper s from end (record { twice = true; rest = end })
      unfolding some_in
      listed-twice t = record { is = go p.phase; left = λ l. absurd (omega arith) }
        where
          go : Phase table count rest at → twice_in (strange_from paper s from end) ≡ true
          go (filling e q) = q ∙ rw (m.passed ∙ m.first, t)
          go (full l b n q) = q ∙ rw (m.passed ∙ m.first, t)

      module _ (new : seen_in s table count o ≡ false) where
        some_left : some_in (seen_in s table count) (strange_from paper s at end) ≡ some_in (seen_in s table count) (strange_from paper s next end)
        unfolding some_in
        some_left = rw (m.passed ∙ m.first, new)

        -- the table has no room
        module _ (no : 64 ≤ count) where
          pub listed-full : rest ≡ end → Listed table count place next
          listed-full h = record { long = p.long; room = p.room; far = omega (arith, p.far, m.onward); numbered = p.numbered; phase = go p.phase }
            where
              go : Phase table count rest at → Phase table count place next
              go (filling e q) =
                  full (omega (arith, m.onward)) (omega (arith, p.far, m.onward)) (omega (arith, p.room))
                  (q ∙ rw (some_left, m.passed))
              go (full l b n q) = absurd (omega arith)

          pub listed-past : (rest ≡ end → ⊥) → Listed table count rest next
          listed-past h = record { long = p.long; room = p.room; far = omega (arith, p.far, m.onward); numbered = p.numbered; phase = go p.phase }
            where
              go : Phase table count rest at → Phase table count rest next
              go (filling e q) = absurd (h e)
              go (full l b n q) = full l b n (q ∙ rw some_left)

        pub listed-new : {row : Row} → count < 64 → row_oid s row ≡ o → Numbered s row → Listed (set table count row) (count + 1) rest next
        unfolding twice_in
        listed-new {row} l is good =
            record {
              long = rw length-set p.long;
              room = omega arith;
              far = omega (arith, p.far, m.onward);
              numbered = λ i m. each i m (eqb i count) refl;
              phase = go p.phase;
            }
          where
            fits : count < length table
            fits = omega (arith, p.long)

            each : (i : ℕ) → i < count + 1 → (t : Bool) → eqb i count ≡ t → Numbered s (get_or (set table count row) i vacant)
            each i m true q = rw (eqb-true i count q, get_or-set_same table count row vacant fits) good
            each i m false q =
                rw (get_or-set_other table count i row vacant (eqb-false i count q)) (p.numbered i (omega (arith, eqb-false i count q)))

            after : (x : List ℕ) → seen_in s (set table count row) (count + 1) x ≡ cond (alike x o) true (seen_in s table count x)
            after x = rw (add-one count) (seen-set s table x row count fits ∙ rw is)

            go : Phase table count rest at → Phase (set table count row) (count + 1) rest next
            go (filling e q) = filling e (q ∙ both)
              where
                or : (a b c : Bool) → (a || cond b true c) ≡ ((a || b) || c)
                or true b c = refl
                or false true c = refl
                or false false c = refl

                both : (some_in (seen_in s table count) (strange_from paper s at end) || twice_in (strange_from paper s at end)) ≡ (some_in (seen_in s (set table count row) (count + 1)) (strange_from paper s next end) || twice_in (strange_from paper s next end))
                both =
                    rw (some_left, m.passed ∙ m.first, some_more (seen_in s table count) (seen_in s (set table count row) (count + 1)) o after (strange_from paper s next end))
                    (or (some_in (seen_in s table count) (strange_from paper s next end)) (is_in o (strange_from paper s next end)) (twice_in (strange_from paper s next end)))
            go (full l' b n q) = absurd (omega arith)

-- rounds come to an end, and then no OID is left
pub round-less : (a b end : ℕ) → a < end → (b < end → a < b) → end - b < end - a
round-less a b end l h = go (ltb b end) refl
  where
    go : (t : Bool) → ltb b end ≡ t → end - b < end - a
    go true q = omega (arith, h (ltb-true b end q))
    go false q = omega (arith, ltb-false b end q)

pub round-end : (s : List ℕ) (t : Bool) (rest end : ℕ) → end ≤ rest → (t || twice_in (strange_from paper s rest end)) ≡ t
unfolding twice_in
round-end s t rest end l = rw (strange-none s rest end (beyond s l)) (go t)
  where
    go : (x : Bool) → (x || false) ≡ x
    go true = refl
    go false = refl
