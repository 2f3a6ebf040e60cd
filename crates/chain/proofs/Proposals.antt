-- The range of a proposal place by place, the places that it names, and what is decided of it.
use Prim.Native.Nat.{ℕ, zero, suc, ◌+◌, ◌*◌, ◌<◌, ◌≤◌}
use mathlib.Core.Path.{◌≡◌, refl, sym, ap, ◌∙◌}
use mathlib.Core.Bool.{Bool, true, false, ◌&&◌, ◌||◌}
use mathlib.Core.List.{List, [], ◌∷◌}
use mathlib.Core.Logic.{◌⊎◌, inl, inr, ⊎_elim}
use native.Mathlib.Omega.{arith}
use borrow.Author.Count.{below_more}
use borrow.Author.Tests.{ltb-true, lt-ltb, le-ltb, leb-true, le-leb, eqb-true, eqb-false, eq-eqb}
use lib.Dec.{leb, ltb, eqb}
use lib.ListN.{length, get_or, set, take, drop}
use lib.Seq.{get_or-set_same, get_or-set_other}
use Rattle.std.specs.List.{list_all}
use Rattle.usable.proofs.Booleans.{false-true, first, second, both_true}
use Rattle.usable.specs.Table.{verdict_in}
use Rattle.usable.proofs.RowLaws.{line_read, line-past}
use Rattle.chain.specs.Given.{Decides, yes, no, InRange, Named, Vouching}
use Rattle.chain.proofs.Cells.{below_or_not}
use Rattle.chain.specs.Proposal.{inside, range_good}

-- what is decided, either way
pub so : {A : Type 0} {b : Bool} → Decides A b → b ≡ true → A
so (yes a) e = a
so (no f) e = false-true e

pub not_so : {A : Type 0} {b : Bool} → Decides A b → b ≡ false → A → ⊥
not_so (yes a) e = false-true (sym e)
not_so (no f) e = f

pub both_ways : {A B : Type 0} {b : Bool} → (A → B) → (B → A) → Decides A b → Decides B b
both_ways f g (yes a) = yes (f a)
both_ways f g (no h) = no (λ b. h (g b))

module _ (n : ℕ) where
  pub inside_of : (c : List ℕ) → inside n c ≡ list_all (λ p. ltb p n) c
  unfolding inside
  inside_of [] = refl
  inside_of (p ∷ c) = ap (λ t. ltb p n && t) (inside_of c)

  inside-told : (c : List ℕ) → inside n c ≡ true → (i : ℕ) → i < length c → get_or c i 0 < n
  unfolding inside
  inside-told [] e i h = absurd (omega arith)
  inside-told (p ∷ c) e zero h = ltb-true p n (first (ltb p n) _ e)
  inside-told (p ∷ c) e (suc i) h = inside-told c (second (ltb p n) _ e) i (omega arith)

  pub inside-all : (c : List ℕ) → ((i : ℕ) → i < length c → get_or c i 0 < n) → inside n c ≡ true
  unfolding inside
  inside-all [] below = refl
  inside-all (p ∷ c) below = rw (lt-ltb p n (below 0 (omega arith))) (inside-all c (λ i h. below (suc i) (omega arith)))

  pub inside-not : (c : List ℕ) (i : ℕ) → i < length c → n ≤ get_or c i 0 → inside n c ≡ false
  unfolding inside
  inside-not [] i h k = absurd (omega arith)
  inside-not (p ∷ c) zero h k = rw (le-ltb p n k)
  inside-not (p ∷ c) (suc i) h k = rw (inside-not c i (omega arith) k) (go (ltb p n))
    where
      go : (t : Bool) → (t && false) ≡ false
      go true = refl
      go false = refl

  pub in-range : (c : List ℕ) → range_good n c ≡ true → InRange n c
  unfolding range_good
  in-range c e =
      let rest = second (leb 2 (length c)) _ e in
      record {
        two = leb-true 2 (length c) (first (leb 2 (length c)) _ e);
        most = leb-true (length c) 96 (first (leb (length c) 96) _ rest);
        inside = inside-told c (second (leb (length c) 96) _ rest);
      }

  pub range-good : (c : List ℕ) → InRange n c → range_good n c ≡ true
  unfolding range_good
  range-good c r = rw (le-leb 2 (length c) r.two, le-leb (length c) 96 r.most) (inside-all c r.inside)

  pub range-more : {m : ℕ} {c : List ℕ} → n ≤ m → InRange n c → InRange m c
  range-more few r = record { two = r.two; most = r.most; inside = λ i h. omega (arith, r.inside i h) }

-- one slot more is 1
module _ (near : List ℕ) (u : ℕ) (room : u < length near) where
  one-set : (p : ℕ) → get_or near p 0 ≡ 1 → get_or (set near u 1) p 0 ≡ 1
  one-set p e = go (eqb p u) refl
    where
      go : (t : Bool) → eqb p u ≡ t → get_or (set near u 1) p 0 ≡ 1
      go true q = let same = eqb-true p u q in rw same (get_or-set_same near u 1 0 room)
      go false q = get_or-set_other near u p 1 0 (eqb-false p u q) ∙ e

  kept_set :
      (before : List ℕ) → ((p : ℕ) → (get_or near p 0 ≡ 1) ⊎ (get_or near p 0 ≡ get_or before p 0)) → (p : ℕ)
      → (get_or (set near u 1) p 0 ≡ 1) ⊎ (get_or (set near u 1) p 0 ≡ get_or before p 0)
  kept_set before kept p = ⊎_elim (λ e. inl (one-set p e)) (λ e. other e (eqb p u) refl) (kept p)
    where
      other :
          get_or near p 0 ≡ get_or before p 0 → (t : Bool) → eqb p u ≡ t
          → (get_or (set near u 1) p 0 ≡ 1) ⊎ (get_or (set near u 1) p 0 ≡ get_or before p 0)
      other e true q = let same = eqb-true p u q in inl (rw same (get_or-set_same near u 1 0 room))
      other e false q = inr (get_or-set_other near u p 1 0 (eqb-false p u q) ∙ e)

-- the first places are marked
pub record Marking (c before near : List ℕ) (i : ℕ) : Type 0 where
  pub kept : (p : ℕ) → (get_or near p 0 ≡ 1) ⊎ (get_or near p 0 ≡ get_or before p 0)
  pub named : (k : ℕ) → k < i → get_or near (get_or c k 0) 0 ≡ 1

pub marking-start : (c before : List ℕ) → Marking c before before 0
marking-start c before = record { kept = λ p. inr refl; named = λ k h. absurd (omega arith) }

pub marking-all : {c before near : List ℕ} {i : ℕ} → Marking c before near i → length c ≤ i → Named c before near
marking-all m all = record { kept = m.kept; named = λ k h. m.named k (omega arith) }

-- one place more
pub marking-set :
    {c before near : List ℕ} (i : ℕ) → Marking c before near i → get_or c i 0 < length near → Marking c before (set near (get_or c i 0) 1) (i + 1)
marking-set {c} {before} {near} i m room =
    record {
      kept = kept_set near (get_or c i 0) room before m.kept;
      named = below_more _ i (λ k h. one-set near (get_or c i 0) room (get_or c k 0) (m.named k h)) (get_or-set_same near (get_or c i 0) 1 0 room);
    }

-- the first anchors that wait are asked
pub record Asking (n : ℕ) (table : List ℕ) (lists : List Bool) (before near : List ℕ) (u : ℕ) : Type 0 where
  pub kept : (p : ℕ) → (get_or near p 0 ≡ 1) ⊎ (get_or near p 0 ≡ get_or before p 0)
  pub heard :
      (w : ℕ) → w < u → (v : ℕ) → v < n → get_or lists v false ≡ true → verdict_in n table w v ≡ true → get_or before w 0 ≡ 2 → get_or near w 0 ≡ 1

pub asking-start : (n : ℕ) (table : List ℕ) (lists : List Bool) (before : List ℕ) → Asking n table lists before before 0
asking-start n table lists before = record { kept = λ p. inr refl; heard = λ w h. absurd (omega arith) }

pub asking-all :
    {n : ℕ} {table : List ℕ} {lists : List Bool} {before near : List ℕ} {u : ℕ} → Asking n table lists before near u
    → n ≤ u → Vouching n table lists before near
asking-all a all = record { kept = a.kept; heard = λ w v h. a.heard w (omega arith) v }

-- one anchor more, which is heard or not
module _ {n : ℕ} {table : List ℕ} {lists : List Bool} {before near : List ℕ} (u : ℕ) (a : Asking n table lists before near u) where
  pub asking-set : u < length near → Asking n table lists before (set near u 1) (u + 1)
  asking-set room =
      record {
        kept = kept_set near u room before a.kept;
        heard = below_more _ u (λ w h v k l e two. one-set near u room w (a.heard w h v k l e two))
            (λ v k l e two. get_or-set_same near u 1 0 room);
      }

  pub asking-left :
      (get_or before u 0 ≡ 2 → (v : ℕ) → v < n → get_or lists v false ≡ true → verdict_in n table u v ≡ true → ⊥) → Asking n table lists before near (u + 1)
  asking-left none = record { kept = a.kept; heard = below_more _ u a.heard (λ v k l e two. absurd (none two v k l e)) }

-- of the octets before v none is 1 where a CRL stands
abbrev pub Unheard : List ℕ → List Bool → ℕ → Type 0
Unheard line lists v = (w : ℕ) → w < v → get_or line w 0 ≡ 1 → get_or lists w false ≡ true → ⊥

pub unheard-more :
    (line : List ℕ) (lists : List Bool) (heard : Bool) (v : ℕ) → (heard ≡ false → Unheard line lists v)
    → (heard || (eqb (get_or line v 0) 1 && get_or lists v false)) ≡ false → Unheard line lists (v + 1)
unheard-more line lists heard v before = go heard before
  where
    go :
        (b : Bool) → (b ≡ false → Unheard line lists v) → (b || (eqb (get_or line v 0) 1 && get_or lists v false)) ≡ false
        → Unheard line lists (v + 1)
    go true h e = false-true (sym e)
    go false h e =
        below_more _ v (h refl) (λ one list. false-true (sym e ∙ both_true _ _ (eq-eqb (get_or line v 0) 1 one) list))

pub unheard-all :
    (table : List ℕ) (n u : ℕ) (line : List ℕ) (lists : List Bool) {v : ℕ} → line ≡ take n (drop (u * n) table) → length line ≤ v → Unheard line lists v
    → (w : ℕ) → w < n → get_or lists w false ≡ true → verdict_in n table u w ≡ true → ⊥
unfolding verdict_in
unheard-all table n u line lists is all none w h list e =
    let one : get_or table (u * n + w) 0 ≡ 1 = eqb-true (get_or table (u * n + w) 0) 1 e in
    ⊎_elim (λ (k : w < length line). none w (omega arith) (line_read table n u w is h ∙ one) list) (λ (k : length line ≤ w). line-past table n u w is h k one)
    (below_or_not w (length line))
