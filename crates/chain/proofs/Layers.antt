-- A table of what is near that grows link by link: what was near stays so, and the links that sign a usable place are so too.
use Prim.Native.Nat.{ℕ, ◌+◌, ◌*◌, ◌<◌, ◌≤◌}
use mathlib.Core.Path.{◌≡◌, refl, sym, ◌∙◌}
use mathlib.Core.Bool.{Bool, true, false, cond}
use mathlib.Core.List.{List}
use mathlib.Core.Logic.{◌⊎◌, inl, inr, ⊎_elim}
use native.Mathlib.Nat.{eq-or-lt_of_le}
use native.Mathlib.Omega.{arith}
use borrow.Author.Tests.{eqb-true, eqb-false}
use lib.Dec.{eqb}
use lib.ListN.{length, get_or, set}
use lib.Seq.{get_or-set_same, get_or-set_other}
use Rattle.usable.specs.Rows.{led_of}
use Rattle.chain.specs.Near.{marked_of, Near, Wider}
use Rattle.usable.specs.Table.{verdict_in}
use Rattle.usable.proofs.Booleans.{false-true}

-- a mark becomes 1, or stays
marked-or-kept : (mark : ℕ) → (marked_of mark ≡ 1) ⊎ (marked_of mark ≡ mark)
unfolding marked_of
marked-or-kept mark = go (eqb mark 2)
  where
    go : (a : Bool) → (cond a 1 mark ≡ 1) ⊎ (cond a 1 mark ≡ mark)
    go true = inl refl
    go false = inr refl

-- a link is marked
link-marked : {mark : ℕ} → mark ≡ 2 → marked_of mark ≡ 1
unfolding marked_of
link-marked e = rw e

module _ (n : ℕ) (table roles before more : List ℕ) where
  -- a link that has verdict 1 for a usable link or signer is near
  abbrev Signs : ℕ → ℕ → Type 0
  Signs u v = led_of (get_or roles v 0) ≡ true → verdict_in n table u v ≡ true → get_or before u 0 ≡ 2 → get_or more u 0 ≡ 1

  -- the signers of the places before v are marked, and of v those before u
  pub record Layer (v u : ℕ) : Type 0 where
    pub kept : (p : ℕ) → (get_or more p 0 ≡ 1) ⊎ (get_or more p 0 ≡ get_or before p 0)
    pub done : (w x : ℕ) → w < n → x < v → Signs w x
    pub part : (w : ℕ) → w < u → Signs w v

pub layer-start : (n : ℕ) (table roles before : List ℕ) → Layer n table roles before before 0 0
layer-start n table roles before =
    record { kept = λ p. inr refl; done = λ w x k h. absurd (omega arith); part = λ w h. absurd (omega arith) }

module _ {n : ℕ} {table roles before more : List ℕ} {v u : ℕ} where
  -- one signer more is marked
  pub layer-marked : Layer n table roles before more v u → u < length more → Layer n table roles before (set more u 1) v (u + 1)
  layer-marked l room =
      record {
        kept = λ p. ⊎_elim (λ (q : p ≡ u). inl (rw q here)) (λ q. rw q.1 (l.kept p)) (slot p);
        done = λ w x k h a b t. one w (l.done w x k h a b t);
        part = λ w h a b t.
            ⊎_elim (λ (q : w ≡ u). rw q here) (λ (q : w < u). one w (l.part w q a b t)) (eq-or-lt_of_le (least w h));
      }
    where
      least : (w : ℕ) → w < u + 1 → w ≤ u
      least w h = omega arith

      here : get_or (set more u 1) u 0 ≡ 1
      here = get_or-set_same more u 1 0 room

      slot : (p : ℕ) → (p ≡ u) ⊎ ((p ≡ u → ⊥) × (get_or (set more u 1) p 0 ≡ get_or more p 0))
      slot p = go (eqb p u) refl
        where
          go : (b : Bool) → eqb p u ≡ b → (p ≡ u) ⊎ ((p ≡ u → ⊥) × (get_or (set more u 1) p 0 ≡ get_or more p 0))
          go true q = inl (eqb-true p u q)
          go false q = inr (eqb-false p u q, get_or-set_other more u p 1 0 (eqb-false p u q))

      one : (w : ℕ) → get_or more w 0 ≡ 1 → get_or (set more u 1) w 0 ≡ 1
      one w m = ⊎_elim (λ (q : w ≡ u). rw q here) (λ q. q.1 ∙ m) (slot w)

  -- or none, since it is no link that waits, or has no verdict 1
  pub layer-passed :
      Layer n table roles before more v u → (verdict_in n table u v ≡ true → get_or before u 0 ≡ 2 → ⊥) → Layer n table roles before more v (u + 1)
  layer-passed l none =
      record {
        kept = l.kept;
        done = l.done;
        part = λ w h a b t.
            ⊎_elim (λ (q : w ≡ u). absurd (none (rw q at b) (rw q at t))) (λ (q : w < u). l.part w q a b t) (eq-or-lt_of_le (least w h));
      }
    where
      least : (w : ℕ) → w < u + 1 → w ≤ u
      least w h = omega arith

  -- one place more, all of its signers asked
  pub layer-done : u ≡ n → Layer n table roles before more v u → Layer n table roles before more (v + 1) 0
  layer-done all l =
      record {
        kept = l.kept;
        done = λ w x k h.
            ⊎_elim (λ (q : x ≡ v). rw q (l.part w (omega arith))) (λ (q : x < v). l.done w x k q) (eq-or-lt_of_le (least x h));
        part = λ w h. absurd (omega arith);
      }
    where
      least : (x : ℕ) → x < v + 1 → x ≤ v
      least x h = omega arith

module _ {n : ℕ} {table roles before more : List ℕ} {v : ℕ} where
  -- or none, since it is not usable
  pub layer-left :
      Layer n table roles before more v 0 → led_of (get_or roles v 0) ≡ false → Layer n table roles before more (v + 1) 0
  layer-left l unled =
      record {
        kept = l.kept;
        done = λ w x k h.
            ⊎_elim (λ (q : x ≡ v). λ a b t. false-true (sym unled ∙ (rw q at a))) (λ (q : x < v). l.done w x k q)
            (eq-or-lt_of_le (least x h));
        part = λ w h. absurd (omega arith);
      }
    where
      least : (x : ℕ) → x < v + 1 → x ≤ v
      least x h = omega arith

  pub layer-end : Layer n table roles before more v 0 → n ≤ v → Near n table roles before more
  layer-end l all = record { kept = λ p h. l.kept p; signers = λ u x hu hx. l.done u x hu (omega arith) }

-- an octet that is not 1 is no verdict 1
pub no-verdict : (n : ℕ) (table : List ℕ) (u v : ℕ) {octet : ℕ} → octet ≡ get_or table (u * n + v) 0 → (octet ≡ 1 → ⊥) → verdict_in n table u v ≡ true → ⊥
unfolding verdict_in
no-verdict n table u v e not-one b = not-one (e ∙ eqb-true (get_or table (u * n + v) 0) 1 b)

-- a table in which all links are marked, and one of a layer more
pub links-wider :
    (n : ℕ) (table : List ℕ) (round : ℕ) (roles before near : List ℕ)
    → ((p : ℕ) → p < n → get_or near p 0 ≡ marked_of (get_or before p 0)) → Wider n table round roles before near
links-wider n table round roles before near is =
    record {
      layer = record {
        kept = λ p h. rw (is p h) (marked-or-kept (get_or before p 0));
        signers = λ u v hu hv a b t. is u hu ∙ link-marked t;
      };
      links = λ last u h t. is u h ∙ link-marked t;
    }

pub layer-wider :
    {n : ℕ} {table : List ℕ} {round : ℕ} {roles before near : List ℕ} → (round ≡ 4 → ⊥) → Near n table roles before near
    → Wider n table round roles before near
layer-wider not_last l = record { layer = l; links = λ last. absurd (not_last last) }
