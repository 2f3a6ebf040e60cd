-- A table that is filled from its start: what was set stays, and the slots behind still hold the default.
use Prim.Native.Nat.{ℕ, zero, suc, ◌+◌, ◌<◌, ◌≤◌}
use mathlib.Core.Path.{◌≡◌, refl, ◌∙◌}
use mathlib.Core.List.{List}
use mathlib.Core.Logic.{⊎_elim}
use native.Mathlib.Nat.{eq-or-lt_of_le}
use native.Mathlib.Omega.{arith}
use lib.ListN.{length, get_or, set, replicate}
use lib.Seq.{get_or-set_same, get_or-set_other}

-- a table of nothing but defaults, and beyond its end
pub empty-slots : {A : Type 0} {d : A} (n c : ℕ) → get_or (replicate n d) c d ≡ d
empty-slots zero c = refl
empty-slots (suc n) zero = refl
empty-slots (suc n) (suc c) = empty-slots n c

module _ {A : Type 0} (d : A) (f : ℕ → A) (l : List A) (p : ℕ) where
  -- the slots before p are those of f, and the others the default
  pub record Upto : Type 0 where
    pub before : (c : ℕ) → c < p → get_or l c d ≡ f c
    pub behind : (c : ℕ) → p ≤ c → get_or l c d ≡ d

module _ {A : Type 0} {d : A} {f : ℕ → A} {l : List A} {p : ℕ} where
  -- one slot more, set or left
  pub slot-set : {v : A} → Upto d f l p → p < length l → v ≡ f p → Upto d f (set l p v) (p + 1)
  slot-set {v} u room e =
      record {
        before = λ c h.
            ⊎_elim (λ (q : c ≡ p). rw q (get_or-set_same l p v d room ∙ e))
            (λ (q : c < p). get_or-set_other l p c v d (λ (w : c ≡ p). omega arith) ∙ u.before c q) (eq-or-lt_of_le (least c h));
        behind = λ c h. get_or-set_other l p c v d (λ (w : c ≡ p). omega arith) ∙ u.behind c (omega arith);
      }
    where
      least : (c : ℕ) → c < p + 1 → c ≤ p
      least c h = omega arith

  pub slot-left : Upto d f l p → d ≡ f p → Upto d f l (p + 1)
  slot-left u e =
      record {
        before = λ c h.
            ⊎_elim (λ (q : c ≡ p). rw q (u.behind p (omega arith) ∙ e)) (λ (q : c < p). u.before c q) (eq-or-lt_of_le (least c h));
        behind = λ c h. u.behind c (omega arith);
      }
    where
      least : (c : ℕ) → c < p + 1 → c ≤ p
      least c h = omega arith
