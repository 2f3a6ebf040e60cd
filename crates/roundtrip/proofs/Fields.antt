-- A number in k octets is read where it was written, and written again it is the octets that it was read from.
use mathlib.Core.Path.{◌≡◌, sym, ◌∙◌, ap}
use mathlib.Core.List.{List, [], ◌∷◌, ◌++◌}
use Prim.Native.Nat.{ℕ, suc, ◌+◌, ◌^◌, ◌≤◌, ◌<◌}
use native.Mathlib.Nat.{mod-eq_of_lt}
use native.Mathlib.Omega.{arith}
use lib.ListN.{length, get_or, take, drop, length-drop}
use lib.Seq.{take-add, drop-drop, drop_at, take_at, length-take-le}
use Rattle.octets.specs.Octets.{Octets, no-octet, octet, number, big}
use Rattle.tree.proofs.Numbers.{length-big, number-big, big-number, octets-take, octets-drop}
use Rattle.image.specs.Index.{field}

-- what stands behind a part that starts at an offset
pub drop-next : (s a b : List ℕ) (at n : ℕ) → drop at s ≡ a ++ b → length a ≡ n → drop (at + n) s ≡ b
drop-next s a b at n e l = sym (drop-drop n at s) ∙ ap (drop n) e ∙ drop_at a b n l

-- two parts, one behind the other
pub join : (t : List ℕ) (at k m : ℕ) → take k (drop at t) ++ take m (drop (at + k) t) ≡ take (k + m) (drop at t)
join t at k m = ap (λ (l : List ℕ). take k (drop at t) ++ take m l) (sym (drop-drop k at t)) ∙ sym (take-add k m (drop at t))

pub field-drop : (s : List ℕ) (at i k : ℕ) → field s (at + i) k ≡ field (drop at s) i k
unfolding field
field-drop s at i k = ap (λ (t : List ℕ). number (take k t)) (sym (drop-drop i at s))

pub field-big : (p q : List ℕ) (at k n : ℕ) → length p ≡ at → n < 256 ^ k → field (p ++ (big k n ++ q)) at k ≡ n
unfolding field
field-big p q at k n l h =
    ap (λ (t : List ℕ). number (take k t)) (drop_at p (big k n ++ q) at l) ∙ ap number (take_at (big k n) q k (length-big k n))
    ∙ number-big k n ∙ mod-eq_of_lt h

pub big-field : {s : List ℕ} → Octets s → (at k : ℕ) → at + k ≤ length s → big k (field s at k) ≡ take k (drop at s)
unfolding field
big-field {s} o at k h =
    big-number k (octets-take k (octets-drop at o)) (length-take-le k (drop at s) (omega (arith, length-drop at s)))

-- the number in one octet is below 256, there or not
pub field-octet : {s : List ℕ} → Octets s → (at : ℕ) → field s at 1 < 256
unfolding field number
field-octet o at = go (octets-drop at o)
  where
    go : {t : List ℕ} → Octets t → number (take 1 t) < 256
    go no-octet = omega arith
    go (octet h rest) = omega (arith, h)

-- a list of octets, each known by its place
pub each-octet : (s : List ℕ) → ((i : ℕ) → get_or s i 0 < 256) → Octets s
each-octet [] small = no-octet
each-octet (o ∷ rest) small = octet (small 0) (each-octet rest (λ i. small (suc i)))
