-- What stores leave: octets set one after the other, a copy, and a part lent and written that follows what was written before.
use Prim.Native.Nat.{ℕ, suc, ◌+◌, ◌-◌, ◌/◌, ◌%◌, ◌≤◌, ◌<◌}
use mathlib.Core.Path.{◌≡◌, refl, ap, sym, ◌∙◌}
use mathlib.Core.List.{List, [], ◌∷◌, ◌++◌, append_assoc, append-nil}
use native.Mathlib.Omega.{arith}
use borrow.Author.Rules.{part_to_end}
use borrow.Rule.Slice.PartMut.{put_mid}
use lib.ListN.{length, get_or, set, take, drop, length-drop, drop_of_length-le}
use lib.Seq.{drop-cons, take-add, take-suc, append_snoc, set_at, take_at, drop_at, drop-drop, length-take-le}

pub set-two : (l : List ℕ) (a b : ℕ) → 2 ≤ length l → set (set l 0 a) 1 b ≡ a ∷ b ∷ drop 2 l
set-two [] a b h = absurd (omega arith)
set-two (x ∷ []) a b h = absurd (omega arith)
set-two (x ∷ y ∷ l) a b h = refl

pub set-four : (l : List ℕ) (a b c d : ℕ) → 4 ≤ length l → set (set (set (set l 0 a) 1 b) 2 c) 3 d ≡ a ∷ b ∷ c ∷ d ∷ drop 4 l
set-four [] a b c d h = absurd (omega arith)
set-four (x ∷ []) a b c d h = absurd (omega arith)
set-four (x ∷ y ∷ []) a b c d h = absurd (omega arith)
set-four (x ∷ y ∷ z ∷ []) a b c d h = absurd (omega arith)
set-four (x ∷ y ∷ z ∷ w ∷ l) a b c d h = refl

-- the last octet of a number, as the definition and as the code have it
pub last-octet : (n : ℕ) → n % 256 ≡ n / 1 % 256
last-octet n = omega arith

pub copy-next :
    (from old : List ℕ) (i : ℕ) → i < length from → i < length old
    → set (take i from ++ drop i old) i (get_or from i 0) ≡ take (suc i) from ++ drop (suc i) old
copy-next from old i h g =
    let some : i ≤ length from = omega arith in
    ap (λ (l : List ℕ). set (take i from ++ l) i (get_or from i 0)) (drop-cons old i 0 g)
    ∙ set_at (take i from) (get_or old i 0) (drop (suc i) old) (get_or from i 0) i (length-take-le i from some)
    ∙ sym (ap (λ (l : List ℕ). l ++ drop (suc i) old) (take-suc from i 0 h) ∙ append_snoc (take i from) (get_or from i 0) (drop (suc i) old))

-- a part of k octets from `a` on, written from the other list, after those before it
pub copy-part :
    (from old l ys : List ℕ) (a k : ℕ) → a ≤ length from → l ≡ take a from ++ drop a old → ys ≡ take k (drop a from)
    → put_mid a k l ys ≡ take (a + k) from ++ drop (a + k) old
copy-part from old l ys a k some before after =
    let done = take a from in
    let long = length-take-le a from some in
    let first : take a l ≡ done = ap (take a) before ∙ take_at done (drop a old) a long in
    let rest : drop k (drop a l) ≡ drop (a + k) old =
    ap (λ (t : List ℕ). drop k (drop a t)) before ∙ ap (drop k) (drop_at done (drop a old) a long) ∙ drop-drop k a old in
    rw (first, rest, after, take-add a k from) (sym (append_assoc done (take k (drop a from)) (drop (a + k) old)))

-- `done` stands before the part, and what the part held from `m` on is as it was
pub put_next :
    (old done part l ys : List ℕ) (a m : ℕ) → length done ≡ a → l ≡ done ++ drop a old
    → ys ≡ part ++ drop m (take (length l - a) (drop a l))
    → put_mid a (length l - a) l ys ≡ (done ++ part) ++ drop (a + m) old
put_next old done part l ys a m here before after =
    let left : length (drop a l) ≤ length l - a = rw length-drop (omega arith) in
    let none : drop (length l - a) (drop a l) ≡ [] = drop_of_length-le (drop a l) left in
    let rest : drop a l ≡ drop a old = ap (drop a) before ∙ drop_at done (drop a old) a here in
    let first : take a l ≡ done = ap (take a) before ∙ take_at done (drop a old) a here in
    let same : ys ≡ part ++ drop (a + m) old =
    after ∙ ap (λ (t : List ℕ). part ++ drop m t) (part_to_end l a ∙ rest) ∙ ap (λ (t : List ℕ). part ++ t) (drop-drop m a old) in
    rw (none, append-nil, first, same) (sym (append_assoc done part (drop (a + m) old)))
