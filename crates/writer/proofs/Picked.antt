-- The places of items to write, one by one.
use Prim.Native.Nat.{ℕ, ◌+◌, ◌*◌, ◌≤◌, ◌<◌}
use mathlib.Core.Path.{◌≡◌, refl, ap, sym, ◌∙◌}
use mathlib.Core.List.{List, [], ◌∷◌, ◌++◌, append_assoc, append-nil}
use native.Mathlib.Omega.{arith}
use lib.ListN.{length, get_or, take, drop, length-append, length-take, length-drop}
use Rattle.std.proofs.lemmas.List.{take_more, take-append-drop}
use Rattle.image.specs.Items.{Item, packed, index_bytes, entry_bytes}
use Rattle.image.specs.Index.{entry_in, item_at}
use Rattle.writer.specs.Picking.{picked}

-- a list that is not empty is its first number and the rest
pub first_rest : (l : List ℕ) → (length l ≡ 0 → ⊥) → l ≡ get_or l 0 0 ∷ drop 1 l
first_rest [] some = absurd (some refl)
first_rest (x ∷ l) some = refl

-- the first places, and one more
picked-append : (s a b : List ℕ) → picked s (a ++ b) ≡ picked s a ++ picked s b
unfolding picked
picked-append s [] b = refl
picked-append s (x ∷ a) b = rw (picked-append s a b) refl

packed-append : (a b : List Item) → packed (a ++ b) ≡ packed a ++ packed b
unfolding packed
packed-append [] b = refl
packed-append (x ∷ a) b = rw (packed-append a b) (sym (append_assoc x.bytes (packed a) (packed b)))

index-append : (version offset : ℕ) (a b : List Item) →
    index_bytes version offset (a ++ b) ≡ index_bytes version offset a ++ index_bytes version (offset + length (packed a)) b
unfolding index_bytes packed
index-append version offset [] b = ap (λ (n : ℕ). index_bytes version n b) (omega arith)
index-append version offset (x ∷ a) b =
    let size : ℕ = length x.bytes in
    let entry = entry_bytes version x.kind x.flags size offset x.first x.second in
    let sum : offset + size + length (packed a) ≡ offset + length (x.bytes ++ packed a) = simp length-append (omega arith) in
    rw (index-append version (offset + size) a b, sum) (sym (append_assoc entry (index_bytes version (offset + size) a) _))

module _ (s l : List ℕ) (i : ℕ) (h : i < length l) where
  picked-more : picked s (take (i + 1) l) ≡ picked s (take i l) ++ item_at s (entry_in s (get_or l i 0)) ∷ []
  unfolding picked
  picked-more = rw (take_more l i 0 h) (picked-append s (take i l) (get_or l i 0 ∷ []))

  pub packed-more : packed (picked s (take (i + 1) l)) ≡ packed (picked s (take i l)) ++ (item_at s (entry_in s (get_or l i 0))).bytes
  unfolding packed
  packed-more = rw (picked-more, packed-append, append-nil) refl

  pub index-more : (version : ℕ) →
      let e = entry_in s (get_or l i 0) in
      index_bytes version 0 (picked s (take (i + 1) l))
      ≡ index_bytes version 0 (picked s (take i l))
      ++ entry_bytes version e.kind e.flags (length (item_at s e).bytes) (length (packed (picked s (take i l)))) e.first e.second
  unfolding index_bytes item_at
  index-more version =
      let sum : length (packed (picked s (take i l))) ≡ 0 + length (packed (picked s (take i l))) = omega arith in
      rw (picked-more, index-append, append-nil, ← sum) refl

  -- the octets of the first places are not more than those of all
  pub packed_within : length (packed (picked s (take (i + 1) l))) ≤ length (packed (picked s l))
  packed_within =
      let all : picked s l ≡ picked s (take (i + 1) l) ++ picked s (drop (i + 1) l) =
      ap (picked s) (sym (take-append-drop (i + 1) l)) ∙ picked-append s (take (i + 1) l) (drop (i + 1) l) in
      rw (all, packed-append, length-append) (omega arith)

-- how many octets the items can have
pub picked-few : (s l : List ℕ) → length (packed (picked s l)) ≤ length s * length l
unfolding picked packed item_at
picked-few s [] = omega arith
picked-few s (x ∷ l) =
    let e = entry_in s x in
    let bytes : List ℕ = take e.length (drop e.offset s) in
    let one : length bytes ≤ length s = simp (length-take, length-drop) (omega arith) in
    let rest = picked-few s l in
    let all = length-append bytes (packed (picked s l)) in
    omega (arith, one, rest, all)
