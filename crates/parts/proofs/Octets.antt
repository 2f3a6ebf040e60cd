-- Going to a member adds the octets encoded before it, so at the offset of a place the octets of its tree stand in the item.
use Prim.Native.Nat.{ℕ, zero, suc, ◌+◌}
use mathlib.Core.Path.{◌≡◌, refl, sym, subst, ◌∙◌}
use mathlib.Core.List.{List, [], ◌∷◌, ◌++◌, append_assoc, append-nil}
use native.Mathlib.Omega.{arith}
use lib.ListN.{length, take, drop, length-append}
use Rattle.tree.specs.Tree.{Tree, leaf, node, Trees, none, more, encoded, encoded_all, contents_of, header_of}
use Rattle.tree.proofs.Theorems.{step-next}
use Rattle.tree.proofs.Members.{part_at}
use Rattle.tree.proofs.Parts.{encoded-parts}
use Rattle.parts.specs.Places.{Place, At, Nowhere, numbered, member_at, along, place_in}

record Around (item : List ℕ) (tree : Tree) (at : ℕ) : Type 0 where
  before : List ℕ
  behind : List ℕ
  whole : before ++ encoded tree ++ behind ≡ item
  start : length before ≡ at

abbrev Lies : List ℕ → Place → Type 0
Lies item Nowhere = Unit {0}
Lies item (At tree at) = Around item tree at

module _ (item : List ℕ) where
  numbered-lies :
      (trees : Trees) (k from : ℕ) (before behind : List ℕ) → before ++ encoded_all trees ++ behind ≡ item → length before ≡ from
      → Lies item (numbered trees k from)
  unfolding numbered encoded_all
  numbered-lies none k from before behind whole start = tt
  numbered-lies (more tree trees) zero from before behind whole start =
      record { before = before; behind = encoded_all trees ++ behind; whole = sym (seam tree trees) ∙ whole; start = start }
    where
      seam : (x : Tree) (xs : Trees) → before ++ (encoded x ++ encoded_all xs) ++ behind ≡ before ++ encoded x ++ (encoded_all xs ++ behind)
      seam x xs = simp append_assoc
  numbered-lies (more tree trees) (suc k) from before behind whole start =
      numbered-lies trees k (from + length (encoded tree)) (before ++ encoded tree) behind
      (sym (step-next before behind tree trees) ∙ whole) (omega (arith, length-append before (encoded tree)))

  member-lies : (place : Place) (k : ℕ) → Lies item place → Lies item (member_at place k)
  unfolding member_at contents_of
  member-lies Nowhere k l = tt
  member-lies (At (leaf tag c) at) k l = tt
  member-lies (At (node tag members) at) k l =
      let x = node tag members in
      numbered-lies members k (at + length (header_of x)) (l.before ++ header_of x) l.behind
      (opened l.before l.behind ∙ l.whole) (omega (arith, length-append l.before (header_of x), l.start))
    where
      opened :
          (before behind : List ℕ)
          → (before ++ header_of (node tag members)) ++ encoded_all members ++ behind ≡ before ++ encoded (node tag members) ++ behind
      opened before behind = rw (encoded-parts (node tag members)) (simp append_assoc)

  along-lies : (path : List ℕ) (place : Place) → Lies item place → Lies item (along place path)
  unfolding along
  along-lies [] place l = l
  along-lies (k ∷ path) place l = along-lies path (member_at place k) (member-lies place k l)

  whole-at : (tree : Tree) (at : ℕ) → Around item tree at → take (length (encoded tree)) (drop at item) ≡ encoded tree
  whole-at tree at l = go l.before l.behind l.whole l.start
    where
      go :
          (before behind : List ℕ) → before ++ encoded tree ++ behind ≡ item → length before ≡ at
          → take (length (encoded tree)) (drop at item) ≡ encoded tree
      go before behind whole start = rw (← whole, ← start) (part_at before (encoded tree) behind (length (encoded tree)) refl)

  contents-at :
      (tree : Tree) (at : ℕ) → Around item tree at
      → take (length (contents_of tree)) (drop (at + length (header_of tree)) item) ≡ contents_of tree
  contents-at tree at l = go l.before l.behind l.whole l.start
    where
      opened :
          (before behind : List ℕ) → (before ++ header_of tree) ++ contents_of tree ++ behind ≡ before ++ encoded tree ++ behind
      opened before behind = rw (encoded-parts tree) (simp append_assoc)

      go :
          (before behind : List ℕ) → before ++ encoded tree ++ behind ≡ item → length before ≡ at
          → take (length (contents_of tree)) (drop (at + length (header_of tree)) item) ≡ contents_of tree
      go before behind whole start =
          let same : (before ++ header_of tree) ++ contents_of tree ++ behind ≡ item = opened before behind ∙ whole in
          let from : length (before ++ header_of tree) ≡ at + length (header_of tree) = omega (arith, length-append before (header_of tree)) in
          rw (← same, ← from) (part_at (before ++ header_of tree) (contents_of tree) behind (length (contents_of tree)) refl)

  pub octets-at :
      (root : Tree) (path : List ℕ) (tree : Tree) (at : ℕ) → encoded root ≡ item → place_in root path ≡ At tree at
      → (take (length (encoded tree)) (drop at item) ≡ encoded tree)
      × (take (length (contents_of tree)) (drop (at + length (header_of tree)) item) ≡ contents_of tree)
  unfolding place_in
  octets-at root path tree at bytes stands =
      let first : Around item root 0 = record { before = []; behind = []; whole = append-nil (encoded root) ∙ bytes; start = refl } in
      let l : Around item tree at = subst (Lies item) stands (along-lies path (At root 0) first) in
      (whole-at tree at l, contents-at tree at l)
