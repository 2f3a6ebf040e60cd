-- Members in ascending order stand in one order only: the first is not above any other, so where another stands before it they are
-- the same octets, and octets tell the tree.
use mathlib.Core.Path.{◌≡◌, refl, sym, ◌∙◌, ap, ap₂, subst}
use mathlib.Core.Bool.{true, false}
use mathlib.Core.List.{List, []}
use Prim.Native.Nat.{ℕ, ◌+◌, ◌≤◌}
use native.Mathlib.Omega.{arith}
use lib.ListN.{length, length-append}
use Rattle.der.specs.Forms.{Forms}
use Rattle.der.specs.Order.{smaller, is_set, handed}
use Rattle.der.proofs.Ascending.{risen-through, risen-both}
use Rattle.tree.specs.Tree.{Tree, Trees, node, none, more, tagged, encoded, encoded_all, ordered, Sound, sound-node, SoundAll, sound_more}
use Rattle.tree.specs.Reordered.{Inserted, here, there, Permuted, nothing, placed, Reordered, members, inside, ReorderedIn, first, later}
use Rattle.tree.proofs.Rising.{rises, rises-first, rises-rest, ordered-rises}
use Rattle.tree.proofs.Headings.{skipped, length-tagged}
use Rattle.tree.proofs.Same.{tree-one, Formed, formed-node, FormedAll, formed-more}

-- each of the trees is not smaller than one
data Above (low : List ℕ) : Trees → Type 0 where
  above-none : Above low none
  above_more : {tree : Tree} {trees : Trees} → smaller (encoded tree) low ≡ false → Above low trees → Above low (more tree trees)

raised : (low high : List ℕ) (trees : Trees) → smaller high low ≡ false → Above high trees → Above low trees
raised low high none e f = above-none
raised low high (more tree trees) e (above_more f g) = above_more (risen-through low high (encoded tree) e f) (raised low high trees e g)

rest : (prior : List ℕ) (tree : Tree) (trees : Trees) → rises true prior (more tree trees) ≡ true → rises true (encoded tree) trees ≡ true
unfolding handed
rest prior tree trees e = rises-rest true prior tree trees e

-- in ascending order all are above what stands before them
above-prior : (prior : List ℕ) (trees : Trees) → rises true prior trees ≡ true → Above prior trees
above-prior prior none e = above-none
above-prior prior (more tree trees) e =
    let low = rises-first true prior tree trees e in
    above_more low (raised prior (encoded tree) trees low (above-prior (encoded tree) trees (rest prior tree trees e)))

above-inserted : {low : List ℕ} {tree : Tree} {a b : Trees} → Inserted tree a b → smaller (encoded tree) low ≡ false → Above low a → Above low b
above-inserted here e f = above_more e f
above-inserted (there i) e (above_more f g) = above_more f (above-inserted i e g)

above-permuted : {low : List ℕ} {a b : Trees} → Permuted a b → Above low a → Above low b
above-permuted nothing f = f
above-permuted (placed p i) (above_more e f) = above-inserted i e (above-permuted p f)

-- the octets of members in another order are as many
long-inserted : {tree : Tree} (a b : Trees) → Inserted tree a b → length (encoded tree) + length (encoded_all a) ≡ length (encoded_all b)
unfolding encoded_all
long-inserted {tree} a b here = sym (length-append (encoded tree) (encoded_all a))
long-inserted {tree} a b (there {other = other} {a = xs} {b = ys} i) =
    omega (arith, long-inserted xs ys i, length-append (encoded other) (encoded_all xs), length-append (encoded other) (encoded_all ys))

long-permuted : (a b : Trees) → Permuted a b → length (encoded_all a) ≡ length (encoded_all b)
unfolding encoded_all
long-permuted a b nothing = refl
long-permuted a b (placed {tree = tree} {a = xs} {b = ys} p i) =
    omega (arith, long-permuted xs ys p, long-inserted ys b i, length-append (encoded tree) (encoded_all xs))

long-node : (tag : ℕ) (c k : List ℕ) → length c ≡ length k → length (tagged tag c) ≡ length (tagged tag k)
long-node tag c k e = length-tagged tag c ∙ ap (λ n. skipped tag n + n) e ∙ sym (length-tagged tag k)

mutual
  unfolding encoded encoded_all

  long-reordered : (a b : Tree) → Reordered a b → length (encoded a) ≡ length (encoded b)
  long-reordered a b (members {a = xs} {b = ys} p) = long-node 49 (encoded_all xs) (encoded_all ys) (long-permuted xs ys p)
  long-reordered a b (inside {tag = tag} {a = xs} {b = ys} r) = long-node tag (encoded_all xs) (encoded_all ys) (long-in xs ys r)

  long-in : (a b : Trees) → ReorderedIn a b → length (encoded_all a) ≡ length (encoded_all b)
  long-in a b (first {a = x} {b = y} {trees = trees} r) =
      omega (arith, long-reordered x y r, length-append (encoded x) (encoded_all trees), length-append (encoded y) (encoded_all trees))
  long-in a b (later {tree = tree} {a = xs} {b = ys} r) =
      omega (arith, long-in xs ys r, length-append (encoded tree) (encoded_all xs), length-append (encoded tree) (encoded_all ys))

module _ (forms : Forms) (limit : forms.length_octets ≤ 3) where
  sound-inserted : {tree : Tree} {a b : Trees} → Inserted tree a b → SoundAll forms b → Sound forms tree × SoundAll forms a
  sound-inserted here (sound_more e f) = (e, f)
  sound-inserted (there i) (sound_more e f) = let (g, h) = sound-inserted i f in (g, sound_more e h)

  -- neither is smaller
  level : (a b : Tree) → Sound forms a → Sound forms b → smaller (encoded a) (encoded b) ≡ false → smaller (encoded b) (encoded a) ≡ false → a ≡ b
  level a b sa sb e f =
      let (r, q, same) = risen-both (encoded a) (encoded b) e f in
      (tree-one forms limit a b r q sa sb same).0

  -- a tree below all others stands first, or might as well
  one_place :
      (tree : Tree) (a b : Trees) (prior : List ℕ) → Inserted tree a b → SoundAll forms b → rises true prior b ≡ true → Above (encoded tree) a
      → b ≡ more tree a
  one_place tree a b prior here sound e f = refl
  one_place tree a b prior (there {other = other} {a = a'} {b = b'} i) (sound_more so sb) e (above_more low f) =
      let behind : b' ≡ more tree a' = one_place tree a' b' (encoded other) i sb (rest prior other b' e) f in
      let next : rises true (encoded other) (more tree a') ≡ true = subst (λ (l : Trees). rises true (encoded other) l ≡ true) behind (rest prior other b' e) in
      let same : tree ≡ other = level tree other (sound-inserted i sb).0 so (rises-first true (encoded other) tree a' next) low in
      ap (more other) behind ∙ ap₂ (λ (x y : Tree). more x (more y a')) (sym same) same

  sorted-one :
      (a b : Trees) (prior behind : List ℕ) → Permuted a b → SoundAll forms a → SoundAll forms b → rises true prior a ≡ true → rises true behind b ≡ true
      → a ≡ b
  sorted-one a b prior behind nothing sa sb e f = refl
  sorted-one a c prior behind (placed {tree = tree} {a = a'} {b = b} p i) (sound_more st sa) sc e f =
      let low : Above (encoded tree) b = above-permuted p (above-prior (encoded tree) a' (rest prior tree a' e)) in
      let front : c ≡ more tree b = one_place tree b c behind i sc f low in
      let next : rises true behind (more tree b) ≡ true = subst (λ (l : Trees). rises true behind l ≡ true) front f in
      ap (more tree) (sorted-one a' b (encoded tree) (encoded tree) p sa (sound-inserted i sc).1 (rest prior tree a' e) (rest behind tree b next)) ∙ sym front

  set-rises : (trees : Trees) → ordered 49 trees ≡ true → rises true [] trees ≡ true
  unfolding is_set
  set-rises trees e = sym (ordered-rises 49 trees) ∙ e

  mutual
    pub reordered-one : (a b : Tree) → Reordered a b → Sound forms a → Sound forms b → a ≡ b
    reordered-one a b (members {a = xs} {b = ys} p) (sound-node _ _ _ _ ox sx) (sound-node _ _ _ _ oy sy) =
        ap (node 49) (sorted-one xs ys [] [] p sx sy (set-rises xs ox) (set-rises ys oy))
    reordered-one a b (inside {tag = tag} {a = xs} {b = ys} r) (sound-node _ _ _ _ _ sx) (sound-node _ _ _ _ _ sy) = ap (node tag) (reordered-in xs ys r sx sy)

    reordered-in : (a b : Trees) → ReorderedIn a b → SoundAll forms a → SoundAll forms b → a ≡ b
    reordered-in a b (first {a = x} {b = y} {trees = trees} r) (sound_more sx _) (sound_more sy _) = ap (λ (t : Tree). more t trees) (reordered-one x y r sx sy)
    reordered-in a b (later {tree = tree} {a = xs} {b = ys} r) (sound_more _ sx) (sound_more _ sy) = ap (more tree) (reordered-in xs ys r sx sy)

  -- members in another order are as long as before, so what was formed is
  formed-inserted : {tree : Tree} {a b : Trees} → Inserted tree a b → Formed forms tree → FormedAll forms a → FormedAll forms b
  formed-inserted here x f = formed-more x f
  formed-inserted (there i) x (formed-more g f) = formed-more g (formed-inserted i x f)

  formed-permuted : {a b : Trees} → Permuted a b → FormedAll forms a → FormedAll forms b
  formed-permuted nothing f = f
  formed-permuted (placed p i) (formed-more x f) = formed-inserted i x (formed-permuted p f)

  mutual
    pub formed-reordered : (a b : Tree) → Reordered a b → Formed forms a → Formed forms b
    formed-reordered a b (members {a = xs} {b = ys} p) (formed-node good built below f) =
        formed-node good built (rw (long-permuted xs ys p) at below) (formed-permuted p f)
    formed-reordered a b (inside {a = xs} {b = ys} r) (formed-node good built below f) =
        formed-node good built (rw (long-in xs ys r) at below) (formed-in xs ys r f)

    formed-in : (a b : Trees) → ReorderedIn a b → FormedAll forms a → FormedAll forms b
    formed-in a b (first {a = x} {b = y} r) (formed-more f g) = formed-more (formed-reordered x y r f) g
    formed-in a b (later {a = xs} {b = ys} r) (formed-more f g) = formed-more f (formed-in xs ys r g)
