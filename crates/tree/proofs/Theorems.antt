-- What the walk means, as theorems over the definitions.
use Rattle.std.specs.Prelude.{None, Result, Ok}
use mathlib.Core.Path.{◌≡◌, refl, sym, ◌∙◌, ap, subst}
use mathlib.Core.Bool.{Bool, true}
use mathlib.Core.Logic.{◌↔◌}
use mathlib.Core.List.{List, [], ◌++◌, append_assoc}
use Prim.Native.Nat.{ℕ, ◌+◌, ◌-◌, ◌*◌, ◌≤◌}
use native.Mathlib.Omega.{arith}
use lib.IntN.{ℤ}
use lib.ListN.{length, take, drop, length-append}
use Rattle.refusal.specs.declared.Refusal.{Refusal}
use Rattle.der.specs.Forms.{Forms}
use Rattle.octets.specs.Octets.{Octets, twos}
use Rattle.der.specs.Contents.{integer_good}
use Rattle.der.specs.Walk.{element_at, list_at, walk_of, counted}
use Rattle.der.specs.Heading.{heading_of}
use Rattle.der.specs.Member.{placed, member_of}
use Rattle.der.specs.Integer.{integer_of}
use Rattle.tree.specs.Tree.{Tree, Trees, none, more, encoded, encoded_all, tag_of, contents_of, header_of, Sound, Encodes, EncodesInteger}
use Rattle.tree.specs.Reordered.{Reordered}
use Rattle.tree.proofs.Answers.{walk-by}
use Rattle.tree.proofs.Bounds.{Bound, ReadBound, element-bound}
use Rattle.tree.proofs.Fuel.{element-fuel, list-fuel}
use Rattle.tree.proofs.Passes.{passed-encodes, encodes-passed}
use Rattle.tree.proofs.Same.{tree-one, formed, formed-one}
use Rattle.tree.proofs.Reorder.{reordered-one, formed-reordered}
use Rattle.tree.proofs.Parts.{encoded-parts, length-parts, heading-tree}
use Rattle.tree.proofs.Members.{part_at, member-at}
use Rattle.tree.proofs.Integers.{NumberEncodes, integer-encodes, encodes-integer, one-item}
use Rattle.tree.proofs.Minimal.{twos-same}
use Rattle.der.proofs.Payloads.{a_step}

-- The walk passes, and counts n, exactly when the octets are those of a sound tree of n elements within the limits.
pub walk-passes :
    (forms : Forms) → forms.length_octets ≤ 3 → (item : List ℕ) (n : ℕ) → Octets item → (walk_of forms item ≡ Ok n) ↔ Encodes forms item n
walk-passes forms limit item n o =
    (passed-encodes forms limit item n o, encodes-passed forms limit item n)

-- Two sound trees with the same octets are the same tree.
pub one-tree : (forms : Forms) → forms.length_octets ≤ 3 → (a b : Tree) → Sound forms a → Sound forms b → encoded a ≡ encoded b → a ≡ b
one-tree forms limit a b sa sb e = (tree-one forms limit a b [] [] sa sb (ap (λ (s : List ℕ). s ++ []) e)).0

-- Two sound trees that differ only in the order of a SET's members have the same octets.
pub reordered-octets :
    (forms : Forms) → forms.length_octets ≤ 3 → (a b : Tree) → Sound forms a → Sound forms b → Reordered a b → encoded a ≡ encoded b
reordered-octets forms limit a b sa sb r = ap encoded (reordered-one forms limit a b r sa sb)

-- Of an item that passes, and one whose tree is the same but for the order of a SET's members, both pass only where they are the same
-- octets.
pub reordered-items :
    (forms : Forms) (limit : forms.length_octets ≤ 3) (item : List ℕ) (n m : ℕ) (o : Octets item) (passes : walk_of forms item ≡ Ok n) (other : Tree)
    → Reordered ((walk-passes forms limit item n o).0 passes).tree other → Octets (encoded other) → walk_of forms (encoded other) ≡ Ok m
    → encoded other ≡ item
reordered-items forms limit item n m o passes other r octets e =
    let a = (walk-passes forms limit item n o).0 passes in
    let b = (walk-passes forms limit (encoded other) m octets).0 e in
    let same : b.tree ≡ other = (formed-one forms limit b.tree other [] []
    (formed b.tree b.sound) (formed-reordered forms limit a.tree other r (formed a.tree a.sound))
    (ap (λ (s : List ℕ). s ++ []) b.bytes)).0 in
    let sound : Sound forms other = subst (Sound forms) same b.sound in
    sym (reordered-octets forms limit a.tree other a.sound sound r) ∙ a.bytes

-- No answer tells more elements than the limit.
pub counted-limit : (forms : Forms) (item : List ℕ) → counted (walk_of forms item) ≤ forms.elements
unfolding counted
counted-limit forms item =
    walk-by forms item (λ (w : Result ℕ Refusal). counted w ≤ forms.elements) (λ refusal. omega arith) λ m short e.
    let b : Bound forms item (length item) m = subst (ReadBound forms item) e (element-bound forms _ [] item 0 1 0) in
    b.few

-- From 2 * length s + 1 on for an element, and 2 * length s + 2 for a list, the fuel changes nothing.
pub fuel-enough :
    (forms : Forms) (f g : ℕ) (set : Bool) (prior s : List ℕ) (base d n : ℕ)
    → (2 * length s + 1 ≤ f → 2 * length s + 1 ≤ g → element_at f forms prior s base d n ≡ element_at g forms prior s base d n)
    × (2 * length s + 2 ≤ f → 2 * length s + 2 ≤ g → list_at f forms set prior s base d n ≡ list_at g forms set prior s base d n)
fuel-enough forms f g set prior s base d n = (element-fuel forms f g prior s base d n, list-fuel forms f g set prior s base d n)

-- Stepping ends where no member is left.
pub step-none :
    (forms : Forms) (before behind : List ℕ)
    → member_of forms (before ++ encoded_all none ++ behind) (length before) (length before + length (encoded_all none)) ≡ None
unfolding encoded_all placed heading_of
step-none forms before behind = member-at forms before [] behind

-- A step finds the first of the members that are left: its identifier, where its contents start, and where it ends.
pub step-more :
    (forms : Forms) → forms.length_octets ≤ 3 → (before behind : List ℕ) (tree : Tree) (trees : Trees) → Sound forms tree
    → member_of forms (before ++ encoded_all (more tree trees) ++ behind) (length before) (length before + length (encoded_all (more tree trees)))
    ≡ a_step (tag_of tree) (length before + length (header_of tree)) (length before + length (encoded tree))
unfolding encoded_all placed
step-more forms limit before behind tree trees sound =
    member-at forms before (encoded tree ++ encoded_all trees) behind
    ∙ rw (heading-tree forms limit tree (encoded_all trees) sound)
    (ap (a_step (tag_of tree) (length before + length (header_of tree))) (omega (arith, length-parts tree)))

-- The next step, from the end of the first member, sees the members after it.
pub step-next :
    (before behind : List ℕ) (tree : Tree) (trees : Trees)
    → before ++ encoded_all (more tree trees) ++ behind ≡ (before ++ encoded tree) ++ encoded_all trees ++ behind
unfolding encoded_all
step-next before behind tree trees = simp append_assoc

-- A step into a node, from where its contents start, sees its members.
pub step-inside :
    (before behind : List ℕ) (tree : Tree) (trees : Trees)
    → before ++ encoded_all (more tree trees) ++ behind ≡ (before ++ header_of tree) ++ contents_of tree ++ (encoded_all trees ++ behind)
unfolding encoded_all
step-inside before behind tree trees = rw (encoded-parts tree) (simp append_assoc)

-- Between the two offsets of a step stand the member's contents: a leaf's octets, or a node's members.
pub step-contents :
    (before behind : List ℕ) (tree : Tree) (trees : Trees)
    → take (length before + length (encoded tree) - (length before + length (header_of tree)))
    (drop (length before + length (header_of tree)) (before ++ encoded_all (more tree trees) ++ behind))
    ≡ contents_of tree
step-contents before behind tree trees =
    let span : length before + length (encoded tree) - (length before + length (header_of tree)) ≡ length (contents_of tree) =
    omega (arith, length-parts tree) in
    rw (span, step-inside before behind tree trees, ← length-append before (header_of tree))
    (part_at (before ++ header_of tree) (contents_of tree) (encoded_all trees ++ behind) (length (contents_of tree)) refl)

-- An item is read as the number v exactly when it is one INTEGER of at most eight octets that write v, within the limits.
pub integer-value :
    (forms : Forms) → forms.length_octets ≤ 3 → (item : List ℕ) → Octets item → (v : ℤ) → (integer_of forms item ≡ Ok v) ↔ EncodesInteger forms item v
integer-value forms limit item o v =
    (λ e. subst (NumberEncodes forms item) e (integer-encodes forms limit item o), encodes-integer forms limit item v)

-- Two contents of an INTEGER that may stand and write one value are the same octets: a value has no second encoding.
pub twos-one : (a b : List ℕ) → Octets a → Octets b → integer_good a ≡ true → integer_good b ≡ true → twos a ≡ twos b → a ≡ b
twos-one = twos-same

-- Two items that are read as one value are the same item.
pub integer-one :
    (forms : Forms) → forms.length_octets ≤ 3 → (a b : List ℕ) → Octets a → Octets b → (v : ℤ)
    → integer_of forms a ≡ Ok v → integer_of forms b ≡ Ok v → a ≡ b
integer-one forms limit a b oa ob v e f =
    one-item forms a b v ((integer-value forms limit a oa v).0 e) ((integer-value forms limit b ob v).0 f)
