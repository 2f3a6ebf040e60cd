-- The tree of elements that an item encodes, and what makes it sound.
use Rattle.std.specs.Prelude.{ℕ, suc, ◌+◌, ◌/◌, ◌%◌, ◌^◌, ◌<◌, ◌≤◌, max, ◌≡◌, Bool, true, false, cond, ◌&&◌, List, [], ◌∷◌, ◌++◌, ltb, ℤ, length}
use Rattle.der.specs.Forms.{Forms}
use Rattle.octets.specs.Octets.{Octets, big, twos}
use Rattle.der.specs.Heading.{identifier_good, wide_good, constructed}
use Rattle.der.specs.Contents.{contents_good}
use Rattle.der.specs.Order.{smaller, is_set}

mutual
  pub data Tree : Type 0 where
    leaf : ℕ → List ℕ → Tree
    node : ℕ → Trees → Tree

  pub data Trees : Type 0 where
    none : Trees
    more : Tree → Trees → Trees

-- X.690 10.1: a length in as few octets as can be
unfoldable pub length_width : ℕ → ℕ
length_width n = cond (ltb n 256) 1 (cond (ltb n 65536) 2 3)

unfoldable pub length_encoded : ℕ → List ℕ
length_encoded n = cond (ltb n 128) (n ∷ []) ((128 + length_width n) ∷ big (length_width n) n)

-- X.690 8.1.2: a tag is the number of its one octet, or of its two
unfoldable pub identifier : ℕ → List ℕ
identifier tag = cond (ltb tag 256) (tag ∷ []) (tag / 256 ∷ tag % 256 ∷ [])

unfoldable pub leading : ℕ → ℕ
leading tag = cond (ltb tag 256) tag (tag / 256)

-- X.690 8.1.1: identifier octets, length octets, contents octets
unfoldable pub tagged : ℕ → List ℕ → List ℕ
tagged tag c = identifier tag ++ (length_encoded (length c) ++ c)

unfoldable mutual
  pub encoded : Tree → List ℕ
  encoded (leaf tag c) = tagged tag c
  encoded (node tag members) = tagged tag (encoded_all members)

  pub encoded_all : Trees → List ℕ
  encoded_all none = []
  encoded_all (more tree trees) = encoded tree ++ encoded_all trees

-- the tag, the contents octets, and the header: identifier and length octets
unfoldable pub tag_of : Tree → ℕ
tag_of (leaf tag c) = tag
tag_of (node tag members) = tag

unfoldable pub contents_of : Tree → List ℕ
contents_of (leaf tag c) = c
contents_of (node tag members) = encoded_all members

unfoldable pub header_of : Tree → List ℕ
header_of tree = identifier (tag_of tree) ++ length_encoded (length (contents_of tree))

-- the number of elements
unfoldable mutual
  pub size : Tree → ℕ
  size (leaf tag c) = 1
  size (node tag members) = suc (size_all members)

  pub size_all : Trees → ℕ
  size_all none = 0
  size_all (more tree trees) = size tree + size_all trees

-- the outermost element is at depth 1
unfoldable mutual
  pub depth : Tree → ℕ
  depth (leaf tag c) = 1
  depth (node tag members) = suc (depth_all members)

  pub depth_all : Trees → ℕ
  depth_all none = 0
  depth_all (more tree trees) = max (depth tree) (depth_all trees)

-- a tag that may stand: of one octet, or of two where the forms have them
unfoldable pub tag_good : Forms → ℕ → Bool
tag_good forms tag = cond (ltb tag 256) (identifier_good tag) (forms.wide_tags && wide_good (tag / 256) (tag % 256))

-- each member's encoding is not smaller than that of the one before it; before the first stands `prior`
unfoldable pub ascending : List ℕ → Trees → Bool
ascending prior none = true
ascending prior (more tree trees) = cond (smaller (encoded tree) prior) false (ascending (encoded tree) trees)

-- X.690 11.6: the members of a SET ascend
unfoldable pub ordered : ℕ → Trees → Bool
ordered tag members = cond (is_set tag) (ascending [] members) true

-- An identifier that may stand, primitive over contents that may stand and constructed over sound members, which ascend in
-- a SET, each length one that the forms can tell: below 128 in the short form.
mutual
  pub data Sound (forms : Forms) : Tree → Type 0 where
    sound-leaf :
        {tag : ℕ} {c : List ℕ} → tag < 65536 → tag_good forms tag ≡ true → constructed (leading tag) ≡ false → Octets c
        → length c < max 128 (256 ^ forms.length_octets) → contents_good tag c ≡ true → Sound forms (leaf tag c)
    sound-node :
        {tag : ℕ} {members : Trees} → tag < 65536 → tag_good forms tag ≡ true → constructed (leading tag) ≡ true
        → length (encoded_all members) < max 128 (256 ^ forms.length_octets) → ordered tag members ≡ true → SoundAll forms members
        → Sound forms (node tag members)

  pub data SoundAll (forms : Forms) : Trees → Type 0 where
    sound_none : SoundAll forms none
    sound_more :
        {tree : Tree} {trees : Trees} → Sound forms tree → SoundAll forms trees → SoundAll forms (more tree trees)

-- the octets of an item are those of a sound tree of n elements, within the limits
pub record Encodes (forms : Forms) (item : List ℕ) (n : ℕ) : Type 0 where
  pub tree : Tree
  pub bytes : encoded tree ≡ item
  pub sound : Sound forms tree
  pub count : size tree ≡ n
  pub shallow : depth tree ≤ forms.depth
  pub few : n ≤ forms.elements
  pub short : length item ≤ forms.item_size

-- the octets of an item are those of one INTEGER of at most eight contents octets, which write v, within the limits
pub record EncodesInteger (forms : Forms) (item : List ℕ) (v : ℤ) : Type 0 where
  pub contents : List ℕ
  pub bytes : encoded (leaf 2 contents) ≡ item
  pub sound : Sound forms (leaf 2 contents)
  pub narrow : length contents ≤ 8
  pub value : twos contents ≡ v
  pub shallow : 1 ≤ forms.depth
  pub few : 1 ≤ forms.elements
  pub short : length item ≤ forms.item_size
