-- An encoded tree is its header before its contents, and its header is read back, whatever follows.
use mathlib.Core.Path.{◌≡◌, sym, ◌∙◌, ap}
use mathlib.Core.Bool.{true≢false}
use mathlib.Core.List.{List, ◌++◌, append_assoc}
use Prim.Native.Nat.{ℕ, ◌+◌, ◌≤◌}
use lib.ListN.{length, length-append}
use Rattle.der.specs.Forms.{Forms}
use Rattle.der.specs.Heading.{heading_of, constructed}
use Rattle.tree.specs.Tree.{Tree, leaf, node, length_encoded, identifier, leading, tagged, encoded, encoded_all, tag_of, contents_of, header_of, Sound, sound-leaf, sound-node}
use Rattle.tree.proofs.Headings.{heading-of}
use Rattle.der.proofs.Payloads.{a_heading}

pub encoded-parts : (x : Tree) → encoded x ≡ header_of x ++ contents_of x
unfolding encoded tagged header_of tag_of contents_of
encoded-parts (leaf tag c) = sym (append_assoc (identifier tag) (length_encoded (length c)) c)
encoded-parts (node tag members) = sym (append_assoc (identifier tag) (length_encoded (length (encoded_all members))) (encoded_all members))

pub length-parts : (x : Tree) → length (encoded x) ≡ length (header_of x) + length (contents_of x)
length-parts x = ap length (encoded-parts x) ∙ length-append (header_of x) (contents_of x)

pub heading-tree :
    (forms : Forms) → forms.length_octets ≤ 3 → (x : Tree) (rest : List ℕ) → Sound forms x
    → heading_of forms (encoded x ++ rest) ≡ a_heading (tag_of x) (length (header_of x)) (length (contents_of x))
unfolding encoded header_of tag_of contents_of
heading-tree forms limit (leaf tag c) rest (sound-leaf b good primitive o below contents) =
    heading-of forms limit tag c rest good below ∙ ap (λ (k : ℕ). a_heading tag k (length c)) (sym (length-append (identifier tag) (length_encoded (length c))))
heading-tree forms limit (node tag members) rest (sound-node b good built below order sound) =
    heading-of forms limit tag (encoded_all members) rest good below ∙ ap (λ (k : ℕ). a_heading tag k (length (encoded_all members))) (sym (length-append (identifier tag) (length_encoded (length (encoded_all members)))))

-- the one identifier 2 is primitive
pub leaf-two : (forms : Forms) (x : Tree) → Sound forms x → tag_of x ≡ 2 → x ≡ leaf 2 (contents_of x)
unfolding tag_of contents_of constructed leading
leaf-two forms (leaf tag c) sound e = ap (λ (t : ℕ). leaf t c) e
leaf-two forms (node tag members) (sound-node b good built below order sound) e = absurd (true≢false (sym built ∙ ap (λ (t : ℕ). constructed (leading t)) e))
