-- A passed item is one tree, and its header tells whether that is an INTEGER of at most eight octets.
use Rattle.std.specs.Prelude.{Result, Ok, Err}
use mathlib.Core.Path.{◌≡◌, refl, sym, ◌∙◌, ap, subst}
use mathlib.Core.Bool.{true}
use mathlib.Core.List.{List, [], ◌++◌, append-nil}
use Prim.Native.Nat.{ℕ, ◌≤◌}
use native.Mathlib.Omega.{arith}
use borrow.Author.Tests.{le-ltb, eqb-true, ltb-false}
use lib.Dec.{eqb, ltb}
use lib.IntN.{ℤ}
use lib.ListN.{length, take, drop}
use Rattle.refusal.specs.declared.Refusal.{Refusal}
use Rattle.der.specs.Forms.{Forms}
use Rattle.octets.specs.Octets.{Octets}
use Rattle.der.specs.Heading.{heading_of}
use Rattle.der.specs.Contents.{integer_good, contents_good}
use Rattle.der.specs.Walk.{walk_of}
use Rattle.der.specs.Integer.{held, asked, integer_of}
use Rattle.tree.specs.Tree.{Tree, leaf, encoded, tag_of, contents_of, header_of, size, depth, Sound, sound-leaf, Encodes, EncodesInteger}
use Rattle.tree.proofs.Cases.{cond-by}
use Rattle.tree.proofs.Parts.{encoded-parts, heading-tree, leaf-two}
use Rattle.tree.proofs.Members.{part_at}
use Rattle.tree.proofs.Minimal.{twos-same}
use Rattle.tree.proofs.Passes.{passed-encodes, encodes-passed}
use Rattle.der.proofs.Payloads.{a_heading}

abbrev pub NumberEncodes : Forms → List ℕ → Result ℤ Refusal → Type 0
NumberEncodes forms item (Ok v) = EncodesInteger forms item v
NumberEncodes forms item (Err refusal) = Unit {0}

-- the header and the contents of a whole item
whole-heading :
    (forms : Forms) → forms.length_octets ≤ 3 → (item : List ℕ) (x : Tree) → Sound forms x → encoded x ≡ item
    → (heading_of forms item ≡ a_heading (tag_of x) (length (header_of x)) (length (contents_of x)))
    × (take (length (contents_of x)) (drop (length (header_of x)) item) ≡ contents_of x)
whole-heading forms limit item x sound bytes =
    let back : encoded x ++ [] ≡ item = append-nil (encoded x) ∙ bytes in (
      rw back at (heading-tree forms limit x [] sound),
      rw (← back, encoded-parts x) (part_at (header_of x) (contents_of x) [] (length (contents_of x)) refl),
    )

module _ (forms : Forms) (limit : forms.length_octets ≤ 3) (item : List ℕ) where
  held-encodes : (n : ℕ) → Encodes forms item n → NumberEncodes forms item (held item (heading_of forms item))
  unfolding held size depth
  held-encodes n e =
      let x : Tree = e.tree in
      let (header, contents) = whole-heading forms limit item x e.sound e.bytes in
      let P : Result ℤ Refusal → Type 0 = NumberEncodes forms item in
      rw (header, contents)
      (cond-by P (eqb (tag_of x) 2)
      (λ two. cond-by P (ltb 8 (length (contents_of x))) (λ wide. tt) λ narrow.
      let same : x ≡ leaf 2 (contents_of x) = leaf-two forms x e.sound (eqb-true _ _ two) in
      record {
        contents = contents_of x;
        bytes = rw same at e.bytes;
        sound = subst (Sound forms) same e.sound;
        narrow = ltb-false _ _ narrow;
        value = refl;
        shallow = omega (arith, ap depth same, e.shallow);
        few = omega (arith, ap size same, e.count, e.few);
        short = e.short;
      })
      λ other. tt)

  pub integer-encodes : Octets item → NumberEncodes forms item (integer_of forms item)
  unfolding integer_of asked
  integer-encodes o = go (walk_of forms item) refl
    where
      go : (w : Result ℕ Refusal) → walk_of forms item ≡ w → NumberEncodes forms item (asked w (held item (heading_of forms item)))
      go (Err refusal) e = tt
      go (Ok n) e = held-encodes n (passed-encodes forms limit item n o e)

  pub encodes-integer : (v : ℤ) → EncodesInteger forms item v → integer_of forms item ≡ Ok v
  unfolding integer_of asked held size depth tag_of contents_of
  encodes-integer v e =
      let x : Tree = leaf 2 e.contents in
      let passed : walk_of forms item ≡ Ok 1 =
      encodes-passed forms limit item 1
      record { tree = x; bytes = e.bytes; sound = e.sound; count = refl; shallow = e.shallow; few = e.few; short = e.short } in
      let (header, contents) = whole-heading forms limit item x e.sound e.bytes in
      simp (passed, header, le-ltb 8 (length e.contents) e.narrow, contents, e.value)

-- the contents of a sound INTEGER
integer-contents : (forms : Forms) (c : List ℕ) → Sound forms (leaf 2 c) → Octets c × (integer_good c ≡ true)
unfolding contents_good
integer-contents forms c (sound-leaf b good primitive o below contents) = (o, contents)

pub one-item : (forms : Forms) (a b : List ℕ) (v : ℤ) → EncodesInteger forms a v → EncodesInteger forms b v → a ≡ b
one-item forms a b v e f =
    let (o, good) = integer-contents forms e.contents e.sound in
    let (o', good') = integer-contents forms f.contents f.sound in
    let same : e.contents ≡ f.contents = twos-same e.contents f.contents o o' good good' (e.value ∙ sym f.value) in
    sym e.bytes ∙ ap (λ (c : List ℕ). encoded (leaf 2 c)) same ∙ f.bytes
