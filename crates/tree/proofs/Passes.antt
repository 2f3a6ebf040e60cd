-- The outermost element fills the item, so the walk passes what it reads as one tree, and nothing else.
use Rattle.std.specs.Prelude.{Result, Ok, Err}
use mathlib.Core.Path.{◌≡◌, refl, sym, ◌∙◌, ap, ap₂, subst}
use mathlib.Core.List.{List, [], ◌++◌, append-nil}
use Prim.Native.Nat.{ℕ, ◌+◌, ◌*◌, ◌≤◌}
use native.Mathlib.Omega.{arith}
use borrow.Author.Tests.{le-ltb, eq-eqb}
use lib.ListN.{length}
use lib.Seq.{drop-length}
use Rattle.refusal.specs.declared.Refusal.{Refusal}
use Rattle.der.specs.Forms.{Forms}
use Rattle.octets.specs.Octets.{Octets}
use Rattle.der.specs.Walk.{element_at, whole, walk_of}
use Rattle.der.proofs.Ascending.{smaller-none}
use Rattle.tree.specs.Tree.{Tree, encoded, Encodes}
use Rattle.tree.proofs.Reading.{reads}
use Rattle.tree.proofs.Answers.{walk-by}
use Rattle.tree.proofs.Bounds.{Bound, ReadBound, element-bound}
use Rattle.tree.proofs.Found.{Found, ReadFound, element-found}
use Rattle.der.proofs.Payloads.{a_read}

abbrev WalkedEncodes : Forms → List ℕ → Result ℕ Refusal → Type 0
WalkedEncodes forms item (Ok n) = Encodes forms item n
WalkedEncodes forms item (Err refusal) = Unit {0}

walked-encodes : (forms : Forms) → forms.length_octets ≤ 3 → (item : List ℕ) → Octets item → WalkedEncodes forms item (walk_of forms item)
walked-encodes forms limit item o =
    walk-by forms item (WalkedEncodes forms item) (λ refusal. tt) λ m short e.
    let f : Found forms [] item 1 0 (length item) m = subst (ReadFound forms [] item 1 0) e (element-found forms limit _ [] item 0 1 0 o) in
    let b : Bound forms item (length item) m = subst (ReadBound forms item) e (element-bound forms _ [] item 0 1 0) in
    record {
      tree = f.tree;
      bytes = sym (append-nil (encoded f.tree)) ∙ rw (drop-length) at f.bytes;
      sound = f.sound;
      count = omega (arith, f.count);
      shallow = omega (arith, f.shallow);
      few = b.few;
      short = short;
    }

pub passed-encodes : (forms : Forms) → forms.length_octets ≤ 3 → (item : List ℕ) (n : ℕ) → Octets item → walk_of forms item ≡ Ok n → Encodes forms item n
passed-encodes forms limit item n o e = subst (WalkedEncodes forms item) e (walked-encodes forms limit item o)

pub encodes-passed : (forms : Forms) → forms.length_octets ≤ 3 → (item : List ℕ) (n : ℕ) → Encodes forms item n → walk_of forms item ≡ Ok n
unfolding walk_of whole
encodes-passed forms limit item n e =
    let x : Tree = e.tree in
    let back : encoded x ++ [] ≡ item = append-nil (encoded x) ∙ e.bytes in
    let read : element_at (2 * length item + 2) forms [] item 0 1 0 ≡ a_read (length item) n =
    rw back at (reads forms limit x e.sound [] [] (smaller-none (encoded x)) (2 * length item + 2) 0 1 0
    (omega (arith, ap length back)) (omega (arith, e.shallow)) (omega (arith, e.count, e.few)))
    ∙ ap₂ a_read (ap length e.bytes) (omega (arith, e.count)) in
    simp (le-ltb _ _ e.short, read, eq-eqb (length item) (length item) refl)
