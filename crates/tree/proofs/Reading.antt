-- The walk reads a sound tree: each header tells the very contents that were written, and the fuel, the depth and the count last.
use Rattle.std.specs.Prelude.{Ok}
use mathlib.Core.Path.{◌≡◌, refl, sym, subst, ◌∙◌, ap, ap₂}
use mathlib.Core.Bool.{Bool, true, false}
use mathlib.Core.List.{List, [], ◌++◌}
use Prim.Native.Nat.{ℕ, zero, suc, ◌+◌, ◌*◌, ◌≤◌}
use native.Mathlib.Omega.{arith}
use lib.ListN.{length, take, length-append}
use lib.Seq.{take_at, take-append_seam, drop-append_seam}
use Rattle.der.specs.Forms.{Forms}
use Rattle.der.specs.Order.{smaller, is_set}
use Rattle.der.specs.Walk.{filled, element_at, list_at}
use Rattle.der.proofs.Laws.{element-node, element-leaf, list_done, list-more}
use Rattle.tree.specs.Tree.{Tree, leaf, node, Trees, none, more, tagged, encoded, encoded_all}
use Rattle.tree.specs.Tree.{size, size_all, depth, depth_all, Sound, sound-leaf, sound-node, SoundAll, sound_none, sound_more}
use Rattle.tree.proofs.Rising.{rises, rises-first, rises-rest, ordered-rises}
use Rattle.tree.proofs.Tags.{identifier-some}
use Rattle.tree.proofs.Headings.{skipped, heading-of, length-tagged, length-encoded-some, tagged-contents, tagged-first}
use Rattle.der.proofs.Payloads.{a_read}

pub encoded-some : (x : Tree) → 2 ≤ length (encoded x)
unfolding encoded
encoded-some (leaf tag c) = omega (arith, length-tagged tag c, identifier-some tag, length-encoded-some (length c))
encoded-some (node tag members) = omega (arith, length-tagged tag (encoded_all members), identifier-some tag, length-encoded-some (length (encoded_all members)))

-- what stands at the front is the element itself
first-risen : (tag : ℕ) (c rest prior : List ℕ) → smaller (tagged tag c) prior ≡ false
    → smaller (take (skipped tag (length c) + length c) (tagged tag c ++ rest)) prior ≡ false
first-risen tag c rest prior e =
    subst (λ (l : List ℕ). smaller l prior ≡ false) (sym (take_at (tagged tag c) rest (skipped tag (length c) + length c) (length-tagged tag c))) e

module _ (forms : Forms) (limit : forms.length_octets ≤ 3) where
  mutual
    unfolding encoded encoded_all size size_all depth depth_all filled

    pub reads :
        (x : Tree) → Sound forms x → (prior rest : List ℕ) → smaller (encoded x) prior ≡ false → (fuel base d n : ℕ) → 2 * length (encoded x ++ rest) + 1 ≤ fuel
        → d + depth x ≤ forms.depth + 1 → n + size x ≤ forms.elements
        → element_at fuel forms prior (encoded x ++ rest) base d n ≡ a_read (length (encoded x)) (n + size x)
    reads (leaf tag c) sound prior rest risen zero base d n f deep many = absurd (omega arith)
    reads (leaf tag c) (sound-leaf b good primitive o below contents) prior rest risen (suc fuel) base d n f deep many =
        rw (length-tagged tag c)
        (element-leaf forms fuel prior _ base d n tag _ (length c) (heading-of forms limit tag c rest good below) (omega arith) (omega arith)
        (first-risen tag c rest prior risen) (rw (tagged-first tag c rest) primitive)
        (rw tagged-contents contents))
    reads (node tag members) sound prior rest risen zero base d n f deep many = absurd (omega arith)
    reads (node tag members) (sound-node b good built below order sound) prior rest risen (suc fuel) base d n f deep many =
        let c : List ℕ = encoded_all members in
        let skip : ℕ = skipped tag (length c) in
        let inner = reads_all members sound (is_set tag) [] (sym (ordered-rises tag members) ∙ order) fuel (base + skip) (d + 1) (n + 1)
        (omega (arith, length-append (tagged tag c) rest, length-tagged tag c, identifier-some tag, length-encoded-some (length c))) (omega arith)
        (omega arith) in
        element-node forms fuel prior _ base d n tag skip (length c) (heading-of forms limit tag c rest good below) (omega arith) (omega arith)
        (first-risen tag c rest prior risen) (rw (tagged-first tag c rest) built)
        ∙ rw (tagged-contents tag c rest, inner) (ap₂ a_read (sym (length-tagged tag c)) (omega arith))

    pub reads_all :
        (xs : Trees) → SoundAll forms xs → (set : Bool) (prior : List ℕ) → rises set prior xs ≡ true → (fuel base d n : ℕ) → 2 * length
        (encoded_all xs) + 2 ≤ fuel
        → d + depth_all xs ≤ forms.depth + 1 → n + size_all xs ≤ forms.elements
        → list_at fuel forms set prior (encoded_all xs) base d n ≡ Ok (n + size_all xs)
    reads_all none sound set prior order zero base d n f deep many = absurd (omega arith)
    reads_all none sound_none set prior order (suc fuel) base d n f deep many =
        list_done forms fuel set prior [] base d n refl ∙ ap Ok (omega arith)
    reads_all (more x xs) sound set prior order zero base d n f deep many = absurd (omega arith)
    reads_all (more x xs) (sound_more sound rest) set prior order (suc fuel) base d n f deep many =
        let s : List ℕ = encoded x ++ encoded_all xs in
        let long : length s ≡ length (encoded x) + length (encoded_all xs) = length-append (encoded x) (encoded_all xs) in
        let first = reads x sound prior (encoded_all xs) (rises-first set prior x xs order) fuel base d n (omega arith) (omega arith) (omega arith) in
        let others = reads_all xs rest set _ (rises-rest set prior x xs order) fuel (base + length (encoded x)) d (n + size x)
        (omega (arith, encoded-some x)) (omega arith) (omega arith) in
        list-more forms fuel set prior s base d n (omega (arith, encoded-some x)) _ _ first
        ∙ rw (drop-append_seam, take-append_seam) (others ∙ ap Ok (omega arith))
