-- Each test that passes leaves one way through the definition of an element: the leaf.
use Prim.Native.Nat.{ℕ, ◌+◌, ◌-◌, ◌%◌, ◌≤◌, ◌<◌}
use mathlib.Core.Bool.{true, false, not}
use mathlib.Core.List.{List}
use mathlib.Core.Path.{◌≡◌, refl, subst}
use native.Mathlib.Omega.{arith}
use borrow.Author.Tests.{le-leb}
use lib.Dec.{eqb}
use lib.ListN.{length, get_or}
use Rattle.der.specs.Forms.{Forms}
use Rattle.der.specs.Heading.{identifier_good, constructed}
use Rattle.der.specs.Fast.{stretch, Reads, Leaf}
use Rattle.der.proofs.Laws.{unjudged, turned}
use Rattle.der.proofs.Flat.{leaf-unjudged, leaf-reads}
use Rattle.der.proofs.fast.primitive.Goals as goal

-- an identifier above the universal class
leaf-high : (tag : ℕ) (c : List ℕ) → 63 < tag → not (eqb (tag % 32) 31) ≡ true → constructed tag ≡ false → Leaf tag c
unfolding identifier_good
leaf-high tag c high e primitive =
    let above : 64 ≤ tag = omega arith in
    record { known = simp (turned (eqb (tag % 32) 31) e, le-leb _ _ above); primitive = primitive; good = unjudged tag c (omega arith) }

good-reads : (s : List ℕ) (i e : ℕ) → i + 2 ≤ e → e ≤ length s → get_or s (i + 1) 0 < 128 → i + 2 + get_or s (i + 1) 0 ≤ e
    → Leaf (get_or s i 0) (stretch s (i + 2) (i + 2 + get_or s (i + 1) 0))
    → (forms : Forms) (depth count : ℕ) → depth ≤ forms.depth → count < forms.elements → Reads forms (stretch s i e) depth count (2 + get_or s (i + 1) 0) (count + 1)
good-reads s i e two inside short fits leaf forms depth count deep few =
    let used : i + 2 + get_or s (i + 1) 0 - i ≡ 2 + get_or s (i + 1) 0 = omega arith in
    subst (λ n. Reads forms (stretch s i e) depth count n (count + 1)) used (leaf-reads forms s i e two inside refl fits short leaf.known depth count deep few leaf.primitive leaf.good)

pub returns-then-tag-gt63 : goal.returns-then-tag-gt63
returns-then-tag-gt63 c = λ e.
    good-reads c.args.s.now c.args.at c.args.end c.requires.0 c.requires.1 c.if-size-ge128.false c.if-end-after.false
    (leaf-high _ _ c.if-tag-gt63.true e c.requires.3)

pub returns-then-unjudged : goal.returns-then-unjudged
returns-then-unjudged c = λ e.
    good-reads c.args.s.now c.args.at c.args.end c.requires.0 c.requires.1 c.if-size-ge128.false c.if-end-after.false
    (leaf-unjudged (c.unjudged.ensures e))

pub returns-else-unjudged : goal.returns-else-unjudged
returns-else-unjudged c = λ e.
    good-reads c.args.s.now c.args.at c.args.end c.requires.0 c.requires.1 c.if-size-ge128.false c.if-end-after.false
    (c.judged.ensures e)
