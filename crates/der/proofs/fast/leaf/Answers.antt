-- Each test that passes leaves one way through the definition of an element: the leaf.
use Prim.Native.Nat.{ℕ, ◌+◌, ◌-◌, ◌≤◌, ◌<◌}
use mathlib.Core.List.{List}
use mathlib.Core.Path.{refl, sym, ◌∙◌}
use native.Mathlib.Omega.{arith}
use lib.ListN.{length, get_or}
use Rattle.der.specs.Forms.{Forms}
use Rattle.der.specs.Fast.{stretch, Reads, Leaf}
use Rattle.der.proofs.Flat.{leaf-integer, leaf-oid, leaf-unjudged, leaf-reads}
use Rattle.der.proofs.fast.leaf.Goals as goal

-- a leaf that ends where it may
answer : (s : List ℕ) (i e : ℕ) → i + 2 ≤ e → e ≤ i + 127 → e ≤ length s → get_or s (i + 1) 0 < 256
    → Leaf (get_or s i 0) (stretch s (i + 2) (i + 2 + get_or s (i + 1) 0))
    → (i + 2 ≤ i + 2 + get_or s (i + 1) 0) × (i + 2 + get_or s (i + 1) 0 ≤ i + 257)
    × (i + 2 + get_or s (i + 1) 0 ≤ e → (forms : Forms) (depth count : ℕ) → depth ≤ forms.depth → count < forms.elements
    → Reads forms (stretch s i e) depth count (i + 2 + get_or s (i + 1) 0 - i) (count + 1))
answer s i e two near inside octet leaf = (
  omega arith,
  omega arith,
  λ fits forms depth count deep few. leaf-reads forms s i e two inside refl fits (omega arith) leaf.known depth count deep few leaf.primitive leaf.good,
)

pub returns-then-tag-eq6 : goal.returns-then-tag-eq6
returns-then-tag-eq6 c =
    answer _ _ _ c.requires.0 c.requires.1 c.requires.2 (c.type_inv.s (c.args.i + 1)).fits
    (leaf-oid c.if-tag-eq6.true (sym c.oid_good.ensures ∙ c.if-not-oid_good.false))

pub returns-then-tag-eq2 : goal.returns-then-tag-eq2
returns-then-tag-eq2 c =
    answer _ _ _ c.requires.0 c.requires.1 c.requires.2 (c.type_inv.s (c.args.i + 1)).fits
    (leaf-integer c.if-tag-eq2.true (sym c.integer_good.ensures ∙ c.if-not-integer_good.false))

pub returns-then-unjudged : goal.returns-then-unjudged
returns-then-unjudged c =
    answer _ _ _ c.requires.0 c.requires.1 c.requires.2 (c.type_inv.s (c.args.i + 1)).fits (leaf-unjudged (c.unjudged.ensures c.if-unjudged.true))

pub returns : goal.returns
returns c = answer _ _ _ c.requires.0 c.requires.1 c.requires.2 (c.type_inv.s (c.args.i + 1)).fits (c.judged.ensures c.if-not-judged.false)
