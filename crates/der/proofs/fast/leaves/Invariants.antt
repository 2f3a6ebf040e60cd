use Prim.Native.Nat.{ℕ, ◌+◌, ◌-◌, ◌*◌, ◌≤◌}
use mathlib.Core.Bool.{false}
use mathlib.Core.List.{List}
use Rattle.der.specs.Forms.{Forms}
use Rattle.der.specs.Fast.{stretch, Fills}
use Rattle.der.proofs.fast.leaves.Given as goal

-- what is left, from octet `i` on, `deep` levels from the deepest, where so many elements are within the limit
abbrev pub Left : List ℕ → ℕ → ℕ → ℕ → ℕ → ℕ → ℕ → ℕ → Type 0
Left s from end left count i read deep =
    (forms : Forms) → read ≤ forms.elements → left ≤ forms.depth
    → (m : ℕ) → Fills forms false (stretch s i end) (forms.depth + 1 - deep) read m → Fills forms false (stretch s from end) (forms.depth + 1 - left) count m

abbrev pub invariant-loop-i : goal.invariant-loop-i
invariant-loop-i l =
    (l.i ≤ l.end + 257) × (l.initial.i ≤ l.i) × (1 ≤ l.deep) × (l.deep ≤ l.initial.deep)
    × (l.i ≤ l.end → (l.initial.read ≤ l.read) × (2 * l.read + l.initial.i ≤ 2 * l.initial.read + l.i)
    × Left l.s l.initial.i l.end l.initial.deep l.initial.read l.i l.read l.deep)

abbrev pub decreases-loop-i : goal.decreases-loop-i
decreases-loop-i l = l.end - l.i
