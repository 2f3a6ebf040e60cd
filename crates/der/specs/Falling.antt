-- What the test of a member against the one before it promises. No public promise cites this.
use Rattle.std.specs.Prelude.{ℕ, ◌+◌, ◌*◌, ◌≤◌, List, [], ◌≡◌, length, Err}
use Rattle.refusal.specs.declared.Refusal.TheVariants.{Der}
use Rattle.der.specs.Forms.{Forms}
use Rattle.der.specs.Walk.{element_at}

-- the first fault of the element at the front of s is that it is smaller than `prior`
abbrev pub Falls : Forms → List ℕ → List ℕ → ℕ → ℕ → Type 0
Falls forms prior s depth count =
    (base fuel : ℕ) → 2 * length s + 1 ≤ fuel → Err (Der base) ≡ element_at fuel forms prior s base depth count

-- it is read as where no order is asked
abbrev pub Stands : Forms → List ℕ → List ℕ → ℕ → ℕ → Type 0
Stands forms prior s depth count = (base fuel : ℕ) → element_at fuel forms [] s base depth count ≡ element_at fuel forms prior s base depth count
