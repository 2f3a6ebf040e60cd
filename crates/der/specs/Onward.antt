-- How far the reader of a list comes without a call. No public promise cites this.
use Rattle.std.specs.Prelude.{ℕ, ◌+◌, ◌-◌, ◌*◌, ◌≤◌, ◌<◌, Bool, true, false, List, [], ◌≡◌, length, get_or, drop, Some}
use Rattle.der.specs.declared.limits.Limits.{Limits}
use Rattle.der.specs.Forms.{Forms}
use Rattle.der.specs.Given.{Given}
use Rattle.der.specs.Heading.{heading_of, constructed}
use Rattle.der.specs.Order.{is_set}
use Rattle.der.specs.Walk.{list_at}
use Rattle.der.specs.Fast.{stretch}

-- a list comes to the same from `at` on, at `depth` with `count` elements read, and from `to` on, at `deep` with `read`
abbrev pub Goes : Forms → List ℕ → ℕ → ℕ → ℕ → ℕ → ℕ → ℕ → Type 0
Goes forms s at depth count to deep read =
    (base fuel : ℕ) → 2 * (length s - at) + 2 ≤ fuel
    → (rest : ℕ) × (2 * (length s - to) + 2 ≤ rest)
    × (list_at fuel forms false [] (drop at s) (base + at) depth count ≡ list_at rest forms false [] (drop to s) (base + to) deep read)

-- so it does for all forms with these limits, and `to` is farther
pub record Onward (limits : Limits) (s : List ℕ) (at left count to deep read : ℕ) : Type 0 where
  pub farther : at < to
  pub inside : to ≤ length s
  pub levels : deep ≤ left
  pub few : read ≤ limits.most
  pub goes : (forms : Forms) → Given limits left forms → Goes forms s at (forms.depth + 1 - left) count to (forms.depth + 1 - deep) read

-- the element at `at` ends where s ends, and its members, `set` where it is a SET, start at `to`
pub record Into (limits : Limits) (s : List ℕ) (at : ℕ) (set : Bool) (to : ℕ) : Type 0 where
  pub tag : ℕ
  pub heads : (forms : Forms) → forms.length_octets ≡ limits.digits → forms.wide_tags ≡ limits.wide
      → heading_of forms (stretch s at (length s)) ≡ Some (record { tag = tag; skip = (to - at); size = (length s - to) })
  pub node : constructed (get_or s at 0) ≡ true
  pub kind : is_set tag ≡ set

-- the element at `at` is all of s from there on, no SET, and may stand there
pub record Sole (limits : Limits) (s : List ℕ) (at left count to deep read : ℕ) : Type 0 where
  pub into : Into limits s at false to
  pub some : 1 ≤ left
  pub few : count < limits.most
  pub levels : deep ≡ left - 1
  pub counted : read ≡ count + 1
