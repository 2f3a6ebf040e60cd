-- What the fast paths of the walk promise, of a stretch of octets that they read without telling a fault. No public promise
-- cites this.
use Rattle.std.specs.Prelude.{ℕ, ◌+◌, ◌-◌, ◌*◌, ◌≤◌, Bool, true, false, List, [], ◌≡◌, length, get_or, take, drop, Ok}
use Rattle.der.specs.Forms.{Forms}
use Rattle.der.specs.Heading.{identifier_good, constructed}
use Rattle.der.specs.Contents.{contents_good}
use Rattle.der.specs.Order.{is_set}
use Rattle.der.specs.Walk.{element_at, list_at}

-- the octets from one offset to another
abbrev pub stretch : List ℕ → ℕ → ℕ → List ℕ
stretch s i e = take (e - i) (drop i s)

-- the element at the front of s is read, and takes `used` octets
abbrev pub Reads : Forms → List ℕ → ℕ → ℕ → ℕ → ℕ → Type 0
Reads forms s depth count used m = (base fuel : ℕ) → 2 * length s + 1 ≤ fuel → Ok (record { used = used; count = m }) ≡ element_at fuel forms [] s base depth count

-- the elements that fill s are read, `set` where they are the members of a SET
abbrev pub Fills : Forms → Bool → List ℕ → ℕ → ℕ → ℕ → Type 0
Fills forms set s depth count m = (base fuel : ℕ) → 2 * length s + 2 ≤ fuel → Ok m ≡ list_at fuel forms set [] s base depth count

-- the header of a SEQUENCE that ends at e
pub record Last (s : List ℕ) (i e : ℕ) : Type 0 where
  pub tag : get_or s i 0 ≡ 48
  pub ends : i + 2 + get_or s (i + 1) 0 ≡ e

-- where the leaves of an element that ends at e start: behind its own header, or behind that of a SET and that of the SEQUENCE which fills it
pub data Headed (s : List ℕ) (i e left count : ℕ) : ℕ → ℕ → ℕ → Type 0 where
  one : identifier_good (get_or s i 0) ≡ true → is_set (get_or s i 0) ≡ false → Headed s i e left count (i + 2) (left - 1) (count + 1)
  two : get_or s i 0 ≡ 49 → 3 ≤ left → i + 4 ≤ e → Last s (i + 2) e → Headed s i e left count (i + 4) (left - 2) (count + 2)

-- an identifier of a primitive whose contents are not judged
pub record Unjudged (tag : ℕ) : Type 0 where
  pub known : identifier_good tag ≡ true
  pub primitive : constructed tag ≡ false
  pub unjudged : (c : List ℕ) → contents_good tag c ≡ true

-- an identifier of a primitive, with contents that nothing is wrong with
pub record Leaf (tag : ℕ) (c : List ℕ) : Type 0 where
  pub known : identifier_good tag ≡ true
  pub primitive : constructed tag ≡ false
  pub good : contents_good tag c ≡ true
