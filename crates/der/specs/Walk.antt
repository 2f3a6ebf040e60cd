-- The walk: an element before its members, left to right, and the first fault met.
use Rattle.std.specs.Prelude.{ℕ, zero, suc, ◌+◌, ◌*◌, Bool, cond, List, [], leb, ltb, eqb, length, get_or, take, drop, Option, Some, None, Result, Ok, Err}
use Rattle.refusal.specs.declared.Refusal.TheVariants.{Der, Limit}
use Rattle.der.specs.declared.heading.Heading.{Heading}
use Rattle.der.specs.declared.walking.Read.{Read}
use Rattle.refusal.specs.declared.Refusal.{Refusal}
use Rattle.der.specs.Forms.{Forms}
use Rattle.der.specs.Heading.{heading_of, constructed}
use Rattle.der.specs.Contents.{contents_good}
use Rattle.der.specs.Order.{smaller, is_set, handed}

-- what follows a header, or the fault where there is none
unfoldable pub opened : Option Heading → Result Read Refusal → (ℕ → ℕ → ℕ → Result Read Refusal) → Result Read Refusal
opened None fault next = fault
opened (Some h) fault next = next h.tag h.skip h.size

-- an element whose members have been read
unfoldable pub filled : ℕ → Result ℕ Refusal → Result Read Refusal
filled used (Ok count) = Ok (record { used = used; count = count })
filled used (Err refusal) = Err refusal

-- what follows an element, or its fault
unfoldable pub after : Result Read Refusal → (ℕ → ℕ → Result ℕ Refusal) → Result ℕ Refusal
after (Err refusal) next = Err refusal
after (Ok r) next = next r.used r.count

-- `element_at` reads the element at the front of s, `list_at` the elements that fill s, `set` where they are the members of a SET.
-- `prior` are the octets of the member before, none where no order is asked. Offsets count from `base`, the element stands at
-- `depth`, `count` elements were read before. The first number only makes the definition end: from 2 * length s + 2 on it changes
-- nothing.
unfoldable mutual
  pub element_at : ℕ → Forms → List ℕ → List ℕ → ℕ → ℕ → ℕ → Result Read Refusal
  element_at zero forms prior s base depth count = Err (Der base)
  element_at (suc fuel) forms prior s base depth count =
      opened (heading_of forms s) (Err (Der base)) λ tag skip size.
      cond (ltb forms.depth depth) (Err (Limit base))
      (cond (leb forms.elements count) (Err (Limit base))
      (cond (smaller (take (skip + size) s) prior) (Err (Der base))
      (cond (constructed (get_or s 0 0))
      (filled (skip + size) (list_at fuel forms (is_set tag) [] (take size (drop skip s)) (base + skip) (depth + 1) (count + 1)))
      (cond (contents_good tag (take size (drop skip s))) (Ok (record { used = (skip + size); count = (count + 1) })) (Err (Der base))))))

  pub list_at : ℕ → Forms → Bool → List ℕ → List ℕ → ℕ → ℕ → ℕ → Result ℕ Refusal
  list_at zero forms set prior s base depth count = Err (Der base)
  list_at (suc fuel) forms set prior s base depth count =
      cond (eqb (length s) 0) (Ok count)
      (after (element_at fuel forms prior s base depth count) λ used n.
      list_at fuel forms set (handed set (take used s)) (drop used s) (base + used) depth n)

-- the outermost element fills the item: octets after it are told last
unfoldable pub whole : ℕ → Result Read Refusal → Result ℕ Refusal
whole n (Err refusal) = Err refusal
whole n (Ok r) = cond (eqb r.used n) (Ok r.count) (Err (Der r.used))

unfoldable pub walk_of : Forms → List ℕ → Result ℕ Refusal
walk_of forms s =
    cond (ltb forms.item_size (length s)) (Err (Limit 0))
    (whole (length s) (element_at (2 * length s + 2) forms [] s 0 1 0))

-- the count that an answer tells: 0 in a refusal
unfoldable pub counted : Result ℕ Refusal → ℕ
counted (Ok count) = count
counted (Err refusal) = 0
