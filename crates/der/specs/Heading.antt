-- The identifier and length octets of an element, and whether it ends within what holds it.
use Rattle.std.specs.Prelude.{ℕ, ◌+◌, ◌-◌, ◌*◌, ◌/◌, ◌%◌, ◌^◌, max, Bool, true, false, cond, ◌&&◌, List, leb, ltb, eqb, length, get_or, take, drop, Option, Some, None}
use Rattle.der.specs.declared.heading.Heading.{Heading}
use Rattle.der.specs.Forms.{Forms}
use Rattle.octets.specs.Octets.{number}

-- X.690 8.1.2.5: bit 6 of the first octet tells constructed from primitive
unfoldable pub constructed : ℕ → Bool
constructed first = eqb (first / 32 % 2) 1

-- A tag of one octet: tag number 31 is refused. Of the universal class, below 64, tag 0 is refused, 16 and 17 are
-- constructed and every other is primitive, below 32.
unfoldable pub identifier_good : ℕ → Bool
identifier_good tag =
    cond (eqb (tag % 32) 31) false
    (cond (leb 64 tag) true
    (cond (eqb (tag % 32) 0) false
    (cond (eqb (tag % 32) 16) (leb 32 tag)
    (cond (eqb (tag % 32) 17) (leb 32 tag)
    (ltb tag 32)))))

-- the end of the element lies within s
unfoldable pub within : List ℕ → ℕ → ℕ → ℕ → Option Heading
within s tag skip size = cond (leb (skip + size) (length s)) (Some (record { tag = tag; skip = skip; size = size })) None

-- the smallest length that needs k octets after the first: 128 for one, 256 for two
unfoldable pub smallest : ℕ → ℕ
smallest k = max 128 (256 ^ (k - 1))

-- the long form of k octets from `at` on, no more than needed
unfoldable pub long : Forms → List ℕ → ℕ → ℕ → ℕ → Option Heading
long forms s tag at k =
    cond (leb 1 k && (leb k forms.length_octets && leb (at + k) (length s)))
    (cond (leb (smallest k) (number (take k (drop at s)))) (within s tag (at + k) (number (take k (drop at s)))) None)
    None

-- the length octets, the first of them at `at`
unfoldable pub sized : Forms → List ℕ → ℕ → ℕ → Option Heading
sized forms s tag at =
    cond (leb (length s) at) None
    (cond (ltb (get_or s at 0) 128) (within s tag (at + 1) (get_or s at 0)) (long forms s tag (at + 1) (get_or s at 0 - 128)))

-- A tag of two octets, where the forms have them: a first with tag number 31, of the universal class primitive (3F is
-- refused), and a second of 1F to 7F.
unfoldable pub wide_good : ℕ → ℕ → Bool
wide_good first second =
    cond (eqb (first % 32) 31)
    (cond (eqb first 63) false
    (cond (ltb second 31) false
    (leb second 127)))
    false

unfoldable pub wide_heading : Forms → List ℕ → Option Heading
wide_heading forms s =
    cond forms.wide_tags
    (cond (wide_good (get_or s 0 0) (get_or s 1 0)) (sized forms s (get_or s 0 0 * 256 + get_or s 1 0) 2) None)
    None

-- the element at the front of s: its tag, which is the number of its one octet or of its two, the octets of its header, the
-- octets of its contents
unfoldable pub heading_of : Forms → List ℕ → Option Heading
heading_of forms s =
    cond (ltb (length s) 2) None
    (cond (identifier_good (get_or s 0 0)) (sized forms s (get_or s 0 0) 1) (wide_heading forms s))
