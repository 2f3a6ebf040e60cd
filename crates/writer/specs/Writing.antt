-- Writing an image of a version from packed items, their kinds, flags, lengths and letters, and a day: refusals 1, 3 and 9 in that
-- order; the image, and every octet of the lent output.
use Rattle.std.specs.Prelude.{ℕ, ◌+◌, ◌*◌, Bool, true, cond, ◌&&◌, List, [], ◌∷◌, ◌++◌, leb, eqb, length, get_or, take, drop, Result, Ok, Err}
use Rattle.refusal.specs.declared.Refusal.TheVariants.{Argument, Limit, Short}
use Rattle.calendar.specs.Days.{real_day}
use Rattle.image.specs.Items.{Item, image_bytes}
use Rattle.image.specs.Index.{width}
use Rattle.image.specs.Rules.{fields_good}
use Rattle.refusal.specs.declared.Refusal.{Refusal}

-- kind, flags and length of each item in their ranges
unfoldable pub rows_good : List ℕ → List ℕ → List ℕ → Bool
rows_good [] flags lengths = true
rows_good (kind ∷ rest) flags lengths =
    fields_good kind (get_or flags 0 0) (get_or lengths 0 0) && rows_good rest (drop 1 flags) (drop 1 lengths)

unfoldable pub sum_all : List ℕ → ℕ
sum_all [] = 0
sum_all (size ∷ rest) = size + sum_all rest

-- a version that there is
unfoldable pub version_good : ℕ → Bool
version_good version = leb 1 version && leb version 2

-- not over 96 items, as many flags and lengths as kinds, and two letters an item
unfoldable pub counts_good : List ℕ → List ℕ → List ℕ → List ℕ → Bool
counts_good kinds flags lengths letters =
    leb (length kinds) 96
    && (eqb (length flags) (length kinds)
    && (eqb (length lengths) (length kinds) && eqb (length letters) (2 * length kinds)))

-- any letters in version 2, zeros in version 1
unfoldable pub zeros : List ℕ → Bool
zeros [] = true
zeros (x ∷ rest) = eqb x 0 && zeros rest

unfoldable pub letters_good : ℕ → List ℕ → Bool
letters_good version letters = cond (eqb version 2) true (zeros letters)

-- 1: a version, a day, a number of items, a field or letters out of range, or lengths that do not sum to the octets
unfoldable pub arguments_good : ℕ → List ℕ → List ℕ → List ℕ → List ℕ → List ℕ → ℕ → Bool
arguments_good version packed kinds flags lengths letters day =
    version_good version
    && (real_day 1950 2099 day
    && (counts_good kinds flags lengths letters
    && (rows_good kinds flags lengths && (eqb (sum_all lengths) (length packed) && letters_good version letters))))

unfoldable pub size_of : ℕ → List ℕ → List ℕ → ℕ
size_of version packed kinds = length packed + width version * length kinds + 12

-- 3 for an image over 262,144 octets, 9 for an output without room for it
unfoldable pub written_of : ℕ → List ℕ → List ℕ → List ℕ → List ℕ → List ℕ → ℕ → ℕ → Result ℕ Refusal
written_of version packed kinds flags lengths letters day room =
    cond (arguments_good version packed kinds flags lengths letters day)
    (cond (leb (size_of version packed kinds) 262144)
    (cond (leb (size_of version packed kinds) room) (Ok (size_of version packed kinds)) (Err Short))
    (Err (Limit 0)))
    (Err Argument)

-- the items, cut from the packed octets
unfoldable pub items_of : List ℕ → List ℕ → List ℕ → List ℕ → List ℕ → List Item
items_of [] flags lengths letters packed = []
items_of (kind ∷ rest) flags lengths letters packed =
    record {
      kind = kind;
      flags = get_or flags 0 0;
      bytes = take (get_or lengths 0 0) packed;
      first = get_or letters 0 0;
      second = get_or letters 1 0;
    }
    ∷ items_of rest (drop 1 flags) (drop 1 lengths) (drop 2 letters) (drop (get_or lengths 0 0) packed)

-- the output after the call: the image and what stood beyond it; as it was on a refusal
unfoldable pub on_written : Result ℕ Refusal → List ℕ → List ℕ → List ℕ
on_written (Err refusal) image old = old
on_written (Ok size) image old = image ++ drop size old

unfoldable pub output_of : ℕ → List ℕ → List ℕ → List ℕ → List ℕ → List ℕ → ℕ → List ℕ → List ℕ
output_of version packed kinds flags lengths letters day old =
    on_written (written_of version packed kinds flags lengths letters day (length old))
    (image_bytes version (items_of kinds flags lengths letters packed) day)
    old
