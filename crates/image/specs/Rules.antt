-- The rules of the trust image, by number.
use Rattle.std.specs.Prelude.{ℕ, zero, suc, ◌+◌, ◌*◌, Bool, true, false, cond, ◌&&◌, List, [], ◌∷◌, leb, eqb, length, Option, Some, None}
use Rattle.calendar.specs.Days.{real_day}
use Rattle.image.specs.declared.IndexEntry.{IndexEntry}
use Rattle.image.specs.Index.{field, index_start, entry_count, version_in, day_in, width, entry_at}

-- 1: 12 to 262,144 bytes
unfoldable pub rule1 : List ℕ → Bool
rule1 s = leb 12 (length s) && leb (length s) 262144

-- 2: the version is one that is read; for reading these are 1 to 2, a move or a check reads one of them alone
unfoldable pub rule2 : ℕ → ℕ → List ℕ → Bool
rule2 least most s = leb least (version_in s) && leb (version_in s) most

-- 3: at most 96 entries
unfoldable pub rule3 : List ℕ → Bool
rule3 s = leb (entry_count s) 96

-- 4: day real, years 1950 to 2099
unfoldable pub rule4 : List ℕ → Bool
rule4 s = real_day 1950 2099 (day_in s)

-- 5: index start + width x entries + 12 = image length
unfoldable pub rule5 : List ℕ → Bool
rule5 s = eqb (index_start s + width (version_in s) * entry_count s + 12) (length s)

-- kind 1 to 4, flags 0 or 1 for an anchor and 0 for any other, length 1 to 16,384
unfoldable pub fields_good : ℕ → ℕ → ℕ → Bool
fields_good kind flags size =
    leb 1 kind && (leb kind 4 && (cond (eqb kind 1) (leb flags 1) (eqb flags 0) && (leb 1 size && leb size 16384)))

-- an entry whose offset is the sum of the lengths before it
unfoldable pub entry_good : IndexEntry → ℕ → Bool
entry_good e sum = fields_good e.kind e.flags e.length && eqb e.offset sum

-- the two octets behind the letters are zeros
unfoldable pub padded : ℕ → List ℕ → ℕ → Bool
padded version s at = cond (eqb version 2) (eqb (field s (at + 10) 2) 0) true

-- 6: each entry; the sum of all lengths where each is good
unfoldable pub sum_of : ℕ → List ℕ → ℕ → ℕ → ℕ → Option ℕ
sum_of version s at zero sum = Some sum
sum_of version s at (suc left) sum =
    cond (entry_good (entry_at version s at) sum && padded version s at)
    (sum_of version s (at + width version) left (sum + (entry_at version s at).length))
    None

unfoldable pub total_of : List ℕ → Option ℕ
total_of s = sum_of (version_in s) s (index_start s) (entry_count s) 0

unfoldable pub fit : Option ℕ → Bool
fit (Some sum) = true
fit None = false

unfoldable pub rule6 : List ℕ → Bool
rule6 s = fit (total_of s)

-- 7: all lengths sum to the index start
unfoldable pub summed : ℕ → Option ℕ → Bool
summed start (Some sum) = eqb sum start
summed start None = false

unfoldable pub rule7 : List ℕ → Bool
rule7 s = summed (index_start s) (total_of s)

unfoldable pub rules : ℕ → ℕ → List ℕ → List Bool
rules least most s = rule1 s ∷ rule2 least most s ∷ rule3 s ∷ rule4 s ∷ rule5 s ∷ rule6 s ∷ rule7 s ∷ []
