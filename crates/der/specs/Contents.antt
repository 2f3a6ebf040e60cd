-- The contents octets of the primitive universal types that are judged.
use Rattle.std.specs.Prelude.{ℕ, ◌-◌, ◌%◌, ◌^◌, Bool, true, false, cond, ◌&&◌, List, [], ◌∷◌, leb, ltb, eqb, length, get_or}

-- X.690 8.2, 11.1: one octet, 00 or FF
unfoldable pub boolean_good : List ℕ → Bool
boolean_good c = cond (eqb (length c) 1) (cond (eqb (get_or c 0 0) 0) true (eqb (get_or c 0 0) 255)) false

-- X.690 8.3: at least one octet, the first nine bits not all alike
unfoldable pub integer_good : List ℕ → Bool
integer_good c =
    cond (eqb (length c) 0) false
    (cond (eqb (length c) 1) true
    (cond (eqb (get_or c 0 0) 0) (leb 128 (get_or c 1 0))
    (cond (eqb (get_or c 0 0) 255) (ltb (get_or c 1 0) 128)
    true)))

-- X.690 8.6, 11.2: at least one octet, the first 0 to 7, and 0 if it is alone; the unused bits zero
unfoldable pub bit_string_good : List ℕ → Bool
bit_string_good c =
    cond (eqb (length c) 0) false
    (cond (ltb 7 (get_or c 0 0)) false
    (cond (eqb (length c) 1) (eqb (get_or c 0 0) 0)
    (eqb (get_or c (length c - 1) 0 % 2 ^ get_or c 0 0) 0)))

-- sub-identifiers to the end; `starts` says that one starts at the front, none with 80
unfoldable pub sub_identifiers : Bool → List ℕ → Bool
sub_identifiers starts [] = starts
sub_identifiers starts (o ∷ rest) = cond (starts && eqb o 128) false (sub_identifiers (ltb o 128) rest)

-- X.690 8.19: not empty, the last octet below 80, no sub-identifier starting with 80
unfoldable pub oid_good : List ℕ → Bool
oid_good c = cond (eqb (length c) 0) false (sub_identifiers true c)

-- BOOLEAN 1, INTEGER 2, BIT STRING 3, NULL 5, OID 6; no other primitive is judged
unfoldable pub contents_good : ℕ → List ℕ → Bool
contents_good tag c =
    cond (eqb tag 1) (boolean_good c)
    (cond (eqb tag 2) (integer_good c)
    (cond (eqb tag 3) (bit_string_good c)
    (cond (eqb tag 5) (eqb (length c) 0)
    (cond (eqb tag 6) (oid_good c)
    true))))
