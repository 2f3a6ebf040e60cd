-- What is kept of the items of places and made of it, table by table. Promises between crates cite this, and none that a user can
-- call: that the tables mean the definitions of usable places and good steps is proved.
use Rattle.std.specs.Prelude.{ℕ, zero, suc, ◌+◌, ◌*◌, ◌<◌, ◌≡◌, Bool, true, false, cond, List, [], ◌∷◌, eqb, length, get_or, take, drop, Result, Ok, Err}
use Rattle.der.specs.Forms.{paper}
use Rattle.certificate.specs.declared.Fields as certificate
use Rattle.refusal.specs.declared.Refusal.{Refusal}
use Rattle.certificate.specs.declared.Fields.{Fields}
use Rattle.certificate.specs.Answer.{judged_of}
use Rattle.crl.specs.declared.Fields as list
use Rattle.crl.specs.Answer as lists
use Rattle.crl.specs.Listed.{listed_of}
use Rattle.octets.specs.Alike.{alike}
use Rattle.image.specs.Items.{Item}
use Rattle.usable.specs.declared.opened.Row.{Row}
use Rattle.usable.specs.Items.{some_below, within}
use Rattle.usable.specs.Table.{verdict_in}

-- a row from its numbers, in the order of its fields; numbers that are left out are 0
abbrev pub row_from : List ℕ → Row
row_from cells =
    record {
      standing = get_or cells 0 0;
      first = get_or cells 1 0;
      second = get_or cells 2 0;
      at = get_or cells 3 0;
      size = get_or cells 4 0;
      issuer_at = get_or cells 5 0;
      issuer_len = get_or cells 6 0;
      from = get_or cells 7 0;
      end = get_or cells 8 0;
      subject_at = get_or cells 9 0;
      subject_len = get_or cells 10 0;
      serial_at = get_or cells 11 0;
      serial_len = get_or cells 12 0;
      own_at = get_or cells 13 0;
      own_len = get_or cells 14 0;
      authority_at = get_or cells 15 0;
      authority_len = get_or cells 16 0;
    }

-- nothing that could stand in a chain
unfoldable pub blank : Row
blank = row_from []

-- what every row tells: standing, letters, where the item stands, and where its issuer
abbrev pub common : ℕ → ℕ → ℕ → Item → ℕ → ℕ → ℕ → List ℕ → Row
common standing first second item at issuer len rest =
    row_from (standing ∷ first ∷ second ∷ at ∷ length item.bytes ∷ issuer ∷ len ∷ rest)

-- the row of a certificate, and that of a CRL, whose first octet is number `at` of the octets that the items stand in
abbrev pub certificate_told : Item → ℕ → certificate.Fields → Row
certificate_told item at f =
    common item.kind f.first f.second item at f.issuer_at f.issuer_len
    (0 ∷ 0 ∷ f.subject_at ∷ f.subject_len ∷ f.serial_at ∷ f.serial_len ∷ f.subject_key_at ∷ f.subject_key_len
    ∷ f.authority_key_at ∷ f.authority_key_len ∷ [])

abbrev pub list_told : Item → ℕ → list.Fields → Row
list_told item at f =
    common 4 f.first f.second item at f.issuer_at f.issuer_len (f.entries_from ∷ f.entries_end ∷ [])

-- a certificate that passes, at a moment within its times
unfoldable pub certificate_row : ℕ → Item → ℕ → Result Fields Refusal → Row
certificate_row moment item at (Err refusal) = blank
certificate_row moment item at (Ok f) = cond (within f.start f.end moment) (certificate_told item at f) blank

-- a CRL that passes, at a moment from this update to next update
unfoldable pub list_row : ℕ → Item → ℕ → Result list.Fields Refusal → Row
list_row moment item at (Err refusal) = blank
list_row moment item at (Ok f) = cond (within f.this_update f.next_update moment) (list_told item at f) blank

-- the row of an item; a disabled anchor has none
unfoldable pub row_of : ℕ → Item → ℕ → Row
row_of moment item at =
    cond (eqb item.kind 4) (list_row moment item at (lists.judged_of paper item.bytes))
    (cond (eqb item.kind 1)
    (cond (eqb item.flags 1) (certificate_row moment item at (judged_of item.bytes item.kind)) blank)
    (certificate_row moment item at (judged_of item.bytes item.kind)))

-- the row of a place in a table
unfoldable pub row_at : List (List ℕ) → ℕ → Row
row_at rows place = row_from (get_or rows place [])

-- 1 for what is so
unfoldable pub flag : Bool → ℕ
flag so = cond so 1 0

-- two rows with the same letters
unfoldable pub same_letters : Row → Row → Bool
same_letters a b = cond (eqb a.first b.first) (eqb a.second b.second) false

-- a usable anchor of a CRL's country that has verdict 1 for it
unfoldable pub vouched_by : ℕ → List ℕ → List (List ℕ) → ℕ → ℕ → Bool
vouched_by n table rows list anchor =
    cond (eqb (row_at rows anchor).standing 1)
    (cond (verdict_in n table anchor list) (same_letters (row_at rows anchor) (row_at rows list)) false)
    false

unfoldable pub counted_of : ℕ → List ℕ → List (List ℕ) → ℕ → Bool
counted_of n table rows list = cond (eqb (row_at rows list).standing 4) (some_below n (vouched_by n table rows list)) false

-- the table of counting CRLs
abbrev pub Counted : ℕ → List ℕ → List (List ℕ) → List ℕ → Type 0
Counted n table rows counting = (c : ℕ) → c < n → get_or counting c 0 ≡ flag (counted_of n table rows c)

-- the octets of the item that a row tells of, where all items stand in some octets
unfoldable pub held_in : List ℕ → Row → List ℕ
held_in s row = take row.size (drop row.at s)

-- a part of the item of a row, by what is held where the row says
unfoldable pub piece_of : (Row → List ℕ) → Row → ℕ → ℕ → List ℕ
piece_of held row at size = take size (drop at (held row))

unfoldable pub lists_of : (Row → List ℕ) → Row → Row → Bool
lists_of held list row = listed_of paper (held list) list.from list.end (piece_of held row row.serial_at row.serial_len)

-- what one more counting CRL says: 0 none covers the certificate, 1 one covers it, 2 one that covers it lists its serial
unfoldable pub spoken_of : (Row → List ℕ) → Row → Row → ℕ → ℕ
spoken_of held list row before = cond (eqb before 2) 2 (cond (same_letters row list) (cond (lists_of held list row) 2 1) before)

-- what so many CRLs say
unfoldable pub spoken_below : (Row → List ℕ) → List (List ℕ) → List ℕ → Row → ℕ → ℕ
spoken_below held rows counting row zero = 0
spoken_below held rows counting row (suc c) =
    cond (eqb (get_or counting c 0) 1) (spoken_of held (row_at rows c) row (spoken_below held rows counting row c))
    (spoken_below held rows counting row c)

-- a link or a signer
unfoldable pub signed_of : Row → Bool
signed_of row = cond (eqb row.standing 2) true (eqb row.standing 3)

-- 1 a usable anchor, 2 a usable link, 3 a usable signer, else 0
unfoldable pub role_by : Row → ℕ → ℕ
role_by row spoken =
    cond (signed_of row) (cond (eqb spoken 1) (cond (eqb row.standing 2) 2 3) 0) (cond (eqb row.standing 1) 1 0)

unfoldable pub role_of : (Row → List ℕ) → ℕ → List (List ℕ) → List ℕ → Row → ℕ
role_of held n rows counting row = role_by row (cond (signed_of row) (spoken_below held rows counting row n) 0)

-- a place that a table marks
unfoldable pub is_near : List ℕ → ℕ → Bool
is_near near place = eqb (get_or near place 0) 1

-- the role of a place, where it was known before as it was
unfoldable pub role_in : (Row → List ℕ) → ℕ → List ℕ → List (List ℕ) → List ℕ → List ℕ → ℕ → ℕ
role_in held n before rows counting roles p = cond (is_near before p) (get_or roles p 0) (role_of held n rows counting (row_at rows p))

-- the table of roles
abbrev pub Roles : (Row → List ℕ) → ℕ → List ℕ → List (List ℕ) → List ℕ → List ℕ → List ℕ → Type 0
Roles held n before rows counting roles more = (p : ℕ) → p < n → get_or more p 0 ≡ role_in held n before rows counting roles p

-- an anchor or a link, and a link or a signer
unfoldable pub leads_of : ℕ → Bool
leads_of role = cond (eqb role 1) true (eqb role 2)

unfoldable pub led_of : ℕ → Bool
led_of role = cond (eqb role 2) true (eqb role 3)

-- the key identifiers are equal, and the issuer's name is the subject's
unfoldable pub fits_of : (Row → List ℕ) → Row → Row → Bool
fits_of held u v =
    cond (alike (piece_of held v v.authority_at v.authority_len) (piece_of held u u.own_at u.own_len))
    (alike (piece_of held v v.issuer_at v.issuer_len) (piece_of held u u.subject_at u.subject_len))
    false

-- a link or signer that fits
unfoldable pub matched_of : (Row → List ℕ) → Row → Row → ℕ → Bool
matched_of held u v role = cond (led_of role) (fits_of held u v) false

-- a good step between usable places
unfoldable pub step_of : (Row → List ℕ) → ℕ → List ℕ → List (List ℕ) → List ℕ → ℕ → ℕ → Bool
step_of held n table rows roles u v =
    cond (leads_of (get_or roles u 0))
    (cond (verdict_in n table u v) (matched_of held (row_at rows u) (row_at rows v) (get_or roles v 0)) false)
    false

-- the table of steps
abbrev pub Matched : (Row → List ℕ) → ℕ → List ℕ → List (List ℕ) → List ℕ → List ℕ → Type 0
Matched held n table rows roles steps =
    (u v : ℕ) → u < n → v < n → get_or steps (u * 96 + v) 0 ≡ flag (step_of held n table rows roles u v)
