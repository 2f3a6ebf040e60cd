-- The cases in bold type of "Both sides of the line", and the order of a SET's members: what is asked, and what comes out.
use Rattle.std.specs.Prelude.{ℕ, Bool, true, false, ◌≡◌, List, [], ◌∷◌, ℤ, pos, negsuc, Ok, Err}
use Rattle.refusal.specs.declared.Refusal.TheVariants.{Der}
use Rattle.calendar.specs.Difference.{difference_of}
use Rattle.der.specs.Forms.{paper}
use Rattle.der.specs.Integer.{integer_of}
use Rattle.der.specs.Order.{smaller}
use Rattle.der.specs.Walk.{walk_of}
use Rattle.image.specs.Answer.{opened_of}

pub data Case : Type 0 where
  -- an item that passes, with so many elements
  passes : List ℕ → ℕ → Case
  -- an item that breaks a DER rule, at an offset
  breaks : List ℕ → ℕ → Case
  -- an item that is an INTEGER of that value
  is : List ℕ → ℤ → Case
  -- so many days from one day to another
  from-to : ℕ → ℕ → ℤ → Case
  -- an image of so many entries, a day and a version
  reads : List ℕ → ℕ → ℕ → ℕ → Case
  -- whether one encoding is smaller than another
  compares : List ℕ → List ℕ → Bool → Case

abbrev pub Holds : Case → Type 0
Holds (passes item n) = walk_of paper item ≡ Ok n
Holds (breaks item at) = walk_of paper item ≡ Err (Der at)
Holds (is item value) = integer_of paper item ≡ Ok value
Holds (from-to first second days) = difference_of first second ≡ Ok days
Holds (reads image entries day version) = opened_of image ≡ Ok (record { entries = entries; day = day; version = version })
Holds (compares a b answer) = smaller a b ≡ answer

abbrev pub AllHold : List Case → Type 0
AllHold [] = Unit
AllHold (c ∷ cases) = Holds c × AllHold cases

abbrev pub table : List Case
table =
    passes (0x30 ∷ 0x03 ∷ 0x02 ∷ 0x01 ∷ 0x05 ∷ []) 2
    ∷ passes (0x30 ∷ 0x00 ∷ []) 1
    ∷ breaks [] 0
    ∷ breaks (0x30 ∷ 0x80 ∷ []) 0
    ∷ breaks (0x30 ∷ 0x81 ∷ 0x03 ∷ 0x02 ∷ 0x01 ∷ 0x05 ∷ []) 0
    ∷ breaks (0x30 ∷ 0x03 ∷ 0x02 ∷ 0x02 ∷ 0x05 ∷ []) 2
    ∷ breaks (0x05 ∷ 0x00 ∷ 0x00 ∷ []) 2
    ∷ breaks (0x02 ∷ 0x02 ∷ 0x00 ∷ 0x7F ∷ []) 0
    ∷ is (0x02 ∷ 0x02 ∷ 0x00 ∷ 0x80 ∷ []) (pos 128)
    ∷ is (0x02 ∷ 0x01 ∷ 0x80 ∷ []) (negsuc 127)
    ∷ breaks (0x03 ∷ 0x02 ∷ 0x07 ∷ 0x81 ∷ []) 0
    ∷ from-to 20240228 20240301 (pos 2)
    ∷ from-to 20230228 20230301 (pos 1)
    ∷ from-to 20210101 20201231 (negsuc 0)
    ∷ from-to 19500101 20991231 (pos 54786)
    ∷ reads (0x00 ∷ 0x00 ∷ 0x00 ∷ 0x00 ∷ 0x00 ∷ 0x00 ∷ 0x00 ∷ 0x01 ∷ 0x01 ∷ 0x34 ∷ 0xD7 ∷ 0xAD ∷ []) 0 20240301 1
    ∷ reads (0x00 ∷ 0x00 ∷ 0x00 ∷ 0x00 ∷ 0x00 ∷ 0x00 ∷ 0x00 ∷ 0x02 ∷ 0x01 ∷ 0x34 ∷ 0xD7 ∷ 0xAD ∷ []) 0 20240301 2
    ∷ reads
    (0x05 ∷ 0x02 ∷ 0x00 ∷ 0x00 ∷ 0x01 ∷ 0x00 ∷ 0x00 ∷ 0x00 ∷ 0x00 ∷ 0x55 ∷ 0x54 ∷ 0x00 ∷ 0x00 ∷ 0x00 ∷ 0x00 ∷ 0x00 ∷ 0x01 ∷ 0x00 ∷ 0x01
    ∷ 0x00 ∷ 0x02 ∷ 0x01 ∷ 0x34 ∷ 0xD7 ∷ 0xAD ∷ [])
    1 20240301 2
    ∷ compares (0x13 ∷ 0x01 ∷ 0x44 ∷ []) (0x13 ∷ 0x01 ∷ 0x50 ∷ []) true
    ∷ compares (0x13 ∷ 0x01 ∷ 0x50 ∷ []) (0x13 ∷ 0x01 ∷ 0x50 ∷ []) false
    ∷ compares (0x13 ∷ 0x01 ∷ 0x50 ∷ []) (0x13 ∷ 0x02 ∷ 0x41 ∷ 0x43 ∷ []) true
    ∷ compares (0x04 ∷ 0x02 ∷ 0x00 ∷ 0x00 ∷ []) (0x05 ∷ 0x00 ∷ []) true
    ∷ compares (0x05 ∷ 0x00 ∷ []) (0x05 ∷ 0x00 ∷ 0x00 ∷ []) false
    ∷ compares (0x05 ∷ 0x00 ∷ []) (0x05 ∷ 0x00 ∷ 0x01 ∷ []) true
    ∷ passes (0x31 ∷ 0x06 ∷ 0x13 ∷ 0x01 ∷ 0x44 ∷ 0x13 ∷ 0x01 ∷ 0x50 ∷ []) 3
    ∷ passes (0x31 ∷ 0x06 ∷ 0x13 ∷ 0x01 ∷ 0x50 ∷ 0x13 ∷ 0x01 ∷ 0x50 ∷ []) 3
    ∷ breaks (0x31 ∷ 0x06 ∷ 0x13 ∷ 0x01 ∷ 0x50 ∷ 0x13 ∷ 0x01 ∷ 0x44 ∷ []) 5
    ∷ passes (0x30 ∷ 0x06 ∷ 0x13 ∷ 0x01 ∷ 0x50 ∷ 0x13 ∷ 0x01 ∷ 0x44 ∷ []) 3
    ∷ []
