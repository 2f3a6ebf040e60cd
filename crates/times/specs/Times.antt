-- Times: UTCTime YYMMDDHHMMSSZ, GeneralizedTime YYYYMMDDHHMMSSZ, to the number YYYYMMDDHHMMSS.
use Rattle.std.specs.Prelude.{ℕ, ◌+◌, ◌*◌, ◌-◌, Bool, true, false, cond, ◌&&◌, List, [], ◌∷◌, leb, ltb, eqb, length, get_or, take, Option, Some, None}
use Rattle.der.specs.Forms.{Forms}
use Rattle.calendar.specs.Days.{real_moment}
use Rattle.elements.specs.declared.elements.Element.{Element}
use Rattle.elements.specs.Elements.{found_at, on_found, contents_of}

-- the number that some digits write
pub data Figures : Type 0 where
  Number : ℕ → Figures
  Wordy : Figures

-- the number that goes on from n by decimal digits
unfoldable pub figures : ℕ → List ℕ → Figures
figures n [] = Number n
figures n (o ∷ rest) = cond (leb 48 o && leb o 57) (figures (n * 10 + (o - 48)) rest) Wordy

unfoldable pub decimal_of : List ℕ → Figures
decimal_of c = figures 0 c

unfoldable pub real_time : ℕ → Option ℕ
real_time moment = cond (real_moment 0 9999 moment) (Some moment) None

unfoldable pub real_number : Figures → Option ℕ
real_number Wordy = None
real_number (Number n) = real_time n

-- 00 to 49 mean 2000 to 2049, 50 to 99 mean 1950 to 1999
unfoldable pub in_century : Figures → Option ℕ
in_century Wordy = None
in_century (Number n) = real_time (cond (ltb n 500000000000) (n + 20000000000000) (n + 19000000000000))

-- only for 2050 on
unfoldable pub in_full : Figures → Option ℕ
in_full Wordy = None
in_full (Number n) = cond (ltb n 20500000000000) None (real_time n)

-- n digits and a Z
unfoldable pub zulu : ℕ → List ℕ → (Figures → Option ℕ) → Option ℕ
zulu n c meaning =
    cond (eqb (length c) (n + 1)) (cond (eqb (get_or c n 0) 90) (meaning (decimal_of (take n c))) None) None

-- tag 17 hex: UTCTime; tag 18 hex: GeneralizedTime
unfoldable pub time_in : ℕ → List ℕ → Option ℕ
time_in tag c =
    cond (eqb tag 0x17) (zulu 12 c in_century) (cond (eqb tag 0x18) (zulu 14 c in_full) None)

unfoldable pub time_of : List ℕ → Element → Option ℕ
time_of s e = time_in e.tag (contents_of s e)

-- the two tags that a time may have
unfoldable pub time_tag : ℕ → Bool
time_tag tag = cond (eqb tag 0x17) true (eqb tag 0x18)

abbrev pub moment_of : Option ℕ → ℕ
moment_of None = 0
moment_of (Some moment) = moment

-- two times that are times, the first not after the second
abbrev pub in_order : Option ℕ → Option ℕ → Bool
in_order None other = false
in_order (Some start) None = false
in_order (Some start) (Some end) = leb start end

-- the element at `from`, if it has the tag of a time
unfoldable pub time_at : Forms → List ℕ → ℕ → ℕ → Option Element
time_at forms s from end = on_found (found_at forms s from end) None λ e. cond (time_tag e.tag) (Some e) None
