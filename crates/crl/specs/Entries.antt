-- Entries of a CRL: SEQUENCE {INTEGER, time, optional SEQUENCE of extensions}.
use Rattle.std.specs.Prelude.{ℕ, Bool, true, false, cond, ◌&&◌, not, List, [], ◌∷◌, eqb, length, Option, Some, None}
use Rattle.der.specs.Forms.{Forms}
use Rattle.elements.specs.declared.elements.Element.{Element}
use Rattle.elements.specs.Elements.{found_tagged, on_found, members_of}
use Rattle.extensions.specs.Extensions.{extensions_shaped, critical_of}
use Rattle.times.specs.Times.{time_at, time_of}
use Rattle.crl.specs.declared.entries.Entry.{Entry}
use Rattle.crl.specs.declared.entries.Survey.{Survey}

-- the extensions, where there are octets after the time, and whether one is critical
unfoldable pub extended : Forms → List ℕ → Element → Element → Element → Option Entry
extended forms s entry serial time =
    on_found (found_tagged forms s time.end entry.end 0x30) None λ extensions.
    cond (eqb extensions.end entry.end && extensions_shaped forms s extensions)
    (Some (record { serial = serial; time = time; marked = (critical_of forms s extensions false) }))
    None

unfoldable pub entry_of : Forms → List ℕ → Element → Option Entry
entry_of forms s e =
    cond (eqb e.tag 0x30)
    (on_found (found_tagged forms s e.contents e.end 0x02) None λ serial.
    on_found (time_at forms s serial.end e.end) None λ time.
    cond (eqb time.end e.end) (Some (record { serial = serial; time = time; marked = false })) (extended forms s e serial time))
    None

unfoldable pub shaped : Option Entry → Bool
shaped None = false
shaped (Some x) = true

unfoldable pub is_time : Option ℕ → Bool
is_time None = false
is_time (Some moment) = true

-- the entry's time is a time
unfoldable pub timely : List ℕ → Option Entry → Bool
timely s None = false
timely s (Some x) = is_time (time_of s x.time)

-- no extension of the entry is critical
unfoldable pub calm : Option Entry → Bool
calm None = true
calm (Some x) = not x.marked

unfoldable pub all_shaped : Forms → List ℕ → List Element → Bool
all_shaped forms s [] = true
all_shaped forms s (e ∷ rest) = shaped (entry_of forms s e) && all_shaped forms s rest

unfoldable pub all_timely : Forms → List ℕ → List Element → Bool
all_timely forms s [] = true
all_timely forms s (e ∷ rest) = timely s (entry_of forms s e) && all_timely forms s rest

unfoldable pub all_calm : Forms → List ℕ → List Element → Bool
all_calm forms s [] = true
all_calm forms s (e ∷ rest) = calm (entry_of forms s e) && all_calm forms s rest

-- what the rules ask of all the entries in a stretch, found in one pass
unfoldable pub survey_of : Forms → List ℕ → ℕ → ℕ → Option Survey
survey_of forms s from end =
    cond (all_shaped forms s (members_of forms s from end))
    (Some (record { count = (length (members_of forms s from end)); timely = (all_timely forms s (members_of forms s from end)); calm = (all_calm forms s (members_of forms s from end)) }))
    None
