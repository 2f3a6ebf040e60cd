-- What is told of an entry, by the fast path and by the other. No public promise cites this.
use Rattle.std.specs.Prelude.{ℕ, ◌+◌, ◌-◌, ◌<◌, ◌≤◌, true, false, List, ◌≡◌, length, get_or, Some}
use Rattle.der.specs.Forms.{paper}
use Rattle.elements.specs.declared.elements.Element.{Element}
use Rattle.elements.specs.Elements.{found_at, members_of}
use Rattle.extensions.specs.Extensions.{extensions_shaped, critical_of}
use Rattle.times.specs.Times.{time_of}
use Rattle.crl.specs.Entries.{entry_of, shaped, is_time, timely, calm}
use Rattle.crl.specs.Listed.{lists, some_lists}

-- the time at an offset that has that tag and so many octets, and a length in the short form
abbrev pub stamp_at : ℕ → ℕ → ℕ → Element
stamp_at tag octets at = record { tag = tag; at = at; contents = at + 2; end = at + 2 + octets }

-- a SEQUENCE with a length in the short form stands at `at`, and an INTEGER opens it
pub record Opening (s : List ℕ) (at end : ℕ) : Type 0 where
  pub inside : end ≤ length s
  pub room : at + 4 ≤ end
  pub tag : get_or s at 0 ≡ 0x30
  pub first : get_or s (at + 2) 0 ≡ 0x02
  pub brief : get_or s (at + 1) 0 < 128
  pub fits : at + 2 + get_or s (at + 1) 0 ≤ end

-- the SEQUENCE with a length in the short form from one offset to another
abbrev pub sequence_at : ℕ → ℕ → Element
sequence_at from end = record { tag = 0x30; at = from; contents = from + 2; end = end }

-- such a SEQUENCE stands there, and holds extensions none of which is critical
pub record Mild (s : List ℕ) (from end : ℕ) : Type 0 where
  pub low : from + 2 ≤ end
  pub found : found_at paper s from end ≡ Some (sequence_at from end)
  pub fit : extensions_shaped paper s (sequence_at from end) ≡ true
  pub calm : critical_of paper s (sequence_at from end) false ≡ false

-- the headers of a list of one extension, of the OID 2.5.29.21, and of its OID and value
pub record Reason (c : List ℕ) : Type 0 where
  pub list : (get_or c 0 0 ≡ 0x30) × (get_or c 1 0 ≡ 12)
  pub extension : (get_or c 2 0 ≡ 0x30) × (get_or c 3 0 ≡ 10)
  pub oid : (get_or c 4 0 ≡ 0x06) × (get_or c 5 0 ≡ 3)
  pub value : (get_or c 9 0 ≡ 0x04) × (get_or c 10 0 ≡ 3)

-- the entry that stands at `at`, with a length in the short form, has such a time, and no critical extension
pub record Usual (s : List ℕ) (at end : ℕ) (time : Element) : Type 0 where
  pub room : time.end ≤ length s
  pub entry : Element
  pub found : found_at paper s at end ≡ Some entry
  pub ends : entry.end ≡ at + 2 + get_or s (at + 1) 0
  pub fit : shaped (entry_of paper s entry) ≡ true
  pub timed : timely s (entry_of paper s entry) ≡ is_time (time_of s time)
  pub calmed : calm (entry_of paper s entry) ≡ true

-- the entry that stands at `at` ends at r, and has another serial
pub record Another (s : List ℕ) (at end : ℕ) (serial : List ℕ) (r : ℕ) : Type 0 where
  pub entry : Element
  pub found : found_at paper s at end ≡ Some entry
  pub ends : entry.end ≡ r
  pub other : lists paper s serial entry ≡ false

-- none of the entries from `from` to r has the serial
pub record NoneBefore (s : List ℕ) (from end : ℕ) (serial : List ℕ) (r : ℕ) : Type 0 where
  pub none : some_lists paper s serial (members_of paper s from end) ≡ some_lists paper s serial (members_of paper s r end)
  pub nearer : end - r ≤ end - from
