-- What an answer carries, by its parts.
use Rattle.std.specs.Prelude.{ℕ, Option, Some, None, Result, Ok}
use Rattle.refusal.specs.declared.Refusal.{Refusal}
use Rattle.der.specs.declared.heading.Heading.{Heading}
use Rattle.der.specs.declared.stepping.Step.{Step}
use Rattle.der.specs.declared.walking.Read.{Read}

abbrev pub a_heading : ℕ → ℕ → ℕ → Option Heading
a_heading tag skip size = Some (record { tag = tag; skip = skip; size = size })

abbrev pub a_step : ℕ → ℕ → ℕ → Option Step
a_step tag contents end = Some (record { tag = tag; contents = contents; end = end })

abbrev pub a_read : ℕ → ℕ → Result Read Refusal
a_read used count = Ok (record { used = used; count = count })

-- the parts of a header, 0 where there is none
abbrev pub tag_in : Option Heading → ℕ
tag_in (Some h) = h.tag
tag_in None = 0

abbrev pub skip_in : Option Heading → ℕ
skip_in (Some h) = h.skip
skip_in None = 0

abbrev pub size_in : Option Heading → ℕ
size_in (Some h) = h.size
size_in None = 0
