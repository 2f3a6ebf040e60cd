-- The table of refusal numbers: each refusal's number, and the detail told beside it.
use Rattle.std.specs.Prelude.{ℕ}
use Rattle.refusal.specs.declared.Refusal.{Refusal}
use Rattle.refusal.specs.declared.Refusal.TheVariants.{Argument, Der, Limit, Profile, Image, Day, Chain, Wide, Short}

abbrev pub number_of : Refusal → ℕ
number_of Argument = 1
number_of (Der at) = 2
number_of (Limit at) = 3
number_of (Profile rule) = 4
number_of (Image rule) = 5
number_of Day = 6
number_of Chain = 7
number_of Wide = 8
number_of Short = 9

-- 2 and 3 tell an offset, 4 and 5 a rule, every other 0
abbrev pub detail_of : Refusal → ℕ
detail_of Argument = 0
detail_of (Der at) = at
detail_of (Limit at) = at
detail_of (Profile rule) = rule
detail_of (Image rule) = rule
detail_of Day = 0
detail_of Chain = 0
detail_of Wide = 0
detail_of Short = 0
