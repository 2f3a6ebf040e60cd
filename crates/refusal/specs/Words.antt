-- The words of a refusal: `refused N`, then ` at OFFSET` for the numbers 2 and 3, `, rule RULE` for 4 and 5; each number in decimal.
use Rattle.std.specs.Prelude.{ℕ, List, [], ◌++◌, codes, decimal}
use Rattle.refusal.specs.declared.Refusal.{Refusal}
use Rattle.refusal.specs.declared.Refusal.TheVariants.{Argument, Der, Limit, Profile, Image, Day, Chain, Wide, Short}
use Rattle.refusal.specs.Numbers.{number_of}

-- what stands behind the number
abbrev pub detail_words : Refusal → List ℕ
detail_words Argument = []
detail_words (Der at) = codes " at " ++ decimal at
detail_words (Limit at) = codes " at " ++ decimal at
detail_words (Profile rule) = codes ", rule " ++ decimal rule
detail_words (Image rule) = codes ", rule " ++ decimal rule
detail_words Day = []
detail_words Chain = []
detail_words Wide = []
detail_words Short = []

abbrev pub words_of : Refusal → List ℕ
words_of refusal = codes "refused " ++ decimal (number_of refusal) ++ detail_words refusal
