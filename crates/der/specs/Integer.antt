-- An item that is one INTEGER, as a signed number: the walk's refusals, then 1 for another element, then 8.
use Rattle.std.specs.Prelude.{ℕ, cond, List, ltb, eqb, take, drop, ℤ, Option, Some, None, Result, Ok, Err}
use Rattle.refusal.specs.declared.Refusal.TheVariants.{Argument, Wide}
use Rattle.der.specs.declared.heading.Heading.{Heading}
use Rattle.refusal.specs.declared.Refusal.{Refusal}
use Rattle.der.specs.Forms.{Forms}
use Rattle.octets.specs.Octets.{twos}
use Rattle.der.specs.Heading.{heading_of}
use Rattle.der.specs.Walk.{walk_of}

-- the number that the outermost element of a walked item holds
unfoldable pub held : List ℕ → Option Heading → Result ℤ Refusal
held s None = Err Argument
held s (Some h) =
    cond (eqb h.tag 2) (cond (ltb 8 h.size) (Err Wide) (Ok (twos (take h.size (drop h.skip s))))) (Err Argument)

unfoldable pub asked : Result ℕ Refusal → Result ℤ Refusal → Result ℤ Refusal
asked (Err refusal) number = Err refusal
asked (Ok count) number = number

unfoldable pub integer_of : Forms → List ℕ → Result ℤ Refusal
integer_of forms s = asked (walk_of forms s) (held s (heading_of forms s))
