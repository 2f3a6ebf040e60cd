-- What an answer carries, by its parts.
use Rattle.std.specs.Prelude.{ℕ, Bool, Result, Ok}
use Rattle.refusal.proofs.Results.{same_Ok}
use mathlib.Core.Path.{◌≡◌, ap}
use Rattle.refusal.specs.declared.Refusal.{Refusal}
use Rattle.image.specs.declared.IndexEntry.{IndexEntry}
use Rattle.pair.specs.declared.Span.{Span}
use Rattle.pair.specs.declared.Joint.{Joint}
use Rattle.pair.specs.declared.fetching.Held.{Held}

abbrev pub a_joint : Span → ℕ → Result Joint Refusal
a_joint span day = Ok (record { span = span; day = day })

abbrev pub a_held : IndexEntry → Bool → Result Held Refusal
a_held entry update = Ok (record { entry = entry; update = update })

-- pairs told alike have the same span and day
pub same_joint : {k l : Span} {d e : ℕ} → a_joint k d ≡ a_joint l e → (k ≡ l) × (d ≡ e)
same_joint p = let same = same_Ok _ _ p in (ap (λ (j : Joint). j.span) same, ap (λ (j : Joint). j.day) same)
