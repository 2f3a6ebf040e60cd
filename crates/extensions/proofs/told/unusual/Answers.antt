-- The two slots that may be critical are those of their OIDs.
use mathlib.Core.Path.{◌≡◌, refl, sym, ◌∙◌}
use mathlib.Core.Bool.{Bool, true, false, ◌&&◌, ◌||◌, not}
use Rattle.extensions.specs.Extensions.{refused_critical}
use Rattle.extensions.proofs.Slots.{harsh-slot}
use Rattle.extensions.proofs.told.unusual.Goals as goal

neither : (c a b : Bool) → ((c && not a) && not b) ≡ (c && not (a || b))
neither true true b = refl
neither true false b = refl
neither false a b = refl

pub returns-in-None : goal.returns-in-None
unfolding refused_critical
returns-in-None c = λ s h. rw c.in-None.is

pub returns-in-Some : goal.returns-in-Some
returns-in-Some c = λ s h. rw c.in-Some.is (neither _ _ _ ∙ sym (harsh-slot (rw c.in-Some.is at h)))
