use Prim.Native.Nat.{◌+◌, ◌-◌, ◌≤◌}
use mathlib.Core.Path.{◌≡◌}
use lib.ListN.{length}
use Rattle.der.specs.Forms.{paper}
use Rattle.elements.specs.Elements.{members_of}
use Rattle.crl.specs.Entries.{survey_of}
use Rattle.crl.proofs.Surveys.{survey_with}
use Rattle.crl.proofs.entries.survey_of.Given as goal

abbrev pub invariant-loop-utc : goal.invariant-loop-utc
invariant-loop-utc l = (l.count + length (members_of paper l.item l.at l.end) ≤ length l.item) × (survey_of paper l.item l.from l.end ≡ survey_with l.item l.count l.timely l.calm (members_of paper l.item l.at l.end))

abbrev pub decreases-loop-utc : goal.decreases-loop-utc
decreases-loop-utc l = l.end - l.at
