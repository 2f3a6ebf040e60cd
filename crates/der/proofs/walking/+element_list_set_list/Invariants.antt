-- The octets at hand fall at each call, twice their number, one more for the members of a SET and two more for a list.
use Rattle.std.proofs.Common.{length, ◌+◌, ◌-◌, ◌*◌, ◌≤◌, true, false}
use Rattle.der.specs.Forms.{Forms}
use Rattle.der.specs.Given.{Given}
use Rattle.der.proofs.Enough.{ListLeft}
use Rattle.der.proofs.walking.+element_list_set_list.Given as goal

abbrev pub decreases-element : goal.decreases-element
decreases-element l = 2 * length l.s.now

abbrev pub decreases-list : goal.decreases-list
decreases-list l = 2 * length l.s.now + 2

abbrev pub decreases-set_list : goal.decreases-set_list
decreases-set_list l = 2 * length l.s.now + 1

abbrev pub invariant-list-loop-place : goal.invariant-list-loop-place
invariant-list-loop-place l =
    (l.place.at ≤ length l.s) × (l.place.count ≤ l.limits.most) × (l.place.left ≤ l.start.left)
    × ((forms : Forms) → Given l.limits l.start.left forms
    → ListLeft forms false l.s l.start.at (forms.depth + 1 - l.start.left) l.start.count 0 l.place.at (forms.depth + 1 - l.place.left) l.place.count)

abbrev pub decreases-list-loop-place : goal.decreases-list-loop-place
decreases-list-loop-place l = length l.s - l.place.at

abbrev pub invariant-set_list-loop-at : goal.invariant-set_list-loop-at
invariant-set_list-loop-at l =
    (l.prior ≤ l.at) × (l.at ≤ length l.s) × (l.read ≤ l.limits.most)
    × ((forms : Forms) → Given l.limits l.start.left forms
    → ListLeft forms true l.s l.start.at (forms.depth + 1 - l.start.left) l.start.count l.prior l.at (forms.depth + 1 - l.start.left) l.read)

abbrev pub decreases-set_list-loop-at : goal.decreases-set_list-loop-at
decreases-set_list-loop-at l = length l.s - l.at
