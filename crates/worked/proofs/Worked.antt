-- Every case of the table holds: each answer is computed from the definitions.
use mathlib.Core.Path.{refl}
use Rattle.calendar.specs.Days.{leap, february, month_length, real_day}
use Rattle.calendar.specs.Number.{days_of_months, days_of_years, day_number}
use Rattle.calendar.specs.Difference.{difference_of}
use Rattle.octets.specs.Octets.{number, twos}
use Rattle.der.specs.Heading.{constructed, identifier_good, within, smallest, long, sized, wide_heading, heading_of}
use Rattle.der.specs.Contents.{boolean_good, integer_good, bit_string_good, sub_identifiers, oid_good, contents_good}
use Rattle.der.specs.Order.{smaller, is_set, handed}
use Rattle.der.specs.Walk.{opened, filled, after, element_at, list_at, whole, walk_of}
use Rattle.der.specs.Integer.{held, asked, integer_of}
use Rattle.refusal.specs.Rules.{first_broken}
use Rattle.image.specs.Index.{field, index_start, entry_count, version_in, day_in, width, letter_at, entry_at}
use Rattle.image.specs.Rules.{rule1, rule2, rule3, rule4, rule5, fields_good, entry_good, padded, sum_of, total_of, fit, rule6, summed, rule7, rules}
use Rattle.image.specs.Answer.{graded, opened_within}
use Rattle.worked.specs.Table.{table, AllHold}

pub worked : AllHold table
unfolding leap february month_length real_day days_of_months days_of_years day_number difference_of number twos constructed identifier_good within smallest long sized wide_heading heading_of boolean_good integer_good bit_string_good sub_identifiers oid_good contents_good smaller is_set handed opened filled after element_at list_at whole walk_of held asked integer_of first_broken field index_start entry_count version_in day_in width letter_at entry_at rule1 rule2 rule3 rule4 rule5 fields_good entry_good padded sum_of total_of fit rule6 summed rule7 rules graded opened_within
worked =
    (refl, (refl, (refl, (refl, (refl, (refl, (refl, (refl, (refl, (refl, (refl, (refl, (refl, (refl, (refl, (refl, (refl, (refl, (refl, (refl, (refl, (refl, (refl, (refl, (refl, (refl, (refl, (refl, tt))))))))))))))))))))))))))))
