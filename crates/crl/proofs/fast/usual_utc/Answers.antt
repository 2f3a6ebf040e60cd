-- A usual date, then four octets as one number and what its bits tell, then a Z.
use native.Mathlib.Omega.{arith}
use borrow.Author.Tests.{eqb-true}
use Rattle.crl.specs.FastTimes.{UsualDate}
use Rattle.crl.proofs.Digits.{never, clock-told}
use Rattle.crl.proofs.fast.usual_utc.Goals as goal
use Rattle.crl.proofs.fast.usual_utc.Goals.{Else-not-usual_date}

-- the date passes, and was seen to before the four octets after it were read
date : (c : Else-not-usual_date) → UsualDate c.args.c.now
date c = c.usual_date.ensures c.if-not-usual_date.false

pub returns-then-not-usual_date : goal.returns-then-not-usual_date
returns-then-not-usual_date c = λ no. never no

pub returns-then-octets-ne808464432 : goal.returns-then-octets-ne808464432
returns-then-octets-ne808464432 c = λ no. never no

pub overflow_add-octets : goal.overflow_add-octets
overflow_add-octets c =
    let octet = c.type_inv.c in
    omega (arith, c.four-octets.ensures, (octet 8).fits, (octet 9).fits, (octet 10).fits, (octet 11).fits)

pub returns-then-octets-ne808464432-2 : goal.returns-then-octets-ne808464432-2
returns-then-octets-ne808464432-2 c = λ no. never no

pub returns : goal.returns
returns c = λ some.
    record {
      date = date (goal.at.returns c).Else-not-usual_date;
      clock = clock-told c.args.c.now (λ i. (c.type_inv.c i).fits)
          c.four-octets.ensures c.if-octets-ne808464432.false c.if-octets-ne808464432-2.false;
      last = eqb-true _ _ some;
    }
