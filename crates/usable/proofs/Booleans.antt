-- Laws of tests that are joined by and or chosen between, each by its cases.
use Prim.Native.Nat.{ℕ}
use mathlib.Core.Path.{◌≡◌, refl}
use mathlib.Core.Bool.{Bool, true, false, cond, ◌&&◌}
use native.Mathlib.Omega.{arith}

pub false-true : {A : Type 0} → false ≡ true → A
false-true e = absurd (let z : ◌≡◌ {A = ℕ} 0 1 = cc in omega arith)

pub and-false : (b : Bool) → (b && false) ≡ false
and-false true = refl
and-false false = refl

pub first : (a b : Bool) → (a && b) ≡ true → a ≡ true
first true b e = refl
first false b e = e

pub second : (a b : Bool) → (a && b) ≡ true → b ≡ true
second true b e = e
second false b e = false-true e

pub both_true : (a b : Bool) → a ≡ true → b ≡ true → (a && b) ≡ true
both_true a b e f = rw (e, f)

-- a second test where the first holds
pub and-when : (k x y : Bool) → (k ≡ true → x ≡ y) → (k && x) ≡ (k && y)
and-when true x y f = f refl
and-when false x y f = refl

pub chosen : (a b c : Bool) → b ≡ c → cond a b false ≡ (a && c)
chosen true b c e = e
chosen false b c e = refl

pub swapped : (a b : Bool) → cond b a false ≡ (a && b)
swapped true true = refl
swapped true false = refl
swapped false true = refl
swapped false false = refl

-- a first test that is two, and a last where these hold
pub grouped : (given k l m o : Bool) → given ≡ (k && l) → (given ≡ true → m ≡ o) → (given && m) ≡ (k && (l && o))
grouped given true true m o e f = rw e (f e)
grouped given true false m o e f = rw e
grouped given false l m o e f = rw e

-- and another test before these
pub grouped-near :
    (given a k l m o : Bool) → given ≡ (a && (k && l)) → (given ≡ true → m ≡ o) → (given && m) ≡ (a && (k && (l && o)))
grouped-near given true k l m o e f = grouped given k l m o e f
grouped-near given false k l m o e f = rw e

-- what tests in a row say
pub middle : (a b c : Bool) → (a && (b && c)) ≡ true → b ≡ true
middle a b c e = first b c (second a (b && c) e)

pub but_last : (a b c d : Bool) → (a && (b && (c && d))) ≡ true → (a && (b && c)) ≡ true
but_last true true c d e = first c d e
but_last true false c d e = e
but_last false b c d e = e
