-- A test is true or false, and a fact of both answers is a fact of the answer picked.
use mathlib.Core.Path.{◌≡◌, refl}
use mathlib.Core.Bool.{Bool, true, false, cond}

pub by-test : {P : Type 0} (b : Bool) → (b ≡ true → P) → (b ≡ false → P) → P
by-test true t f = t refl
by-test false t f = f refl

pub cond-by : {A : Type 0} (P : A → Type 0) (b : Bool) {x y : A} → (b ≡ true → P x) → (b ≡ false → P y) → P (cond b x y)
cond-by P true t f = t refl
cond-by P false t f = f refl
