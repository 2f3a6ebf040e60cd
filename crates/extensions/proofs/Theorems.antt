-- No second answer fits the promise of `one_pass`: each flag and each of the 23 slots is told.
use Rattle.std.specs.Prelude.{Option, None}
use Prim.Native.Nat.{ℕ, ◌<◌}
use mathlib.Core.Path.{◌≡◌, sym, ◌∙◌}
use mathlib.Core.Bool.{Bool}
use mathlib.Core.List.{List}
use native.Mathlib.Omega.{arith}
use lib.ListN.{length}
use lib.Seq.{ext_get_or}
use Rattle.der.specs.Forms.{paper}
use Rattle.elements.specs.declared.elements.Element.{Element}
use Rattle.extensions.specs.declared.Held.{Held}
use Rattle.extensions.specs.declared.Overview.{Overview}
use Rattle.extensions.specs.Extensions.{held_of, Placed, Viewed}

one_table :
    (s : List ℕ) (extensions : Element) (r q : List (Option Held)) → length r ≡ 23 → length q ≡ 23 → Placed paper s extensions r
    → Placed paper s extensions q → r ≡ q
one_table s extensions r q m n a b =
    ext_get_or (held_of None) r q (m ∙ sym n) (λ k h. let l : k < 23 = omega (arith, h, m) in a.each k l ∙ sym (b.each k l))

unfoldable made : Bool → Bool → Bool → Bool → List (Option Held) → Overview
made shaped marked critical doubled slots = record { shaped = shaped; marked = marked; critical = critical; doubled = doubled; slots = slots }

same-made : {a b c d e f g h : Bool} {t u : List (Option Held)} → a ≡ e → b ≡ f → c ≡ g → d ≡ h → t ≡ u → made a b c d t ≡ made e f g h u
same-made p q r v w = cc

pub one-overview :
    (s : List ℕ) (extensions : Element) (r q : Overview) → length r.slots ≡ 23 → length q.slots ≡ 23 → Viewed paper s extensions r
    → Viewed paper s extensions q → r ≡ q
unfolding made
one-overview s extensions r q m n a b =
    same-made (a.shaped ∙ sym b.shaped) (a.marked ∙ sym b.marked) (a.critical ∙ sym b.critical) (a.doubled ∙ sym b.doubled)
    (one_table s extensions r.slots q.slots m n a.placed b.placed)
