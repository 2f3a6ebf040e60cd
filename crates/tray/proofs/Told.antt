-- What a good record is, by its action: each of its tests holds.
use Rattle.std.specs.Prelude.{Option, Some, not}
use Prim.Native.Nat.{◌≤◌}
use mathlib.Core.Path.{◌≡◌, refl, sym, ap, ◌∙◌}
use mathlib.Core.Bool.{Bool, true, false, and-eq-true_iff}
use lib.Dec.{eqb, leb}
use lib.ListN.{get_or}
use borrow.Author.Tests.{eqb-true, leb-true}
use Rattle.calendar.specs.Days.{real_day}
use Rattle.tray.specs.Machine.{opens, burns, allowed, good_record}
use Rattle.tray.specs.declared.Action.{Action}
use Rattle.tray.specs.declared.Action.TheVariants.{Open, Burn}
use Rattle.tray.specs.declared.Entry.{Entry}
use Rattle.tray.specs.declared.State.{State}

not_true : (b : Bool) → not b ≡ true → b ≡ false
not_true true e = cc
not_true false e = refl

pub record Opening (state : State) (entry : Entry) : Type 0 where
  pub real : real_day 1950 2099 entry.day ≡ true
  pub later : state.tray ≤ entry.day

pub record Burnt (state : State) (entry : Entry) : Type 0 where
  pub opened : 1 ≤ state.tray
  pub days : state.image ≡ state.tray
  pub low : 1 ≤ entry.unit
  pub high : entry.unit ≤ 40
  pub new : get_or state.marks entry.unit false ≡ false

module _ (state : State) (entry : Entry) where
  opens-tells : opens state entry ≡ true → Opening state entry
  unfolding opens
  opens-tells t =
      let (_, t₁) = (and-eq-true_iff (eqb entry.unit 0) _).0 t in
      let (real, later) = (and-eq-true_iff (real_day 1950 2099 entry.day) _).0 t₁ in
      record { real = real; later = leb-true _ _ later }

  burns-tells : burns state entry ≡ true → Burnt state entry
  unfolding burns
  burns-tells t =
      let (_, t₁) = (and-eq-true_iff (eqb entry.day 0) _).0 t in
      let (opened, t₂) = (and-eq-true_iff (leb 1 state.tray) _).0 t₁ in
      let (days, t₃) = (and-eq-true_iff (eqb state.image state.tray) _).0 t₂ in
      let (low, t₄) = (and-eq-true_iff (leb 1 entry.unit) _).0 t₃ in
      let (high, new) = (and-eq-true_iff (leb entry.unit 40) _).0 t₄ in
      record {
        opened = leb-true _ _ opened;
        days = eqb-true _ _ days;
        low = leb-true _ _ low;
        high = leb-true _ _ high;
        new = not_true _ new;
      }

  module _ (good : good_record state entry ≡ true) where
    pub good-opening : entry.action ≡ Some Open → Opening state entry
    unfolding good_record allowed
    good-opening e = opens-tells (ap (λ (a : Option Action). allowed a state entry) (sym e) ∙ ((and-eq-true_iff (eqb entry.padding 0) _).0 good).1)

    pub good-burn : entry.action ≡ Some Burn → Burnt state entry
    unfolding good_record allowed
    good-burn e = burns-tells (ap (λ (a : Option Action). allowed a state entry) (sym e) ∙ ((and-eq-true_iff (eqb entry.padding 0) _).0 good).1)
