-- The leaves are read, so the element around them is; and where a SEQUENCE fills a SET, so is the SET.
use Rattle.std.proofs.lemmas.Option.{IfSome_then}
use Prim.Native.Nat.{ℕ, ◌+◌, ◌-◌, ◌≤◌, ◌<◌}
use mathlib.Core.Bool.{Bool, true, false}
use mathlib.Core.List.{List}
use mathlib.Core.Path.{◌≡◌, refl, subst}
use native.Mathlib.Omega.{arith}
use lib.ListN.{length, get_or}
use Rattle.der.specs.Forms.{Forms}
use Rattle.der.specs.Heading.{constructed}
use Rattle.der.specs.Fast.{stretch, Reads, Fills, Headed, one, two}
use Rattle.der.proofs.Flat.{Listed, set-of, list-reads, last-fills}
use Rattle.der.proofs.fast.flat.Goals as goal

bounds : {s : List ℕ} {i e left count from deep read : ℕ} → Headed s i e left count from deep read → i + 2 ≤ e → e ≤ i + 129 → 2 ≤ left
    → (from ≤ e) × (e ≤ from + 127) × (1 ≤ deep) × (read ≤ count + 2)
bounds (one known kind) some near deep = (omega arith, omega arith, omega arith, omega arith)
bounds (two tag three four last) some near deep = (omega arith, omega arith, omega arith, omega arith)

module _ (s : List ℕ) (i end left count r : ℕ) (some : i + 2 ≤ end) (inside : end ≤ length s) (levelled : 2 ≤ left) (node : constructed (get_or s i 0) ≡ true)
    (short : get_or s (i + 1) 0 < 128) (fits : i + 2 + get_or s (i + 1) 0 ≤ end) where
  abbrev after : ℕ
  after = i + 2 + get_or s (i + 1) 0

  module _ (forms : Forms) (room : r ≤ forms.elements) (levels : left ≤ forms.depth) where
    around : {set : Bool} → count < r → Listed set (get_or s i 0) → Fills forms set (stretch s (i + 2) after) (forms.depth + 1 - left + 1) (count + 1) r
        → Reads forms (stretch s i end) (forms.depth + 1 - left) count (2 + get_or s (i + 1) 0) r
    around more l = list-reads forms s i end some inside (forms.depth + 1 - left) count r (omega arith) (omega arith) l refl fits short

    reads : {from deep read : ℕ} → Headed s i after left count from deep read
        → read ≤ r → (deep ≤ forms.depth → Fills forms false (stretch s from after) (forms.depth + 1 - deep) read r)
        → Reads forms (stretch s i end) (forms.depth + 1 - left) count (2 + get_or s (i + 1) 0) r
    reads (one known kind) more f =
        let deeper : forms.depth + 1 - (left - 1) ≡ forms.depth + 1 - left + 1 = omega arith in
        around (omega arith) (record { known = known; node = node; kind = kind })
        (subst (λ n. Fills forms false (stretch s (i + 2) after) n (count + 1) r) deeper (f (omega arith)))
    reads (two tag three four last) more f =
        let deeper : forms.depth + 1 - (left - 2) ≡ forms.depth + 1 - left + 1 + 1 = omega arith in
        let from : i + 4 ≡ i + 2 + 2 = omega arith in
        let next : count + 2 ≡ count + 1 + 1 = omega arith in
        around (omega arith) (set-of _ tag)
        (last-fills forms s (i + 2) after (omega arith) (omega arith) (forms.depth + 1 - left + 1) (count + 1) r (omega arith) (omega arith)
        last (omega (arith, last.ends))
        (rw (← deeper, ← from, ← next) (f (omega arith))) true)

pub leaves-requires : goal.leaves-requires
leaves-requires c =
    let to = c.in_ok-behind.field-0 in
    let b = bounds c.in_ok-behind.ensures (omega arith) (omega (arith, c.if-size-ge128.false)) c.requires.3 in
    omega arith

pub returns : goal.returns
returns c =
    IfSome_then c.leaves.result c.leaves.ensures λ read told forms room levels.
    reads c.args.s.now c.args.place.at c.args.end c.args.place.left c.args.place.count read c.requires.0 c.requires.1 c.requires.3 c.requires.5
    c.if-size-ge128.false c.if-end-after.false forms room levels c.in_ok-behind.ensures told.0 (told.1 forms room)
