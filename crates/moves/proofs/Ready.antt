-- An image that was opened is ready to be moved: its octets start with the items, its columns are small, and the writer answers for
-- them by their size only.
use Prim.Native.Nat.{ℕ, suc, zero, ◌+◌, ◌*◌, ◌-◌, ◌<◌, ◌≤◌}
use mathlib.Core.Path.{◌≡◌, refl, sym, ◌∙◌, ap}
use mathlib.Core.Bool.{Bool, true, false, cond, and-eq-true_iff}
use mathlib.Core.List.{List}
use native.Mathlib.Omega.{arith}
use borrow.Author.Tests.{leb-true, eqb-true, eqb-false, le-leb}
use lib.Dec.{leb, eqb}
use lib.ListN.{length, get_or, take}
use lib.Seq.{take_at}
use Rattle.octets.specs.Octets.{Octets}
use Rattle.image.specs.Items.{Item, packed, image_bytes}
use Rattle.image.specs.Index.{entry_count, version_in, day_in, entry_in, item_at, items_in, width}
use Rattle.image.specs.Rules.{fields_good}
use Rattle.image.specs.Answer.{opened_of, opened_as}
use Rattle.image.proofs.Places.{item_in}
use Rattle.writer.specs.Writing as writer
use Rattle.writer.specs.Writing.{version_good}
use Rattle.roundtrip.specs.Good.{GoodItems, no_item, good-item, Fits}
use Rattle.roundtrip.specs.Columns.{kinds_of, flags_of, lengths_of, letters_of}
use Rattle.image.proofs.Sizes.{length-image}
use Rattle.roundtrip.proofs.Opening.{opened-holds, holds-wider, holds_opened}
use Rattle.roundtrip.proofs.Back.{fields-small}
use Rattle.roundtrip.proofs.Rewriting.{columns-back, columns-sized}
use Rattle.roundtrip.proofs.Theorems.{write_again, place-item}
use Rattle.moves.specs.Moving.{other, moved_items, moved_bytes, on_moved, moved_of, output_of}
use Rattle.moves.specs.Rows.{Small}
use Rattle.moves.proofs.Moves.{moved-kinds, moved-flags, moved-lengths, moved-packed, moved-many, moved-good}
use Rattle.image.proofs.Payloads.{an_image}

pub other-known : (version : ℕ) → (1 ≤ other version) × (other version ≤ 2)
unfolding other
other-known version = go (eqb version 2)
  where
    go : (b : Bool) → (1 ≤ cond b 1 2) × (cond b 1 2 ≤ 2)
    go true = (omega arith, omega arith)
    go false = (omega arith, omega arith)

-- what is not the one is the other
pub other-is : (version : ℕ) → 1 ≤ version → version ≤ 2 → 3 - version ≡ other version
unfolding other
other-is version low high = go (eqb version 2) refl
  where
    go : (b : Bool) → eqb version 2 ≡ b → 3 - version ≡ cond b 1 2
    go true e = let two : version ≡ 2 = eqb-true version 2 e in omega arith
    go false e = let less : version ≡ 2 → ⊥ = eqb-false version 2 e in omega arith

fields-low : (kind flags size : ℕ) → fields_good kind flags size ≡ true → (kind ≤ 4) × (flags ≤ 1)
unfolding fields_good
fields-low kind flags size e =
    let kinds = ((and-eq-true_iff (leb 1 kind) _).0 e).1 in
    let rest = (and-eq-true_iff (leb kind 4) _).0 kinds in
    let flag = ((and-eq-true_iff (cond (eqb kind 1) (leb flags 1) (eqb flags 0)) _).0 rest.1).0 in
    (leb-true kind 4 rest.0, go (eqb kind 1) flag)
  where
    go : (b : Bool) → cond b (leb flags 1) (eqb flags 0) ≡ true → flags ≤ 1
    go true f = leb-true flags 1 f
    go false f = let none : flags ≡ 0 = eqb-true flags 0 f in omega arith

good-at :
    {version : ℕ} {items : List Item} → GoodItems version items → (place : ℕ) (default : Item) → place < length items
    → fields_good (get_or items place default).kind (get_or items place default).flags (length (get_or items place default).bytes) ≡ true
good-at no_item place default h = absurd (omega arith)
good-at (good-item fields o pair letters good) zero default h = fields
good-at (good-item fields o pair letters good) (suc place) default h = good-at good place default (omega arith)

pub record Ready (version : ℕ) (s : List ℕ) (n day from : ℕ) : Type 0 where
  pub entries : n ≡ entry_count s
  pub few : n ≤ 96
  pub small : (place : ℕ) → place < n → Small s (entry_in s place)
  pub ends : length (packed (items_in s)) + width from * n + 12 ≡ length s
  pub front : take (length (packed (items_in s))) s ≡ packed (items_in s)
  pub short : length s ≤ 262144
  pub told : day ≡ day_in s
  pub again : image_bytes from (items_in s) day ≡ s
  pub fits : Fits from (items_in s) day
  pub source : from ≡ other version
  pub from_is : from ≡ version_in s

module _ (version : ℕ) (s : List ℕ) (n day from : ℕ) (o : Octets s) (e : opened_as (other version) s ≡ an_image n day from) where
  pub ready : Ready version s n day from
  unfolding image_bytes item_at
  ready =
      let known = other-known version in
      let (holds, entries, told, is) = opened-holds (other version) (other version) s n day from e in
      let source : from ≡ other version = omega (arith, holds.from, holds.to) in
      let opened : opened_of s ≡ an_image n day from =
      holds_opened 1 2 s (holds-wider known.0 known.1 holds) ∙ sym (λ i. an_image (entries i) (told i) (is i)) in
      let (again, fits, many) = write_again s n day from o opened in
      let items : List Item = items_in s in
      record {
        entries = entries;
        few = omega (arith, fits.few);
        small = λ place h.
            let here : Item = item_at s (entry_in s place) in
            let item : get_or items place here ≡ here = item_in s place here (omega arith) in
            let tells = (place-item s n day from place here opened h).1 in
            let fields = rw item at (good-at fits.good place here (omega arith)) in
            let low = fields-low _ _ _ fields in
            let whole = sym (rw item at tells.long) in
            record { kind = low.0; flags = low.1; size = omega (arith, fields-small _ _ _ fields, whole); whole = whole };
        ends = rw (sym many) (sym (length-image from items day) ∙ ap length again);
        front = ap (take (length (packed items))) (sym again) ∙ take_at (packed items) _ (length (packed items)) refl;
        short = holds.short;
        told = told;
        again = again;
        fits = fits;
        source = source;
        from_is = is;
      }

module _ {version : ℕ} {s : List ℕ} {n day from : ℕ} (r : Ready version s n day from) where
  abbrev items : List Item
  items = items_in s

  -- the writer is given octets and columns that are those of the moved items
  module _ {octets kinds flags sizes letters : List ℕ} (front : octets ≡ packed items) (k : kinds ≡ kinds_of items) where
    -- it answers for them by their size
    pub moved-sized :
        flags ≡ flags_of items → sizes ≡ lengths_of items → letters ≡ letters_of (moved_items version items)
        → 1 ≤ version → version ≤ 2 → opened_as (other version) s ≡ an_image n day from → (room : ℕ)
        → writer.written_of version octets kinds flags sizes letters day room ≡ moved_of version s room
    unfolding moved_of on_moved moved_bytes version_good
    moved-sized f z l low high e room =
        let good : version_good version ≡ true = rw (le-leb 1 version low, le-leb version 2 high) in
        let sized =
        columns-sized version (moved_items version items) day room good (moved-good version r.fits.good)
        (omega (arith, moved-many version items, r.fits.few)) r.fits.real in
        rw (front, k, f, z, l)
        (rw (moved-packed version items, moved-kinds version items, moved-flags version items, moved-lengths version items) at sized
        ∙ rw (e, sym r.told))

    -- and writes their image
    pub moved-output :
        flags ≡ flags_of items → sizes ≡ lengths_of items → letters ≡ letters_of (moved_items version items)
        → 1 ≤ version → version ≤ 2 → opened_as (other version) s ≡ an_image n day from → (old : List ℕ)
        → writer.output_of version octets kinds flags sizes letters day old ≡ output_of version s old
    unfolding writer.output_of output_of moved_bytes
    moved-output f z l low high e old =
        let back =
        rw (moved-packed version items, moved-kinds version items, moved-flags version items, moved-lengths version items)
        at (columns-back (moved_items version items)) in
        rw (moved-sized f z l low high e (length old)) (rw (front, k, f, z, l) (rw (back, r.told)))
