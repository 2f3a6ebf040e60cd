-- What a move means to readers of the image before and after: an image is its items, and a move changes their letters only.
use Rattle.std.specs.Prelude.{Result, Ok, Err}
use Prim.Native.Nat.{ℕ, ◌+◌, ◌*◌, ◌≤◌}
use mathlib.Core.Path.{◌≡◌, refl, sym, ◌∙◌, ap, ap₂}
use mathlib.Core.Bool.{Bool, true, false, cond}
use mathlib.Core.List.{List}
use native.Mathlib.Omega.{arith}
use borrow.Author.Tests.{leb-true, le-leb}
use lib.Dec.{leb}
use lib.ListN.{length, take, drop}
use lib.Seq.{take_at, drop_at}
use Rattle.octets.specs.Octets.{Octets}
use Rattle.refusal.specs.declared.Refusal.{Refusal}
use Rattle.refusal.specs.declared.Refusal.TheVariants.{Limit, Short}
use Rattle.image.specs.declared.Opened.{Opened}
use Rattle.image.specs.Items.{Item, packed, image_bytes}
use Rattle.image.specs.Index.{entry_count, version_in, day_in, items_in, width}
use Rattle.image.specs.Answer.{opened_as}
use Rattle.image.proofs.Places.{length-items}
use Rattle.image.proofs.Widths.{widths}
use Rattle.writer.specs.Writing.{version_good, on_written}
use Rattle.roundtrip.specs.Good.{GoodItems, Fits}
use Rattle.image.proofs.Sizes.{length-image}
use Rattle.roundtrip.proofs.Opening.{Holds, opened-holds, holds_opened, opened-refused}
use Rattle.roundtrip.proofs.Theorems.{read_back}
use Rattle.letters.specs.Check.{on_checked, checked_of}
use Rattle.moves.specs.Moving.{other, moved_items, moved_bytes, on_moved, moved_of, output_of}
use Rattle.moves.proofs.Moves.{moved-packed, moved-many, moved-good, moved-lettered, back-forth}
use Rattle.moves.proofs.Ready.{Ready, ready}
use Rattle.image.proofs.Payloads.{an_image}

-- what is known where a length is told
pub record Moved (version : ℕ) (s : List ℕ) (room size : ℕ) : Type 0 where
  pub same : size ≡ length (moved_bytes version s)
  pub small : length (moved_bytes version s) ≤ 262144
  pub fits : size ≤ room
  pub entries : ℕ
  pub day : ℕ
  pub from : ℕ
  pub opened : opened_as (other version) s ≡ an_image entries day from

-- a length is told of an opened image that is small and has room
sized :
    (long room size : ℕ) → cond (leb long 262144) (cond (leb long room) (Ok long) (Err Short)) (Err (Limit 0)) ≡ Ok size
    → (size ≡ long) × (long ≤ 262144) × (long ≤ room)
sized long room size e = go (leb long 262144) (leb long room) refl refl e
  where
    go :
        (a b : Bool) → leb long 262144 ≡ a → leb long room ≡ b
        → cond a (cond b (Ok long) (Err Short)) (Err (Limit 0)) ≡ Ok size
        → (size ≡ long) × (long ≤ 262144) × (long ≤ room)
    go true true p q e = (cc, leb-true long 262144 p, leb-true long room q)
    go true false p q e = absurd (let z : ◌≡◌ {A = ℕ} 0 1 = cc in omega arith)
    go false b p q e = absurd (let z : ◌≡◌ {A = ℕ} 0 1 = cc in omega arith)

opened-told :
    (version : ℕ) (s : List ℕ) (room size : ℕ) (a : Result Opened Refusal) → opened_as (other version) s ≡ a
    → on_moved (length (moved_bytes version s)) room a ≡ Ok size → Moved version s room size
unfolding on_moved
opened-told version s room size (Err refusal) is e = absurd (let z : ◌≡◌ {A = ℕ} 0 1 = cc in omega arith)
opened-told version s room size (Ok o) is e =
    let (same, small, inside) = sized (length (moved_bytes version s)) room size e in
    record { same = same; small = small; fits = omega arith; entries = o.entries; day = o.day; from = o.version; opened = is }

pub moved_told : (version : ℕ) (s : List ℕ) (room size : ℕ) → moved_of version s room ≡ Ok size → Moved version s room size
unfolding moved_of
moved_told version s room size e = opened-told version s room size (opened_as (other version) s) refl e

module _ (version : ℕ) (s : List ℕ) where
  -- The octets that are written are the image of the moved items, and beyond it the output stays.
  pub moved-written :
      (old : List ℕ) (size : ℕ) → moved_of version s (length old) ≡ Ok size
      → (take size (output_of version s old) ≡ moved_bytes version s) × (drop size (output_of version s old) ≡ drop size old)
  unfolding output_of on_written
  moved-written old size e =
      let same : length (moved_bytes version s) ≡ size = sym (moved_told version s (length old) size e).same in
      let image : List ℕ = moved_bytes version s in
      (rw e (take_at image (drop size old) size same), rw e (drop_at image (drop size old) size same))

  -- On a refusal all of it stays.
  pub moved-untouched :
      (old : List ℕ) (refusal : Refusal) → moved_of version s (length old) ≡ Err refusal → output_of version s old ≡ old
  unfolding output_of on_written
  moved-untouched old refusal e = rw e

module _ (version : ℕ) (low : 1 ≤ version) (high : version ≤ 2) (s : List ℕ) (o : Octets s) where
  module _ (room size : ℕ) (e : moved_of version s room ≡ Ok size) where
    moved-fits : Fits version (moved_items version (items_in s)) (day_in s)
    unfolding moved_bytes version_good
    moved-fits =
        let m = moved_told version s room size e in
        let r = ready version s m.entries m.day m.from o m.opened in
        record {
          known = rw (le-leb 1 version low, le-leb version 2 high);
          good = moved-good version r.fits.good;
          few = omega (arith, moved-many version (items_in s), r.fits.few);
          real = rw r.told at r.fits.real;
          small = m.small;
        }

    -- What is written is an image of the version: as many entries, the same day, and the items but for their letters.
    pub moved-readable :
        (opened_as version (moved_bytes version s) ≡ an_image (entry_count s) (day_in s) version)
        × (items_in (moved_bytes version s) ≡ moved_items version (items_in s))
    unfolding moved_bytes
    moved-readable =
        let items : List Item = moved_items version (items_in s) in
        let t : List ℕ = image_bytes version items (day_in s) in
        let (readable, same, told) = read_back version items (day_in s) moved-fits in
        let (h, many, day, known) = opened-holds 1 2 t (length items) (day_in s) version readable in
        let alone : Holds version version t =
        record {
          long = h.long;
          short = h.short;
          from = omega (arith, known);
          to = omega (arith, known);
          few = h.few;
          real = h.real;
          ends = h.ends;
          sums = h.sums;
        } in
        let count : entry_count t ≡ entry_count s = sym many ∙ moved-many version (items_in s) ∙ length-items s in
        let image : an_image (entry_count t) (day_in t) (version_in t) ≡ an_image (entry_count s) (day_in s) version =
        λ i. an_image (count i) (sym day i) (sym known i) in
        (holds_opened version version t alone ∙ image, same)

-- moved back, the items are those of version 1
same-again :
    {s : List ℕ} {n day from : ℕ} → Ready 2 s n day from
    → opened_as 2 (moved_bytes 2 s) ≡ an_image (entry_count s) (day_in s) 2 → items_in (moved_bytes 2 s) ≡ moved_items 2 (items_in s)
    → moved_bytes 1 (moved_bytes 2 s) ≡ s
unfolding moved_bytes other
same-again {s} {n} {day} {from} r readable items =
    let t : List ℕ = moved_bytes 2 s in
    let source : from ≡ 1 = r.source in
    let good : GoodItems 1 (items_in s) = rw source at r.fits.good in
    let (holds, many, told, known) = opened-holds 2 2 t (entry_count s) (day_in s) 2 readable in
    let back : moved_items 1 (items_in t) ≡ items_in s = ap (moved_items 1) items ∙ back-forth good in
    ap₂ (image_bytes 1) back (sym told ∙ sym r.told) ∙ ap (λ (v : ℕ). image_bytes v (items_in s) day) (sym source) ∙ r.again

module _ (s : List ℕ) (o : Octets s) (room size : ℕ) (e : moved_of 2 s room ≡ Ok size) where
  -- Forth gives an image whose letters are true.
  pub forth-true : checked_of (moved_bytes 2 s) ≡ Ok true
  unfolding checked_of on_checked
  forth-true =
      let (readable, items) = moved-readable 2 (omega arith) (omega arith) s o room size e in
      rw (readable, items, moved-lettered (items_in s))

  -- Back after forth is the same octets, wherever there is room for them.
  pub back-after-forth :
      (old : List ℕ) → length s ≤ length old
      → (moved_of 1 (moved_bytes 2 s) (length old) ≡ Ok (length s)) × (take (length s) (output_of 1 (moved_bytes 2 s) old) ≡ s)
  unfolding other moved_of on_moved output_of on_written
  back-after-forth old fits =
      let m = moved_told 2 s room size e in
      let r = ready 2 s m.entries m.day m.from o m.opened in
      let (readable, items) = moved-readable 2 (omega arith) (omega arith) s o room size e in
      let back : moved_bytes 1 (moved_bytes 2 s) ≡ s = same-again r readable items in
      let told : moved_of 1 (moved_bytes 2 s) (length old) ≡ Ok (length s) =
      rw (readable, back, le-leb (length s) 262144 r.short, le-leb (length s) (length old) fits) in
      (told, rw (told, back) (take_at s (drop (length s) old) (length s) refl))

-- the image of version 1 is not longer than that of version 2
shorter : {s : List ℕ} {n day from : ℕ} → Ready 1 s n day from → length (moved_bytes 1 s) ≤ 262144
unfolding moved_bytes width
shorter {s} {n} {day} {from} r =
    let items : List Item = moved_items 1 (items_in s) in
    let size : length (image_bytes 1 items (day_in s)) ≡ length (packed items) + width 1 * length items + 12 = length-image 1 items (day_in s) in
    let same : length (packed items) ≡ length (packed (items_in s)) = ap length (moved-packed 1 (items_in s)) in
    let many : length items ≡ n = moved-many 1 (items_in s) ∙ length-items s ∙ sym r.entries in
    let wide : 8 * n ≤ width from * n = (widths from n refl).0 in
    let less : width 1 * length items ≡ 8 * n = ap (λ (k : ℕ). 8 * k) many in
    omega (arith, size, same, less, wide, r.ends, r.short)

never :
    (s : List ℕ) (room at : ℕ) (a : Result Opened Refusal) → Octets s → opened_as (other 1) s ≡ a
    → on_moved (length (moved_bytes 1 s)) room a ≡ Err (Limit at) → ⊥
unfolding on_moved
never s room at (Err refusal) o is e =
    let (k, rule, least) = opened-refused (other 1) (other 1) s refusal is in
    let z : ◌≡◌ {A = ℕ} 0 1 = cc in
    omega arith
never s room at (Ok opened1) o is e =
    go (leb (length (moved_bytes 1 s)) room) (rw (le-leb (length (moved_bytes 1 s)) 262144 (shorter (ready 1 s opened1.entries opened1.day opened1.version o is))) at e)
  where
    go : (b : Bool) → cond b (Ok (length (moved_bytes 1 s))) (Err Short) ≡ Err (Limit at) → ⊥
    go true e = let z : ◌≡◌ {A = ℕ} 0 1 = cc in omega arith
    go false e = let z : ◌≡◌ {A = ℕ} 0 1 = cc in omega arith

-- Back is never refused with 3.
pub back-never-long : (s : List ℕ) (room at : ℕ) → Octets s → moved_of 1 s room ≡ Err (Limit at) → ⊥
unfolding moved_of
back-never-long s room at o e = never s room at (opened_as (other 1) s) o refl e
