-- The tests come in the order of the refusals; then the items, the index and the trailer follow one another.
use Rattle.std.specs.Prelude.{Ok}
use Prim.Native.Nat.{ℕ, ◌+◌, ◌*◌, ◌≤◌}
use mathlib.Core.Path.{◌≡◌, ap, ap₂, sym, ◌∙◌}
use mathlib.Core.Bool.{true}
use mathlib.Core.List.{◌++◌}
use native.Mathlib.Nat.{mul-le-mul}
use native.Mathlib.Omega.{arith}
use lib.ListN.{length, drop, length-append, length-take, length-drop}
use Rattle.image.specs.Items.{packed, index_bytes, trailer_bytes}
use Rattle.image.specs.Index.{entry_count, version_in, day_in, width}
use Rattle.image.proofs.Few.{opened-told}
use Rattle.image.proofs.Sizes.{length-index}
use Rattle.image.proofs.Widths.{index-small}
use Rattle.writer.specs.Picking.{picked, inside, picked_bytes}
use Rattle.writer.proofs.Stores.{put_next}
use Rattle.writer.proofs.Picked.{picked-few}
use Rattle.writer.proofs.PickedAnswers.{picked-many, picked-size, output-refused, refused-many, refused-place, refused-limit, refused-short, all-written, output-written}
use Rattle.writer.proofs.picking.write_picked.Goals as goal
use Rattle.writer.proofs.picking.write_picked.Goals.{After-width, Else-not-all_inside}

there : (c : Else-not-all_inside) → inside (entry_count c.args.image.now) c.args.places.now ≡ true
there c = rw (← c.entries.ensures.count) (sym c.all_inside.ensures ∙ c.if-not-all_inside.false)

-- the items and the index are few, and the image has as many octets as are said
bounded : (c : After-width) →
    let a = c.args in
    (c.packed_size-start.result ≤ 262144 * 96) × (c.width.result * length a.places.now ≤ 65536)
bounded c =
    let s = c.args.image.now in
    let l = c.args.places.now in
    let most : length s * length l ≤ 262144 * 96 = mul-le-mul (opened-told 1 2 _ _ _ _ c.requires).3 c.if-count-gt96.false in
    (omega (arith, c.packed_size-start.ensures, picked-few s l, most), index-small _ (length l) c.width.ensures c.if-count-gt96.false)

wide : (c : After-width) → c.width.result ≡ width (version_in c.args.image.now)
wide c = c.width.ensures ∙ ap width c.version-version.ensures

size : (c : After-width) →
    let a = c.args in
    c.packed_size-start.result + c.width.result * length a.places.now + 12 ≡ length (picked_bytes a.image.now a.places.now)
size c =
    let l = c.args.places.now in
    ap₂ (λ (a b : ℕ). a + b * length l + 12) c.packed_size-start.ensures (wide c)
    ∙ sym (picked-size c.args.image.now l c.requires c.args.out.now)

pub returns-then-count-gt96 : goal.returns-then-count-gt96
returns-then-count-gt96 c =
    let a = c.args in
    let told = refused-many a.image.now a.places.now c.requires a.out.now c.if-count-gt96.true in
    record { answer = sym told; output = output-refused a.image.now a.places.now c.requires a.out.now told }

pub returns-then-not-all_inside : goal.returns-then-not-all_inside
returns-then-not-all_inside c =
    let a = c.args in
    let told = refused-place a.image.now a.places.now c.requires a.out.now c.if-count-gt96.false (rw (← c.entries.ensures.count) (sym c.all_inside.ensures ∙ c.if-not-all_inside.true)) in
    record { answer = sym told; output = output-refused a.image.now a.places.now c.requires a.out.now told }

pub packed_size-start-requires : goal.packed_size-start-requires
packed_size-start-requires c = ((opened-told 1 2 _ _ _ _ c.requires).3, c.if-count-gt96.false)

pub overflow_mul-trailer : goal.overflow_mul-trailer
overflow_mul-trailer c = omega (arith, bounded (goal.at.overflow_mul-trailer c).After-width)

pub overflow_add-trailer : goal.overflow_add-trailer
overflow_add-trailer c = omega (arith, bounded (goal.at.overflow_add-trailer c).After-width)

pub overflow_add-size : goal.overflow_add-size
overflow_add-size c = omega (arith, bounded (goal.at.overflow_add-size c).After-width)

pub returns-then-size-gt262144 : goal.returns-then-size-gt262144
returns-then-size-gt262144 c =
    let a = c.args in
    let told = refused-limit a.image.now a.places.now c.requires a.out.now c.if-count-gt96.false (there (goal.at.returns-then-size-gt262144 c).Else-not-all_inside) (omega (arith, size (goal.at.returns-then-size-gt262144 c).After-width, c.if-size-gt262144.true)) in
    record { answer = sym told; output = output-refused a.image.now a.places.now c.requires a.out.now told }

pub returns-then-out-size : goal.returns-then-out-size
returns-then-out-size c =
    let a = c.args in
    let told = refused-short a.image.now a.places.now c.requires a.out.now c.if-count-gt96.false (there (goal.at.returns-then-out-size c).Else-not-all_inside) (omega (arith, size (goal.at.returns-then-out-size c).After-width, c.if-size-gt262144.false)) (omega (arith, size (goal.at.returns-then-out-size c).After-width, c.if-out-size.true)) in
    record { answer = sym told; output = output-refused a.image.now a.places.now c.requires a.out.now told }

pub put_items-requires : goal.put_items-requires
put_items-requires c = omega (arith, c.packed_size-start.ensures, size (goal.at.put_items-requires c).After-width, c.if-out-size.false)

pub put_entries-requires : goal.put_entries-requires
put_entries-requires c =
    let a = c.args in
    let all = size (goal.at.put_entries-requires c).After-width in
    let index : c.width.result * length a.places.now ≡ width (version_in a.image.now) * length a.places.now =
    ap (λ (n : ℕ). n * length a.places.now) (wide (goal.at.put_entries-requires c).After-width) in (
      omega (arith, c.packed_size-start.ensures, all, c.if-size-gt262144.false),
      simp (length-take, length-drop) (omega (arith, all, index, c.if-out-size.false, c.put_items.auto)),
    )

pub returns : goal.returns
returns c =
    let a = c.args in
    let s = a.image.now in
    let l = a.places.now in
    let old = a.out.now in
    let version = version_in s in
    let octets = packed (picked s l) in
    let index = index_bytes version 0 (picked s l) in
    let begin = c.packed_size-start.result in
    let trailer = trailer_bytes version begin (length l) (day_in s) in
    let from : begin ≡ length octets = c.packed_size-start.ensures in
    let same : c.width.result ≡ width version = wide (goal.at.returns c).After-width in
    let counted = size (goal.at.returns c).After-width in
    let second = put_next old octets index _ _ begin (width version * length l) (sym from)
    (c.put_items.ensures ∙ ap (λ (n : ℕ). octets ++ drop n old) (sym from)) c.put_entries.ensures in
    let sum : length (octets ++ index) ≡ begin + c.width.result * length l =
    length-append octets index
    ∙ ap₂ ◌+◌ (sym from) (length-index version 0 (picked s l) ∙ ap₂ ◌*◌ (sym same) (picked-many s l)) in
    let third = put_next old (octets ++ index) trailer _ _ (begin + c.width.result * length l) 12 sum
    (second ∙ ap (λ (n : ℕ). (octets ++ index) ++ drop (begin + n * length l) old) (sym same))
    (rw (c.version-version.ensures, c.day.ensures) at c.put_trailer.ensures) in
    let small : length (picked_bytes s l) ≤ 262144 = omega (arith, counted, c.if-size-gt262144.false) in
    let room : length (picked_bytes s l) ≤ length old = omega (arith, counted, c.if-out-size.false) in
    let answer = all-written s l c.requires old c.if-count-gt96.false (there (goal.at.returns c).Else-not-all_inside) small room in
    let told = output-written s l c.requires old c.if-count-gt96.false (there (goal.at.returns c).Else-not-all_inside) small room in
    record {
      answer = ap Ok counted ∙ sym answer;
      output = third
          ∙ ap₂ (λ (m n : ℕ). ((octets ++ index) ++ trailer_bytes version m (length l) (day_in s)) ++ drop n old) from counted ∙ sym told;
    }
