-- The tests come in the order of the refusals; then the octets, the index and the trailer follow one another.
use Rattle.std.specs.Prelude.{Ok}
use mathlib.Core.Path.{◌≡◌, refl, ap, sym, ◌∙◌}
use native.Mathlib.Omega.{arith}
use Prim.Native.Nat.{ℕ, ◌+◌, ◌*◌, ◌≤◌}
use mathlib.Core.Bool.{true}
use mathlib.Core.List.{◌++◌}
use lib.ListN.{length, drop, length-append, length-take, length-drop}
use Rattle.image.specs.Items.{trailer_bytes}
use Rattle.image.specs.Index.{width}
use Rattle.image.proofs.Widths.{index-small}
use Rattle.writer.specs.Rows.{rows_bytes}
use Rattle.writer.specs.Writing.{arguments_good, size_of}
use Rattle.writer.proofs.Stores.{put_next}
use Rattle.writer.proofs.Columns.{rows-length, arguments-tell}
use Rattle.writer.proofs.Answers.{refused-argument, refused-limit, refused-short, output-refused, all-written, output-written}
use Rattle.writer.proofs.write.Goals as goal
use Rattle.writer.proofs.write.Goals.{After-width, Else-not-arguments_good, Else-size-gt262144}

good : (c : Else-not-arguments_good) →
    let a = c.args in
    arguments_good a.version a.packed.now a.kinds.now a.flags.now a.lengths.now a.letters.now a.day ≡ true
good c = sym c.arguments_good.ensures ∙ c.if-not-arguments_good.false

few : (c : Else-not-arguments_good) → length c.args.kinds.now ≤ 96
few c =
    let a = c.args in
    (arguments-tell a.version a.packed.now a.kinds.now a.flags.now a.lengths.now a.letters.now a.day (good c)).counted.few

-- the octets of the index are few, and the image has as many as are said
index-few : (c : After-width) → c.width.result * length c.args.kinds.now ≤ 65536
index-few c = index-small _ (length c.args.kinds.now) c.width.ensures (few (record { before = c.before.before; type_inv = record { out = c.type_inv.out; letters = c.type_inv.letters; lengths = c.type_inv.lengths; flags = c.type_inv.flags; kinds = c.type_inv.kinds; packed = c.type_inv.packed } }))

size : (c : After-width) →
    let a = c.args in
    length a.packed.now + c.width.result * length a.kinds.now + 12 ≡ size_of a.version a.packed.now a.kinds.now
unfolding size_of
size c = rw c.width.ensures

-- an image that is not too long
small : (c : Else-size-gt262144) →
    let a = c.args in
    size_of a.version a.packed.now a.kinds.now ≤ 262144
small c = omega (arith, size (record { before = c.before.before; type_inv = record { out = c.type_inv.out; letters = c.type_inv.letters; lengths = c.type_inv.lengths; flags = c.type_inv.flags; kinds = c.type_inv.kinds; packed = c.type_inv.packed } }), c.if-size-gt262144.false)

pub returns-then-not-arguments_good : goal.returns-then-not-arguments_good
returns-then-not-arguments_good c =
    let a = c.args in
    let told = refused-argument a.version a.packed.now a.kinds.now a.flags.now a.lengths.now a.letters.now a.day a.out.now (sym c.arguments_good.ensures ∙ c.if-not-arguments_good.true) in
    record { answer = sym told; output = output-refused a.version a.packed.now a.kinds.now a.flags.now a.lengths.now a.letters.now a.day a.out.now told }

pub overflow_mul-trailer : goal.overflow_mul-trailer
overflow_mul-trailer c = omega (arith, index-few (goal.at.overflow_mul-trailer c).After-width)

pub overflow_add-trailer : goal.overflow_add-trailer
overflow_add-trailer c = omega (arith, index-few (goal.at.overflow_add-trailer c).After-width, c.well_formed)

pub overflow_add-size : goal.overflow_add-size
overflow_add-size c = omega (arith, index-few (goal.at.overflow_add-size c).After-width, c.well_formed)

pub returns-then-size-gt262144 : goal.returns-then-size-gt262144
returns-then-size-gt262144 c =
    let a = c.args in
    let told = refused-limit a.version a.packed.now a.kinds.now a.flags.now a.lengths.now a.letters.now a.day a.out.now (good (goal.at.returns-then-size-gt262144 c).Else-not-arguments_good) (omega (arith, size (goal.at.returns-then-size-gt262144 c).After-width, c.if-size-gt262144.true)) in
    record { answer = sym told; output = output-refused a.version a.packed.now a.kinds.now a.flags.now a.lengths.now a.letters.now a.day a.out.now told }

pub returns-then-out-size : goal.returns-then-out-size
returns-then-out-size c =
    let a = c.args in
    let told = refused-short a.version a.packed.now a.kinds.now a.flags.now a.lengths.now a.letters.now a.day a.out.now (good (goal.at.returns-then-out-size c).Else-not-arguments_good) (small (goal.at.returns-then-out-size c).Else-size-gt262144) (omega (arith, size (goal.at.returns-then-out-size c).After-width, c.if-out-size.true)) in
    record { answer = sym told; output = output-refused a.version a.packed.now a.kinds.now a.flags.now a.lengths.now a.letters.now a.day a.out.now told }

pub put_index-requires : goal.put_index-requires
unfolding size_of
put_index-requires c =
    let a = c.args in
    let tell = arguments-tell a.version a.packed.now a.kinds.now a.flags.now a.lengths.now a.letters.now a.day (good (goal.at.put_index-requires c).Else-not-arguments_good) in (
      tell.counted.flagged,
      tell.counted.long,
      tell.counted.lettered,
      tell.counted.few,
      simp (length-take, length-drop) (omega (arith, size (goal.at.put_index-requires c).After-width, c.if-out-size.false, c.copy.auto)),
    )

pub returns : goal.returns
returns c =
    let a = c.args in
    let octets = a.packed.now in
    let kinds = a.kinds.now in
    let rows = rows_bytes a.version 0 kinds a.flags.now a.lengths.now a.letters.now in
    let trailer = trailer_bytes a.version (length octets) (length kinds) a.day in
    let old = a.out.now in
    let wide = c.width.result in
    let same : width a.version ≡ wide = sym c.width.ensures in
    let counted = size (goal.at.returns c).After-width in
    let sum : length (octets ++ rows) ≡ length octets + wide * length kinds =
    length-append octets rows ∙ rw (rows-length a.version kinds a.flags.now a.lengths.now a.letters.now 0, same) in
    let index = put_next old octets rows _ _ (length octets) (width a.version * length kinds) refl c.copy.ensures c.put_index.ensures in
    let index' = index ∙ ap (λ (n : ℕ). (octets ++ rows) ++ drop (length octets + n * length kinds) old) same in
    let all = put_next old (octets ++ rows) trailer _ _ (length octets + wide * length kinds) 12 sum index' c.put_trailer.ensures in
    let room : size_of a.version octets kinds ≤ length old = omega (arith, counted, c.if-out-size.false) in
    let answer = all-written a.version octets kinds a.flags.now a.lengths.now a.letters.now a.day old (good (goal.at.returns c).Else-not-arguments_good)
    (small (goal.at.returns c).Else-size-gt262144) room in
    let told = output-written a.version octets kinds a.flags.now a.lengths.now a.letters.now a.day old (good (goal.at.returns c).Else-not-arguments_good)
    (small (goal.at.returns c).Else-size-gt262144) room in
    record { answer = ap Ok counted ∙ sym answer; output = all ∙ ap (λ (n : ℕ). ((octets ++ rows) ++ trailer) ++ drop n old) counted ∙ sym told }
