-- The octets of the items stand in front, and the columns are theirs: so the writer answers and writes what a move does.
use Prim.Native.Nat.{ℕ, ◌+◌, ◌*◌, ◌-◌, ◌<◌}
use mathlib.Core.Path.{◌≡◌, ◌∙◌, ap, ap₂}
use mathlib.Core.List.{List}
use native.Mathlib.Omega.{arith}
use lib.ListN.{length, take, get_or}
use Rattle.image.specs.Answer.{opened_as}
use Rattle.image.specs.Items.{packed}
use Rattle.image.specs.Index.{entry_count, version_in, day_in, items_in, width}
use Rattle.image.proofs.Widths.{index-small}
use Rattle.image.proofs.Payloads.{an_image}
use Rattle.roundtrip.proofs.Fields.{each-octet}
use Rattle.moves.specs.Moving.{other}
use Rattle.moves.proofs.Ready.{Ready, ready, moved-sized, moved-output}
use Rattle.moves.proofs.moving.rewritten.Goals as goal
use Rattle.moves.proofs.moving.rewritten.Goals.{After-width}

-- the image is ready to be moved
is-ready :
    (version : ℕ) (s : List ℕ) → opened_as (other version) s ≡ an_image (entry_count s) (day_in s) (version_in s) → ((i : ℕ) → get_or s i 0 < 256)
    → Ready version s (entry_count s) (day_in s) (version_in s)
is-ready version s opened octets = ready version s _ _ _ (each-octet s octets) opened

-- what is lent holds octets
small : {s t : List ℕ} → t ≡ s → ((i : ℕ) → get_or t i 0 < 256) → (i : ℕ) → get_or s i 0 < 256
small same octets i = rw (← same) (octets i)

-- where its index starts
begins : (c : After-width) →
    let s = c.args.image.now in
    length (packed (items_in s)) + c.width.result * c.entries-entries.result + 12 ≡ length c.octets-octets.result.now
begins c =
    let r = is-ready c.args.version c.args.image.now c.requires.2 (small c.octets-octets.ensures.same (λ i. (c.type_inv.octets i).fits)) in
    let index : c.width.result * c.entries-entries.result ≡ width (version_in c.args.image.now) * entry_count c.args.image.now =
    ap₂ ◌*◌ (c.width.ensures ∙ ap width c.version-from.ensures) c.entries-entries.ensures.count in
    omega (arith, r.ends, index, ap length c.octets-octets.ensures.same)

pub overflow_sub-start : goal.overflow_sub-start
overflow_sub-start c =
    let r = is-ready c.args.version c.args.image.now c.requires.2 (small c.octets-octets.ensures.same (λ i. (c.type_inv.octets i).fits)) in
    omega (arith, r.ends, ap length c.octets-octets.ensures.same)

pub overflow_mul-start : goal.overflow_mul-start
overflow_mul-start c = omega (arith, index-small _ _ c.width.ensures c.entries-entries.ensures.few)

pub overflow_sub-start-2 : goal.overflow_sub-start-2
overflow_sub-start-2 c = omega (arith, begins (goal.at.overflow_sub-start-2 c).After-width)

pub columns_for-columns-requires : goal.columns_for-columns-requires
columns_for-columns-requires c = (is-ready c.args.version c.args.image.now c.requires.2 (small c.octets-octets.ensures.same (λ i. (c.type_inv.octets i).fits))).small

pub slice_bounds-write-end-2 : goal.slice_bounds-write-end-2
slice_bounds-write-end-2 c = omega (arith, c.entries-entries.ensures.few, c.columns_for-columns.ensures.long-kinds)

pub slice_bounds-write-end-3 : goal.slice_bounds-write-end-3
slice_bounds-write-end-3 c = omega (arith, c.entries-entries.ensures.few, c.columns_for-columns.ensures.long-flags)

pub slice_bounds-write-end-4 : goal.slice_bounds-write-end-4
slice_bounds-write-end-4 c = omega (arith, c.entries-entries.ensures.few, c.columns_for-columns.ensures.long-sizes)

pub slice_bounds-write-end-5 : goal.slice_bounds-write-end-5
slice_bounds-write-end-5 c = omega (arith, c.entries-entries.ensures.few, c.columns_for-columns.ensures.long-letters)

pub returns : goal.returns
returns c =
    let a = c.args in
    let s : List ℕ = a.image.now in
    let n = c.entries-entries.result in
    let many = c.entries-entries.ensures.count in
    let w = (goal.at.returns c).After-width in
    let r = is-ready a.version s c.requires.2 (small w.octets-octets.ensures.same (λ i. (w.type_inv.octets i).fits)) in
    let t = c.columns_for-columns.ensures in
    let octets = c.octets-octets.result.now in
    let start : length octets - 12 - c.width.result * n - 0 ≡ length (packed (items_in s)) = omega (arith, begins (goal.at.returns c).After-width) in
    let front = ap₂ (λ (k : ℕ) (l : List ℕ). take k l) start c.octets-octets.ensures.same ∙ r.front in
    let table = c.columns_for-columns.result in
    let all : n - 0 ≡ entry_count s = omega (arith, many) in
    let pairs : 2 * n - 0 ≡ 2 * entry_count s = omega (arith, many) in
    let kinds = ap (λ (k : ℕ). take k table.kinds) all ∙ t.kinds-are in
    let flags = ap (λ (k : ℕ). take k table.flags) all ∙ t.flags-are in
    let sizes = ap (λ (k : ℕ). take k table.lengths) all ∙ t.sizes-are in
    let letters = ap (λ (k : ℕ). take k table.letters) pairs ∙ t.letters-are in
    let low = c.requires.0 in
    let high = c.requires.1 in
    let answer = rw c.day.ensures at c.write.ensures.answer in
    let output = rw c.day.ensures at c.write.ensures.output in
    record {
      answer = answer ∙ moved-sized r front kinds flags sizes letters low high c.requires.2 (length a.out.now);
      output = output ∙ moved-output r front kinds flags sizes letters low high c.requires.2 a.out.now;
    }
