-- After i octets the output has the first i of the line, and from there on what it had.
use Prim.Native.Nat.{ℕ, ◌+◌, ◌*◌, ◌≤◌, ◌<◌}
use mathlib.Core.Path.{◌≡◌, refl, ap, sym, ◌∙◌}
use mathlib.Core.List.{List, ◌++◌}
use native.Mathlib.Nat.{mul-le-mul}
use native.Mathlib.Numerals.{add-one}
use native.Mathlib.Omega.{arith}
use lib.ListN.{length, get_or, set, take, drop, length-set}
use lib.Seq.{take-length}
use Rattle.writer.proofs.Stores.{copy-next}
use Rattle.room.specs.Kept.{cut_line}
use Rattle.room.proofs.Cut.{line_at, line-long}
use Rattle.room.proofs.cutting.cut_line.Goals as goal

-- where the row starts is not far
far : {row n : ℕ} → row < 256 → n ≤ 96 → row * n ≤ 255 * 96
far {row} {n} octet few = let most : row ≤ 255 = omega arith in mul-le-mul most few

pub overflow_mul-start : goal.overflow_mul-start
overflow_mul-start c =
    let octet : c.args.row < 256 = omega (arith, c.ranges) in
    omega (arith, far octet c.requires.0)

pub loop-i-init : goal.loop-i-init
loop-i-init c = (refl, refl)

pub overflow_cast-columns : goal.overflow_cast-columns
overflow_cast-columns c = omega (arith, c.type_inv.columns c.loop-i.i)

pub overflow_add-start : goal.overflow_add-start
overflow_add-start c =
    let octet : c.args.row < 256 = omega (arith, c.ranges) in
    omega (arith, far octet c.requires.0, c.type_inv.columns c.loop-i.i)

pub loop-i-preserved : goal.loop-i-preserved
loop-i-preserved c =
    let now = c.loop-i in
    let columns = c.args.columns.now in
    let old = c.args.out.now in
    let line = cut_line c.args.n c.args.table.now c.args.row columns in
    let inside : now.i < length columns = c.loop-i-test.true in
    let long = line-long c.args.n c.args.table.now c.args.row columns in
    let room : now.i < length old = omega (arith, c.requires.1) in
    let same : c.octet.result ≡ get_or line now.i 0 = c.octet.ensures ∙ sym (line_at c.args.n c.args.table.now c.args.row columns now.i inside) in
    let next : set now.out now.i c.octet.result ≡ take (now.i + 1) line ++ drop (now.i + 1) old =
    ap (λ (x : ℕ). set now.out now.i x) same ∙ ap (λ (l : List ℕ). set l now.i (get_or line now.i 0)) now.invariant.1
    ∙ rw add-one (copy-next line old now.i (omega (arith, long)) room) in
    (simp length-set now.invariant.0, next)

pub shape_of-out : goal.shape_of-out
shape_of-out c = omega arith

pub returns : goal.returns
returns c =
    let columns = c.args.columns.now in
    let line = cut_line c.args.n c.args.table.now c.args.row columns in
    let all : c.loop-i.i ≡ length columns = omega arith in
    let long : length columns ≡ length line = sym (line-long c.args.n c.args.table.now c.args.row columns) in
    let whole : take (length columns) line ≡ line = ap (λ (k : ℕ). take k line) long ∙ take-length line in
    c.loop-i.invariant.1 ∙ ap (λ (k : ℕ). take k line ++ drop k c.args.out.now) all ∙ ap (λ (l : List ℕ). l ++ drop (length columns) c.args.out.now) whole
