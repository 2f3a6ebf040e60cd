-- The room for the table first, then what the writer says; then both outputs are as they are said.
use Rattle.std.specs.Prelude.{Ok}
use Rattle.std.proofs.lemmas.Result.{err_from_is_err_and}
use Prim.Native.Nat.{ℕ, ◌*◌, ◌≤◌}
use mathlib.Core.Path.{◌≡◌, refl, sym, ap, ◌∙◌}
use mathlib.Core.List.{List, ◌++◌}
use native.Mathlib.Nat.{mul-le-mul}
use native.Mathlib.Omega.{arith}
use borrow.Author.Tests.{le-leb, lt-leb}
use lib.ListN.{length, drop}
use Rattle.writer.specs.Writing.{on_written}
use Rattle.writer.specs.Picking.{picked_bytes, picked_of, picked_out}
use Rattle.writer.proofs.PickedAnswers.{told-length}
use Rattle.room.specs.Kept.{cut_lines}
use Rattle.room.specs.Making.{on_made}
use Rattle.room.specs.Inner.{on_put, put_of}
use Rattle.room.proofs.Cut.{lines_long}
use Rattle.room.proofs.put_places.Goals as goal

pub overflow_mul-size : goal.overflow_mul-size
overflow_mul-size c =
    let l = c.args.places.now in
    let few = c.requires.1 in
    let fits : length l * length l ≤ 96 * 96 = mul-le-mul few few in
    omega arith

pub returns-then-lines-size : goal.returns-then-lines-size
unfolding put_of on_made
returns-then-lines-size c = record { answer = rw (lt-leb _ _ c.if-lines-size.true) refl; image = refl; table = refl }

pub returns-in_err-length : goal.returns-in_err-length
unfolding put_of on_put on_made picked_out on_written
returns-in_err-length c =
    let p = err_from_is_err_and c.from_residual.result c.from_residual.ensures.1 in
    let told = sym c.write_places.ensures.answer ∙ c.in_err-length.was in
    record {
      answer = rw (le-leb _ _ c.if-lines-size.false, told, p.1, p.2) refl;
      image = c.write_places.ensures.output ∙ rw (told, p.1) refl;
      table = rw p.1 refl;
    }

pub returns : goal.returns
unfolding put_of on_put on_made picked_out on_written
returns c =
    let s = c.args.image.now in
    let l = c.args.places.now in
    let old = c.args.out.now in
    let told : picked_of s l (length old) ≡ Ok c.in_ok-length.length =
    sym c.write_places.ensures.answer ∙ c.in_ok-length.was in
    let long = told-length s l (length old) c.in_ok-length.length told in
    let lines : List ℕ = cut_lines c.args.entries c.args.table.now l l in
    record {
      answer = rw (le-leb _ _ c.if-lines-size.false, told) refl;
      image = c.write_places.ensures.output ∙ rw told (ap (λ (n : ℕ). picked_bytes s l ++ drop n old) long);
      table = c.cut_lines.ensures ∙ ap (λ (n : ℕ). lines ++ drop n c.args.lines.now) (sym (lines_long c.args.entries c.args.table.now l l));
    }
