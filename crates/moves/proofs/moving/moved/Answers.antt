-- The image of the other version is read, and what is refused is refused.
use Rattle.std.proofs.lemmas.Result.{err_from_is_err_and}
use mathlib.Core.Path.{◌≡◌, sym, ◌∙◌, ap}
use Prim.Native.Nat.{ℕ, ◌-◌, ◌≤◌}
use mathlib.Core.List.{List}
use Rattle.image.specs.Answer.{opened_as}
use Rattle.writer.specs.Writing.{on_written}
use Rattle.moves.specs.Moving.{other, on_moved, moved_of, output_of}
use Rattle.moves.proofs.Ready.{other-is}
use Rattle.moves.proofs.moving.moved.Goals as goal

-- the version that is asked for is the other one
asked : (version : ℕ) (s : List ℕ) → 1 ≤ version → version ≤ 2 → opened_as (other version) s ≡ opened_as (3 - version) s
asked version s low high = ap (λ (v : ℕ). opened_as v s) (sym (other-is version low high))

pub rewritten-requires : goal.rewritten-requires
rewritten-requires c =
    let a = c.args in
    let is = c.in_ok-read_as.ensures.ok in
    (c.requires.0, c.requires.1, rw is.0 (asked a.version a.image.now c.requires.0 c.requires.1 ∙ is.1))

pub returns-in_err-read_as : goal.returns-in_err-read_as
unfolding moved_of on_moved output_of on_written
returns-in_err-read_as c =
    let a = c.args in
    let p = err_from_is_err_and c.from_residual.result c.from_residual.ensures.1 in
    let refused = asked a.version a.image.now c.requires.0 c.requires.1 ∙ c.in_err-read_as.ensures.err in
    record { answer = rw (refused, p.1, p.2); output = rw refused }

pub returns : goal.returns
returns c = rw (← c.in_ok-read_as.ensures.ok.0) (record { answer = c.rewritten.ensures.answer; output = c.rewritten.ensures.output })
