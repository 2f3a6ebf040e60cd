-- Whether all are zeros is whether those so far were and those left are.
use mathlib.Core.Path.{refl, sym, ◌∙◌}
use Rattle.writer.proofs.Columns.{zeros-kept, zeros-all}
use Rattle.writer.proofs.all_zeros.Goals as goal

pub loop-letter-init : goal.loop-letter-init
loop-letter-init c = refl

pub loop-letter-preserved : goal.loop-letter-preserved
loop-letter-preserved c =
    let now = c.loop-letter in
    now.invariant ∙ zeros-kept c.args.letters.now now.letter-index now.good c.loop-letter-test.true

pub returns : goal.returns
returns c =
    let now = c.loop-letter in
    sym (now.invariant ∙ zeros-all c.args.letters.now now.letter-index now.good c.loop-letter-test.false)
