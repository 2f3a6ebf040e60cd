-- Each field is read by the definition's own number.
use Rattle.image.specs.Index.{entry_at}
use Rattle.image.proofs.entry_cut.Goals as goal

pub returns : goal.returns
unfolding entry_at
returns c =
    λ i. record {
      kind = c.number.ensures.0 i;
      flags = c.number-2.ensures.0 i;
      length = c.number-3.ensures.0 i;
      offset = c.number-4.ensures.0 i;
      first = c.letter.ensures i;
      second = c.letter-2.ensures i;
    }
