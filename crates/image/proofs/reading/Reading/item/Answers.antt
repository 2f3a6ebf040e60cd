use Rattle.image.specs.Index.{item_at}
use Rattle.image.proofs.reading.Reading.item.Goals as goal

pub returns : goal.returns
unfolding item_at
returns c = rw (c.part.ensures, c.self.view_is, c.entry-e.ensures.own)
