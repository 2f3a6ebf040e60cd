-- The test decides.
use Rattle.vrbolist.proofs.versions.one_if.Goals as goal

pub returns-then-so : goal.returns-then-so
returns-then-so c = rw c.if-so.true

pub returns : goal.returns
returns c = rw c.if-so.false
