-- The answer is taken apart as it is defined to be told.
use mathlib.Core.Path.{sym, ◌∙◌}
use Rattle.vrbolist.specs.Told.{replay_told}
use Rattle.vrbolist.proofs.trays.vrbolist_replay.Goals as goal

pub returns-in-Ok : goal.returns-in-Ok
unfolding replay_told
returns-in-Ok c =
    record { answer = rw (sym c.replay.ensures.0 ∙ c.in-Ok.is); output = c.replay.ensures.1 }

pub returns-in-Err : goal.returns-in-Err
unfolding replay_told
returns-in-Err c =
    record { answer = rw (sym c.replay.ensures.0 ∙ c.in-Err.is, c.number.ensures, c.detail.ensures); output = c.replay.ensures.1 }
