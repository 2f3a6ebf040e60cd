-- The length first, and the slots behind it.
use mathlib.Core.Path.{◌≡◌, sym, ◌∙◌}
use native.Mathlib.Omega.{arith}
use lib.ListN.{length}
use Rattle.std.proofs.lemmas.Slice.{put_mid-paste}
use Rattle.search.proofs.RecordsPut.{head-put}
use Rattle.search.proofs.all.put.Goals as goal

pub returns : goal.returns
returns c =
    let a = c.args in
    let full : length a.slots ≡ 96 = omega (arith, c.ranges) in (
      full,
      put_mid-paste _ _ _ _ a.slots 96 c.copy_from_slice.ensures.after (omega arith) (sym full)
          ∙ head-put a.out.now a.at a.count a.slots (omega (arith, c.requires.1)),
    )
