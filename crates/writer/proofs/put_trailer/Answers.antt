-- Each number follows the one before it, and the output beyond the last is as it was.
use mathlib.Core.Path.{refl}
use mathlib.Core.List.{[], ◌++◌}
use Rattle.octets.specs.Octets.{big}
use Rattle.image.specs.Items.{trailer_bytes}
use Rattle.writer.proofs.Stores.{put_next}
use Rattle.writer.proofs.put_trailer.Goals as goal

pub returns : goal.returns
unfolding trailer_bytes big
returns c =
    let a = c.args in
    let old = a.out.now in
    let start = big 4 a.start in
    let entries = big 2 a.entries in
    let version = big 2 a.version in
    let first = put_next old [] start old _ 0 4 refl refl c.put_four.ensures in
    let second = put_next old start entries _ _ 4 2 refl first c.put_two.ensures in
    let third = put_next old (start ++ entries) version _ _ 6 2 refl second c.put_two-2.ensures in
    put_next old ((start ++ entries) ++ version) (big 4 a.day) _ _ 8 4 refl third c.put_four-2.ensures
