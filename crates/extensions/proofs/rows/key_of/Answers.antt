-- The octets from the index on are left.
use Prim.Native.Nat.{ℕ, ◌+◌, ◌*◌, ◌%◌, ◌<◌}
use mathlib.Core.List.{List}
use mathlib.Core.Path.{◌≡◌, ◌∙◌}
use native.Mathlib.Numerals.{add-one}
use lib.ListN.{length, get_or, drop, drop_of_length-le}
use lib.Seq.{drop-cons}
use Rattle.extensions.specs.Strange.{key_from}
use Rattle.extensions.proofs.rows.key_of.Goals as goal

-- one octet more
further : (c : List ℕ) (i key : ℕ) → i < length c → key_from (key % 0x100000000000000 * 256 + get_or c i 0) (drop (i + 1) c) ≡ key_from key (drop i c)
unfolding key_from
further c i key h = rw (add-one i, drop-cons c i 0)

pub loop-octet-preserved : goal.loop-octet-preserved
loop-octet-preserved c = further _ _ _ c.loop-octet-test.true ∙ c.loop-octet.invariant

pub returns : goal.returns
unfolding key_from
returns c = rw (drop_of_length-le _ c.loop-octet-test.false) at c.loop-octet.invariant
