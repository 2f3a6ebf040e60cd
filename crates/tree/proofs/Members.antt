-- A step looks at the octets between its two offsets, which are the members that are left, and reads the first one's header.
use mathlib.Core.Path.{◌≡◌}
use mathlib.Core.List.{List, ◌++◌, append_assoc}
use Prim.Native.Nat.{ℕ, ◌+◌, ◌-◌, ◌≤◌}
use native.Mathlib.Omega.{arith}
use borrow.Author.Tests.{le-leb}
use lib.ListN.{length, take, drop, length-append}
use lib.Seq.{take-append_seam, drop-append_seam}
use Rattle.der.specs.Forms.{Forms}
use Rattle.der.specs.Heading.{heading_of}
use Rattle.der.specs.Member.{placed, member_of}
use Rattle.tree.specs.Tree.{Tree, Trees, more, encoded, encoded_all}

-- the part of a list behind `before` that is as long as `s`
pub part_at : (before s behind : List ℕ) (size : ℕ) → size ≡ length s → take size (drop (length before) (before ++ s ++ behind)) ≡ s
part_at before s behind size e = rw (append_assoc, drop-append_seam, e) (take-append_seam s behind)

-- a step over the part `s` reads the header of `s`
pub member-at :
    (forms : Forms) (before s behind : List ℕ)
    → member_of forms (before ++ s ++ behind) (length before) (length before + length s) ≡ placed (length before) (heading_of forms s)
unfolding member_of
member-at forms before s behind =
    let from : length before ≤ length before + length s = omega arith in
    let end : length before + length s ≤ length (before ++ s ++ behind) = omega (arith, length-append (before ++ s) behind, length-append before s) in
    simp (le-leb _ _ from, le-leb _ _ end, part_at before s behind (length before + length s - length before) (omega arith))

pub length_more : (tree : Tree) (trees : Trees) → length (encoded_all (more tree trees)) ≡ length (encoded tree) + length (encoded_all trees)
unfolding encoded_all
length_more tree trees = length-append (encoded tree) (encoded_all trees)
