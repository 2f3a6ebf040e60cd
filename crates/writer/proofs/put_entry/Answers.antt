-- Kind and flags are stored, each number follows, then what the version has behind these, and the output beyond is as it was.
use mathlib.Core.Path.{◌≡◌, refl, ap, ◌∙◌}
use native.Mathlib.Omega.{arith}
use Prim.Native.Nat.{ℕ, ◌+◌, ◌-◌, ◌≤◌}
use mathlib.Core.List.{[], ◌∷◌, ◌++◌}
use lib.ListN.{length, set, drop, length-set, length-take, length-drop}
use Rattle.octets.specs.Octets.{big}
use Rattle.image.specs.Items.{letters_bytes, entry_bytes}
use Rattle.image.specs.Index.{width}
use Rattle.image.proofs.Widths.{width-least}
use Rattle.writer.proofs.Stores.{set-two, put_next}
use Rattle.writer.proofs.put_entry.Goals as goal
use Rattle.writer.proofs.put_entry.Goals.{Start}

-- there is room for what every entry begins with
room : (c : Start) → 8 ≤ length c.args.out.now
room c = omega (arith, c.requires, width-least c.args.version)

-- no store changes how long the output is
two-long : (c : Start) →
    let a = c.args in
    length (set (set a.out.now 0 a.kind) 1 a.flags) ≡ length a.out.now
two-long c =
    let a = c.args in
    length-set (set a.out.now 0 a.kind) 1 a.flags ∙ length-set a.out.now 0 a.kind

pub bounds-out-0 : goal.bounds-out-0
bounds-out-0 c = omega (arith, room (goal.at.bounds-out-0 c).Start)

pub bounds-out-1 : goal.bounds-out-1
bounds-out-1 c = simp length-set (omega (arith, room (goal.at.bounds-out-1 c).Start))

pub slice_bounds-put_two-count : goal.slice_bounds-put_two-count
slice_bounds-put_two-count c = simp length-set (omega (arith, room (goal.at.slice_bounds-put_two-count c).Start))

pub slice_bounds-put_two-start : goal.slice_bounds-put_two-start
slice_bounds-put_two-start c = simp length-set (omega (arith, room (goal.at.slice_bounds-put_two-start c).Start))

pub put_two-requires : goal.put_two-requires
put_two-requires c = simp (length-take, length-drop, length-set) (omega (arith, room (goal.at.put_two-requires c).Start))

pub slice_bounds-put_four-count : goal.slice_bounds-put_four-count
slice_bounds-put_four-count c = omega (arith, room (goal.at.slice_bounds-put_four-count c).Start, c.out-1.given.1, two-long (goal.at.slice_bounds-put_four-count c).Start)

pub slice_bounds-put_four-start : goal.slice_bounds-put_four-start
slice_bounds-put_four-start c = omega (arith, room (goal.at.slice_bounds-put_four-start c).Start, c.out-1.given.1, two-long (goal.at.slice_bounds-put_four-start c).Start)

pub put_four-requires : goal.put_four-requires
put_four-requires c =
    simp (length-take, length-drop) (omega (arith, room (goal.at.put_four-requires c).Start, c.out-1.given.1, two-long (goal.at.put_four-requires c).Start))

pub slice_bounds-put_letters-count : goal.slice_bounds-put_letters-count
slice_bounds-put_letters-count c =
    omega (arith, room (goal.at.slice_bounds-put_letters-count c).Start, c.out-2-1.given.1, c.out-1.given.1, two-long (goal.at.slice_bounds-put_letters-count c).Start)

pub slice_bounds-put_letters-start : goal.slice_bounds-put_letters-start
slice_bounds-put_letters-start c =
    omega (arith, room (goal.at.slice_bounds-put_letters-start c).Start, c.out-2-1.given.1, c.out-1.given.1, two-long (goal.at.slice_bounds-put_letters-start c).Start)

pub put_letters-requires : goal.put_letters-requires
put_letters-requires c =
    simp (length-take, length-drop)
    (omega (arith, c.requires, room (goal.at.put_letters-requires c).Start, c.out-2-1.given.1, c.out-1.given.1, two-long (goal.at.put_letters-requires c).Start))

pub shape_of-out : goal.shape_of-out
shape_of-out c =
    omega (arith, c.out-3-1.given.1, c.out-2-1.given.1, c.out-1.given.1, two-long (goal.at.shape_of-out c).Start)

pub returns : goal.returns
unfolding entry_bytes big
returns c =
    let a = c.args in
    let old = a.out.now in
    let wide = width a.version in
    let some : 2 ≤ length old = omega (arith, room (goal.at.returns c).Start) in
    let two = a.kind ∷ a.flags ∷ [] in
    let four = two ++ big 2 a.size in
    let eight = four ++ big 4 a.offset in
    let letters = letters_bytes a.version a.first a.second in
    let first = put_next old two (big 2 a.size) _ _ 2 2 refl (set-two old a.kind a.flags some) c.put_two.ensures in
    let second = put_next old four (big 4 a.offset) _ _ 4 4 refl first c.put_four.ensures in
    let all = put_next old eight letters _ _ 8 (wide - 8) refl second c.put_letters.ensures in
    let end : 8 + (wide - 8) ≡ wide = omega (arith, width-least a.version) in
    all ∙ ap (λ (n : ℕ). (eight ++ letters) ++ drop n old) end
