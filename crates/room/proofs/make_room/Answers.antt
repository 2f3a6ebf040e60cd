-- The table, then the moment; then what is put for the places that stay is what is said. An image that is refused is refused.
use Rattle.std.proofs.lemmas.Result.{err_from_is_err_and}
use Prim.Native.Nat.{ℕ, ◌-◌}
use mathlib.Core.Bool.{true}
use mathlib.Core.Path.{◌≡◌, refl, sym, ap, ◌∙◌}
use mathlib.Core.List.{List}
use native.Mathlib.Omega.{arith}
use lib.ListN.{length, take, length-take}
use Rattle.image.specs.Index.{entry_count, items_in}
use Rattle.usable.specs.Table.{table_good}
use Rattle.room.specs.Kept.{kept_places}
use Rattle.room.specs.Making.{on_opened, made_of, on_made, image_out, table_out}
use Rattle.roundtrip.proofs.Fields.{each-octet}
use Rattle.room.proofs.Making.{put_all}
use Rattle.room.proofs.make_room.Goals as goal
use Rattle.room.proofs.make_room.Goals.{After-table_good}

many : (c : After-table_good) → c.entries-entries.result ≡ entry_count c.args.image.now
many c = c.entries-entries.ensures.count ∙ ap entry_count c.in_ok-reading.ensures.ok.0

told : (c : After-table_good) → c.table_good.result ≡ table_good (entry_count c.args.image.now) c.args.table.now
told c = c.table_good.ensures.0 c.entries-entries.ensures.few ∙ ap (λ (n : ℕ). table_good n c.args.table.now) (many c)

pub returns-in_err-reading : goal.returns-in_err-reading
unfolding made_of on_opened image_out table_out on_made
returns-in_err-reading c =
    let p = err_from_is_err_and c.from_residual.result c.from_residual.ensures.1 in
    let is = c.in_err-reading.ensures.err in
    record { answer = rw (is, p.1, p.2) refl; image = rw is refl; table = rw is refl }

pub returns-then-not-table_good : goal.returns-then-not-table_good
unfolding made_of on_opened image_out table_out on_made
returns-then-not-table_good c =
    let is = c.in_ok-reading.ensures.ok.1 in
    let bad = sym (told (goal.at.returns-then-not-table_good c).After-table_good) ∙ c.if-not-table_good.true in
    record { answer = rw (is, bad) refl; image = rw (is, bad) refl; table = rw (is, bad) refl }

pub returns-then-not-real_moment : goal.returns-then-not-real_moment
unfolding made_of on_opened image_out table_out on_made
returns-then-not-real_moment c =
    let is = c.in_ok-reading.ensures.ok.1 in
    let good = sym (told (goal.at.returns-then-not-real_moment c).After-table_good) ∙ c.if-not-table_good.false in
    let bad = sym c.real_moment.ensures ∙ c.if-not-real_moment.true in
    record { answer = rw (is, good, bad) refl; image = rw (is, good, bad) refl; table = rw (is, good, bad) refl }

pub slice_bounds-put_places-end : goal.slice_bounds-put_places-end
slice_bounds-put_places-end c =
    let k = c.kept_places-kept in
    omega (arith, length-take k.result.count k.result.places, ap length k.ensures.2, k.ensures.0)

pub put_places-requires : goal.put_places-requires
put_places-requires c = (c.entries-entries.ensures.few, simp length-take (omega (arith, c.kept_places-kept.ensures.1)))

pub returns : goal.returns
returns c =
    let a = c.args in
    let here = (goal.at.returns c).After-table_good in
    let k = c.kept_places-kept in
    let good : table_good (entry_count a.image.now) a.table.now ≡ true = sym (told here) ∙ c.if-not-table_good.false in
    let real = sym c.real_moment.ensures ∙ c.if-not-real_moment.false in
    let less : k.result.count - 0 ≡ k.result.count = omega arith in
    let same =
    ap (λ (n : ℕ). take n k.result.places) less ∙ k.ensures.2 ∙ ap (λ (s : List ℕ). kept_places a.moment (items_in s)) c.in_ok-reading.ensures.ok.0 in
    let all =
    put_all a.moment a.image.now a.table.now a.out.now a.lines.now
    (each-octet a.image.now (λ i. (c.type_inv.image i).fits)) c.in_ok-reading.ensures.ok.1 good real same
    (simp length-take (omega (arith, k.ensures.1))) c.put_places.ensures.answer c.put_places.ensures.image
    (rw (many here) at c.put_places.ensures.table) in
    record { answer = all.answer; image = all.image; table = all.lined }
