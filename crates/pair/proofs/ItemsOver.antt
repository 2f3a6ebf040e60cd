-- The item list of both images by place: that of the first below its count, behind it that of the update.
use Prim.Native.Nat.{ℕ, ◌+◌, ◌-◌, ◌≤◌, ◌<◌}
use mathlib.Core.Path.{◌≡◌, sym, ap, ◌∙◌}
use mathlib.Core.List.{List}
use mathlib.Core.Logic.{⊎_elim}
use native.Mathlib.Omega.{arith}
use lib.ListN.{length, get_or, take, drop, length-append, get_or-append}
use lib.Seq.{get_or-append-add}
use Rattle.image.specs.declared.IndexEntry.{IndexEntry}
use Rattle.image.specs.Items.{Item}
use Rattle.image.specs.Index.{entry_count, entry_of, entry_in, item_at, items_in}
use Rattle.image.proofs.Places.{length-items, item_in, entry-own}
use Rattle.pair.specs.declared.Span.{Span}
use Rattle.pair.specs.Places.{items_over, part_over, behind, entry_over}
use Rattle.pair.specs.Spans.{Spans}
use Rattle.pair.proofs.PartLaws.{part-first, part-update}
use Rattle.pair.proofs.PlaceLaws.{below_or_not, entry_first, entry-update}

module _ (s u : List ℕ) where
  pub length_over : length (items_over s u) ≡ entry_count s + entry_count u
  length_over = omega (arith, length-append (items_in s) (items_in u), length-items s, length-items u)

  module _ (place : ℕ) (default : Item) where
    pub over_first : place < entry_count s → get_or (items_over s u) place default ≡ item_at s (entry_in s place)
    over_first h = get_or-append (items_in s) (items_in u) default place (omega (arith, length-items s)) ∙ item_in s place default h

    pub over-update :
        entry_count s ≤ place → place < entry_count s + entry_count u
        → get_or (items_over s u) place default ≡ item_at u (entry_in u (place - entry_count s))
    over-update beyond h =
        let k : ℕ = place - entry_count s in
        let here : place ≡ length (items_in s) + k = omega (arith, length-items s) in
        ap (λ (i : ℕ). get_or (items_over s u) i default) here
        ∙ get_or-append-add (items_in s) (items_in u) k default ∙ item_in u k default (omega arith)

-- the item that an entry tells over the octets of both
abbrev pub item_over : List ℕ → List ℕ → IndexEntry → Item
item_over s u e =
    record { kind = e.kind; flags = e.flags; bytes = part_over s u e.offset e.length; first = e.first; second = e.second }

module _ {span : Span} {s u : List ℕ} (spans : Spans span s u) where
  -- in the first image an item stands before its end
  pub over-told :
      ((p : ℕ) → p < entry_count s → (entry_in s p).offset < length s) → (place : ℕ) (default : Item) → place < span.places
      → get_or (items_over s u) place default ≡ item_over s u (entry_over span s u place)
  unfolding item_at behind
  over-told starts place default h = ⊎_elim first update (below_or_not place span.own)
    where
      first : place < span.own → get_or (items_over s u) place default ≡ item_over s u (entry_over span s u place)
      first own =
          let e : IndexEntry = entry_in s place in
          let told : entry_over span s u place ≡ e = entry_first span s u place own ∙ entry-own s spans.version place in
          let part = part-first s u e.offset e.length (starts place (omega (arith, spans.own))) in
          over_first s u place default (omega (arith, spans.own))
          ∙ (λ j. record { kind = e.kind; flags = e.flags; bytes = sym part j; first = e.first; second = e.second })
          ∙ ap (item_over s u) (sym told)

      update : span.own ≤ place → get_or (items_over s u) place default ≡ item_over s u (entry_over span s u place)
      update beyond =
          let k : ℕ = place - entry_count s in
          let e : IndexEntry = entry_in u k in
          let same : place - span.own ≡ k = omega (arith, spans.own) in
          let told : entry_over span s u place ≡ behind (length s) e =
          entry-update span s u place beyond ∙ ap (λ (p : ℕ). behind (length s) (entry_of span.later u p)) same
          ∙ ap (behind (length s)) (entry-own u spans.later k) in
          let back : length s + e.offset - length s ≡ e.offset = omega arith in
          let part = part-update s u (length s + e.offset) e.length (omega arith) in
          over-update s u place default (omega (arith, spans.own)) (omega (arith, spans.all))
          ∙ (λ j. record {
            kind = e.kind;
            flags = e.flags;
            bytes = sym (part ∙ ap (λ (at : ℕ). take e.length (drop at u)) back) j;
            first = e.first;
            second = e.second;
          })
          ∙ ap (item_over s u) (sym told)
