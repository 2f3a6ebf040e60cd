-- What a pair answers, from its definitions.
use Rattle.std.specs.Prelude.{Result, Ok, Err}
use Prim.Native.Nat.{ℕ, ◌+◌, ◌-◌, ◌≤◌, ◌<◌}
use mathlib.Core.Path.{◌≡◌, refl, sym, ap, ◌∙◌}
use mathlib.Core.Bool.{true, false}
use mathlib.Core.List.{List, []}
use mathlib.Core.Logic.{◌↔◌, ⊎_elim}
use native.Mathlib.Omega.{arith}
use lib.ListN.{length, get_or, take, drop, length-drop}
use lib.Seq.{length-take-le}
use Rattle.refusal.specs.declared.Refusal.{Refusal}
use Rattle.refusal.specs.declared.Refusal.TheVariants as refusal
use Rattle.image.specs.declared.IndexEntry.{IndexEntry}
use Rattle.image.specs.Items.{Item}
use Rattle.image.specs.Index.{entry_in, item_at}
use Rattle.image.specs.Answer.{opened_of}
use Rattle.pair.proofs.Within.{Inside, entry-inside}
use Rattle.pair.specs.declared.Span.{Span}
use Rattle.pair.specs.declared.Joint.{Joint}
use Rattle.pair.specs.declared.fetching.Held.{Held}
use Rattle.pair.specs.Places.{items_over}
use Rattle.pair.specs.Answer.{pair_of, held_of, bytes_over, fetched_of}
use Rattle.pair.specs.Spans.{Spans}
use Rattle.pair.proofs.PlaceLaws.{below_or_not}
use Rattle.pair.proofs.PairLaws as law
use Rattle.pair.proofs.Readable.{readable, spans}
use Rattle.pair.proofs.ItemsOver.{over_first, over-update}
use Rattle.image.proofs.Payloads.{an_image}
use Rattle.pair.proofs.Payloads.{a_joint}
use Rattle.pair.proofs.Payloads.{a_held}

module _ (s u : List ℕ) where
  -- A pair that reads tells how many places it has, how many of them are the first image's, both versions, and the update's day; there are
  -- at most 96.
  pub pair-spans : (span : Span) (day : ℕ) → pair_of s u ≡ a_joint span day → Spans span s u × (span.places ≤ 96)
  pair-spans span day e = let r = readable s u span day e in (spans s u span day r, r.few)

  -- A fault of the first image is told, whatever the update is.
  pub first-fault : (why : Refusal) → opened_of s ≡ Err why → pair_of s u ≡ Err why
  first-fault why e = law.first-refused s u e

  module _ (n day version : ℕ) (first : opened_of s ≡ an_image n day version) where
    -- Then one of the update.
    pub update-fault : (why : Refusal) → opened_of u ≡ Err why → pair_of s u ≡ Err why
    update-fault why e = law.update-refused s u first e

    module _ (m last later : ℕ) (update : opened_of u ≡ an_image m last later) where
      -- Then 3 with detail 0 for over 96 entries together.
      pub too_many : 96 < n + m → pair_of s u ≡ Err (refusal.Limit 0)
      too_many = law.many-refused s u first update

      module _ (few : n + m ≤ 96) where
        -- Then 6 for an update whose day is earlier.
        pub earlier-day : last < day → pair_of s u ≡ Err refusal.Day
        earlier-day = law.earlier-refused s u first update few

        -- Any other pair reads: of equal days too, and of any two versions.
        pub no-fault :
            day ≤ last → pair_of s u ≡ a_joint (record { places = n + m; own = n; version = version; later = later }) last
        no-fault = law.both_read s u first update few

-- the bytes that an entry tells are as many as it says
part-long : (s : List ℕ) (e : IndexEntry) → Inside (length s) e → length (take e.length (drop e.offset s)) ≡ e.length
part-long s e i = length-take-le e.length (drop e.offset s) (omega (arith, length-drop e.offset s, i.ends))

module _ (s u : List ℕ) (place : ℕ) where
  -- what is answered of a place: refused, or the entry of one of the images, and its item there
  data Answer (h : Result Held Refusal) : Type 0 where
    refused : (why : Refusal) → h ≡ Err why → Answer h
    in-first : h ≡ a_held (entry_in s place) false → Inside (length s) (entry_in s place) → Answer h
    in-update : (at : ℕ) → h ≡ a_held (entry_in u at) true → Inside (length u) (entry_in u at) → Answer h

  answer : Answer (held_of s u place)
  answer = go (pair_of s u) refl
    where
      go : (joint : Result Joint Refusal) → pair_of s u ≡ joint → Answer (held_of s u place)
      go (Err why) e = refused why (law.held-refused s u place e)
      go (Ok j) e =
          let r = readable s u j.span j.day e in
          ⊎_elim
          (λ there.
          ⊎_elim
          (λ own. in-first (law.held_first s u place e there own) (entry-inside 1 2 s _ _ _ place r.first own))
          (λ beyond.
          in-update (place - j.span.own) (law.held_update s u place e there beyond)
          (entry-inside 1 2 u _ _ _ (place - j.span.own) r.update (omega (arith, r.all))))
          (below_or_not place j.span.own))
          (λ past. refused refusal.Argument (law.held-beyond s u place e past))
          (below_or_not place j.span.places)

  -- An empty part is always a refusal, and a refusal an empty part.
  pub fetched-empty : (fetched_of s u place ≡ []) ↔ ((why : Refusal) × (held_of s u place ≡ Err why))
  unfolding fetched_of bytes_over
  fetched-empty = (λ e. to e answer, λ h. ap (bytes_over s u) h.1)
    where
      none : (l : List ℕ) (n : ℕ) → l ≡ [] → length l ≡ n → 1 ≤ n → ⊥
      none l n e long some = omega (arith, ap length e)

      to : fetched_of s u place ≡ [] → Answer (held_of s u place) → (why : Refusal) × (held_of s u place ≡ Err why)
      to e (refused why h) = (why, h)
      to e (in-first h i) = absurd (none _ _ (sym (ap (bytes_over s u) h) ∙ e) (part-long s (entry_in s place) i) i.some)
      to e (in-update at h i) = absurd (none _ _ (sym (ap (bytes_over s u) h) ∙ e) (part-long u (entry_in u at) i) i.some)

  module _ (span : Span) (day : ℕ) (e : pair_of s u ≡ a_joint span day) (there : place < span.places) where
    -- The bytes that are fetched are those of the item at that place of both item lists, the update's behind the first image's.
    pub fetched-item : (default : Item) → fetched_of s u place ≡ (get_or (items_over s u) place default).bytes
    unfolding fetched_of bytes_over item_at
    fetched-item default =
        let (sp, few) = pair-spans s u span day e in
        ⊎_elim
        (λ own.
        ap (bytes_over s u) (law.held_first s u place e there own)
        ∙ sym (ap (λ (i : Item). i.bytes) (over_first s u place default (omega (arith, sp.own)))))
        (λ beyond.
        let same = ap (λ (n : ℕ). entry_in u (place - n)) sp.own in
        ap (bytes_over s u) (law.held_update s u place e there beyond)
        ∙ ap (λ (x : IndexEntry). (item_at u x).bytes) same
        ∙ sym (ap (λ (i : Item). i.bytes) (over-update s u place default (omega (arith, sp.own)) (omega (arith, sp.all)))))
        (below_or_not place span.own)
