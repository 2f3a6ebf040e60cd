-- What reading and writing an image mean to each other, from their definitions.
use Rattle.std.specs.Prelude.{Ok, Err}
use mathlib.Core.Path.{◌≡◌, refl, sym, ◌∙◌, ap}
use mathlib.Core.Bool.{true}
use mathlib.Core.Logic.{◌↔◌}
use mathlib.Core.List.{List}
use Prim.Native.Nat.{ℕ, ◌≤◌, ◌<◌}
use native.Mathlib.Omega.{arith}
use lib.ListN.{length, get_or, take, drop}
use lib.Seq.{take_at, drop_at}
use Rattle.refusal.specs.declared.Refusal.{Refusal}
use Rattle.refusal.specs.declared.Refusal.TheVariants.{Image as Broken}
use Rattle.refusal.specs.Rules.{Smallest}
use Rattle.octets.specs.Octets.{Octets}
use Rattle.image.specs.Items.{Item, packed, image_bytes}
use Rattle.image.specs.Index.{version_in, entry_in, items_in}
use Rattle.image.specs.Rules.{rules}
use Rattle.image.specs.Answer.{opened_of, opened_as, place_of, item_of}
use Rattle.writer.specs.Writing.{arguments_good, size_of, written_of, items_of, on_written, output_of}
use Rattle.roundtrip.specs.Good.{GoodItems, Fits}
use Rattle.roundtrip.specs.Columns.{kinds_of, flags_of, lengths_of, letters_of}
use Rattle.roundtrip.specs.Tells.{Tells}
use Rattle.roundtrip.proofs.Opening.{opened-holds, opened-refused, refused-smallest, smallest-refused}
use Rattle.roundtrip.proofs.Back.{image-back}
use Rattle.roundtrip.proofs.Again.{image-again}
use Rattle.roundtrip.proofs.Columns.{wrote, columns-cut, columns-long, columns-fit}
use Rattle.roundtrip.proofs.Rewriting.{columns-back, columns-written}
use Rattle.roundtrip.proofs.Places.{place-told}
use Rattle.image.proofs.Payloads.{an_image, same_image}

-- What was written reads back as the same items, day and version.
pub read_back :
    (version : ℕ) (items : List Item) (day : ℕ) → Fits version items day
    → (opened_of (image_bytes version items day) ≡ an_image (length items) day version) × (items_in (image_bytes version items day) ≡ items)
    × (version_in (image_bytes version items day) ≡ version)
read_back = image-back

-- The items of a readable image, written in its version with its day, give its octets; and they fit.
pub write_again :
    (s : List ℕ) (n day version : ℕ) → Octets s → opened_of s ≡ an_image n day version
    → (image_bytes version (items_in s) day ≡ s) × Fits version (items_in s) day × (length (items_in s) ≡ n)
write_again s n day version o e =
    let (holds, entries, same, known) = opened-holds 1 2 s n day version e in
    let (octets, fits) : (image_bytes version (items_in s) day ≡ s) × Fits version (items_in s) day = rw (same, known) (image-again s o holds) in
    let image : an_image n day version ≡ an_image (length (items_in s)) day version =
    sym e ∙ ap opened_of (sym octets) ∙ (read_back version (items_in s) day fits).0 in
    (octets, fits, sym (same_image image).0)

-- At most one item list, in one version with one day, has given octets.
pub one_list :
    (v w : ℕ) (a b : List Item) (d e : ℕ) → Fits v a d → Fits w b e → image_bytes v a d ≡ image_bytes w b e
    → (a ≡ b) × (d ≡ e) × (v ≡ w)
one_list v w a b d e f g same =
    let (opened, items, version) = read_back v a d f in
    let (opened', items', version') = read_back w b e g in
    let image : an_image (length a) d v ≡ an_image (length b) e w = sym opened ∙ ap opened_of same ∙ opened' in
    (sym items ∙ ap items_in same ∙ items', (same_image image).1, sym version ∙ ap version_in same ∙ version')

module _ (version : ℕ) (octets kinds flags lengths letters : List ℕ) (day : ℕ) where
  -- The items that good arguments tell are good, are the octets given, and take as many octets as said.
  pub items-good :
      Octets octets → Octets letters → arguments_good version octets kinds flags lengths letters day ≡ true
      → GoodItems version (items_of kinds flags lengths letters octets) × (packed (items_of kinds flags lengths letters octets) ≡ octets)
      × (length (image_bytes version (items_of kinds flags lengths letters octets) day) ≡ size_of version octets kinds)
  items-good o p e =
      let c = columns-cut version octets kinds flags lengths letters day o p e in
      (c.good, c.whole, columns-long version octets kinds flags lengths letters day o p e)

  module _ (old : List ℕ) (size : ℕ) (o : Octets octets) (p : Octets letters) (e : written_of version octets kinds flags lengths letters day (length old) ≡ Ok size) where
    -- The octets that were written are the image of those items.
    pub writer-image :
        take size (output_of version octets kinds flags lengths letters day old) ≡ image_bytes version (items_of kinds flags lengths letters octets) day
    unfolding output_of on_written
    writer-image =
        let w = wrote version octets kinds flags lengths letters day (length old) size e in
        let image : List ℕ = image_bytes version (items_of kinds flags lengths letters octets) day in
        rw e (take_at image (drop size old) size (columns-long version octets kinds flags lengths letters day o p w.good ∙ sym w.same))

    -- What the writer wrote the reader reads: as many entries as kinds, the day, the items, and the version.
    pub writer-read :
        (opened_of (take size (output_of version octets kinds flags lengths letters day old)) ≡ an_image (length kinds) day version)
        × (items_in (take size (output_of version octets kinds flags lengths letters day old)) ≡ items_of kinds flags lengths letters octets)
        × (version_in (take size (output_of version octets kinds flags lengths letters day old)) ≡ version)
    writer-read =
        let w = wrote version octets kinds flags lengths letters day (length old) size e in
        let items : List Item = items_of kinds flags lengths letters octets in
        let (opened, same, told) = read_back version items day (columns-fit version octets kinds flags lengths letters day (length old) size o p w) in
        let many : length items ≡ length kinds = (columns-cut version octets kinds flags lengths letters day o p w.good).many in
        rw writer-image (opened ∙ ap (λ (n : ℕ). an_image n day version) many, same, told)

    -- Beyond the image the output stays as it was.
    pub beyond : drop size (output_of version octets kinds flags lengths letters day old) ≡ drop size old
    unfolding output_of on_written
    beyond =
        let w = wrote version octets kinds flags lengths letters day (length old) size e in
        let image : List ℕ = image_bytes version (items_of kinds flags lengths letters octets) day in
        rw e (drop_at image (drop size old) size (columns-long version octets kinds flags lengths letters day o p w.good ∙ sym w.same))

  -- On a refusal all of it stays.
  pub untouched :
      (old : List ℕ) (refusal : Refusal) → written_of version octets kinds flags lengths letters day (length old) ≡ Err refusal
      → output_of version octets kinds flags lengths letters day old ≡ old
  unfolding output_of on_written
  untouched old refusal e = rw e

-- Every list that fits is written from its octets and columns into an output with room for it.
pub writer-writes :
    (version : ℕ) (items : List Item) (day : ℕ) (old : List ℕ) → Fits version items day
    → length (image_bytes version items day) ≤ length old
    → (written_of version (packed items) (kinds_of items) (flags_of items) (lengths_of items) (letters_of items) day (length old)
    ≡ Ok (length (image_bytes version items day)))
    × (take (length (image_bytes version items day))
    (output_of version (packed items) (kinds_of items) (flags_of items) (lengths_of items) (letters_of items) day old) ≡ image_bytes version items day)
unfolding output_of on_written
writer-writes version items day old f h =
    let written = columns-written version items day (length old) f h in
    let image : List ℕ = image_bytes version items day in
    (written, rw (written, columns-back items) (take_at image _ (length image) refl))

-- A readable image, taken apart into octets and columns and written from them in its version with its day, is the same octets
-- again.
pub writer-again :
    (s : List ℕ) (n day version : ℕ) (old : List ℕ) → Octets s → opened_of s ≡ an_image n day version → length s ≤ length old
    → let items = items_in s in
    (written_of version (packed items) (kinds_of items) (flags_of items) (lengths_of items) (letters_of items) day (length old)
    ≡ Ok (length s))
    × (take (length s)
    (output_of version (packed items) (kinds_of items) (flags_of items) (lengths_of items) (letters_of items) day old) ≡ s)
writer-again s n day version old o e h =
    let (same, fits, many) = write_again s n day version o e in
    rw same at (writer-writes version (items_in s) day old fits (rw same h))

-- An image is refused by rule k exactly when it breaks that rule and holds each before it.
pub rule-smallest : (s : List ℕ) (k : ℕ) → (opened_of s ≡ Err (Broken k)) ↔ Smallest 1 (rules 1 2 s) k
rule-smallest s k = (refused-smallest 1 2 s k, smallest-refused 1 2 s k)

-- The same where one version alone is read, of which the other one breaks rule 2.
pub version-smallest :
    (version : ℕ) (s : List ℕ) (k : ℕ) → (opened_as version s ≡ Err (Broken k)) ↔ Smallest 1 (rules version version s) k
version-smallest version s k = (refused-smallest version version s k, smallest-refused version version s k)

-- No other refusal is given than by a rule, of those numbered 1 to 7.
pub rule-refusals :
    (s : List ℕ) (refusal : Refusal) → opened_of s ≡ Err refusal
    → (k : ℕ) × (refusal ≡ Broken k) × (1 ≤ k) × (k ≤ 7)
unfolding rules
rule-refusals s refusal e =
    let (k, same, least) = opened-refused 1 2 s refusal e in
    (k, same, least.numbered, omega (arith, least.listed))

-- The place of a readable image holds the item at that place of its item list: kind, flags, length, letters and octets.
pub place-item :
    (s : List ℕ) (n day version place : ℕ) (default : Item) → opened_of s ≡ an_image n day version → place < n
    → (place_of s place ≡ Ok (entry_in s place)) × Tells (entry_in s place) (get_or (items_in s) place default)
    × (item_of s place ≡ (get_or (items_in s) place default).bytes)
place-item = place-told
