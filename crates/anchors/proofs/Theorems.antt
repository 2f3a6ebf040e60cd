-- What is promised of the listed anchors, from the definitions alone: all of a country and no others, each once and ascending; and
-- where an image's letters are true, the index tells what the items do.
use Rattle.std.specs.Prelude.{Result, Ok, Err, IfOk}
use Prim.Native.Nat.{ℕ, ◌+◌, ◌-◌, ◌<◌, ◌≤◌}
use mathlib.Core.Path.{◌≡◌, refl, sym, subst, ◌∙◌}
use mathlib.Core.Bool.{Bool, true, false, cond, ◌&&◌, and-eq-true_iff}
use mathlib.Core.Logic.{◌↔◌}
use mathlib.Core.List.{List, [], ◌∷◌, ◌++◌}
use native.Mathlib.Omega.{arith}
use borrow.Author.Tests.{eqb-true, eq-eqb, leb-true}
use lib.Dec.{eqb, leb}
use lib.ListN.{length, get_or, replicate, get_or-append}
use Rattle.refusal.specs.declared.Refusal.{Refusal}
use Rattle.refusal.specs.declared.Refusal.TheVariants as refusal
use Rattle.names.specs.Names.{is_capital}
use Rattle.certificate.specs.declared.Fields.{Fields}
use Rattle.certificate.specs.Answer.{judged_of}
use Rattle.image.specs.declared.Opened.{Opened}
use Rattle.image.specs.Answer.{opened_of, opened_as}
use Rattle.image.specs.Items.{Item}
use Rattle.image.specs.Index.{entry_count, version_in, day_in, entry_in, item_at, items_in}
use Rattle.image.proofs.Places.{length-items, item_in}
use Rattle.roundtrip.proofs.Opening.{holds_opened, holds-wider, opened-holds}
use Rattle.letters.specs.TrueLetters.{of_certificate, true_of, true_letters, spells, lettered, all_lettered}
use Rattle.letters.specs.Check.{on_checked, checked_of}
use Rattle.letters.proofs.Theorems.{spelled-are, are-spelled}
use Rattle.anchors.specs.declared.Listing.{Listing}
use Rattle.image.specs.Chosen.{places_from}
use Rattle.anchors.specs.Listing.{enabled, full_for, short_for, index_letters, listed_as, on_opened, listed_of, anchors_of, anchors_by_index}
use Rattle.anchors.proofs.Ascends.{ascends}
use Rattle.anchors.proofs.Picked as picked
use Rattle.image.proofs.Payloads.{an_image}

-- a place is listed: it stands in a slot that is used
pub record Stands (l : Listing) (place : ℕ) : Type 0 where
  pub slot : ℕ
  pub inside : slot < l.count
  pub there : get_or l.places slot 255 ≡ place

pub record Lists (r : Result Listing Refusal) (place : ℕ) : Type 0 where
  pub listing : Listing
  pub told : r ≡ Ok listing
  pub stands : Stands listing place

-- each slot that is used holds a smaller place than every later one
pub Ascending : Result Listing Refusal → Type 0
Ascending r = IfOk r (λ l. (i j : ℕ) → i < j → j < l.count → get_or l.places i 255 < get_or l.places j 255)

-- the place of an enabled anchor
pub record Enabled (s : List ℕ) (place : ℕ) : Type 0 where
  pub inside : place < entry_count s
  pub anchor : (entry_in s place).kind ≡ 1
  pub flagged : (entry_in s place).flags ≡ 1

-- the anchor of a place passes its profile and reports two letters
pub record Reports (s : List ℕ) (first second place : ℕ) : Type 0 where
  pub fields : Fields
  pub passed : judged_of (item_at s (entry_in s place)).bytes 1 ≡ Ok fields
  pub one : first ≡ fields.first
  pub other : second ≡ fields.second

-- the index tells two letters of it
pub record Tells (s : List ℕ) (first second place : ℕ) : Type 0 where
  pub one : first ≡ (entry_in s place).first
  pub other : second ≡ (entry_in s place).second

-- slots of a list of places
module _ (l : List ℕ) where
  slot_same : (i : ℕ) → i < length l → get_or (l ++ replicate (96 - length l) 255) i 255 ≡ get_or l i 255
  slot_same i h = get_or-append l (replicate (96 - length l) 255) 255 i h

  stands-found : {place : ℕ} → Stands (listed_as l) place → picked.Found l place
  unfolding listed_as
  stands-found f = record { slot = f.slot; inside = f.inside; there = sym (slot_same f.slot f.inside) ∙ f.there }

  found_stands : {place : ℕ} → picked.Found l place → Stands (listed_as l) place
  unfolding listed_as
  found_stands f = record { slot = f.slot; inside = f.inside; there = slot_same f.slot f.inside ∙ f.there }

  lists-found : {place : ℕ} → Lists (Ok (listed_as l)) place → picked.Found l place
  lists-found {place} f =
      let told = f.told in
      let same : f.listing ≡ listed_as l = cc in
      stands-found (subst (λ (r : Listing). Stands r place) same f.stands)

  found-lists : {place : ℕ} → picked.Found l place → Lists (Ok (listed_as l)) place
  found-lists f = record { listing = listed_as l; told = refl; stands = found_stands f }

  slots-ascend : picked.Ascending l → Ascending (Ok (listed_as l))
  unfolding listed_as Ascending picked.Ascending
  slots-ascend a = λ i j h k. rw (slot_same i (omega arith), slot_same j k) (a i j h k)

none-ascend : (why : Refusal) → Ascending (Err why)
unfolding Ascending
none-ascend why = tt

-- what is listed is ascending, whatever the question
opened-ascend : (test : Item → Bool) (s : List ℕ) (o : Result Opened Refusal) → Ascending (on_opened test s o)
unfolding on_opened
opened-ascend test s (Err why) = none-ascend why
opened-ascend test s (Ok o) = slots-ascend _ (ascends test (items_in s) 0)

listed-ascend : (first second : ℕ) (test : Item → Bool) (s : List ℕ) (o : Result Opened Refusal) → Ascending (listed_of first second test s o)
unfolding listed_of
listed-ascend first second test s o = go (is_capital first && is_capital second)
  where
    go : (b : Bool) → Ascending (cond b (on_opened test s o) (Err refusal.Argument))
    go true = opened-ascend test s o
    go false = none-ascend refusal.Argument

pub listed-ascending : (s : List ℕ) (first second : ℕ) → Ascending (anchors_of s first second) × Ascending (anchors_by_index s first second)
unfolding anchors_of anchors_by_index
listed-ascending s first second =
    (listed-ascend first second (full_for first second) s (opened_of s), listed-ascend first second (short_for first second) s (opened_as 2 s))

-- a place is listed exactly where its item passes the test
module _ (test : Item → Bool) (s : List ℕ) where
  listed-passes :
      (place : ℕ) → Lists (Ok (listed_as (places_from test 0 (items_in s)))) place
      → (place < entry_count s) × (test (item_at s (entry_in s place)) ≡ true)
  listed-passes place l =
      let f = lists-found _ l in
      let p = picked.found-passes test (items_in s) 0 f.slot f.inside in
      let same : place ≡ p.at = omega (arith, p.here, f.there) in
      let inside : place < entry_count s = omega (arith, p.inside, length-items s) in
      let default : Item = item_at s (entry_in s place) in
      let passes : test (get_or (items_in s) place default) ≡ true =
      subst (λ (k : ℕ). test (get_or (items_in s) k default) ≡ true) (sym same) (p.passes default) in
      (inside, rw (item_in s place default inside) at passes)

  passes-listed :
      (place : ℕ) → place < entry_count s → test (item_at s (entry_in s place)) ≡ true
      → Lists (Ok (listed_as (places_from test 0 (items_in s)))) place
  passes-listed place inside passes =
      let from : 0 + place ≡ place = omega arith in
      let f =
      picked.passes-found test (items_in s) 0 place (rw (length-items s) inside) (λ default. rw (item_in s place default inside) passes) in
      found-lists _ (subst (picked.Found (places_from test 0 (items_in s))) from f)

module _ (s : List ℕ) (place : ℕ) where
  on-enabled : place < entry_count s → enabled (item_at s (entry_in s place)) ≡ true → Enabled s place
  unfolding enabled item_at
  on-enabled inside e =
      let both = (and-eq-true_iff (eqb (entry_in s place).kind 1) (eqb (entry_in s place).flags 1)).0 e in
      record { inside = inside; anchor = eqb-true _ _ both.0; flagged = eqb-true _ _ both.1 }

  enabled-on : Enabled s place → enabled (item_at s (entry_in s place)) ≡ true
  unfolding enabled item_at
  enabled-on e = rw (eq-eqb _ _ e.anchor, eq-eqb _ _ e.flagged)

  -- an anchor's true letters
  anchor-letters : Enabled s place → true_letters (item_at s (entry_in s place)) ≡ of_certificate (judged_of (item_at s (entry_in s place)).bytes 1)
  unfolding true_of item_at
  anchor-letters e = rw e.anchor

capital-some : (o : ℕ) → is_capital o ≡ true → 65 ≤ o
unfolding is_capital
capital-some o e = leb-true 65 o ((and-eq-true_iff (leb 65 o) (leb o 90)).0 e).0

-- letters that are not zeros are those of a certificate that passes
module _ (first second : ℕ) where
  spelled-fields :
      (j : Result Fields Refusal) → 65 ≤ first → spells first second (of_certificate j) ≡ true
      → (f : Fields) × (j ≡ Ok f) × (first ≡ f.first) × (second ≡ f.second)
  unfolding of_certificate
  spelled-fields (Err why) h e =
      let a = spelled-are first second (of_certificate (Err why)) e in
      absurd (omega (arith, a.one))
  spelled-fields (Ok f) h e =
      let a = spelled-are first second (of_certificate (Ok f)) e in
      (f, refl, a.one, a.other)

  fields-spelled :
      (j : Result Fields Refusal) (f : Fields) → j ≡ Ok f → first ≡ f.first → second ≡ f.second
      → spells first second (of_certificate j) ≡ true
  unfolding of_certificate
  fields-spelled j f e one other = rw e (are-spelled first second _ (record { one = one; other = other }))

module _ (s : List ℕ) (first second n day version : ℕ) (letters : (is_capital first && is_capital second) ≡ true) where
  -- A place is listed exactly where it is that of an enabled anchor that passes its profile and reports these letters.
  pub listed-exactly :
      opened_of s ≡ an_image n day version → (place : ℕ)
      → Lists (anchors_of s first second) place ↔ (Enabled s place × Reports s first second place)
  unfolding anchors_of listed_of on_opened full_for
  listed-exactly e place =
      let item : Item = item_at s (entry_in s place) in
      let is : anchors_of s first second ≡ Ok (listed_as (places_from (full_for first second) 0 (items_in s))) = rw (letters, e) in
      let low : 65 ≤ first = capital-some first ((and-eq-true_iff (is_capital first) (is_capital second)).0 letters).0 in (
        (λ l.
            let p = listed-passes (full_for first second) s place (subst (λ (r : Result Listing Refusal). Lists r place) is l) in
            let both = (and-eq-true_iff (enabled item) (spells first second (true_letters item))).0 p.1 in
            let on = on-enabled s place p.0 both.0 in
            let spelled : spells first second (of_certificate (judged_of item.bytes 1)) ≡ true = rw (anchor-letters s place on) at both.1 in
            let (f, passed, one, other) = spelled-fields first second (judged_of item.bytes 1) low spelled in
            (on, record { fields = f; passed = passed; one = one; other = other })),
        (λ p.
            let spelled = fields-spelled first second (judged_of item.bytes 1) p.1.fields p.1.passed p.1.one p.1.other in
            let reports : spells first second (true_letters item) ≡ true = rw (anchor-letters s place p.0) spelled in
            let passes = (and-eq-true_iff (enabled item) (spells first second (true_letters item))).1 (enabled-on s place p.0, reports) in
            subst (λ (r : Result Listing Refusal). Lists r place) (sym is) (passes-listed (full_for first second) s place p.0.inside passes)),
      )

  -- By the index a place is listed exactly where it is that of an enabled anchor of which the index tells these letters.
  pub listed-by-index :
      opened_as 2 s ≡ an_image n day version → (place : ℕ)
      → Lists (anchors_by_index s first second) place ↔ (Enabled s place × Tells s first second place)
  unfolding anchors_by_index listed_of on_opened short_for index_letters item_at
  listed-by-index e place =
      let item : Item = item_at s (entry_in s place) in
      let is : anchors_by_index s first second ≡ Ok (listed_as (places_from (short_for first second) 0 (items_in s))) = rw (letters, e) in (
        (λ l.
            let p = listed-passes (short_for first second) s place (subst (λ (r : Result Listing Refusal). Lists r place) is l) in
            let both = (and-eq-true_iff (enabled item) (spells first second (index_letters item))).0 p.1 in
            let a = spelled-are first second (index_letters item) both.1 in
            (on-enabled s place p.0 both.0, record { one = a.one; other = a.other })),
        (λ p.
            let tells = are-spelled first second (index_letters item) (record { one = p.1.one; other = p.1.other }) in
            let passes = (and-eq-true_iff (enabled item) (spells first second (index_letters item))).1 (enabled-on s place p.0, tells) in
            subst (λ (r : Result Listing Refusal). Lists r place) (sym is) (passes-listed (short_for first second) s place p.0.inside passes)),
      )

-- an item with its true letters is asked for by the index where it is asked for
true-test : (first second : ℕ) (item : Item) → lettered item ≡ true → short_for first second item ≡ full_for first second item
unfolding lettered short_for full_for index_letters spells
true-test first second item e =
    let a = spelled-are item.first item.second (true_letters item) e in
    rw (a.one, a.other)

same-places :
    (first second place : ℕ) (items : List Item) → all_lettered items ≡ true
    → places_from (short_for first second) place items ≡ places_from (full_for first second) place items
unfolding places_from all_lettered
same-places first second place [] e = refl
same-places first second place (item ∷ rest) e =
    let both = (and-eq-true_iff (lettered item) (all_lettered rest)).0 e in
    rw (true-test first second item both.0, same-places first second (place + 1) rest both.1)

module _ (s : List ℕ) where
  checked-opened :
      checked_of s ≡ Ok true
      → (n : ℕ) × (day : ℕ) × (version : ℕ) × (opened_as 2 s ≡ an_image n day version) × (all_lettered (items_in s) ≡ true)
  unfolding checked_of on_checked
  checked-opened e = go (opened_as 2 s) refl e
    where
      go :
          (o : Result Opened Refusal) → opened_as 2 s ≡ o → on_checked s o ≡ Ok true
          → (n : ℕ) × (day : ℕ) × (version : ℕ) × (opened_as 2 s ≡ an_image n day version) × (all_lettered (items_in s) ≡ true)
      go (Err why) is told = absurd (let z : ◌≡◌ {A = ℕ} 0 1 = cc in omega arith)
      go (Ok o) is told = (o.entries, o.day, o.version, is, cc)

  -- For every image whose letters are true, and all letters that are asked for, the answer by the index is the full one.
  pub index-is-full : checked_of s ≡ Ok true → (first second : ℕ) → anchors_by_index s first second ≡ anchors_of s first second
  unfolding anchors_by_index anchors_of listed_of on_opened
  index-is-full e first second =
      let (n, day, version, is, all) = checked-opened e in
      let h = (opened-holds 2 2 s n day version is).0 in
      let wide : opened_of s ≡ an_image (entry_count s) (day_in s) (version_in s) =
      holds_opened 1 2 s (holds-wider (omega arith) (omega arith) h) in
      rw (is, wide, same-places first second 0 (items_in s) all)

-- No second answer fits either promise.
pub one_answer :
    (s : List ℕ) (first second : ℕ) (r q : Result Listing Refusal) → r ≡ anchors_of s first second → q ≡ anchors_of s first second → r ≡ q
one_answer s first second r q e f = e ∙ sym f

pub one-answer-by-index :
    (s : List ℕ) (first second : ℕ) (r q : Result Listing Refusal) → r ≡ anchors_by_index s first second → q ≡ anchors_by_index s first second → r ≡ q
one-answer-by-index s first second r q e f = e ∙ sym f
