-- Lengths that sum to the octets cut them into items with nothing left, so good columns give good items.
use Rattle.std.specs.Prelude.{Result, Ok, Err}
use mathlib.Core.Path.{◌≡◌, refl, sym, ◌∙◌, ap, subst}
use mathlib.Core.Bool.{Bool, true, false, cond, ◌&&◌, and-eq-true_iff}
use mathlib.Core.List.{List, [], ◌∷◌, ◌++◌}
use Prim.Native.Nat.{ℕ, suc, ◌*◌, ◌≤◌}
use native.Mathlib.Omega.{arith}
use borrow.Author.Tests.{leb-true}
use lib.Dec.{leb, eqb}
use lib.ListN.{length, get_or, take, drop, length-drop, take-append-drop, drop_of_length-le}
use lib.Seq.{length-take-le}
use Rattle.octets.specs.Octets.{Octets, no-octet, octet}
use Rattle.tree.proofs.Cases.{cond-by}
use Rattle.tree.proofs.Numbers.{octets-take, octets-drop}
use Rattle.image.specs.Items.{Item, packed, image_bytes}
use Rattle.image.specs.Rules.{fields_good}
use Rattle.refusal.specs.declared.Refusal.{Refusal}
use Rattle.writer.specs.Writing.{rows_good, sum_all, zeros, letters_good, arguments_good, size_of, written_of, items_of}
use Rattle.writer.proofs.Columns.{arguments-tell}
use Rattle.roundtrip.specs.Good.{GoodItems, no_item, good-item, Fits}
use Rattle.image.proofs.Sizes.{length-image}

pub record Cut (version : ℕ) (items : List Item) (octets : List ℕ) (n : ℕ) : Type 0 where
  pub good : GoodItems version items
  pub whole : packed items ≡ octets
  pub many : length items ≡ n

letters-cut :
    (version first second : ℕ) (rest : List ℕ) → letters_good version (first ∷ second ∷ rest) ≡ true
    → (letters_good version (first ∷ second ∷ []) ≡ true) × (letters_good version rest ≡ true)
unfolding letters_good zeros
letters-cut version first second rest e = go (eqb version 2) e
  where
    go :
        (b : Bool) → cond b true (eqb first 0 && (eqb second 0 && zeros rest)) ≡ true
        → (cond b true (eqb first 0 && (eqb second 0 && true)) ≡ true) × (cond b true (zeros rest) ≡ true)
    go true e = (refl, refl)
    go false e =
        let one = (and-eq-true_iff (eqb first 0) _).0 e in
        let two = (and-eq-true_iff (eqb second 0) _).0 one.1 in
        (rw (one.0, two.0), two.1)

items-cut :
    (version : ℕ) (kinds flags lengths letters octets : List ℕ) → Octets octets → Octets letters → length lengths ≡ length kinds
    → length letters ≡ 2 * length kinds → rows_good kinds flags lengths ≡ true → letters_good version letters ≡ true
    → sum_all lengths ≡ length octets → Cut version (items_of kinds flags lengths letters octets) octets (length kinds)
unfolding rows_good sum_all items_of packed
items-cut version [] flags [] letters octets o p l k rows free sums =
    record { good = no_item; whole = sym (drop_of_length-le octets {i = 0} (omega arith)); many = refl }
items-cut version [] flags (size ∷ lengths) letters octets o p l k rows free sums = absurd (omega arith)
items-cut version (kind ∷ kinds) flags [] letters octets o p l k rows free sums = absurd (omega arith)
items-cut version (kind ∷ kinds) flags (size ∷ lengths) letters octets o no-octet l k rows free sums = absurd (omega arith)
items-cut version (kind ∷ kinds) flags (size ∷ lengths) letters octets o (octet x no-octet) l k rows free sums = absurd (omega arith)
items-cut version (kind ∷ kinds) flags (size ∷ lengths) _ octets o (octet {o = a} x (octet {o = b} {rest = letters} y p)) l k rows free sums =
    let both = (and-eq-true_iff (fields_good kind (get_or flags 0 0) size) _).0 rows in
    let long : length (take size octets) ≡ size = length-take-le size octets (omega arith) in
    let fields : fields_good kind (get_or flags 0 0) (length (take size octets)) ≡ true = rw long both.0 in
    let left : sum_all lengths ≡ length (drop size octets) = omega (arith, length-drop size octets) in
    let pair = letters-cut version a b letters free in
    let next = items-cut version kinds (drop 1 flags) lengths letters (drop size octets) (octets-drop size o) p (omega arith) (omega arith)
    both.1 pair.1 left in
    record {
      good = good-item fields (octets-take size o) (octet x (octet y no-octet)) pair.0 next.good;
      whole = ap (λ (t : List ℕ). take size octets ++ t) next.whole ∙ take-append-drop size octets;
      many = ap suc next.many;
    }

module _ (version : ℕ) (octets kinds flags lengths letters : List ℕ) (day : ℕ) where
  pub columns-cut :
      Octets octets → Octets letters → arguments_good version octets kinds flags lengths letters day ≡ true
      → Cut version (items_of kinds flags lengths letters octets) octets (length kinds)
  columns-cut o p e =
      let a = arguments-tell version octets kinds flags lengths letters day e in
      let t = a.counted in
      items-cut version kinds flags lengths letters octets o p t.long t.lettered a.rows a.free a.sums

  pub columns-long :
      Octets octets → Octets letters → arguments_good version octets kinds flags lengths letters day ≡ true
      → length (image_bytes version (items_of kinds flags lengths letters octets) day) ≡ size_of version octets kinds
  unfolding size_of
  columns-long o p e =
      let c = columns-cut o p e in
      length-image version (items_of kinds flags lengths letters octets) day ∙ rw (c.whole, c.many)

  -- what an image's length tells
  pub record Wrote (room size : ℕ) : Type 0 where
    pub good : arguments_good version octets kinds flags lengths letters day ≡ true
    pub short : size_of version octets kinds ≤ 262144
    pub room-left : size_of version octets kinds ≤ room
    pub same : size ≡ size_of version octets kinds

  abbrev Told : ℕ → Result ℕ Refusal → Type 0
  Told room (Ok size) = Wrote room size
  Told room (Err refusal) = Unit {0}

  told : (room : ℕ) → Told room (written_of version octets kinds flags lengths letters day room)
  unfolding written_of
  told room =
      let P : Result ℕ Refusal → Type 0 = Told room in
      cond-by P (arguments_good version octets kinds flags lengths letters day)
      (λ good. cond-by P (leb (size_of version octets kinds) 262144)
      (λ short. cond-by P (leb (size_of version octets kinds) room)
      (λ fits. record { good = good; short = leb-true _ _ short; room-left = leb-true _ _ fits; same = refl })
      λ over. tt)
      λ long. tt)
      λ bad. tt

  pub wrote : (room size : ℕ) → written_of version octets kinds flags lengths letters day room ≡ Ok size → Wrote room size
  wrote room size e = subst (Told room) e (told room)

  pub columns-fit :
      (room size : ℕ) → Octets octets → Octets letters → Wrote room size → Fits version (items_of kinds flags lengths letters octets) day
  columns-fit room size o p w =
      let a = arguments-tell version octets kinds flags lengths letters day w.good in
      let c = columns-cut o p w.good in
      record {
        known = a.known;
        good = c.good;
        few = omega (arith, c.many, a.counted.few);
        real = a.real;
        small = omega (arith, columns-long o p w.good, w.short);
      }
