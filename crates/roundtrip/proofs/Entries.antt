-- An index entry holds its numbers in their widths, in version 2 two letters and two zeros behind them, and nothing else, so writing
-- and reading it are inverse.
use mathlib.Core.Path.{◌≡◌, refl, sym, ◌∙◌, ap, ap₂}
use mathlib.Core.Bool.{Bool, true, false, cond, and-eq-true_iff}
use mathlib.Core.List.{List, [], ◌∷◌, ◌++◌}
use Prim.Native.Nat.{ℕ, ◌+◌, ◌-◌, ◌≤◌, ◌<◌}
use native.Mathlib.Nat.{mod-eq_of_lt}
use native.Mathlib.Omega.{arith}
use borrow.Author.Tests.{eqb-true}
use lib.Dec.{eqb}
use lib.ListN.{length, take, drop, length-drop}
use lib.Seq.{drop-drop}
use Rattle.octets.specs.Octets.{Octets, no-octet, octet, number, big}
use Rattle.tree.proofs.Numbers.{number-big, octets-drop}
use Rattle.image.specs.declared.IndexEntry.{IndexEntry}
use Rattle.image.specs.Items.{letters_bytes, entry_bytes}
use Rattle.image.specs.Index.{field, width, letter_at, entry_at}
use Rattle.image.specs.Rules.{padded}
use Rattle.image.proofs.Widths.{width-least}
use Rattle.writer.specs.Writing.{zeros, letters_good}
use Rattle.roundtrip.proofs.Fields.{join, field-drop, big-field}

number-octet : (o : ℕ) → number (o ∷ []) ≡ o
unfolding number
number-octet o = omega arith

letter-at : (version : ℕ) (s : List ℕ) (at i : ℕ) → letter_at version s (at + i) ≡ letter_at version (drop at s) i
unfolding letter_at
letter-at version s at i = ap (λ (n : ℕ). cond (eqb version 2) n 0) (field-drop s at i 1)

pub entry-at : (version : ℕ) (s : List ℕ) (at : ℕ) → entry_at version s at ≡ entry_at version (drop at s) 0
unfolding entry_at field
entry-at version s at =
    λ i. record {
      kind = field s at 1;
      flags = field-drop s at 1 1 i;
      length = field-drop s at 2 2 i;
      offset = field-drop s at 4 4 i;
      first = letter-at version s at 8 i;
      second = letter-at version s at 9 i;
    }

pub padded-at : (version : ℕ) (s : List ℕ) (at : ℕ) → padded version s at ≡ padded version (drop at s) 0
unfolding padded
padded-at version s at = ap (λ (n : ℕ). cond (eqb version 2) (eqb n 0) true) (field-drop s at 10 2)

-- what is read of the letters that were written, whichever of the versions has them
record Letters (b : Bool) (s : List ℕ) (first second : ℕ) : Type 0 where
  one : cond b (field s 8 1) 0 ≡ first
  two : cond b (field s 9 1) 0 ≡ second
  blank : cond b (eqb (field s 10 2) 0) true ≡ true

letters-back :
    (b : Bool) (kind flags size offset first second : ℕ) (rest : List ℕ) → cond b true (zeros (first ∷ second ∷ [])) ≡ true
    → Letters b ((kind ∷ flags ∷ (big 2 size ++ (big 4 offset ++ cond b (first ∷ second ∷ 0 ∷ 0 ∷ []) []))) ++ rest) first second
unfolding field big number zeros
letters-back true kind flags size offset first second rest good =
    record { one = omega arith; two = omega arith; blank = refl }
letters-back false kind flags size offset first second rest good =
    let one = (and-eq-true_iff (eqb first 0) _).0 good in
    let two = (and-eq-true_iff (eqb second 0) _).0 one.1 in
    record { one = sym (eqb-true _ _ one.0); two = sym (eqb-true _ _ two.0); blank = refl }

pub entry-back :
    (version kind flags size offset first second : ℕ) (rest : List ℕ) → size < 65536 → offset < 4294967296
    → letters_good version (first ∷ second ∷ []) ≡ true
    → (entry_at version (entry_bytes version kind flags size offset first second ++ rest) 0
    ≡ record { kind = kind; flags = flags; length = size; offset = offset; first = first; second = second })
    × (padded version (entry_bytes version kind flags size offset first second ++ rest) 0 ≡ true)
unfolding entry_at letter_at padded entry_bytes letters_bytes letters_good field big
entry-back version kind flags size offset first second rest small near good =
    let l = letters-back (eqb version 2) kind flags size offset first second rest good in (
      λ i. record {
        kind = number-octet kind i;
        flags = number-octet flags i;
        length = (number-big 2 size ∙ mod-eq_of_lt small) i;
        offset = (number-big 4 offset ∙ mod-eq_of_lt near) i;
        first = l.one i;
        second = l.two i;
      },
      l.blank,
    )

-- the octets that write an entry
unfoldable pub entry_octets : ℕ → IndexEntry → List ℕ
entry_octets version e = entry_bytes version e.kind e.flags e.length e.offset e.first e.second

-- the letters and the zeros, written again, are the octets that they were read from
four-again :
    {t : List ℕ} → Octets t → 4 ≤ length t → number (take 2 (drop 2 t)) ≡ 0
    → number (take 1 t) ∷ number (take 1 (drop 1 t)) ∷ 0 ∷ 0 ∷ [] ≡ take 4 t
unfolding number
four-again no-octet h e = absurd (omega arith)
four-again (octet a no-octet) h e = absurd (omega arith)
four-again (octet a (octet b no-octet)) h e = absurd (omega arith)
four-again (octet a (octet b (octet c no-octet))) h e = absurd (omega arith)
four-again (octet {o = p} a (octet {o = q} b (octet {o = x} c (octet {o = y} d o)))) h e =
    let none : (x ≡ 0) × (y ≡ 0) = (omega arith, omega arith) in
    rw (none.0, none.1, number-octet p, number-octet q)

-- kind and flags, written again
pair-again : {t : List ℕ} → Octets t → 2 ≤ length t → number (take 1 t) ∷ number (take 1 (drop 1 t)) ∷ [] ≡ take 2 t
pair-again no-octet h = absurd (omega arith)
pair-again (octet a no-octet) h = absurd (omega arith)
pair-again (octet {o = x} a (octet {o = y} b o)) h = rw (number-octet x, number-octet y)

letters-again :
    (b : Bool) {t : List ℕ} → Octets t → cond b 12 8 ≤ length t → cond b (eqb (field t 10 2) 0) true ≡ true
    → cond b (cond b (field t 8 1) 0 ∷ cond b (field t 9 1) 0 ∷ 0 ∷ 0 ∷ []) [] ≡ take (cond b 12 8 - 8) (drop 8 t)
unfolding field
letters-again true {t} o h e =
    let long : 4 ≤ length (drop 8 t) = omega (arith, length-drop 8 t) in
    let none = ap (λ (l : List ℕ). number (take 2 l)) (drop-drop 2 8 t) ∙ eqb-true _ _ e in
    ap (λ (l : List ℕ). number (take 1 (drop 8 t)) ∷ number (take 1 l) ∷ 0 ∷ 0 ∷ []) (sym (drop-drop 1 8 t))
    ∙ four-again (octets-drop 8 o) long none
letters-again false o h e = refl

first-again :
    (version : ℕ) {t : List ℕ} → Octets t → width version ≤ length t → padded version t 0 ≡ true
    → entry_octets version (entry_at version t 0) ≡ take (width version) t
unfolding entry_octets entry_at letter_at padded width entry_bytes letters_bytes field
first-again version {t} o h p =
    let b : Bool = eqb version 2 in
    let w : ℕ = width version - 8 in
    let least : 8 ≤ width version = width-least version in
    let all : 2 + (2 + (4 + w)) ≡ width version = omega arith in
    ap₂ ◌++◌ (pair-again o (omega arith))
    (ap₂ ◌++◌ (big-field o 2 2 (omega arith)) (ap₂ ◌++◌ (big-field o 4 4 (omega arith)) (letters-again b o h p)))
    ∙ ap (λ (l : List ℕ). take 2 t ++ (take 2 (drop 2 t) ++ l)) (join t 4 4 w)
    ∙ ap (λ (l : List ℕ). take 2 t ++ l) (join t 2 2 (4 + w))
    ∙ join t 0 2 (2 + (4 + w))
    ∙ ap (λ (n : ℕ). take n t) all

pub entry-again :
    (version : ℕ) {s : List ℕ} → Octets s → (at : ℕ) → at + width version ≤ length s → padded version s at ≡ true
    → entry_octets version (entry_at version s at) ≡ take (width version) (drop at s)
entry-again version {s} o at h p =
    rw (entry-at version s at) (first-again version (octets-drop at o) (omega (arith, length-drop at s)) (sym (padded-at version s at) ∙ p))
