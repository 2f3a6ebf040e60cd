-- The trailer is the last twelve octets and holds four numbers in their widths, so writing and reading it are inverse.
use mathlib.Core.Path.{◌≡◌, ◌∙◌, ap, ap₂}
use mathlib.Core.List.{List, ◌++◌}
use Prim.Native.Nat.{ℕ, ◌+◌, ◌-◌, ◌≤◌, ◌<◌}
use native.Mathlib.Nat.{mod-eq_of_lt}
use native.Mathlib.Omega.{arith}
use lib.ListN.{length, take, drop, length-drop}
use lib.Seq.{take_all}
use Rattle.octets.specs.Octets.{Octets, big}
use Rattle.tree.proofs.Numbers.{number-big, octets-drop}
use Rattle.image.specs.Items.{trailer_bytes}
use Rattle.image.specs.Index.{field, index_start, entry_count, version_in, day_in}
use Rattle.roundtrip.proofs.Fields.{join, field-drop, big-field}

-- the four numbers of a trailer
pub record Trailer (s : List ℕ) (a n v d : ℕ) : Type 0 where
  pub start : index_start s ≡ a
  pub entries : entry_count s ≡ n
  pub version : version_in s ≡ v
  pub day : day_in s ≡ d

unfoldable pub trailer_of : List ℕ → List ℕ
trailer_of s = drop (length s - 12) s

trailer-at :
    (s : List ℕ) → 12 ≤ length s
    → Trailer s (field (trailer_of s) 0 4) (field (trailer_of s) 4 2) (field (trailer_of s) 6 2) (field (trailer_of s) 8 4)
unfolding trailer_of index_start entry_count version_in day_in
trailer-at s h =
    let at : ℕ = length s - 12 in
    let from : (i j k : ℕ) → j ≡ at + i → field s j k ≡ field (drop at s) i k = λ i j k e. rw e (field-drop s at i k) in
    record {
      start = from 0 at 4 (omega arith);
      entries = from 4 _ 2 (omega arith);
      version = from 6 _ 2 (omega arith);
      day = from 8 _ 4 (omega arith);
    }

pub trailer-back :
    (s : List ℕ) (version start entries day : ℕ) → 12 ≤ length s → trailer_of s ≡ trailer_bytes version start entries day
    → version < 65536 → start < 4294967296 → entries < 65536 → day < 4294967296 → Trailer s start entries version day
unfolding trailer_bytes field big
trailer-back s version start entries day h e known near few low =
    let t = trailer-at s h in
    record {
      start = t.start ∙ ap (λ (l : List ℕ). field l 0 4) e ∙ number-big 4 start ∙ mod-eq_of_lt near;
      entries = t.entries ∙ ap (λ (l : List ℕ). field l 4 2) e ∙ number-big 2 entries ∙ mod-eq_of_lt few;
      version = t.version ∙ ap (λ (l : List ℕ). field l 6 2) e ∙ number-big 2 version ∙ mod-eq_of_lt known;
      day = t.day ∙ ap (λ (l : List ℕ). field l 8 4) e ∙ number-big 4 day ∙ mod-eq_of_lt low;
    }

pub trailer-again :
    (s : List ℕ) → Octets s → 12 ≤ length s → trailer_bytes (version_in s) (index_start s) (entry_count s) (day_in s) ≡ trailer_of s
unfolding trailer_bytes trailer_of
trailer-again s o h =
    let t : List ℕ = drop (length s - 12) s in
    let f = trailer-at s h in
    let q : Octets t = octets-drop (length s - 12) o in
    let twelve : length t ≡ 12 = omega (arith, length-drop (length s - 12) s) in
    rw (f.start, f.entries, f.version, f.day)
    (ap₂ ◌++◌ (big-field q 0 4 (omega arith))
    (ap₂ ◌++◌ (big-field q 4 2 (omega arith)) (ap₂ ◌++◌ (big-field q 6 2 (omega arith)) (big-field q 8 4 (omega arith))))
    ∙ ap (λ (l : List ℕ). take 4 t ++ (take 2 (drop 4 t) ++ l)) (join t 6 2 4) ∙ ap (λ (l : List ℕ). take 4 t ++ l) (join t 4 2 6)
    ∙ join t 0 4 8 ∙ take_all 12 t (omega arith))
