-- What the promise of `all_signers` settles: each record is the answer of the single question, since that has one answer; and as the
-- records follow one another, no second output fits.
use Rattle.std.specs.Prelude.{Result, Ok, Err}
use Prim.Native.Nat.{ℕ, zero, suc, ◌+◌, ◌*◌, ◌<◌, ◌≤◌}
use mathlib.Core.Path.{◌≡◌, refl, sym, ap, ◌∙◌}
use mathlib.Core.List.{List, ◌∷◌, ◌++◌}
use native.Mathlib.Omega.{arith}
use lib.ListN.{take, drop, take-append-drop}
use lib.Seq.{take-add}
use Rattle.refusal.specs.declared.Refusal.{Refusal}
use Rattle.chain.specs.declared.Answer.{Answer}
use Rattle.chain.specs.Answer.{Answered}
use Rattle.chain.specs.Signers.{Recorded, Records, AllSigned, refused, told}
use Rattle.chain.proofs.Theorems.{one_answer}

pair_same : {a b : ℕ} {x y : List ℕ} → a ≡ b → x ≡ y → a ∷ x ≡ b ∷ y
pair_same e f = rw (e, f)

not-both : {size : ℕ} {why : Refusal} → ◌≡◌ {A = (Result ℕ Refusal)} (Ok size) (Err why) → ⊥
not-both e = let z : ◌≡◌ {A = ℕ} 0 1 = cc in omega arith

same_size : {a b : ℕ} → ◌≡◌ {A = (Result ℕ Refusal)} (Ok a) (Ok b) → a ≡ b
same_size e = cc

module _ (s table : List ℕ) (moment : ℕ) where
  -- the record of a place is what the single question for it shows
  record-single :
      (p : ℕ) {octets : List ℕ} (r : Answer) → Recorded s table moment p octets → Answered s table moment p r → octets ≡ r.length ∷ r.places
  record-single p r rec a =
      let o = one_answer s table moment p rec.single r rec.answers a in
      rec.same ∙ pair_same o.1 o.2

  one-record :
      (p : ℕ) {x y : List ℕ} → Recorded s table moment p x → Recorded s table moment p y → x ≡ y
  one-record p a b = record-single p b.single a b.answers ∙ sym b.same

  -- Record p of the output is the answer of `best_chain` for target p: its length, then its slots.
  pub record-is-answer :
      {old out : List ℕ} {n : ℕ} → AllSigned s table moment old out (Ok (97 * n)) → (p : ℕ) → p < n → (r : Answer) → Answered s table moment p r
      → take 97 (drop (97 * p) out) ≡ r.length ∷ r.places
  record-is-answer (refused why e f same) p h r a = absurd (not-both f)
  record-is-answer {n = n} (told {n = m} e f recs) p h r a =
      let same : 97 * n ≡ 97 * m = same_size f in
      record-single p r (recs.each p (omega (arith, same, h))) a

  module _ {n : ℕ} {old out other : List ℕ} (a : Records s table moment n old out) (b : Records s table moment n old other) where
    same-records : (k : ℕ) → k ≤ n → take (97 * k) out ≡ take (97 * k) other
    same-records zero h = refl
    same-records (suc k) h =
        let next : 97 * suc k ≡ 97 * k + 97 = omega arith in
        let each = one-record k (a.each k h) (b.each k h) in
        let below : k ≤ n = omega arith in
        rw next
        (take-add (97 * k) 97 out
        ∙ (ap (λ (l : List ℕ). l ++ take 97 (drop (97 * k) out)) (same-records k below)
        ∙ (ap (λ (l : List ℕ). take (97 * k) other ++ l) each ∙ sym (take-add (97 * k) 97 other))))

    same-output : out ≡ other
    same-output =
        sym (take-append-drop (97 * n) out)
        ∙ (ap (λ (l : List ℕ). l ++ drop (97 * n) out) (same-records n (omega arith))
        ∙ (ap (λ (l : List ℕ). take (97 * n) other ++ l) (a.beyond ∙ sym b.beyond) ∙ take-append-drop (97 * n) other))

  -- No second answer and no second output fit.
  pub one-output :
      {old out other : List ℕ} {r q : Result ℕ Refusal} → AllSigned s table moment old out r → AllSigned s table moment old other q
      → (r ≡ q) × (out ≡ other)
  one-output (refused why e f kept) (refused also g h stays) = (f ∙ sym e ∙ g ∙ sym h, kept ∙ sym stays)
  one-output (refused why e f kept) (told g h recs) = absurd (not-both (sym g ∙ e))
  one-output (told e f recs) (refused why g h kept) = absurd (not-both (sym e ∙ g))
  one-output {old} {out} {other} (told {n = n} e f recs) (told {n = m} g h more) =
      let size : 97 * n ≡ 97 * m = same_size (sym e ∙ g) in
      let same : m ≡ n = omega (arith, size) in
      (f ∙ sym e ∙ g ∙ sym h, same-output recs (rw same at more))
