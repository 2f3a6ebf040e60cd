-- A fact of the walk's answer holds if it holds of each answer under the tests that lead there.
use Rattle.std.specs.Prelude.{Option, Some, None, Result, Ok, Err}
use mathlib.Core.Path.{◌≡◌, refl, ap}
use mathlib.Core.Bool.{Bool, true, false}
use mathlib.Core.List.{List, []}
use Prim.Native.Nat.{ℕ, suc, ◌+◌, ◌*◌, ◌≤◌, ◌<◌}
use borrow.Author.Tests.{ltb-false, leb-false, eqb-true}
use lib.Dec.{ltb, leb, eqb}
use lib.ListN.{length, get_or, take, drop}
use Rattle.refusal.specs.declared.Refusal.{Refusal}
use Rattle.der.specs.declared.heading.Heading.{Heading}
use Rattle.der.specs.declared.walking.Read.{Read}
use Rattle.der.specs.Forms.{Forms}
use Rattle.der.specs.Heading.{heading_of, constructed}
use Rattle.der.specs.Contents.{contents_good}
use Rattle.der.specs.Order.{smaller, is_set, handed}
use Rattle.der.specs.Walk.{opened, filled, after, element_at, list_at, whole, walk_of}
use Rattle.tree.proofs.Cases.{cond-by}
use Rattle.der.proofs.Payloads.{a_heading}
use Rattle.der.proofs.Payloads.{a_read}

module _ (P : Result Read Refusal → Type 0) where
  opened-by :
      (h : Option Heading) {fault : Result Read Refusal} {next : ℕ → ℕ → ℕ → Result Read Refusal} → P fault
      → ((tag skip size : ℕ) → h ≡ a_heading tag skip size → P (next tag skip size)) → P (opened h fault next)
  unfolding opened
  opened-by None p q = p
  opened-by (Some h) p q = q h.tag h.skip h.size refl

  filled-by :
      (used : ℕ) (w : Result ℕ Refusal) → ((refusal : Refusal) → P (Err refusal)) → ((m : ℕ) → w ≡ Ok m → P (a_read used m)) → P (filled used w)
  unfolding filled
  filled-by used (Ok m) p q = q m refl
  filled-by used (Err refusal) p q = p refusal

module _ (P : Result ℕ Refusal → Type 0) (p : (refusal : Refusal) → P (Err refusal)) where
  after-by : (r : Result Read Refusal) {next : ℕ → ℕ → Result ℕ Refusal} → ((used m : ℕ) → r ≡ a_read used m → P (next used m)) → P (after r next)
  unfolding after
  after-by (Ok r) q = q r.used r.count refl
  after-by (Err refusal) q = p refusal

  whole_by : (n : ℕ) (r : Result Read Refusal) → ((m : ℕ) → r ≡ a_read n m → P (Ok m)) → P (whole n r)
  unfolding whole
  whole_by n (Ok r) q = cond-by P (eqb r.used n) (λ e. q r.count (ap (λ (u : ℕ). a_read u r.count) (eqb-true _ _ e))) λ over. p _
  whole_by n (Err refusal) q = p refusal

  pub walked_by : (w : Result ℕ Refusal) → ((m : ℕ) → w ≡ Ok m → P (Ok m)) → P w
  walked_by (Ok m) q = q m refl
  walked_by (Err refusal) q = p refusal

module _ (forms : Forms) (fuel : ℕ) (prior s : List ℕ) (base d n : ℕ) where
  -- the tests that an element within the limits has passed
  pub record Opened (tag skip size : ℕ) : Type 0 where
    pub header : heading_of forms s ≡ a_heading tag skip size
    pub shallow : d ≤ forms.depth
    pub few : n < forms.elements
    pub risen : smaller (take (skip + size) s) prior ≡ false

  pub element-by :
      (P : Result Read Refusal → Type 0) → ((refusal : Refusal) → P (Err refusal))
      → ((tag skip size m : ℕ) → Opened tag skip size → constructed (get_or s 0 0) ≡ true
      → list_at fuel forms (is_set tag) [] (take size (drop skip s)) (base + skip) (d + 1) (n + 1) ≡ Ok m → P (a_read (skip + size) m))
      → ((tag skip size : ℕ) → Opened tag skip size → constructed (get_or s 0 0) ≡ false → contents_good tag (take size (drop skip s)) ≡ true
      → P (a_read (skip + size) (n + 1)))
      → P (element_at (suc fuel) forms prior s base d n)
  unfolding element_at
  element-by P fault node leaf =
      opened-by P (heading_of forms s) (fault _) λ tag skip size e.
      cond-by P (ltb forms.depth d) (λ deep. fault _) λ shallow.
      cond-by P (leb forms.elements n) (λ many. fault _) λ few.
      cond-by P (smaller (take (skip + size) s) prior) (λ fallen. fault _) λ risen.
      let o : Opened tag skip size = record { header = e; shallow = ltb-false _ _ shallow; few = leb-false _ _ few; risen = risen } in
      cond-by P (constructed (get_or s 0 0)) (λ built. filled-by P (skip + size) _ fault λ m inner. node tag skip size m o built inner)
      λ primitive. cond-by P (contents_good tag (take size (drop skip s))) (λ good. leaf tag skip size o primitive good) λ spoilt. fault _

  pub list-by :
      (set : Bool) (P : Result ℕ Refusal → Type 0) → ((refusal : Refusal) → P (Err refusal)) → (length s ≡ 0 → P (Ok n))
      → ((used k m : ℕ) → element_at fuel forms prior s base d n ≡ a_read used k
      → list_at fuel forms set (handed set (take used s)) (drop used s) (base + used) d k ≡ Ok m → P (Ok m))
      → P (list_at (suc fuel) forms set prior s base d n)
  unfolding list_at
  list-by set P refused done more =
      cond-by P (eqb (length s) 0) (λ z. done (eqb-true _ _ z)) λ left.
      after-by P refused (element_at fuel forms prior s base d n) λ used k first. walked_by P refused _ λ m rest. more used k m first rest

pub walk-by :
    (forms : Forms) (s : List ℕ) (P : Result ℕ Refusal → Type 0) → ((refusal : Refusal) → P (Err refusal))
    → ((m : ℕ) → length s ≤ forms.item_size → element_at (2 * length s + 2) forms [] s 0 1 0 ≡ a_read (length s) m → P (Ok m))
    → P (walk_of forms s)
unfolding walk_of
walk-by forms s P refused passed =
    cond-by P (ltb forms.item_size (length s)) (λ over. refused _) λ short.
    whole_by P refused (length s) _ λ m e. passed m (ltb-false _ _ short) e
