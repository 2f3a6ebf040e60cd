-- The walk refuses by a DER rule or by a limit, and never by a rule of the profile.
use Rattle.std.specs.Prelude.{Option, Some, None, Result, Ok, Err}
use Prim.Native.Nat.{ℕ, zero, suc, ◌+◌, ◌*◌}
use mathlib.Core.Bool.{Bool, cond}
use mathlib.Core.List.{List, []}
use mathlib.Core.Path.{◌≡◌, refl, subst}
use native.Mathlib.Omega.{arith}
use lib.Dec.{leb, ltb, eqb}
use lib.ListN.{length, get_or, take, drop}
use Rattle.refusal.specs.declared.Refusal.{Refusal}
use Rattle.refusal.specs.declared.Refusal.TheVariants.{Der, Limit, Profile}
use Rattle.der.specs.declared.heading.Heading.{Heading}
use Rattle.der.specs.declared.walking.Read.{Read}
use Rattle.der.specs.Forms.{Forms}
use Rattle.der.specs.Heading.{heading_of, constructed}
use Rattle.der.specs.Contents.{contents_good}
use Rattle.der.specs.Order.{smaller, is_set, handed}
use Rattle.der.specs.Walk.{opened, filled, after, element_at, list_at, whole, walk_of}
use Rattle.der.proofs.Bounds.{cond-by}
use Rattle.der.proofs.Payloads.{a_read}

data Faulty : Refusal → Type 0 where
  by-der : {at : ℕ} → Faulty (Der at)
  by-limit : {at : ℕ} → Faulty (Limit at)

data ReadFaulty : Result Read Refusal → Type 0 where
  past-no : {used count : ℕ} → ReadFaulty (a_read used count)
  fault-by : {refusal : Refusal} → Faulty refusal → ReadFaulty (Err refusal)

data WalkFaulty : Result ℕ Refusal → Type 0 where
  passed-no : {count : ℕ} → WalkFaulty (Ok count)
  refused-by : {refusal : Refusal} → Faulty refusal → WalkFaulty (Err refusal)

filled-faulty : (used : ℕ) (w : Result ℕ Refusal) → WalkFaulty w → ReadFaulty (filled used w)
unfolding filled
filled-faulty used (Ok count) h = past-no
filled-faulty used (Err refusal) (refused-by h) = fault-by h

module _ (forms : Forms) where
  -- what the fuel below keeps, the next one keeps
  abbrev Keeps : ℕ → Type 0
  Keeps fuel =
      ((prior s : List ℕ) (base depth count : ℕ) → ReadFaulty (element_at fuel forms prior s base depth count))
      × ((set : Bool) (prior s : List ℕ) (base depth count : ℕ) → WalkFaulty (list_at fuel forms set prior s base depth count))

  element-faulty : (fuel : ℕ) → Keeps fuel → (prior s : List ℕ) (base depth count : ℕ) → ReadFaulty (element_at (suc fuel) forms prior s base depth count)
  unfolding element_at opened
  element-faulty fuel below prior s base depth count = go (heading_of forms s)
    where
      go : (h : Option Heading) → ReadFaulty (opened h (Err (Der base)) λ tag skip size.
          cond (ltb forms.depth depth) (Err (Limit base))
          (cond (leb forms.elements count) (Err (Limit base))
          (cond (smaller (take (skip + size) s) prior) (Err (Der base))
          (cond (constructed (get_or s 0 0))
          (filled (skip + size) (list_at fuel forms (is_set tag) [] (take size (drop skip s)) (base + skip) (depth + 1) (count + 1)))
          (cond (contents_good tag (take size (drop skip s))) (a_read (skip + size) (count + 1)) (Err (Der base)))))))
      go None = fault-by by-der
      go (Some h) =
          cond-by ReadFaulty (ltb forms.depth depth) (λ e. fault-by by-limit)
          (λ e. cond-by ReadFaulty (leb forms.elements count) (λ e. fault-by by-limit)
          (λ e. cond-by ReadFaulty (smaller (take (h.skip + h.size) s) prior) (λ e. fault-by by-der)
          (λ e. cond-by ReadFaulty (constructed (get_or s 0 0))
          (λ e. filled-faulty (h.skip + h.size) _ (below.1 (is_set h.tag) [] (take h.size (drop h.skip s)) (base + h.skip) (depth + 1) (count + 1)))
          (λ e. cond-by ReadFaulty (contents_good h.tag (take h.size (drop h.skip s))) (λ e. past-no) (λ e. fault-by by-der)))))

  list-faulty : (fuel : ℕ) → Keeps fuel → (set : Bool) (prior s : List ℕ) (base depth count : ℕ) → WalkFaulty
      (list_at (suc fuel) forms set prior s base depth count)
  unfolding list_at after
  list-faulty fuel below set prior s base depth count =
      cond-by WalkFaulty (eqb (length s) 0) (λ e. passed-no) (λ e. go (element_at fuel forms prior s base depth count) (below.0 prior s base depth count))
    where
      go : (r : Result Read Refusal) → ReadFaulty r → WalkFaulty (after r λ used n. list_at fuel forms set (handed set (take used s)) (drop used s) (base + used) depth n)
      go (Ok r) h = below.1 set (handed set (take r.used s)) (drop r.used s) (base + r.used) depth r.count
      go (Err refusal) (fault-by h) = refused-by h

  keeps : (fuel : ℕ) → Keeps fuel
  unfolding element_at list_at
  keeps zero = (λ prior s base depth count. fault-by by-der, λ set prior s base depth count. refused-by by-der)
  keeps (suc fuel) = (element-faulty fuel (keeps fuel), list-faulty fuel (keeps fuel))

  walk-faulty : (s : List ℕ) → WalkFaulty (walk_of forms s)
  unfolding walk_of whole
  walk-faulty s = cond-by WalkFaulty (ltb forms.item_size (length s)) (λ e. refused-by by-limit)
      (λ e. go (element_at (2 * length s + 2) forms [] s 0 1 0) ((keeps (2 * length s + 2)).0 [] s 0 1 0))
    where
      go : (r : Result Read Refusal) → ReadFaulty r → WalkFaulty (whole (length s) r)
      go (Err refusal) (fault-by h) = refused-by h
      go (Ok r) h = cond-by WalkFaulty (eqb r.used (length s)) (λ e. passed-no) (λ e. refused-by by-der)

  pub no-profile : (s : List ℕ) {k : ℕ} → walk_of forms s ≡ Err (Profile k) → ⊥
  no-profile s {k} e = go (subst WalkFaulty e (walk-faulty s))
    where
      never : {refusal : Refusal} → Faulty refusal → refusal ≡ Profile k → ⊥
      never by-der h = let z : ◌≡◌ {A = ℕ} 0 1 = cc in omega arith
      never by-limit h = let z : ◌≡◌ {A = ℕ} 0 1 = cc in omega arith

      go : WalkFaulty (Err (Profile k)) → ⊥
      go (refused-by h) = never h refl
