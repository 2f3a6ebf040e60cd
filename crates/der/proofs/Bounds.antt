-- What every answer keeps to, by going through the tests that lead to it: a header has two octets or more and ends within
-- what holds it, so does an element, and no count passes the limit.
use Rattle.std.specs.Prelude.{Option, Some, None, Result, Ok, Err}
use mathlib.Core.Path.{◌≡◌, refl, sym, ap, subst}
use mathlib.Core.Bool.{Bool, true, false, cond, ◌&&◌}
use mathlib.Core.List.{List, []}
use Prim.Native.Nat.{ℕ, zero, suc, ◌+◌, ◌-◌, ◌*◌, ◌≤◌, ◌<◌}
use native.Mathlib.Omega.{arith}
use borrow.Author.Tests.{leb-true, leb-false}
use lib.Dec.{leb, ltb, eqb, lit≤}
use lib.ListN.{length, get_or, take, drop}
use Rattle.refusal.specs.declared.Refusal.{Refusal}
use Rattle.refusal.specs.declared.Refusal.TheVariants.{Der, Limit}
use Rattle.der.specs.declared.heading.Heading.{Heading}
use Rattle.der.specs.declared.walking.Read.{Read}
use Rattle.der.specs.Forms.{Forms}
use Rattle.octets.specs.Octets.{number}
use Rattle.der.specs.Heading.{identifier_good, within, smallest, long, sized, wide_good, wide_heading, heading_of, constructed}
use Rattle.der.specs.Contents.{contents_good}
use Rattle.der.specs.Order.{smaller, is_set, handed}
use Rattle.der.specs.Walk.{opened, filled, after, element_at, list_at, whole, walk_of, counted}
use Rattle.der.proofs.Payloads.{a_heading}
use Rattle.der.proofs.Payloads.{a_read}

-- what holds of both answers of a test holds of the one that is picked
pub cond-by : {A : Type 0} (P : A → Type 0) (b : Bool) {x y : A} → (b ≡ true → P x) → (b ≡ false → P y) → P (cond b x y)
cond-by P true f g = f refl
cond-by P false f g = g refl

data HeadWithin (s : List ℕ) : Option Heading → Type 0 where
  header-in : {tag skip size : ℕ} → 2 ≤ skip → skip + size ≤ length s → HeadWithin s (a_heading tag skip size)
  bad-in : HeadWithin s None

within-keeps : (s : List ℕ) (tag skip size : ℕ) → 2 ≤ skip → HeadWithin s (within s tag skip size)
unfolding within
within-keeps s tag skip size h = cond-by (HeadWithin s) (leb (skip + size) (length s)) (λ e. header-in h (leb-true _ _ e)) (λ e. bad-in)

long-keeps : (forms : Forms) (s : List ℕ) (tag at k : ℕ) → 2 ≤ at → HeadWithin s (long forms s tag at k)
unfolding long
long-keeps forms s tag at k h =
    cond-by (HeadWithin s) (leb 1 k && (leb k forms.length_octets && leb (at + k) (length s)))
    (λ e. cond-by (HeadWithin s) (leb (smallest k) (number (take k (drop at s)))) (λ e. within-keeps s tag (at + k) (number (take k (drop at s)))
    (omega arith)) (λ e. bad-in))
    (λ e. bad-in)

sized-keeps : (forms : Forms) (s : List ℕ) (tag at : ℕ) → 1 ≤ at → HeadWithin s (sized forms s tag at)
unfolding sized
sized-keeps forms s tag at h =
    cond-by (HeadWithin s) (leb (length s) at) (λ e. bad-in)
    (λ e. cond-by (HeadWithin s) (ltb (get_or s at 0) 128) (λ e. within-keeps s tag (at + 1) (get_or s at 0) (omega arith))
    (λ e. long-keeps forms s tag (at + 1) (get_or s at 0 - 128) (omega arith)))

wide-keeps : (forms : Forms) (s : List ℕ) → HeadWithin s (wide_heading forms s)
unfolding wide_heading
wide-keeps forms s =
    cond-by (HeadWithin s) forms.wide_tags
    (λ e. cond-by (HeadWithin s) (wide_good (get_or s 0 0) (get_or s 1 0)) (λ e. sized-keeps forms s (get_or s 0 0 * 256 + get_or s 1 0) 2 (lit≤ tt)) (λ e. bad-in))
    (λ e. bad-in)

heading-keeps : (forms : Forms) (s : List ℕ) → HeadWithin s (heading_of forms s)
unfolding heading_of
heading-keeps forms s =
    cond-by (HeadWithin s) (ltb (length s) 2) (λ e. bad-in)
    (λ e. cond-by (HeadWithin s) (identifier_good (get_or s 0 0)) (λ e. sized-keeps forms s (get_or s 0 0) 1 (lit≤ tt)) (λ e. wide-keeps forms s))

pub heading-within :
    (forms : Forms) (s : List ℕ) (tag skip size : ℕ) → heading_of forms s ≡ a_heading tag skip size → (2 ≤ skip) × (skip + size ≤ length s)
heading-within forms s tag skip size e = go (subst (HeadWithin s) e (heading-keeps forms s))
  where
    go : HeadWithin s (a_heading tag skip size) → (2 ≤ skip) × (skip + size ≤ length s)
    go (header-in h g) = (h, g)

fault-not : {refusal : Refusal} {used m : ℕ} {A : Type 0} → Err refusal ≡ a_read used m → A
fault-not e = let w : ◌≡◌ {A = ℕ} 0 1 = cc in absurd (omega arith)

data ReadWithin (forms : Forms) (s : List ℕ) : Result Read Refusal → Type 0 where
  past-in : {used m : ℕ} → 2 ≤ used → used ≤ length s → m ≤ forms.elements → ReadWithin forms s (a_read used m)
  fault-in : {refusal : Refusal} → ReadWithin forms s (Err refusal)

data ListWithin (forms : Forms) : Result ℕ Refusal → Type 0 where
  passed-in : {m : ℕ} → m ≤ forms.elements → ListWithin forms (Ok m)
  refused-in : {refusal : Refusal} → ListWithin forms (Err refusal)

filled_keeps :
    (forms : Forms) (s : List ℕ) (used : ℕ) (w : Result ℕ Refusal) → 2 ≤ used → used ≤ length s → ListWithin forms w → ReadWithin forms s (filled used w)
unfolding filled
filled_keeps forms s used (Ok m) h g (passed-in f) = past-in h g f
filled_keeps forms s used (Err refusal) h g f = fault-in

-- what the fuel below keeps, the next one keeps
abbrev Keeps : Forms → ℕ → Type 0
Keeps forms fuel =
    ((prior s : List ℕ) (base depth count : ℕ) → ReadWithin forms s (element_at fuel forms prior s base depth count))
    × ((set : Bool) (prior s : List ℕ) (base depth count : ℕ) → count ≤ forms.elements
    → ListWithin forms (list_at fuel forms set prior s base depth count))

element-keeps : (forms : Forms) (fuel : ℕ) → Keeps forms fuel → (prior s : List ℕ) (base depth count : ℕ)
    → ReadWithin forms s (element_at (suc fuel) forms prior s base depth count)
unfolding element_at opened
element-keeps forms fuel below prior s base depth count = go (heading_of forms s) (heading-keeps forms s)
  where
    go : (h : Option Heading) → HeadWithin s h → ReadWithin forms s (opened h (Err (Der base)) λ tag skip size.
        cond (ltb forms.depth depth) (Err (Limit base))
        (cond (leb forms.elements count) (Err (Limit base))
        (cond (smaller (take (skip + size) s) prior) (Err (Der base))
        (cond (constructed (get_or s 0 0))
        (filled (skip + size) (list_at fuel forms (is_set tag) [] (take size (drop skip s)) (base + skip) (depth + 1) (count + 1)))
        (cond (contents_good tag (take size (drop skip s))) (a_read (skip + size) (count + 1)) (Err (Der base)))))))
    go None h = fault-in
    go (Some h1) (header-in h g) =
        cond-by (ReadWithin forms s) (ltb forms.depth depth) (λ e. fault-in)
        (λ e. cond-by (ReadWithin forms s) (leb forms.elements count) (λ e. fault-in)
        (λ e. let few : count < forms.elements = leb-false _ _ e in
        cond-by (ReadWithin forms s) (smaller (take (h1.skip + h1.size) s) prior) (λ e. fault-in)
        (λ e. cond-by (ReadWithin forms s) (constructed (get_or s 0 0))
        (λ e. filled_keeps forms s (h1.skip + h1.size) _ (omega arith) g
        (below.1 (is_set h1.tag) [] (take h1.size (drop h1.skip s)) (base + h1.skip) (depth + 1) (count + 1) (omega arith)))
        (λ e. cond-by (ReadWithin forms s) (contents_good h1.tag (take h1.size (drop h1.skip s))) (λ e. past-in {m = count + 1} (omega arith) g (omega arith))
        (λ e. fault-in)))))

list-keeps : (forms : Forms) (fuel : ℕ) → Keeps forms fuel → (set : Bool) (prior s : List ℕ) (base depth count : ℕ) → count ≤ forms.elements
    → ListWithin forms (list_at (suc fuel) forms set prior s base depth count)
unfolding list_at after
list-keeps forms fuel below set prior s base depth count h =
    cond-by (ListWithin forms) (eqb (length s) 0) (λ e. passed-in h) (λ e. go (element_at fuel forms prior s base depth count)
    (below.0 prior s base depth count))
  where
    go : (r : Result Read Refusal) → ReadWithin forms s r → ListWithin forms (after r λ used n. list_at fuel forms set (handed set (take used s)) (drop used s)
        (base + used) depth n)
    go (Ok r) (past-in f g h) = below.1 set (handed set (take r.used s)) (drop r.used s) (base + r.used) depth r.count h
    go (Err refusal) g = refused-in

keeps : (forms : Forms) (fuel : ℕ) → Keeps forms fuel
unfolding element_at list_at
keeps forms zero = (λ prior s base depth count. fault-in, λ set prior s base depth count h. refused-in)
keeps forms (suc fuel) = (element-keeps forms fuel (keeps forms fuel), list-keeps forms fuel (keeps forms fuel))

pub element-within :
    (forms : Forms) (fuel : ℕ) (prior s : List ℕ) (base depth count used m : ℕ) → element_at fuel forms prior s base depth count ≡ a_read used m
    → (2 ≤ used) × (used ≤ length s) × (m ≤ forms.elements)
element-within forms fuel prior s base depth count used m e = go (subst (ReadWithin forms s) e ((keeps forms fuel).0 prior s base depth count))
  where
    go : ReadWithin forms s (a_read used m) → (2 ≤ used) × (used ≤ length s) × (m ≤ forms.elements)
    go (past-in f g h) = (f, g, h)

-- an element that is read takes what its header tells
pub element-takes :
    (forms : Forms) (fuel : ℕ) (prior s : List ℕ) (base depth count tag skip size : ℕ) → heading_of forms s ≡ a_heading tag skip size
    → (used m : ℕ) → element_at fuel forms prior s base depth count ≡ a_read used m → used ≡ skip + size
unfolding element_at opened filled
element-takes forms zero prior s base depth count tag skip size e used m g = fault-not g
element-takes forms (suc fuel) prior s base depth count tag skip size e used m g = told g
  where
    P : Result Read Refusal → Type 0
    P r = r ≡ a_read used m → used ≡ skip + size

    taken : Result Read Refusal → ℕ
    taken (Ok r) = r.used
    taken (Err refusal) = 0

    same : {n : ℕ} → P (a_read (skip + size) n)
    same h = sym (ap taken h)

    members : (w : Result ℕ Refusal) → P (filled (skip + size) w)
    members (Ok n) = same
    members (Err refusal) = fault-not

    told : P (element_at (suc fuel) forms prior s base depth count)
    told = rw e
        (cond-by P (ltb forms.depth depth) (λ _. fault-not) λ _.
        cond-by P (leb forms.elements count) (λ _. fault-not) λ _.
        cond-by P (smaller (take (skip + size) s) prior) (λ _. fault-not) λ _.
        cond-by P (constructed (get_or s 0 0)) (λ _. members (list_at fuel forms (is_set tag) [] (take size (drop skip s)) (base + skip) (depth + 1)
        (count + 1))) λ _.
        cond-by P (contents_good tag (take size (drop skip s))) (λ _. same) λ _. fault-not)

pub list-within :
    (forms : Forms) (fuel : ℕ) (set : Bool) (prior s : List ℕ) (base depth count m : ℕ) → count ≤ forms.elements
    → list_at fuel forms set prior s base depth count ≡ Ok m
    → m ≤ forms.elements
list-within forms fuel set prior s base depth count m h e = go (subst (ListWithin forms) e ((keeps forms fuel).1 set prior s base depth count h))
  where
    go : ListWithin forms (Ok m) → m ≤ forms.elements
    go (passed-in f) = f

-- a walk counts no more elements than the limit
pub counted-within : (forms : Forms) (item : List ℕ) → counted (walk_of forms item) ≤ forms.elements
unfolding walk_of whole counted
counted-within forms item = tells (walk_of forms item) (cond-by (ListWithin forms) (ltb forms.item_size (length item)) (λ e. refused-in)
    (λ e. go (element_at (2 * length item + 2) forms [] item 0 1 0) ((keeps forms (2 * length item + 2)).0 [] item 0 1 0)))
  where
    go : (r : Result Read Refusal) → ReadWithin forms item r → ListWithin forms (whole (length item) r)
    go (Err refusal) h = refused-in
    go (Ok r) (past-in f g h) = cond-by (ListWithin forms) (eqb r.used (length item)) (λ e. passed-in h) (λ e. refused-in)

    tells : (w : Result ℕ Refusal) → ListWithin forms w → counted w ≤ forms.elements
    tells (Ok m) (passed-in h) = h
    tells (Err refusal) h = omega arith
