-- A list comes to the same from the next element on, once the first is read; and where one element is all of it, from its members on:
-- they fill it too, and nothing comes after them.
use Rattle.std.specs.Prelude.{Result, Ok, Err}
use Prim.Native.Nat.{ℕ, zero, suc, ◌+◌, ◌-◌, ◌*◌, ◌≤◌, ◌<◌}
use mathlib.Core.Path.{◌≡◌, refl, sym, subst, ap, ◌∙◌}
use mathlib.Core.Bool.{Bool, true, false}
use mathlib.Core.List.{List, []}
use native.Mathlib.Omega.{arith}
use native.Mathlib.Nat.{add-zero, add_assoc}
use lib.ListN.{length, get_or, take, drop, length-drop}
use lib.Seq.{take_all, drop-drop, get_or-drop}
use Rattle.der.specs.declared.walking.Read.{Read}
use Rattle.refusal.specs.declared.Refusal.{Refusal}
use Rattle.der.specs.Forms.{Forms}
use Rattle.der.specs.declared.limits.Limits.{Limits}
use Rattle.der.specs.Given.{Given}
use Rattle.der.specs.Heading.{heading_of, constructed}
use Rattle.der.specs.Contents.{contents_good}
use Rattle.der.specs.Order.{is_set, handed}
use Rattle.der.specs.Walk.{filled, element_at, list_at}
use Rattle.der.specs.Fast.{stretch, Reads}
use Rattle.der.specs.Onward.{Goes, Onward, Into, Sole}
use Rattle.der.proofs.Ascending.{smaller-none}
use Rattle.der.proofs.Laws.{element-node, list_done, list-more, list-fault}
use Rattle.der.proofs.Bounds.{heading-within, element-within, element-takes}
use Rattle.der.proofs.Enough.{leaf-is}
use Rattle.der.proofs.Parts.{part_length, part-inner}
use Rattle.der.proofs.Flat.{get_d_part}
use Rattle.der.proofs.Payloads.{a_heading}
use Rattle.der.proofs.Payloads.{a_read}

module _ (forms : Forms) (s : List ℕ) (base depth count : ℕ) {tag skip size : ℕ} (e : heading_of forms s ≡ a_heading tag skip size)
    (all : skip + size ≡ length s) where
  some : length s ≡ 0 → ⊥
  some z = omega (arith, heading-within forms s tag skip size e)

  gone : length (drop (skip + size) s) ≡ 0
  gone = omega (arith, length-drop (skip + size) s)

  -- an element that fills a list is read as its members are
  filled-list : (fuel : ℕ) → depth ≤ forms.depth → count < forms.elements → constructed (get_or s 0 0) ≡ true
      → list_at (suc (suc (suc fuel))) forms false [] s base depth count
      ≡ list_at (suc fuel) forms (is_set tag) [] (drop skip s) (base + skip) (depth + 1) (count + 1)
  unfolding filled
  filled-list fuel shallow few node = subst (λ (l : List ℕ). list_at (suc (suc (suc fuel))) forms false [] s base depth count
      ≡ list_at (suc fuel) forms (is_set tag) [] l (base + skip) (depth + 1) (count + 1)) whole (go _ refl)
    where
      whole : take size (drop skip s) ≡ drop skip s
      whole = take_all size (drop skip s) (omega (arith, length-drop skip s))

      members : Result ℕ Refusal
      members = list_at (suc fuel) forms (is_set tag) [] (take size (drop skip s)) (base + skip) (depth + 1) (count + 1)

      element : element_at (suc (suc fuel)) forms [] s base depth count ≡ filled (skip + size) members
      element = element-node forms (suc fuel) [] s base depth count tag skip size e shallow few (smaller-none _) node

      go : (w : Result ℕ Refusal) → members ≡ w → list_at (suc (suc (suc fuel))) forms false [] s base depth count ≡ w
      go (Err refusal) g = list-fault forms (suc (suc fuel)) false [] s base depth count some refusal (element ∙ ap (filled (skip + size)) g)
      go (Ok n) g =
          list-more forms (suc (suc fuel)) false [] s base depth count some (skip + size) n (element ∙ ap (filled (skip + size)) g)
          ∙ list_done forms (suc fuel) false (handed false (take (skip + size) s)) (drop (skip + size) s) (base + (skip + size)) depth n gone

  -- of one member no order is asked
  unordered : (fuel : ℕ) → list_at fuel forms true [] s base depth count ≡ list_at fuel forms false [] s base depth count
  unfolding element_at list_at
  unordered zero = refl
  unordered (suc zero) = refl
  unordered (suc (suc fuel)) = go (element_at (suc fuel) forms [] s base depth count) refl
    where
      go : (r : Result Read Refusal) → element_at (suc fuel) forms [] s base depth count ≡ r
          → list_at (suc (suc fuel)) forms true [] s base depth count ≡ list_at (suc (suc fuel)) forms false [] s base depth count
      go (Err refusal) g =
          list-fault forms (suc fuel) true [] s base depth count some refusal g
          ∙ sym (list-fault forms (suc fuel) false [] s base depth count some refusal g)
      go (Ok r) g =
          let takes : r.used ≡ skip + size = element-takes forms (suc fuel) [] s base depth count tag skip size e r.used r.count g in
          let none : length (drop r.used s) ≡ 0 = omega (arith, length-drop r.used s) in
          let ends : (set : Bool) → list_at (suc (suc fuel)) forms set [] s base depth count ≡ Ok r.count = λ set.
          list-more forms (suc fuel) set [] s base depth count some r.used r.count g
          ∙ list_done forms fuel set (handed set (take r.used s)) (drop r.used s) (base + r.used) depth r.count none in
          ends true ∙ sym (ends false)

module _ (s : List ℕ) (at : ℕ) where
  onwards : stretch s at (length s) ≡ drop at s
  onwards = take_all (length s - at) (drop at s) (omega (arith, length-drop at s))

-- the next element was read
pub reads-goes : (forms : Forms) (s : List ℕ) (at depth count : ℕ) {used m : ℕ} → at < length s → Reads forms (stretch s at (length s)) depth count used m
    → Goes forms s at depth count (at + used) depth m
unfolding handed
reads-goes forms s at depth count more f base zero enough = absurd (omega arith)
reads-goes forms s at depth count {used} {m} more f base (suc fuel) enough =
    let long : length (stretch s at (length s)) ≡ length s - at = part_length s at (length s) (omega arith) in
    let g : element_at fuel forms [] (drop at s) (base + at) depth count ≡ a_read used m =
    sym (subst (λ (l : List ℕ). a_read used m ≡ element_at fuel forms [] l (base + at) depth count) (onwards s at) (f (base + at) fuel (omega (arith, long)))) in
    let w = element-within forms fuel [] (drop at s) (base + at) depth count used m g in (
      fuel,
      omega (arith, w, length-drop at s),
      list-more forms fuel false [] (drop at s) (base + at) depth count (λ z. omega (arith, length-drop at s)) used m g
          ∙ rw (drop-drop used at s, add_assoc base at used) refl,
    )

-- the header of the element at `at`, by the limits that all forms share
abbrev pub Heads : Limits → List ℕ → ℕ → ℕ → ℕ → ℕ → Type 0
Heads limits s at tag skip size =
    (forms : Forms) → forms.length_octets ≡ limits.digits → forms.wide_tags ≡ limits.wide → heading_of forms (stretch s at (length s)) ≡ a_heading tag skip size

module _ (limits : Limits) (s : List ℕ) (at tag skip size : ℕ) (inside : at ≤ length s) (h : Heads limits s at tag skip size) where
  pub heads-within : (2 ≤ skip) × (at + skip + size ≤ length s)
  heads-within =
      let forms : Forms = record { item_size = 0; depth = 0; elements = 0; length_octets = limits.digits; wide_tags = limits.wide } in
      let long : length (stretch s at (length s)) ≡ length s - at = part_length s at (length s) (omega arith) in
      let w : (2 ≤ skip) × (skip + size ≤ length (stretch s at (length s))) = heading-within forms (stretch s at (length s)) tag skip size (h forms refl refl) in
      (w.0, omega arith)

  -- it ends where the list ends
  pub into-by : {set : Bool} → at + skip + size ≡ length s → constructed (get_or s at 0) ≡ true → is_set tag ≡ set → Into limits s at set (at + skip)
  into-by all node kind =
      let first : at + skip - at ≡ skip = omega arith in
      let rest : length s - (at + skip) ≡ size = omega arith in
      record { tag = tag; heads = λ forms octets tags. rw (first, rest) (h forms octets tags); node = node; kind = kind }

module _ {limits : Limits} {s : List ℕ} {at : ℕ} {set : Bool} {to : ℕ} (into : Into limits s at set to) where
  -- the header of what is all of the list, and where it ends
  module _ (forms : Forms) (octets : forms.length_octets ≡ limits.digits) (tags : forms.wide_tags ≡ limits.wide) where
    head : heading_of forms (drop at s) ≡ a_heading into.tag (to - at) (length s - to)
    head = subst (λ (l : List ℕ). heading_of forms l ≡ a_heading into.tag (to - at) (length s - to)) (onwards s at) (into.heads forms octets tags)

  into-within : (at + 2 ≤ to) × (to ≤ length s)
  into-within =
      let forms : Forms = record { item_size = 0; depth = 0; elements = 0; length_octets = limits.digits; wide_tags = limits.wide } in
      let w : (2 ≤ to - at) × (to - at + (length s - to) ≤ length (drop at s)) =
      heading-within forms (drop at s) into.tag (to - at) (length s - to) (head forms refl refl) in
      (omega (arith, w, length-drop at s), omega (arith, w, length-drop at s))

  whole_of : to - at + (length s - to) ≡ length (drop at s)
  whole_of = omega (arith, into-within, length-drop at s)

  -- its members
  enter : (left count : ℕ) → 1 ≤ left → count < limits.most → (forms : Forms) → Given limits left forms → (base fuel : ℕ)
      → 2 * (length s - at) + 2 ≤ fuel
      → (rest : ℕ) × (2 * (length s - to) + 2 ≤ rest) × (list_at fuel forms false [] (drop at s) (base + at) (forms.depth + 1 - left) count
      ≡ list_at rest forms set [] (drop to s) (base + to) (forms.depth + 1 - (left - 1)) (count + 1))
  enter left count some few forms given base zero enough = absurd (omega arith)
  enter left count some few forms given base (suc zero) enough = absurd (omega (arith, into-within))
  enter left count some few forms given base (suc (suc zero)) enough = absurd (omega (arith, into-within))
  enter left count some few forms given base (suc (suc (suc fuel))) enough =
      let back : at + (to - at) ≡ to = omega (arith, into-within) in
      let deeper : forms.depth + 1 - left + 1 ≡ forms.depth + 1 - (left - 1) = omega (arith, given.levels) in
      let node : constructed (get_or (drop at s) 0 0) ≡ true = rw (get_or-drop at s 0 0, add-zero) into.node in (
        suc fuel,
        omega (arith, into-within),
        filled-list forms (drop at s) (base + at) (forms.depth + 1 - left) count (head forms given.octets given.tags) whole_of fuel
            (omega (arith, given.levels)) (omega (arith, given.limit)) node
            ∙ rw (into.kind, drop-drop (to - at) at s, add_assoc base at (to - at), back, deeper) refl,
      )

module _ {limits : Limits} {s : List ℕ} {at left count : ℕ} (some_left : 1 ≤ left) (few : count < limits.most) where
  -- a primitive
  pub onward-reads : {to : ℕ} → at < to → to ≤ length s → ((forms : Forms) → Given limits left forms
      → Reads forms (stretch s at (length s)) (forms.depth + 1 - left) count (to - at) (count + 1))
      → Onward limits s at left count to left (count + 1)
  onward-reads {to} farther inside f =
      let back : at + (to - at) ≡ to = omega arith in
      record {
        farther = farther;
        inside = inside;
        levels = omega arith;
        few = omega arith;
        goes = λ forms given. subst (λ n. Goes forms s at (forms.depth + 1 - left) count n (forms.depth + 1 - left) (count + 1)) back
            (reads-goes forms s at (forms.depth + 1 - left) count (omega arith) (f forms given));
      }

  pub onward-leaf : (tag skip size : ℕ) → Heads limits s at tag skip size → at < length s → constructed (get_or s at 0) ≡ false
      → contents_good tag (stretch s (at + skip) (at + skip + size)) ≡ true → Onward limits s at left count (at + skip + size) left (count + 1)
  onward-leaf tag skip size h more leaf good =
      let w = heads-within limits s at tag skip size (omega arith) h in
      let used : at + skip + size - at ≡ skip + size = omega arith in
      let here : at + 0 ≡ at = omega arith in
      let front : get_or (stretch s at (length s)) 0 0 ≡ get_or s at 0 = get_d_part s at (length s) 0 (omega arith) ∙ rw here refl in
      onward-reads (omega arith) w.1 λ forms given base.
      rw used (leaf-is forms (stretch s at (length s)) base (forms.depth + 1 - left) count (h forms given.octets given.tags)
      (omega (arith, given.levels)) (omega (arith, given.limit)) (rw front leaf)
      (subst (λ (l : List ℕ). contents_good tag l ≡ true) (part-inner s at skip size (length s) refl refl w.1) good))

  -- the last element of the list, no SET
  pub onward-into : {to : ℕ} → Into limits s at false to → Onward limits s at left count to (left - 1) (count + 1)
  onward-into {to} into = record {
    farther = omega (arith, into-within into);
    inside = (into-within into).1;
    levels = omega arith;
    few = omega arith;
    goes = enter into left count some_left few;
  }

  -- a SET of one member
  pub onward-sole : {mid to deep read : ℕ} → Into limits s at true mid → Sole limits s mid (left - 1) (count + 1) to deep read
      → Onward limits s at left count to deep read
  onward-sole {mid} {to} {deep} {read} into sole = record {
    farther = omega (arith, into-within into, into-within sole.into);
    inside = (into-within sole.into).1;
    levels = omega (arith, sole.levels);
    few = omega (arith, sole.counted, sole.few);
    goes = goes;
  }
    where
      below : (forms : Forms) → Given limits left forms → Given limits (left - 1) forms
      below forms given = record { octets = given.octets; tags = given.tags; limit = given.limit; levels = omega (arith, given.levels) }

      goes : (forms : Forms) → Given limits left forms → Goes forms s at (forms.depth + 1 - left) count to (forms.depth + 1 - deep) read
      goes forms given base fuel enough =
          let (rest, bound, first) = enter into left count some_left few forms given base fuel enough in
          let (last, limit, second) =
          enter sole.into (left - 1) (count + 1) sole.some sole.few forms (below forms given) base rest bound in
          let one = unordered forms (drop mid s) (base + mid) (forms.depth + 1 - (left - 1)) (count + 1)
          (head sole.into forms given.octets given.tags) (whole_of sole.into) rest in
          (last, limit, rw (sole.levels, sole.counted) (first ∙ one ∙ second))
