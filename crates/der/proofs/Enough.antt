-- What an element and a list come to at every fuel that is enough: each law of the walk at a fuel that has one to spend.
use Rattle.std.specs.Prelude.{None, Result, Ok, Err}
use mathlib.Core.Path.{◌≡◌, refl, sym, subst, ap, ◌∙◌}
use mathlib.Core.Bool.{Bool, true, false}
use mathlib.Core.List.{List, []}
use Prim.Native.Nat.{ℕ, zero, suc, ◌+◌, ◌-◌, ◌*◌, ◌≤◌, ◌<◌}
use native.Mathlib.Omega.{arith}
use lib.ListN.{length, get_or, take, drop, length-take, length-drop}
use lib.Seq.{take_all, drop-drop}
use native.Mathlib.Nat.{add-zero, add_assoc}
use Rattle.refusal.specs.declared.Refusal.{Refusal}
use Rattle.refusal.specs.declared.Refusal.TheVariants.{Der, Limit}
use Rattle.der.specs.declared.walking.Read.{Read}
use Rattle.der.specs.Forms.{Forms}
use Rattle.der.specs.Heading.{heading_of, constructed}
use Rattle.der.specs.Contents.{contents_good}
use Rattle.der.specs.Order.{smaller, is_set, handed}
use Rattle.der.specs.Walk.{opened, filled, element_at, list_at}
use Rattle.der.specs.Fast.{stretch}
use Rattle.der.specs.Onward.{Goes}
use Rattle.der.specs.Falling.{Falls, Stands}
use Rattle.der.proofs.Ascending.{smaller-none}
use Rattle.der.proofs.Laws.{element-bad, element-deep, element-many, element-fallen, element-node}
use Rattle.der.proofs.Laws.{element-leaf, element-spoilt, list_done, list-more, list-fault}
use Rattle.der.proofs.Bounds.{heading-within, element-within}
use Rattle.der.proofs.Payloads.{a_heading}
use Rattle.der.proofs.Payloads.{a_read}

abbrev pub ElementIs : Forms → List ℕ → List ℕ → ℕ → ℕ → ℕ → Result Read Refusal → Type 0
ElementIs forms prior s base depth count r = (fuel : ℕ) → 2 * length s + 1 ≤ fuel → r ≡ element_at fuel forms prior s base depth count

abbrev pub ListIs : Forms → Bool → List ℕ → ℕ → ℕ → ℕ → Result ℕ Refusal → Type 0
ListIs forms set s base depth count w = (fuel : ℕ) → 2 * length s + 2 ≤ fuel → w ≡ list_at fuel forms set [] s base depth count

back : (skip size : ℕ) → skip + size - skip ≡ size
back skip size = omega arith

spend : (P : ℕ → Type 0) (m : ℕ) → ((fuel : ℕ) → m ≤ fuel → P (suc fuel)) → (fuel : ℕ) → m + 1 ≤ fuel → P fuel
spend P m f zero h = absurd (omega arith)
spend P m f (suc fuel) h = f fuel (omega arith)

module _ (forms : Forms) (s : List ℕ) (base depth count : ℕ) where
  pub bad-is : heading_of forms s ≡ None → ElementIs forms [] s base depth count (Err (Der base))
  bad-is e = spend _ (2 * length s) λ fuel h. sym (element-bad forms fuel [] s base depth count e)

  module _ {tag skip size : ℕ} (e : heading_of forms s ≡ a_heading tag skip size) where
    pub deep_is : forms.depth < depth → ElementIs forms [] s base depth count (Err (Limit base))
    deep_is h = spend _ (2 * length s) λ fuel _. sym (element-deep forms fuel [] s base depth count tag skip size e h)

    module _ (shallow : depth ≤ forms.depth) where
      pub many_is : forms.elements ≤ count → ElementIs forms [] s base depth count (Err (Limit base))
      many_is h = spend _ (2 * length s) λ fuel _. sym (element-many forms fuel [] s base depth count tag skip size e shallow h)

      module _ (few : count < forms.elements) where
        pub leaf-is : constructed (get_or s 0 0) ≡ false → contents_good tag (take (skip + size - skip) (drop skip s)) ≡ true
            → ElementIs forms [] s base depth count (a_read (skip + size) (count + 1))
        leaf-is h g = spend _ (2 * length s) λ fuel _.
            sym (element-leaf forms fuel [] s base depth count tag skip size e shallow few (smaller-none _) h
            (subst (λ n. contents_good tag (take n (drop skip s)) ≡ true) (back skip size) g))

        pub spoilt-is : constructed (get_or s 0 0) ≡ false → contents_good tag (take (skip + size - skip) (drop skip s)) ≡ false
            → ElementIs forms [] s base depth count (Err (Der base))
        spoilt-is h g = spend _ (2 * length s) λ fuel _.
            sym (element-spoilt forms fuel [] s base depth count tag skip size e shallow few (smaller-none _) h
            (subst (λ n. contents_good tag (take n (drop skip s)) ≡ false) (back skip size) g))

        pub node-is : {set : Bool} {w : Result ℕ Refusal} → is_set tag ≡ set → constructed (get_or s 0 0) ≡ true
            → ListIs forms set (take (skip + size - skip) (drop skip s)) (base + skip) (depth + 1) (count + 1) w
            → ElementIs forms [] s base depth count (filled (skip + size) w)
        node-is {set} {w} kind h f = spend _ (2 * length s) λ fuel enough.
            ap (filled (skip + size)) (members fuel enough)
            ∙ sym (element-node forms fuel [] s base depth count tag skip size e shallow few (smaller-none _) h)
          where
            same : ListIs forms (is_set tag) (take size (drop skip s)) (base + skip) (depth + 1) (count + 1) w
            same = rw kind (subst (λ n. ListIs forms set (take n (drop skip s)) (base + skip) (depth + 1) (count + 1) w) (back skip size) f)

            members : (fuel : ℕ) → 2 * length s ≤ fuel → w ≡ list_at fuel forms (is_set tag) [] (take size (drop skip s)) (base + skip) (depth + 1) (count + 1)
            members fuel enough = same fuel (omega (arith, length-take size (drop skip s), length-drop skip s, heading-within forms s tag skip size e))

-- an element after another one of the SET: either the order is its first fault, or it is read as where no order is asked
module _ (forms : Forms) (prior s : List ℕ) (depth count : ℕ) where
  same_by : ((base fuel : ℕ) → element_at (suc fuel) forms [] s base depth count ≡ element_at (suc fuel) forms prior s base depth count)
      → Stands forms prior s depth count
  unfolding element_at
  same_by f base zero = refl
  same_by f base (suc fuel) = f base fuel

  pub stands-bad : heading_of forms s ≡ None → Stands forms prior s depth count
  stands-bad e = same_by λ base fuel. element-bad forms fuel [] s base depth count e ∙ sym (element-bad forms fuel prior s base depth count e)

  module _ {tag skip size : ℕ} (e : heading_of forms s ≡ a_heading tag skip size) where
    pub stands-deep : forms.depth < depth → Stands forms prior s depth count
    stands-deep h = same_by λ base fuel.
        element-deep forms fuel [] s base depth count tag skip size e h ∙ sym (element-deep forms fuel prior s base depth count tag skip size e h)

    module _ (shallow : depth ≤ forms.depth) where
      pub stands-many : forms.elements ≤ count → Stands forms prior s depth count
      stands-many h = same_by λ base fuel.
          element-many forms fuel [] s base depth count tag skip size e shallow h
          ∙ sym (element-many forms fuel prior s base depth count tag skip size e shallow h)

      pub stands-risen : smaller (take (skip + size) s) prior ≡ false → Stands forms prior s depth count
      unfolding element_at opened
      stands-risen h = same_by λ base fuel. simp (e, h, smaller-none)

      pub falls : count < forms.elements → smaller (take (skip + size) s) prior ≡ true → Falls forms prior s depth count
      falls few h base = spend _ (2 * length s) λ fuel _. sym (element-fallen forms fuel prior s base depth count tag skip size e shallow few h)

-- a list of which the elements before `at` have been read, the last of them from `prior` on; what is left of it stands at depth `deep`
abbrev pub ListLeft : Forms → Bool → List ℕ → ℕ → ℕ → ℕ → ℕ → ℕ → ℕ → ℕ → Type 0
ListLeft forms set s base depth count prior at deep read =
    (fuel : ℕ) → 2 * length s + 2 ≤ fuel
    → (rest : ℕ) × (2 * (length s - at) + 2 ≤ rest)
    × (list_at fuel forms set [] s base depth count ≡ list_at rest forms set (handed set (stretch s prior at)) (drop at s) (base + at) deep read)

pub handed-none : (set : Bool) → handed set [] ≡ []
unfolding handed
handed-none true = refl
handed-none false = refl

module _ (forms : Forms) (set : Bool) (s : List ℕ) (base depth count : ℕ) where
  pub left-first : ListLeft forms set s base depth count 0 0 depth count
  left-first fuel h = (fuel, omega arith, rw (handed-none set, add-zero) refl)

  module _ (prior at deep read : ℕ) (f : ListLeft forms set s base depth count prior at deep read) where
    abbrev member : List ℕ
    member = handed set (stretch s prior at)

    go_on : (P : Result ℕ Refusal → Type 0)
        → ((rest : ℕ) → 2 * (length s - at) + 1 ≤ rest → P (list_at (suc rest) forms set member (drop at s) (base + at) deep read))
        → (fuel : ℕ) → 2 * length s + 2 ≤ fuel → P (list_at fuel forms set [] s base depth count)
    go_on P g fuel enough = go (f fuel enough).0 (f fuel enough).1 (f fuel enough).2
      where
        go : (rest : ℕ) → 2 * (length s - at) + 2 ≤ rest
            → list_at fuel forms set [] s base depth count ≡ list_at rest forms set member (drop at s) (base + at) deep read → P
            (list_at fuel forms set [] s base depth count)
        go zero h e = absurd (omega arith)
        go (suc rest) h e = subst P (sym e) (g rest (omega arith))

    pub left-none : length s ≤ at → ListIs forms set s base depth count (Ok read)
    left-none h =
        let empty : length (drop at s) ≡ 0 = omega (arith, length-drop at s) in
        go_on (λ w. Ok read ≡ w) λ rest enough. sym (list_done forms rest set member (drop at s) (base + at) deep read empty)

    module _ (more : at < length s) where
      whole : take (length s - at) (drop at s) ≡ drop at s
      whole = take_all (length s - at) (drop at s) (omega (arith, length-drop at s))

      some : length (drop at s) ≡ 0 → ⊥
      some e = omega (arith, length-drop at s)

      element-left : {r : Result Read Refusal} → ElementIs forms member (take (length s - at) (drop at s)) (base + at) deep read r
          → (rest : ℕ) → 2 * (length s - at) + 1 ≤ rest → element_at rest forms member (drop at s) (base + at) deep read ≡ r
      element-left {r} g rest h = sym (subst (λ (l : List ℕ). ElementIs forms member l (base + at) deep read r) whole g rest (omega (arith, length-drop at s)))

      pub left-fault : {refusal : Refusal} → ElementIs forms member (take (length s - at) (drop at s)) (base + at) deep read (Err refusal)
          → ListIs forms set s base depth count (Err refusal)
      left-fault {refusal} g = go_on (λ w. Err refusal ≡ w) λ rest enough.
          sym (list-fault forms rest set member (drop at s) (base + at) deep read some refusal (element-left g rest enough))

      module _ {used n : ℕ} (g : ElementIs forms member (take (length s - at) (drop at s)) (base + at) deep read (a_read used n)) where
        pub read-within : (2 ≤ used) × (at + used ≤ length s) × (n ≤ forms.elements)
        read-within =
            let e = element-left g (2 * (length s - at) + 1) (omega arith) in
            let b = element-within forms (2 * (length s - at) + 1) member (drop at s) (base + at) deep read used n e in
            (b.0, omega (arith, b.1, length-drop at s), b.2)

        pub left-next : ListLeft forms set s base depth count at (at + used) deep n
        left-next = go_on (λ w. (rest : ℕ) × (2 * (length s - (at + used)) + 2 ≤ rest) × (w ≡ list_at rest forms set
            (handed set (stretch s at (at + used))) (drop (at + used) s) (base + (at + used)) deep n)) λ rest enough.
            let span : at + used - at ≡ used = omega arith in (
              rest,
              omega (arith, read-within),
              list-more forms rest set member (drop at s) (base + at) deep read some used n (element-left g rest enough)
                  ∙ rw (drop-drop used at s, add_assoc base at used, span) refl,
            )

-- where no order is asked, a list that goes on from elsewhere is left from there
pub left-on : (forms : Forms) (s : List ℕ) (base depth count prior at deep read other to deeper more : ℕ)
    → ListLeft forms false s base depth count prior at deep read → Goes forms s at deep read to deeper more
    → ListLeft forms false s base depth count other to deeper more
unfolding handed
left-on forms s base depth count prior at deep read other to deeper more f g fuel enough =
    let (rest, bound, first) = f fuel enough in
    let (last, limit, second) = g base rest bound in
    (last, limit, first ∙ second)
