-- Elements with a length in the short form: leaves, lists of them, and the element that such a list fills.
use Rattle.std.specs.Prelude.{Ok}
use Prim.Native.Nat.{ℕ, ◌+◌, ◌-◌, ◌*◌, ◌≤◌, ◌<◌}
use mathlib.Core.Path.{◌≡◌, refl, sym, subst, ◌∙◌}
use mathlib.Core.Bool.{Bool, true, false}
use mathlib.Core.List.{List, []}
use native.Mathlib.Omega.{arith}
use borrow.Author.Tests.{eq-eqb}
use lib.ListN.{length, get_or, take, drop}
use lib.Seq.{get_or-take, get_or-drop}
use Rattle.der.specs.Forms.{Forms}
use Rattle.der.specs.Heading.{identifier_good, heading_of, constructed}
use Rattle.der.specs.Contents.{boolean_good, integer_good, bit_string_good, oid_good, contents_good}
use Rattle.der.specs.Order.{is_set}
use Rattle.der.specs.Fast.{stretch, Reads, Fills, Last, Unjudged, Leaf}
use Rattle.der.specs.Walk.{filled}
use Rattle.der.proofs.Laws.{short-header}
use Rattle.der.proofs.Bounds.{element-within}
use Rattle.der.proofs.Enough.{ListIs, leaf-is, node-is}
use Rattle.der.proofs.Parts.{part_length, part-drop, part-inner, passes_none, passes-more, passes-one}
use Rattle.der.proofs.Payloads.{a_heading}

module _ {tag : ℕ} {c : List ℕ} where
  pub leaf-boolean : tag ≡ 1 → boolean_good c ≡ true → Leaf tag c
  unfolding identifier_good constructed contents_good
  leaf-boolean e g = rw e (record { known = refl; primitive = refl; good = g })

  pub leaf-integer : tag ≡ 2 → integer_good c ≡ true → Leaf tag c
  unfolding identifier_good constructed contents_good
  leaf-integer e g = rw e (record { known = refl; primitive = refl; good = g })

  pub leaf-null : tag ≡ 5 → length c ≡ 0 → Leaf tag c
  unfolding identifier_good constructed contents_good
  leaf-null e g = rw e (record { known = refl; primitive = refl; good = eq-eqb _ _ g })

  pub leaf-bit-string : tag ≡ 3 → bit_string_good c ≡ true → Leaf tag c
  unfolding identifier_good constructed contents_good
  leaf-bit-string e g = rw e (record { known = refl; primitive = refl; good = g })

  pub leaf-unjudged : Unjudged tag → Leaf tag c
  leaf-unjudged p = record { known = p.known; primitive = p.primitive; good = p.unjudged c }

  pub leaf-oid : tag ≡ 6 → oid_good c ≡ true → Leaf tag c
  unfolding identifier_good constructed contents_good
  leaf-oid e g = rw e (record { known = refl; primitive = refl; good = g })

pub get_d_part : (s : List ℕ) (i e k : ℕ) → i + k < e → get_or (stretch s i e) k 0 ≡ get_or s (i + k) 0
get_d_part s i e k h = get_or-take (e - i) (drop i s) k 0 (omega arith) ∙ get_or-drop i s k 0

module _ (forms : Forms) (s : List ℕ) (i e : ℕ) (two : i + 2 ≤ e) (inside : e ≤ length s) where
  long : length (stretch s i e) ≡ e - i
  long = part_length s i e inside

  front : get_or (stretch s i e) 0 0 ≡ get_or s i 0
  front = let z : i + 0 ≡ i = omega arith in get_d_part s i e 0 (omega arith) ∙ rw z refl

  module _ {after : ℕ} (ends : after ≡ i + 2 + get_or s (i + 1) 0) (fits : after ≤ e) (short : get_or s (i + 1) 0 < 128)
      (known : identifier_good (get_or s i 0) ≡ true) where
    heads : heading_of forms (stretch s i e) ≡ a_heading (get_or s i 0) 2 (get_or s (i + 1) 0)
    heads =
        let size : get_or (stretch s i e) 1 0 ≡ get_or s (i + 1) 0 = get_d_part s i e 1 (omega arith) in
        subst (λ n. heading_of forms (stretch s i e) ≡ a_heading n 2 (get_or s (i + 1) 0)) front
        (subst (λ n. heading_of forms (stretch s i e) ≡ a_heading (get_or (stretch s i e) 0 0) 2 n) size
        (short-header forms (stretch s i e) (omega (arith, long)) (rw front known) (rw size short) (rw size (omega (arith, long)))))

    same : stretch s (i + 2) after ≡ take (2 + get_or s (i + 1) 0 - 2) (drop 2 (stretch s i e))
    same = part-inner s i 2 (get_or s (i + 1) 0) e refl ends fits

    module _ (depth count : ℕ) (shallow : depth ≤ forms.depth) (few : count < forms.elements) where
      pub leaf-reads : constructed (get_or s i 0) ≡ false → contents_good (get_or s i 0) (stretch s (i + 2) after) ≡ true → Reads forms
          (stretch s i e) depth count (after - i) (count + 1)
      leaf-reads primitive good base =
          let used : after - i ≡ 2 + get_or s (i + 1) 0 = omega arith in
          rw used (leaf-is forms (stretch s i e) base depth count heads shallow few (rw front primitive)
          (subst (λ (l : List ℕ). contents_good (get_or s i 0) l ≡ true) same good))

      pub node-reads : {set : Bool} {m : ℕ} → is_set (get_or s i 0) ≡ set → constructed (get_or s i 0) ≡ true
          → Fills forms set (stretch s (i + 2) after) (depth + 1) (count + 1) m → Reads forms (stretch s i e) depth count (2 + get_or s (i + 1) 0) m
      unfolding filled
      node-reads {set} {m} kind node f base =
          node-is forms (stretch s i e) base depth count heads shallow few kind (rw front node)
          (subst (λ (l : List ℕ). ListIs forms set l (base + 2) (depth + 1) (count + 1) (Ok m)) same (f (base + 2)))

  -- one element more
  pub reads_on : (depth count r m n : ℕ) → Reads forms (stretch s i e) depth count (r - i) m → Fills forms false (stretch s r e) depth m n
      → Fills forms false (stretch s i e) depth count n
  reads_on depth count r m n f g =
      let enough = 2 * length (stretch s i e) + 1 in
      let w : (2 ≤ r - i) × (r - i ≤ length (stretch s i e)) × (m ≤ forms.elements) =
      element-within forms enough [] (stretch s i e) 0 depth count (r - i) m (sym (f 0 enough (omega arith))) in
      let on : i + (r - i) ≡ r = omega (arith, w) in
      passes-more forms (stretch s i e) depth count f (omega (arith, long)) w.0 w.1 (rw (part-drop s i (r - i) e, on) g)

  -- the one element that there is
  pub reads-one : (depth count : ℕ) {used m : ℕ} → used ≡ e - i → Reads forms (stretch s i e) depth count used m → (set : Bool) → Fills forms set
      (stretch s i e) depth count m
  reads-one depth count all f set = passes-one forms (stretch s i e) depth count f (omega (arith, long)) set (omega (arith, long))

pub fills-none : (forms : Forms) (s : List ℕ) (e depth count : ℕ) → e ≤ length s → Fills forms false (stretch s e e) depth count count
fills-none forms s e depth count inside = passes_none forms false (stretch s e e) depth count (omega (arith, part_length s e e inside))

-- the identifier of a SET, or of another element with members
pub record Listed (set : Bool) (tag : ℕ) : Type 0 where
  pub known : identifier_good tag ≡ true
  pub node : constructed tag ≡ true
  pub kind : is_set tag ≡ set

pub sequence : (tag : ℕ) → tag ≡ 48 → Listed false tag
unfolding identifier_good constructed is_set
sequence tag e = rw e (record { known = refl; node = refl; kind = refl })

pub set-of : (tag : ℕ) → tag ≡ 49 → Listed true tag
unfolding identifier_good constructed is_set
set-of tag e = rw e (record { known = refl; node = refl; kind = refl })

module _ (forms : Forms) (s : List ℕ) (i e : ℕ) (two : i + 2 ≤ e) (inside : e ≤ length s) (depth count m : ℕ) (shallow : depth ≤ forms.depth)
    (few : count < forms.elements) where
  -- by its members
  pub list-reads : {set : Bool} {after : ℕ} → Listed set (get_or s i 0) → after ≡ i + 2 + get_or s (i + 1) 0 → after ≤ e → get_or s (i + 1) 0 < 128
      → Fills forms set (stretch s (i + 2) after) (depth + 1) (count + 1) m → Reads forms (stretch s i e) depth count (2 + get_or s (i + 1) 0) m
  list-reads l ends fits short = node-reads forms s i e two inside ends fits short l.known depth count shallow few l.kind l.node

  -- a SEQUENCE that fills a list, or ends one
  pub last-fills : Last s i e → get_or s (i + 1) 0 < 128 → Fills forms false (stretch s (i + 2) e) (depth + 1) (count + 1) m
      → (set : Bool) → Fills forms set (stretch s i e) depth count m
  last-fills l short f =
      let ends : i + 2 + get_or s (i + 1) 0 ≡ e = l.ends in
      reads-one forms s i e two inside depth count (omega arith) (list-reads (sequence _ l.tag) (sym ends) (omega arith) short f)
