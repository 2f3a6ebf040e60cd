-- Each attribute that is gone through is a member of its SET's tree, and each SET one of the name's: so what was seen of countryNames
-- is how many values the tree lists, and the one seen is the one listed.
use Rattle.std.specs.Prelude.{Option, Some, None}
use Prim.Native.Nat.{ℕ}
use mathlib.Core.Path.{◌≡◌, refl, sym, ap, subst, ◌∙◌}
use mathlib.Core.Bool.{Bool, true, false, cond, ◌&&◌}
use mathlib.Core.List.{List, [], ◌∷◌, ◌++◌, append_assoc, append-nil}
use native.Mathlib.Omega.{arith}
use borrow.Author.Tests.{eqb-true}
use lib.Dec.{eqb}
use lib.ListN.{length, get_or}
use Rattle.der.specs.Forms.{paper}
use Rattle.der.specs.Heading.{constructed}
use Rattle.tree.specs.Tree.{Tree, leaf, node, Trees, none, more, tag_of, contents_of, Sound}
use Rattle.tree.proofs.Cases.{cond-by}
use Rattle.elements.specs.declared.elements.Element.{Element}
use Rattle.elements.specs.Elements.{found_at, found_tagged, on_found, members_of, inside}
use Rattle.elements.specs.Elements as elements
use Rattle.octets.specs.Alike.{alike}
use Rattle.elements.proofs.Members.{members-none, members-more}
use Rattle.names.specs.declared.Attribute.{Attribute}
use Rattle.names.specs.declared.Attribute.TheVariants.{Country, Other, Misshapen}
use Rattle.names.specs.declared.Seen.{Seen}
use Rattle.names.specs.declared.Seen.TheVariants.{Never, Once, Often}
use Rattle.names.specs.declared.Letters.{Letters}
use Rattle.names.specs.Names.{country_name, attribute_of, one_more, attributed, attributes_of, one_set, after_set, sets_of, name_of, letters_in, letters_of, is_capital}
use Rattle.parts.specs.Places.{Place, At}
use Rattle.parts.specs.Countries.{country_in, countries_in, set_in, countries_of}
use Rattle.parts.specs.Shown.{Lettered}
use Rattle.parts.proofs.Inverse.{kept, both}
use Rattle.parts.proofs.Spans.{Spans, Member, found_first, found_none, first-of}
use Rattle.parts.proofs.Standing.{Part}
use Rattle.parts.proofs.Enveloped.{is-node, is_leaf, tagged-first}
use Rattle.names.proofs.Payloads.{some_letters, two_same}

-- what holds of what is said of a missing element, and of one that is found
found-by :
    {A : Type 0} (P : A → Type 0) (f : Option Element) (missing : A) (next : Element → A) → P missing → ((e : Element) → f ≡ Some e → P (next e))
    → P (on_found f missing next)
unfolding on_found
found-by P None missing next m n = m
found-by P (Some e) missing next m n = n e refl

-- an element that is a tree
record Like (s : List ℕ) (e : Element) (tree : Tree) : Type 0 where
  tag : e.tag ≡ tag_of tree
  contents : elements.contents_of s e ≡ contents_of tree
  sound : Sound paper tree

-- what an attribute tells, and the values that its tree lists
data Said (s : List ℕ) : Attribute → List Tree → Type 0 where
  misshapen : {trees : List Tree} → Said s Misshapen trees
  other : Said s Other []
  country : {value : Element} {tree : Tree} → Like s value tree → Said s (Country value) (tree ∷ [])

-- what was seen, and the values listed
data Sees (s : List ℕ) : Seen → List Tree → Type 0 where
  never : Sees s Never []
  once : {value : Element} {tree : Tree} → Like s value tree → Sees s (Once value) (tree ∷ [])
  often : {first second : Tree} {rest : List Tree} → Sees s Often (first ∷ second ∷ rest)

attribute-shape :
    {tree oid value : Tree} {members p q : Trees}
    → tree ≡ node 0x30 members → members ≡ more oid p → p ≡ more value q → tree ≡ node 0x30 (more oid (more value q))
attribute-shape a b c = cc

module _ (s : List ℕ) where
  attribute-said :
      (from end : ℕ) (e : Element) (tree : Tree) (trees : Trees) → Member s from end e tree trees → Said s (attribute_of paper s e) (country_in tree)
  unfolding attribute_of country_in constructed
  attribute-said from end e tree trees m =
      cond-by Told (eqb e.tag 0x30)
      (λ built. let n = is-node tree 0x30 refl m.sound (sym m.tag ∙ eqb-true _ _ built) in
      found-by Told (found_tagged paper s e.contents e.end 0x06) _ _ misshapen λ oid f.
      let t = tagged-first s e.contents e.end 0x06 n.0 oid (m.inside 0x30 n.0 n.1) f in
      found-by Told (found_at paper s oid.end e.end) _ _ misshapen λ value g.
      let x = first-of s oid.end e.end t.rest value t.member.next g in
      cond-by Told (eqb value.end e.end)
      (λ last. by-oid oid value t.tree x.0 x.1 (attribute-shape n.1 t.split x.2) t.member.contents
      (record { tag = x.3.tag; contents = x.3.contents; sound = x.3.sound }))
      λ more. misshapen)
      λ flat. misshapen
    where
      Told : Attribute → Type 0
      Told a = Said s a (country_in tree)

      by-test : (b : Bool) (value : Element) (x : Tree) → Like s value x → Said s (cond b (Country value) Other) (cond b (x ∷ []) [])
      by-test true value x like = country like
      by-test false value x like = other

      by-oid :
          (oid value : Element) (own x : Tree) (rest : Trees) → tree ≡ node 0x30 (more own (more x rest))
          → elements.contents_of s oid ≡ contents_of own → Like s value x
          → Told (cond (alike (elements.contents_of s oid) country_name) (Country value) Other)
      by-oid oid value own x rest shape same like =
          subst (λ (y : Tree). Said s (cond (alike (elements.contents_of s oid) country_name) (Country value) Other) (country_in y)) (sym shape)
          (subst (λ (c : List ℕ). Said s (cond (alike (elements.contents_of s oid) country_name) (Country value) Other) (cond (alike c country_name) (x ∷ []) [])) same
          (by-test (alike (elements.contents_of s oid) country_name) value x like))

  -- one more value
  sees_more : {seen : Seen} {before : List Tree} {value : Element} {tree : Tree} → Like s value tree → Sees s seen before → Sees s (one_more seen value) (before ++ (tree ∷ []))
  unfolding one_more
  sees_more like never = once like
  sees_more like (once first) = often
  sees_more like often = often

  -- what is seen after an attribute
  attributed-sees :
      {a : Attribute} {values before : List Tree} {seen : Seen} (next : Seen → Option Seen) {r : Option Seen} → (None ≡ r → ⊥) → Said s a values → Sees s seen before
      → attributed a seen next ≡ r → (now : Seen) × Sees s now (before ++ values) × (next now ≡ r)
  unfolding attributed
  attributed-sees next shapeless misshapen sees h = absurd (shapeless h)
  attributed-sees {before = before} {seen = seen} next shapeless other sees h =
      (seen, subst (Sees s seen) (sym (append-nil before)) sees, h)
  attributed-sees {seen = seen} next shapeless (country {value = value} like) sees h = (one_more seen value, sees_more like sees, h)

  not-shapeless : {seen : Seen} → ◌≡◌ {A = (Option Seen)} None (Some seen) → ⊥
  not-shapeless p = let z : ◌≡◌ {A = ℕ} 0 1 = cc in omega arith

  holds_same : {a b : Seen} → ◌≡◌ {A = (Option Seen)} (Some a) (Some b) → a ≡ b
  holds_same p = cc

  -- what is seen after the attributes of a SET
  attributes-see :
      (end : ℕ) (trees : Trees) (from : ℕ) (seen now : Seen) (before : List Tree) → Spans s from end trees → Sees s seen before
      → attributes_of paper s (members_of paper s from end) seen ≡ Some now → Sees s now (before ++ countries_in trees)
  unfolding attributes_of countries_in
  attributes-see end none from seen now before sp sees h =
      let e = holds_same (sym (ap (λ (l : List Element). attributes_of paper s l seen) (members-none s from end (found_none s from end sp))) ∙ h) in
      subst (λ (x : Seen). Sees s x (before ++ [])) e (subst (Sees s seen) (sym (append-nil before)) sees)
  attributes-see end (more tree trees) from seen now before sp sees h =
      let x = found_first s from end tree trees sp in
      let step = sym (ap (λ (l : List Element). attributes_of paper s l seen) (members-more s from end x.1)) ∙ h in
      let a = attributed-sees (λ y. attributes_of paper s (members_of paper s x.0.end end) y) not-shapeless (attribute-said from end x.0 tree trees x.2) sees step in
      subst (Sees s now) (append_assoc before (country_in tree) (countries_in trees))
      (attributes-see end trees x.0.end a.0 now (before ++ country_in tree) x.2.next a.1 a.2)

  -- what is seen after a SET
  set-sees :
      (from end : ℕ) (e : Element) (tree : Tree) (trees : Trees) (seen now : Seen) (before : List Tree) → Member s from end e tree trees
      → Sees s seen before → one_set paper s e seen ≡ Some now → Sees s now (before ++ set_in tree)
  unfolding one_set inside set_in constructed
  set-sees from end e tree trees seen now before m sees h =
      let k = kept (eqb e.tag 0x31) _ None (Some now) not-shapeless h in
      let n = is-node tree 0x31 refl m.sound (sym m.tag ∙ eqb-true _ _ k.0) in
      subst (λ (y : Tree). Sees s now (before ++ set_in y)) (sym n.1)
      (attributes-see e.end n.0 e.contents seen now before (m.inside 0x31 n.0 n.1) sees
      (some (eqb (length (members_of paper s e.contents e.end)) 0) k.1))
    where
      some : {r : Option Seen} (b : Bool) → cond b None r ≡ Some now → r ≡ Some now
      some true p = absurd (not-shapeless p)
      some false p = p

  after-set : (v : Option Seen) (next : Seen → Option Seen) {r : Seen} → after_set v next ≡ Some r → (seen : Seen) × (v ≡ Some seen) × (next seen ≡ Some r)
  unfolding after_set
  after-set None next h = absurd (not-shapeless h)
  after-set (Some seen) next h = (seen, refl, h)

  sets-see :
      (end : ℕ) (trees : Trees) (from : ℕ) (seen now : Seen) (before : List Tree) → Spans s from end trees → Sees s seen before
      → sets_of paper s (members_of paper s from end) seen ≡ Some now → Sees s now (before ++ countries_of trees)
  unfolding sets_of countries_of
  sets-see end none from seen now before sp sees h =
      let e = holds_same (sym (ap (λ (l : List Element). sets_of paper s l seen) (members-none s from end (found_none s from end sp))) ∙ h) in
      subst (λ (x : Seen). Sees s x (before ++ [])) e (subst (Sees s seen) (sym (append-nil before)) sees)
  sets-see end (more tree trees) from seen now before sp sees h =
      let x = found_first s from end tree trees sp in
      let step = sym (ap (λ (l : List Element). sets_of paper s l seen) (members-more s from end x.1)) ∙ h in
      let a = after-set (one_set paper s x.0 seen) (λ y. sets_of paper s (members_of paper s x.0.end end) y) step in
      subst (Sees s now) (append_assoc before (set_in tree) (countries_of trees))
      (sets-see end trees x.0.end a.0 now (before ++ set_in tree) x.2.next
      (set-sees from end x.0 tree trees seen a.0 before x.2 sees a.1) a.2)

-- two letters that are told are the contents of a PrintableString
two-contents : (c : List ℕ) (a b : ℕ) → length c ≡ 2 → get_or c 0 0 ≡ a → get_or c 1 0 ≡ b → c ≡ a ∷ b ∷ []
two-contents [] a b long first second = absurd (omega arith)
two-contents (x ∷ []) a b long first second = absurd (omega arith)
two-contents (x ∷ y ∷ []) a b long first second = cc
two-contents (x ∷ y ∷ z ∷ rest) a b long first second = absurd (omega arith)

never-unfit : {a b : ℕ} → ◌≡◌ {A = (Option Letters)} None (some_letters a b) → ⊥
never-unfit p = let z : ◌≡◌ {A = ℕ} 0 1 = cc in omega arith

two-same : {a b c d : ℕ} → ◌≡◌ {A = (Option Letters)} (some_letters a b) (some_letters c d) → (a ≡ c) × (b ≡ d)
two-same p = two_same p

letters-in : (tag : ℕ) (c : List ℕ) (a b : ℕ) → letters_in tag c ≡ some_letters a b → (tag ≡ 0x13) × (c ≡ a ∷ b ∷ [])
unfolding letters_in
letters-in tag c a b h =
    let k = kept (eqb tag 0x13 && (eqb (length c) 2 && (is_capital (get_or c 0 0) && is_capital (get_or c 1 0)))) _ None (some_letters a b) never-unfit h in
    let p = both (eqb tag 0x13) _ k.0 in
    let q = both (eqb (length c) 2) _ p.1 in
    let e = two-same k.1 in
    (eqb-true _ _ p.0, two-contents c a b (eqb-true _ _ q.0) e.0 e.1)

leaf-of : {tree : Tree} {c d : List ℕ} → tree ≡ leaf 0x13 c → c ≡ d → ◌≡◌ {A = List Tree} (tree ∷ []) (leaf 0x13 d ∷ [])
leaf-of a b = cc

seen-letters : (s : List ℕ) (seen : Seen) (trees : List Tree) (a b : ℕ) → Sees s seen trees → letters_of s seen ≡ some_letters a b → trees ≡ leaf 0x13 (a ∷ b ∷ []) ∷ []
unfolding letters_of constructed
seen-letters s seen trees a b never h = absurd (never-unfit h)
seen-letters s seen trees a b often h = absurd (never-unfit h)
seen-letters s seen trees a b (once {value = value} {tree = tree} like) h =
    let l = letters-in value.tag (elements.contents_of s value) a b h in
    leaf-of (is_leaf tree 0x13 refl like.sound (sym like.tag ∙ l.0)) (sym like.contents ∙ l.1)

-- the letters read of a name are those of the one countryName in its tree
pub name-letters :
    (s : List ℕ) (place : Place) (e : Element) (tree : Tree) (seen : Seen) (a b : ℕ) → Part s place e tree → name_of paper s e ≡ Some seen
    → letters_of s seen ≡ some_letters a b → Lettered place a b
unfolding name_of inside constructed
name-letters s place e tree seen a b p h two =
    let k = kept (eqb e.tag 0x30) _ None (Some seen) (not-shapeless s) h in
    let n = is-node tree 0x30 refl p.sound (sym p.tag ∙ eqb-true _ _ k.0) in
    let sees = sets-see s e.end n.0 e.contents Never seen [] (p.inside 0x30 n.0 n.1) never k.1 in
    record {
      sets = n.0;
      at = e.at;
      stands = p.there ∙ ap (λ (t : Tree). At t e.at) n.1;
      once = seen-letters s seen (countries_of n.0) a b sees two;
    }
