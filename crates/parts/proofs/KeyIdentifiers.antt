-- The contents of a key identifier's extension pass the walk, so they are the octets of one tree, which stands in the item where they
-- do: the element found there is that tree, and its place is told.
use Rattle.std.specs.Prelude.{Option, Some, None, Result, Ok, Err}
use Prim.Native.Nat.{ℕ, ◌+◌, ◌-◌, ◌≤◌}
use mathlib.Core.Path.{◌≡◌, refl, sym, ap, subst, ◌∙◌}
use mathlib.Core.Bool.{Bool, true, false, true≢false, false≢true, cond, not}
use mathlib.Core.List.{List, [], ◌∷◌, append-nil}
use native.Mathlib.Omega.{arith}
use lib.Dec.{eqb, lit≤}
use lib.ListN.{length, take, drop, length-drop, take-append-drop}
use lib.Seq.{length-take-le, take-add}
use Rattle.refusal.specs.declared.Refusal.{Refusal}
use Rattle.der.specs.Forms.{paper}
use Rattle.der.specs.Heading.{constructed}
use Rattle.der.specs.Walk.{walk_of}
use Rattle.tree.specs.Tree.{Tree, leaf, node, Trees, none, more, encoded, encoded_all, contents_of, Sound, sound_none, sound_more}
use Rattle.tree.proofs.Theorems.{walk-passes}
use Rattle.elements.specs.declared.elements.Element.{Element}
use Rattle.elements.specs.Elements.{found_tagged, on_found, inside}
use Rattle.elements.specs.Elements as elements
use Rattle.extensions.specs.declared.Extension.{Extension}
use Rattle.extensions.specs.Extensions.{all_shaped, extensions_shaped, lookup_of, doubled_of}
use Rattle.certificate.specs.declared.keys.KeyId.{KeyId}
use Rattle.certificate.specs.declared.keys.KeyId.TheVariants.{Key, Misformed}
use Rattle.certificate.specs.declared.rules.Readings.{Readings}
use Rattle.certificate.specs.Rules.{key_good, both_keys, rule11}
use Rattle.certificate.specs.Answer.{key_start, key_length}
use Rattle.certificate.specs.Keys.{passes, walks, key_in, first_of, subject_key_identifier, authority_key_identifier, subject_key, authority_key}
use Rattle.certificate.specs.Keys as keys
use Rattle.parts.specs.Places.{Place, At, numbered, member_at, along, place_in}
use Rattle.parts.specs.Shown.{Contents, extension, KeyPart, told, absent, octet_string, first_member}
use Rattle.parts.proofs.Inverse.{kept, both}
use Rattle.parts.proofs.Spans.{Spans}
use Rattle.parts.proofs.Standing.{Part, row_here, part_at, contents-length, contents-part, members-place}
use Rattle.parts.proofs.Enveloped.{Tagged, tagged-first, members-inside}
use Rattle.parts.proofs.Extensions.{Holds, Met, found-leaf, look-finds, look-misses, oid-once}
use Rattle.extensions.proofs.Payloads.{an_extension}

-- octets of the item that are those of a sound tree
tree-span :
    (s : List ℕ) (from end : ℕ) (tree : Tree) → from ≤ end → end ≤ length s → encoded tree ≡ take (end - from) (drop from s) → Sound paper tree
    → Spans s from end (more tree none)
unfolding encoded_all
tree-span s from end tree low high e sound =
    record {
      before = take from s;
      behind = drop end s;
      whole = rw (append-nil, e, ← take-add from (end - from) s, ends) (take-append-drop end s);
      start = start;
      stop = omega (arith, start, ap length (append-nil (encoded tree) ∙ e), length-take-le (end - from) (drop from s) (rw length-drop (omega arith)));
      sound = sound_more sound sound_none;
    }
  where
    ends : from + (end - from) ≡ end
    ends = omega arith

    start : length (take from s) ≡ from
    start = length-take-le from s (omega arith)

passes_count : (w : Result ℕ Refusal) → passes w ≡ true → (count : ℕ) × (w ≡ Ok count)
unfolding passes
passes_count (Ok count) h = (count, refl)
passes_count (Err refusal) h = absurd (true≢false (sym h))

-- the one tree of a value that passes the walk, in its place in the item
record Walking (s : List ℕ) (value : Element) : Type 0 where
  tree : Tree
  octets : elements.contents_of s value ≡ encoded tree
  sound : Sound paper tree
  span : Spans s value.contents value.end (more tree none)

walks-tree : (s : List ℕ) (value : Element) → Holds s value → walks s value ≡ true → Walking s value
unfolding walks elements.contents_of
walks-tree s value h w =
    let p = passes_count (walk_of paper (elements.contents_of s value)) w in
    let t = (walk-passes paper (lit≤ tt) (elements.contents_of s value) p.0 h.octets).0 p.1 in
    record {
      tree = t.tree;
      octets = sym t.bytes;
      sound = t.sound;
      span = tree-span s value.contents value.end t.tree h.order h.within t.bytes t.sound;
    }

-- a tree of a form, and the element in it that is told
record Formed (form : List ℕ → Trees → Tree) (path : List ℕ) (tree : Tree) (start : ℕ) (k : KeyId) : Type 0 where
  key : List ℕ
  beside : Trees
  shape : tree ≡ form key beside
  part : Contents (along (At tree start) path) (key_start k) (key_length k)

-- what is read of a value in which a tree stands is of the form
abbrev Reads : List ℕ → (Element → KeyId) → (List ℕ → Trees → Tree) → List ℕ → Type 0
Reads s read form path =
    (value : Element) (tree : Tree) → Spans s value.contents value.end (more tree none) → (read value ≡ Misformed → ⊥)
    → Formed form path tree value.contents (read value)

only_same : {x y : Tree} {rest : Trees} → ◌≡◌ {A = Trees} (more x none) (more y rest) → x ≡ y
only_same h = cc

-- one OCTET STRING
octets-read : (s : List ℕ) → Reads s (keys.octet_string s) octet_string []
unfolding keys.octet_string octet_string on_found key_start key_length constructed along numbered
octets-read s value tree sp good = go (found_tagged paper s value.contents value.end 0x04) refl good
  where
    next : Element → KeyId
    next key = Key key.contents key.end

    go :
        (f : Option Element) → found_tagged paper s value.contents value.end 0x04 ≡ f → (on_found f Misformed next ≡ Misformed → ⊥)
        → Formed octet_string [] tree value.contents (on_found f Misformed next)
    go None h good = absurd (good refl)
    go (Some key) h good =
        let t = tagged-first s value.contents value.end 0x04 (more tree none) key sp h in
        record {
          key = elements.contents_of s key;
          beside = none;
          shape = only_same t.split ∙ found-leaf s value.contents value.end 0x04 (more tree none) key refl t;
          part = contents-part (row_here t.member t.split);
        }

-- a SEQUENCE whose first member is tag 80
first-shape :
    {tree outer key : Tree} {members rest : Trees} {c : List ℕ}
    → tree ≡ outer → outer ≡ node 0x30 members → members ≡ more key rest → key ≡ leaf 0x80 c → tree ≡ node 0x30 (more (leaf 0x80 c) rest)
first-shape a b c d = cc

first_read : (s : List ℕ) → Reads s (first_of s) first_member (0 ∷ [])
unfolding first_of first_member on_found key_start key_length constructed along numbered
first_read s value tree sp good = by-outer (found_tagged paper s value.contents value.end 0x30) refl good
  where
    next : Element → KeyId
    next key = Key key.contents key.end

    inner : Element → KeyId
    inner outer = on_found (found_tagged paper s outer.contents outer.end 0x80) Misformed next

    by_key :
        (outer : Element) → (t : Tagged s value.contents value.end 0x30 (more tree none) outer)
        → (f : Option Element) → found_tagged paper s outer.contents outer.end 0x80 ≡ f → (on_found f Misformed next ≡ Misformed → ⊥)
        → Formed first_member (0 ∷ []) tree value.contents (on_found f Misformed next)
    by_key outer t None h good = absurd (good refl)
    by_key outer t (Some key) h good =
        let i = members-inside s value.contents value.end 0x30 (more tree none) outer refl t in
        let u = tagged-first s outer.contents outer.end 0x80 i.0 key i.2 h in
        let first = members-place (row_here t.member t.split) 0x30 i.0 i.1 0 in
        record {
          key = elements.contents_of s key;
          beside = u.rest;
          shape = first-shape (only_same t.split) i.1 u.split (found-leaf s outer.contents outer.end 0x80 i.0 key refl u);
          part = contents-part (part_at (row_here u.member u.split) first);
        }

    by-outer :
        (f : Option Element) → found_tagged paper s value.contents value.end 0x30 ≡ f → (on_found f Misformed inner ≡ Misformed → ⊥)
        → Formed first_member (0 ∷ []) tree value.contents (on_found f Misformed inner)
    by-outer None h good = absurd (good refl)
    by-outer (Some outer) h good =
        by_key outer (tagged-first s value.contents value.end 0x30 (more tree none) outer sp h)
        (found_tagged paper s outer.contents outer.end 0x80) refl good

-- the length of an OCTET STRING's contents
sized : {place : Place} {at n : ℕ} (size : ℕ) → Contents place at size → size ≡ n → Contents place at n
sized {place} {at} size c e = subst (Contents place at) e c

long :
    {s : List ℕ} {place : Place} {c : List ℕ} (e : Element) → Part s place e (leaf 0x04 c) → e.end - e.contents ≡ length c
unfolding contents_of
long e p = contents-length p

module _
    (s : List ℕ) (root : Tree) (extensions : Element) (trees : Trees) (sp : Spans s extensions.contents extensions.end trees)
    (each : (k : ℕ) → place_in root (0 ∷ 7 ∷ 0 ∷ k ∷ []) ≡ numbered trees k extensions.contents)
    (shaped : extensions_shaped paper s extensions ≡ true) (single : doubled_of paper s extensions ≡ false) where
  key-part :
      (oid : List ℕ) (read : Element → KeyId) (form : List ℕ → Trees → Tree) (path : List ℕ) → Reads s read form path → (k : KeyId)
      → key_in s (lookup_of paper s extensions oid) read ≡ k → (k ≡ Misformed → ⊥) → KeyPart root oid form path (key_start k) (key_length k)
  unfolding key_in key_start key_length lookup_of inside extensions_shaped doubled_of place_in along
  key-part oid read form path reads k e good =
      subst (λ (x : KeyId). KeyPart root oid form path (key_start x) (key_length x)) e
      (go (lookup_of paper s extensions oid) refl (λ m. good (sym e ∙ m)))
    where
      all : all_shaped paper s (inside paper s extensions) ≡ true
      all = (kept (eqb extensions.tag 0x30) (all_shaped paper s (inside paper s extensions)) false true (λ p. true≢false (sym p)) shaped).1

      by-walk :
          (value : Element) → Met s trees extensions.contents oid value → (b : Bool) → walks s value ≡ b
          → (cond b (read value) Misformed ≡ Misformed → ⊥)
          → KeyPart root oid form path (key_start (cond b (read value) Misformed)) (key_length (cond b (read value) Misformed))
      by-walk value l false w good = absurd (good refl)
      by-walk value l true w good =
          let t = walks-tree s value l.holds w in
          let r = reads value t.tree t.span good in
          let at = part_at l.part (ap (λ (q : Place). member_at q 1) (each l.number)) in
          told (record {
            number = l.number;
            from = l.at;
            inner = t.tree;
            stands = each l.number ∙ l.stands ∙ ap (λ (c : List ℕ). At (extension oid c) l.at) t.octets;
            once = λ other at members e.
                oid-once s oid extensions.end trees extensions.contents sp all single other l.number at l.at members _
                (sym (each other) ∙ e) l.stands;
            start = value.contents;
            octets = sized (value.end - value.contents) (contents-part at) (long value at ∙ ap length t.octets);
            sound = t.sound;
            key = r.key;
            beside = r.beside;
            shape = r.shape;
            part = r.part;
          })

      told :
          (own value : Element) (critical : Bool) → lookup_of paper s extensions oid ≡ an_extension own critical value
          → (key_in s (an_extension own critical value) read ≡ Misformed → ⊥)
          → KeyPart root oid form path (key_start (key_in s (an_extension own critical value) read)) (key_length (key_in s (an_extension own critical value) read))
      told own value true h good = absurd (good refl)
      told own value false h good =
          by-walk value (look-finds s oid extensions.end trees extensions.contents own value sp h) (walks s value) refl good

      go :
          (x : Option Extension) → lookup_of paper s extensions oid ≡ x → (key_in s x read ≡ Misformed → ⊥)
          → KeyPart root oid form path (key_start (key_in s x read)) (key_length (key_in s x read))
      go None h good =
          absent (λ number from members e. look-misses s oid extensions.end trees extensions.contents sp all h number from members (sym (each number) ∙ e))
          refl refl
      go (Some x) h good = told x.oid x.value x.critical h good

  pub subject-key :
      (subject_key s extensions ≡ Misformed → ⊥)
      → KeyPart root subject_key_identifier octet_string [] (key_start (subject_key s extensions)) (key_length (subject_key s extensions))
  unfolding subject_key
  subject-key = key-part subject_key_identifier (keys.octet_string s) octet_string [] (octets-read s) (subject_key s extensions) refl

  pub authority-key :
      (authority_key s extensions ≡ Misformed → ⊥)
      → KeyPart root authority_key_identifier first_member (0 ∷ []) (key_start (authority_key s extensions)) (key_length (authority_key s extensions))
  unfolding authority_key
  authority-key = key-part authority_key_identifier (first_of s) first_member (0 ∷ []) (first_read s) (authority_key s extensions) refl

-- rule 11 refuses a key identifier without its form
not-misformed : (wanted : Bool) (k : KeyId) → key_good wanted k ≡ true → k ≡ Misformed → ⊥
unfolding key_good
not-misformed wanted k good e = false≢true (sym (ap (key_good wanted) e) ∙ good)

pub keys-formed : (r : Readings) (role : ℕ) → rule11 r role ≡ true → (r.own ≡ Misformed → ⊥) × (r.authority ≡ Misformed → ⊥)
unfolding rule11 both_keys
keys-formed r role h =
    let b = both (key_good (not (eqb role 3)) r.own) (key_good (not (eqb role 1)) r.authority) h in
    (not-misformed (not (eqb role 3)) r.own b.0, not-misformed (not (eqb role 1)) r.authority b.1)
