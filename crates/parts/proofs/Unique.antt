-- An item is the encoding of one sound tree, and a path leads to one place in it: so no second fields fit.
use Prim.Native.Nat.{ℕ}
use mathlib.Core.Path.{◌≡◌, sym, ap, ◌∙◌}
use mathlib.Core.List.{List, [], ◌∷◌}
use native.Mathlib.Omega.{arith}
use lib.Dec.{lit≤}
use Rattle.der.specs.Forms.{paper}
use Rattle.tree.specs.Tree.{Tree, leaf, node, Trees, none, more, encoded, Sound}
use Rattle.tree.proofs.Theorems.{one-tree}
use Rattle.certificate.specs.declared.Fields as certificate
use Rattle.crl.specs.declared.Fields as crl
use Rattle.parts.specs.Places.{Place, At, along, place_in}
use Rattle.parts.specs.Shown.{Whole, Contents, Timed, Lettered, extension, KeyTold, KeyPart, told, absent, signed, Certificate, many, closing, Entered, listing, listless, Crl}

module _ {place other : Place} where
  whole-one : {a b m n : ℕ} → Whole place a m → Whole other b n → place ≡ other → (a ≡ b) × (m ≡ n)
  whole-one v w e = (cc, cc)

  contents-one : {a b m n : ℕ} → Contents place a m → Contents other b n → place ≡ other → (a ≡ b) × (m ≡ n)
  contents-one v w e = (cc, cc)

  timed-one : {m n : ℕ} → Timed place m → Timed other n → place ≡ other → m ≡ n
  timed-one v w e = cc

  lettered-one : {a b c d : ℕ} → Lettered place a b → Lettered other c d → place ≡ other → (a ≡ c) × (b ≡ d)
  lettered-one v w e = (cc, cc)

-- an extension in one of two trees that are one
at_other :
    {x y z : Tree} {at : ℕ} (number : ℕ) → x ≡ y → place_in x (0 ∷ 7 ∷ 0 ∷ number ∷ []) ≡ At z at → place_in y (0 ∷ 7 ∷ 0 ∷ number ∷ []) ≡ At z at
at_other number e h = cc

extension-one : {oid c d : List ℕ} {a b : ℕ} → At (extension oid c) a ≡ At (extension oid d) b → c ≡ d
extension-one h = cc

module _ {x y : Tree} (e : x ≡ y) {oid : List ℕ} {form : List ℕ → Trees → Tree} {path : List ℕ} {a b m n : ℕ} where
  told-one : KeyTold x oid form path a m → KeyTold y oid form path b n → (a ≡ b) × (m ≡ n)
  told-one v w =
      let number : v.number ≡ w.number = w.once v.number v.from (more (leaf 0x04 (encoded v.inner)) none) (at_other v.number e v.stands) in
      let place : place_in x (0 ∷ 7 ∷ 0 ∷ v.number ∷ []) ≡ place_in y (0 ∷ 7 ∷ 0 ∷ w.number ∷ []) = cc in
      let inner : place_in x (0 ∷ 7 ∷ 0 ∷ v.number ∷ 1 ∷ []) ≡ place_in y (0 ∷ 7 ∷ 0 ∷ w.number ∷ 1 ∷ []) = cc in
      let octets : encoded v.inner ≡ encoded w.inner = extension-one (sym v.stands ∙ place ∙ w.stands) in
      let tree : v.inner ≡ w.inner = one-tree paper (lit≤ tt) v.inner w.inner v.sound w.sound octets in
      let start : v.start ≡ w.start = (contents-one v.octets w.octets inner).0 in
      let key : along (At v.inner v.start) path ≡ along (At w.inner w.start) path = cc in
      contents-one v.part w.part key

  key_one : KeyPart x oid form path a m → KeyPart y oid form path b n → (a ≡ b) × (m ≡ n)
  key_one (told v) (told w) = told-one v w
  key_one (told v) (absent never p q) = absurd (never v.number v.from (more (leaf 0x04 (encoded v.inner)) none) (at_other v.number e v.stands))
  key_one (absent never p q) (told w) = absurd (never w.number w.from (more (leaf 0x04 (encoded w.inner)) none) (at_other w.number (sym e) w.stands))
  key_one (absent never p q) (absent other r t) = (cc, cc)

tbs-one :
    {m n : Trees} {a b c d x y : Tree} → x ≡ y → x ≡ signed m a b → y ≡ signed n c d → m ≡ n
tbs-one e h g = cc

rest-one :
    {m n p q : Trees} {a b c d e v w x y z : Tree}
    → m ≡ n → m ≡ more a (more b (more c (more d (more e p)))) → n ≡ more v (more w (more x (more y (more z q)))) → p ≡ q
rest-one e h g = cc

-- a list of entries and none
list-none : {rest other entries a b : Trees} → rest ≡ other → rest ≡ more (node 0x30 entries) (closing a) → other ≡ closing b → ⊥
list-none e h g = let z : ◌≡◌ {A = ℕ} 0x30 0xA0 = cc in omega arith

list_same : {rest other m n a b : Trees} → rest ≡ other → rest ≡ more (node 0x30 m) (closing a) → other ≡ more (node 0x30 n) (closing b) → m ≡ n
list_same e h g = cc

entered-one :
    {x y : Tree} {rest other : Trees} {a b c d m n : ℕ} → x ≡ y → rest ≡ other → Entered x rest m a c → Entered y other n b d
    → (m ≡ n) × (a ≡ b) × (c ≡ d)
entered-one {x} {y} {rest} {other} {a} {b} {c} {d} {m} {n} e s (listing entries ext size shape count at end) (listing entries' ext' size' shape' count' at' end') =
    let place : place_in x (0 ∷ 5 ∷ []) ≡ place_in y (0 ∷ 5 ∷ []) = cc in
    let same : entries ≡ entries' = list_same s shape shape' in
    let k = contents-one at at' place in
    (count ∙ ap many same ∙ sym count', k.0, omega (arith, k.0, k.1))
entered-one e s (listing entries ext size shape count at end) (listless ext' shape' count' at' end') = absurd (list-none s shape shape')
entered-one e s (listless ext shape count at end) (listing entries' ext' size' shape' count' at' end') = absurd (list-none (sym s) shape' shape)
entered-one e s (listless ext shape count at end) (listless ext' shape' count' at' end') = (cc, cc, cc)

tree_of : (item : List ℕ) (x y : Tree) → encoded x ≡ item → encoded y ≡ item → Sound paper x → Sound paper y → x ≡ y
tree_of item x y a b s t = one-tree paper (lit≤ tt) x y s t (a ∙ sym b)

-- fields by their values
unfoldable certificate-of : ℕ → ℕ → ℕ → ℕ → ℕ → ℕ → ℕ → ℕ → ℕ → ℕ → ℕ → ℕ → ℕ → ℕ → ℕ → ℕ → certificate.Fields
certificate-of a b c d e f g h i j k l m n o p =
    record {
      start = a;
      end = b;
      first = c;
      second = d;
      issuer_at = e;
      issuer_len = f;
      subject_at = g;
      subject_len = h;
      key_at = i;
      key_len = j;
      serial_at = k;
      serial_len = l;
      subject_key_at = m;
      subject_key_len = n;
      authority_key_at = o;
      authority_key_len = p;
    }

pub certificate-unique : (item : List ℕ) (f g : certificate.Fields) → Certificate item f → Certificate item g → f ≡ g
unfolding certificate-of
certificate-unique item f g a b =
    let tree : a.tree ≡ b.tree = tree_of item a.tree b.tree a.octets b.octets a.sound b.sound in
    let serial = contents-one a.serial-part b.serial-part (cc) in
    let issuer = whole-one a.issuer-part b.issuer-part (cc) in
    let letters = lettered-one a.letters-part b.letters-part (cc) in
    let start = timed-one a.start-part b.start-part (cc) in
    let end = timed-one a.end-part b.end-part (cc) in
    let subject = whole-one a.subject-part b.subject-part (cc) in
    let key = whole-one a.key-part b.key-part (cc) in
    let own = key_one tree a.subject-key-part b.subject-key-part in
    let authority = key_one tree a.authority-key-part b.authority-key-part in
    let same :
    certificate-of f.start f.end f.first f.second
    f.issuer_at f.issuer_len f.subject_at f.subject_len
    f.key_at f.key_len f.serial_at f.serial_len
    f.subject_key_at f.subject_key_len f.authority_key_at f.authority_key_len
    ≡ certificate-of g.start g.end g.first g.second
    g.issuer_at g.issuer_len g.subject_at g.subject_len
    g.key_at g.key_len g.serial_at g.serial_len
    g.subject_key_at g.subject_key_len g.authority_key_at g.authority_key_len =
    cc (serial.0, serial.1, issuer.0, issuer.1, letters.0, letters.1, start, end, subject.0, subject.1, key.0, key.1, own.0, own.1, authority.0, authority.1) in
    same

-- fields by their values
unfoldable crl-of : ℕ → ℕ → ℕ → ℕ → ℕ → ℕ → ℕ → ℕ → ℕ → crl.Fields
crl-of a b c d e f g h i =
    record {
      this_update = a;
      next_update = b;
      first = c;
      second = d;
      entries = e;
      issuer_at = f;
      issuer_len = g;
      entries_from = h;
      entries_end = i;
    }

pub crl-unique : (item : List ℕ) (f g : crl.Fields) → Crl item f → Crl item g → f ≡ g
unfolding crl-of
crl-unique item f g a b =
    let tree : a.tree ≡ b.tree = tree_of item a.tree b.tree a.octets b.octets a.sound b.sound in
    let rest : a.rest ≡ b.rest = rest-one (tbs-one tree a.shape b.shape) a.tbs b.tbs in
    let issuer = whole-one a.issuer-part b.issuer-part (cc) in
    let letters = lettered-one a.letters-part b.letters-part (cc) in
    let current = timed-one a.this-part b.this-part (cc) in
    let coming = timed-one a.next-part b.next-part (cc) in
    let entries = entered-one tree rest a.entries-part b.entries-part in
    let same :
    crl-of f.this_update f.next_update f.first f.second f.entries f.issuer_at f.issuer_len f.entries_from f.entries_end
    ≡ crl-of g.this_update g.next_update g.first g.second g.entries g.issuer_at g.issuer_len g.entries_from g.entries_end =
    cc (issuer.0, issuer.1, letters.0, letters.1, current, coming, entries.0, entries.1, entries.2) in
    same
