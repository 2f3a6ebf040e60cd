-- What the parts reported of a certificate or a CRL are, by their places in the item's tree.
use Rattle.std.specs.Prelude.{Option, Some, None, Ok}
use Prim.Native.Nat.{ℕ, ◌+◌}
use mathlib.Core.Path.{◌≡◌, refl, sym, ap, ap₂, subst, ◌∙◌}
use mathlib.Core.Bool.{true, true≢false, not}
use mathlib.Core.List.{List, [], ◌∷◌, ◌++◌, append_assoc, append-nil}
use native.Mathlib.Omega.{arith}
use borrow.Author.Tests.{not-true}
use lib.Dec.{eqb, lit≤}
use lib.ListN.{length, take, drop, length-append}
use Rattle.der.specs.Forms.{paper}
use Rattle.der.specs.Heading.{constructed}
use Rattle.octets.specs.Octets.{Octets}
use Rattle.tree.specs.Tree.{Tree, leaf, node, Trees, none, more, encoded, encoded_all, contents_of, header_of, Sound, SoundAll, sound_none, sound_more, Encodes}
use Rattle.tree.proofs.Theorems.{walk-passes}
use Rattle.tree.proofs.Parts.{encoded-parts, length-parts}
use Rattle.elements.specs.declared.elements.Element.{Element}
use Rattle.elements.specs.Elements.{members_of, inside}
use Rattle.elements.specs.Elements as elements
use Rattle.extensions.specs.Extensions.{doubled_of}
use Rattle.names.specs.declared.Letters.{Letters}
use Rattle.names.specs.Names.{first_letter, second_letter}
use Rattle.times.specs.Times.{time_in, time_of, moment_of, in_order}
use Rattle.certificate.specs.declared.Fields as certificate
use Rattle.certificate.specs.Answer as answer
use Rattle.certificate.specs.Meets.{Passes}
use Rattle.certificate.specs.Rules.{readings_of, rule3, same_two, rule5, rule6, rule7, rule8}
use Rattle.certificate.proofs.Theorems as theorems
use Rattle.crl.specs.declared.Fields as crl
use Rattle.crl.specs.Answer as list-answer
use Rattle.crl.specs.Rules as list-rules
use Rattle.crl.proofs.Theorems as list-theorems
use Rattle.parts.specs.Places.{Place, At, numbered, member_at, along, place_in, element_of, elements_of}
use Rattle.parts.specs.Shown.{Timed, Certificate, Crl}
use Rattle.parts.specs.Serial.{Positive}
use Rattle.parts.proofs.Inverse.{both}
use Rattle.parts.proofs.Lists as lists
use Rattle.parts.proofs.Spans.{Spans, members-sound}
use Rattle.parts.proofs.Members.{span-members}
use Rattle.parts.proofs.Standing.{Part, part_at, whole_part, contents-part}
use Rattle.parts.proofs.Octets.{octets-at}
use Rattle.parts.proofs.Enveloped.{Enveloped, envelope-members, is_leaf}
use Rattle.parts.proofs.Certificates.{Laid, laid_out, Fronted, front-members, two-times, back-members}
use Rattle.parts.proofs.Countries.{name-letters}
use Rattle.parts.proofs.KeyIdentifiers.{subject-key, authority-key, keys-formed}
use Rattle.parts.proofs.Serials.{serial-positive}
use Rattle.parts.proofs.Unique.{certificate-unique, crl-unique}
use Rattle.names.proofs.Payloads.{some_letters}

-- The elements of a stretch that encodes sound trees are those trees, one for one and in order.
pub members-trees :
    (before behind : List ℕ) (trees : Trees) → SoundAll paper trees
    → members_of paper (before ++ encoded_all trees ++ behind) (length before) (length before + length (encoded_all trees))
    ≡ elements_of (length before) trees
members-trees before behind trees sound =
    span-members (before ++ encoded_all trees ++ behind) (length before) (length before + length (encoded_all trees)) trees
    (record { before = before; behind = behind; whole = refl; start = refl; stop = refl; sound = sound })

-- So the elements inside a node's element are the node's members.
pub inside-node :
    (before behind : List ℕ) (tag : ℕ) (members : Trees) → Sound paper (node tag members)
    → inside paper (before ++ encoded (node tag members) ++ behind) (element_of (length before) (node tag members))
    ≡ elements_of (length before + length (header_of (node tag members))) members
unfolding inside element_of contents_of
inside-node before behind tag members sound =
    span-members (before ++ encoded x ++ behind) (length before + length (header_of x)) (length before + length (encoded x)) members
    (record {
      before = before ++ header_of x;
      behind = behind;
      whole = rw (encoded-parts x) (simp append_assoc);
      start = length-append before (header_of x);
      stop = omega (arith, length-append before (header_of x), length-parts x);
      sound = members-sound tag members sound;
    })
  where
    x : Tree
    x = node tag members

-- What stands at a place is in the item from its offset on: its encoding, and after its header its contents.
pub place-octets :
    (item : List ℕ) (root : Tree) (path : List ℕ) (tree : Tree) (at : ℕ) → encoded root ≡ item → place_in root path ≡ At tree at
    → (take (length (encoded tree)) (drop at item) ≡ encoded tree)
    × (take (length (contents_of tree)) (drop (at + length (header_of tree)) item) ≡ contents_of tree)
place-octets = octets-at

-- the one tree of a walked item stands in the whole of it
root : (item : List ℕ) (n : ℕ) (e : Encodes paper item n) → Spans item 0 (length item) (more e.tree none)
unfolding encoded_all
root item n e =
    record {
      before = [];
      behind = [];
      whole = append-nil (encoded e.tree ++ []) ∙ append-nil (encoded e.tree) ∙ e.bytes;
      start = refl;
      stop = (let n : length (encoded e.tree ++ []) ≡ length item = ap length (append-nil (encoded e.tree) ∙ e.bytes) in omega arith);
      sound = sound_more e.sound sound_none;
    }

-- two times in order are moments, and two letters that are the same are letters
moments : (a b : Option ℕ) → in_order a b ≡ true → (a ≡ Some (moment_of a)) × (b ≡ Some (moment_of b))
moments None b h = absurd (true≢false (sym h))
moments (Some a) None h = absurd (true≢false (sym h))
moments (Some a) (Some b) h = (refl, refl)

same-letters : (a b : Option Letters) → same_two a b ≡ true → a ≡ some_letters (first_letter a) (second_letter a)
unfolding same_two
same-letters None b h = absurd (true≢false (sym h))
same-letters (Some l) b h = refl

some-letters : (a : Option Letters) → list-rules.two_letters a ≡ true → a ≡ some_letters (first_letter a) (second_letter a)
unfolding list-rules.two_letters
some-letters None h = absurd (true≢false (sym h))
some-letters (Some l) h = refl

-- the time at a place
timed-part : {s : List ℕ} {place : Place} {e : Element} {tree : Tree} {moment : ℕ} → Part s place e tree → time_of s e ≡ Some moment → Timed place moment
unfolding time_of
timed-part {s} {place} {e} {tree} p h =
    record { tree = tree; at = e.at; stands = p.there; reads = sym (ap₂ time_in p.tag p.contents) ∙ h }

tbs-shape :
    {version serial inner issuer validity start end subject key : Tree} {members after extensions : Trees}
    → members ≡ more version (more serial (more inner (more issuer (more validity after))))
    → validity ≡ node 0x30 (more start (more end none))
    → after ≡ more subject (more key (more (node 0xA3 (more (node 0x30 extensions) none)) none))
    → members
    ≡ more version (more serial (more inner (more issuer (more (node 0x30 (more start (more end none)))
    (more subject (more key (more (node 0xA3 (more (node 0x30 extensions) none)) none)))))))
tbs-shape a b c = cc

-- an item that passes is walked, and its tbs begins with five members
Begun : (item : List ℕ) (role : ℕ) (f : certificate.Fields) → Passes item role f → Type 0
Begun item role f p =
    (t : Encodes paper item p.count) × (l : Laid item p.layout) × (v : Enveloped item t.tree l.tbs)
    × Fronted item l.tbs.contents l.tbs.end v.members p.layout.serial p.layout.issuer l.validity

begin : (item : List ℕ) (role : ℕ) (f : certificate.Fields) → Octets item → (p : Passes item role f) → Begun item role f p
unfolding Begun
begin item role f octets p =
    let t = (walk-passes paper (lit≤ tt) item p.count octets).0 p.walks in
    let y = p.layout in
    let l = laid_out item y p.shape in
    let v = envelope-members item t.tree l.tbs l.outer (root item p.count t) l.around in
    (t, l, v, front-members item l.tbs l.version y.serial y.inner y.issuer l.validity v.members v.span l.front)

-- Of a certificate that passes, each part reported is a member of the item's tree, told by its place: serial, issuer, the two
-- times, subject and key by their numbers in the tbs, the letters in the issuer, the key identifiers in the extensions that have
-- their OIDs.
pub certificate-parts :
    (item : List ℕ) (role : ℕ) (f : certificate.Fields) → Octets item → answer.judged_of item role ≡ Ok f
    → Certificate item f
unfolding Begun rule5 rule6 rule7 rule8 answer.fields_of readings_of place_in along
certificate-parts item role f octets e =
    let p = (theorems.passes-exactly item role f).0 e in
    let y = p.layout in
    let (t, l, v, a) = begin item role f octets p in
    let b = back-members item l.validity.end l.tbs.end y.subject y.key y.unique y.extensions a.rest a.next l.back (not-true y.unique p.meets.bare) in
    let c = two-times item (numbered v.members 4 l.tbs.contents) l.validity y.start y.finish a.validity a.validity-part a.validity-tag l.times in
    let k = keys-formed (readings_of item y) role p.meets.keys in
    let single = not-true (doubled_of paper item y.extensions) (both (not (eqb (length (inside paper item y.extensions)) 0)) _ p.meets.once).1 in
    let m = moments (time_of item y.start) (time_of item y.finish) p.meets.times in
    let issuer = part_at a.issuer-part (v.each 3) in
    let each : (n : ℕ) → place_in t.tree (0 ∷ 7 ∷ 0 ∷ n ∷ []) ≡ numbered b.extensions n y.extensions.contents =
    λ n. ap (λ (q : Place). member_at (member_at q 0) n) (v.each 7 ∙ a.later 2) ∙ b.each n in
    subst (Certificate item) (sym p.fields)
    (record {
      version = a.version;
      serial = a.serial;
      inner = a.inner;
      issuer = a.issuer;
      start = c.start;
      end = c.end;
      subject = b.subject;
      key = b.key;
      extensions = b.extensions;
      algorithm = v.algorithm;
      signature = v.signature;
      members = v.members;
      tbs = tbs-shape a.split c.shape b.split;
      tree = t.tree;
      shape = v.shape;
      octets = t.bytes;
      sound = t.sound;
      serial-part = contents-part (part_at a.serial-part (v.each 1));
      issuer-part = whole_part issuer;
      letters-part = name-letters item _ y.issuer a.issuer y.issuer_country _ _ issuer l.named (same-letters _ _ p.meets.countries);
      start-part = timed-part (part_at c.start-part (ap (λ (q : Place). member_at q 0) (v.each 4))) m.0;
      end-part = timed-part (part_at c.end-part (ap (λ (q : Place). member_at q 1) (v.each 4))) m.1;
      subject-part = whole_part (part_at b.subject-part (v.each 5 ∙ a.later 0));
      key-part = whole_part (part_at b.key-part (v.each 6 ∙ a.later 1));
      subject-key-part = subject-key item t.tree y.extensions b.extensions b.inside each l.shaped single k.0;
      authority-key-part = authority-key item t.tree y.extensions b.extensions b.inside each l.shaped single k.1;
    })

-- Of a certificate that passes, the serial told is one to 20 octets that write a number above zero.
pub certificate-serial :
    (item : List ℕ) (role : ℕ) (f : certificate.Fields) → Octets item → answer.judged_of item role ≡ Ok f
    → Positive (take f.serial_len (drop f.serial_at item))
unfolding Begun rule3 answer.fields_of elements.contents_of constructed
certificate-serial item role f octets e =
    let p = (theorems.passes-exactly item role f).0 e in
    let y = p.layout in
    let (t, l, v, a) = begin item role f octets p in
    let m = a.serial-part in
    let shape = is_leaf a.serial 0x02 refl m.sound a.serial-tag ∙ ap (leaf 0x02) (sym m.contents) in
    subst (λ (g : certificate.Fields). Positive (take g.serial_len (drop g.serial_at item))) (sym p.fields)
    (serial-positive (elements.contents_of item y.serial) (subst (Sound paper) shape m.sound) p.meets.serial)

-- Of a CRL that passes, issuer and the two times reported are the third, fourth and fifth member of the tbs of the item's tree, the
-- letters are in the issuer, and as many entries are told as the entry list has members.
pub crl-parts :
    (item : List ℕ) (f : crl.Fields) → Octets item → list-answer.judged_of paper item ≡ Ok f → Crl item f
unfolding list-answer.fields_of list-rules.rule4 list-rules.rule5 list-rules.readings_of
crl-parts item f octets e =
    let p = (list-theorems.passes-exactly item f).0 e in
    let y = p.parts in
    let t = (walk-passes paper (lit≤ tt) item p.count octets).0 p.walks in
    let l = lists.laid_out item y p.meets.shape in
    let v = envelope-members item t.tree l.tbs l.outer (root item p.count t) l.around in
    let a = lists.front-members item l.tbs y.version y.inner y.issuer y.current y.coming v.members v.span l.front in
    let m = moments (time_of item y.current) (time_of item y.coming) (both (in_order (time_of item y.current) (time_of item y.coming)) y.timely p.meets.times).0 in
    let issuer = part_at a.issuer-part (v.each 2) in
    subst (Crl item) (sym p.fields)
    (record {
      version = a.version;
      inner = a.inner;
      issuer = a.issuer;
      current = a.current;
      coming = a.coming;
      rest = a.rest;
      algorithm = v.algorithm;
      signature = v.signature;
      members = v.members;
      tbs = a.split;
      tree = t.tree;
      shape = v.shape;
      octets = t.bytes;
      sound = t.sound;
      issuer-part = whole_part issuer;
      letters-part = name-letters item _ y.issuer a.issuer y.country _ _ issuer l.named (some-letters _ p.meets.country);
      this-part = timed-part (part_at a.current-part (v.each 3)) m.0;
      next-part = timed-part (part_at a.coming-part (v.each 4)) m.1;
      entries-part =
          lists.entries-told item t.tree y.coming.end l.tbs.end a.rest y.listing y.extensions y.count y.timely y.calm
          a.next (v.each 5 ∙ a.sixth) l.listed l.last l.survey;
    })

-- No second fields fit a certificate or a CRL so.
pub certificate-one : (item : List ℕ) (f g : certificate.Fields) → Certificate item f → Certificate item g → f ≡ g
certificate-one = certificate-unique

pub crl-one : (item : List ℕ) (f g : crl.Fields) → Crl item f → Crl item g → f ≡ g
crl-one = crl-unique
