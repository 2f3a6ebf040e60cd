-- What a certificate and a CRL that pass report: each part by its place in the item's tree. Members are counted from 0 in a path.
use Rattle.std.specs.Prelude.{ℕ, suc, ◌+◌, ◌≡◌, List, [], ◌∷◌, length, Some}
use Rattle.der.specs.Forms.{paper}
use Rattle.tree.specs.Tree.{Tree, leaf, node, Trees, none, more, encoded, tag_of, contents_of, header_of, Sound}
use Rattle.times.specs.Times.{time_in}
use Rattle.certificate.specs.declared.Fields as certificate
use Rattle.certificate.specs.Keys.{subject_key_identifier, authority_key_identifier}
use Rattle.crl.specs.declared.Fields as crl
use Rattle.parts.specs.Places.{Place, At, along, place_in}
use Rattle.parts.specs.Countries.{countries_of}

-- offset and length of the whole element at a place
pub record Whole (place : Place) (at size : ℕ) : Type 0 where
  pub tree : Tree
  pub stands : place ≡ At tree at
  pub long : size ≡ length (encoded tree)

-- offset and length of the contents of the element at a place: they stand after its header
pub record Contents (place : Place) (at size : ℕ) : Type 0 where
  pub tree : Tree
  pub from : ℕ
  pub stands : place ≡ At tree from
  pub after : at ≡ from + length (header_of tree)
  pub long : size ≡ length (contents_of tree)

-- the moment that the time at a place tells
pub record Timed (place : Place) (moment : ℕ) : Type 0 where
  pub tree : Tree
  pub at : ℕ
  pub stands : place ≡ At tree at
  pub reads : time_in (tag_of tree) (contents_of tree) ≡ Some moment

-- the letters of the name at a place: it holds countryName once, as PrintableString of these two
pub record Lettered (place : Place) (first second : ℕ) : Type 0 where
  pub sets : Trees
  pub at : ℕ
  pub stands : place ≡ At (node 0x30 sets) at
  pub once : countries_of sets ≡ leaf 0x13 (first ∷ second ∷ []) ∷ []

-- an extension that is not critical: its OID, and an OCTET STRING around the octets that are its contents
abbrev pub extension : List ℕ → List ℕ → Tree
extension oid contents = node 0x30 (more (leaf 0x06 oid) (more (leaf 0x04 contents) none))

-- A key identifier, in the one extension with the OID, the member `number` of the list. Its OCTET STRING's contents, which start
-- at `start`, encode the tree `inner` of the form asked for, and in that `path` leads to the key identifier.
pub record KeyTold (tree : Tree) (oid : List ℕ) (form : List ℕ → Trees → Tree) (path : List ℕ) (at size : ℕ) : Type 0 where
  pub number : ℕ
  pub from : ℕ
  pub inner : Tree
  pub stands : place_in tree (0 ∷ 7 ∷ 0 ∷ number ∷ []) ≡ At (extension oid (encoded inner)) from
  pub once :
      (other at : ℕ) (members : Trees)
      → place_in tree (0 ∷ 7 ∷ 0 ∷ other ∷ []) ≡ At (node 0x30 (more (leaf 0x06 oid) members)) at → other ≡ number
  pub start : ℕ
  pub octets : Contents (place_in tree (0 ∷ 7 ∷ 0 ∷ number ∷ 1 ∷ [])) start (length (encoded inner))
  pub sound : Sound paper inner
  pub key : List ℕ
  pub beside : Trees
  pub shape : inner ≡ form key beside
  pub part : Contents (along (At inner start) path) at size

-- what is told of a key identifier: offset and length of its contents, 0 and 0 where no extension has the OID
pub data KeyPart (tree : Tree) (oid : List ℕ) (form : List ℕ → Trees → Tree) (path : List ℕ) (at size : ℕ) : Type 0 where
  told : KeyTold tree oid form path at size → KeyPart tree oid form path at size
  absent :
      ((number from : ℕ) (members : Trees)
      → place_in tree (0 ∷ 7 ∷ 0 ∷ number ∷ []) ≡ At (node 0x30 (more (leaf 0x06 oid) members)) from → ⊥)
      → at ≡ 0 → size ≡ 0 → KeyPart tree oid form path at size

-- one OCTET STRING, and nothing beside it
unfoldable pub octet_string : List ℕ → Trees → Tree
octet_string key beside = leaf 0x04 key

-- a SEQUENCE whose first member is tag 80
unfoldable pub first_member : List ℕ → Trees → Tree
first_member key beside = node 0x30 (more (leaf 0x80 key) beside)

-- a SEQUENCE of tbs SEQUENCE, algorithm and signature
abbrev pub signed : Trees → Tree → Tree → Tree
signed tbs algorithm signature = node 0x30 (more (node 0x30 tbs) (more algorithm (more signature none)))

-- The item is a certificate's tree. Serial is the tbs's second member, issuer its fourth, the two times the members of its
-- fifth, subject its sixth and key its seventh; the eighth and last is A3 around the extensions.
pub record Certificate (item : List ℕ) (f : certificate.Fields) : Type 0 where
  pub version : Tree
  pub serial : Tree
  pub inner : Tree
  pub issuer : Tree
  pub start : Tree
  pub end : Tree
  pub subject : Tree
  pub key : Tree
  pub extensions : Trees
  pub algorithm : Tree
  pub signature : Tree
  pub members : Trees
  pub tbs :
      members
      ≡ more version (more serial (more inner (more issuer (more (node 0x30 (more start (more end none)))
      (more subject (more key (more (node 0xA3 (more (node 0x30 extensions) none)) none)))))))
  pub tree : Tree
  pub shape : tree ≡ signed members algorithm signature
  pub octets : encoded tree ≡ item
  pub sound : Sound paper tree
  pub serial-part : Contents (place_in tree (0 ∷ 1 ∷ [])) f.serial_at f.serial_len
  pub issuer-part : Whole (place_in tree (0 ∷ 3 ∷ [])) f.issuer_at f.issuer_len
  pub letters-part : Lettered (place_in tree (0 ∷ 3 ∷ [])) f.first f.second
  pub start-part : Timed (place_in tree (0 ∷ 4 ∷ 0 ∷ [])) f.start
  pub end-part : Timed (place_in tree (0 ∷ 4 ∷ 1 ∷ [])) f.end
  pub subject-part : Whole (place_in tree (0 ∷ 5 ∷ [])) f.subject_at f.subject_len
  pub key-part : Whole (place_in tree (0 ∷ 6 ∷ [])) f.key_at f.key_len
  pub subject-key-part :
      KeyPart tree subject_key_identifier octet_string [] f.subject_key_at f.subject_key_len
  pub authority-key-part :
      KeyPart tree authority_key_identifier first_member (0 ∷ []) f.authority_key_at f.authority_key_len

-- the number of trees
unfoldable pub many : Trees → ℕ
many none = 0
many (more tree trees) = suc (many trees)

-- A0 around one SEQUENCE of extensions, the tbs's last member
abbrev pub closing : Trees → Trees
closing extensions = more (node 0xA0 (more (node 0x30 extensions) none)) none

-- The entries of a CRL whose tbs has the members `rest` after the fifth: if a SEQUENCE of entries is there, their number, where
-- they start, and where they end; else 0 each.
pub data Entered (tree : Tree) (rest : Trees) (count from end : ℕ) : Type 0 where
  listing :
      (entries extensions : Trees) (size : ℕ) → rest ≡ more (node 0x30 entries) (closing extensions) → count ≡ many entries
      → Contents (place_in tree (0 ∷ 5 ∷ [])) from size → end ≡ from + size → Entered tree rest count from end
  listless : (extensions : Trees) → rest ≡ closing extensions → count ≡ 0 → from ≡ 0 → end ≡ 0 → Entered tree rest count from end

-- The item is a CRL's tree. Issuer is the tbs's third member, the two times are its fourth and fifth.
pub record Crl (item : List ℕ) (f : crl.Fields) : Type 0 where
  pub version : Tree
  pub inner : Tree
  pub issuer : Tree
  pub current : Tree
  pub coming : Tree
  pub rest : Trees
  pub algorithm : Tree
  pub signature : Tree
  pub members : Trees
  pub tbs : members ≡ more version (more inner (more issuer (more current (more coming rest))))
  pub tree : Tree
  pub shape : tree ≡ signed members algorithm signature
  pub octets : encoded tree ≡ item
  pub sound : Sound paper tree
  pub issuer-part : Whole (place_in tree (0 ∷ 2 ∷ [])) f.issuer_at f.issuer_len
  pub letters-part : Lettered (place_in tree (0 ∷ 2 ∷ [])) f.first f.second
  pub this-part : Timed (place_in tree (0 ∷ 3 ∷ [])) f.this_update
  pub next-part : Timed (place_in tree (0 ∷ 4 ∷ [])) f.next_update
  pub entries-part : Entered tree rest f.entries f.entries_from f.entries_end
