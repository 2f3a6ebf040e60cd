-- A stretch of an item that encodes some trees: the element found at its start is the first of them, what follows encodes
-- the others, and its contents encode its members.
use Rattle.std.specs.Prelude.{Option, Some, None}
use Prim.Native.Nat.{ℕ, ◌+◌}
use mathlib.Core.Path.{◌≡◌, refl, sym, ap, subst, ◌∙◌}
use mathlib.Core.List.{List, ◌++◌}
use native.Mathlib.Omega.{arith}
use lib.Dec.{lit≤}
use lib.ListN.{length, length-append}
use Rattle.der.specs.Forms.{paper}
use Rattle.tree.specs.Tree.{Tree, node, Trees, none, more, encoded, encoded_all, tag_of, contents_of, header_of, Sound, sound-node, SoundAll, sound_more}
use Rattle.tree.proofs.Theorems.{step-none, step-more, step-next, step-inside, step-contents}
use Rattle.tree.proofs.Members.{length_more}
use Rattle.tree.proofs.Parts.{length-parts}
use Rattle.elements.specs.declared.elements.Element.{Element}
use Rattle.elements.specs.Elements.{stepped, found_at}
use Rattle.elements.specs.Elements as elements
use Rattle.parts.specs.Places.{element_of}

pub record Spans (s : List ℕ) (from end : ℕ) (trees : Trees) : Type 0 where
  pub before : List ℕ
  pub behind : List ℕ
  pub whole : before ++ encoded_all trees ++ behind ≡ s
  pub start : length before ≡ from
  pub stop : length before + length (encoded_all trees) ≡ end
  pub sound : SoundAll paper trees

-- the element found at the start of a stretch is this tree
pub record Member (s : List ℕ) (from end : ℕ) (e : Element) (tree : Tree) (trees : Trees) : Type 0 where
  pub placed : e ≡ element_of from tree
  pub tag : e.tag ≡ tag_of tree
  pub contents : elements.contents_of s e ≡ contents_of tree
  pub sound : Sound paper tree
  pub next : Spans s e.end end trees
  pub inside : (tag : ℕ) (members : Trees) → tree ≡ node tag members → Spans s e.contents e.end members

pub members-sound : (tag : ℕ) (members : Trees) → Sound paper (node tag members) → SoundAll paper members
members-sound tag members (sound-node small good built fits order all) = all

module _ (before behind : List ℕ) (tree : Tree) (trees : Trees) (sound : Sound paper tree) (rest : SoundAll paper trees) where
  item : List ℕ
  item = before ++ encoded_all (more tree trees) ++ behind

  stop-at : ℕ
  stop-at = length before + length (encoded_all (more tree trees))

  first : Element
  first = element_of (length before) tree

  first_found : found_at paper item (length before) stop-at ≡ Some first
  unfolding item stop-at first element_of found_at stepped
  first_found = rw (step-more paper (lit≤ tt) before behind tree trees sound)

  first-member : Member item (length before) stop-at first tree trees
  unfolding item stop-at first element_of elements.contents_of contents_of
  first-member =
      record {
        placed = refl;
        tag = refl;
        contents = step-contents before behind tree trees;
        sound = sound;
        next = next-span;
        inside = inside-span;
      }
    where
      next-span : Spans (before ++ encoded_all (more tree trees) ++ behind) (length before + length (encoded tree)) (length before + length (encoded_all (more tree trees))) trees
      next-span =
          record {
            before = before ++ encoded tree;
            behind = behind;
            whole = sym (step-next before behind tree trees);
            start = length-append before (encoded tree);
            stop = omega (arith, length-append before (encoded tree), length_more tree trees);
            sound = rest;
          }

      inside-span : (tag : ℕ) (members : Trees) → tree ≡ node tag members → Spans (before ++ encoded_all (more tree trees) ++ behind) (length before + length (header_of tree)) (length before + length (encoded tree)) members
      inside-span tag members e =
          let c : contents_of tree ≡ encoded_all members = ap contents_of e in
          let n : length (contents_of tree) ≡ length (encoded_all members) = ap length c in
          record {
            before = before ++ header_of tree;
            behind = encoded_all trees ++ behind;
            whole = rw (← c) (sym (step-inside before behind tree trees));
            start = length-append before (header_of tree);
            stop = omega (arith, length-append before (header_of tree), length-parts tree);
            sound = members-sound tag members (subst (Sound paper) e sound);
          }

-- the first tree of a stretch is found at its start
pub found_first :
    (s : List ℕ) (from end : ℕ) (tree : Tree) (trees : Trees) → Spans s from end (more tree trees)
    → (e : Element) × (found_at paper s from end ≡ Some e) × Member s from end e tree trees
unfolding item stop-at
found_first s from end tree trees sp = go sp.sound
  where
    go : SoundAll paper (more tree trees) → (e : Element) × (found_at paper s from end ≡ Some e) × Member s from end e tree trees
    go (sound_more sound others) =
        let b = sp.before in
        let h = sp.behind in
        subst (λ (t : List ℕ). (e : Element) × (found_at paper t from end ≡ Some e) × Member t from end e tree trees) sp.whole
        (subst (λ (a : ℕ). (e : Element) × (found_at paper (item b h tree trees sound others) a end ≡ Some e) × Member (item b h tree trees sound others) a end e tree trees) sp.start
        (subst (λ (d : ℕ). (e : Element) × (found_at paper (item b h tree trees sound others) (length b) d ≡ Some e) × Member (item b h tree trees sound others) (length b) d e tree trees) sp.stop
        (first b h tree trees sound others, first_found b h tree trees sound others, first-member b h tree trees sound others)))

-- in a stretch without trees nothing is found
pub found_none : (s : List ℕ) (from end : ℕ) → Spans s from end none → found_at paper s from end ≡ None
unfolding found_at stepped encoded_all
found_none s from end sp =
    subst (λ (t : List ℕ). found_at paper t from end ≡ None) sp.whole
    (subst (λ (b : ℕ). found_at paper (sp.before ++ encoded_all none ++ sp.behind) b end ≡ None) sp.start
    (subst (λ (b : ℕ). found_at paper (sp.before ++ encoded_all none ++ sp.behind) (length sp.before) b ≡ None) sp.stop
    (ap (stepped (length sp.before)) (step-none paper sp.before sp.behind))))

-- an element that is found in a stretch is the first of its trees
pub first-of :
    (s : List ℕ) (from end : ℕ) (trees : Trees) (e : Element) → Spans s from end trees → found_at paper s from end ≡ Some e
    → (tree : Tree) × (rest : Trees) × (trees ≡ more tree rest) × Member s from end e tree rest
first-of s from end none e sp f = absurd (never (sym (found_none s from end sp) ∙ f))
  where
    never : ◌≡◌ {A = (Option Element)} None (Some e) → ⊥
    never p = let z : ◌≡◌ {A = ℕ} 0 1 = cc in omega arith
first-of s from end (more tree rest) e sp f =
    let x = found_first s from end tree rest sp in
    (tree, rest, refl, subst (λ (y : Element). Member s from end y tree rest) (one x.0 (sym x.1 ∙ f)) x.2)
  where
    one : (y : Element) → ◌≡◌ {A = (Option Element)} (Some y) (Some e) → y ≡ e
    one y p = cc
