-- What the walk passes is a sound tree: each header read is one that `tagged` writes, over members found before.
use Rattle.std.specs.Prelude.{Result, Ok, Err}
use mathlib.Core.Path.{◌≡◌, refl, sym, subst, ◌∙◌, ap}
use mathlib.Core.Bool.{Bool, true, false}
use mathlib.Core.List.{List, [], ◌∷◌, ◌++◌}
use Prim.Native.Nat.{ℕ, zero, suc, ◌+◌, ◌≤◌}
use native.Mathlib.Omega.{arith}
use lib.ListN.{length, take, drop}
use lib.Seq.{take_at}
use Rattle.der.specs.declared.walking.Read.{Read}
use Rattle.refusal.specs.declared.Refusal.{Refusal}
use Rattle.der.specs.Forms.{Forms}
use Rattle.octets.specs.Octets.{Octets}
use Rattle.der.specs.Order.{smaller, is_set, handed}
use Rattle.der.specs.Walk.{element_at, list_at}
use Rattle.tree.specs.Tree.{Tree, leaf, node, Trees, none, more, tagged, encoded, encoded_all}
use Rattle.tree.specs.Tree.{size, size_all, depth, depth_all, Sound, sound-leaf, sound-node, SoundAll, sound_none, sound_more}
use Rattle.tree.proofs.Rising.{rises, rises-none, rises-more, ordered-rises}
use Rattle.tree.proofs.Numbers.{octets-take, octets-drop}
use Rattle.tree.proofs.Written.{Taken, heading-taken}
use Rattle.tree.proofs.Answers.{element-by, list-by}

-- the tree of an element that takes `used` octets of s, after the octets `prior`
pub record Found (forms : Forms) (prior s : List ℕ) (d n used m : ℕ) : Type 0 where
  pub tree : Tree
  pub bytes : encoded tree ++ drop used s ≡ s
  pub takes : length (encoded tree) ≡ used
  pub sound : Sound forms tree
  pub risen : smaller (encoded tree) prior ≡ false
  pub count : n + size tree ≡ m
  pub shallow : d + depth tree ≤ forms.depth + 1

pub record FoundAll (forms : Forms) (set : Bool) (prior s : List ℕ) (d n m : ℕ) : Type 0 where
  pub trees : Trees
  pub bytes : encoded_all trees ≡ s
  pub sound : SoundAll forms trees
  pub ascend : rises set prior trees ≡ true
  pub count : n + size_all trees ≡ m
  pub shallow : d + depth_all trees ≤ forms.depth + 1

abbrev pub ReadFound : Forms → List ℕ → List ℕ → ℕ → ℕ → Result Read Refusal → Type 0
ReadFound forms prior s d n (Ok r) = Found forms prior s d n r.used r.count
ReadFound forms prior s d n (Err refusal) = Unit {0}

abbrev pub WalkedFound : Forms → Bool → List ℕ → List ℕ → ℕ → ℕ → Result ℕ Refusal → Type 0
WalkedFound forms set prior s d n (Ok m) = FoundAll forms set prior s d n m
WalkedFound forms set prior s d n (Err refusal) = Unit {0}

length_none : (s : List ℕ) → length s ≡ 0 → [] ≡ s
length_none [] e = refl
length_none (o ∷ s) e = absurd (omega arith)

taken : (front s : List ℕ) (n : ℕ) → front ++ drop n s ≡ s → length front ≡ n → take n s ≡ front
taken front s n e long = ap (take n) (sym e) ∙ take_at front (drop n s) n long

risen-at : {forms : Forms} (prior : List ℕ) {s : List ℕ} {tag skip size : ℕ} → Taken forms s tag skip size → smaller (take (skip + size) s) prior ≡ false
    → smaller (tagged tag (take size (drop skip s))) prior ≡ false
risen-at prior {s = s} {skip = skip} {size = size} t e =
    subst (λ (l : List ℕ). smaller l prior ≡ false) (taken _ s (skip + size) t.octets t.takes) e

module _ (forms : Forms) (limit : forms.length_octets ≤ 3) where
  mutual
    unfolding element_at list_at encoded encoded_all size size_all depth depth_all

    pub element-found : (fuel : ℕ) (prior s : List ℕ) (base d n : ℕ) → Octets s → ReadFound forms prior s d n (element_at fuel forms prior s base d n)
    element-found zero prior s base d n o = tt
    element-found (suc fuel) prior s base d n o =
        element-by forms fuel prior s base d n (ReadFound forms prior s d n) (λ refusal. tt)
        (λ tag skip size m op built inner.
        let t : Taken forms s tag skip size = heading-taken forms limit tag skip size s o op.header in
        let c : List ℕ = take size (drop skip s) in
        let f : FoundAll forms (is_set tag) [] c (d + 1) (n + 1) m =
        subst (WalkedFound forms (is_set tag) [] c (d + 1) (n + 1)) inner
        (list-found fuel (is_set tag) [] c (base + skip) (d + 1) (n + 1) (octets-take size (octets-drop skip o)) (omega (arith, op.shallow))) in
        record {
          tree = node tag f.trees;
          bytes = rw f.bytes t.octets;
          takes = rw f.bytes t.takes;
          sound = sound-node t.tag_fits t.good (rw t.leads built) (rw f.bytes t.below) (ordered-rises tag f.trees ∙ f.ascend) f.sound;
          risen = rw f.bytes (risen-at prior t op.risen);
          count = omega (arith, f.count);
          shallow = omega (arith, f.shallow);
        })
        λ tag skip size op primitive good.
        let t : Taken forms s tag skip size = heading-taken forms limit tag skip size s o op.header in
        record {
          tree = leaf tag (take size (drop skip s));
          bytes = t.octets;
          takes = t.takes;
          sound = sound-leaf t.tag_fits t.good (rw t.leads primitive) (octets-take size (octets-drop skip o)) t.below good;
          risen = risen-at prior t op.risen;
          count = refl;
          shallow = omega (arith, op.shallow);
        }

    pub list-found : (fuel : ℕ) (set : Bool) (prior s : List ℕ) (base d n : ℕ) → Octets s → d ≤ forms.depth + 1
        → WalkedFound forms set prior s d n (list_at fuel forms set prior s base d n)
    list-found zero set prior s base d n o deep = tt
    list-found (suc fuel) set prior s base d n o deep =
        list-by forms fuel prior s base d n set (WalkedFound forms set prior s d n) (λ refusal. tt)
        (λ done. record {
          trees = none;
          bytes = length_none s done;
          sound = sound_none;
          ascend = rises-none set prior;
          count = omega arith;
          shallow = omega arith;
        })
        λ used k m first rest.
        let f : Found forms prior s d n used k = subst (ReadFound forms prior s d n) first (element-found fuel prior s base d n o) in
        let member : List ℕ = handed set (take used s) in
        let g : FoundAll forms set member (drop used s) d k m =
        subst (WalkedFound forms set member (drop used s) d k) rest (list-found fuel set member (drop used s) (base + used) d k (octets-drop used o) deep) in
        let same : take used s ≡ encoded f.tree = taken _ s used f.bytes f.takes in
        record {
          trees = more f.tree g.trees;
          bytes = rw g.bytes f.bytes;
          sound = sound_more f.sound g.sound;
          ascend = rises-more set prior f.tree g.trees f.risen (subst (λ (l : List ℕ). rises set (handed set l) g.trees ≡ true) same g.ascend);
          count = omega (arith, f.count, g.count);
          shallow = omega (arith, f.shallow, g.shallow);
        }
