-- The octets tell the identifier and the contents, and the contents tell the members: two trees with one encoding are one, whatever the
-- order of a SET's members.
use mathlib.Core.Path.{◌≡◌, refl, sym, ◌∙◌, ap, ap₂}
use mathlib.Core.Bool.{true, false, true≢false}
use mathlib.Core.List.{List, ◌++◌}
use Prim.Native.Nat.{ℕ, ◌≤◌, ◌<◌}
use native.Mathlib.Omega.{arith}
use lib.ListN.{length, take, drop, length-append}
use lib.Seq.{drop-append_seam}
use Rattle.der.specs.Forms.{Forms}
use Rattle.der.specs.Heading.{heading_of, constructed}
use Rattle.der.proofs.Payloads.{tag_in, size_in}
use Rattle.tree.specs.Tree.{Tree, leaf, node, Trees, none, more, leading, tagged, encoded, encoded_all, tag_good, Sound, sound-leaf, sound-node, SoundAll, sound_more}
use Rattle.tree.proofs.Headings.{told, skipped, heading-of, tagged-contents}
use Rattle.tree.proofs.Reading.{encoded-some}

-- sound but for the order
mutual
  pub data Formed (forms : Forms) : Tree → Type 0 where
    formed-leaf :
        {tag : ℕ} {c : List ℕ} → tag_good forms tag ≡ true → constructed (leading tag) ≡ false → length c < told forms → Formed forms (leaf tag c)
    formed-node :
        {tag : ℕ} {members : Trees} → tag_good forms tag ≡ true → constructed (leading tag) ≡ true → length (encoded_all members) < told forms
        → FormedAll forms members → Formed forms (node tag members)

  pub data FormedAll (forms : Forms) : Trees → Type 0 where
    formed-none : FormedAll forms none
    formed-more : {tree : Tree} {trees : Trees} → Formed forms tree → FormedAll forms trees → FormedAll forms (more tree trees)

mutual
  pub formed : {forms : Forms} (x : Tree) → Sound forms x → Formed forms x
  formed (leaf tag c) (sound-leaf _ good primitive _ below _) = formed-leaf good primitive below
  formed (node tag members) (sound-node _ good built below _ sound) = formed-node good built below (formed-all members sound)

  formed-all : {forms : Forms} (xs : Trees) → SoundAll forms xs → FormedAll forms xs
  formed-all none sound = formed-none
  formed-all (more x xs) (sound_more sound rest) = formed-more (formed x sound) (formed-all xs rest)

module _ (forms : Forms) (limit : forms.length_octets ≤ 3) where
  tagged-one :
      (x y : ℕ) (c k r q : List ℕ) → tag_good forms x ≡ true → tag_good forms y ≡ true → length c < told forms → length k < told forms
      → tagged x c ++ r ≡ tagged y k ++ q → (x ≡ y) × (c ≡ k) × (r ≡ q)
  tagged-one x y c k r q gx gy bc bk e =
      let hc = heading-of forms limit x c r gx bc in
      let hk = heading-of forms limit y k q gy bk in
      let same : heading_of forms (tagged x c ++ r) ≡ heading_of forms (tagged y k ++ q) = ap (heading_of forms) e in
      let tags : x ≡ y = sym (ap tag_in hc) ∙ ap tag_in same ∙ ap tag_in hk in
      let sizes : length c ≡ length k = sym (ap size_in hc) ∙ ap size_in same ∙ ap size_in hk in
      let contents : c ≡ k =
      sym (tagged-contents x c r) ∙ ap (λ (s : List ℕ). take (length c) (drop (skipped x (length c)) s)) e
      ∙ rw (tags, sizes) (tagged-contents y k q) in
      let heads : tagged x c ≡ tagged y k = ap₂ tagged tags contents in
      (tags, contents, sym (drop-append_seam (tagged x c) r) ∙ ap₂ (λ (l s : List ℕ). drop (length l) s) heads e ∙ drop-append_seam (tagged y k) q)

  mutual
    unfolding encoded encoded_all

    pub formed-one :
        (a b : Tree) (r q : List ℕ) → Formed forms a → Formed forms b → encoded a ++ r ≡ encoded b ++ q → (a ≡ b) × (r ≡ q)
    formed-one (leaf x c) (leaf y k) r q (formed-leaf gx _ bc) (formed-leaf gy _ bk) e =
        let (tags, contents, rests) = tagged-one x y c k r q gx gy bc bk e in
        (ap₂ leaf tags contents, rests)
    formed-one (leaf x c) (node y ks) r q (formed-leaf gx px bc) (formed-node gy py bk _) e =
        let (tags, contents, rests) = tagged-one x y c (encoded_all ks) r q gx gy bc bk e in
        absurd (true≢false (sym py ∙ ap (λ (t : ℕ). constructed (leading t)) (sym tags) ∙ px))
    formed-one (node x cs) (leaf y k) r q (formed-node gx px bc _) (formed-leaf gy py bk) e =
        let (tags, contents, rests) = tagged-one x y (encoded_all cs) k r q gx gy bc bk e in
        absurd (true≢false (sym px ∙ ap (λ (t : ℕ). constructed (leading t)) tags ∙ py))
    formed-one (node x cs) (node y ks) r q (formed-node gx _ bc sc) (formed-node gy _ bk sk) e =
        let (tags, contents, rests) = tagged-one x y (encoded_all cs) (encoded_all ks) r q gx gy bc bk e in
        (ap₂ node tags (formed-all-one cs ks sc sk contents), rests)

    formed-all-one : (xs ys : Trees) → FormedAll forms xs → FormedAll forms ys → encoded_all xs ≡ encoded_all ys → xs ≡ ys
    formed-all-one none none sx sy e = refl
    formed-all-one none (more y ys) sx sy e = absurd (omega (arith, ap length e, length-append (encoded y) (encoded_all ys), encoded-some y))
    formed-all-one (more x xs) none sx sy e = absurd (omega (arith, ap length e, length-append (encoded x) (encoded_all xs), encoded-some x))
    formed-all-one (more x xs) (more y ys) (formed-more sx sxs) (formed-more sy sys) e =
        let both : (x ≡ y) × (encoded_all xs ≡ encoded_all ys) = formed-one x y (encoded_all xs) (encoded_all ys) sx sy e in
        ap₂ more both.0 (formed-all-one xs ys sxs sys both.1)

  pub tree-one : (a b : Tree) (r q : List ℕ) → Sound forms a → Sound forms b → encoded a ++ r ≡ encoded b ++ q → (a ≡ b) × (r ≡ q)
  tree-one a b r q sa sb e = formed-one a b r q (formed a sa) (formed b sb) e
