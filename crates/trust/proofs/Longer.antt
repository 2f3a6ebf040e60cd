-- One counting CRL lists more: the same CRLs count and cover, and what is listed was listed before or is listed now; so a chain that
-- is good afterwards was good before.
use Rattle.std.specs.Prelude.{Result, Ok, Err}
use Prim.Native.Nat.{ℕ}
use mathlib.Core.Path.{◌≡◌, refl, sym, ap, ◌∙◌}
use mathlib.Core.Bool.{Bool, true, false, ◌&&◌, ◌||◌}
use mathlib.Core.List.{List}
use borrow.Author.Tests.{eqb-true}
use lib.Dec.{eqb}
use Rattle.certificate.specs.declared.Fields.{Fields}
use Rattle.refusal.specs.declared.Refusal.{Refusal}
use Rattle.image.specs.Items.{Item}
use Rattle.usable.specs.Items.{item_at, on_certificate, certificate_at, on_list, list_at, part_of}
use Rattle.usable.specs.Usable.{valid, same_country, usable_anchor, counts, covers, lists, speaks_of, usable}
use Rattle.usable.specs.Steps.{has_kind, good_step}
use Rattle.usable.proofs.Booleans.{false-true, first, second}
use Rattle.chain.specs.Good.{chains}
use Rattle.trust.specs.Trust.{Question, Place, chains_of}
use Rattle.trust.specs.Lists.{Counting, MoreListed}
use Rattle.trust.proofs.Cases.{by_place, and-more}
use Rattle.trust.proofs.Carried.{Within}
use Rattle.trust.proofs.Places.{Alike, valid_same, kind-same, country-same, lists-same, fits-same}
use Rattle.trust.proofs.Standing.{vouches, counts_same, usable-kept}

-- a certificate that meets one test meets another
certificate-more :
    (j : Result Fields Refusal) (a b : Fields → Bool) → ((f : Fields) → a f ≡ true → b f ≡ true) → on_certificate j a ≡ true → on_certificate j b ≡ true
unfolding on_certificate
certificate-more (Err refusal) a b more e = e
certificate-more (Ok fields) a b more e = more fields e

-- what counts is a CRL
is-list : (q : Question) (crl : ℕ) → Counting q crl → (item_at q.items crl).kind ≡ 4
unfolding counts
is-list q crl c = eqb-true _ _ (first (eqb (item_at q.items crl).kind 4) _ c.counting)

-- a place of another kind is another place
module _ (items : List Item) (crl : ℕ) (four : (item_at items crl).kind ≡ 4) where
  not-list : (kind p : ℕ) → eqb 4 kind ≡ false → has_kind items kind p ≡ true → p ≡ crl → ⊥
  unfolding has_kind
  not-list kind p other e same = false-true (sym other ∙ (rw (same, four) at e))

  not-either :
      (kind other p : ℕ) → eqb 4 kind ≡ false → eqb 4 other ≡ false → (has_kind items kind p || has_kind items other p) ≡ true
      → p ≡ crl → ⊥
  unfolding has_kind
  not-either kind other p a b e same = false-true (rw (same, four, a, b) at e)

module _ {q r : Question} (o : MoreListed q r) where
  alike : (p : ℕ) → (p ≡ o.crl → ⊥) → Alike r.items q.items p
  alike p s = record { kind = ap (λ (i : Item). i.kind) (sym (o.others p s)); bytes = ap (λ (i : Item). i.bytes) (sym (o.others p s)) }

  -- a place of one list is one of the other
  back : (p : ℕ) → Place r p → Place q p
  back p h = rw o.many h

  four-before : (item_at q.items o.crl).kind ≡ 4
  four-before = is-list q o.crl o.before

  four-after : (item_at r.items o.crl).kind ≡ 4
  four-after = is-list r o.crl o.after

  -- of another place, the CRL has the same country and lists no less
  crl-country : (p : ℕ) → (p ≡ o.crl → ⊥) → same_country r.items p o.crl ≡ same_country q.items p o.crl
  unfolding same_country certificate_at list_at on_list
  crl-country p s = simp ((alike p s).kind, (alike p s).bytes, o.before.passes, o.after.passes, o.first, o.second)

  crl-lists : (p : ℕ) → (p ≡ o.crl → ⊥) → lists q.items o.crl p ≡ true → lists r.items o.crl p ≡ true
  unfolding lists certificate_at list_at on_list part_of
  crl-lists p s e =
      simp ((alike p s).kind, (alike p s).bytes, o.after.passes)
      (certificate-more _ _ _ (λ f. o.listed _) (rw o.before.passes at e))

  country : (p c : ℕ) → (p ≡ o.crl → ⊥) → same_country r.items p c ≡ same_country q.items p c
  country p c s = by_place c o.crl (λ (t : c ≡ o.crl). rw t (crl-country p s)) (λ t. country-same (alike p s) (alike c t))

  listing : (p c : ℕ) → (p ≡ o.crl → ⊥) → lists q.items c p ≡ true → lists r.items c p ≡ true
  listing p c s e =
      by_place c o.crl (λ (t : c ≡ o.crl). rw t (crl-lists p s (rw t at e))) (λ t. lists-same (alike c t) (alike p s) ∙ e)

  abbrev now : ℕ
  now = q.moment

  -- the CRL itself is no anchor, before or after
  shut-before : usable_anchor q.items now o.crl ≡ false
  unfolding usable_anchor
  shut-before = rw four-before

  shut-after : usable_anchor r.items now o.crl ≡ false
  unfolding usable_anchor
  shut-after = rw four-after

  anchor-other : (p : ℕ) → (p ≡ o.crl → ⊥) → usable_anchor r.items now p ≡ usable_anchor q.items now p
  unfolding usable_anchor valid certificate_at
  anchor-other p s = rw (o.others p s)

  anchor-same : (p : ℕ) → usable_anchor r.items now p ≡ usable_anchor q.items now p
  anchor-same p = by_place p o.crl (λ (s : p ≡ o.crl). rw (s, shut-before, shut-after)) (anchor-other p)

  vouching : (c a : ℕ) → Place q c → Place q a → vouches r.items r.verdict now c a ≡ vouches q.items q.verdict now c a
  vouching c a h l =
      by_place a o.crl (λ (s : a ≡ o.crl). rw (s, shut-before, shut-after))
      (λ s. rw (anchor-same a, country a c s, o.verdicts a c l h))

  -- the same CRLs count: this one in both, the others by the same anchors
  counting : (c : ℕ) → Place q c → counts r.items r.verdict now c ≡ counts q.items q.verdict now c
  counting c h =
      by_place c o.crl
      (λ (s : c ≡ o.crl). rw s ((rw (← o.moment) at o.after.counting) ∙ sym o.before.counting))
      (λ s. counts_same r.items q.items r.verdict q.verdict now (sym o.many) c (alike c s) (λ four a l. vouching c a h (back a l)))

  was-usable : (p : ℕ) → (p ≡ o.crl → ⊥) → usable r.items r.verdict now p ≡ true → usable q.items q.verdict now p ≡ true
  unfolding speaks_of covers
  was-usable p s =
      usable-kept r.items q.items r.verdict q.verdict now (sym o.many) p (valid_same now (alike p s))
      (λ c h. rw (counting c (back c h), country p c s))
      (λ c. listing p c s)

  was-role :
      (kind p : ℕ) → eqb 4 kind ≡ false → (has_kind r.items kind p && usable r.items r.verdict now p) ≡ true
      → (has_kind q.items kind p && usable q.items q.verdict now p) ≡ true
  was-role kind p other e =
      let s = not-list r.items o.crl four-after kind p other (first (has_kind r.items kind p) _ e) in
      and-more (has_kind r.items kind p) _ _ _ (λ k. sym (kind-same kind (alike p s)) ∙ k) (was-usable p s) e

  step_same :
      (u v : ℕ) → Place q u → Place q v → (u ≡ o.crl → ⊥) → (v ≡ o.crl → ⊥)
      → good_step r.items r.verdict u v ≡ good_step q.items q.verdict u v
  unfolding good_step
  step_same u v h l s t =
      let a = alike u s in
      let b = alike v t in
      rw (kind-same 1 a, kind-same 2 a, kind-same 2 b, kind-same 3 b, o.verdicts u v h l, fits-same a b)

  was-step : (u v : ℕ) → Place q u → Place q v → good_step r.items r.verdict u v ≡ true → good_step q.items q.verdict u v ≡ true
  unfolding good_step
  was-step u v h l e =
      let from : Bool = has_kind r.items 1 u || has_kind r.items 2 u in
      let to : Bool = has_kind r.items 2 v || has_kind r.items 3 v in
      let s = not-either r.items o.crl four-after 1 2 u refl refl (first from _ e) in
      let t = not-either r.items o.crl four-after 2 3 v refl refl (first to _ (second from _ e)) in
      sym (step_same u v h l s t) ∙ e

  longer-chains : Within (chains r.items r.verdict now) (chains q.items q.verdict now)
  unfolding chains
  longer-chains =
      record {
        places = sym o.many;
        anchor = λ p h e. sym (anchor-same p) ∙ e;
        link = λ p h. was-role 2 p refl;
        signer = λ p h. was-role 3 p refl;
        step = λ u v h l. was-step u v (back u h) (back v l);
      }

  pub longer-within : Within (chains_of r) (chains_of q)
  longer-within = rw (← o.moment) longer-chains
