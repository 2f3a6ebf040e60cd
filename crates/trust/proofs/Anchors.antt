-- One anchor enabled that vouches for no CRL: what counts is the same, so the same places are usable; and a usable anchor stays one.
use Prim.Native.Nat.{ℕ}
use mathlib.Core.Path.{◌≡◌, sym, ap, ◌∙◌}
use mathlib.Core.Bool.{true, false, ◌&&◌}
use Rattle.image.specs.Items.{Item}
use Rattle.usable.specs.Items.{item_at, certificate_at}
use Rattle.usable.specs.Usable.{valid, same_country, usable_anchor, counts, covers, speaks_of, usable}
use Rattle.usable.specs.Steps.{has_kind, good_step}
use Rattle.usable.proofs.Booleans.{false-true, and-false}
use Rattle.chain.specs.Good.{chains}
use Rattle.trust.specs.Trust.{Question, Place, chains_of, OneAnchor}
use Rattle.trust.proofs.Cases.{by_place, and-more}
use Rattle.trust.proofs.Carried.{Within}
use Rattle.trust.proofs.Places.{Alike, valid_same, kind-same, country-same, lists-same, fits-same}
use Rattle.trust.proofs.Standing.{vouches, counts_same, usable-kept}

module _ {q r : Question} (o : OneAnchor q r) where
  alike : (p : ℕ) → Alike q.items r.items p
  alike p =
      by_place p o.place
      (λ (s : p ≡ o.place). rw s (record { kind = o.anchor ∙ sym o.kind; bytes = sym o.bytes }))
      (λ s. record { kind = ap (λ (i : Item). i.kind) (o.others p s); bytes = ap (λ (i : Item). i.bytes) (o.others p s) })

  module _ (moment : ℕ) where
    anchor-same : (p : ℕ) → (p ≡ o.place → ⊥) → usable_anchor q.items moment p ≡ usable_anchor r.items moment p
    unfolding usable_anchor valid certificate_at
    anchor-same p s = rw (o.others p s)

    -- it was not usable
    anchor-shut : usable_anchor q.items moment o.place ≡ false
    unfolding usable_anchor
    anchor-shut = rw (o.disabled, o.anchor)

    anchor-kept : (p : ℕ) → usable_anchor q.items moment p ≡ true → usable_anchor r.items moment p ≡ true
    anchor-kept p e =
        by_place p o.place
        (λ (s : p ≡ o.place). false-true (sym anchor-shut ∙ (rw s at e)))
        (λ s. sym (anchor-same p s) ∙ e)

    -- the same anchors vouch
    vouching :
        (crl : ℕ) → Place q crl → (item_at q.items crl).kind ≡ 4 → (a : ℕ) → Place q a
        → vouches q.items q.verdict moment crl a ≡ vouches r.items r.verdict moment crl a
    vouching crl l four a h =
        by_place a o.place
        (λ (s : a ≡ o.place).
        let silent : r.verdict o.place crl ≡ false = sym (o.verdicts o.place crl (rw s at h) l) ∙ o.silent crl four in
        rw (s, anchor-shut, silent, and-false (same_country r.items o.place crl)) (sym (and-false (usable_anchor r.items moment o.place))))
        (λ s. rw (anchor-same a s, country-same (alike a) (alike crl), o.verdicts a crl h l))

    counting : (crl : ℕ) → Place q crl → counts q.items q.verdict moment crl ≡ counts r.items r.verdict moment crl
    counting crl l = counts_same q.items r.items q.verdict r.verdict moment o.many crl (alike crl) (vouching crl l)

    still-usable : (p : ℕ) → usable q.items q.verdict moment p ≡ true → usable r.items r.verdict moment p ≡ true
    unfolding speaks_of covers
    still-usable p =
        usable-kept q.items r.items q.verdict r.verdict moment o.many p (valid_same moment (alike p))
        (λ c h. rw (counting c h, country-same (alike p) (alike c)))
        (λ c e. lists-same (alike c) (alike p) ∙ e)

    step_same : (u v : ℕ) → Place q u → Place q v → good_step q.items q.verdict u v ≡ good_step r.items r.verdict u v
    unfolding good_step
    step_same u v h l =
        let a = alike u in
        let b = alike v in
        rw (kind-same 1 a, kind-same 2 a, kind-same 2 b, kind-same 3 b, o.verdicts u v h l, fits-same a b)

    role_kept :
        (kind p : ℕ) → (has_kind q.items kind p && usable q.items q.verdict moment p) ≡ true
        → (has_kind r.items kind p && usable r.items r.verdict moment p) ≡ true
    role_kept kind p = and-more (has_kind q.items kind p) _ _ _ (λ e. sym (kind-same kind (alike p)) ∙ e) (still-usable p)

    anchor-chains : Within (chains q.items q.verdict moment) (chains r.items r.verdict moment)
    unfolding chains
    anchor-chains =
        record {
          places = o.many;
          anchor = λ u h. anchor-kept u;
          link = λ p h. role_kept 2 p;
          signer = λ p h. role_kept 3 p;
          step = λ u v h l e. sym (step_same u v h l) ∙ e;
        }

  pub anchor-within : Within (chains_of q) (chains_of r)
  anchor-within = rw (← o.moment) (anchor-chains q.moment)
