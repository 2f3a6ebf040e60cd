-- One verdict for a link or a signer: what counts is the same, since no verdict for a CRL is another, so the same places are usable;
-- and a good step stays good.
use Prim.Native.Nat.{ℕ, ◌<◌}
use mathlib.Core.Path.{◌≡◌, refl, sym, ap, ◌∙◌}
use mathlib.Core.Bool.{Bool, true, ◌&&◌, ◌||◌}
use mathlib.Core.List.{List}
use mathlib.Core.Logic.{⊎_elim}
use native.Mathlib.Omega.{arith}
use lib.ListN.{length}
use Rattle.image.specs.Items.{Item}
use Rattle.usable.specs.Items.{item_at}
use Rattle.usable.specs.Usable.{same_country, usable_anchor, counts, covers, speaks_of, usable}
use Rattle.usable.specs.Steps.{has_kind, fits, good_step}
use Rattle.chain.specs.Good.{chains}
use Rattle.trust.specs.Trust.{Question, Place, chains_of, OneVerdict}
use Rattle.trust.proofs.Cases.{by_place, and-more}
use Rattle.trust.proofs.Carried.{Within}
use Rattle.trust.proofs.Standing.{counts_same, usable-kept}

-- a step stays good with a verdict that stays 1
pub step_kept :
    (items : List Item) (verdict ruling : ℕ → ℕ → Bool) (u v : ℕ) → (verdict u v ≡ true → ruling u v ≡ true)
    → good_step items verdict u v ≡ true → good_step items ruling u v ≡ true
unfolding good_step
step_kept items verdict ruling u v more =
    let from : Bool = has_kind items 1 u || has_kind items 2 u in
    let to : Bool = has_kind items 2 v || has_kind items 3 v in
    let fit : Bool = fits items u v in
    and-more from (to && (verdict u v && fit)) from (to && (ruling u v && fit)) (λ e. e)
    (and-more to (verdict u v && fit) to (ruling u v && fit) (λ e. e) (and-more (verdict u v) fit (ruling u v) fit more (λ e. e)))

-- all that is asked of one list of items, with two verdicts
module _ (items : List Item) (verdict ruling : ℕ → ℕ → Bool) (moment : ℕ)
    (same : (a crl : ℕ) → a < length items → crl < length items → (item_at items crl).kind ≡ 4 → verdict a crl ≡ ruling a crl) where
  counting : (crl : ℕ) → crl < length items → counts items verdict moment crl ≡ counts items ruling moment crl
  counting crl h =
      counts_same items items verdict ruling moment refl crl (record { kind = refl; bytes = refl }) λ four a l.
      ap (λ (b : Bool). usable_anchor items moment a && (same_country items a crl && b)) (same a crl l h four)

  pub still-usable : (p : ℕ) → usable items verdict moment p ≡ true → usable items ruling moment p ≡ true
  unfolding speaks_of
  still-usable p =
      usable-kept items items verdict ruling moment refl p refl
      (λ c h. ap (λ (b : Bool). b && covers items c p) (counting c h)) (λ c e. e)

  pub verdict-chains :
      ((u v : ℕ) → u < length items → v < length items → verdict u v ≡ true → ruling u v ≡ true)
      → Within (chains items verdict moment) (chains items ruling moment)
  unfolding chains
  verdict-chains more =
      record {
        places = refl;
        anchor = λ u h e. e;
        link = λ p h. and-more (has_kind items 2 p) _ (has_kind items 2 p) _ (λ e. e) (still-usable p);
        signer = λ p h. and-more (has_kind items 3 p) _ (has_kind items 3 p) _ (λ e. e) (still-usable p);
        step = λ u v h l. step_kept items verdict ruling u v (more u v h l);
      }

module _ {q r : Question} (o : OneVerdict q r) where
  -- a verdict that was 1 is 1
  more : (u v : ℕ) → Place q u → Place q v → q.verdict u v ≡ true → r.verdict u v ≡ true
  more u v h l e =
      by_place u o.from
      (λ (s : u ≡ o.from). by_place v o.to (λ (t : v ≡ o.to). rw (s, t) o.after) (λ t. sym (o.others u v h l (λ w. t w.1)) ∙ e))
      (λ s. sym (o.others u v h l (λ w. s w.0)) ∙ e)

  -- one for a CRL is what it was
  crls : (a crl : ℕ) → Place q a → Place q crl → (item_at q.items crl).kind ≡ 4 → q.verdict a crl ≡ r.verdict a crl
  crls a crl h l four =
      o.others a crl h l λ w.
      let to : (item_at q.items o.to).kind ≡ 4 = rw w.1 at four in
      ⊎_elim (λ two. omega (arith, to, two)) (λ three. omega (arith, to, three)) o.signed

  pub verdict-within : Within (chains_of q) (chains_of r)
  verdict-within =
      rw (← o.items, ← o.moment) (verdict-chains q.items q.verdict r.verdict q.moment crls more)
