-- What is known of an image that was read.
use Prim.Native.Nat.{ℕ, ◌<◌}
use mathlib.Core.Path.{◌≡◌, ap, ◌∙◌}
use mathlib.Core.List.{List}
use lib.ListN.{get_or}
use Rattle.image.specs.Index.{entry_count, version_in, day_in, entry_of, entry_in}
use Rattle.image.specs.Answer.{opened_within}
use Rattle.image.specs.Reading.{Read}
use Rattle.image.proofs.Payloads.{an_image}
use Rattle.image.proofs.Few.{opened-image, opened-told}

pub reads :
    (least most : ℕ) (s : List ℕ) {n day version : ℕ} → opened_within least most s ≡ an_image n day version
    → ((i : ℕ) → get_or s i 0 < 256) → Read s n day version
reads least most s e octets =
    let i = opened-image least most s _ _ _ e in
    let t = opened-told least most s _ _ _ e in
    record { count = i.0; few = i.1; dated = t.1; form = i.2; small = t.3; octets = octets }

-- and what opening it tells
pub trailer_told :
    (least most : ℕ) (s : List ℕ) {n day version : ℕ} → opened_within least most s ≡ an_image n day version
    → opened_within least most s ≡ an_image (entry_count s) (day_in s) (version_in s)
trailer_told least most s e =
    let i = opened-told least most s _ _ _ e in
    e ∙ rw (i.0, i.1, i.2)

-- the entry of a place
pub entry_told : (s t : List ℕ) {n day version : ℕ} → t ≡ s → Read t n day version → (place : ℕ) → entry_of version t place ≡ entry_in s place
unfolding entry_in
entry_told s t same r place = ap (λ (k : ℕ). entry_of k t place) r.form ∙ ap (λ (l : List ℕ). entry_in l place) same
