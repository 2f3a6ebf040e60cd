-- Which places a round opens: 1 for these, 2 for a link that is not among them, else 0. No public promise cites this.
use Rattle.std.specs.Prelude.{ℕ, ◌<◌, ◌≡◌, Bool, true, false, cond, List, ◌⊎◌, eqb, get_or}
use Rattle.usable.specs.Rows.{led_of}
use Rattle.usable.specs.Table.{verdict_in}

-- near now and not before
unfoldable pub fresh_of : ℕ → ℕ → Bool
fresh_of before near = cond (eqb near 1) (cond (eqb before 1) false true) false

-- at first the target, the anchors and the CRLs
unfoldable pub first_of : ℕ → ℕ → ℕ → ℕ
first_of target place kind = cond (eqb place target) 1 (cond (eqb kind 2) 2 (cond (eqb kind 3) 0 1))

-- of a proposal at first the CRLs; 2 for an anchor, which waits for a verdict
unfoldable pub waiting_of : ℕ → ℕ
waiting_of kind = cond (eqb kind 4) 1 (cond (eqb kind 1) 2 0)

-- a link is near, and any other mark stays
unfoldable pub marked_of : ℕ → ℕ
marked_of mark = cond (eqb mark 2) 1 mark

-- some slots are 1 now, among them each link that has verdict 1 for a usable link or signer
pub record Near (n : ℕ) (table roles before near : List ℕ) : Type 0 where
  pub kept : (p : ℕ) → p < n → (get_or near p 0 ≡ 1) ⊎ (get_or near p 0 ≡ get_or before p 0)
  pub signers :
      (u v : ℕ) → u < n → v < n → led_of (get_or roles v 0) ≡ true → verdict_in n table u v ≡ true → get_or before u 0 ≡ 2
      → get_or near u 0 ≡ 1

-- in the last round each link
pub record Wider (n : ℕ) (table : List ℕ) (round : ℕ) (roles before near : List ℕ) : Type 0 where
  pub layer : Near n table roles before near
  pub links : round ≡ 4 → (u : ℕ) → u < n → get_or before u 0 ≡ 2 → get_or near u 0 ≡ 1
