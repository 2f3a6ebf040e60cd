-- A move changes letters only, so the good chains of an image before and after it are the same, for every table and moment.
use Rattle.std.specs.Prelude.{Ok}
use Prim.Native.Nat.{ℕ, zero, suc, ◌≤◌}
use mathlib.Core.Path.{◌≡◌, refl, sym, ◌∙◌, ap, ap₂}
use mathlib.Core.Bool.{Bool}
use mathlib.Core.List.{List, [], ◌∷◌}
use lib.ListN.{length}
use Rattle.octets.specs.Octets.{Octets}
use Rattle.image.specs.Items.{Item}
use Rattle.image.specs.Index.{entry_count, items_in}
use Rattle.image.proofs.Places.{length-items}
use Rattle.usable.specs.Items.{item_at}
use Rattle.usable.specs.Table.{verdict_in}
use Rattle.chain.specs.Good.{chains}
use Rattle.chain.specs.Answer.{good_chains}
use Rattle.moves.specs.Moving.{moved_item, moved_items, moved_bytes, moved_of}
use Rattle.moves.proofs.Moves.{moved-many}
use Rattle.moves.proofs.Theorems.{moved-readable}
use Rattle.moved.proofs.LettersApart.{Alike, chains-same}

-- at each place what a move keeps
moved_at :
    (version : ℕ) (items : List Item) (place : ℕ)
    → ((item_at (moved_items version items) place).kind ≡ (item_at items place).kind)
    × ((item_at (moved_items version items) place).flags ≡ (item_at items place).flags)
    × ((item_at (moved_items version items) place).bytes ≡ (item_at items place).bytes)
unfolding item_at moved_items moved_item
moved_at version [] place = (refl, refl, refl)
moved_at version (item ∷ rest) zero = (refl, refl, refl)
moved_at version (item ∷ rest) (suc place) = moved_at version rest place

-- Of items that a move changed the good chains are the same.
pub chains-moved :
    (version : ℕ) (items : List Item) (verdict : ℕ → ℕ → Bool) (moment : ℕ)
    → chains (moved_items version items) verdict moment ≡ chains items verdict moment
chains-moved version items verdict moment =
    let same : Alike (moved_items version items) items =
    record {
      many = moved-many version items;
      kinds = λ place. (moved_at version items place).0;
      flags = λ place. (moved_at version items place).1;
      octets = λ place. (moved_at version items place).2;
    } in
    chains-same same verdict moment

-- The good chains of an image before and after either move are the same, for every table and moment.
pub same-chains :
    (version : ℕ) → 1 ≤ version → version ≤ 2 → (s : List ℕ) → Octets s → (room size : ℕ) → moved_of version s room ≡ Ok size
    → (table : List ℕ) (moment : ℕ) → good_chains (moved_bytes version s) table moment ≡ good_chains s table moment
same-chains version low high s o room size e table moment =
    let (readable, items) = moved-readable version low high s o room size e in
    let t : List ℕ = moved_bytes version s in
    let many : entry_count t ≡ entry_count s =
    sym (length-items t) ∙ ap length items ∙ moved-many version (items_in s) ∙ length-items s in
    ap₂ (λ (list : List Item) (n : ℕ). chains list (verdict_in n table) moment) items many
    ∙ chains-moved version (items_in s) (verdict_in (entry_count s) table) moment
