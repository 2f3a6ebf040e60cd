-- A table in which one octet went from 0 to 1 asks for one verdict more: within the table each pair of places has an octet of its own.
use Prim.Native.Nat.{ℕ, suc, ◌+◌, ◌*◌, ◌/◌, ◌%◌, ◌<◌, ◌≤◌}
use mathlib.Core.Path.{◌≡◌, refl, sym, ap, subst, ◌∙◌}
use mathlib.Core.List.{List}
use mathlib.Core.Logic.{◌⊎◌}
use native.Mathlib.Omega.{arith}
use native.Mathlib.Nat.{mul-add-mod_self_right, mul-add-div_right, mod-eq_of_lt, div-eq_of_lt, mul-le-mul_right}
use lib.ListN.{length, get_or, set}
use lib.Seq.{get_or-set_same, get_or-set_other}
use Rattle.image.specs.Index.{entry_count, items_in}
use Rattle.usable.specs.Items.{item_at}
use Rattle.usable.specs.Table.{verdict_in}
use Rattle.image.proofs.Places.{length-items}
use Rattle.trust.specs.Trust.{OneVerdict}
use Rattle.trust.specs.Answers.{asks}

-- row and column of an octet are its own
one_cell : (n u v w x : ℕ) → v < n → x < n → u * n + v ≡ w * n + x → (u ≡ w) × (v ≡ x)
one_cell n u v w x h l e =
    let column : v ≡ x =
    sym (mod-eq_of_lt h) ∙ sym (mul-add-mod_self_right u n v) ∙ ap (λ (k : ℕ). k % n) e ∙ mul-add-mod_self_right w n x ∙ mod-eq_of_lt l in
    let some : 0 < n = omega arith in
    let left : (u * n + v) / n ≡ u = mul-add-div_right some u v ∙ rw (div-eq_of_lt h) (omega arith) in
    let right : (w * n + x) / n ≡ w = mul-add-div_right some w x ∙ rw (div-eq_of_lt l) (omega arith) in
    (sym left ∙ ap (λ (k : ℕ). k / n) e ∙ right, column)

-- and within the table
cell_room : (n u v : ℕ) → u < n → v < n → u * n + v < n * n
cell_room n u v h l =
    let rows : suc u * n ≤ n * n = mul-le-mul_right n h in omega arith

pub octet-verdict :
    (s table : List ℕ) (moment from to : ℕ) → let n = entry_count s in
    from < n → to < n → length table ≡ n * n → get_or table (from * n + to) 0 ≡ 0
    → ((item_at (items_in s) to).kind ≡ 2) ⊎ ((item_at (items_in s) to).kind ≡ 3)
    → OneVerdict (asks s table moment) (asks s (set table (from * n + to) 1) moment)
unfolding verdict_in
octet-verdict s table moment from to h l many was signed =
    let n : ℕ = entry_count s in
    let room : from * n + to < length table = rw many (cell_room n from to h l) in
    record {
      from = from;
      to = to;
      signed = signed;
      before = rw was;
      after = rw (get_or-set_same table (from * n + to) 1 0 room);
      others = λ u v p q other.
          let column : v < n = subst (λ (k : ℕ). v < k) (length-items s) q in
          rw (get_or-set_other table (from * n + to) (u * n + v) 1 0 (λ e. other (one_cell n u v from to column l e)));
      items = refl;
      moment = refl;
    }
