-- One law for each answer of the definitions over rows: what they come to under the tests that lead there.
use Prim.Native.Nat.{ℕ, zero, suc, ◌+◌, ◌*◌, ◌<◌, ◌≤◌}
use mathlib.Core.Path.{◌≡◌, refl, sym, ap, ◌∙◌}
use mathlib.Core.Bool.{Bool, true, false, ◌||◌}
use mathlib.Core.List.{List, [], ◌∷◌}
use mathlib.Core.Logic.{⊎_elim}
use native.Mathlib.Nat.{eq-or-lt_of_le}
use native.Mathlib.Numerals.{add-one}
use native.Mathlib.Omega.{arith}
use borrow.Author.Tests.{eq-eqb, ne_eqb}
use borrow.Author.Count.{below_more}
use lib.Dec.{eqb}
use lib.ListN.{length, get_or, set, take, drop, replicate, length-take}
use lib.Seq.{get_or-set_same, get_or-set_other, get_or-take, get_or-drop}
use Rattle.der.specs.Forms.{paper}
use Rattle.crl.specs.Listed.{listed_of}
use Rattle.octets.specs.Alike.{alike}
use Rattle.usable.specs.declared.opened.Row.{Row}
use Rattle.usable.specs.Items.{some_below}
use Rattle.usable.specs.Rows.{
  blank,
  flag,
  row_from,
  row_at,
  same_letters,
  vouched_by,
  counted_of,
  piece_of,
  lists_of,
  spoken_of,
  spoken_below,
  signed_of,
  role_by,
  role_of,
  role_in,
  is_near,
  led_of,
  fits_of,
  matched_of,
  leads_of,
  step_of,
}
use Rattle.usable.specs.Table.{verdict_in}

-- the rows of a table of nothing but 0
pub blank-rows : (n p : ℕ) → row_at (replicate n (replicate 17 0)) p ≡ blank
unfolding row_at blank
blank-rows zero p = refl
blank-rows (suc n) zero = refl
blank-rows (suc n) (suc p) = blank-rows n p

-- the rows before p are those of f, and the others as they were
pub record Rewritten (f : ℕ → Row) (old rows : List (List ℕ)) (p : ℕ) : Type 0 where
  pub before : (c : ℕ) → c < p → row_at rows c ≡ f c
  pub behind : (c : ℕ) → p ≤ c → row_at rows c ≡ row_at old c

pub set_here : (rows : List (List ℕ)) (p : ℕ) (cells : List ℕ) → p < length rows → row_at (set rows p cells) p ≡ row_from cells
unfolding row_at
set_here rows p cells room = ap row_from (get_or-set_same rows p cells [] room)

pub set_there : (rows : List (List ℕ)) (p : ℕ) (cells : List ℕ) (c : ℕ) → (c ≡ p → ⊥) → row_at (set rows p cells) c ≡ row_at rows c
unfolding row_at
set_there rows p cells c h = ap row_from (get_or-set_other rows p c cells [] h)

module _ {f : ℕ → Row} {old rows : List (List ℕ)} {p : ℕ} where
  -- one row more, set or left
  pub row-set : (cells : List ℕ) → Rewritten f old rows p → p < length rows → row_from cells ≡ f p → Rewritten f old (set rows p cells) (p + 1)
  row-set cells r room e =
      record {
        before = λ c h.
            ⊎_elim (λ (q : c ≡ p). rw q (set_here rows p cells room ∙ e)) (λ (q : c < p). set_there rows p cells c (λ (w : c ≡ p). omega arith) ∙ r.before c q)
            (eq-or-lt_of_le (least c h));
        behind = λ c h. set_there rows p cells c (λ (w : c ≡ p). omega arith) ∙ r.behind c (omega arith);
      }
    where
      least : (c : ℕ) → c < p + 1 → c ≤ p
      least c h = omega arith

  pub row-left : Rewritten f old rows p → row_at old p ≡ f p → Rewritten f old rows (p + 1)
  row-left r e =
      record {
        before = λ c h.
            ⊎_elim (λ (q : c ≡ p). rw q (r.behind p (omega arith) ∙ e)) (λ (q : c < p). r.before c q) (eq-or-lt_of_le (least c h));
        behind = λ c h. r.behind c (omega arith);
      }
    where
      least : (c : ℕ) → c < p + 1 → c ≤ p
      least c h = omega arith

pub leads-anchor : {role : ℕ} → role ≡ 1 → leads_of role ≡ true
unfolding leads_of
leads-anchor e = rw e

module _ (row : Row) (spoken : ℕ) where
  pub role-unspoken : signed_of row ≡ true → eqb spoken 1 ≡ false → role_by row spoken ≡ 0
  unfolding role_by
  role-unspoken e f = rw (e, f)

  pub role-link : signed_of row ≡ true → eqb spoken 1 ≡ true → eqb row.standing 2 ≡ true → role_by row spoken ≡ 2
  unfolding role_by
  role-link e f g = rw (e, f, g)

  pub role-signer : signed_of row ≡ true → eqb spoken 1 ≡ true → eqb row.standing 2 ≡ false → role_by row spoken ≡ 3
  unfolding role_by
  role-signer e f g = rw (e, f, g)

  pub role-anchor : signed_of row ≡ false → eqb row.standing 1 ≡ true → role_by row spoken ≡ 1
  unfolding role_by
  role-anchor e f = rw (e, f)

  pub role-none : signed_of row ≡ false → eqb row.standing 1 ≡ false → role_by row spoken ≡ 0
  unfolding role_by
  role-none e f = rw (e, f)

-- what is compared and looked up are the parts of the two rows' items
module _ (held : Row → List ℕ) (list row : Row) where
  pub lists-parts :
      {x y : List ℕ} {r : Bool} → r ≡ listed_of paper x list.from list.end y → x ≡ held list
      → y ≡ piece_of held row row.serial_at row.serial_len → r ≡ lists_of held list row
  unfolding lists_of
  lists-parts e f g = cc

module _ (held : Row → List ℕ) (list row : Row) (before : ℕ) where
  pub spoken-listed : eqb before 2 ≡ true → spoken_of held list row before ≡ 2
  unfolding spoken_of
  spoken-listed e = rw e

  pub spoken-apart : eqb before 2 ≡ false → same_letters row list ≡ false → spoken_of held list row before ≡ before
  unfolding spoken_of
  spoken-apart e f = rw (e, f)

  pub spoken-lists : eqb before 2 ≡ false → same_letters row list ≡ true → lists_of held list row ≡ true → spoken_of held list row before ≡ 2
  unfolding spoken_of
  spoken-lists e f g = rw (e, f, g)

  pub spoken-covers : eqb before 2 ≡ false → same_letters row list ≡ true → lists_of held list row ≡ false → spoken_of held list row before ≡ 1
  unfolding spoken_of
  spoken-covers e f g = rw (e, f, g)

-- octets compared are those of the parts
pub alike-parts : {a b x y : List ℕ} {r : Bool} → r ≡ alike a b → a ≡ x → b ≡ y → r ≡ alike x y
alike-parts e f g = cc

module _ (held : Row → List ℕ) (u v : Row) where
  abbrev pub keys : Bool
  keys = alike (piece_of held v v.authority_at v.authority_len) (piece_of held u u.own_at u.own_len)

  abbrev pub names : Bool
  names = alike (piece_of held v v.issuer_at v.issuer_len) (piece_of held u u.subject_at u.subject_len)

  pub fits_not : {r : Bool} → r ≡ keys → r ≡ false → false ≡ fits_of held u v
  unfolding fits_of
  fits_not e f = let k = sym e ∙ f in rw k

  pub fits-named : {r q : Bool} → r ≡ keys → r ≡ true → q ≡ names → q ≡ fits_of held u v
  unfolding fits_of
  fits-named e f g = let k = sym e ∙ f in rw k g

module _ (held : Row → List ℕ) (u v : Row) (role : ℕ) where
  pub matched-unled : led_of role ≡ false → matched_of held u v role ≡ false
  unfolding matched_of
  matched-unled e = rw e

  pub matched-led : led_of role ≡ true → matched_of held u v role ≡ fits_of held u v
  unfolding matched_of
  matched-led e = rw e

-- a test that holds of one place holds of some
pub some-there : (n : ℕ) (test : ℕ → Bool) (i : ℕ) → i < n → test i ≡ true → some_below n test ≡ true
unfolding some_below
some-there zero test i h e = absurd (omega arith)
some-there (suc n) test i h e =
    ⊎_elim (λ (q : i ≡ n). rw (← q, e)) (λ (q : i < n). rw (some-there n test i q e) (go (test n))) (eq-or-lt_of_le (least h))
  where
    least : i < suc n → i ≤ n
    least k = omega arith

    go : (b : Bool) → (b || true) ≡ true
    go true = refl
    go false = refl

-- and one that holds of none holds of none of the places so far
pub some-none : (n : ℕ) (test : ℕ → Bool) → ((i : ℕ) → i < n → test i ≡ false) → some_below n test ≡ false
unfolding some_below
some-none zero test e = refl
some-none (suc n) test e = rw (e n (omega arith)) (some-none n test (λ i h. e i (omega arith)))

module _ (n : ℕ) (table : List ℕ) (rows : List (List ℕ)) (list : ℕ) where
  -- an anchor of the CRL's country with verdict 1 for it vouches
  pub vouched-there :
      (anchor : ℕ) {standing octet : ℕ} → anchor < n → standing ≡ (row_at rows anchor).standing → standing ≡ 1
      → octet ≡ get_or table (anchor * n + list) 0 → octet ≡ 1 → same_letters (row_at rows anchor) (row_at rows list) ≡ true
      → true ≡ some_below n (vouched_by n table rows list)
  unfolding vouched_by verdict_in
  vouched-there anchor h e one f same letters =
      let is : vouched_by n table rows list anchor ≡ true = rw (eq-eqb _ _ (sym e ∙ one), eq-eqb _ _ (sym f ∙ same)) letters in
      rw (some-there n (vouched_by n table rows list) anchor h is)

  pub vouched-foreign :
      (anchor : ℕ) {standing octet : ℕ} → standing ≡ (row_at rows anchor).standing → standing ≡ 1
      → octet ≡ get_or table (anchor * n + list) 0 → octet ≡ 1 → same_letters (row_at rows anchor) (row_at rows list) ≡ false
      → vouched_by n table rows list anchor ≡ false
  unfolding vouched_by verdict_in
  vouched-foreign anchor e one f same letters = rw (eq-eqb _ _ (sym e ∙ one), eq-eqb _ _ (sym f ∙ same)) letters

  pub vouched-unfit :
      (anchor : ℕ) {standing : ℕ} → standing ≡ (row_at rows anchor).standing → (standing ≡ 1 → ⊥) → vouched_by n table rows list anchor ≡ false
  unfolding vouched_by
  vouched-unfit anchor e not-one = rw (ne_eqb _ _ (λ z. not-one (e ∙ z)))

  pub vouched-passed :
      (anchor : ℕ) {standing octet : ℕ} → standing ≡ (row_at rows anchor).standing → standing ≡ 1
      → octet ≡ get_or table (anchor * n + list) 0 → (octet ≡ 1 → ⊥) → vouched_by n table rows list anchor ≡ false
  unfolding vouched_by verdict_in
  vouched-passed anchor e one f other = rw (eq-eqb _ _ (sym e ∙ one), ne_eqb _ _ (λ z. other (f ∙ z)))

  pub vouched-none : ((i : ℕ) → i < n → vouched_by n table rows list i ≡ false) → false ≡ some_below n (vouched_by n table rows list)
  vouched-none e = rw (some-none n (vouched_by n table rows list) e)

  -- a CRL that is vouched for, one that is not, and what is none
  pub counted-all :
      {vouched : Bool} {standing : ℕ} → standing ≡ (row_at rows list).standing → standing ≡ 4
      → vouched ≡ some_below n (vouched_by n table rows list) → vouched ≡ true → 1 ≡ flag (counted_of n table rows list)
  unfolding counted_of flag
  counted-all e four f so = rw (eq-eqb _ _ (sym e ∙ four), ← f, so)

  pub counted-unvouched :
      {vouched : Bool} {standing : ℕ} → standing ≡ (row_at rows list).standing → standing ≡ 4
      → vouched ≡ some_below n (vouched_by n table rows list) → vouched ≡ false → 0 ≡ flag (counted_of n table rows list)
  unfolding counted_of flag
  counted-unvouched e four f so = rw (eq-eqb _ _ (sym e ∙ four), ← f, so)

  pub counted-other :
      {standing : ℕ} → standing ≡ (row_at rows list).standing → (standing ≡ 4 → ⊥) → 0 ≡ flag (counted_of n table rows list)
  unfolding counted_of flag
  counted-other e not-four = rw (ne_eqb (row_at rows list).standing 4 (λ f. not-four (e ∙ f)))

-- where no CRL before counts
pub spoken-none :
    (held : Row → List ℕ) (rows : List (List ℕ)) (counting : List ℕ) (row : Row) (c : ℕ) → ((k : ℕ) → k < c → get_or counting k 0 ≡ 1 → ⊥)
    → 0 ≡ spoken_below held rows counting row c
unfolding spoken_below
spoken-none held rows counting row zero none = refl
spoken-none held rows counting row (suc c) none =
    rw (ne_eqb (get_or counting c 0) 1 (none c (omega arith))) (spoken-none held rows counting row c (λ k h. none k (omega arith)))

module _ (held : Row → List ℕ) (rows : List (List ℕ)) (counting : List ℕ) (row : Row) (c : ℕ) where
  -- a counting CRL is asked
  pub spoken-asked :
      {before after : ℕ} {l : Row} → l ≡ row_at rows c → before ≡ spoken_below held rows counting row c → get_or counting c 0 ≡ 1
      → after ≡ spoken_of held l row before → after ≡ spoken_below held rows counting row (c + 1)
  unfolding spoken_below
  spoken-asked e f one g =
      let is-1 : eqb (get_or counting c 0) 1 ≡ true = eq-eqb _ _ one in
      rw (g, e, f, add-one c, is-1)

  -- another is passed over
  pub spoken-passed :
      {before : ℕ} → before ≡ spoken_below held rows counting row c → (get_or counting c 0 ≡ 1 → ⊥)
      → before ≡ spoken_below held rows counting row (c + 1)
  unfolding spoken_below
  spoken-passed f not-one =
      let not-1 : eqb (get_or counting c 0) 1 ≡ false = ne_eqb _ _ not-one in
      rw (add-one c, not-1) f

module _ (held : Row → List ℕ) (n : ℕ) (before : List ℕ) (rows : List (List ℕ)) (counting roles : List ℕ) (p : ℕ) where
  -- a role that is handed on
  pub role_kept : {role : ℕ} → role ≡ get_or roles p 0 → get_or before p 0 ≡ 1 → role ≡ role_in held n before rows counting roles p
  unfolding role_in is_near
  role_kept h one = rw (eq-eqb _ _ one) h

  pub role-fresh :
      {role : ℕ} → role ≡ role_of held n rows counting (row_at rows p) → (get_or before p 0 ≡ 1 → ⊥) → role ≡ role_in held n before rows counting roles p
  unfolding role_in is_near
  role-fresh h not-one = rw (ne_eqb _ _ not-one) h

-- a role by what the CRLs say, and one that they are not asked for
module _ (held : Row → List ℕ) (n : ℕ) (rows : List (List ℕ)) (counting : List ℕ) {row own : Row} (e : own ≡ row) where
  pub role-said :
      {spoken role : ℕ} → signed_of own ≡ true → spoken ≡ spoken_below held rows counting own n → role ≡ role_by own spoken
      → role ≡ role_of held n rows counting row
  unfolding role_of
  role-said signed g h = rw (← e, signed) (h ∙ ap (role_by own) g)

  pub role-unsaid : {role : ℕ} → signed_of own ≡ false → role ≡ role_by own 0 → role ≡ role_of held n rows counting row
  unfolding role_of
  role-unsaid unsigned h = rw (← e, unsigned) h

-- of a place that is not open
pub role-shut : (held : Row → List ℕ) (n : ℕ) (rows : List (List ℕ)) (counting : List ℕ) (row : Row) → row.standing ≡ 0
    → 0 ≡ role_of held n rows counting row
unfolding role_of role_by signed_of
role-shut held n rows counting row e = simp e

module _ (held : Row → List ℕ) (n : ℕ) (table : List ℕ) (rows : List (List ℕ)) (roles : List ℕ) (u v : ℕ) where
  pub step-asked :
      {a b : Row} {role lead octet : ℕ} {value : Bool} → a ≡ row_at rows u → b ≡ row_at rows v → role ≡ get_or roles v 0
      → lead ≡ get_or roles u 0 → leads_of lead ≡ true → octet ≡ get_or table (u * n + v) 0 → octet ≡ 1
      → value ≡ matched_of held a b role → value ≡ step_of held n table rows roles u v
  unfolding step_of verdict_in
  step-asked e f g h lead i one k =
      let is-1 : eqb (get_or table (u * n + v) 0) 1 ≡ true = eq-eqb _ _ (sym i ∙ one) in
      let leading : leads_of (get_or roles u 0) ≡ true = ap leads_of (sym h) ∙ lead in
      rw (k, e, f, g, leading, is-1)

  pub step-unasked :
      {lead octet : ℕ} → lead ≡ get_or roles u 0 → leads_of lead ≡ true → octet ≡ get_or table (u * n + v) 0 → (octet ≡ 1 → ⊥)
      → step_of held n table rows roles u v ≡ false
  unfolding step_of verdict_in
  step-unasked h lead i not-one =
      let not-1 : eqb (get_or table (u * n + v) 0) 1 ≡ false = ne_eqb _ _ (λ z. not-one (i ∙ z)) in
      let leading : leads_of (get_or roles u 0) ≡ true = ap leads_of (sym h) ∙ lead in
      rw (leading, not-1)

  pub step-unled : {lead : ℕ} → lead ≡ get_or roles u 0 → leads_of lead ≡ false → step_of held n table rows roles u v ≡ false
  unfolding step_of
  step-unled h lead =
      let not-leading : leads_of (get_or roles u 0) ≡ false = ap leads_of (sym h) ∙ lead in
      rw not-leading

-- the verdicts of a signer are a line of the table, 0 beyond its end
pub line_read :
    (table : List ℕ) (n u v : ℕ) {line : List ℕ} → line ≡ take n (drop (u * n) table) → v < n → get_or line v 0 ≡ get_or table (u * n + v) 0
line_read table n u v e h = rw e (get_or-take n (drop (u * n) table) v 0 h ∙ get_or-drop (u * n) table v 0)

pub line-short : (table : List ℕ) (n u : ℕ) {line : List ℕ} → line ≡ take n (drop (u * n) table) → length line ≤ n
line-short table n u e = rw (e, length-take) (omega arith)

beyond : (l : List ℕ) (i : ℕ) → length l ≤ i → get_or l i 0 ≡ 0
beyond [] i h = refl
beyond (x ∷ l) zero h = absurd (omega arith)
beyond (x ∷ l) (suc i) h = beyond l i (omega arith)

pub line-past :
    (table : List ℕ) (n u v : ℕ) {line : List ℕ} → line ≡ take n (drop (u * n) table) → v < n → length line ≤ v
    → get_or table (u * n + v) 0 ≡ 1 → ⊥
line-past table n u v {line} e h past one =
    let k : ◌≡◌ {A = ℕ} 0 1 = sym (beyond line v past) ∙ line_read table n u v e h ∙ one in omega arith

-- one anchor more that has no good step to the target
pub none_more :
    (held : Row → List ℕ) (n : ℕ) (table : List ℕ) (rows : List (List ℕ)) (roles : List ℕ) (target u : ℕ)
    → ((w : ℕ) → w < u → get_or roles w 0 ≡ 1 → step_of held n table rows roles w target ≡ false)
    → (get_or roles u 0 ≡ 1 → step_of held n table rows roles u target ≡ false)
    → (w : ℕ) → w < u + 1 → get_or roles w 0 ≡ 1 → step_of held n table rows roles w target ≡ false
none_more held n table rows roles target u = below_more (λ (w : ℕ). get_or roles w 0 ≡ 1 → step_of held n table rows roles w target ≡ false) u
