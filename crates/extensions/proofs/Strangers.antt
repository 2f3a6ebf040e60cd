-- No OID stands twice among the extensions that were met, as far as the slots and the ones without a slot tell.
use Rattle.std.specs.Prelude.{Option, Some, None}
use mathlib.Core.Path.{◌≡◌, refl, sym, ap, ◌∙◌}
use mathlib.Core.Bool.{Bool, true, false, cond, ◌||◌}
use mathlib.Core.List.{List, [], ◌∷◌}
use Prim.Native.Nat.{ℕ, ◌<◌, ◌≤◌}
use native.Mathlib.Omega.{arith}
use borrow.Author.Tests.{eq-eqb, ne_eqb, eqb-true, eqb-false}
use lib.Dec.{eqb}
use lib.ListN.{length, get_or, set, replicate, get_or-replicate, length-set}
use lib.Seq.{get_or-set_same, get_or-set_other}
use Rattle.der.specs.Forms.{paper}
use Rattle.elements.specs.declared.elements.Element.{Element}
use Rattle.extensions.specs.declared.Extension.{Extension}
use Rattle.std.specs.Option.{is_some}
use Rattle.extensions.specs.declared.Held.{Held}
use Rattle.octets.specs.Alike.{alike}
use Rattle.elements.specs.Elements.{found_at, members_of, contents_of}
use Rattle.octets.proofs.Likeness.{alike_is, is-alike, unequal-unlike}
use Rattle.elements.proofs.Members.{members-none, members-more}
use Rattle.extensions.specs.Extensions.{extension_of, present, has_oid, same_oids, stands_in, doubled_in, oid_of, held_of, Slotted}
use Rattle.extensions.specs.Strange.{strange_from, own_oid, mark_of, is_in, twice_in}
use Rattle.extensions.proofs.Slotless.{strange-none, strange-absent, strange-skip, strange-met}
use Rattle.extensions.proofs.Tables.{some_in, some_more, none_in}
use Rattle.extensions.proofs.Halves.{slot_and, slot_twice, slot-and, stranger-and, split}

-- the OIDs that were met, as a test; whether an extension has one of them, and those with its own
module _ (s : List ℕ) (seen : List ℕ → Bool) where
  unfoldable pub known : Option Extension → Bool
  known None = false
  known (Some x) = seen (contents_of s x.oid)

  unfoldable pub also : Option Extension → List ℕ → Bool
  also None = seen
  also (Some x) = λ o. alike o (contents_of s x.oid) || seen o

  unfoldable pub some_known : List Element → Bool
  some_known [] = false
  some_known (e ∷ rest) = known (extension_of paper s e) || some_known rest

none-known : (s : List ℕ) (es : List Element) → some_known s (λ o. false) es ≡ false
unfolding some_known known
none-known s [] = refl
none-known s (e ∷ rest) = rw (none-known s rest) (go (extension_of paper s e))
  where
    go : (x : Option Extension) → (known s (λ o. false) x || false) ≡ false
    go None = refl
    go (Some x) = refl

module _ (s : List ℕ) (seen : List ℕ → Bool) where
  known-also : (x y : Option Extension) → known s (also s seen x) y ≡ (same_oids s x y || known s seen y)
  unfolding known also same_oids has_oid
  known-also None None = refl
  known-also None (Some x) = refl
  known-also (Some x) None = refl
  known-also (Some x) (Some extension) = refl

  some-also : (x : Option Extension) (es : List Element) → some_known s (also s seen x) es ≡ (stands_in paper s x es || some_known s seen es)
  unfolding some_known stands_in
  some-also x [] = refl
  some-also x (e ∷ rest) =
      rw (known-also x (extension_of paper s e), some-also x rest)
      (go (same_oids s x (extension_of paper s e)) (known s seen (extension_of paper s e)) (stands_in paper s x rest) (some_known s seen rest))
    where
      go : (a b c d : Bool) → ((a || b) || (c || d)) ≡ (cond a true c || (b || d))
      go true b c d = refl
      go false true true d = refl
      go false true false d = refl
      go false false c d = refl

  -- whether one of those left has an OID that was met, or a slot's OID that stands twice among them
  unfoldable pub left : List Element → Bool
  left es = some_known s seen es || slot_twice s es

  left-slot : (e : Element) (rest : List Element) → ((t : Bool) → slot_and s (extension_of paper s e) t ≡ t) → left (e ∷ rest) ≡ (known s seen (extension_of paper s e) || (some_known s (also s seen (extension_of paper s e)) rest || slot_twice s rest))
  unfolding left some_known slot_twice
  left-slot e rest h =
      rw (h (stands_in paper s (extension_of paper s e) rest), some-also (extension_of paper s e) rest)
      (go (known s seen (extension_of paper s e)) (some_known s seen rest) (stands_in paper s (extension_of paper s e) rest) (slot_twice s rest))
    where
      go : (k a b d : Bool) → ((k || a) || (b || d)) ≡ (k || ((b || a) || d))
      go true a b d = refl
      go false true true d = refl
      go false true false d = refl
      go false false true d = refl
      go false false false d = refl

  left-stranger : (e : Element) (rest : List Element) → ((t : Bool) → slot_and s (extension_of paper s e) t ≡ false) → known s seen (extension_of paper s e) ≡ false → left (e ∷ rest) ≡ left rest
  unfolding left some_known slot_twice
  left-stranger e rest h n = rw (h (stands_in paper s (extension_of paper s e) rest), n)

  -- an extension by its OID
  module _ (o : List ℕ) where
    known-oid : (x : Option Extension) → has_oid s o x ≡ true → known s seen x ≡ seen o
    unfolding known has_oid
    known-oid None h = cc
    known-oid (Some x) h = ap seen (alike_is _ _ h)

    also-oid : (x : Option Extension) → has_oid s o x ≡ true → also s seen x o ≡ true
    unfolding also has_oid
    also-oid None h = cc
    also-oid (Some x) h = rw (is-alike o (contents_of s x.oid) (sym (alike_is _ _ h)))

    also-other : (x : Option Extension) → has_oid s o x ≡ false → also s seen x o ≡ seen o
    unfolding also has_oid
    also-other None h = refl
    also-other (Some x) h = rw (unequal-unlike o (contents_of s x.oid) λ q. let z : true ≡ false = sym (is-alike _ _ (sym q)) ∙ h in let y : ◌≡◌ {A = ℕ} 0 1 = cc in omega arith)

    other-oid : (x : Option Extension) (own : List ℕ) → has_oid s own x ≡ true → (o ≡ own → ⊥) → has_oid s o x ≡ false
    unfolding has_oid
    other-oid None own h n = refl
    other-oid (Some x) own h n = unequal-unlike _ _ λ q. n (sym q ∙ alike_is _ _ h)

  known-stranger : (x : Option Extension) → ((k : ℕ) → k < 23 → has_oid s (oid_of k) x ≡ false) → ((o : List ℕ) → ((k : ℕ) → k < 23 → o ≡ oid_of k → ⊥) → seen o ≡ false) → known s seen x ≡ false
  unfolding known has_oid
  known-stranger None h n = refl
  known-stranger (Some x) h n =
      n (contents_of s x.oid) λ k l q. let z : true ≡ false = sym (is-alike _ _ q) ∙ h k l in let y : ◌≡◌ {A = ℕ} 0 1 = cc in omega arith

-- The OIDs with a slot that were met before `at`: the slots tell which. While none was met twice, what is left decides, and the
-- OIDs without a slot: while no two of those met have one mark, none of them is another, and what is left decides; else it is to be
-- asked.
pub record Apart (s : List ℕ) (from end : ℕ) (slots : List (Option Held)) (twice unsure : Bool) (marks : List Bool) (at : ℕ) : Type 0 where
  pub seen : List ℕ → Bool
  pub filled : (k : ℕ) → k < 23 → seen (oid_of k) ≡ is_some (get_or slots k (held_of None))
  pub others : (o : List ℕ) → ((k : ℕ) → k < 23 → o ≡ oid_of k → ⊥) → seen o ≡ false
  pub sound : left s seen (members_of paper s at end) ≡ true → doubled_in paper s (members_of paper s from end) ≡ true
  pub told : twice ≡ true → doubled_in paper s (members_of paper s from end) ≡ true
  pub whole : twice ≡ false → doubled_in paper s (members_of paper s from end) ≡ (left s seen (members_of paper s at end) || twice_in (strange_from paper s from end))
  pub wide : length marks ≡ 64
  pub strange : List ℕ → Bool
  pub noted : (o : List ℕ) → strange o ≡ true → get_or marks (mark_of o) false ≡ true
  pub few : unsure ≡ false → twice_in (strange_from paper s from end) ≡ (some_in strange (strange_from paper s at end) || twice_in (strange_from paper s at end))

pub apart-start : (s : List ℕ) (from end : ℕ) → Apart s from end (replicate 23 (held_of None)) false false (replicate 64 false) from
unfolding left held_of strange_from
apart-start s from end =
    record {
      seen = λ o. false;
      filled = λ k l. rw (get_or-replicate 23 k (held_of None) (held_of None) l);
      others = λ o n. refl;
      sound = λ t. let slot : slot_twice s (members_of paper s from end) ≡ true = rw (none-known s (members_of paper s from end)) at t in split s (members_of paper s from end) ∙ rw slot;
      told = λ t. let y : ◌≡◌ {A = ℕ} 0 1 = cc in absurd (omega arith);
      whole = λ t. rw (none-known s (members_of paper s from end)) (split s (members_of paper s from end));
      wide = refl;
      strange = λ o. false;
      noted = λ o t. let y : ◌≡◌ {A = ℕ} 0 1 = cc in absurd (omega arith);
      few = λ t. rw (none_in (λ o. false) (λ o. refl) (strange_from paper s from end));
    }

module _ {s : List ℕ} {from end at : ℕ} {slots : List (Option Held)} {twice unsure : Bool} {marks : List Bool} (a : Apart s from end slots twice unsure marks at) where
  module _ (h : found_at paper s at end ≡ None) where
    pub apart_none : twice ≡ false → doubled_in paper s (members_of paper s from end) ≡ twice_in (strange_from paper s from end)
    unfolding left some_known slot_twice
    apart_none t = a.whole t ∙ rw (members-none s at end h)

    pub apart-few : unsure ≡ false → twice_in (strange_from paper s from end) ≡ false
    unfolding twice_in some_in
    apart-few u = a.few u ∙ rw (strange-none s at end h)

  module _ {e : Element} {slot : ℕ} (f : found_at paper s at end ≡ Some e) (h : Slotted s (extension_of paper s e) slot) where
    -- an OID that has a slot
    module _ (l : slot < 23) where
      own : has_oid s (oid_of slot) (extension_of paper s e) ≡ true
      own = sym (h.each slot l) ∙ eq-eqb slot slot refl

      known_slot : known s a.seen (extension_of paper s e) ≡ is_some (get_or slots slot (held_of None))
      known_slot = known-oid s a.seen (oid_of slot) (extension_of paper s e) own ∙ a.filled slot l

      step : left s a.seen (members_of paper s at end) ≡ (known s a.seen (extension_of paper s e) || left s (also s a.seen (extension_of paper s e)) (members_of paper s e.end end))
      unfolding left
      step = ap (left s a.seen) (members-more s at end f) ∙ left-slot s a.seen e (members_of paper s e.end end) (slot-and h l)

      skip : strange_from paper s at end ≡ strange_from paper s e.end end
      skip = strange-skip s at end f refl h l

      pub apart-new :
          (held : Option Held) → is_some held ≡ true → length slots ≡ 23 → is_some (get_or slots slot (held_of None)) ≡ false
          → Apart s from end (set slots slot held) twice unsure marks e.end
      apart-new held new long g =
          record {
            seen = also s a.seen (extension_of paper s e);
            filled = λ k room. go k room (eqb slot k) refl;
            others = λ o n.
                also-other s a.seen o (extension_of paper s e) (other-oid s a.seen o (extension_of paper s e) (oid_of slot) own (n slot l)) ∙ a.others o n;
            sound = λ t. a.sound (step ∙ rw t (or (known s a.seen (extension_of paper s e))));
            told = a.told;
            whole = λ t. a.whole t ∙ rw (step, known_slot, g);
            wide = a.wide;
            strange = a.strange;
            noted = a.noted;
            few = λ t. a.few t ∙ rw skip;
          }
        where
          or : (k : Bool) → (k || true) ≡ true
          or true = refl
          or false = refl

          here : also s a.seen (extension_of paper s e) (oid_of slot) ≡ is_some (get_or (set slots slot held) slot (held_of None))
          here =
              let fits : slot < length slots = omega arith in
              rw (get_or-set_same slots slot held (held_of None) fits) (also-oid s a.seen (oid_of slot) (extension_of paper s e) own ∙ sym new)

          kept : (k : ℕ) → k < 23 → (slot ≡ k → ⊥) → also s a.seen (extension_of paper s e) (oid_of k) ≡ is_some (get_or slots k (held_of None))
          kept k room n = also-other s a.seen (oid_of k) (extension_of paper s e) (sym (h.each k room) ∙ ne_eqb slot k n) ∙ a.filled k room

          go : (k : ℕ) → k < 23 → (t : Bool) → eqb slot k ≡ t → also s a.seen (extension_of paper s e) (oid_of k) ≡ is_some (get_or (set slots slot held) k (held_of None))
          go k room true q = rw (sym (eqb-true slot k q)) here
          go k room false q = rw (get_or-set_other slots slot k held (held_of None) (λ w. eqb-false slot k q (sym w))) (kept k room (eqb-false slot k q))

      pub apart-again : is_some (get_or slots slot (held_of None)) ≡ true → Apart s from end slots true unsure marks e.end
      apart-again n =
          record {
            seen = a.seen;
            filled = a.filled;
            others = a.others;
            sound = λ t. doubles;
            told = λ t. doubles;
            whole = λ t. let y : ◌≡◌ {A = ℕ} 0 1 = cc in absurd (omega arith);
            wide = a.wide;
            strange = a.strange;
            noted = a.noted;
            few = λ t. a.few t ∙ rw skip;
          }
        where
          doubles : doubled_in paper s (members_of paper s from end) ≡ true
          doubles = a.sound (step ∙ rw (known_slot ∙ n))

    -- an OID that has none, or no extension
    module _ (far : 23 ≤ slot) where
      pass : left s a.seen (members_of paper s at end) ≡ left s a.seen (members_of paper s e.end end)
      pass =
          ap (left s a.seen) (members-more s at end f)
          ∙ left-stranger s a.seen e (members_of paper s e.end end) (stranger-and h far)
          (known-stranger s a.seen (extension_of paper s e) (λ k l. sym (h.each k l) ∙ ne_eqb slot k λ q. omega arith) a.others)

      -- what is left, with a test for those without a slot that were met
      abbrev rest : (List ℕ → Bool) → Bool
      rest strange = some_in strange (strange_from paper s e.end end) || twice_in (strange_from paper s e.end end)

      passed :
          (unsure' : Bool) (marks' : List Bool) (strange : List ℕ → Bool) → length marks' ≡ 64
          → ((o : List ℕ) → strange o ≡ true → get_or marks' (mark_of o) false ≡ true) → (unsure' ≡ false → twice_in (strange_from paper s from end) ≡ rest strange)
          → Apart s from end slots twice unsure' marks' e.end
      passed unsure' marks' strange wide noted few =
          record {
            seen = a.seen;
            filled = a.filled;
            others = a.others;
            sound = λ t. a.sound (pass ∙ t);
            told = a.told;
            whole = λ t. a.whole t ∙ rw pass;
            wide = wide;
            strange = strange;
            noted = noted;
            few = few;
          }

      pub apart-stranger :
          {mark : ℕ} → (slot ≡ 24 → ⊥) → mark ≡ mark_of (own_oid s (extension_of paper s e)) → mark < 64
          → Apart s from end slots twice (unsure || get_or marks mark false) (set marks mark true) e.end
      unfolding own_oid present some_in twice_in
      apart-stranger {mark} other is low =
          passed (unsure || get_or marks mark false) (set marks mark true) after (length-set marks mark true ∙ a.wide) noted few
        where
          o : List ℕ
          o = own_oid s (extension_of paper s e)

          after : List ℕ → Bool
          after x = cond (alike x o) true (a.strange x)

          on :
              (x : List ℕ) (t : Bool) → eqb (mark_of x) mark ≡ t → (t ≡ false → get_or marks (mark_of x) false ≡ true)
              → get_or (set marks mark true) (mark_of x) false ≡ true
          on x true q h = rw (eqb-true (mark_of x) mark q) (get_or-set_same marks mark true false (omega (arith, low, a.wide)))
          on x false q h = get_or-set_other marks mark (mark_of x) true false (eqb-false (mark_of x) mark q) ∙ h refl

          noted : (x : List ℕ) → after x ≡ true → get_or (set marks mark true) (mark_of x) false ≡ true
          noted x = go (alike x o) refl
            where
              go : (t : Bool) → alike x o ≡ t → cond t true (a.strange x) ≡ true → get_or (set marks mark true) (mark_of x) false ≡ true
              go true q h = on x true (eq-eqb (mark_of x) mark (ap mark_of (alike_is x o q) ∙ sym is)) (λ w. let y : ◌≡◌ {A = ℕ} 0 1 = cc in absurd (omega arith))
              go false q h = on x (eqb (mark_of x) mark) refl (λ w. a.noted x h)

          neither : (p q : Bool) → (p || q) ≡ false → (p ≡ false) × (q ≡ false)
          neither true q w = (w, cc)
          neither false q w = (refl, w)

          new : (t : Bool) → a.strange o ≡ t → get_or marks mark false ≡ false → t ≡ false
          new false q h = refl
          new true q h = let z : true ≡ false = sym (a.noted o q) ∙ rw (sym is) h in let y : ◌≡◌ {A = ℕ} 0 1 = cc in absurd (omega arith)

          first : (y : Option Extension) → extension_of paper s e ≡ y → present y ≡ true → strange_from paper s at end ≡ own_oid s y ∷ strange_from paper s e.end end
          first None q w = let z : ◌≡◌ {A = ℕ} 0 1 = cc in absurd (omega arith)
          first (Some x) q w = strange-met s at end f refl q h far

          turn : (p q r : Bool) → (p || cond q true r) ≡ ((p || q) || r)
          turn true q r = refl
          turn false true r = refl
          turn false false r = refl

          few : (unsure || get_or marks mark false) ≡ false → twice_in (strange_from paper s from end) ≡ rest after
          few u =
              let both = neither unsure (get_or marks mark false) u in
              let more = strange_from paper s e.end end in
              let left : strange_from paper s at end ≡ o ∷ more = first (extension_of paper s e) refl (h.there ∙ rw (ne_eqb slot 24 other)) in
              a.few both.0
              ∙ rw (left, new (a.strange o) refl both.1, some_more a.strange after o (λ x. refl) more)
              (turn (some_in a.strange more) (is_in o more) (twice_in more))

      pub apart-absent : extension_of paper s e ≡ None → Apart s from end slots twice unsure marks e.end
      apart-absent n = passed unsure marks a.strange a.wide a.noted (λ t. a.few t ∙ rw skip)
        where
          skip : strange_from paper s at end ≡ strange_from paper s e.end end
          skip = strange-absent s at end f refl n
