-- The entries are tried one after the other, so a serial is found just if one of them has it.
use Rattle.std.specs.Prelude.{Option, Some, None}
use Prim.Native.Nat.{ℕ}
use mathlib.Core.Bool.{Bool, true, false, cond}
use mathlib.Core.List.Memᴰ
use mathlib.Core.List.{List, [], ◌∷◌}
use mathlib.Core.Logic.{⊎_elim}
use mathlib.Core.Path.{◌≡◌, refl, subst}
use native.Mathlib.Omega.{arith}
use Rattle.der.specs.Forms.{paper}
use Rattle.elements.specs.declared.elements.Element.{Element}
use Rattle.elements.specs.Elements.{found_tagged, on_found, contents_of}
use Rattle.octets.specs.Alike.{alike}
use Rattle.octets.proofs.Likeness.{alike_is, is-alike}
use Rattle.crl.specs.Listed.{lists, some_lists}
use Rattle.crl.specs.Meets.{InList}

module _ (s serial : List ℕ) where
  lists-own : (e : Element) → lists paper s serial e ≡ true → (own : Element) × (found_tagged paper s e.contents e.end 0x02 ≡ Some own) × (contents_of s own ≡ serial)
  unfolding lists on_found
  lists-own e h = go (found_tagged paper s e.contents e.end 0x02) refl h
    where
      go : (f : Option Element) → found_tagged paper s e.contents e.end 0x02 ≡ f → on_found f false (λ own. alike (contents_of s own) serial) ≡ true → (own : Element) × (found_tagged paper s e.contents e.end 0x02 ≡ Some own) × (contents_of s own ≡ serial)
      go None g h = absurd (let z : ◌≡◌ {A = ℕ} 0 1 = cc in omega arith)
      go (Some own) g h = (own, g, alike_is _ _ h)

  own-lists : (e own : Element) → found_tagged paper s e.contents e.end 0x02 ≡ Some own → contents_of s own ≡ serial → lists paper s serial e ≡ true
  unfolding lists on_found
  own-lists e own h g = rw h (is-alike _ _ g)

  pub listed_in : (entries : List Element) → some_lists paper s serial entries ≡ true → InList paper s serial entries
  unfolding some_lists
  listed_in [] h = absurd (let z : ◌≡◌ {A = ℕ} 0 1 = cc in omega arith)
  listed_in (e ∷ rest) h = go (lists paper s serial e) refl (listed_in rest) h
    where
      go : (t : Bool) → lists paper s serial e ≡ t → (some_lists paper s serial rest ≡ true → InList paper s serial rest) → cond t true (some_lists paper s serial rest) ≡ true → InList paper s serial (e ∷ rest)
      go true g below h =
          let o = lists-own e g in
          record { entry = e; own = o.0; member = Memᴰ.head refl; first = o.1; same = o.2 }
      go false g below h =
          let p = below h in
          record { entry = p.entry; own = p.own; member = Memᴰ.tail p.member; first = p.first; same = p.same }

  pub in-listed : (entries : List Element) → InList paper s serial entries → some_lists paper s serial entries ≡ true
  unfolding some_lists
  in-listed [] p = absurd (Memᴰ.not-nil p.member)
  in-listed (e ∷ rest) p =
      ⊎_elim
      (λ is. rw (subst (λ (x : Element). lists paper s serial x ≡ true) is (own-lists p.entry p.own p.first p.same)))
      (λ m. go (lists paper s serial e) (in-listed rest (record { entry = p.entry; own = p.own; member = m; first = p.first; same = p.same })))
      (Memᴰ.cases_cons p.member)
    where
      go : (t : Bool) → some_lists paper s serial rest ≡ true → cond t true (some_lists paper s serial rest) ≡ true
      go true h = refl
      go false h = h
