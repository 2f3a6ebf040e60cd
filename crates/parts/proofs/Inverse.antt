-- What must have been found where a chain of steps came to its end: each step, by going back from the answer.
use Rattle.std.specs.Prelude.{Option, Some, None}
use Prim.Native.Nat.{ℕ}
use mathlib.Core.Path.{◌≡◌, refl, ◌∙◌}
use mathlib.Core.Bool.{Bool, true, false, false≢true, cond, ◌&&◌}
use mathlib.Core.List.{List}
use native.Mathlib.Omega.{arith}
use borrow.Author.Tests.{eqb-true}
use lib.Dec.{eqb}
use Rattle.der.specs.Forms.{paper}
use Rattle.elements.specs.declared.elements.Element.{Element}
use Rattle.elements.specs.declared.envelopes.Envelope.{Envelope}
use Rattle.elements.specs.Elements.{found_at, with_tag, found_tagged, on_found}
use Rattle.elements.specs.Envelope.{on_envelope}
use Rattle.names.specs.declared.Seen.{Seen}
use Rattle.names.specs.Names.{on_name}
use Rattle.times.specs.Times.{time_tag, time_at}
use Rattle.elements.proofs.Payloads.{an_envelope}

-- the element that a step went on from
pub record Onward {A : Type 0} (f : Option Element) (next : Element → A) (r : A) : Type 0 where
  pub element : Element
  pub there : f ≡ Some element
  pub then : next element ≡ r

pub went :
    {A : Type 0} (f : Option Element) (missing : A) (next : Element → A) (r : A) → (missing ≡ r → ⊥) → on_found f missing next ≡ r
    → Onward f next r
unfolding on_found
went None missing next r other e = absurd (other e)
went (Some element) missing next r other e = record { element = element; there = refl; then = e }

pub kept : {A : Type 0} (b : Bool) (x y r : A) → (y ≡ r → ⊥) → cond b x y ≡ r → (b ≡ true) × (x ≡ r)
kept true x y r other e = (refl, e)
kept false x y r other e = absurd (other e)

pub parted : {A P : Type 0} (b : Bool) (x y r : A) → (x ≡ r → P) → (y ≡ r → P) → cond b x y ≡ r → P
parted true x y r f g e = f e
parted false x y r f g e = g e

-- a conjunction's parts
pub both : (p q : Bool) → (p && q) ≡ true → (p ≡ true) × (q ≡ true)
both true q e = (refl, e)
both false q e = absurd (false≢true e)

pub tagged-found :
    (s : List ℕ) (from end tag : ℕ) (e : Element) → found_tagged paper s from end tag ≡ Some e → (found_at paper s from end ≡ Some e) × (e.tag ≡ tag)
unfolding found_tagged with_tag
tagged-found s from end tag e p = go (found_at paper s from end) p
  where
    go : (f : Option Element) → with_tag tag f ≡ Some e → (f ≡ Some e) × (e.tag ≡ tag)
    go None q = absurd (let z : ◌≡◌ {A = ℕ} 0 1 = cc in omega arith)
    go (Some x) q = same (kept (eqb x.tag tag) (Some x) None (Some e) (λ n. let z : ◌≡◌ {A = ℕ} 0 1 = cc in omega arith) q)
      where
        same : (eqb x.tag tag ≡ true) × (◌≡◌ {A = (Option Element)} (Some x) (Some e)) → (◌≡◌ {A = (Option Element)} (Some x) (Some e)) × (e.tag ≡ tag)
        same h = let t : x.tag ≡ tag = eqb-true _ _ h.0 in let g = h.1 in (g, cc)

-- an element found by the tag of a time
pub timed-found : (s : List ℕ) (from end : ℕ) (e : Element) → time_at paper s from end ≡ Some e → found_at paper s from end ≡ Some e
unfolding time_at
timed-found s from end e p =
    let f = went (found_at paper s from end) None _ (Some e) missing p in
    f.there ∙ (kept (time_tag f.element.tag) (Some f.element) None (Some e) missing f.then).1
  where
    missing : ◌≡◌ {A = (Option Element)} None (Some e) → ⊥
    missing n = let z : ◌≡◌ {A = ℕ} 0 1 = cc in omega arith

-- the parts of the envelope that a shape went on from, and the countryNames of a name
pub by-envelope :
    {A : Type 0} (v : Option Envelope) (formless : A) (k : Element → Element → A) (r : A) → (formless ≡ r → ⊥) → on_envelope v formless k ≡ r
    → (tbs : Element) × (outer : Element) × (v ≡ an_envelope tbs outer) × (k tbs outer ≡ r)
unfolding on_envelope
by-envelope None formless k r other e = absurd (other e)
by-envelope (Some v) formless k r other e = (v.tbs, v.algorithm, refl, e)

pub by_name :
    {A : Type 0} (v : Option Seen) (shapeless : A) (k : Seen → A) (r : A) → (shapeless ≡ r → ⊥) → on_name v shapeless k ≡ r
    → (seen : Seen) × (v ≡ Some seen) × (k seen ≡ r)
unfolding on_name
by_name None shapeless k r other e = absurd (other e)
by_name (Some seen) shapeless k r other e = (seen, refl, e)
