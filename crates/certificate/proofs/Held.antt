-- What is held of an extension tells of it what the rules ask.
use Rattle.std.specs.Prelude.{Option, Some, None}
use Prim.Native.Nat.{ℕ}
use mathlib.Core.Bool.{Bool, true, false, cond, ◌&&◌, not}
use mathlib.Core.List.{List}
use mathlib.Core.Path.{◌≡◌, refl, sym, ap, ◌∙◌}
use Rattle.std.proofs.lemmas.Option.{none-some}
use Rattle.elements.specs.declared.elements.Element.{Element}
use Rattle.extensions.specs.declared.Extension.{Extension}
use Rattle.extensions.specs.declared.Held.{Held}
use Rattle.octets.specs.Alike.{alike}
use Rattle.elements.specs.Elements.{contents_of}
use Rattle.extensions.specs.Extensions.{held_of}
use Rattle.certificate.specs.Keys.{walks, key_in, octet_string, first_of, list_good, documents_in}
use Rattle.certificate.specs.Values.{value_of, value_in, on_value}
use Rattle.certificate.specs.declared.keys.KeyId.{KeyId}
use Rattle.certificate.specs.declared.keys.KeyId.TheVariants.{Keyless, Misformed}
use Rattle.certificate.specs.declared.keys.Value.TheVariants.{Stands, Unfit}
use Rattle.certificate.specs.Rules.{critical_with, uncritical}
use Rattle.extensions.proofs.Payloads.{an_extension}

-- a form reads an element from its contents on
abbrev Form : {A : Type 0} → (Element → A) → Type 0
Form form = (v w : Element) → v.contents ≡ w.contents → v.end ≡ w.end → form v ≡ form w

pub octets-form : (s : List ℕ) → Form (octet_string s)
unfolding octet_string
octets-form s v w start end = rw (start, end)

pub first-form : (s : List ℕ) → Form (first_of s)
unfolding first_of
first-form s v w start end = rw (start, end)

pub list-form : (s : List ℕ) → Form (list_good s)
unfolding list_good
list-form s v w start end = rw (start, end)

some-same : {a b : Held} → Some a ≡ Some b → a ≡ b
some-same p = cc

-- what the definitions say of an extension is said of the value that is held of it
module _ (s : List ℕ) {held : Option Held} where
  pub key-in :
      (form : Element → KeyId) → Form form → (x : Option Extension) → held ≡ held_of x
      → key_in s x form ≡ on_value (value_in s held) Keyless Misformed form
  unfolding key_in on_value value_in value_of held_of walks contents_of
  key-in form same None h = rw h
  key-in form same (Some x) h = rw h (go x.critical)
    where
      passed : (b : Bool) → cond b (form x.value) Misformed ≡ on_value (cond b (Stands (value_of (record { critical = false; start = x.value.contents; end = x.value.end }))) Unfit) Keyless Misformed form
      passed true = same _ _ refl refl
      passed false = refl

      go : (critical : Bool) → key_in s (an_extension x.oid critical x.value) form ≡ on_value (value_in s (held_of (an_extension x.oid critical x.value))) Keyless Misformed form
      go true = refl
      go false = passed (walks s x.value)

  pub documents-in : (x : Option Extension) → held ≡ held_of x → documents_in s x ≡ on_value (value_in s held) false false (list_good s)
  unfolding documents_in on_value value_in value_of held_of walks contents_of
  documents-in None h = rw h
  documents-in (Some x) h = rw h (go x.critical)
    where
      passed : (b : Bool) → (b && list_good s x.value) ≡ on_value (cond b (Stands (value_of (record { critical = false; start = x.value.contents; end = x.value.end }))) Unfit) false false (list_good s)
      passed true = list-form s _ _ refl refl
      passed false = refl

      go : (critical : Bool) → documents_in s (an_extension x.oid critical x.value) ≡ on_value (value_in s (held_of (an_extension x.oid critical x.value))) false false (list_good s)
      go true = refl
      go false = passed (walks s x.value)

  -- none is not there
  pub uncritical-none : (x : Option Extension) → held ≡ held_of x → held ≡ None → false ≡ uncritical x
  unfolding uncritical held_of
  uncritical-none None h n = refl
  uncritical-none (Some x) h n = absurd (none-some _ (sym n ∙ h))

  pub critical-none : (octets : List ℕ) (x : Option Extension) → held ≡ held_of x → held ≡ None → false ≡ critical_with s octets x
  unfolding critical_with held_of
  critical-none octets None h n = refl
  critical-none octets (Some x) h n = absurd (none-some _ (sym n ∙ h))

  -- one that is there
  module _ {own : Held} (there : held ≡ Some own) where
    pub uncritical-some : (x : Option Extension) → held ≡ held_of x → not own.critical ≡ uncritical x
    unfolding uncritical held_of
    uncritical-some None h = absurd (none-some _ (sym h ∙ there))
    uncritical-some (Some x) h = let critical : own.critical ≡ x.critical = ap (λ (f : Held). f.critical) (some-same (sym there ∙ h)) in rw critical

    pub critical-not : (octets : List ℕ) (x : Option Extension) → held ≡ held_of x → own.critical ≡ false → false ≡ critical_with s octets x
    unfolding held_of critical_with
    critical-not octets None h n = refl
    critical-not octets (Some x) h n = rw (sym (ap (λ (f : Held). f.critical) (some-same (sym there ∙ h))) ∙ n)

    -- its value is read from the contents on
    pub critical-same :
        {v : Element} → v ≡ value_of own → (octets : List ℕ) (x : Option Extension) → held ≡ held_of x → own.critical ≡ true
        → alike (contents_of s v) octets ≡ critical_with s octets x
    unfolding held_of critical_with contents_of value_of
    critical-same w octets None h n = absurd (none-some _ (sym h ∙ there))
    critical-same w octets (Some x) h n =
        let q = some-same (sym there ∙ h) in
        rw (sym (ap (λ (f : Held). f.critical) q) ∙ n, w, ap (λ (f : Held). f.start) q, ap (λ (f : Held). f.end) q)
