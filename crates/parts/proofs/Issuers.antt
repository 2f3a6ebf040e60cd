-- An item that passes has the letters that it reports as its country: the steps to its issuer are the first of its shape.
use Rattle.std.specs.Prelude.{Option, Some, None, Ok}
use Prim.Native.Nat.{ℕ, ◌-◌}
use mathlib.Core.Path.{◌≡◌, refl, sym, ap, subst, ◌∙◌, ap₂}
use mathlib.Core.Bool.{Bool, true}
use mathlib.Core.List.{List}
use native.Mathlib.Omega.{arith}
use borrow.Author.Tests.{eqb-true}
use lib.Dec.{eqb}
use lib.ListN.{length}
use Rattle.der.specs.Forms.{paper}
use Rattle.elements.specs.declared.elements.Element.{Element}
use Rattle.elements.specs.declared.envelopes.Envelope.{Envelope}
use Rattle.elements.specs.Elements.{found_tagged, on_found}
use Rattle.elements.specs.Envelope.{envelope_of}
use Rattle.elements.specs.Steps.{only_of}
use Rattle.elements.proofs.Members.{found_within}
use Rattle.names.specs.declared.Letters.{Letters}
use Rattle.names.specs.declared.Seen.{Seen}
use Rattle.names.specs.Names.{name_of, first_letter, second_letter, letters_of}
use Rattle.names.specs.Country.{country_in}
use Rattle.names.proofs.FirstSet.{country-letters}
use Rattle.names.proofs.SameNames.{NameAt}
use Rattle.times.specs.Times.{time_at}
use Rattle.certificate.specs.declared.Fields as certificate
use Rattle.certificate.specs.declared.shapes.Front as fronts
use Rattle.certificate.specs.declared.shapes.Back as backs
use Rattle.certificate.specs.Answer as answer
use Rattle.certificate.specs.Country as countries
use Rattle.certificate.specs.Rules.{readings_of, same_two, rule5}
use Rattle.certificate.specs.Shape as shape
use Rattle.certificate.proofs.Theorems as theorems
use Rattle.crl.specs.declared.Fields as crl
use Rattle.crl.specs.declared.shapes.Front as list-fronts
use Rattle.crl.specs.Answer as list-answer
use Rattle.crl.specs.Country as list-countries
use Rattle.crl.specs.Rules as list-rules
use Rattle.crl.specs.Shape as list-shape
use Rattle.crl.proofs.Theorems as list-theorems
use Rattle.parts.proofs.Inverse.{went, kept, both, tagged-found}
use Rattle.parts.proofs.Certificates as certificates
use Rattle.parts.proofs.Lists as lists
use Rattle.std.proofs.lemmas.Option.{same_Some}
use Rattle.elements.proofs.Payloads.{an_envelope, same_envelope}
use Rattle.names.proofs.Payloads.{some_letters}
use Rattle.certificate.proofs.Payloads.{a_front}
use Rattle.crl.proofs.Payloads.{a_front as a_list_front}
use Rattle.certificate.proofs.Payloads.{a_back}

formless : {tbs outer : Element} → ◌≡◌ {A = (Option Envelope)} None (an_envelope tbs outer) → ⊥
formless p = let z : ◌≡◌ {A = ℕ} 0 1 = cc in omega arith

-- the outermost element, and in it the tbs
around :
    (s : List ℕ) (tbs outer : Element) → envelope_of paper s ≡ an_envelope tbs outer
    → (o : Element) × (found_tagged paper s 0 (length s) 0x30 ≡ Some o) × (found_tagged paper s o.contents o.end 0x30 ≡ Some tbs)
unfolding envelope_of
around s tbs outer e =
    let a = went (found_tagged paper s 0 (length s) 0x30) None _ (an_envelope tbs outer) formless e in
    let o = a.element in
    let b = went (found_tagged paper s o.contents o.end 0x30) None _ (an_envelope tbs outer) formless a.then in
    let c = went (found_tagged paper s b.element.end o.end 0x30) None _ (an_envelope tbs outer) formless b.then in
    let d = went (found_tagged paper s c.element.end o.end 0x03) None _ (an_envelope tbs outer) formless c.then in
    let k = kept (eqb d.element.end o.end) _ None (an_envelope tbs outer) formless d.then in
    let same : b.element ≡ tbs = (same_envelope k.1).0 in
    (o, a.there, b.there ∙ ap Some same)

-- what is found so is the issuer's country
country-there :
    (s : List ℕ) (tbs outer issuer : Element) (find : List ℕ → Element → Option Element) → envelope_of paper s ≡ an_envelope tbs outer
    → find s tbs ≡ Some issuer
    → (on_found (found_tagged paper s 0 (length s) 0x30) None λ outermost.
    on_found (found_tagged paper s outermost.contents outermost.end 0x30) None λ t. on_found (find s t) None λ e. country_in paper s e)
    ≡ country_in paper s issuer
unfolding on_found
country-there s tbs outer issuer find e found = let a = around s tbs outer e in rw (a.1, a.2, found)

module _ (s : List ℕ) (tbs : Element) where
  issuer-front :
      (version serial inner issuer validity : Element) → shape.front_of s tbs ≡ a_front version serial inner issuer validity
      → (countries.issuer_of s tbs ≡ Some issuer) × ((from : ℕ) × (found_tagged paper s from tbs.end 0x30 ≡ Some issuer))
  unfolding shape.front_of countries.issuer_of on_found
  issuer-front version serial inner issuer validity e =
      let opens = a_front version serial inner issuer validity in
      let a = went (found_tagged paper s tbs.contents tbs.end 0xA0) None _ opens frontless e in
      let b = went (only_of paper s a.element 0x02) None _ opens frontless a.then in
      let c = went (found_tagged paper s a.element.end tbs.end 0x02) None _ opens frontless b.then in
      let d = went (found_tagged paper s c.element.end tbs.end 0x30) None _ opens frontless c.then in
      let i = went (found_tagged paper s d.element.end tbs.end 0x30) None _ opens frontless d.then in
      let v = went (found_tagged paper s i.element.end tbs.end 0x30) None _ opens frontless i.then in
      let same : i.element ≡ issuer = issued v.then in
      let there = i.there ∙ ap Some same in
      (rw (a.there, c.there, d.there) there, (d.element.end, there))
    where
      frontless : ◌≡◌ {A = Option fronts.Front} None (a_front version serial inner issuer validity) → ⊥
      frontless p = let z : ◌≡◌ {A = ℕ} 0 1 = cc in omega arith

      issued :
          {v r i x y : Element} → ◌≡◌ {A = Option fronts.Front} (a_front v r x i y) (a_front version serial inner issuer validity) → i ≡ issuer
      issued p = ap (λ (f : fronts.Front). f.issuer) (same_Some _ _ p)

  list-issuer-front :
      (version inner issuer current coming : Element) → list-shape.front_of paper s tbs ≡ a_list_front version inner issuer current coming
      → (list-countries.issuer_of paper s tbs ≡ Some issuer) × ((from : ℕ) × (found_tagged paper s from tbs.end 0x30 ≡ Some issuer))
  unfolding list-shape.front_of list-countries.issuer_of on_found
  list-issuer-front version inner issuer current coming e =
      let opens = a_list_front version inner issuer current coming in
      let a = went (found_tagged paper s tbs.contents tbs.end 0x02) None _ opens frontless e in
      let b = went (found_tagged paper s a.element.end tbs.end 0x30) None _ opens frontless a.then in
      let i = went (found_tagged paper s b.element.end tbs.end 0x30) None _ opens frontless b.then in
      let c = went (time_at paper s i.element.end tbs.end) None _ opens frontless i.then in
      let d = went (time_at paper s c.element.end tbs.end) None _ opens frontless c.then in
      let same : i.element ≡ issuer = issued d.then in
      let there = i.there ∙ ap Some same in
      (rw (a.there, b.there) there, (b.element.end, there))
    where
      frontless : ◌≡◌ {A = Option list-fronts.Front} None (a_list_front version inner issuer current coming) → ⊥
      frontless p = let z : ◌≡◌ {A = ℕ} 0 1 = cc in omega arith

      issued :
          {v r i x y : Element} → ◌≡◌ {A = Option list-fronts.Front} (a_list_front v r i x y) (a_list_front version inner issuer current coming) → i ≡ issuer
      issued p = ap (λ (f : list-fronts.Front). f.issuer) (same_Some _ _ p)

-- the subject is the first of the members behind the times
subject-back :
    (s : List ℕ) (from end : ℕ) (subject key extensions : Element) (unique : Bool)
    → shape.back_of s from end ≡ a_back subject key unique extensions → found_tagged paper s from end 0x30 ≡ Some subject
unfolding shape.back_of
subject-back s from end subject key extensions unique e =
    let closes = a_back subject key unique extensions in
    let a = went (found_tagged paper s from end 0x30) None _ closes backless e in
    let b = went (found_tagged paper s a.element.end end 0x30) None _ closes backless a.then in
    let c = went (found_tagged paper s (shape.unique_end s b.element.end end) end 0xA3) None _ closes backless b.then in
    let k = kept (eqb c.element.end end) _ None closes backless c.then in
    let d = went (only_of paper s c.element 0x30) None _ closes backless k.1 in
    a.there ∙ ap Some (closed d.then)
  where
    backless : ◌≡◌ {A = Option backs.Back} None (a_back subject key unique extensions) → ⊥
    backless p = let z : ◌≡◌ {A = ℕ} 0 1 = cc in omega arith

    closed :
        {x y z : Element} {w : Bool} → ◌≡◌ {A = Option backs.Back} (a_back x y w z) (a_back subject key unique extensions) → x ≡ subject
    closed p = ap (λ (b : backs.Back). b.subject) (same_Some _ _ p)

-- a name where it stands
name-at :
    (s : List ℕ) (from end : ℕ) (e : Element) (seen : Seen) (a b : ℕ) → found_tagged paper s from end 0x30 ≡ Some e → name_of paper s e ≡ Some seen
    → letters_of s seen ≡ some_letters a b → NameAt s e.at (e.end - e.at) a b
name-at s from end e seen a b found named letters =
    let here : e.at ≡ from = (found_within s from end (tagged-found s from end 0x30 e found).0).0 in
    record {
      element = e;
      end = end;
      found = ap (λ (n : ℕ). found_tagged paper s n end 0x30) here ∙ found;
      long = refl;
      seen = seen;
      named = named;
      letters = letters;
    }

-- letters that the rules take are two, and a certificate's two names have the same
two-same : (x y : Option Letters) → same_two x y ≡ true → (x ≡ some_letters (first_letter x) (second_letter x)) × (y ≡ some_letters (first_letter x) (second_letter x))
unfolding same_two
two-same None y e = absurd (let z : ◌≡◌ {A = ℕ} 0 1 = cc in omega arith)
two-same (Some l) None e = absurd (let z : ◌≡◌ {A = ℕ} 0 1 = cc in omega arith)
two-same (Some l) (Some letters) e =
    let k = both (eqb l.first letters.first) (eqb l.second letters.second) e in
    let p : l.first ≡ letters.first = eqb-true l.first letters.first k.0 in
    let q : l.second ≡ letters.second = eqb-true l.second letters.second k.1 in
    (refl, ap₂ some_letters (sym p) (sym q))

two-there : (x : Option Letters) → list-rules.two_letters x ≡ true → x ≡ some_letters (first_letter x) (second_letter x)
unfolding list-rules.two_letters
two-there None e = absurd (let z : ◌≡◌ {A = ℕ} 0 1 = cc in omega arith)
two-there (Some l) e = refl

pub certificate-country :
    (item : List ℕ) (role : ℕ) (f : certificate.Fields) → answer.judged_of item role ≡ Ok f
    → countries.country_of item ≡ some_letters f.first f.second
unfolding countries.country_of rule5 readings_of answer.fields_of
certificate-country item role f e =
    let p = (theorems.passes-exactly item role f).0 e in
    let y = p.layout in
    let l = certificates.laid_out item y p.shape in
    let t = two-same (letters_of item y.issuer_country) (letters_of item y.subject_country) p.meets.countries in
    country-there item l.tbs l.outer y.issuer countries.issuer_of l.around (issuer-front item l.tbs _ _ _ _ _ l.front).0
    ∙ country-letters item y.issuer y.issuer_country _ _ l.named t.0
    ∙ sym (ap (λ (g : certificate.Fields). some_letters g.first g.second) p.fields)

pub crl-country :
    (item : List ℕ) (f : crl.Fields) → list-answer.judged_of paper item ≡ Ok f
    → list-countries.country_of paper item ≡ some_letters f.first f.second
unfolding list-countries.country_of list-rules.rule4 list-rules.readings_of list-answer.fields_of
crl-country item f e =
    let p = (list-theorems.passes-exactly item f).0 e in
    let y = p.parts in
    let l = lists.laid_out item y p.meets.shape in
    country-there item l.tbs l.outer y.issuer (list-countries.issuer_of paper) l.around (list-issuer-front item l.tbs _ _ _ _ _ l.front).0
    ∙ country-letters item y.issuer y.country _ _ l.named (two-there (letters_of item y.country) p.meets.country)
    ∙ sym (ap (λ (g : crl.Fields). some_letters g.first g.second) p.fields)

-- and so have its names
pub certificate-names :
    (item : List ℕ) (role : ℕ) (f : certificate.Fields) → answer.judged_of item role ≡ Ok f
    → NameAt item f.issuer_at f.issuer_len f.first f.second
    × NameAt item f.subject_at f.subject_len f.first f.second
unfolding rule5 readings_of answer.fields_of
certificate-names item role f e =
    let p = (theorems.passes-exactly item role f).0 e in
    let y = p.layout in
    let l = certificates.laid_out item y p.shape in
    let t = two-same (letters_of item y.issuer_country) (letters_of item y.subject_country) p.meets.countries in
    let i = (issuer-front item l.tbs _ _ _ _ _ l.front).1 in
    subst
    (λ (g : certificate.Fields).
    NameAt item g.issuer_at g.issuer_len g.first g.second × NameAt item g.subject_at g.subject_len g.first g.second)
    (sym p.fields) (
      name-at item i.0 l.tbs.end y.issuer y.issuer_country _ _ i.1 l.named t.0,
      name-at item l.validity.end l.tbs.end y.subject y.subject_country _ _
          (subject-back item l.validity.end l.tbs.end y.subject y.key y.extensions y.unique l.back) l.addressed t.1,
    )

pub crl-name :
    (item : List ℕ) (f : crl.Fields) → list-answer.judged_of paper item ≡ Ok f
    → NameAt item f.issuer_at f.issuer_len f.first f.second
unfolding list-rules.rule4 list-rules.readings_of list-answer.fields_of
crl-name item f e =
    let p = (list-theorems.passes-exactly item f).0 e in
    let y = p.parts in
    let l = lists.laid_out item y p.meets.shape in
    let i = (list-issuer-front item l.tbs _ _ _ _ _ l.front).1 in
    subst (λ (g : crl.Fields). NameAt item g.issuer_at g.issuer_len g.first g.second) (sym p.fields)
    (name-at item i.0 l.tbs.end y.issuer y.country _ _ i.1 l.named (two-there (letters_of item y.country) p.meets.country))
