-- A pair that reads: both images open, no more than 96 places together, the update's day no earlier.
use Rattle.std.specs.Prelude.{Result, Ok, Err}
use Rattle.refusal.specs.declared.Refusal.{Refusal}
use Prim.Native.Nat.{ℕ, ◌+◌, ◌≤◌}
use mathlib.Core.Path.{◌≡◌, refl, sym, ap, ◌∙◌}
use mathlib.Core.Bool.{Bool, true, false, cond}
use mathlib.Core.List.{List}
use native.Mathlib.Omega.{arith}
use borrow.Author.Tests.{ltb-false}
use lib.Dec.{ltb}
use Rattle.refusal.specs.declared.Refusal.TheVariants as refusal
use Rattle.image.specs.declared.Opened.{Opened}
use Rattle.image.specs.Answer.{opened_of}
use Rattle.image.proofs.Few.{opened-image}
use Rattle.pair.specs.declared.Span.{Span}
use Rattle.pair.specs.Answer.{on_update, on_first, pair_of}
use Rattle.pair.specs.Spans.{Spans}
use Rattle.pair.proofs.PairLaws.{span_of}
use Rattle.image.proofs.Payloads.{an_image}
use Rattle.pair.proofs.Payloads.{a_joint, same_joint}

pub record Readable (s u : List ℕ) (span : Span) (day : ℕ) : Type 0 where
  pub earlier : ℕ
  pub more : ℕ
  pub first : opened_of s ≡ an_image span.own earlier span.version
  pub update : opened_of u ≡ an_image more day span.later
  pub all : span.places ≡ span.own + more
  pub few : span.places ≤ 96
  pub order : earlier ≤ day

module _ (s u : List ℕ) (span : Span) (day : ℕ) where
  pub readable : pair_of s u ≡ a_joint span day → Readable s u span day
  unfolding pair_of on_first on_update
  readable e = go (opened_of s) (opened_of u) refl refl e
    where
      both :
          (n first version m last later : ℕ) (a b : Bool) → ltb 96 (n + m) ≡ a → ltb last first ≡ b → opened_of s ≡ an_image n first version
          → opened_of u ≡ an_image m last later
          → cond a (Err (refusal.Limit 0)) (cond b (Err refusal.Day) (a_joint (span_of n m version later) last)) ≡ a_joint span day
          → Readable s u span day
      both n first version m last later true b few order f g e = absurd (let z : ◌≡◌ {A = ℕ} 0 1 = cc in omega arith)
      both n first version m last later false true few order f g e = absurd (let z : ◌≡◌ {A = ℕ} 0 1 = cc in omega arith)
      both n first version m last later false false few order f g e =
          let (is, day-is) : (span_of n m version later ≡ span) × (last ≡ day) = same_joint e in
          let places : n + m ≡ span.places = ap (λ (k : Span). k.places) is in
          let own : n ≡ span.own = ap (λ (k : Span). k.own) is in
          let first-version : version ≡ span.version = ap (λ (k : Span). k.version) is in
          let last-version : later ≡ span.later = ap (λ (k : Span). k.later) is in
          record {
            earlier = first;
            more = m;
            first = f ∙ cc (own, first-version);
            update = g ∙ cc (day-is, last-version);
            all = omega (arith, places, own);
            few = omega (arith, places, ltb-false 96 (n + m) few);
            order = omega (arith, day-is, ltb-false last first order);
          }

      go : (a b : Result Opened Refusal) → opened_of s ≡ a → opened_of u ≡ b → on_first u a ≡ a_joint span day → Readable s u span day
      go (Err r) b f g e = absurd (let z : ◌≡◌ {A = ℕ} 0 1 = cc in omega arith)
      go (Ok o) (Err r) f g e = absurd (let z : ◌≡◌ {A = ℕ} 0 1 = cc in omega arith)
      go (Ok o) (Ok opened1) f g e =
          both o.entries o.day o.version opened1.entries opened1.day opened1.version (ltb 96 (o.entries + opened1.entries)) (ltb opened1.day o.day) refl refl f g (sym (ap (on_update o.entries o.day o.version) g) ∙ e)

  module _ (r : Readable s u span day) where
    pub spans : Spans span s u
    spans =
        let a = opened-image 1 2 s _ _ _ r.first in
        let b = opened-image 1 2 u _ _ _ r.update in
        record { all = omega (arith, r.all, a.0, b.0); own = a.0; version = a.2; later = b.2 }
