-- One law for each answer about a pair: the first image is asked, then the update, then both.
use Rattle.std.specs.Prelude.{Err}
use Prim.Native.Nat.{ℕ, ◌+◌, ◌-◌, ◌≤◌, ◌<◌}
use mathlib.Core.Path.{◌≡◌}
use mathlib.Core.Bool.{true, false}
use mathlib.Core.List.{List}
use borrow.Author.Tests.{lt-ltb, le-ltb}
use Rattle.refusal.specs.declared.Refusal.{Refusal}
use Rattle.refusal.specs.declared.Refusal.TheVariants as refusal
use Rattle.image.specs.Index.{entry_in}
use Rattle.image.specs.Answer.{opened_of}
use Rattle.pair.specs.declared.Span.{Span}
use Rattle.pair.specs.Answer.{on_update, on_first, pair_of, held_at, on_pair, held_of}
use Rattle.image.proofs.Payloads.{an_image}
use Rattle.pair.proofs.Payloads.{a_joint}
use Rattle.pair.proofs.Payloads.{a_held}

-- how many, how many of the first, the versions of both
abbrev pub span_of : ℕ → ℕ → ℕ → ℕ → Span
span_of n m version later = record { places = n + m; own = n; version = version; later = later }

module _ (s u : List ℕ) where
  pub first-refused : {r : Refusal} → opened_of s ≡ Err r → pair_of s u ≡ Err r
  unfolding pair_of on_first
  first-refused e = simp e

  module _ {n day version : ℕ} (first : opened_of s ≡ an_image n day version) where
    pub update-asked : pair_of s u ≡ on_update n day version (opened_of u)
    unfolding pair_of on_first
    update-asked = simp first

    pub update-refused : {r : Refusal} → opened_of u ≡ Err r → pair_of s u ≡ Err r
    unfolding pair_of on_first on_update
    update-refused e = simp (first, e)

    module _ {m last later : ℕ} (update : opened_of u ≡ an_image m last later) where
      pub many-refused : 96 < n + m → pair_of s u ≡ Err (refusal.Limit 0)
      unfolding pair_of on_first on_update
      many-refused many = simp (first, update, lt-ltb _ _ many)

      pub earlier-refused : n + m ≤ 96 → last < day → pair_of s u ≡ Err refusal.Day
      unfolding pair_of on_first on_update
      earlier-refused few earlier = simp (first, update, le-ltb _ _ few, lt-ltb _ _ earlier)

      pub both_read : n + m ≤ 96 → day ≤ last → pair_of s u ≡ a_joint (span_of n m version later) last
      unfolding pair_of on_first on_update
      both_read few order = simp (first, update, le-ltb _ _ few, le-ltb _ _ order)

  module _ (place : ℕ) where
    pub held-refused : {r : Refusal} → pair_of s u ≡ Err r → held_of s u place ≡ Err r
    unfolding held_of on_pair
    held-refused e = simp e

    module _ {span : Span} {day : ℕ} (both : pair_of s u ≡ a_joint span day) where
      pub held-beyond : span.places ≤ place → held_of s u place ≡ Err refusal.Argument
      unfolding held_of on_pair
      held-beyond past = simp (both, le-ltb _ _ past)

      module _ (there : place < span.places) where
        pub held_first : place < span.own → held_of s u place ≡ a_held (entry_in s place) false
        unfolding held_of on_pair held_at
        held_first inside = simp (both, lt-ltb _ _ there, lt-ltb _ _ inside)

        pub held_update : span.own ≤ place → held_of s u place ≡ a_held (entry_in u (place - span.own)) true
        unfolding held_of on_pair held_at
        held_update beyond = simp (both, lt-ltb _ _ there, le-ltb _ _ beyond)
