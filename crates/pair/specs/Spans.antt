-- A span that tells the places of two images. No public promise cites this.
use Rattle.std.specs.Prelude.{ℕ, ◌+◌, ◌≡◌, List}
use Rattle.image.specs.Index.{entry_count, version_in}
use Rattle.pair.specs.declared.Span.{Span}

pub record Spans (span : Span) (s u : List ℕ) : Type 0 where
  pub all : span.places ≡ entry_count s + entry_count u
  pub own : span.own ≡ entry_count s
  pub version : span.version ≡ version_in s
  pub later : span.later ≡ version_in u
