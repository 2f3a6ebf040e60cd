-- One law for each answer of the writer, and what the output is then.
use Rattle.std.specs.Prelude.{Ok, Err}
use Prim.Native.Nat.{ℕ, ◌≤◌, ◌<◌}
use mathlib.Core.Path.{◌≡◌}
use mathlib.Core.Bool.{true, false}
use mathlib.Core.List.{List, ◌++◌, append_assoc}
use borrow.Author.Tests.{le-leb, lt-leb}
use lib.ListN.{length, drop}
use Rattle.refusal.specs.declared.Refusal.{Refusal}
use Rattle.refusal.specs.declared.Refusal.TheVariants.{Argument, Limit, Short}
use Rattle.image.specs.Items.{trailer_bytes}
use Rattle.writer.specs.Rows.{rows_bytes}
use Rattle.writer.specs.Writing.{arguments_good, size_of, written_of, on_written, output_of}
use Rattle.writer.proofs.Columns.{arguments-tell, image-of}

module _ (version : ℕ) (octets kinds flags lengths letters : List ℕ) (day : ℕ) (old : List ℕ) where
  pub refused-argument :
      arguments_good version octets kinds flags lengths letters day ≡ false → written_of version octets kinds flags lengths letters day (length old) ≡ Err Argument
  unfolding written_of
  refused-argument e = simp e

  pub output-refused :
      {refusal : Refusal} → written_of version octets kinds flags lengths letters day (length old) ≡ Err refusal
      → old ≡ output_of version octets kinds flags lengths letters day old
  unfolding output_of on_written
  output-refused e = simp e

  module _ (good : arguments_good version octets kinds flags lengths letters day ≡ true) where
    pub refused-limit :
        262144 < size_of version octets kinds → written_of version octets kinds flags lengths letters day (length old) ≡ Err (Limit 0)
    unfolding written_of
    refused-limit h = simp (good, lt-leb _ _ h)

    module _ (small : size_of version octets kinds ≤ 262144) where
      pub refused-short :
          length old < size_of version octets kinds → written_of version octets kinds flags lengths letters day (length old) ≡ Err Short
      unfolding written_of
      refused-short h = simp (good, le-leb _ _ small, lt-leb _ _ h)

      module _ (room : size_of version octets kinds ≤ length old) where
        pub all-written : written_of version octets kinds flags lengths letters day (length old) ≡ Ok (size_of version octets kinds)
        unfolding written_of
        all-written = simp (good, le-leb _ _ small, le-leb _ _ room)

        pub output-written :
            output_of version octets kinds flags lengths letters day old
            ≡ ((octets ++ rows_bytes version 0 kinds flags lengths letters) ++ trailer_bytes version (length octets) (length kinds) day)
            ++ drop (size_of version octets kinds) old
        unfolding output_of on_written
        output-written =
            let tell = arguments-tell version octets kinds flags lengths letters day good in
            simp (all-written, image-of version octets kinds flags lengths letters day tell.counted.long tell.sums, append_assoc)
