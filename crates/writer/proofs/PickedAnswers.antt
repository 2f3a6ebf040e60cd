-- One law for each answer of the writer of some items, and what the output is then.
use Rattle.std.specs.Prelude.{Result, Ok, Err}
use Prim.Native.Nat.{ℕ, ◌+◌, ◌*◌, ◌≤◌, ◌<◌}
use mathlib.Core.Path.{◌≡◌, refl, sym}
use mathlib.Core.Bool.{Bool, true, false, cond}
use mathlib.Core.List.{List, [], ◌∷◌, ◌++◌, append_assoc}
use native.Mathlib.Omega.{arith}
use borrow.Author.Tests.{le-leb, lt-leb}
use lib.Dec.{leb}
use lib.ListN.{length, drop}
use Rattle.refusal.specs.declared.Refusal.{Refusal}
use Rattle.refusal.specs.declared.Refusal.TheVariants.{Argument, Limit, Short}
use Rattle.image.specs.declared.Opened.{Opened}
use Rattle.image.specs.Answer.{opened_of}
use Rattle.image.specs.Items.{packed, index_bytes, trailer_bytes, image_bytes}
use Rattle.image.specs.Index.{version_in, day_in, width}
use Rattle.image.proofs.Few.{opened-told}
use Rattle.image.proofs.Sizes.{length-image}
use Rattle.writer.specs.Writing.{on_written}
use Rattle.writer.specs.Picking.{picked, inside, picked_bytes, size_told, on_picked, picked_of, picked_out}
use Rattle.image.proofs.Payloads.{an_image}

pub picked-many : (s l : List ℕ) → length (picked s l) ≡ length l
unfolding picked
picked-many s [] = refl
picked-many s (x ∷ l) = omega (arith, picked-many s l)

module _ (s places : List ℕ) {n day version : ℕ} (is : opened_of s ≡ an_image n day version) (old : List ℕ) where
  pub picked-size : length (picked_bytes s places) ≡ length (packed (picked s places)) + width version * length places + 12
  unfolding picked_bytes
  picked-size =
      rw ((opened-told 1 2 s n day version is).2, sym (picked-many s places)) (length-image (version_in s) (picked s places) (day_in s))

  pub output-refused : {why : Refusal} → picked_of s places (length old) ≡ Err why → old ≡ picked_out s places old
  unfolding picked_out on_written
  output-refused e = simp e

  pub refused-many : 96 < length places → picked_of s places (length old) ≡ Err Argument
  unfolding picked_of on_picked
  refused-many h = rw (is, lt-leb _ _ h) refl

  module _ (few : length places ≤ 96) where
    pub refused-place : inside n places ≡ false → picked_of s places (length old) ≡ Err Argument
    unfolding picked_of on_picked
    refused-place h = rw (is, le-leb _ _ few, h) refl

    module _ (there : inside n places ≡ true) where
      pub refused-limit : 262144 < length (picked_bytes s places) → picked_of s places (length old) ≡ Err (Limit 0)
      unfolding picked_of on_picked size_told
      refused-limit h = rw (is, le-leb _ _ few, there, lt-leb _ _ h) refl

      module _ (small : length (picked_bytes s places) ≤ 262144) where
        pub refused-short : length old < length (picked_bytes s places) → picked_of s places (length old) ≡ Err Short
        unfolding picked_of on_picked size_told
        refused-short h = rw (is, le-leb _ _ few, there, le-leb _ _ small, lt-leb _ _ h) refl

        module _ (room : length (picked_bytes s places) ≤ length old) where
          pub all-written : picked_of s places (length old) ≡ Ok (length (picked_bytes s places))
          unfolding picked_of on_picked size_told
          all-written = rw (is, le-leb _ _ few, there, le-leb _ _ small, le-leb _ _ room) refl

          pub output-written :
              picked_out s places old
              ≡ ((packed (picked s places) ++ index_bytes version 0 (picked s places)) ++ trailer_bytes version (length (packed (picked s places))) (length places) day)
              ++ drop (length (picked_bytes s places)) old
          unfolding picked_out on_written picked_bytes image_bytes
          output-written =
              let t = opened-told 1 2 s n day version is in
              rw (all-written, t.2, t.1, sym (picked-many s places)) (sym (rw (append_assoc (packed (picked s places)) (index_bytes (version_in s) 0 (picked s places)) _) refl))

sized : (size room told : ℕ) → size_told size room ≡ Ok told → told ≡ size
unfolding size_told
sized size room told e = go (leb size 262144) (leb size room) e
  where
    go : (a b : Bool) → cond a (cond b (Ok size) (Err Short)) (Err (Limit 0)) ≡ Ok told → told ≡ size
    go true true e = cc
    go true false e = absurd (let z : ◌≡◌ {A = ℕ} 0 1 = cc in omega arith)
    go false b e = absurd (let z : ◌≡◌ {A = ℕ} 0 1 = cc in omega arith)

-- a length that is told is that of the image
pub told-length : (s places : List ℕ) (room size : ℕ) → picked_of s places room ≡ Ok size → size ≡ length (picked_bytes s places)
unfolding picked_of on_picked
told-length s places room size e = go (opened_of s) e
  where
    picks :
        (a b : Bool)
        → cond a (cond b (size_told (length (picked_bytes s places)) room) (Err Argument)) (Err Argument) ≡ Ok size
        → size ≡ length (picked_bytes s places)
    picks true true e = sized (length (picked_bytes s places)) room size e
    picks true false e = absurd (let z : ◌≡◌ {A = ℕ} 0 1 = cc in omega arith)
    picks false b e = absurd (let z : ◌≡◌ {A = ℕ} 0 1 = cc in omega arith)

    go : (a : Result Opened Refusal) → on_picked s places room a ≡ Ok size → size ≡ length (picked_bytes s places)
    go (Err refusal) e = absurd (let z : ◌≡◌ {A = ℕ} 0 1 = cc in omega arith)
    go (Ok o) e = picks (leb (length places) 96) (inside o.entries places) e
