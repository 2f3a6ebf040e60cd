-- What is known of an image that was read: what its trailer tells, its octets and how many they can be.
use Rattle.std.specs.Prelude.{ℕ, ◌<◌, ◌≤◌, ◌≡◌, List, length, get_or}
use Rattle.image.specs.Index.{entry_count, version_in, day_in}

pub record Read (s : List ℕ) (entries day version : ℕ) : Type 0 where
  pub count : entries ≡ entry_count s
  pub few : entries ≤ 96
  pub dated : day ≡ day_in s
  pub form : version ≡ version_in s
  pub small : length s ≤ 262144
  pub octets : (i : ℕ) → get_or s i 0 < 256
