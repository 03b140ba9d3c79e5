-- A line written channel by channel. Only contracts of private functions cite it, and a reader need not believe it: proofs/Channels.antt shows that three channels written make the line. Assumes nothing.
use Rattle.std.specs.Prelude.{List, set}
use Prim.Native.Nat.{ℕ, zero, suc, ◌+◌, ◌*◌}

module _ {A : Type 0} where
  -- xs, with what g has for channel j of points 0 .. n - 1 stored there
  unfoldable pub channel_written : List A → (ℕ → A) → ℕ → ℕ → List A
  channel_written xs g j zero = xs
  channel_written xs g j (suc n) = set (channel_written xs g j n) (3 * n + j) (g (3 * n + j))

  -- the same of channels 0 .. k - 1, one after the other
  unfoldable pub channels_written : List A → (ℕ → A) → ℕ → ℕ → List A
  unfolding channel_written
  channels_written xs g n zero = xs
  channels_written xs g n (suc k) = channel_written (channels_written xs g n k) g k n
