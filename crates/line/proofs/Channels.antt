-- Three channels written make the line. Assumes nothing.
use mathlib.Core.Path.{◌≡◌, refl, sym, ap, ap₂, ◌∙◌}
use mathlib.Core.Logic.{⊎_elim}
use mathlib.Core.List.{List}
use Prim.Native.Nat.{ℕ, zero, suc, ◌+◌, ◌*◌, ◌/◌, ◌%◌, ◌≤◌, ◌<◌}
use native.Mathlib.Nat.{not-suc-le-zero, le_of_suc-le-suc, eq-or-lt_of_le}
use native.Mathlib.Numerals.{add-one}
use native.Mathlib.Omega.{arith}
use lib.ListN.{length, get_or, set, length-set}
use lib.Seq.{get_or-set_same, get_or-set_other}
use Rattle.lists.specs.Lists.{tabulate}
use Rattle.lists.proofs.Lists.{is_tabulate}
use Rattle.line.specs.inner.Channels.{channel_written, channels_written}

module _ {A : Type 0} (g : ℕ → A) where
  pub channel_none : (xs : List A) (j : ℕ) → xs ≡ channel_written xs g j 0
  unfolding channel_written
  channel_none xs j = refl

  -- one store more
  pub channel_more : (xs ys : List A) (j n : ℕ) (x : A) → ys ≡ channel_written xs g j n → x ≡ g (3 * n + j) → set ys (3 * n + j) x ≡ channel_written xs g j (n + 1)
  unfolding channel_written
  channel_more xs ys j n x e q = ap₂ (λ (zs : List A) (z : A). set zs (3 * n + j) z) e q ∙ ap (channel_written xs g j) (sym (add-one n))

  pub channels_none : (xs : List A) (n : ℕ) → xs ≡ channels_written xs g n 0
  unfolding channels_written
  channels_none xs n = refl

  -- one channel more
  pub channels_more : (xs ys zs : List A) (n k : ℕ) → ys ≡ channels_written xs g n k → zs ≡ channel_written ys g k n → zs ≡ channels_written xs g n (k + 1)
  unfolding channels_written
  channels_more xs ys zs n k e q = q ∙ ap (λ (ws : List A). channel_written ws g k n) e ∙ ap (channels_written xs g n) (sym (add-one k))

  pub length_channel : (xs : List A) (j n : ℕ) → length (channel_written xs g j n) ≡ length xs
  unfolding channel_written
  length_channel xs j zero = refl
  length_channel xs j (suc n) = length-set (channel_written xs g j n) (3 * n + j) (g (3 * n + j)) ∙ length_channel xs j n

  pub length_channels : (xs : List A) (n k : ℕ) → length (channels_written xs g n k) ≡ length xs
  unfolding channels_written
  length_channels xs n zero = refl
  length_channels xs n (suc k) = length_channel (channels_written xs g n k) k n ∙ length_channels xs n k

  -- the channel's own places hold what g has there, and all others what they held
  own_place : (d : A) (xs : List A) (j n i : ℕ) → j < 3 → 3 * n ≤ length xs → i < n → get_or (channel_written xs g j n) (3 * i + j) d ≡ g (3 * i + j)
  unfolding channel_written
  own_place d xs j zero i hj fits h = absurd (not-suc-le-zero h)
  own_place d xs j (suc n) i hj fits h =
      let last : (p : i ≡ n) → get_or (channel_written xs g j (suc n)) (3 * i + j) d ≡ g (3 * i + j) = λ p. rw p (get_or-set_same (channel_written xs g j n) (3 * n + j) (g (3 * n + j)) d (omega (arith, length_channel xs j n))) in
      ⊎_elim last
      (λ l. get_or-set_other (channel_written xs g j n) (3 * n + j) (3 * i + j) (g (3 * n + j)) d (λ q. omega arith) ∙ own_place d xs j n i hj (omega arith) l)
      (eq-or-lt_of_le (le_of_suc-le-suc h))

  other_place : (d : A) (xs : List A) (j n m : ℕ) → m % 3 < j → j < 3 → get_or (channel_written xs g j n) m d ≡ get_or xs m d
  unfolding channel_written
  other_place d xs j zero m h hj = refl
  other_place d xs j (suc n) m h hj = get_or-set_other (channel_written xs g j n) (3 * n + j) m (g (3 * n + j)) d (λ q. omega arith) ∙ other_place d xs j n m h hj

  -- after k channels, their places hold what g has there
  after : (d : A) (xs : List A) (n k m : ℕ) → k ≤ 3 → 3 * n ≤ length xs → m < 3 * n → m % 3 < k → get_or (channels_written xs g n k) m d ≡ g m
  unfolding channels_written
  after d xs n zero m hk fits h r = absurd (not-suc-le-zero r)
  after d xs n (suc k) m hk fits h r =
      let ys : List A = channels_written xs g n k in
      let here : (p : m % 3 ≡ k) → get_or (channel_written ys g k n) m d ≡ g m = λ p.
      let e : 3 * (m / 3) + k ≡ m = omega arith in
      ap (λ (i : ℕ). get_or (channel_written ys g k n) i d) (sym e) ∙ own_place d ys k n (m / 3) (omega arith) (omega (arith, length_channels xs n k)) (omega arith) ∙ ap g e in
      ⊎_elim here
      (λ l. other_place d ys k n m l (omega arith) ∙ after d xs n k m (omega arith) fits h l)
      (eq-or-lt_of_le (le_of_suc-le-suc r))

  -- three channels written make the line
  pub channels_all : (d : A) (xs ys : List A) (n k : ℕ) → k ≡ 3 → length xs ≡ 3 * n → ys ≡ channels_written xs g n k → ys ≡ tabulate (3 * n) g
  channels_all d xs ys n k e3 e q =
      q ∙ ap (channels_written xs g n) e3
      ∙ is_tabulate d (channels_written xs g n 3) (3 * n) g (length_channels xs n 3 ∙ e) (λ m h. after d xs n 3 m (omega arith) (omega (arith, e)) h (omega arith))
