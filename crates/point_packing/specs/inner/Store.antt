-- What the stores of packed points leave, as the code does it. A reader need not believe it: proofs/ shows that they fill in `packed_of`. Assumes nothing.
use Rattle.std.specs.Prelude.{ℕ, zero, suc, ◌+◌, ◌*◌, Bool, cond, ◌&&◌, List, leb, length, get_or}
use Rattle.lists.specs.Bytes.{byte_of}
use Rattle.lists.specs.inner.Stores.{written}
use Rattle.line.specs.Answer.{most_points}

-- the numbers v 0, .., v (k - 1) stored in eight bytes each, at their points' places from point i on
unfoldable pub stored : ℕ → List ℕ → ℕ → ℕ → List ℕ → List ℕ
stored size v i zero xs = xs
stored size v i (suc k) xs = written (stored size v i k xs) (size * (i + k)) (byte_of (get_or v k 0)) 8

-- so many points, from point i on, fit in so many bytes
abbrev pub points_fit : ℕ → ℕ → ℕ → ℕ → Bool
points_fit size i count bytes = leb 3 size && leb size 8 && leb i 4096 && leb (size * (i + count)) bytes

-- of the last eight: two of them in their own bytes alone
unfoldable pub stored_last : ℕ → List ℕ → ℕ → List ℕ → List ℕ
unfolding stored
stored_last size v i xs =
    cond (points_fit size i 8 (length xs))
    (written (written (stored size v i 6 xs) (size * (i + 6)) (byte_of (get_or v 6 0)) size) (size * (i + 7)) (byte_of (get_or v 7 0)) size) xs

-- of eight, which two more may follow
unfoldable pub stored_eight : ℕ → List ℕ → ℕ → List ℕ → List ℕ
unfolding stored stored_last
stored_eight size v i xs = cond (points_fit size i 10 (length xs)) (stored size v i 8 xs) (stored_last size v i xs)

-- the same, where so many cuts are no more than the values of a line
abbrev pub stored_counted : ℕ → List ℕ → ℕ → ℕ → List ℕ → List ℕ
stored_counted size v i cuts xs = cond (leb cuts (3 * most_points)) (stored_eight size v i xs) xs

-- of one
unfoldable pub stored_one : ℕ → ℕ → ℕ → List ℕ → List ℕ
stored_one size v i xs = cond (points_fit size i 1 (length xs)) (written xs (size * i) (byte_of v) size) xs
