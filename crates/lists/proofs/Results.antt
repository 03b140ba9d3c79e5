-- What the result of `ok_or` says of the option that it was made of. Assumes nothing.
use mathlib.Core.Path.{◌≡◌, refl, ap}
use native.Mathlib.Omega.{arith}
use Rattle.std.specs.Prelude.{ℕ, Option, Some, None, Result, Ok, Err, IsErr, IsErrAnd, ok_or}

-- there was none, and the error is the one that was given
pub none_of_err : {T E : Type 0} (o : Option T) (e : E) {x : E} → ok_or o e ≡ Err x → (o ≡ None) × (e ≡ x)
none_of_err None e h = (refl, cc)
none_of_err (Some t) e h = let z : ◌≡◌ {A = ℕ} 0 1 = cc in absurd (omega arith)

-- it was there
pub some_of_ok : {T E : Type 0} (o : Option T) (e : E) {t : T} → ok_or o e ≡ Ok t → o ≡ Some t
some_of_ok None e h = let z : ◌≡◌ {A = ℕ} 0 1 = cc in absurd (omega arith)
some_of_ok (Some u) e {t} h = let same : u ≡ t = cc in ap Some same

-- what `?` hands on is the error that it found
pub handed_on : {T E : Type 0} (r : Result T E) (e : E) → IsErr r × IsErrAnd r (λ x. x ≡ e) → r ≡ Err e
handed_on (Ok t) e h = absurd h.1
handed_on (Err x) e h = ap Err h.1
