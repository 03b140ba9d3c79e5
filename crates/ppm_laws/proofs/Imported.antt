-- What an accepted import says. Assumes nothing.
use mathlib.Core.Path.{◌≡◌, refl, sym}
use mathlib.Core.Bool.{Bool, true, false, not, cond}
use mathlib.Core.List.{List}
use Prim.Native.Nat.{ℕ, ◌*◌}
use native.Mathlib.Omega.{arith}
use lib.ListN.{length}
use Rattle.ppm_header.specs.Header.{read_header}
use Rattle.ppm_card.specs.Card.{depth_of_top, given_known, import_fits}
use Rattle.ppm_import.specs.Import.{codes_after, import_read, import_answer}
use Rattle.std.specs.Prelude.{Result, Ok, Err}
use Rattle.refusal.specs.declared.Refusal.TheVariants.{Outside, WrongLineOrOutput, WrongPicture}
use Rattle.refusal.specs.declared.Refusal.{Refusal}
use Rattle.ppm_header.specs.declared.Header.{Header}
use Rattle.line.specs.Line.{codes_within}

-- a row that did not apply
passed : (t : Bool) (k : Refusal) (n : ℕ) (rest : Result ℕ Refusal) → cond (not t) (Err k) rest ≡ Ok n → (t ≡ true) × (rest ≡ Ok n)
passed true k n rest h = (refl, h)
passed false k n rest h = let z : ◌≡◌ {A = ℕ} 0 1 = cc in absurd (omega arith)

-- the header behind an accepted import, and that all else is right
pub record Imported (ppm : List ℕ) (item primaries card packed n : ℕ) : Type 0 where
  pub width : ℕ
  pub height : ℕ
  pub top : ℕ
  pub head : ℕ
  pub given : given_known item primaries ≡ true
  pub read : read_header ppm ≡ Ok (record { width = width; height = height; top = top; length = head })
  pub fits : import_fits top (width * height) head (length ppm) card packed ≡ true
  pub count : n ≡ width * height

pub imported : (ppm : List ℕ) (item primaries card packed n : ℕ) → import_answer ppm item primaries card packed ≡ Ok n → Imported ppm item primaries card packed n
unfolding import_answer
imported ppm item primaries card packed n h =
    let a = passed (given_known item primaries) Outside n (import_read (read_header ppm) ppm card packed) h in
    of a.0 (read_header ppm) refl a.1
  where
    same : (a b : ℕ) → ◌≡◌ {A = Result ℕ Refusal} (Ok a) (Ok b) → a ≡ b
    same a b e = cc

    of : given_known item primaries ≡ true → (r : Result Header Refusal) → read_header ppm ≡ r → import_read r ppm card packed ≡ Ok n → Imported ppm item primaries card packed n
    of g (Err k) r h = let z : ◌≡◌ {A = ℕ} 0 1 = cc in absurd (omega arith)
    of g (Ok x) r h =
        let within = codes_within (depth_of_top x.top) (codes_after x.top x.length ppm) in
        let points = x.width * x.height in
        let a = passed (import_fits x.top points x.length (length ppm) card packed) WrongLineOrOutput n (cond (not within) (Err WrongPicture) (Ok points)) h in
        let b = passed within WrongPicture n (Ok points) a.1 in
        record { width = x.width; height = x.height; top = x.top; head = x.length; given = g; read = r; fits = a.0; count = same n points (sym b.1) }
