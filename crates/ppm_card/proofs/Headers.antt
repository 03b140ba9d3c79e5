-- What an accepted header says. Assumes nothing.
use mathlib.Core.Path.{◌≡◌}
use mathlib.Core.Bool.{true, ◌&&◌}
use mathlib.Core.List.{List}
use Prim.Native.Nat.{ℕ, ◌*◌, ◌≤◌}
use native.Mathlib.Nat.{mul-le-mul}
use borrow.Author.Tests.{leb-true}
use lib.Dec.{leb}
use Rattle.lists.proofs.Tests.{and_right, and3}
use Rattle.ppm_header.specs.Header.{most_picture_points}
use Rattle.ppm_header.specs.declared.Header.{Header}
use Rattle.ppm_header.specs.Header.{largest_picture_side, side_taken, top_known, header_known, read_header}
use Rattle.std.specs.Prelude.{Ok}
use Rattle.ppm_header.proofs.Claims.{no_other}

side_most : (side : ℕ) → side_taken side ≡ true → side ≤ largest_picture_side
side_most side e = leb-true side largest_picture_side (and_right (leb 1 side) (leb side largest_picture_side) e)

pub few-points : (width height top : ℕ) → header_known width height top ≡ true → width * height ≤ most_picture_points
few-points width height top k =
    let s = and3 (side_taken width) (side_taken height) (top_known top) k in
    mul-le-mul {n₂ = 4096} {m₂ = 4096} (side_most width s.0) (side_most height s.1)

pub top_known_lem : (width height top : ℕ) → header_known width height top ≡ true → top_known top ≡ true
top_known_lem width height top k = and_right (side_taken width && side_taken height) (top_known top) k

pub header_known_lem : (ppm : List ℕ) (h : Header) → read_header ppm ≡ Ok h → header_known h.width h.height h.top ≡ true
header_known_lem ppm h e = (no_other ppm h.width h.height h.top h.length e).0
