-- The pieces of a header, and how long they are. Assumes nothing.
use mathlib.Core.Path.{◌≡◌}
use Prim.Native.Nat.{ℕ, ◌+◌, ◌^◌, ◌≤◌, ◌<◌}
use native.Mathlib.Omega.{arith}
use lib.ListN.{length, length-append}
use Rattle.text_writer.specs.Decimal.{decimal}
use Rattle.text_writer.specs.declared.TextWriter.{TextWriter}
use Rattle.text_writer.specs.Put.{Wrote}
use Rattle.text_writer.specs.Words.{space, newline}
use Rattle.text_writer.proofs.Decimal.{length-decimal}
use Rattle.text_writer.proofs.Puts.{wrote_join}
use Rattle.ppm_header.specs.Text.{magic, sides_text, header_text}

-- ---- lengths

length_sides : (width height : ℕ) → length (sides_text width height) ≡ length (decimal width) + 1 + length (decimal height) + 1
unfolding sides_text
length_sides width height = simp length-append

length_lines : (width height top : ℕ) → length (header_text width height top) ≡ 3 + length (sides_text width height) + length (decimal top) + 1
unfolding header_text
length_lines width height top = simp length-append

pub length_header : (width height top : ℕ) → length (header_text width height top) ≡ 6 + length (decimal width) + length (decimal height) + length (decimal top)
length_header width height top = omega (arith, length_lines width height top, length_sides width height)

-- a number of 16 bits has at most five digits
pub few-digits : (n : ℕ) → n < 2 ^ 16 → length (decimal n) ≤ 5
few-digits n h = length-decimal 4 n (omega arith)

pub header_short : (width height top : ℕ) → width < 2 ^ 16 → height < 2 ^ 16 → top < 2 ^ 16 → length (header_text width height top) ≤ 21
header_short width height top w h t =
    omega (arith, length_header width height top, few-digits width w, few-digits height h, few-digits top t)

-- ---- piece by piece

module _ {w₀ w₁ w₂ w₃ w₄ : TextWriter} where
  pub sides_put : (width height : ℕ) → Wrote (decimal width) w₀ w₁ → Wrote space w₁ w₂ → Wrote (decimal height) w₂ w₃ → Wrote newline w₃ w₄ → Wrote (sides_text width height) w₀ w₄
  unfolding sides_text
  sides_put width height a b c d = wrote_join (wrote_join (wrote_join a b) c) d

  pub header_put : (width height top : ℕ) → Wrote magic w₀ w₁ → Wrote (sides_text width height) w₁ w₂ → Wrote (decimal top) w₂ w₃ → Wrote newline w₃ w₄ → Wrote (header_text width height top) w₀ w₄
  unfolding header_text
  header_put width height top a b c d = wrote_join (wrote_join (wrote_join a b) c) d
