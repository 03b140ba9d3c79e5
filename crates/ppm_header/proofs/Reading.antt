-- Where the numbers of a header stand, and the answer for them. Assumes nothing.
use mathlib.Core.Path.{◌≡◌, refl, sym, ap, ap₂, ◌∙◌}
use mathlib.Core.Bool.{Bool, true, false, ◌&&◌}
use mathlib.Core.List.{List, ◌∷◌, ◌++◌, append_assoc}
use Prim.Native.Nat.{ℕ, ◌+◌, ◌^◌, ◌<◌}
use lib.ListN.{length, length-append}
use lib.Seq.{drop_at}
use Rattle.lists.proofs.Tests.{pass, stop}
use Rattle.text_writer.specs.Decimal.{decimal}
use Rattle.text_writer.specs.Words.{space, newline}
use Rattle.ppm_header.specs.Text.{magic, sides_text, header_text}
use Rattle.ppm_header.specs.Header.{leading, number_from, begins, header_known, header_of, read_header}
use Rattle.ppm_header.proofs.Numbers.{number_read}
use Rattle.std.specs.Prelude.{Ok, Err}
use Rattle.refusal.specs.declared.Refusal.TheVariants.{WrongPicture}
use Rattle.ppm_header.proofs.Fronts.{begins-front}

-- ---- the answer for three numbers

module _ (s : List ℕ) (w h t : ℕ) where
  -- by the two tests, as the code has them
  module _ {known same : Bool} (k : known ≡ header_known w h t) (b : same ≡ begins (header_text w h t) s) where
    pub accepted : known && same ≡ true → Ok (record { width = w; height = h; top = t; length = (length (header_text w h t)) }) ≡ header_of s w h t
    unfolding header_of
    accepted e = sym (stop _ (sym (ap₂ ◌&&◌ k b) ∙ e))

    pub refused : known && same ≡ false → Err WrongPicture ≡ header_of s w h t
    unfolding header_of
    refused e = sym (pass _ (sym (ap₂ ◌&&◌ k b) ∙ e) refl)

-- ---- where the numbers stand

abbrev at_height : ℕ → ℕ
at_height w = 3 + length (decimal w) + 1

abbrev at_top : ℕ → ℕ → ℕ
at_top w h = at_height w + length (decimal h) + 1

-- the three numbers as they are found, with the count of digits of the first two
pub read_is : (s : List ℕ) {w h t j k : ℕ} → w ≡ number_from s 3 → j ≡ length (decimal w) → h ≡ number_from s (3 + j + 1) → k ≡ length (decimal h) → t ≡ number_from s (3 + j + 1 + k + 1)
    → header_of s w h t ≡ read_header s
unfolding read_header
read_is s {w} {h} a p b q c =
    ap (header_of s w h) (c ∙ ap₂ (λ (x y : ℕ). number_from s (3 + x + 1 + y + 1)) p q)
    ∙ ap (λ (y : ℕ). header_of s w y (number_from s (at_top w y))) (b ∙ ap (λ (x : ℕ). number_from s (3 + x + 1)) p)
    ∙ ap (λ (x : ℕ). let y = number_from s (at_height x) in header_of s x y (number_from s (at_top x y))) a

module _ (w h t : ℕ) (rest : List ℕ) where
  abbrev whole : List ℕ
  whole = header_text w h t ++ rest

  -- what stands behind the height
  abbrev after_height : List ℕ
  after_height = 10 ∷ (decimal t ++ (10 ∷ rest))

  gives_width : w < 10 ^ 4 → number_from whole 3 ≡ w
  unfolding header_text sides_text
  gives_width l =
      let e : whole ≡ magic ++ (decimal w ++ (32 ∷ (decimal h ++ after_height))) = simp append_assoc in
      ap (λ (s : List ℕ). number_from s 3) e ∙ number_read w 32 _ l refl

  gives_height : h < 10 ^ 4 → number_from whole (at_height w) ≡ h
  unfolding header_text sides_text
  gives_height l =
      let front = magic ++ decimal w ++ space in
      let e : whole ≡ front ++ (decimal h ++ after_height) = simp append_assoc in
      ap (λ (s : List ℕ). number_from s (at_height w)) e
      ∙ ap (leading 4 0) (drop_at front (decimal h ++ after_height) (at_height w) (simp length-append))
      ∙ number_read h 10 _ l refl

  gives_top : t < 10 ^ 4 → number_from whole (at_top w h) ≡ t
  unfolding header_text sides_text
  gives_top l =
      let front = magic ++ decimal w ++ space ++ decimal h ++ newline in
      let e : whole ≡ front ++ (decimal t ++ (10 ∷ rest)) = simp append_assoc in
      ap (λ (s : List ℕ). number_from s (at_top w h)) e
      ∙ ap (leading 4 0) (drop_at front (decimal t ++ (10 ∷ rest)) (at_top w h) (simp length-append))
      ∙ number_read t 10 _ l refl

  pub gives_back : w < 10 ^ 4 → h < 10 ^ 4 → t < 10 ^ 4 → header_known w h t ≡ true → read_header whole ≡ Ok (record { width = w; height = h; top = t; length = (length (header_text w h t)) })
  gives_back a b c k =
      sym (read_is whole (sym (gives_width a)) refl (sym (gives_height b)) refl (sym (gives_top c)))
      ∙ sym (accepted whole w h t (sym k) (sym (begins-front (header_text w h t) rest)) refl)
