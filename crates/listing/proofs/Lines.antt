-- The pieces of a line, and how long they are. Assumes nothing.
use mathlib.Core.Path.{◌≡◌, refl, sym}
use mathlib.Core.List.{List}
use Prim.Native.Nat.{ℕ, ◌+◌}
use borrow.Author.Tests.{eq-eqb, ne_eqb}
use lib.ListN.{length, length-append}
use Rattle.lists.proofs.Tests.{pass, stop}
use Rattle.text_writer.specs.Decimal.{decimal}
use Rattle.text_writer.specs.Words.{space, newline}
use Rattle.listing.specs.Words.{by, closed_word, community_word, open_word, access_word}
use Rattle.listing.specs.List.{item_text, size_text, number_line}
use Rattle.text_writer.specs.declared.TextWriter.{TextWriter}
use Rattle.text_writer.specs.Put.{Wrote}
use Rattle.text_writer.proofs.Puts.{wrote_join}

-- ---- the word of an access

pub word_open : (access : ℕ) → access ≡ 2 → open_word ≡ access_word access
unfolding access_word
word_open access e = sym (stop _ (eq-eqb access 2 e))

pub word_community : (access : ℕ) → (access ≡ 2 → ⊥) → access ≡ 1 → community_word ≡ access_word access
unfolding access_word
word_community access n e = sym (pass _ (ne_eqb access 2 n) (stop _ (eq-eqb access 1 e)))

pub word_closed : (access : ℕ) → (access ≡ 2 → ⊥) → (access ≡ 1 → ⊥) → closed_word ≡ access_word access
unfolding access_word
word_closed access n m = sym (pass _ (ne_eqb access 2 n) (pass _ (ne_eqb access 1 m) refl))

-- ---- lengths

pub length_item : (item access : ℕ) → length (item_text item access) ≡ length (decimal item) + 1 + length (access_word access) + 1
unfolding item_text
length_item item access = simp length-append

pub length_size : (width height : ℕ) → length (size_text width height) ≡ length (decimal width) + 1 + length (decimal height) + 1
unfolding size_text
length_size width height = simp length-append

pub length_line : (words : List ℕ) (n : ℕ) → length (number_line words n) ≡ length words + length (decimal n) + 1
unfolding number_line
length_line words n = simp length-append

-- ---- piece by piece

module _ {w₀ w₁ w₂ w₃ w₄ : TextWriter} where
  pub item_put : (item access : ℕ) → Wrote (decimal item) w₀ w₁ → Wrote space w₁ w₂ → Wrote (access_word access) w₂ w₃ → Wrote space w₃ w₄ → Wrote (item_text item access) w₀ w₄
  unfolding item_text
  item_put item access a b c d = wrote_join (wrote_join (wrote_join a b) c) d

  pub size_put : (width height : ℕ) → Wrote (decimal width) w₀ w₁ → Wrote by w₁ w₂ → Wrote (decimal height) w₂ w₃ → Wrote newline w₃ w₄ → Wrote (size_text width height) w₀ w₄
  unfolding size_text
  size_put width height a b c d = wrote_join (wrote_join (wrote_join a b) c) d

pub line_put : (words : List ℕ) (n : ℕ) {w₀ w₁ w₂ w₃ : TextWriter} → Wrote words w₀ w₁ → Wrote (decimal n) w₁ w₂ → Wrote newline w₂ w₃ → Wrote (number_line words n) w₀ w₃
unfolding number_line
line_put words n a b c = wrote_join (wrote_join a b) c
