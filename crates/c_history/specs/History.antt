-- The history of one card as C sees it (include/imurraqi.h). Assumes nothing.
use Rattle.std.specs.Prelude.{ℕ, List, [], ◌∷◌, ◌++◌, ℤ, pos, neg_ℤ, replicate, Result, Ok, Err}
use Rattle.custody.specs.declared.Replayed.{Replayed}
use Rattle.refusal.specs.declared.Refusal.{Refusal}
use Rattle.refusal.specs.Refusal.{number_of}
use Rattle.card_table.specs.declared.facts.Facts.{Facts}
use Rattle.c_types.specs.Layouts.{layout_bytes}

-- the last reading: 0 and its layout, width, height, item and access, or the refusal's number and zeros
abbrev pub read_numbers : Result Facts Refusal → List ℕ
read_numbers (Ok f) = 0 ∷ (layout_bytes f.layout ++ (f.width ∷ f.height ∷ f.item ∷ f.access ∷ []))
read_numbers (Err k) = number_of k ∷ replicate 13 0

-- the decoding: 0 and the count of points, or the refusal's number and 0
abbrev pub decoded_numbers : Result ℕ Refusal → List ℕ
decoded_numbers (Ok n) = 0 ∷ n ∷ []
decoded_numbers (Err k) = number_of k ∷ 0 ∷ []

-- 0 for a history that began
abbrev pub replay_number : Result Replayed Refusal → ℤ
replay_number (Ok r) = pos 0
replay_number (Err k) = neg_ℤ (pos (number_of k))

-- what stands behind the last two pointers, as before where it did not begin
abbrev pub replay_read : Result Replayed Refusal → List ℕ → List ℕ
replay_read (Ok r) before = read_numbers r.reading
replay_read (Err k) before = before

abbrev pub replay_decoded : Result Replayed Refusal → List ℕ → List ℕ
replay_decoded (Ok r) before = decoded_numbers r.decoding
replay_decoded (Err k) before = before
