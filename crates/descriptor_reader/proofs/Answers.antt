-- The answer of reading where the bytes before the samples are right. Assumes nothing.
use mathlib.Core.Path.{◌≡◌, refl, sym, ap, ◌∙◌}
use mathlib.Core.Bool.{true, not, cond, ◌&&◌}
use mathlib.Core.List.{List}
use Prim.Native.Nat.{ℕ}
use lib.Dec.{eqb}
use lib.ListN.{length, get_or}
use Rattle.lists.proofs.Tests.{and_left, and_right, pass, stop}
use Rattle.layout.specs.Layout.{bytes_known}
use Rattle.descriptor_reader.specs.Sample.{samples_in}
use Rattle.descriptor_samples.specs.declared.samples.Samples.{Samples}
use Rattle.descriptor_layout.specs.Told.{read_samples}
use Rattle.descriptor_reader.specs.Header.{zeros, header_right, color_right, planes_right}
use Rattle.std.specs.Prelude.{Result, Err}
use Rattle.refusal.specs.declared.Refusal.{Refusal}
use Rattle.layout.specs.declared.Layout.{Layout}
use Rattle.refusal.specs.declared.Refusal.TheVariants.{WrongPlanes}
use Rattle.descriptor_reader.specs.Reading.{read_descriptor}

-- the bytes a point are known
pub planes_bytes : (b : List ℕ) → planes_right b ≡ true → bytes_known (get_or b 20 0) ≡ true
unfolding planes_right
planes_bytes b e = and_right (zeros b 16 4) (bytes_known (get_or b 20 0)) (and_left (zeros b 16 4 && bytes_known (get_or b 20 0)) (zeros b 21 7) e)

module _ (b : List ℕ) (l : eqb (length b) 76 ≡ true) (h : header_right b ≡ true) (c : color_right b ≡ true) (e : planes_right b ≡ true) where
  -- the samples decide
  pub samples_decide : read_samples (get_or b 12 0) (get_or b 13 0) (get_or b 20 0) (samples_in b) ≡ read_descriptor b
  unfolding read_descriptor
  samples_decide = sym (pass _ (ap not l) (pass _ (ap not h) (pass _ (ap not c) (pass _ (ap not e) refl))))

  -- the same, of samples and an answer that were worked out
  pub decided_as : (s : Samples) (r : Result Layout Refusal) → s ≡ samples_in b
      → r ≡ cond (bytes_known (get_or b 20 0)) (read_samples (get_or b 12 0) (get_or b 13 0) (get_or b 20 0) s) (Err WrongPlanes)
      → r ≡ read_descriptor b
  decided_as s r q p = p ∙ stop _ (planes_bytes b e) ∙ ap (read_samples (get_or b 12 0) (get_or b 13 0) (get_or b 20 0)) q ∙ samples_decide
