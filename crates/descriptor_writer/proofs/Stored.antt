-- A descriptor's parts stored one after the other. Assumes nothing.
use mathlib.Core.Path.{◌≡◌, refl, sym, ap, ap₂, ◌∙◌}
use mathlib.Core.List.{List, ◌++◌, append_assoc}
use Prim.Native.Nat.{ℕ, ◌+◌}
use lib.ListN.{length}
use lib.Seq.{sets}
use Rattle.lists.specs.Bytes.{bytes_of}
use Rattle.lists.proofs.Copies.{sets_join, sets_whole}
use Rattle.layout.specs.declared.Layout.{Layout}
use Rattle.descriptor_samples.specs.declared.sample.Sample.{Sample}
use Rattle.descriptor_samples.specs.declared.samples.Samples.{Samples}
use Rattle.descriptor_writer.specs.Sample.{sample_bytes, samples_of}
use Rattle.descriptor_writer.specs.Writing.{front_bytes, samples_bytes, descriptor_bytes}

-- a part stored right after another
then_stored : (out x y a b : List ℕ) (at next : ℕ) → x ≡ sets out at a → y ≡ sets x next b → next ≡ at + length a → y ≡ sets out at (a ++ b)
then_stored out x y a b at next p q e = q ∙ ap₂ (λ (zs : List ℕ) (m : ℕ). sets zs m b) p e ∙ sets_join out at a b

-- the bytes of a layout and of three samples
abbrev parts : Layout → Samples → List ℕ
parts l s = front_bytes l ++ (sample_bytes s.first ++ (sample_bytes s.second ++ sample_bytes s.third))

length_parts : (l : Layout) (s : Samples) → length (parts l s) ≡ 76
unfolding front_bytes sample_bytes bytes_of
length_parts l s = refl

-- where they lie
module _ (l : Layout) (a b : Sample) where
  second_place : 28 ≡ 0 + length (front_bytes l)
  unfolding front_bytes bytes_of
  second_place = refl

  third_place : 44 ≡ 0 + length (front_bytes l ++ sample_bytes a)
  unfolding front_bytes sample_bytes bytes_of
  third_place = refl

  fourth_place : 60 ≡ 0 + length ((front_bytes l ++ sample_bytes a) ++ sample_bytes b)
  unfolding front_bytes sample_bytes bytes_of
  fourth_place = refl

-- all four parts, stored one after the other, are the descriptor
pub descriptor_stored : (l : Layout) (s : Samples) (out x0 x1 x2 x3 : List ℕ) → length out ≡ 76 → s ≡ samples_of l
    → x0 ≡ sets out 0 (front_bytes l) → x1 ≡ sets x0 28 (sample_bytes s.first) → x2 ≡ sets x1 44 (sample_bytes s.second) → x3 ≡ sets x2 60 (sample_bytes s.third)
    → x3 ≡ descriptor_bytes l
unfolding descriptor_bytes samples_bytes
descriptor_stored l s out x0 x1 x2 x3 n e p0 p1 p2 p3 =
    let f = front_bytes l in
    let a = sample_bytes s.first in
    let b = sample_bytes s.second in
    let c = sample_bytes s.third in
    let q1 = then_stored out x0 x1 f a 0 28 p0 p1 (second_place l s.first s.second) in
    let q2 = then_stored out x1 x2 (f ++ a) b 0 44 q1 p2 (third_place l s.first s.second) in
    let q3 = then_stored out x2 x3 ((f ++ a) ++ b) c 0 60 q2 p3 (fourth_place l s.first s.second) in
    q3
    ∙ ap (sets out 0) (append_assoc (f ++ a) b c ∙ append_assoc f a (b ++ c))
    ∙ sets_whole out (parts l s) (n ∙ sym (length_parts l s))
    ∙ ap (parts l) e
