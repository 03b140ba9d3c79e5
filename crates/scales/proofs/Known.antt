-- The scale of a channel, by the tests that lead to it. Assumes nothing.
use mathlib.Core.Path.{◌≡◌, refl, sym, ap, ◌∙◌}
use mathlib.Core.Bool.{Bool, true, false, cond, ◌&&◌}
use Prim.Native.Nat.{ℕ, ◌<◌}
use native.Mathlib.Omega.{arith}
use borrow.Author.Tests.{lt-ltb}
use Rattle.lists.proofs.Tests.{pass, stop}
use Rattle.layout.specs.declared.Layout.{Layout}
use Rattle.parameters.specs.declared.range.Range.{Range}
use Rattle.parameters.specs.Parameters.{model_known, range_known, range_of, depth_known, channel_known, kind_of}
use Rattle.layout.specs.Layout.{valid_layout}
use Rattle.layout.proofs.Facts.{valid_says}
use Rattle.scale.specs.declared.Scale.{Scale}
use Rattle.scale.specs.Scale.{scale_of}
use Rattle.std.specs.Prelude.{Some, None}
use Rattle.scales.specs.Channel.{channel_known_at, channel_scale, known_scale}

-- the four tests in the code's order
in_order : (m r d c : Bool) → m && r && d && c ≡ m && c && r && d
in_order false r d c = refl
in_order true true true true = refl
in_order true true true false = refl
in_order true true false true = refl
in_order true true false false = refl
in_order true false d true = refl
in_order true false d false = refl

and_false : (a : Bool) → a && false ≡ false
and_false true = refl
and_false false = refl

module _ (model range n channel : ℕ) where
  known_as : channel_known_at model range n channel ≡ model_known model && channel_known channel && range_known range && depth_known n
  known_as = in_order (model_known model) (range_known range) (depth_known n) (channel_known channel)

  -- ---- how the code finds the scale
  no_scale : channel_known_at model range n channel ≡ false → None ≡ known_scale model range n channel
  no_scale e = sym (pass _ e refl)

  pub no_channel : model_known model && channel_known channel ≡ false → None ≡ known_scale model range n channel
  no_channel e = no_scale (known_as ∙ ap (λ (t : Bool). t && range_known range && depth_known n) e)

  pub no_range_lem : range_known range ≡ false → None ≡ known_scale model range n channel
  no_range_lem e =
      no_scale
      (known_as ∙ ap (λ (t : Bool). model_known model && channel_known channel && t && depth_known n) e
      ∙ ap (λ (t : Bool). t && depth_known n) (and_false (model_known model && channel_known channel)))

  pub no_depth : depth_known n ≡ false → None ≡ known_scale model range n channel
  no_depth e =
      no_scale
      (known_as ∙ ap (λ (t : Bool). model_known model && channel_known channel && range_known range && t) e
      ∙ and_false (model_known model && channel_known channel && range_known range))

  pub scale_is : {r : Range} {bits : ℕ} → model_known model && channel_known channel ≡ true → range_known range ≡ true → depth_known n ≡ true → r ≡ range_of range → bits ≡ n
      → Some (scale_of r bits (kind_of model channel)) ≡ known_scale model range n channel
  scale_is k f g e h =
      (λ i. Some (scale_of (e i) (h i) (kind_of model channel)))
      ∙ sym (stop _ (known_as ∙ (λ i. k i && f i && g i)))

  -- ---- what the scale that was found says
  pub scale_told : {sc : Scale} → known_scale model range n channel ≡ Some sc → (channel_known_at model range n channel ≡ true) × (sc ≡ channel_scale model range n channel)
  scale_told {sc} e = go (channel_known_at model range n channel) e
    where
      go : (t : Bool) → cond t (Some (channel_scale model range n channel)) None ≡ Some sc → (t ≡ true) × (sc ≡ channel_scale model range n channel)
      go true e = (refl, cc)
      go false e = let z : ◌≡◌ {A = ℕ} 0 1 = cc in absurd (omega arith)

  pub scale_unknown : known_scale model range n channel ≡ None → channel_known_at model range n channel ≡ false
  scale_unknown e = go (channel_known_at model range n channel) e
    where
      go : (t : Bool) → cond t (Some (channel_scale model range n channel)) None ≡ None → t ≡ false
      go true e = let z : ◌≡◌ {A = ℕ} 0 1 = cc in absurd (omega arith)
      go false e = refl

-- a valid layout has three channels
pub channel_known_lem : (l : Layout) (j : ℕ) → valid_layout l ≡ true → j < 3 → channel_known_at l.model l.range l.depth j ≡ true
channel_known_lem l j ok h = let r = valid_says l ok in (λ i. r.model i && r.range i && r.depth i && lt-ltb j 3 h i)
