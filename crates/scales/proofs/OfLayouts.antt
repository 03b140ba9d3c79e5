-- The scales of channels that are known, and those of a layout. Assumes nothing.
use mathlib.Core.Path.{◌≡◌, refl, sym, ap, subst}
use mathlib.Core.Bool.{Bool, true, false, ◌&&◌}
use Prim.Native.Nat.{ℕ}
use native.Mathlib.Omega.{arith}
use Rattle.layout.specs.declared.Layout.{Layout}
use Rattle.parameters.specs.declared.range.Range.{Range}
use Rattle.parameters.specs.Parameters.{model_known, range_known, range_of, depth_known, channel_known, kind_of}
use Rattle.layout.specs.Layout.{valid_layout}
use Rattle.lists.proofs.Tests.{and_left, and_right}
use Rattle.layout.proofs.Facts.{valid_says}
use Rattle.parameters.proofs.Depths.{steps, known_between}
use Rattle.scale.specs.declared.Scale.{Scale}
use Rattle.scale.specs.Scale.{scale_of}
use Rattle.scales.specs.Channel.{scale_at, known_scale}
use Rattle.scales.specs.Scales.{scales_of, known_scales}
use Rattle.float_scale.specs.inner.Floats.{Fine}
use Rattle.scales.specs.inner.Fitted.{Fitted}
use Rattle.float_scale.proofs.Fine.{fine}
use Rattle.std.specs.Prelude.{Some, None}
use Rattle.parameters.specs.declared.channels.Channels.{Channels}
use Rattle.scales.proofs.Known.{scale_told}

pub fine_known : (model range n channel : ℕ) {sc : Scale} → known_scale model range n channel ≡ Some sc → Fine sc
fine_known model range n channel e =
    let told = scale_told model range n channel e in
    let m = model_known model in
    let r = range_known range in
    let d = known_between n (and_right (m && r) (depth_known n) (and_left (m && r && depth_known n) (channel_known channel) told.0)) in
    subst Fine (sym told.1) (fine (range_of range) (kind_of model channel) n (steps n d.0 d.1))

pub fine_at : (l : Layout) (j : ℕ) (sc : Scale) → valid_layout l ≡ true → sc ≡ scale_at l j → Fine sc
fine_at l j sc ok e = let v = valid_says l ok in subst Fine (sym e) (fine (range_of l.range) (kind_of l.model j) l.depth (steps l.depth v.depth_least v.depth_most))

-- ---- the scales of a layout
module _ (l : Layout) where
  pub scales_are : {r : Range} {bits : ℕ} → r ≡ range_of l.range → bits ≡ l.depth
      → Some (record { channel0 = scale_of r bits (kind_of l.model 0); channel1 = scale_of r bits (kind_of l.model 1); channel2 = scale_of r bits (kind_of l.model 2) }) ≡ Some (scales_of l)
  scales_are e f i = Some (record { channel0 = scale_of (e i) (f i) (kind_of l.model 0); channel1 = scale_of (e i) (f i) (kind_of l.model 1); channel2 = scale_of (e i) (f i) (kind_of l.model 2) })

  -- and for who asked
  pub scales_told : (valid : Bool) {s : Channels Scale} → known_scales valid l ≡ Some s → (valid ≡ true) × Fitted l s
  scales_told true {s} e = let f : s ≡ scales_of l = cc in (refl, record { fitted0 = ap (λ (x : Channels Scale). x.channel0) f; fitted1 = ap (λ (x : Channels Scale). x.channel1) f; fitted2 = ap (λ (x : Channels Scale). x.channel2) f })
  scales_told false e = let z : ◌≡◌ {A = ℕ} 0 1 = cc in absurd (omega arith)

  pub scales_unknown : (valid : Bool) → known_scales valid l ≡ None → valid ≡ false
  scales_unknown true e = let z : ◌≡◌ {A = ℕ} 0 1 = cc in absurd (omega arith)
  scales_unknown false e = refl
