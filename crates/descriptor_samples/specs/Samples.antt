-- The three samples of a descriptor by their numbers: document 01, "Descriptor". Assumes nothing.
use Rattle.std.specs.Prelude.{ℕ, ◌+◌, ◌*◌, Bool, not, cond, ◌&&◌, eqb, leb, Option, Some, None}
use Rattle.parameters.specs.declared.range.Range.{Range}
use Rattle.parameters.specs.declared.range.Range.TheVariants.{Narrow, Full, LegacyFull}
use Rattle.parameters.specs.Parameters.{depth_known, channel_known, kind_of}
use Rattle.descriptor_samples.specs.declared.sample.Sample.{Sample}
use Rattle.descriptor_samples.specs.declared.samples.Samples.{Samples}
use Rattle.descriptor_samples.specs.Limits.{lower_of, upper_of}

-- ---- which samples are right: row 5

-- each channel appears once
abbrev pub each_once : ℕ → ℕ → ℕ → Bool
each_once a b c = channel_known a && channel_known b && channel_known c && not (eqb a b) && not (eqb a c) && not (eqb b c)

-- n of 8, 10 or 12, one for all three; given are the bytes that hold n - 1
abbrev pub one_depth : ℕ → ℕ → ℕ → Bool
one_depth a b c = depth_known (a + 1) && eqb b a && eqb c a

-- fields of n bits at rising bit offsets, which do not overlap and lie within the point's bytes
abbrev pub in_order : ℕ → ℕ → ℕ → ℕ → ℕ → Bool
in_order n a b c bytes = leb (a + n) b && leb (b + n) c && leb (c + n) (8 * bytes)

-- offsets, lengths, channels, positions and order are right
unfoldable pub samples_right : ℕ → Samples → Bool
samples_right bytes s =
    one_depth s.first.length s.second.length s.third.length
    && eqb s.first.position 0
    && eqb s.second.position 0
    && eqb s.third.position 0
    && each_once s.first.channel s.second.channel s.third.channel
    && in_order (s.first.length + 1) s.first.offset s.second.offset s.third.offset bytes

-- ---- the range that samples of n bits state: row 6

-- a sample's lower and upper numbers are the range's, for its channel's kind
unfoldable pub states : ℕ → Range → ℕ → Sample → Bool
states model range n s = eqb s.lower (lower_of range n) && eqb s.upper (upper_of range n (kind_of model s.channel))

-- all three do
unfoldable pub all_state : ℕ → Range → ℕ → Samples → Bool
all_state model range n s = states model range n s.first && states model range n s.second && states model range n s.third

-- the range that all three state, or that they state no one range
unfoldable pub range_in : ℕ → ℕ → Samples → Option Range
range_in model n s =
    cond (all_state model Narrow n s) (Some Narrow)
    (cond (all_state model Full n s) (Some Full)
    (cond (all_state model LegacyFull n s) (Some LegacyFull)
    None))
