-- A code, as a float and back, is the code, clamped, and cut exactly if it lies outside the ends: rounding moves span * value by less than half a code. Assumes nothing.
use mathlib.Core.Path.{◌≡◌, refl, sym, ap, ap₂, ◌∙◌, subst}
use Prim.Native.Nat.{ℕ, ◌+◌, ◌*◌, ◌^◌, ◌≤◌, ◌<◌}
use native.Mathlib.Nat.{add-mul, mul_left_comm, mul-le-mul_right}
use native.Mathlib.Omega.{arith}
use mathlib.Core.Bool.{Bool, true, false, not, cond, ◌||◌}
use borrow.Author.Tests.{ltb-true, ltb-false, lt-ltb, le-ltb, le-leb, lt-leb}
use lib.Dec.{T, ltb, leb, ltb→lt, nltb→le}
use lib.IntN.{pos}
use lib.Pow.{pow_pos}
use lib.Ieee.{binary32}
use lib.Ieee.Scale.{grid}
use Rattle.parameters.specs.declared.range.Range.{Range}
use Rattle.parameters.specs.declared.kind.Kind.{Kind}
use Rattle.parameters.specs.Parameters.{top_of}
use Rattle.parameters.proofs.Depths.{steps}
use Rattle.fractions.specs.Fraction.{bounded, is_cut, clamped}
use Rattle.fractions.proofs.Cuts.{outside}
use Rattle.scale.specs.declared.Scale.{Scale}
use Rattle.scale.specs.Scale.{low_end, high_end, scale_of}
use Rattle.scale.specs.Value.{value_of}
use Rattle.quantization.specs.Code.{code_of}
use Rattle.float_scale.specs.inner.Floats.{strictly}
use Rattle.floats.proofs.Sums.{signed_sum}
use Rattle.quantization.proofs.Codes.{Small, whole_code, code_of_value_lem, quotient_is}
use Rattle.scale.proofs.Scales.{ends}
use Rattle.float_scale.proofs.Fine.{fine}
use Rattle.quantization_laws.proofs.Units.{U, Near, unit, unit_lt, kept_near, grid_is, round_value}
use Rattle.std.specs.Prelude.{Some}
use Rattle.quantization_laws.proofs.Values.{gap, value_rounds}

-- strictly between c and c + 1, with 4096 more, a number lies outside the ends exactly if c does: also where the lower end is strict
between : (strict : Bool) (low high c a d : ℕ) → (c + 4096) * d < a → a < (c + 4097) * d → outside strict low high a d ≡ is_cut low high (pos c)
between strict low high c a d l r = ap₂ (λ (s t : Bool). s || t) (lower (ltb c low) refl) (upper (ltb high c) refl)
  where
    more : (t : Bool) → cond t 1 0 ≤ 1
    more true = omega arith
    more false = omega arith

    lower : (t : Bool) → ltb c low ≡ t → ltb a ((low + 4096) * d + cond strict 1 0) ≡ t
    lower true e = lt-ltb a ((low + 4096) * d + cond strict 1 0) (omega (arith, mul-le-mul_right {m = c + 4097} {n = low + 4096} d (omega (arith, ltb-true c low e))))
    lower false e = le-ltb a ((low + 4096) * d + cond strict 1 0) (omega (arith, more strict, mul-le-mul_right {m = low + 4096} {n = c + 4096} d (omega (arith, ltb-false c low e))))

    upper : (t : Bool) → ltb high c ≡ t → leb ((high + 4097) * d) a ≡ t
    upper true e = le-leb ((high + 4097) * d) a (omega (arith, mul-le-mul_right {m = high + 4097} {n = c + 4096} d (omega (arith, ltb-true high c e))))
    upper false e = lt-leb ((high + 4097) * d) a (omega (arith, mul-le-mul_right {m = c + 4097} {n = high + 4097} d (omega (arith, ltb-false high c e))))

-- less than half a code from c, so that c is what it is rounded to, and what lies outside the ends or not
lands : (sc : Scale) (c g u b : ℕ) → b < u → Near (sc.span * g) (gap c sc.base * u) b → whole_code sc (ltb c sc.base) g u ≡ clamped sc.low sc.high (pos c)
unfolding Near
lands sc c g u b B n =
    let w = go (ltb c sc.base) (ltb→lt c sc.base) (nltb→le c sc.base) in
    let z = signed_sum (ltb c sc.base) (2 * (sc.base * u) + u) (2 * (sc.span * g)) in
    let whole = ap (bounded sc.low sc.high) (quotient_is c z u (omega (arith, w.0)) w.1) in
    let cut = ap (λ (a : ℕ). outside (strictly sc.rounding) sc.low sc.high a (2 * u)) (w.2 (4096 * (2 * u)))
    ∙ between (strictly sc.rounding) sc.low sc.high c (z + 4096 * (2 * u)) (2 * u) (omega (arith, w.0, add-mul c 4096 (2 * u), mul_left_comm c 2 u)) (omega (arith, w.1, add-mul c 4097 (2 * u), mul_left_comm c 2 u)) in
    λ i. record { code = whole i; cut = cut i }
  where
    go : (t : Bool) → (T t → c < sc.base) → (T (not t) → sc.base ≤ c)
        → let x = 2 * (sc.base * u) + u in
        let y = 2 * (sc.span * g) in
        (2 * (c * u) < signed_sum t x y) × (signed_sum t x y < 2 * (c * u) + 2 * u) × ((m : ℕ) → signed_sum t (x + m) y ≡ signed_sum t x y + m)
    go true l r =
        let l' : c < sc.base = l tt in
        let e : sc.base ≡ c + gap c sc.base = omega arith in
        let f : sc.base * u ≡ c * u + gap c sc.base * u = ap (λ (x : ℕ). x * u) e ∙ add-mul c (gap c sc.base) u in
        (omega arith, omega arith, λ m. omega arith)
    go false l r =
        let r' : sc.base ≤ c = r tt in
        let e : c ≡ sc.base + gap c sc.base = omega arith in
        let f : c * u ≡ sc.base * u + gap c sc.base * u = ap (λ (x : ℕ). x * u) e ∙ add-mul sc.base (gap c sc.base) u in
        (omega arith, omega arith, λ m. omega arith)

-- at any scale: the code, clamped, and cut exactly if it lies outside the ends
pub code_returns_clamped : (sc : Scale) → Small sc → 0 < sc.span → (strictly sc.rounding ≡ true → sc.low ≡ 0) → (c : ℕ) → c < 2 ^ 16 → code_of sc (value_of sc c) ≡ Some (clamped sc.low sc.high (pos c))
code_returns_clamped sc k S zero c h =
    let s = ltb c sc.base in
    let d = gap c sc.base in
    let p = sc.span in
    let D : d < 65536 = omega arith in
    let g = grid binary32 d p in
    ap (code_of sc) (value_rounds sc c S)
    ∙ code_of_value_lem sc zero _ s g U (pow_pos 149) (round_value d p S k.span D s)
    ∙ ap Some (lands sc c g U (unit d p) (unit_lt d p S k.span D) (subst (λ (x : ℕ). Near x (d * U) (unit d p)) (sym (grid_is d p S k.span D)) (kept_near d p S k.span D)))

-- ---- the paper's scales, once over n
pub record Paper (sc : Scale) : Type 0 where
  pub small : Small sc
  pub some : 0 < sc.span
  pub zero : strictly sc.rounding ≡ true → sc.low ≡ 0

pub paper : (r : Range) (k : Kind) (n : ℕ) → 8 ≤ n → n ≤ 12 → Paper (scale_of r n k)
paper r k n lo hi =
    let f = fine r k n (steps n lo hi) in
    record { small = record { base = omega (arith, f.base); span = omega (arith, f.span); high = omega (arith, f.high) }; some = f.some; zero = f.zero }

-- every code of every range, kind and depth comes back, clamped, and cut exactly if it lies outside the ends
pub code_returns : (r : Range) (k : Kind) (n c : ℕ) → 8 ≤ n → n ≤ 12 → c ≤ top_of n → code_of (scale_of r n k) (value_of (scale_of r n k) c) ≡ Some (clamped (low_end r n) (high_end r n) (pos c))
code_returns r k n c lo hi h =
    let sc = scale_of r n k in
    let q = paper r k n lo hi in
    let t = steps n lo hi in
    let e = ends r k n in
    code_returns_clamped sc q.small q.some q.zero c (omega arith) ∙ ap₂ (λ (x y : ℕ). Some (clamped x y (pos c))) e.0 e.1
