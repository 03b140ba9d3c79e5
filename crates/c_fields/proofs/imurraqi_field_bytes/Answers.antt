-- `imurraqi_field_bytes` meets its contract, case by case of the answer. Assumes nothing.
use mathlib.Core.Path.{refl, sym, ◌∙◌}
use Prim.Native.Nat.{◌≤◌}
use native.Mathlib.Omega.{arith}
use Rattle.c_types.proofs.Numbers.{kept, count_fits}
use Rattle.c_fields.proofs.Small.{held_small}
use Rattle.c_fields.proofs.imurraqi_field_bytes.Goals as goal

pub overflow_cast-first : goal.overflow_cast-first
overflow_cast-first c =
    let within : (c.in-Ok.field.first ≤ 8) × (c.in-Ok.field.count ≤ 8) = held_small _ _ _ (sym c.field_bytes.ensures ∙ c.in-Ok.is) in
    omega (arith, within)

pub overflow_cast-result : goal.overflow_cast-result
overflow_cast-result c =
    let within : (c.in-Ok.field.first ≤ 8) × (c.in-Ok.field.count ≤ 8) = held_small _ _ _ (sym c.field_bytes.ensures ∙ c.in-Ok.is) in
    count_fits _ (omega (arith, within))

pub returns-in-Ok : goal.returns-in-Ok
returns-in-Ok c =
    let within : (c.in-Ok.field.first ≤ 8) × (c.in-Ok.field.count ≤ 8) = held_small _ _ _ (sym c.field_bytes.ensures ∙ c.in-Ok.is) in
    record {
      answer = rw (← c.layout_of.ensures, ← c.field_bytes.ensures, c.in-Ok.is) (kept c.in-Ok.field.count (omega (arith, within)));
      memory = rw (← c.layout_of.ensures, ← c.field_bytes.ensures, c.in-Ok.is) refl;
    }
