-- The claim of specs/Claims.antt. Assumes nothing.
use mathlib.Core.Path.{refl}
use Rattle.refusal_laws.specs.Claims.{NumberedAsPrinted}

pub numbered_as_printed : NumberedAsPrinted
numbered_as_printed = (refl, refl, refl, refl, refl, refl, refl, refl, refl, refl, refl, refl, refl, refl, refl, refl, refl, refl)
