-- The number of every refusal is small. Assumes nothing.
use Prim.Native.Nat.{◌≤◌}
use native.Mathlib.Omega.{arith}
use Rattle.refusal.specs.declared.Refusal.{Refusal}
use Rattle.refusal.specs.declared.Refusal.TheVariants.{WrongLength, WrongHeader, WrongColor, WrongPlanes, WrongSample, NoRange, UnknownEdition, LaterEdition, Outside, UnknownAccess, Unwritable, NotANumber, WrongLineOrOutput, CodeTooHigh, NoItem, OddCount, NotOpen, WrongPicture}
use Rattle.refusal.specs.Refusal.{number_of}

pub number_small : (k : Refusal) → number_of k ≤ 18
number_small WrongLength = omega arith
number_small WrongHeader = omega arith
number_small WrongColor = omega arith
number_small WrongPlanes = omega arith
number_small WrongSample = omega arith
number_small NoRange = omega arith
number_small UnknownEdition = omega arith
number_small LaterEdition = omega arith
number_small Outside = omega arith
number_small UnknownAccess = omega arith
number_small Unwritable = omega arith
number_small NotANumber = omega arith
number_small WrongLineOrOutput = omega arith
number_small CodeTooHigh = omega arith
number_small NoItem = omega arith
number_small OddCount = omega arith
number_small NotOpen = omega arith
number_small WrongPicture = omega arith
