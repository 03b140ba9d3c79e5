-- What each row of the refusal slip is numbered (document 01, "Numbers on the refusal slip", with rows 16 to 18 of requests A6 and A7), beside the definition `number_of`: claims speak of rows by name, and callers of C see these numbers. proofs/Claims.antt proves it. Assumes nothing.
use Rattle.std.specs.Prelude.{◌≡◌}
use Rattle.refusal.specs.Refusal.{number_of}
use Rattle.refusal.specs.declared.Refusal.TheVariants.{WrongLength, WrongHeader, WrongColor, WrongPlanes, WrongSample, NoRange, UnknownEdition, LaterEdition, Outside, UnknownAccess, Unwritable, NotANumber, WrongLineOrOutput, CodeTooHigh, NoItem, OddCount, NotOpen, WrongPicture}

abbrev pub NumberedAsPrinted : Type 0
NumberedAsPrinted =
    (number_of WrongLength ≡ 1)
    × (number_of WrongHeader ≡ 2)
    × (number_of WrongColor ≡ 3)
    × (number_of WrongPlanes ≡ 4)
    × (number_of WrongSample ≡ 5)
    × (number_of NoRange ≡ 6)
    × (number_of UnknownEdition ≡ 7)
    × (number_of LaterEdition ≡ 8)
    × (number_of Outside ≡ 9)
    × (number_of UnknownAccess ≡ 10)
    × (number_of Unwritable ≡ 11)
    × (number_of NotANumber ≡ 12)
    × (number_of WrongLineOrOutput ≡ 13)
    × (number_of CodeTooHigh ≡ 14)
    × (number_of NoItem ≡ 15)
    × (number_of OddCount ≡ 16)
    × (number_of NotOpen ≡ 17)
    × (number_of WrongPicture ≡ 18)
