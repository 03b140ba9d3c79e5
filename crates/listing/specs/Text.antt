-- What writing a text into an output answers, and what the output then holds. Assumes nothing.
use Rattle.std.specs.Prelude.{ℕ, cond, List, ◌++◌, ltb, length, drop, Result, Ok, Err, is_ok}
use Rattle.refusal.specs.declared.Refusal.TheVariants.{WrongLineOrOutput}
use Rattle.refusal.specs.declared.Refusal.{Refusal}
use Rattle.lists.specs.Lists.{new_or_kept}

-- no line of a card is longer: 20 digits, `community`, 4096x4096, two spaces and the newline
abbrev pub longest_line : ℕ
longest_line = 41

-- nor any list: a first line of at most 16, and 1,024 of cards
abbrev pub longest_list : ℕ
longest_list = 42000

-- a list's text, written to an output of so many bytes: 13 if not every list would fit, else the bytes of the text
unfoldable pub text_answer : List ℕ → ℕ → Result ℕ Refusal
text_answer text bytes = cond (ltb bytes longest_list) (Err WrongLineOrOutput) (Ok (length text))

-- the output afterwards: the text, and behind it what was there before; or as before where it is refused
unfoldable pub text_output : List ℕ → List ℕ → List ℕ
text_output text before = new_or_kept (is_ok (text_answer text (length before))) (text ++ drop (length text) before) before
