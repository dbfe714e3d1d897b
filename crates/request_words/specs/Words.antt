-- The words for a line: what it asks for, or the number it is refused by. Assumes nothing.
use Rattle.std.specs.Prelude.{ℕ, List, [], ◌∷◌, ◌++◌, Ok, Err, codes, decimal, Result}
use Prim.Native.String.{String}
use Rattle.frames.specs.declared.faults.ReadFault.{ReadFault}
use Rattle.frames.specs.declared.request.Request.{Request}
use Rattle.frames.specs.declared.request.Request.TheVariants.{Open, Arm, Cancel, Advance, Close, ArmByPurpose}
use Rattle.frames.specs.Hex.{hex}
use Rattle.frames.specs.Numbers.{read_number}
use Rattle.frames.specs.Reading.{big_endian}

abbrev pub hex_byte : ℕ → List ℕ
hex_byte b = hex (b ∷ [])

abbrev pub hex_time : ℕ → List ℕ
hex_time t = hex (big_endian 8 t)

abbrev pub request_words : Request → List ℕ
request_words (Open kind device start) = codes "open time-kind=" ++ (hex_byte kind ++ (codes " device=" ++ (hex_byte device ++ (codes " start=" ++ hex_time start))))
request_words (Arm number soft hard) = codes "arm number=" ++ (decimal number ++ (codes " soft=" ++ (hex_time soft ++ (codes " hard=" ++ hex_time hard))))
request_words (Cancel number) = codes "cancel number=" ++ decimal number
request_words (Advance to) = codes "advance to=" ++ hex_time to
request_words Close = codes "close"
request_words (ArmByPurpose number purpose) = codes "arm-by-purpose number=" ++ (decimal number ++ (codes " purpose=" ++ hex_byte purpose))

-- what comes after the line's number
abbrev pub answer_words : Result Request ReadFault → List ℕ
answer_words (Ok request) = request_words request
answer_words (Err fault) = codes "refused " ++ hex_byte (read_number fault)

-- a line's words, with its number
abbrev pub line_words : ℕ → Result Request ReadFault → List ℕ
line_words n answer = decimal n ++ (codes ": " ++ answer_words answer)

-- a label, and what stands for a value
abbrev pub numbered : String → ℕ → List ℕ
numbered label n = codes label ++ decimal n

abbrev pub byted : String → ℕ → List ℕ
byted label b = codes label ++ hex_byte b

abbrev pub timed : String → ℕ → List ℕ
timed label t = codes label ++ hex_time t

-- a line's words with its number, and the line feed, 10
abbrev pub full_line : ℕ → Result Request ReadFault → List ℕ
full_line n answer = decimal n ++ (codes ": " ++ (answer_words answer ++ 10 ∷ []))
