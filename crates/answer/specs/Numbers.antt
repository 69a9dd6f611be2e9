-- Document 01's number of a status, and its four numbers of an answer. Assumes nothing: these are definitions.
use Rattle.std.specs.Prelude.{ℕ}
use Rattle.answer.specs.declared.Answer.{Answer}
use Rattle.answer.specs.declared.Answer.TheVariants.{LimitOutOfRange, TooLong, NotUtf8, TokenRoom, Refused, OutputRoom, Accepted}
use Rattle.answer.specs.declared.Status.{Status}
use Rattle.answer.specs.declared.Status.TheVariants as status
use Rattle.answer.specs.declared.FourNumbers.{FourNumbers}

abbrev pub status_number : Status → ℕ
status_number status.Accepted = 0
status_number status.TooLong = 1
status_number status.NotUtf8 = 2
status_number status.TokenRoom = 3
status_number status.Refused = 4
status_number status.OutputRoom = 5
status_number status.FewCounts = 6
status_number status.LimitOutOfRange = 9

abbrev pub row : ℕ → ℕ → ℕ → ℕ → FourNumbers
row status first second third = record { status = status; first = first; second = second; third = third }

abbrev pub numbers : Answer → FourNumbers
numbers LimitOutOfRange = row 9 0 0 0
numbers TooLong = row 1 0 0 0
numbers (NotUtf8 e) = row 2 e.valid_up_to e.error_len 0
numbers (TokenRoom t) = row 3 t 0 0
numbers (Refused n) = row 4 n 0 0
numbers (OutputRoom t e d) = row 5 t e d
numbers (Accepted t e d) = row 0 t e d
