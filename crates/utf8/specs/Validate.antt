-- Whether bytes are well-formed UTF-8, and else where their longest well-formed start ends and how they break off there.
use Rattle.std.specs.Prelude.{List, [], ◌∷◌, ℕ, zero, suc, ◌+◌, Result, Ok, Err}
use Rattle.utf8.specs.Table.{char_length}
use Rattle.utf8.specs.ErrorLen.{error_len}
use Rattle.utf8.specs.declared.Utf8Error.{Utf8Error}

-- what is said of bytes
abbrev pub Validity : Type 0
Validity = Result (Unit {0}) Utf8Error

-- what is said where no character stands: the offset, and how the bytes from there on break off
abbrev pub error_at : ℕ → List ℕ → Utf8Error
error_at n bs = record { valid_up_to = n; error_len = error_len bs }

-- the bytes from offset n on, of which the first k belong to the character before
unfoldable pub validate_from : ℕ → ℕ → List ℕ → Validity
validate_from k n [] = Ok tt
validate_from (suc k) n (b ∷ bs) = validate_from k (n + 1) bs
validate_from zero n (b ∷ bs) = elim (char_length (b ∷ bs)) [ zero ↦ Err (error_at n (b ∷ bs)) | suc k ↦ validate_from k (n + 1) bs ]

abbrev pub validate : List ℕ → Validity
validate s = validate_from 0 0 s
