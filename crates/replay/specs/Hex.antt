-- Bytes written in hexadecimal digits.
use Rattle.std.specs.Prelude.{ℕ, ◌+◌, ◌/◌, ◌%◌, cond, List, [], ◌∷◌, nat_lt}

-- the lower-case digit of a value below 16: from 0, code 48, and from a, code 97
abbrev pub digit : ℕ → ℕ
digit v = cond (nat_lt v 10) (48 + v) (87 + v)

-- two digits for each byte, the high one first
abbrev pub digits : List ℕ → List ℕ
digits [] = []
digits (b ∷ bs) = digit (b / 16) ∷ digit (b % 16) ∷ digits bs

-- the same, and - (code 45) for no bytes
abbrev pub written : List ℕ → List ℕ
written [] = 45 ∷ []
written (b ∷ bs) = digits (b ∷ bs)
