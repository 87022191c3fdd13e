-- The rules of a record, as the vectors name them.
use Rattle.std.specs.Prelude.{ℕ, cond, List, [], ◌∷◌, Some, None, codes, Option, nat_lt}
use Rattle.lexer.specs.declared.entry.Broken.{Broken}
use Rattle.lexer.specs.declared.entry.Broken.TheVariants.{CutShort, NoKind, OtherMark, BadEnd, OutsideText}
use Rattle.lexer.specs.Entries.{rule_number}

abbrev pub word_of : Broken → List ℕ
word_of CutShort = codes "cut"
word_of NoKind = codes "kind"
word_of OtherMark = codes "mark"
word_of BadEnd = codes "end"
word_of OutsideText = codes "part"

abbrev pub rules : List Broken
rules = CutShort ∷ NoKind ∷ OtherMark ∷ BadEnd ∷ OutsideText ∷ []

-- of two rules the one with the smaller number, and none where one is none
abbrev pub earlier : Option Broken → Option Broken → Option Broken
earlier None b = None
earlier (Some a) None = None
earlier (Some a) (Some b) = Some (cond (nat_lt (rule_number a) (rule_number b)) a b)
