-- Lists of tokens as the lines of a vector.
use Rattle.std.specs.Prelude.{ℕ, ◌+◌, ◌-◌, ◌*◌, ◌^◌, min, cond, List, [], ◌∷◌, ◌++◌, codes, decimal}
use Rattle.kinds.specs.Numbers.{number as number_of}
use Rattle.lexer.specs.declared.token.Part.{Part}
use Rattle.lexer.specs.declared.token.Span.{Span}
use Rattle.lexer.specs.declared.token.Token.{Token}
use Rattle.lexer.specs.declared.placed.Placed.{Placed}
use Rattle.lexer.specs.declared.entry.Ending.{Ending}
use Rattle.lexer.specs.declared.entry.Ending.TheVariants.{AtEof, AtEnd, AtBad}
use Rattle.replay.specs.Rules.{word_of}

-- 1 for a new line, 2 for an escape, 4 for a lone surrogate
abbrev pub marks : Token → ℕ
marks t = cond t.new_line 1 0 + cond t.escaped 2 0 + cond t.lone 4 0

-- a line of a kind's number, a span, a part and marks
abbrev pub line_of : ℕ → Span → Part → ℕ → List ℕ
line_of kind span part marked =
    codes "token " ++ (decimal kind ++ (codes " " ++ (decimal span.start ++ (codes "-" ++ (decimal span.end
    ++ (codes " " ++ (decimal part.place ++ (codes " " ++ (decimal part.len ++ (codes " " ++ (decimal marked ++ codes "\n")))))))))))

abbrev pub token_line : Token → List ℕ
token_line t = line_of (number_of t.kind) t.span t.text (marks t)

abbrev pub token_lines : List Token → List ℕ
token_lines [] = []
token_lines (t ∷ ts) = token_line t ++ token_lines ts

-- the same of tokens with their places, which a line does not say
abbrev pub placed_lines : List Placed → List ℕ
placed_lines [] = []
placed_lines (p ∷ ps) = token_line p.token ++ placed_lines ps

-- the first byte of the record of a number, of fourteen bytes each
abbrev pub offset : ℕ → ℕ
offset n = min (n * 14) (2 ^ 64 - 1)

abbrev pub end_line : Ending → List ℕ
end_line (AtEof n) = codes "ends eof " ++ (decimal (offset n) ++ codes "\n")
end_line (AtEnd n) = codes "ends bytes " ++ (decimal (offset n) ++ codes "\n")
end_line (AtBad n b) = codes "ends bad " ++ (decimal (offset n) ++ (codes " " ++ (word_of b ++ codes "\n")))

abbrev pub list_lines : List Token → Ending → List ℕ
list_lines ts e = token_lines ts ++ end_line e
