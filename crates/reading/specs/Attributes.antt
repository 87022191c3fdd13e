-- Reading attributes.
use Rattle.std.specs.Prelude.{ℕ, cond, List, [], ◌∷◌, ◌++◌}
use Rattle.std.specs.Str.{bytes_eq}
use Rattle.kinds.specs.declared.kind.Kind.TheVariants.{Str, Colon, RCurly}
use Rattle.lexer.specs.declared.token.Token.{Token}
use Rattle.lexer.specs.Tokens.{part_of}
use Rattle.pages.specs.declared.fault.Fault.{Fault}
use Rattle.pages.specs.declared.fault.FaultKind.TheVariants.{Unexpected, NoString, RepeatedKey}
use Rattle.pages.specs.declared.rows.Attribute.{Attribute}
use Rattle.pages.specs.Faults.{fault_with}
use Rattle.reading.specs.Ahead.{next, at, attributes_follow}
use Rattle.reading.specs.Settings.{Setting}
use Rattle.reading.specs.Readings.{attributed}
use Rattle.reading.specs.Steps.{got, Reader, add, bind, test, word, str, identifier}
use Rattle.reading.specs.Braces.{braced}

-- an identifier name or a string
unfoldable pub key : Reader Token
key e ts = test (at Str ts) (str Unexpected e ts) (identifier e ts)

-- key: "value"
unfoldable pub attribute : Reader Attribute
attribute e ts =
    bind (key e ts) λ k e₁ m. bind (word Colon e₁ m) λ _ e₂ n. bind (str NoString e₂ n) λ v e₃ r.
    got (attributed k v) [] e₃ r

-- the text of a key
abbrev pub key_text : List ℕ → Attribute → List ℕ
key_text text a = part_of text a.key.text

-- A key whose text stands among those before, the last of them first: with the last such key's span and its own.
unfoldable pub repeated : List ℕ → List Attribute → Attribute → List Fault
repeated text [] a = []
repeated text (b ∷ before) a =
    cond (bytes_eq (key_text text b) (key_text text a)) (fault_with RepeatedKey b.key.span a.key.span ∷ []) (repeated text before a)

unfoldable pub repeats : List ℕ → List Attribute → List Attribute → List Fault
repeats text before [] = []
repeats text before (a ∷ l) = repeated text before a ++ repeats text (a ∷ before) l

unfoldable pub attributes : Setting → List ℕ → Reader (List Attribute)
attributes w text e ts =
    test (attributes_follow (next ts))
    (bind (word (next ts).kind e ts) λ _ e₁ m.
    bind (braced attribute RCurly w.attributes e₁ m) λ l e₂ n.
    add (repeats text [] l) (got l [] e₂ n))
    (got [] [] e ts)
