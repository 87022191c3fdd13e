-- Reading exports.
use Rattle.std.specs.Prelude.{ℕ, ◌+◌, min, cond, List, [], ◌∷◌, ◌++◌, take, drop, Some, None, Ok, Err, Option, Result}
use Rattle.std.specs.List.{slice_get}
use Rattle.kinds.specs.declared.kind.Kind.TheVariants.{As, From, Star, LCurly, RCurly, Default, Import, Export}
use Rattle.lexer.specs.declared.token.Token.{Token}
use Rattle.lexer.specs.Tokens.{part_of}
use Rattle.pages.specs.declared.fault.Fault.{Fault}
use Rattle.pages.specs.declared.fault.FaultKind.TheVariants.{Foreign, Full, ExportString, ExportReserved, SecondExport}
use Rattle.pages.specs.declared.rows.Name.{Name}
use Rattle.pages.specs.declared.rows.Specifier.{Specifier}
use Rattle.pages.specs.declared.rows.Attribute.{Attribute}
use Rattle.pages.specs.Faults.{fault_at, fault_of_host}
use Rattle.reading.specs.declared.naming.Naming.{Naming}
use Rattle.reading.specs.Ahead.{next, at, span_here}
use Rattle.reading.specs.Settings.{Setting}
use Rattle.reading.specs.Hosts.{Host}
use Rattle.reading.specs.Readings.{specified, reserved_text, Clause, all_from, names_from, names, declared, defaulted, last_end, tokens_at, named}
use Rattle.reading.specs.Steps.{Out, stop, got, Reader, stop_at, add, bind, test, word, name, ending}
use Rattle.reading.specs.Braces.{braced}
use Rattle.reading.specs.Attributes.{attributes}
use Rattle.reading.specs.Imports.{alias, from_source}

unfoldable pub export_specifier : Reader Specifier
export_specifier e ts = bind (name e ts) λ x e₁ m. bind (alias x e₁ m) λ y e₂ n. got (specified x y) [] e₂ n

-- what is wrong with a local name, where no module is named
unfoldable pub export_local : List ℕ → Name → List Fault
export_local text x =
    cond x.string (fault_at ExportString x.span ∷ [])
    (cond (reserved_text (part_of text x.text)) (fault_at ExportReserved x.span ∷ []) [])

unfoldable pub locals : List ℕ → List Specifier → List Fault
locals text [] = []
locals text (s ∷ l) = export_local text s.name ++ locals text l

-- from "m", attributes, end
unfoldable pub sourced : Setting → List ℕ → (Token → List Attribute → Clause) → Reader Clause
sourced w text f e ts =
    bind (from_source e ts) λ s e₁ m. bind (attributes w text e₁ m) λ l e₂ n. bind (ending e₂ n) λ _ e₃ r. got (f s l) [] e₃ r

-- * [as x] from "m"
unfoldable pub export_all : Setting → List ℕ → Reader Clause
export_all w text e ts =
    bind (word Star e ts) λ _ e₁ m.
    test (at As m)
    (bind (word As e₁ m) λ _ e₂ n. bind (name e₂ n) λ x e₃ o. sourced w text (all_from (Some x)) e₃ o)
    (sourced w text (all_from None) e₁ m)

-- { .. } [from "m"]
unfoldable pub export_braces : Setting → List ℕ → Reader Clause
export_braces w text e ts =
    bind (braced export_specifier RCurly w.names e ts) λ l e₁ m.
    test (at From m)
    (sourced w text (names_from l) e₁ m)
    (add (locals text l) (bind (ending e₁ m) λ _ e₂ n. got (names l) [] e₂ n))

-- the first name without room, if there is one
unfoldable pub room_for : {A : Type 0} → Option Token → Out A → Out A
room_for None o = o
room_for (Some t) o = stop (fault_at Full t.span)

-- the host's declaration, by its answer
unfoldable pub declared_by : Setting → List Token → Result (ℕ × List ℕ) ℕ → Reader Clause
declared_by w all (Err c) e ts = stop (fault_of_host c (span_here e ts))
declared_by w all (Ok a) e ts =
    room_for (slice_get (tokens_at all a.1) w.names)
    (got (declared (take a.0 ts) (tokens_at all a.1)) [] (last_end e (take a.0 ts)) (drop a.0 ts))

-- the host's default after the word d, by its answer
unfoldable pub defaulted_by : List Token → Token → Result (ℕ × ℕ × Naming) ℕ → Reader Clause
defaulted_by all d (Err c) e ts = stop (fault_of_host c (span_here e ts))
defaulted_by all d (Ok a) e ts =
    got (defaulted d (take a.1 ts) (named all a.2)) [] (last_end e (take a.0 ts)) (drop a.0 ts)

-- six bytes from the start of a second `export`, within 32 bits
abbrev pub second_export : Token → Fault
second_export t =
    fault_at SecondExport (record { start = t.span.start; end = min (t.span.start + 6) 4294967295 })

-- what follows `export`, at the token n of the whole list
unfoldable pub export_clause : Setting → List ℕ → Host → List Token → ℕ → Reader Clause
export_clause w text h all n e ts =
    test (at Star ts) (export_all w text e ts)
    (test (at LCurly ts) (export_braces w text e ts)
    (test (at Default ts)
    (bind (word Default e ts) λ d e₁ m. defaulted_by all d (h.defaulting all (n + 1)) e₁ m)
    (test (at Import ts) (stop_at Foreign e ts)
    (test (at Export ts)
    (add (second_export (next ts) ∷ [])
    (bind (word Export e ts) λ _ e₁ m. declared_by w all (h.declaration all (n + 1)) e₁ m))
    (declared_by w all (h.declaration all n) e ts)))))

unfoldable pub exporting : Setting → List ℕ → Host → List Token → ℕ → Reader Clause
exporting w text h all n e ts = bind (word Export e ts) λ _ e₁ m. export_clause w text h all (n + 1) e₁ m
