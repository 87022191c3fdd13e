-- The brace list, over any element: empty, or elements with Comma between them, a last Comma allowed.
use Rattle.std.specs.Prelude.{◌≡◌, ℕ, zero, suc, ◌<◌, Bool, false, not, ◌||◌, List, [], ◌∷◌, length}
use Rattle.kinds.specs.declared.kind.Kind.{Kind}
use Rattle.kinds.specs.declared.kind.Kind.TheVariants.{Comma, LCurly, Eof, Undetermined}
use Rattle.lexer.specs.declared.token.Token.{Token}
use Rattle.lexer.specs.declared.token.Span.{Span}
use Rattle.pages.specs.declared.fault.Fault.{Fault}
use Rattle.pages.specs.declared.fault.FaultKind.TheVariants.{Unclosed, Full}
use Rattle.pages.specs.Faults.{fault_with}
use Rattle.reading.specs.Ahead.{span_here, at}
use Rattle.reading.specs.Steps.{stop, got, Reader, stop_at, bind, test, word}

-- An element takes at least one token.
abbrev pub TakesOne : {A : Type 0} → Reader A → Type 0
TakesOne {A} p = (e : ℕ) (ts : List Token) (a : A) (fs : List Fault) (e' : ℕ) (m : List Token) → p e ts ≡ got a fs e' m → length m < length ts

-- what ends a list after a Comma
unfoldable pub closes : Kind → List Token → Bool
closes close ts = at close ts || (at Eof ts || at Undetermined ts)

-- After an element: the close, or a Comma; whether another element follows.
unfoldable pub separator : Kind → Span → Reader Bool
separator close brace e ts =
    test (at close ts) (got false [] e ts)
    (test (at Comma ts)
    (bind (word Comma e ts) λ _ e₁ m. got (not (closes close m)) [] e₁ m)
    (stop (fault_with Unclosed (span_here e ts) brace)))

-- at least one element, in the room left
unfoldable pub elements : {A : Type 0} → Reader A → Kind → Span → ℕ → Reader (List A)
elements p close brace zero e ts = stop_at Full e ts
elements p close brace (suc room) e ts =
    bind (p e ts) λ a e₁ m.
    bind (separator close brace e₁ m) λ more e₂ n.
    test more (bind (elements p close brace room e₂ n) λ l e₃ r. got (a ∷ l) [] e₃ r) (got (a ∷ []) [] e₂ n)

unfoldable pub inside : {A : Type 0} → Reader A → Kind → Span → ℕ → Reader (List A)
inside p close brace room e ts = test (at close ts) (got [] [] e ts) (elements p close brace room e ts)

unfoldable pub braced : {A : Type 0} → Reader A → Kind → ℕ → Reader (List A)
braced p close room e ts =
    bind (word LCurly e ts) λ o e₁ m.
    bind (inside p close o.span room e₁ m) λ l e₂ n.
    bind (word close e₂ n) λ _ e₃ r. got l [] e₃ r
