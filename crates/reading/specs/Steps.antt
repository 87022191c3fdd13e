-- Reading, step by step: a reader is a function of the previous token's end and the tokens that are left.
use Rattle.std.specs.Prelude.{ℕ, Bool, true, false, cond, ◌&&◌, ◌||◌, List, [], ◌∷◌, ◌++◌, length, nat_le}
use Rattle.kinds.specs.declared.kind.Kind.{Kind}
use Rattle.kinds.specs.declared.kind.Kind.TheVariants.{Str, RCurly, Semicolon, Eof}
use Rattle.kinds.specs.Numbers.{same}
use Rattle.kinds.specs.Classes.{is_keyword, is_identifier_name, is_binding}
use Rattle.lexer.specs.declared.token.Token.{Token}
use Rattle.pages.specs.declared.fault.Fault.{Fault}
use Rattle.pages.specs.declared.fault.FaultKind.{FaultKind}
use Rattle.pages.specs.declared.fault.FaultKind.TheVariants.{Expected, Unexpected, Unended, LoneName, Full, EscapedKeyword}
use Rattle.pages.specs.Faults.{fault_at}
use Rattle.reading.specs.Ahead.{next, rest, span_here, at}

-- A stop; or what was read, the faults that it draws, the end of the last token taken, and what is left.
pub data Out (A : Type 0) : Type 0 where
  stop : Fault → Out A
  got : A → List Fault → ℕ → List Token → Out A

abbrev pub Reader : Type 0 → Type 0
Reader A = ℕ → List Token → Out A

-- a stop at the token come to
unfoldable pub stop_at : {A : Type 0} → FaultKind → Reader A
stop_at k e ts = stop (fault_at k (span_here e ts))

-- with faults drawn before
unfoldable pub add : {A : Type 0} → List Fault → Out A → Out A
add fs (stop f) = stop f
add fs (got a gs e ts) = got a (fs ++ gs) e ts

-- one step after another
unfoldable pub bind : {A B : Type 0} → Out A → (A → Reader B) → Out B
bind (stop f) k = stop f
bind (got a fs e ts) k = add fs (k a e ts)

unfoldable pub test : {A : Type 0} → Bool → Out A → Out A → Out A
test true x y = x
test false x y = y

-- a keyword that is written with an escape
unfoldable pub esc : Token → List Fault
esc t = cond (t.escaped && is_keyword t.kind) (fault_at EscapedKeyword t.span ∷ []) []

-- one token that passes a test, with the faults that it draws
unfoldable pub token : FaultKind → (Token → Bool) → (Token → List Fault) → Reader Token
token k p w e ts = test (p (next ts)) (got (next ts) (w (next ts)) (next ts).span.end (rest ts)) (stop_at k e ts)

abbrev pub none : Token → List Fault
none t = []

-- a token of the kind k
abbrev pub word : Kind → Reader Token
word k = token Expected (λ t. same t.kind k) esc

abbrev pub str : FaultKind → Reader Token
str n = token n (λ t. same t.kind Str) none

abbrev pub identifier : Reader Token
identifier = token Unexpected (λ t. is_identifier_name t.kind) none

abbrev pub binding : FaultKind → Reader Token
binding n = token n (λ t. is_binding t.kind) none

-- an identifier name or a string; one with a lone surrogate stops
unfoldable pub name : Reader Token
name e ts =
    test (at Str ts)
    (bind (str Unexpected e ts) λ t e₁ m. test t.lone (stop (fault_at LoneName t.span)) (got t [] e₁ m))
    (identifier e ts)

-- the end of a statement: a Semicolon if one follows; else nothing, where Eof, RCurly or a token on a new line follows
unfoldable pub ending : Reader (Unit {0})
ending e ts =
    test (at Semicolon ts) (got tt [] (next ts).span.end (rest ts))
    (test (at Eof ts || (at RCurly ts || (next ts).new_line)) (got tt [] e ts)
    (stop (fault_at Unended (record { start = e; end = e }))))

-- more faults than a page has room for are a stop at the token come to
unfoldable pub crowded : {A : Type 0} → ℕ → Out A → Out A
crowded room (stop f) = stop f
crowded room (got a fs e ts) = test (nat_le (length fs) room) (got a fs e ts) (stop_at Full e ts)
