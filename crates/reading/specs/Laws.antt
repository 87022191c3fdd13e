-- Laws of stops and of what is taken, over the definition of reading.
use Rattle.std.specs.Prelude.{◌≡◌, ℕ, ◌+◌, true, false, ◌||◌, ◌⊎◌, List, [], ◌∷◌, ◌++◌, length, Err, slice_index_or}
use Rattle.kinds.specs.declared.kind.Kind.TheVariants.{Eof, Undetermined, Str, Star, From, As, LCurly, RCurly, Comma, Colon, Semicolon, Eq, Import, Export, With, Assert}
use Rattle.kinds.specs.Classes.{is_binding, is_identifier_name}
use Rattle.lexer.specs.declared.token.Token.{Token}
use Rattle.lexer.specs.declared.token.Span.{Span}
use Rattle.lexer.specs.Tokens.{ended}
use Rattle.pages.specs.declared.fault.Fault.{Fault}
use Rattle.pages.specs.declared.fault.FaultKind.TheVariants.{Expected, Unexpected, Unclosed, Unended, NoString, LoneName, Foreign, Full}
use Rattle.pages.specs.Faults.{fault_at, fault_with, fault_of_host}
use Rattle.reading.specs.Ahead.{next, rest, span_here, at, import_follows}
use Rattle.reading.specs.Settings.{Setting}
use Rattle.reading.specs.Hosts.{Host}
use Rattle.reading.specs.Readings.{Item, last_end, span_of}
use Rattle.reading.specs.Steps.{stop, got}
use Rattle.reading.specs.Items.{item}

-- Where an item is read: the host, the whole token list, and the number of the item's first token in it.
pub record Site : Type 0 where
  pub host : Host
  pub all : List Token
  pub first : ℕ

-- the host refuses the token i with the code c, asked for a statement, a declaration or a default
abbrev pub Refuses : Site → ℕ → ℕ → Type 0
Refuses s i c =
    (s.host.statement s.all i ≡ Err c) ⊎ ((s.host.declaration s.all i ≡ Err c) ⊎ (s.host.defaulting s.all i ≡ Err c))

-- two lists that go on with the same token, or both end
pub data SameNext : List Token → List Token → Type 0 where
  both_end : SameNext [] []
  both_go_on : {t : Token} {m m' : List Token} → SameNext (t ∷ m) (t ∷ m')

-- the span of an LCurly among the tokens
pub data Opened : List Token → Span → Type 0 where
  opened : (a b : List Token) (o : Token) → o.kind ≡ LCurly → Opened (a ++ (o ∷ b)) o.span

-- Why reading stops after the tokens `before`, the last of which ends at e, where m is left.
pub data Why (site : Site) (before : List Token) (e : ℕ) (m : List Token) : Fault → Type 0 where
  -- 1: a token of the kind that is wanted is missing. No From before a module; no As after a Star; no LCurly after With
  -- or Assert; no Colon after a key; no RCurly at the end, or at an Undetermined token; and nothing that begins a form of an import
  no_from : at From m ≡ false → Why site before e m (fault_at Expected (span_here e m))
  no_as : (a : List Token) (s : Token) → before ≡ a ++ (s ∷ []) → s.kind ≡ Star → at As m ≡ false → Why site before e m (fault_at Expected (span_here e m))
  no_open : (a : List Token) (k : Token) → before ≡ a ++ (k ∷ []) → (k.kind ≡ With) ⊎ (k.kind ≡ Assert) → at LCurly m ≡ false → Why site before e m (fault_at Expected (span_here e m))
  no_colon : at Colon m ≡ false → Why site before e m (fault_at Expected (span_here e m))
  no_close : at RCurly m ≡ false → (at Eof m || at Undetermined m) ≡ true → Why site before e m (fault_at Expected (span_here e m))
  no_form : is_binding (next m).kind ≡ false → at Str m ≡ false → at Star m ≡ false → at LCurly m ≡ false → Why site before e m (fault_at Expected (span_here e m))
  -- 2: no string, no name, no binding identifier; after a default and a Comma neither Star nor LCurly
  no_string : at Str m ≡ false → Why site before e m (fault_at Unexpected (span_here e m))
  no_name : is_identifier_name (next m).kind ≡ false → Why site before e m (fault_at Unexpected (span_here e m))
  no_binding : is_binding (next m).kind ≡ false → Why site before e m (fault_at Unexpected (span_here e m))
  no_more : at Star m ≡ false → at LCurly m ≡ false → Why site before e m (fault_at Unexpected (span_here e m))
  -- 3: neither a Comma nor the close of the brace before
  unclosed : {s : Span} → Opened before s → at RCurly m ≡ false → at Comma m ≡ false → Why site before e m (fault_with Unclosed (span_here e m) s)
  -- 4: nothing that ends a statement; the span is empty, at the end of the token before
  unended : at Semicolon m ≡ false → at Eof m ≡ false → at RCurly m ≡ false → (next m).new_line ≡ false
      → Why site before e m (fault_at Unended (record { start = e; end = e }))
  -- 5: the value is no string
  no_value : at Str m ≡ false → Why site before e m (fault_at NoString (span_here e m))
  -- 6: a string with a lone surrogate
  lone : at Str m ≡ true → (next m).lone ≡ true → Why site before e m (fault_at LoneName (span_here e m))
  -- 7: `=` after a binding identifier; `export import`
  equals : at Eq m ≡ true → Why site before e m (fault_at Foreign (span_here e m))
  imports : at Import m ≡ true → Why site before e m (fault_at Foreign (span_here e m))
  -- 8: the host refused with the code c, asked about this token
  refused : (c : ℕ) → Refuses site (site.first + length before) c → Why site before e m (fault_of_host c (span_here e m))
  -- 9: no room for the element, or for the faults of the item; no room for a name of a declaration
  full : Why site before e m (fault_at Full (span_here e m))
  no_room : (i : ℕ) → Why site before e m (fault_at Full (slice_index_or site.all i ended).span)

-- The host is not asked: an import, `export *`, `export {`, `export import`.
pub data NoHost : List Token → Type 0 where
  an_import : {ts : List Token} → import_follows ts ≡ true → NoHost ts
  all_of : {ts : List Token} → at Export ts ≡ true → at Star (rest ts) ≡ true → NoHost ts
  some_of : {ts : List Token} → at Export ts ≡ true → at LCurly (rest ts) ≡ true → NoHost ts
  foreign : {ts : List Token} → at Export ts ≡ true → at Import (rest ts) ≡ true → NoHost ts

-- A stop: the tokens up to the one come to, what is left, and why.
pub record Stop (site : Site) (e : ℕ) (ts : List Token) (f : Fault) : Type 0 where
  pub part : List Token
  pub left : List Token
  pub is : ts ≡ part ++ left
  pub why : Why site part (last_end e part) left f

-- A stop that is the same for every list that agrees so far, under every host.
pub record SameStop (w : Setting) (text : List ℕ) (site : Site) (e : ℕ) (ts : List Token) (f : Fault) : Type 0 where
  pub part : List Token
  pub left : List Token
  pub is : ts ≡ part ++ left
  pub why : Why site part (last_end e part) left f
  pub same : (m : List Token) → SameNext left m → (h : Host) (all : List Token) (n : ℕ) → item w text h all n e (part ++ m) ≡ stop f

-- What is taken stands at the front, and the end that is given is that of the last token taken.
pub record Taken (e : ℕ) (ts : List Token) (i : Item) (e' : ℕ) (m : List Token) : Type 0 where
  pub is : ts ≡ i.tokens ++ m
  pub end : e' ≡ last_end e i.tokens

pub record Laws (w : Setting) (text : List ℕ) (h : Host) (all : List Token) (n : ℕ) : Type 0 where
  pub takes : (e : ℕ) (ts : List Token) (i : Item) (fs : List Fault) (e' : ℕ) (m : List Token) → item w text h all n e ts ≡ got i fs e' m → Taken e ts i e' m
  -- so the span of what is taken goes from the first token's start to the end that is given
  pub spans : (e : ℕ) (t : Token) (ts : List Token) (i : Item) (fs : List Fault) (e' : ℕ) (m : List Token) → item w text h all n e (t ∷ ts) ≡ got i fs e' m
      → span_of i.tokens ≡ record { start = t.span.start; end = e' }
  pub stops : (e : ℕ) (ts : List Token) (f : Fault) → item w text h all n e ts ≡ stop f → Stop (record { host = h; all = all; first = n }) e ts f
  pub alike : (e : ℕ) (ts : List Token) (f : Fault) → NoHost ts → item w text h all n e ts ≡ stop f → SameStop w text (record { host = h; all = all; first = n }) e ts f

abbrev pub LawsOfStops : Type 0
LawsOfStops = (w : Setting) (text : List ℕ) (h : Host) (all : List Token) (n : ℕ) → Laws w text h all n
