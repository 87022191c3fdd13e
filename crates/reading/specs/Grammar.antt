-- The grammar of modules: `X ts a rest` says that ts begins with an X that reads as a, and that rest follows it.
use Rattle.std.specs.Prelude.{◌≡◌, ℕ, ◌+◌, true, false, ◌⊎◌, List, [], ◌∷◌, length, take, drop, Some, None, Ok, ◌≢◌}
use Rattle.kinds.specs.declared.kind.Kind.{Kind}
use Rattle.kinds.specs.declared.kind.Kind.TheVariants.{Eof, Str, Import, Export, From, As, Star, LCurly, RCurly, Comma, Colon, Semicolon, Defer, Source, Default}
use Rattle.kinds.specs.Classes.{is_binding, is_identifier, is_identifier_name}
use Rattle.lexer.specs.declared.token.Token.{Token}
use Rattle.lexer.specs.Tokens.{part_of}
use Rattle.pages.specs.declared.rows.Specifier.{Specifier}
use Rattle.pages.specs.declared.rows.Attribute.{Attribute}
use Rattle.pages.specs.declared.page.Phase.TheVariants as phase
use Rattle.reading.specs.declared.naming.Naming.{Naming}
use Rattle.reading.specs.Ahead.{next, at, import_follows, attributes_follow, clause_follows}
use Rattle.reading.specs.Hosts.{Host}
use Rattle.reading.specs.Readings.{specified, attributed, reserved_text, Starred, Form, Clause, imported, all_from, names_from, names, declared, defaulted, stated, Item, upto, tokens_at, named}

-- One token with a property.
pub data One (P : Token → Type 0) : List Token → Token → List Token → Type 0 where
  one : {t : Token} {rest : List Token} → P t → One P (t ∷ rest) t rest

-- a token of the kind k that is no keyword
abbrev pub Sign : Kind → List Token → Token → List Token → Type 0
Sign k = One (λ t. t.kind ≡ k)

-- a keyword, which stands unescaped
abbrev pub Word : Kind → List Token → Token → List Token → Type 0
Word k = One (λ t. (t.kind ≡ k) × (t.escaped ≡ false))

-- a binding identifier
abbrev pub B : List Token → Token → List Token → Type 0
B = One (λ t. is_binding t.kind ≡ true)

-- an identifier name that is no reserved word
abbrev pub L : List Token → Token → List Token → Type 0
L = One (λ t. is_identifier t.kind ≡ true)

-- an identifier name, or a string without a lone surrogate
abbrev pub N : List Token → Token → List Token → Type 0
N = One (λ t. (is_identifier_name t.kind ≡ true) ⊎ ((t.kind ≡ Str) × (t.lone ≡ false)))

-- a string
abbrev pub S : List Token → Token → List Token → Type 0
S = Sign Str

-- the key of an attribute: an identifier name or a string
abbrev pub Key : List Token → Token → List Token → Type 0
Key = One (λ t. (is_identifier_name t.kind ≡ true) ⊎ (t.kind ≡ Str))

-- Elements with Comma between them, a last Comma allowed, and the closing token.
pub data Elements {A : Type 0} (R : List Token → A → List Token → Type 0) (close : Kind) : List Token → List A → List Token → Type 0 where
  last : {ts m rest : List Token} {a : A} {c : Token} → R ts a m → Sign close m c rest → Elements R close ts (a ∷ []) rest
  last_comma : {ts m n rest : List Token} {a : A} {k c : Token}
      → R ts a m → Sign Comma m k n → Sign close n c rest → Elements R close ts (a ∷ []) rest
  more : {ts m n rest : List Token} {a : A} {l : List A} {k : Token}
      → R ts a m → Sign Comma m k n → Elements R close n l rest → Elements R close ts (a ∷ l) rest

pub data Braces {A : Type 0} (R : List Token → A → List Token → Type 0) (close : Kind) : List Token → List A → List Token → Type 0 where
  empty : {ts m rest : List Token} {o c : Token} → Sign LCurly ts o m → Sign close m c rest → Braces R close ts [] rest
  full : {ts m rest : List Token} {o : Token} {l : List A} → Sign LCurly ts o m → Elements R close m l rest → Braces R close ts l rest

-- Import specifier: L, or N as L.
pub data ImportSpecifier : List Token → Specifier → List Token → Type 0 where
  alone : {ts rest : List Token} {l : Token} → L ts l rest → ImportSpecifier ts (specified l l) rest
  renamed : {ts m n rest : List Token} {x k l : Token} → N ts x m → Word As m k n → L n l rest → ImportSpecifier ts (specified x l) rest

pub data StarAs : List Token → Starred → List Token → Type 0 where
  star_as : {ts m n rest : List Token} {s k b : Token}
      → Sign Star ts s m → Word As m k n → B n b rest → StarAs ts (record { star = s; local = b }) rest

pub data FromS : List Token → Token → List Token → Type 0 where
  from_s : {ts m rest : List Token} {k s : Token} → Word From ts k m → S m s rest → FromS ts s rest

-- The eight forms of an import.
pub data ImportForm : List Token → Form → List Token → Type 0 where
  bare : {ts rest : List Token} {s : Token} → S ts s rest
      → ImportForm ts (record { phase = phase.Evaluation; default = None; namespace = None; specifiers = []; source = s }) rest
  default : {ts m rest : List Token} {b s : Token} → B ts b m → FromS m s rest
      → ImportForm ts (record { phase = phase.Evaluation; default = Some b; namespace = None; specifiers = []; source = s }) rest
  default_star : {ts m n p rest : List Token} {b k s : Token} {c : Starred} → B ts b m → Sign Comma m k n → StarAs n c p → FromS p s rest
      → ImportForm ts (record { phase = phase.Evaluation; default = Some b; namespace = Some c; specifiers = []; source = s }) rest
  default_braces : {ts m n p rest : List Token} {b k s : Token} {l : List Specifier}
      → B ts b m → Sign Comma m k n → Braces ImportSpecifier RCurly n l p → FromS p s rest
      → ImportForm ts (record { phase = phase.Evaluation; default = Some b; namespace = None; specifiers = l; source = s }) rest
  star : {ts m rest : List Token} {c : Starred} {s : Token} → StarAs ts c m → FromS m s rest
      → ImportForm ts (record { phase = phase.Evaluation; default = None; namespace = Some c; specifiers = []; source = s }) rest
  braces : {ts m rest : List Token} {l : List Specifier} {s : Token} → Braces ImportSpecifier RCurly ts l m → FromS m s rest
      → ImportForm ts (record { phase = phase.Evaluation; default = None; namespace = None; specifiers = l; source = s }) rest
  defer_star : {ts m n rest : List Token} {d s : Token} {c : Starred} → Word Defer ts d m → StarAs m c n → FromS n s rest
      → ImportForm ts (record { phase = phase.Defer; default = None; namespace = Some c; specifiers = []; source = s }) rest
  source_of : {ts m n rest : List Token} {d b s : Token} → Word Source ts d m → B m b n → FromS n s rest
      → ImportForm ts (record { phase = phase.Source; default = Some b; namespace = None; specifiers = []; source = s }) rest

-- Attributes: key: S, with no key text repeated.
pub data OneAttribute : List Token → Attribute → List Token → Type 0 where
  attribute : {ts m n rest : List Token} {k c v : Token} → Key ts k m → Sign Colon m c n → S n v rest → OneAttribute ts (attributed k v) rest

-- a text that is none of these, and texts of which none stands twice
pub data Apart (x : List ℕ) : List (List ℕ) → Type 0 where
  apart_none : Apart x []
  apart_more : {y : List ℕ} {ys : List (List ℕ)} → (x ≢ y) → Apart x ys → Apart x (y ∷ ys)

pub data Distinct : List (List ℕ) → Type 0 where
  distinct_none : Distinct []
  distinct_more : {x : List ℕ} {xs : List (List ℕ)} → Apart x xs → Distinct xs → Distinct (x ∷ xs)

-- the texts of the keys
abbrev pub keys : List ℕ → List Attribute → List (List ℕ)
keys text [] = []
keys text (a ∷ l) = part_of text a.key.text ∷ keys text l

pub data Attributes (text : List ℕ) : List Token → List Attribute → List Token → Type 0 where
  no_attributes : {ts : List Token} → attributes_follow (next ts) ≡ false → Attributes text ts [] ts
  some_attributes : {ts m rest : List Token} {k : Token} {l : List Attribute}
      → attributes_follow (next ts) ≡ true → One (λ t. t.escaped ≡ false) ts k m → Braces OneAttribute RCurly m l rest
      → Distinct (keys text l) → Attributes text ts l rest

-- End: a Semicolon if one follows; else nothing, where Eof, RCurly or a token on a new line follows.
pub data End : List Token → List Token → Type 0 where
  semicolon : {ts rest : List Token} {t : Token} → Sign Semicolon ts t rest → End ts rest
  at_eof : {ts : List Token} → (next ts).kind ≡ Eof → End ts ts
  at_brace : {ts : List Token} → (next ts).kind ≡ RCurly → End ts ts
  at_line : {ts : List Token} → (next ts).new_line ≡ true → ((next ts).kind ≢ Semicolon) → End ts ts

-- Export specifier: N, or N as N.
pub data ExportSpecifier : List Token → Specifier → List Token → Type 0 where
  alone_out : {ts rest : List Token} {x : Token} → N ts x rest → ExportSpecifier ts (specified x x) rest
  renamed_out : {ts m n rest : List Token} {x k y : Token} → N ts x m → Word As m k n → N n y rest → ExportSpecifier ts (specified x y) rest

-- No local name is a string, or a text that names no binding.
pub data Locals (text : List ℕ) : List Specifier → Type 0 where
  locals_none : Locals text []
  locals_more : {s : Specifier} {l : List Specifier}
      → s.name.string ≡ false → reserved_text (part_of text s.name.text) ≡ false → Locals text l → Locals text (s ∷ l)

-- From S, attributes, end
pub data Sourced (text : List ℕ) : List Token → Token → List Attribute → List Token → Type 0 where
  sourced : {ts m n rest : List Token} {s : Token} {l : List Attribute}
      → FromS ts s m → Attributes text m l n → End n rest → Sourced text ts s l rest

-- What follows `export`; ts begins with the token n of the whole list.
pub data ExportClause (text : List ℕ) (h : Host) (all : List Token) (n : ℕ) : List Token → Clause → List Token → Type 0 where
  all_of : {ts m rest : List Token} {k s : Token} {l : List Attribute}
      → Sign Star ts k m → Sourced text m s l rest → ExportClause text h all n ts (all_from None s l) rest
  all_as : {ts m o p rest : List Token} {k a x s : Token} {l : List Attribute}
      → Sign Star ts k m → Word As m a o → N o x p → Sourced text p s l rest → ExportClause text h all n ts (all_from (Some x) s l) rest
  some_of : {ts m rest : List Token} {l : List Specifier} {s : Token} {k : List Attribute}
      → Braces ExportSpecifier RCurly ts l m → Sourced text m s k rest → ExportClause text h all n ts (names_from l s k) rest
  own : {ts m rest : List Token} {l : List Specifier}
      → Braces ExportSpecifier RCurly ts l m → at From m ≡ false → Locals text l → End m rest → ExportClause text h all n ts (names l) rest
  by_declaration : {ts : List Token} {k : ℕ} {is : List ℕ}
      → clause_follows ts ≡ false → h.declaration all n ≡ Ok (k, is)
      → ExportClause text h all n ts (declared (take k ts) (tokens_at all is)) (drop k ts)
  by_default : {ts m : List Token} {d : Token} {k b : ℕ} {i : Naming}
      → Word Default ts d m → h.defaulting all (n + 1) ≡ Ok (k, b, i)
      → ExportClause text h all n ts (defaulted d (take b m) (named all i)) (drop k m)

-- One item's form.
pub data ItemClause (text : List ℕ) (h : Host) (all : List Token) (n : ℕ) : List Token → Clause → List Token → Type 0 where
  an_import : {ts m o p rest : List Token} {i : Token} {f : Form} {l : List Attribute}
      → import_follows ts ≡ true → Word Import ts i m → ImportForm m f o → Attributes text o l p → End p rest
      → ItemClause text h all n ts (imported f l) rest
  an_export : {ts m rest : List Token} {i : Token} {c : Clause}
      → Word Export ts i m → ExportClause text h all (n + 1) m c rest → ItemClause text h all n ts c rest
  a_statement : {t : Token} {ts : List Token} {k : ℕ}
      → import_follows (t ∷ ts) ≡ false → at Export (t ∷ ts) ≡ false → h.statement all n ≡ Ok k
      → ItemClause text h all n (t ∷ ts) stated (drop k (t ∷ ts))

-- Items one after the other, from the token n of the whole list on: what they take of ts, and what they leave.
pub data Items (text : List ℕ) (h : Host) (all : List Token) : ℕ → List Token → List Item → List Token → Type 0 where
  no_items : {n : ℕ} {ts : List Token} → Items text h all n ts [] ts
  an_item : {n : ℕ} {ts m rest : List Token} {c : Clause} {is : List Item}
      → ItemClause text h all n ts c m → Items text h all (n + length (upto ts m)) m is rest
      → Items text h all n ts (record { tokens = upto ts m; clause = c } ∷ is) rest

-- The tokens form a module, with this reading.
abbrev pub Module : List ℕ → Host → List Token → List Item → Type 0
Module text h ts is = Items text h ts 0 ts is []
