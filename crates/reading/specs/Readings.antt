-- What a module says, item by item. An item is one import, one export or one stretch of what the host reads by itself.
use Rattle.std.specs.Prelude.{ℕ, ◌-◌, ◌≤◌, Bool, ◌||◌, List, [], ◌∷◌, ◌++◌, map, length, get_or, take, Some, None, codes, Option, slice_index_or}
use Rattle.std.specs.Str.{bytes_eq}
use Rattle.kinds.specs.declared.kind.Kind.TheVariants.{Str}
use Rattle.kinds.specs.Numbers.{same}
use Rattle.kinds.specs.Classes.{is_reserved, is_future}
use Rattle.kinds.specs.Keywords.{match_keyword}
use Rattle.lexer.specs.declared.token.Token.{Token}
use Rattle.lexer.specs.declared.token.Span.{Span}
use Rattle.lexer.specs.Tokens.{ended, part_of}
use Rattle.pages.specs.declared.rows.Name.{Name}
use Rattle.pages.specs.declared.rows.Specifier.{Specifier}
use Rattle.pages.specs.declared.rows.Attribute.{Attribute}
use Rattle.pages.specs.declared.rows.Request.{Request}
use Rattle.pages.specs.declared.rows.Binding.TheVariants as binding
use Rattle.pages.specs.declared.page.Phase.{Phase}
use Rattle.pages.specs.declared.page.DefaultName.{DefaultName}
use Rattle.pages.specs.declared.page.DefaultName.TheVariants as name
use Rattle.pages.specs.Contents.{Content}
use Rattle.pages.specs.Contents as page
use Rattle.reading.specs.declared.naming.Naming.{Naming}
use Rattle.reading.specs.declared.naming.Naming.TheVariants as naming
use Rattle.reading.specs.Settings.{Setting}

-- rows, by the tokens that they come from
unfoldable pub name_of : Token → Name
name_of t = record { text = t.text; span = t.span; string = same t.kind Str }

unfoldable pub request_of : Token → Request
request_of t = record { text = t.text; span = t.span; lone = t.lone }

-- from the first token's start to the second's end
abbrev pub across : Token → Token → Span
across x y = record { start = x.span.start; end = y.span.end }

-- `x as y`, and a name x alone where both are x
unfoldable pub specified : Token → Token → Specifier
specified x y = record { span = across x y; binding = binding.Named; name = name_of x; alias = name_of y }

unfoldable pub attributed : Token → Token → Attribute
attributed k v = record { key = name_of k; value = name_of v }

-- what names no binding: `let`, a reserved word, a future reserved word
unfoldable pub reserved_text : List ℕ → Bool
reserved_text x = bytes_eq x (codes "let") || (is_reserved (match_keyword x) || is_future (match_keyword x))

-- `* as local`
pub record Starred : Type 0 where
  pub star : Token
  pub local : Token

-- What an import takes: the phase, the default, the namespace, what stands in braces, and the module.
pub record Form : Type 0 where
  pub phase : Phase
  pub default : Option Token
  pub namespace : Option Starred
  pub specifiers : List Specifier
  pub source : Token

-- The forms of an item, with what each has.
pub data Clause : Type 0 where
  -- the form and the attributes
  imported : Form → List Attribute → Clause
  -- `export *`: the name after `as`, the module, the attributes
  all_from : Option Token → Token → List Attribute → Clause
  -- `export { .. } from`: what stands in braces, the module, the attributes
  names_from : List Specifier → Token → List Attribute → Clause
  -- `export { .. }`: what stands in braces
  names : List Specifier → Clause
  -- `export` and a declaration: its tokens, and those of the names that it binds
  declared : List Token → List Token → Clause
  -- `export default`: the word `default`, the tokens of the body, the body's name
  defaulted : Token → List Token → DefaultName → Clause
  -- what the host reads by itself
  stated : Clause

-- An item: its tokens, all of them in order, and its form. A reading of a module is the list of its items.
pub record Item : Type 0 where
  pub tokens : List Token
  pub clause : Clause

-- the end of the last of the tokens, or e
unfoldable pub last_end : ℕ → List Token → ℕ
last_end e [] = e
last_end e (t ∷ ts) = last_end t.span.end ts

-- from the first token's start to the last one's end
unfoldable pub span_of : List Token → Span
span_of [] = record { start = 0; end = 0 }
span_of (t ∷ ts) = record { start = t.span.start; end = last_end t.span.end ts }

-- the tokens of ts before m, which ends it
unfoldable pub upto : List Token → List Token → List Token
upto ts m = take (length ts - length m) ts

-- the tokens of these numbers
unfoldable pub tokens_at : List Token → List ℕ → List Token
tokens_at all is = map (λ i. get_or all i ended) is

unfoldable pub named : List Token → Naming → DefaultName
named all (naming.Plain i) = name.Plain (name_of (slice_index_or all i ended))
named all (naming.Named i) = name.Named (name_of (slice_index_or all i ended))
named all naming.Absent = name.Absent

-- The rows of an import: its default, its namespace, and what stands in braces.
abbrev pub default_rows : Option Token → List Specifier
default_rows None = []
default_rows (Some b) = record { span = b.span; binding = binding.Default; name = name_of b; alias = name_of b } ∷ []

abbrev pub namespace_rows : Option Starred → List Specifier
namespace_rows None = []
namespace_rows (Some s) =
    record { span = across s.star s.local; binding = binding.Namespace; name = name_of s.local; alias = name_of s.local } ∷ []

abbrev pub import_rows : Form → List Specifier
import_rows f = default_rows f.default ++ (namespace_rows f.namespace ++ f.specifiers)

abbrev pub as_name : Option Token → Option Name
as_name None = None
as_name (Some x) = Some (name_of x)

-- The page of an item.
abbrev pub content_by : Span → Clause → Content
content_by sp (imported f l) = page.import sp f.phase (request_of f.source) (import_rows f) l
content_by sp (all_from x s l) = page.export_all sp (request_of s) (as_name x) l
content_by sp (names_from l s k) = page.export_from sp (request_of s) l k
content_by sp (names l) = page.braces sp l
content_by sp (declared ts ns) = page.declaration sp (span_of ts) (map name_of ns)
content_by sp (defaulted d ts n) = page.default sp d.span (span_of ts) n
content_by sp stated = page.statement sp

abbrev pub content_of : Item → Content
content_of i = content_by (span_of i.tokens) i.clause

-- What an item needs of each table of a page.
abbrev pub specifiers_in : Clause → List Specifier
specifiers_in (imported f l) = import_rows f
specifiers_in (all_from x s l) = []
specifiers_in (names_from l s k) = l
specifiers_in (names l) = l
specifiers_in (declared ts ns) = []
specifiers_in (defaulted d ts n) = []
specifiers_in stated = []

abbrev pub names_in : Clause → List Token
names_in (imported f l) = []
names_in (all_from x s l) = []
names_in (names_from l s k) = []
names_in (names l) = []
names_in (declared ts ns) = ns
names_in (defaulted d ts n) = []
names_in stated = []

abbrev pub attributes_in : Clause → List Attribute
attributes_in (imported f l) = l
attributes_in (all_from x s l) = l
attributes_in (names_from l s k) = k
attributes_in (names l) = []
attributes_in (declared ts ns) = []
attributes_in (defaulted d ts n) = []
attributes_in stated = []

pub record Fits (w : Setting) (c : Clause) : Type 0 where
  pub specifiers : length (specifiers_in c) ≤ w.names
  pub names : length (names_in c) ≤ w.names
  pub attributes : length (attributes_in c) ≤ w.attributes

abbrev pub AllFit : Setting → List Item → Type 0
AllFit w [] = Unit {0}
AllFit w (i ∷ is) = Fits w i.clause × AllFit w is

-- The names that an item exports, by text: the last name of each element in export braces, the name after `* as`, the
-- names of a declaration, and `default` for a default.
abbrev pub aliases : List ℕ → List Specifier → List (List ℕ)
aliases text l = map (λ s. part_of text s.alias.text) l

abbrev pub exports_by : List ℕ → Clause → List (List ℕ)
exports_by text (imported f l) = []
exports_by text (all_from None s l) = []
exports_by text (all_from (Some x) s l) = part_of text x.text ∷ []
exports_by text (names_from l s k) = aliases text l
exports_by text (names l) = aliases text l
exports_by text (declared ts ns) = map (λ x. part_of text x.text) ns
exports_by text (defaulted d ts n) = codes "default" ∷ []
exports_by text stated = []

abbrev pub exported_names : List ℕ → List Item → List (List ℕ)
exported_names text [] = []
exported_names text (i ∷ is) = exports_by text i.clause ++ exported_names text is

-- the tokens of all items, put together
abbrev pub joined : List Item → List Token
joined [] = []
joined (i ∷ is) = i.tokens ++ joined is
