-- Worked modules: for each number of a stop or a fault at least one, and some that are clean. The answers are those
-- of the program that this one is a port of, but for the limits of tables and of 32 bits, `import source from,`,
-- `export import` and `export {let}`.
use Rattle.std.specs.Prelude.{◌≡◌, ℕ, Bool, true, false, List, [], ◌∷◌, map, Some, None, codes}
use Rattle.std.proofs.Common.{lit≤}
use Rattle.kinds.specs.declared.kind.Kind.{Kind}
use Rattle.kinds.specs.declared.kind.Kind.TheVariants.{As, Assert, Class, Colon, Comma, Decimal, Default, Defer, Dot, Eq, Export, For, From, Function, Ident, If, Import, LCurly, LParen, Let, Plus, RCurly, RParen, Semicolon, Source, Star, Static, Str, With}
use Rattle.lexer.specs.declared.token.Token.{Token}
use Rattle.lexer.specs.declared.token.Span.{Span}
use Rattle.pages.specs.declared.fault.Fault.{Fault}
use Rattle.pages.specs.declared.fault.FaultKind.TheVariants.{Expected, Unexpected, Unclosed, Unended, NoString, LoneName, Foreign, Full, EscapedKeyword, DeferBraces, DeferDefault, SourceForm, ImportString, ImportReserved, ExportString, ExportReserved, SecondExport, RepeatedKey}
use Rattle.pages.specs.declared.rows.Name.{Name}
use Rattle.pages.specs.declared.rows.Specifier.{Specifier}
use Rattle.pages.specs.declared.rows.Attribute.{Attribute}
use Rattle.pages.specs.declared.rows.Request.{Request}
use Rattle.pages.specs.declared.rows.Binding.{Binding}
use Rattle.pages.specs.declared.rows.Binding.TheVariants as bind
use Rattle.pages.specs.declared.page.Phase.TheVariants as phase
use Rattle.pages.specs.declared.page.DefaultName.TheVariants as local
use Rattle.pages.specs.Faults.{fault_at, fault_with, fault_of_host}
use Rattle.pages.specs.Contents.{Content}
use Rattle.pages.specs.Contents as page
use Rattle.reading.specs.Settings.{standard}
use Rattle.reading.specs.Readings.{Item, content_of, exported_names}
use Rattle.reading.specs.Steps.{Out, stop, got}
use Rattle.reading.specs.Items.{read_all}
use Rattle.reading.specs.Trials.{small, refusing, taking, naming_second, nameless}

-- what reading a whole list comes to: a stop, or the pages and their faults
pub data Answer : Type 0 where
  stopped : Fault → Answer
  pages : List Content → List Fault → Answer

abbrev pub answer : Out (List Item) → Answer
answer (stop f) = stopped f
answer (got is fs e m) = pages (map content_of is) fs

abbrev pub span : ℕ → ℕ → Span
span s e = record { start = s; end = e }

-- a token by its kind, start and end, and the place and length of its text; with its marks
abbrev pub marked : Bool → Bool → Bool → Kind → ℕ → ℕ → ℕ → ℕ → Token
marked l x o k s e p n =
    record { kind = k; span = span s e; text = record { place = p; len = n }; new_line = l; escaped = x; lone = o }

abbrev pub plain : Kind → ℕ → ℕ → ℕ → ℕ → Token
plain = marked false false false

abbrev pub lined : Kind → ℕ → ℕ → ℕ → ℕ → Token
lined = marked true false false

abbrev pub escaped : Kind → ℕ → ℕ → ℕ → ℕ → Token
escaped = marked false true false

abbrev pub lined_escaped : Kind → ℕ → ℕ → ℕ → ℕ → Token
lined_escaped = marked true true false

abbrev pub escaped_lone : Kind → ℕ → ℕ → ℕ → ℕ → Token
escaped_lone = marked false true true

-- the rows of pages
abbrev pub word : ℕ → ℕ → ℕ → ℕ → Name
word s e p n = record { text = record { place = p; len = n }; span = span s e; string = false }

abbrev pub string : ℕ → ℕ → ℕ → ℕ → Name
string s e p n = record { text = record { place = p; len = n }; span = span s e; string = true }

abbrev pub requested : ℕ → ℕ → ℕ → ℕ → Request
requested s e p n = record { text = record { place = p; len = n }; span = span s e; lone = false }

abbrev pub row : Span → Binding → Name → Name → Specifier
row sp b x y = record { span = sp; binding = b; name = x; alias = y }

abbrev pub pair : Name → Name → Attribute
pair k v = record { key = k; value = v }

pub record Worked : Type 0 where
  -- import 1
  pub number_1 : answer (read_all standard (codes "import 1") refusing
      (lined Import 0 6 0 6 ∷ plain Decimal 7 8 7 1 ∷ []))
      ≡ stopped (fault_at Expected (span 7 8))
  -- import {a,
  pub number_1_close : answer (read_all standard (codes "import {a,") refusing
      (lined Import 0 6 0 6 ∷ plain LCurly 7 8 7 1 ∷ plain Ident 8 9 8 1 ∷ plain Comma 9 10 9 1 ∷ []))
      ≡ stopped (fault_at Expected (span 10 10))
  -- import defer as
  pub number_1_as : answer (read_all standard (codes "import defer as") refusing
      (lined Import 0 6 0 6 ∷ plain Defer 7 12 7 5 ∷ plain As 13 15 13 2 ∷ []))
      ≡ stopped (fault_at Expected (span 13 15))
  -- import source from, {a} from 'm'
  pub number_1_comma : answer (read_all standard (codes "import source from, {a} from 'm'") refusing
      (lined Import 0 6 0 6 ∷ plain Source 7 13 7 6 ∷ plain From 14 18 14 4 ∷ plain Comma 18 19 18 1 ∷ plain LCurly 20 21 20 1 ∷ plain Ident 21 22 21 1 ∷ plain RCurly 22 23 22 1 ∷ plain From 24 28 24 4 ∷ plain Str 29 32 30 1 ∷ []))
      ≡ stopped (fault_at Expected (span 18 19))
  -- import a, 1
  pub number_2 : answer (read_all standard (codes "import a, 1") refusing
      (lined Import 0 6 0 6 ∷ plain Ident 7 8 7 1 ∷ plain Comma 8 9 8 1 ∷ plain Decimal 10 11 10 1 ∷ []))
      ≡ stopped (fault_at Unexpected (span 10 11))
  -- import {
  pub number_2_open : answer (read_all standard (codes "import {") refusing
      (lined Import 0 6 0 6 ∷ plain LCurly 7 8 7 1 ∷ []))
      ≡ stopped (fault_at Unexpected (span 8 8))
  -- import {a b} from 'm'
  pub number_3 : answer (read_all standard (codes "import {a b} from 'm'") refusing
      (lined Import 0 6 0 6 ∷ plain LCurly 7 8 7 1 ∷ plain Ident 8 9 8 1 ∷ plain Ident 10 11 10 1 ∷ plain RCurly 11 12 11 1 ∷ plain From 13 17 13 4 ∷ plain Str 18 21 19 1 ∷ []))
      ≡ stopped (fault_with Unclosed (span 10 11) (span 7 8))
  -- import {a
  pub number_3_end : answer (read_all standard (codes "import {a") refusing
      (lined Import 0 6 0 6 ∷ plain LCurly 7 8 7 1 ∷ plain Ident 8 9 8 1 ∷ []))
      ≡ stopped (fault_with Unclosed (span 9 9) (span 7 8))
  -- import 'm' x
  pub number_4 : answer (read_all standard (codes "import 'm' x") refusing
      (lined Import 0 6 0 6 ∷ plain Str 7 10 8 1 ∷ plain Ident 11 12 11 1 ∷ []))
      ≡ stopped (fault_at Unended (span 10 10))
  -- import 'm' with {a: 1}
  pub number_5 : answer (read_all standard (codes "import 'm' with {a: 1}") refusing
      (lined Import 0 6 0 6 ∷ plain Str 7 10 8 1 ∷ plain With 11 15 11 4 ∷ plain LCurly 16 17 16 1 ∷ plain Ident 17 18 17 1 ∷ plain Colon 18 19 18 1 ∷ plain Decimal 20 21 20 1 ∷ plain RCurly 21 22 21 1 ∷ []))
      ≡ stopped (fault_at NoString (span 20 21))
  -- import {'\uD800' as a} from 'm'
  pub number_6 : answer (read_all standard ((105 ∷ 109 ∷ 112 ∷ 111 ∷ 114 ∷ 116 ∷ 32 ∷ 123 ∷ 39 ∷ 92 ∷ 117 ∷ 68 ∷ 56 ∷ 48 ∷ 48 ∷ 39 ∷ 32 ∷ 97 ∷ 115 ∷ 32 ∷ 97 ∷ 125 ∷ 32 ∷ 102 ∷ 114 ∷ 111 ∷ 109 ∷ 32 ∷ 39 ∷ 109 ∷ 39 ∷ 237 ∷ 160 ∷ 128 ∷ [])) refusing
      (lined Import 0 6 0 6 ∷ plain LCurly 7 8 7 1 ∷ escaped_lone Str 8 16 31 3 ∷ plain As 17 19 17 2 ∷ plain Ident 20 21 20 1 ∷ plain RCurly 21 22 21 1 ∷ plain From 23 27 23 4 ∷ plain Str 28 31 29 1 ∷ []))
      ≡ stopped (fault_at LoneName (span 8 16))
  -- import a = b
  pub number_7 : answer (read_all standard (codes "import a = b") refusing
      (lined Import 0 6 0 6 ∷ plain Ident 7 8 7 1 ∷ plain Eq 9 10 9 1 ∷ plain Ident 11 12 11 1 ∷ []))
      ≡ stopped (fault_at Foreign (span 9 10))
  -- import defer = b
  pub number_7_phase : answer (read_all standard (codes "import defer = b") refusing
      (lined Import 0 6 0 6 ∷ plain Defer 7 12 7 5 ∷ plain Eq 13 14 13 1 ∷ plain Ident 15 16 15 1 ∷ []))
      ≡ stopped (fault_at Foreign (span 13 14))
  -- export import a = b
  pub number_7_export : answer (read_all standard (codes "export import a = b") refusing
      (lined Export 0 6 0 6 ∷ plain Import 7 13 7 6 ∷ plain Ident 14 15 14 1 ∷ plain Eq 16 17 16 1 ∷ plain Ident 18 19 18 1 ∷ []))
      ≡ stopped (fault_at Foreign (span 7 13))
  -- export class A {
  pub number_8 : answer (read_all standard (codes "export class A {") (taking 4 1 (lit≤ tt))
      (lined Export 0 6 0 6 ∷ plain Class 7 12 7 5 ∷ plain Ident 13 14 13 1 ∷ plain LCurly 15 16 15 1 ∷ []))
      ≡ stopped (fault_of_host 3 (span 7 12))
  -- import {a, b, c} from 'm': two names and no more
  pub number_9 : answer (read_all small (codes "import {a, b, c} from 'm'") refusing
      (lined Import 0 6 0 6 ∷ plain LCurly 7 8 7 1 ∷ plain Ident 8 9 8 1 ∷ plain Comma 9 10 9 1 ∷ plain Ident 11 12 11 1 ∷ plain Comma 12 13 12 1 ∷ plain Ident 14 15 14 1 ∷ plain RCurly 15 16 15 1 ∷ plain From 17 21 17 4 ∷ plain Str 22 25 23 1 ∷ []))
      ≡ stopped (fault_at Full (span 14 15))
  -- import d, {a, b} from 'm': two names and no more
  pub number_9_default : answer (read_all small (codes "import d, {a, b} from 'm'") refusing
      (lined Import 0 6 0 6 ∷ plain Ident 7 8 7 1 ∷ plain Comma 8 9 8 1 ∷ plain LCurly 10 11 10 1 ∷ plain Ident 11 12 11 1 ∷ plain Comma 12 13 12 1 ∷ plain Ident 14 15 14 1 ∷ plain RCurly 15 16 15 1 ∷ plain From 17 21 17 4 ∷ plain Str 22 25 23 1 ∷ []))
      ≡ stopped (fault_at Full (span 14 15))
  -- import 'm' with {a: '1', b: '2'}: one attribute and no more
  pub number_9_attribute : answer (read_all small (codes "import 'm' with {a: '1', b: '2'}") refusing
      (lined Import 0 6 0 6 ∷ plain Str 7 10 8 1 ∷ plain With 11 15 11 4 ∷ plain LCurly 16 17 16 1 ∷ plain Ident 17 18 17 1 ∷ plain Colon 18 19 18 1 ∷ plain Str 20 23 21 1 ∷ plain Comma 23 24 23 1 ∷ plain Ident 25 26 25 1 ∷ plain Colon 26 27 26 1 ∷ plain Str 28 31 29 1 ∷ plain RCurly 31 32 31 1 ∷ []))
      ≡ stopped (fault_at Full (span 25 26))
  -- export class A {}: two names and no more, of three
  pub number_9_declared : answer (read_all small (codes "export class A {}") (taking 4 3 (lit≤ tt))
      (lined Export 0 6 0 6 ∷ plain Class 7 12 7 5 ∷ plain Ident 13 14 13 1 ∷ plain LCurly 15 16 15 1 ∷ plain RCurly 16 17 16 1 ∷ []))
      ≡ stopped (fault_at Full (span 13 14))
  -- import {if, for} from 'm'; x: one fault and no more
  pub number_9_faults : answer (read_all small (codes "import {if, for} from 'm'; x") refusing
      (lined Import 0 6 0 6 ∷ plain LCurly 7 8 7 1 ∷ plain If 8 10 8 2 ∷ plain Comma 10 11 10 1 ∷ plain For 12 15 12 3 ∷ plain RCurly 15 16 15 1 ∷ plain From 17 21 17 4 ∷ plain Str 22 25 23 1 ∷ plain Semicolon 25 26 25 1 ∷ plain Ident 27 28 27 1 ∷ []))
      ≡ stopped (fault_at Full (span 27 28))
  -- import {a} \u0066rom 'm'
  pub number_20 : answer (read_all standard (codes "import {a} \\u0066rom 'm'from") refusing
      (lined Import 0 6 0 6 ∷ plain LCurly 7 8 7 1 ∷ plain Ident 8 9 8 1 ∷ plain RCurly 9 10 9 1 ∷ escaped From 11 20 24 4 ∷ plain Str 21 24 22 1 ∷ []))
      ≡ pages ((page.import (span 0 24) phase.Evaluation (requested 21 24 22 1) ((row (span 8 9) bind.Named (word 8 9 8 1) (word 8 9 8 1)) ∷ []) []) ∷ []) ((fault_at EscapedKeyword (span 11 20)) ∷ [])
  -- \u0069mport 'm'
  pub number_20_import : answer (read_all standard (codes "\\u0069mport 'm'import") refusing
      (lined_escaped Import 0 11 15 6 ∷ plain Str 12 15 13 1 ∷ []))
      ≡ pages ((page.import (span 0 15) phase.Evaluation (requested 12 15 13 1) ([]) []) ∷ []) ((fault_at EscapedKeyword (span 0 11)) ∷ [])
  -- \u0065xport * \u0061s n from 'm' \u0077ith {}
  pub number_20_export : answer (read_all standard (codes "\\u0065xport * \\u0061s n from 'm' \\u0077ith {}exportaswith") refusing
      (lined_escaped Export 0 11 45 6 ∷ plain Star 12 13 12 1 ∷ escaped As 14 21 51 2 ∷ plain Ident 22 23 22 1 ∷ plain From 24 28 24 4 ∷ plain Str 29 32 30 1 ∷ escaped With 33 42 53 4 ∷ plain LCurly 43 44 43 1 ∷ plain RCurly 44 45 44 1 ∷ []))
      ≡ pages ((page.export_all (span 0 45) (requested 29 32 30 1) (Some (word 22 23 22 1)) ([])) ∷ []) ((fault_at EscapedKeyword (span 0 11)) ∷ (fault_at EscapedKeyword (span 14 21)) ∷ (fault_at EscapedKeyword (span 33 42)) ∷ [])
  -- import defer {a} from 'm'
  pub number_21 : answer (read_all standard (codes "import defer {a} from 'm'") refusing
      (lined Import 0 6 0 6 ∷ plain Defer 7 12 7 5 ∷ plain LCurly 13 14 13 1 ∷ plain Ident 14 15 14 1 ∷ plain RCurly 15 16 15 1 ∷ plain From 17 21 17 4 ∷ plain Str 22 25 23 1 ∷ []))
      ≡ pages ((page.import (span 0 25) phase.Defer (requested 22 25 23 1) ((row (span 14 15) bind.Named (word 14 15 14 1) (word 14 15 14 1)) ∷ []) []) ∷ []) ((fault_at DeferBraces (span 7 12)) ∷ [])
  -- import \u0064efer {a} from 'm'
  pub number_21_20 : answer (read_all standard (codes "import \\u0064efer {a} from 'm'defer") refusing
      (lined Import 0 6 0 6 ∷ escaped Defer 7 17 30 5 ∷ plain LCurly 18 19 18 1 ∷ plain Ident 19 20 19 1 ∷ plain RCurly 20 21 20 1 ∷ plain From 22 26 22 4 ∷ plain Str 27 30 28 1 ∷ []))
      ≡ pages ((page.import (span 0 30) phase.Defer (requested 27 30 28 1) ((row (span 19 20) bind.Named (word 19 20 19 1) (word 19 20 19 1)) ∷ []) []) ∷ []) ((fault_at DeferBraces (span 7 17)) ∷ (fault_at EscapedKeyword (span 7 17)) ∷ [])
  -- import defer d from 'm'
  pub number_22 : answer (read_all standard (codes "import defer d from 'm'") refusing
      (lined Import 0 6 0 6 ∷ plain Defer 7 12 7 5 ∷ plain Ident 13 14 13 1 ∷ plain From 15 19 15 4 ∷ plain Str 20 23 21 1 ∷ []))
      ≡ pages ((page.import (span 0 23) phase.Defer (requested 20 23 21 1) ((row (span 13 14) bind.Default (word 13 14 13 1) (word 13 14 13 1)) ∷ []) []) ∷ []) ((fault_at DeferDefault (span 7 12)) ∷ [])
  -- import source * as n from 'm'
  pub number_23 : answer (read_all standard (codes "import source * as n from 'm'") refusing
      (lined Import 0 6 0 6 ∷ plain Source 7 13 7 6 ∷ plain Star 14 15 14 1 ∷ plain As 16 18 16 2 ∷ plain Ident 19 20 19 1 ∷ plain From 21 25 21 4 ∷ plain Str 26 29 27 1 ∷ []))
      ≡ pages ((page.import (span 0 29) phase.Source (requested 26 29 27 1) ((row (span 14 20) bind.Namespace (word 19 20 19 1) (word 19 20 19 1)) ∷ []) []) ∷ []) ((fault_at SourceForm (span 7 13)) ∷ [])
  -- import {a as 'b'} from 'm'
  pub number_24 : answer (read_all standard (codes "import {a as 'b'} from 'm'") refusing
      (lined Import 0 6 0 6 ∷ plain LCurly 7 8 7 1 ∷ plain Ident 8 9 8 1 ∷ plain As 10 12 10 2 ∷ plain Str 13 16 14 1 ∷ plain RCurly 16 17 16 1 ∷ plain From 18 22 18 4 ∷ plain Str 23 26 24 1 ∷ []))
      ≡ pages ((page.import (span 0 26) phase.Evaluation (requested 23 26 24 1) ((row (span 8 16) bind.Named (word 8 9 8 1) (string 13 16 14 1)) ∷ []) []) ∷ []) ((fault_at ImportString (span 13 16)) ∷ [])
  -- import {if, a as for} from 'm'
  pub number_25 : answer (read_all standard (codes "import {if, a as for} from 'm'") refusing
      (lined Import 0 6 0 6 ∷ plain LCurly 7 8 7 1 ∷ plain If 8 10 8 2 ∷ plain Comma 10 11 10 1 ∷ plain Ident 12 13 12 1 ∷ plain As 14 16 14 2 ∷ plain For 17 20 17 3 ∷ plain RCurly 20 21 20 1 ∷ plain From 22 26 22 4 ∷ plain Str 27 30 28 1 ∷ []))
      ≡ pages ((page.import (span 0 30) phase.Evaluation (requested 27 30 28 1) ((row (span 8 10) bind.Named (word 8 10 8 2) (word 8 10 8 2)) ∷ (row (span 12 20) bind.Named (word 12 13 12 1) (word 17 20 17 3)) ∷ []) []) ∷ []) ((fault_at ImportReserved (span 8 10)) ∷ (fault_at ImportReserved (span 17 20)) ∷ [])
  -- export {'a', b}
  pub number_26 : answer (read_all standard (codes "export {'a', b}") refusing
      (lined Export 0 6 0 6 ∷ plain LCurly 7 8 7 1 ∷ plain Str 8 11 9 1 ∷ plain Comma 11 12 11 1 ∷ plain Ident 13 14 13 1 ∷ plain RCurly 14 15 14 1 ∷ []))
      ≡ pages ((page.braces (span 0 15) ((row (span 8 11) bind.Named (string 8 11 9 1) (string 8 11 9 1)) ∷ (row (span 13 14) bind.Named (word 13 14 13 1) (word 13 14 13 1)) ∷ [])) ∷ []) ((fault_at ExportString (span 8 11)) ∷ [])
  -- export {if as a, static, b}
  pub number_27 : answer (read_all standard (codes "export {if as a, static, b}") refusing
      (lined Export 0 6 0 6 ∷ plain LCurly 7 8 7 1 ∷ plain If 8 10 8 2 ∷ plain As 11 13 11 2 ∷ plain Ident 14 15 14 1 ∷ plain Comma 15 16 15 1 ∷ plain Static 17 23 17 6 ∷ plain Comma 23 24 23 1 ∷ plain Ident 25 26 25 1 ∷ plain RCurly 26 27 26 1 ∷ []))
      ≡ pages ((page.braces (span 0 27) ((row (span 8 15) bind.Named (word 8 10 8 2) (word 14 15 14 1)) ∷ (row (span 17 23) bind.Named (word 17 23 17 6) (word 17 23 17 6)) ∷ (row (span 25 26) bind.Named (word 25 26 25 1) (word 25 26 25 1)) ∷ [])) ∷ []) ((fault_at ExportReserved (span 8 10)) ∷ (fault_at ExportReserved (span 17 23)) ∷ [])
  -- export {let}
  pub number_27_let : answer (read_all standard (codes "export {let}") refusing
      (lined Export 0 6 0 6 ∷ plain LCurly 7 8 7 1 ∷ plain Let 8 11 8 3 ∷ plain RCurly 11 12 11 1 ∷ []))
      ≡ pages ((page.braces (span 0 12) ((row (span 8 11) bind.Named (word 8 11 8 3) (word 8 11 8 3)) ∷ [])) ∷ []) ((fault_at ExportReserved (span 8 11)) ∷ [])
  -- export export class A {}
  pub number_28 : answer (read_all standard (codes "export export class A {}") (taking 4 1 (lit≤ tt))
      (lined Export 0 6 0 6 ∷ plain Export 7 13 7 6 ∷ plain Class 14 19 14 5 ∷ plain Ident 20 21 20 1 ∷ plain LCurly 22 23 22 1 ∷ plain RCurly 23 24 23 1 ∷ []))
      ≡ pages ((page.declaration (span 0 24) (span 14 24) ((word 20 21 20 1) ∷ [])) ∷ []) ((fault_at SecondExport (span 7 13)) ∷ [])
  -- export \u0065xport class A {}
  pub number_28_20 : answer (read_all standard (codes "export \\u0065xport class A {}export") (taking 4 1 (lit≤ tt))
      (lined Export 0 6 0 6 ∷ escaped Export 7 18 29 6 ∷ plain Class 19 24 19 5 ∷ plain Ident 25 26 25 1 ∷ plain LCurly 27 28 27 1 ∷ plain RCurly 28 29 28 1 ∷ []))
      ≡ pages ((page.declaration (span 0 29) (span 19 29) ((word 25 26 25 1) ∷ [])) ∷ []) ((fault_at SecondExport (span 7 13)) ∷ (fault_at EscapedKeyword (span 7 18)) ∷ [])
  -- import 'm' with {a: '1', 'a': '2', b: '3', a: '4'}
  pub number_29 : answer (read_all standard (codes "import 'm' with {a: '1', 'a': '2', b: '3', a: '4'}") refusing
      (lined Import 0 6 0 6 ∷ plain Str 7 10 8 1 ∷ plain With 11 15 11 4 ∷ plain LCurly 16 17 16 1 ∷ plain Ident 17 18 17 1 ∷ plain Colon 18 19 18 1 ∷ plain Str 20 23 21 1 ∷ plain Comma 23 24 23 1 ∷ plain Str 25 28 26 1 ∷ plain Colon 28 29 28 1 ∷ plain Str 30 33 31 1 ∷ plain Comma 33 34 33 1 ∷ plain Ident 35 36 35 1 ∷ plain Colon 36 37 36 1 ∷ plain Str 38 41 39 1 ∷ plain Comma 41 42 41 1 ∷ plain Ident 43 44 43 1 ∷ plain Colon 44 45 44 1 ∷ plain Str 46 49 47 1 ∷ plain RCurly 49 50 49 1 ∷ []))
      ≡ pages ((page.import (span 0 50) phase.Evaluation (requested 7 10 8 1) ([]) ((pair (word 17 18 17 1) (string 20 23 21 1)) ∷ (pair (string 25 28 26 1) (string 30 33 31 1)) ∷ (pair (word 35 36 35 1) (string 38 41 39 1)) ∷ (pair (word 43 44 43 1) (string 46 49 47 1)) ∷ [])) ∷ []) ((fault_with RepeatedKey (span 17 18) (span 25 28)) ∷ (fault_with RepeatedKey (span 25 28) (span 43 44)) ∷ [])
  -- import d, * as n from 'm'; export * as x from 'k'⏎export {d as y, n} from 'o'; export * from 'p'
  pub clean : answer (read_all standard (codes "import d, * as n from 'm'; export * as x from 'k'\nexport {d as y, n} from 'o'; export * from 'p'") refusing
      (lined Import 0 6 0 6 ∷ plain Ident 7 8 7 1 ∷ plain Comma 8 9 8 1 ∷ plain Star 10 11 10 1 ∷ plain As 12 14 12 2 ∷ plain Ident 15 16 15 1 ∷ plain From 17 21 17 4 ∷ plain Str 22 25 23 1 ∷ plain Semicolon 25 26 25 1 ∷ plain Export 27 33 27 6 ∷ plain Star 34 35 34 1 ∷ plain As 36 38 36 2 ∷ plain Ident 39 40 39 1 ∷ plain From 41 45 41 4 ∷ plain Str 46 49 47 1 ∷ lined Export 50 56 50 6 ∷ plain LCurly 57 58 57 1 ∷ plain Ident 58 59 58 1 ∷ plain As 60 62 60 2 ∷ plain Ident 63 64 63 1 ∷ plain Comma 64 65 64 1 ∷ plain Ident 66 67 66 1 ∷ plain RCurly 67 68 67 1 ∷ plain From 69 73 69 4 ∷ plain Str 74 77 75 1 ∷ plain Semicolon 77 78 77 1 ∷ plain Export 79 85 79 6 ∷ plain Star 86 87 86 1 ∷ plain From 88 92 88 4 ∷ plain Str 93 96 94 1 ∷ []))
      ≡ pages ((page.import (span 0 26) phase.Evaluation (requested 22 25 23 1) ((row (span 7 8) bind.Default (word 7 8 7 1) (word 7 8 7 1)) ∷ (row (span 10 16) bind.Namespace (word 15 16 15 1) (word 15 16 15 1)) ∷ []) []) ∷ (page.export_all (span 27 49) (requested 46 49 47 1) (Some (word 39 40 39 1)) []) ∷ (page.export_from (span 50 78) (requested 74 77 75 1) ((row (span 58 64) bind.Named (word 58 59 58 1) (word 63 64 63 1)) ∷ (row (span 66 67) bind.Named (word 66 67 66 1) (word 66 67 66 1)) ∷ []) []) ∷ (page.export_all (span 79 96) (requested 93 96 94 1) None []) ∷ []) ([])
  -- import 'm'; import source from 'm'; import source from from 'n'; import defer from 'o'; import defer, {a as b,} from 'o'
  pub clean_names : answer (read_all standard (codes "import 'm'; import source from 'm'; import source from from 'n'; import defer from 'o'; import defer, {a as b,} from 'o'") refusing
      (lined Import 0 6 0 6 ∷ plain Str 7 10 8 1 ∷ plain Semicolon 10 11 10 1 ∷ plain Import 12 18 12 6 ∷ plain Source 19 25 19 6 ∷ plain From 26 30 26 4 ∷ plain Str 31 34 32 1 ∷ plain Semicolon 34 35 34 1 ∷ plain Import 36 42 36 6 ∷ plain Source 43 49 43 6 ∷ plain From 50 54 50 4 ∷ plain From 55 59 55 4 ∷ plain Str 60 63 61 1 ∷ plain Semicolon 63 64 63 1 ∷ plain Import 65 71 65 6 ∷ plain Defer 72 77 72 5 ∷ plain From 78 82 78 4 ∷ plain Str 83 86 84 1 ∷ plain Semicolon 86 87 86 1 ∷ plain Import 88 94 88 6 ∷ plain Defer 95 100 95 5 ∷ plain Comma 100 101 100 1 ∷ plain LCurly 102 103 102 1 ∷ plain Ident 103 104 103 1 ∷ plain As 105 107 105 2 ∷ plain Ident 108 109 108 1 ∷ plain Comma 109 110 109 1 ∷ plain RCurly 110 111 110 1 ∷ plain From 112 116 112 4 ∷ plain Str 117 120 118 1 ∷ []))
      ≡ pages ((page.import (span 0 11) phase.Evaluation (requested 7 10 8 1) ([]) []) ∷ (page.import (span 12 35) phase.Evaluation (requested 31 34 32 1) ((row (span 19 25) bind.Default (word 19 25 19 6) (word 19 25 19 6)) ∷ []) []) ∷ (page.import (span 36 64) phase.Source (requested 60 63 61 1) ((row (span 50 54) bind.Default (word 50 54 50 4) (word 50 54 50 4)) ∷ []) []) ∷ (page.import (span 65 87) phase.Evaluation (requested 83 86 84 1) ((row (span 72 77) bind.Default (word 72 77 72 5) (word 72 77 72 5)) ∷ []) []) ∷ (page.import (span 88 120) phase.Evaluation (requested 117 120 118 1) ((row (span 95 100) bind.Default (word 95 100 95 5) (word 95 100 95 5)) ∷ (row (span 103 109) bind.Named (word 103 104 103 1) (word 108 109 108 1)) ∷ []) []) ∷ []) ([])
  -- import defer * as n from 'm'; import source x from 'n'; export {x as 'y', n};
  pub clean_phases : answer (read_all standard (codes "import defer * as n from 'm'; import source x from 'n'; export {x as 'y', n};") refusing
      (lined Import 0 6 0 6 ∷ plain Defer 7 12 7 5 ∷ plain Star 13 14 13 1 ∷ plain As 15 17 15 2 ∷ plain Ident 18 19 18 1 ∷ plain From 20 24 20 4 ∷ plain Str 25 28 26 1 ∷ plain Semicolon 28 29 28 1 ∷ plain Import 30 36 30 6 ∷ plain Source 37 43 37 6 ∷ plain Ident 44 45 44 1 ∷ plain From 46 50 46 4 ∷ plain Str 51 54 52 1 ∷ plain Semicolon 54 55 54 1 ∷ plain Export 56 62 56 6 ∷ plain LCurly 63 64 63 1 ∷ plain Ident 64 65 64 1 ∷ plain As 66 68 66 2 ∷ plain Str 69 72 70 1 ∷ plain Comma 72 73 72 1 ∷ plain Ident 74 75 74 1 ∷ plain RCurly 75 76 75 1 ∷ plain Semicolon 76 77 76 1 ∷ []))
      ≡ pages ((page.import (span 0 29) phase.Defer (requested 25 28 26 1) ((row (span 13 19) bind.Namespace (word 18 19 18 1) (word 18 19 18 1)) ∷ []) []) ∷ (page.import (span 30 55) phase.Source (requested 51 54 52 1) ((row (span 44 45) bind.Default (word 44 45 44 1) (word 44 45 44 1)) ∷ []) []) ∷ (page.braces (span 56 77) ((row (span 64 72) bind.Named (word 64 65 64 1) (string 69 72 70 1)) ∷ (row (span 74 75) bind.Named (word 74 75 74 1) (word 74 75 74 1)) ∷ [])) ∷ []) ([])
  -- export default a;
  pub clean_default : answer (read_all standard (codes "export default a;") (taking 2 1 (lit≤ tt))
      (lined Export 0 6 0 6 ∷ plain Default 7 14 7 7 ∷ plain Ident 15 16 15 1 ∷ plain Semicolon 16 17 16 1 ∷ []))
      ≡ pages ((page.default (span 0 17) (span 7 14) (span 15 16) (local.Plain (word 15 16 15 1))) ∷ []) ([])
  -- x; import 'm' assert {a: 'b'}⏎assert;
  pub clean_statement : answer (read_all standard (codes "x; import 'm' assert {a: 'b'}\nassert;") (taking 2 1 (lit≤ tt))
      (lined Ident 0 1 0 1 ∷ plain Semicolon 1 2 1 1 ∷ plain Import 3 9 3 6 ∷ plain Str 10 13 11 1 ∷ plain Assert 14 20 14 6 ∷ plain LCurly 21 22 21 1 ∷ plain Ident 22 23 22 1 ∷ plain Colon 23 24 23 1 ∷ plain Str 25 28 26 1 ∷ plain RCurly 28 29 28 1 ∷ lined Assert 30 36 30 6 ∷ plain Semicolon 36 37 36 1 ∷ []))
      ≡ pages ((page.statement (span 0 2)) ∷ (page.import (span 3 29) phase.Evaluation (requested 10 13 11 1) ([]) ((pair (word 22 23 22 1) (string 25 28 26 1)) ∷ [])) ∷ (page.statement (span 30 37)) ∷ []) ([])
  -- import(a);
  pub clean_call : answer (read_all standard (codes "import(a);") (taking 5 1 (lit≤ tt))
      (lined Import 0 6 0 6 ∷ plain LParen 6 7 6 1 ∷ plain Ident 7 8 7 1 ∷ plain RParen 8 9 8 1 ∷ plain Semicolon 9 10 9 1 ∷ []))
      ≡ pages ((page.statement (span 0 10)) ∷ []) ([])
  -- import.b;
  pub clean_meta : answer (read_all standard (codes "import.b;") (taking 4 1 (lit≤ tt))
      (lined Import 0 6 0 6 ∷ plain Dot 6 7 6 1 ∷ plain Ident 7 8 7 1 ∷ plain Semicolon 8 9 8 1 ∷ []))
      ≡ pages ((page.statement (span 0 9)) ∷ []) ([])
  -- export {}; import {} from 'm'
  pub clean_empty : answer (read_all standard (codes "export {}; import {} from 'm'") refusing
      (lined Export 0 6 0 6 ∷ plain LCurly 7 8 7 1 ∷ plain RCurly 8 9 8 1 ∷ plain Semicolon 9 10 9 1 ∷ plain Import 11 17 11 6 ∷ plain LCurly 18 19 18 1 ∷ plain RCurly 19 20 19 1 ∷ plain From 21 25 21 4 ∷ plain Str 26 29 27 1 ∷ []))
      ≡ pages ((page.braces (span 0 10) ([])) ∷ (page.import (span 11 29) phase.Evaluation (requested 26 29 27 1) ([]) []) ∷ []) ([])
  -- import {\u0061s as \u0066rom} from 'm'
  pub clean_escaped : answer (read_all standard (codes "import {\\u0061s as \\u0066rom} from 'm'asfrom") refusing
      (lined Import 0 6 0 6 ∷ plain LCurly 7 8 7 1 ∷ escaped As 8 15 38 2 ∷ plain As 16 18 16 2 ∷ escaped From 19 28 40 4 ∷ plain RCurly 28 29 28 1 ∷ plain From 30 34 30 4 ∷ plain Str 35 38 36 1 ∷ []))
      ≡ pages ((page.import (span 0 38) phase.Evaluation (requested 35 38 36 1) ((row (span 8 28) bind.Named (word 8 15 38 2) (word 19 28 40 4)) ∷ []) []) ∷ []) ([])
  -- export default function f() {}
  pub clean_function : answer (read_all standard (codes "export default function f() {}") (naming_second 6 (lit≤ tt))
      (lined Export 0 6 0 6 ∷ plain Default 7 14 7 7 ∷ plain Function 15 23 15 8 ∷ plain Ident 24 25 24 1 ∷ plain LParen 25 26 25 1 ∷ plain RParen 26 27 26 1 ∷ plain LCurly 28 29 28 1 ∷ plain RCurly 29 30 29 1 ∷ []))
      ≡ pages ((page.default (span 0 30) (span 7 14) (span 15 30) (local.Named (word 24 25 24 1))) ∷ []) ([])
  -- export default 1 + 1;
  pub clean_value : answer (read_all standard (codes "export default 1 + 1;") (nameless 4 (lit≤ tt))
      (lined Export 0 6 0 6 ∷ plain Default 7 14 7 7 ∷ plain Decimal 15 16 15 1 ∷ plain Plus 17 18 17 1 ∷ plain Decimal 19 20 19 1 ∷ plain Semicolon 20 21 20 1 ∷ []))
      ≡ pages ((page.default (span 0 21) (span 7 14) (span 15 20) local.Absent) ∷ []) ([])
  -- import '\uD800'
  pub clean_lone : answer (read_all standard ((105 ∷ 109 ∷ 112 ∷ 111 ∷ 114 ∷ 116 ∷ 32 ∷ 39 ∷ 92 ∷ 117 ∷ 68 ∷ 56 ∷ 48 ∷ 48 ∷ 39 ∷ 237 ∷ 160 ∷ 128 ∷ [])) refusing
      (lined Import 0 6 0 6 ∷ escaped_lone Str 7 15 15 3 ∷ []))
      ≡ pages ((page.import (span 0 15) phase.Evaluation (record { text = record { place = 15; len = 3 }; span = span 7 15; lone = true }) ([]) []) ∷ []) ([])
  -- a second export near the end of the 32 bits
  pub number_28_last : answer (read_all standard [] (taking 2 1 (lit≤ tt))
      (plain Export 0 6 0 0 ∷ plain Export 4294967290 4294967295 0 0 ∷ plain Class 4294967295 4294967295 0 0 ∷ plain Ident 4294967295 4294967295 0 0 ∷ []))
      ≡ pages (page.declaration (span 0 4294967295) (span 4294967295 4294967295) (word 4294967295 4294967295 0 0 ∷ []) ∷ []) (fault_at SecondExport (span 4294967290 4294967295) ∷ [])

-- the names that a module exports, where it is read without a stop
abbrev pub exported : List ℕ → Out (List Item) → List (List ℕ)
exported text (stop f) = []
exported text (got is fs e m) = exported_names text is

-- export {a as b, 'c'} from 'm'; export * as d from 'm'; export * from 'm'; export class E export default f;
pub record Exported : Type 0 where
  pub names : exported (codes "export {a as b, 'c'} from 'm'; export * as d from 'm'; export * from 'm'; export class E export default f;") (read_all standard (codes "export {a as b, 'c'} from 'm'; export * as d from 'm'; export * from 'm'; export class E export default f;") (taking 2 1 (lit≤ tt))
      (lined Export 0 6 0 6 ∷ plain LCurly 7 8 7 1 ∷ plain Ident 8 9 8 1 ∷ plain As 10 12 10 2 ∷ plain Ident 13 14 13 1 ∷ plain Comma 14 15 14 1 ∷ plain Str 16 19 17 1 ∷ plain RCurly 19 20 19 1 ∷ plain From 21 25 21 4 ∷ plain Str 26 29 27 1 ∷ plain Semicolon 29 30 29 1 ∷ plain Export 31 37 31 6 ∷ plain Star 38 39 38 1 ∷ plain As 40 42 40 2 ∷ plain Ident 43 44 43 1 ∷ plain From 45 49 45 4 ∷ plain Str 50 53 51 1 ∷ plain Semicolon 53 54 53 1 ∷ plain Export 55 61 55 6 ∷ plain Star 62 63 62 1 ∷ plain From 64 68 64 4 ∷ plain Str 69 72 70 1 ∷ plain Semicolon 72 73 72 1 ∷ plain Export 74 80 74 6 ∷ plain Class 81 86 81 5 ∷ plain Ident 87 88 87 1 ∷ plain Export 89 95 89 6 ∷ plain Default 96 103 96 7 ∷ plain Ident 104 105 104 1 ∷ plain Semicolon 105 106 105 1 ∷ []))
      ≡ codes "b" ∷ codes "c" ∷ codes "d" ∷ codes "E" ∷ codes "default" ∷ []
