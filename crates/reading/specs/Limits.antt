-- The limits of a page's tables, at their full size.
use Rattle.std.specs.Prelude.{◌≡◌, ℕ, zero, suc, List, [], ◌∷◌, ◌++◌, length, Some, None, Option}
use Rattle.kinds.specs.declared.kind.Kind.{Kind}
use Rattle.kinds.specs.declared.kind.Kind.TheVariants.{Ident, Str, Import, Export, From, If, With, Comma, Colon, LCurly, RCurly, Class}
use Rattle.lexer.specs.declared.token.Token.{Token}
use Rattle.pages.specs.declared.fault.FaultKind.TheVariants.{Full}
use Rattle.pages.specs.Faults.{fault_at}
use Rattle.reading.specs.Settings.{standard}
use Rattle.reading.specs.Hosts.{Host}
use Rattle.reading.specs.Items.{read_all}
use Rattle.reading.specs.Trials.{refusing, taking}
use Rattle.reading.specs.Worked.{Answer, stopped, pages, answer, span, plain}
use Rattle.std.proofs.Common.{lit≤}

-- the tokens xs, n times, before ts
abbrev pub times : ℕ → List Token → List Token → List Token
times zero xs ts = ts
times (suc n) xs ts = xs ++ times n xs ts

-- the number of faults on the pages, if there are pages
abbrev pub drawn : Answer → Option ℕ
drawn (stopped f) = None
drawn (pages cs fs) = Some (length fs)

-- what reading a list comes to
abbrev pub read : Host → List Token → Answer
read h ts = answer (read_all standard [] h ts)

abbrev pub source : List Token
source = plain From 2 3 0 0 ∷ plain Str 3 4 0 0 ∷ []

-- import {k, k, ..} from "m", and import d, {k, k, ..} from "m"
abbrev pub imports : Kind → ℕ → List Token
imports k n = plain Import 0 1 0 0 ∷ plain LCurly 1 2 0 0 ∷ times n (plain k 8 9 0 0 ∷ plain Comma 9 10 0 0 ∷ []) (plain RCurly 1 2 0 0 ∷ source)

abbrev pub defaults : ℕ → List Token
defaults n =
    plain Import 0 1 0 0 ∷ plain Ident 1 2 0 0 ∷ plain Comma 1 2 0 0 ∷ plain LCurly 1 2 0 0
    ∷ times n (plain Ident 8 9 0 0 ∷ plain Comma 9 10 0 0 ∷ []) (plain RCurly 1 2 0 0 ∷ source)

-- export {k, k, ..}
abbrev pub exports : ℕ → List Token
exports n = plain Export 0 1 0 0 ∷ plain LCurly 1 2 0 0 ∷ times n (plain Ident 8 9 0 0 ∷ plain Comma 9 10 0 0 ∷ []) (plain RCurly 1 2 0 0 ∷ [])

-- import "m" with {k: "v", ..}
abbrev pub attributes : ℕ → List Token
attributes n =
    plain Import 0 1 0 0 ∷ plain Str 1 2 0 0 ∷ plain With 2 3 0 0 ∷ plain LCurly 3 4 0 0
    ∷ times n (plain Ident 8 9 0 0 ∷ plain Colon 9 10 0 0 ∷ plain Str 10 11 0 0 ∷ plain Comma 11 12 0 0 ∷ []) (plain RCurly 1 2 0 0 ∷ [])

-- export class A {}
abbrev pub declares : List Token
declares = plain Export 0 1 0 0 ∷ plain Class 1 2 0 0 ∷ plain Ident 8 9 0 0 ∷ plain LCurly 3 4 0 0 ∷ plain RCurly 4 5 0 0 ∷ []

pub record Limits : Type 0 where
  pub imports_128 : drawn (read refusing (imports Ident 128)) ≡ Some 0
  pub imports_129 : read refusing (imports Ident 129) ≡ stopped (fault_at Full (span 8 9))
  pub defaults_127 : drawn (read refusing (defaults 127)) ≡ Some 0
  pub defaults_128 : read refusing (defaults 128) ≡ stopped (fault_at Full (span 8 9))
  pub exports_128 : drawn (read refusing (exports 128)) ≡ Some 0
  pub exports_129 : read refusing (exports 129) ≡ stopped (fault_at Full (span 8 9))
  pub names_128 : drawn (read (taking 4 128 (lit≤ tt)) declares) ≡ Some 0
  pub names_129 : read (taking 4 129 (lit≤ tt)) declares ≡ stopped (fault_at Full (span 8 9))
  -- each key but the first is repeated
  pub attributes_32 : drawn (read refusing (attributes 32)) ≡ Some 31
  pub attributes_33 : read refusing (attributes 33) ≡ stopped (fault_at Full (span 8 9))
  -- each name is a reserved word; at the end the span is empty
  pub faults_32 : drawn (read refusing (imports If 32)) ≡ Some 32
  pub faults_33 : read refusing (imports If 33) ≡ stopped (fault_at Full (span 4 4))
