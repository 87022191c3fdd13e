-- What the vectors call things.
use Rattle.std.specs.Prelude.{ℕ, Bool, true, false, List, [], ◌∷◌, codes}
use Rattle.pages.specs.declared.page.PageKind.{PageKind}
use Rattle.pages.specs.declared.page.PageKind.TheVariants as kind
use Rattle.pages.specs.declared.page.Phase.{Phase}
use Rattle.pages.specs.declared.page.Phase.TheVariants as phase
use Rattle.record_rules.specs.declared.rows.Clause.{Clause}
use Rattle.record_rules.specs.declared.rows.Clause.TheVariants as clause

abbrev pub flag_word : Bool → List ℕ
flag_word false = codes "0"
flag_word true = codes "1"

-- no vector has a blank page
abbrev pub page_word : PageKind → List ℕ
page_word kind.Blank = []
page_word kind.Statement = codes "statement"
page_word kind.Import = codes "import"
page_word kind.ExportAll = codes "export-all"
page_word kind.ExportFrom = codes "export-from"
page_word kind.Braces = codes "export-braces"
page_word kind.Declaration = codes "declaration"
page_word kind.Default = codes "default"

abbrev pub page_kinds : List PageKind
page_kinds = kind.Statement ∷ kind.Import ∷ kind.ExportAll ∷ kind.ExportFrom ∷ kind.Braces ∷ kind.Declaration ∷ kind.Default ∷ []

abbrev pub phase_word : Phase → List ℕ
phase_word phase.Evaluation = codes "none"
phase_word phase.Defer = codes "defer"
phase_word phase.Source = codes "source"

abbrev pub phases : List Phase
phases = phase.Evaluation ∷ phase.Defer ∷ phase.Source ∷ []

abbrev pub clause_word : Clause → List ℕ
clause_word clause.Import = codes "import"
clause_word clause.Export = codes "export"

abbrev pub clauses : List Clause
clauses = clause.Import ∷ clause.Export ∷ []
