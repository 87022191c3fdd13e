-- The import and export entries of ECMA-262, by text, and how ParseModule sorts them.
use Rattle.std.specs.Prelude.{◌≡◌, ℕ, Bool, true, cond, not, List, [], ◌∷◌, map, Some, None, codes, filter, Option}
use Rattle.std.specs.List.{flat_map}
use Rattle.std.specs.Str.{bytes_eq}
use Rattle.lexer.specs.Tokens.{part_of}
use Rattle.pages.specs.declared.rows.Name.{Name}
use Rattle.pages.specs.declared.rows.Specifier.{Specifier}
use Rattle.pages.specs.declared.rows.Binding.{Binding}
use Rattle.pages.specs.declared.rows.Binding.TheVariants as binding
use Rattle.pages.specs.declared.page.Phase.{Phase}
use Rattle.pages.specs.declared.page.Phase.TheVariants as phase
use Rattle.pages.specs.declared.page.DefaultName.{DefaultName}
use Rattle.pages.specs.declared.page.DefaultName.TheVariants as name
use Rattle.pages.specs.declared.page.Page.{Page}
use Rattle.pages.specs.Contents.{Content, blank, statement, import, export_all, export_from, braces, declaration, default}
use Rattle.record_rules.specs.declared.rows.NameSpan.{NameSpan}
use Rattle.record_rules.specs.declared.rows.ImportName.{ImportName}
use Rattle.record_rules.specs.declared.rows.ImportName.TheVariants as imported
use Rattle.record_rules.specs.declared.rows.ImportRow.{ImportRow}
use Rattle.record_rules.specs.declared.rows.ExportImport.{ExportImport}
use Rattle.record_rules.specs.declared.rows.ExportImport.TheVariants as taken
use Rattle.record_rules.specs.declared.rows.ExportName.{ExportName}
use Rattle.record_rules.specs.declared.rows.ExportName.TheVariants as exported
use Rattle.record_rules.specs.declared.rows.LocalName.{LocalName}
use Rattle.record_rules.specs.declared.rows.LocalName.TheVariants as local
use Rattle.record_rules.specs.declared.rows.ExportRow.{ExportRow}
use Rattle.record_rules.specs.Closing.{Closing}
use Rattle.record_rules.specs.Runs.{taken_pages}

abbrev pub Text : Type 0
Text = List ℕ

-- the [[ImportName]] of an import entry
pub data Imported : Type 0 where
  string : Text → Imported
  namespace_object : Imported
  -- of the source phase, TC39's addition: the module's source, which is no export of the module
  module_source : Imported

pub record ImportEntry : Type 0 where
  pub module_request : Text
  pub import_name : Imported
  pub local_name : Text

-- the [[ImportName]] of an export entry
pub data Taken : Type 0 where
  null : Taken
  string : Text → Taken
  all : Taken
  all_but_default : Taken

-- the [[LocalName]] of an export entry; `*default*` equals no text
pub data Bound : Type 0 where
  null : Bound
  string : Text → Bound
  star_default : Bound

pub record ExportEntry : Type 0 where
  pub module_request : Option Text
  pub import_name : Taken
  pub local_name : Bound
  pub export_name : Option Text

-- ImportEntriesForModule

abbrev pub default_import : Phase → Imported
default_import phase.Evaluation = string (codes "default")
default_import phase.Defer = string (codes "default")
default_import phase.Source = module_source

abbrev pub specifier_import : List ℕ → Text → Phase → Binding → Specifier → ImportEntry
specifier_import text m p binding.Default s = record { module_request = m; import_name = default_import p; local_name = part_of text s.alias.text }
specifier_import text m p binding.Namespace s = record { module_request = m; import_name = namespace_object; local_name = part_of text s.alias.text }
specifier_import text m p binding.Named s = record { module_request = m; import_name = string (part_of text s.name.text); local_name = part_of text s.alias.text }

abbrev pub import_entries : List ℕ → Content → List ImportEntry
import_entries text blank = []
import_entries text (statement s) = []
import_entries text (import s p r ss attrs) = map (λ sp. specifier_import text (part_of text r.text) p sp.binding sp) ss
import_entries text (export_all s r n attrs) = []
import_entries text (export_from s r ss attrs) = []
import_entries text (braces s ss) = []
import_entries text (declaration s d ns) = []
import_entries text (default s keyword body n) = []

-- ExportEntries and ExportEntriesForModule

abbrev pub star_entry : List ℕ → Text → Option Name → ExportEntry
star_entry text m None = record { module_request = Some m; import_name = all_but_default; local_name = null; export_name = None }
star_entry text m (Some n) = record { module_request = Some m; import_name = all; local_name = null; export_name = Some (part_of text n.text) }

abbrev pub specifier_export : List ℕ → Option Text → Specifier → ExportEntry
specifier_export text None s =
    record { module_request = None; import_name = null; local_name = string (part_of text s.name.text); export_name = Some (part_of text s.alias.text) }
specifier_export text (Some m) s =
    record { module_request = Some m; import_name = string (part_of text s.name.text); local_name = null; export_name = Some (part_of text s.alias.text) }

abbrev pub bound_name : List ℕ → DefaultName → Bound
bound_name text (name.Plain n) = star_default
bound_name text (name.Named n) = string (part_of text n.text)
bound_name text name.Absent = star_default

abbrev pub export_entries : List ℕ → Content → List ExportEntry
export_entries text blank = []
export_entries text (statement s) = []
export_entries text (import s phase r ss attrs) = []
export_entries text (export_all s r n attrs) = star_entry text (part_of text r.text) n ∷ []
export_entries text (export_from s r ss attrs) = map (specifier_export text (Some (part_of text r.text))) ss
export_entries text (braces s ss) = map (specifier_export text None) ss
export_entries text (declaration s d ns) =
    map (λ n. record { module_request = None; import_name = null; local_name = string (part_of text n.text); export_name = Some (part_of text n.text) }) ns
export_entries text (default s keyword body n) =
    record { module_request = None; import_name = null; local_name = bound_name text n; export_name = Some (codes "default") } ∷ []

-- ModuleRequests, with one for each clause
abbrev pub module_requests : List ℕ → Content → List Text
module_requests text blank = []
module_requests text (statement s) = []
module_requests text (import s phase r ss attrs) = part_of text r.text ∷ []
module_requests text (export_all s r n attrs) = part_of text r.text ∷ []
module_requests text (export_from s r ss attrs) = part_of text r.text ∷ []
module_requests text (braces s ss) = []
module_requests text (declaration s d ns) = []
module_requests text (default s keyword body n) = []

-- ParseModule: where an export entry goes

pub data Sorted : Type 0 where
  as_local : ExportEntry → Sorted
  as_indirect : ExportEntry → Sorted
  as_star : ExportEntry → Sorted

-- the import entry of a local name; the standard lets no name be imported twice, and else this is the first
abbrev pub import_of : Text → List ImportEntry → Option ImportEntry
import_of n [] = None
import_of n (i ∷ is) = cond (bytes_eq i.local_name n) (Some i) (import_of n is)

abbrev pub re_export : ExportEntry → ImportEntry → Imported → Sorted
re_export e i namespace_object = as_local e
re_export e i module_source = as_local e
re_export e i (string n) =
    as_indirect (record { module_request = Some i.module_request; import_name = string n; local_name = null; export_name = e.export_name })

abbrev pub sort_found : ExportEntry → Option ImportEntry → Sorted
sort_found e None = as_local e
sort_found e (Some i) = re_export e i i.import_name

abbrev pub sort_bound : List ImportEntry → ExportEntry → Bound → Sorted
sort_bound is e null = as_local e
sort_bound is e star_default = as_local e
sort_bound is e (string n) = sort_found e (import_of n is)

abbrev pub sort_taken : ExportEntry → Taken → Sorted
sort_taken e all_but_default = as_star e
sort_taken e all = as_indirect e
sort_taken e null = as_indirect e
sort_taken e (string n) = as_indirect e

abbrev pub sort_request : List ImportEntry → ExportEntry → Option Text → Sorted
sort_request is e None = sort_bound is e e.local_name
sort_request is e (Some m) = sort_taken e e.import_name

abbrev pub sort : List ImportEntry → ExportEntry → Sorted
sort is e = sort_request is e e.module_request

abbrev pub local_in : Sorted → List ExportEntry
local_in (as_local e) = e ∷ []
local_in (as_indirect e) = []
local_in (as_star e) = []

abbrev pub indirect_in : Sorted → List ExportEntry
indirect_in (as_local e) = []
indirect_in (as_indirect e) = e ∷ []
indirect_in (as_star e) = []

abbrev pub star_in : Sorted → List ExportEntry
star_in (as_local e) = []
star_in (as_indirect e) = []
star_in (as_star e) = e ∷ []

-- the rows of a record as entries

abbrev pub imported_text : List ℕ → Phase → ImportName → Imported
imported_text text p (imported.Name n) = string (part_of text n.text)
imported_text text p imported.Namespace = namespace_object
imported_text text p (imported.Default s) = default_import p

abbrev pub import_entry_of : List ℕ → ImportRow → ImportEntry
import_entry_of text i =
    record { module_request = part_of text i.request.text; import_name = imported_text text i.phase i.import_name; local_name = part_of text i.local.text }

abbrev pub request_text : List ℕ → Option NameSpan → Option Text
request_text text None = None
request_text text (Some r) = Some (part_of text r.text)

abbrev pub taken_text : List ℕ → ExportImport → Taken
taken_text text taken.Absent = null
taken_text text (taken.Name n) = string (part_of text n.text)
taken_text text (taken.Default s) = string (codes "default")
taken_text text taken.All = all
taken_text text taken.AllButDefault = all_but_default

abbrev pub exported_text : List ℕ → ExportName → Option Text
exported_text text exported.Absent = None
exported_text text (exported.Name n) = Some (part_of text n.text)
exported_text text (exported.Default s) = Some (codes "default")

-- a row with a request has no local name; without one a name, or else `*default*`
abbrev pub local_text : List ℕ → Option NameSpan → LocalName → Bound
local_text text (Some r) l = null
local_text text None (local.Name n) = string (part_of text n.text)
local_text text None (local.Default n) = star_default
local_text text None local.Absent = star_default

abbrev pub export_entry_of : List ℕ → ExportRow → ExportEntry
export_entry_of text e =
    record { module_request = request_text text e.request; import_name = taken_text text e.import_name; local_name = local_text text e.request e.local; export_name = exported_text text e.export_name }

-- the clauses that the standard speaks of: those whose source has no lone surrogate
abbrev pub well_formed : Content → Bool
well_formed blank = true
well_formed (statement s) = true
well_formed (import s phase r ss attrs) = not r.lone
well_formed (export_all s r n attrs) = not r.lone
well_formed (export_from s r ss attrs) = not r.lone
well_formed (braces s ss) = true
well_formed (declaration s d ns) = true
well_formed (default s keyword body n) = true

abbrev pub clauses : List ℕ → List Page → List Content
clauses text ps = filter well_formed (taken_pages text ps)

-- The record's rows are the standard's entries: its imports and requests one by one, and each list of exports. The
-- standard speaks of one import of a local name; where there are several, of the first.
pub record Entries (text : List ℕ) (cs : List Content) (r : Closing) : Type 0 where
  pub imports : map (import_entry_of text) r.imports ≡ flat_map (import_entries text) cs
  pub requests : map (λ q. part_of text q.text) r.requests ≡ flat_map (module_requests text) cs
  pub local :
      map (export_entry_of text) r.lists.local ≡ flat_map (λ e. local_in (sort (flat_map (import_entries text) cs) e)) (flat_map (export_entries text) cs)
  pub indirect :
      map (export_entry_of text) r.lists.indirect ≡ flat_map (λ e. indirect_in (sort (flat_map (import_entries text) cs) e)) (flat_map (export_entries text) cs)
  pub star :
      map (export_entry_of text) r.lists.star ≡ flat_map (λ e. star_in (sort (flat_map (import_entries text) cs) e)) (flat_map (export_entries text) cs)

abbrev pub ByTheStandard : List ℕ → List Page → Closing → Type 0
ByTheStandard text ps r = Entries text (clauses text ps) r
