-- Every list of pages that is given to a record since its opening: which of them it takes, and what their exports
-- and imports are.
use Rattle.std.specs.Prelude.{◌≡◌, ℕ, ◌≤◌, Bool, true, false, cond, List, [], ◌∷◌, ◌++◌, map, is_ok, Some, None, count_by, Option, ◌≢◌}
use Rattle.std.specs.List.{flat_map, AllByRecursion}
use Rattle.lexer.specs.declared.token.Span.{Span}
use Rattle.lexer.specs.declared.token.Part.{Part}
use Rattle.pages.specs.declared.rows.Name.{Name}
use Rattle.pages.specs.declared.rows.Request.{Request}
use Rattle.pages.specs.declared.rows.Specifier.{Specifier}
use Rattle.pages.specs.declared.page.DefaultName.{DefaultName}
use Rattle.pages.specs.declared.page.Page.{Page}
use Rattle.pages.specs.Contents.{Content, content, blank, statement, import, export_all, export_from, braces, declaration, default}
use Rattle.record_rules.specs.declared.rows.NameSpan.{NameSpan}
use Rattle.record_rules.specs.declared.rows.ImportRow.{ImportRow}
use Rattle.record_rules.specs.declared.rows.ExportRow.{ExportRow}
use Rattle.record_rules.specs.declared.rows.ExportImport.{ExportImport}
use Rattle.record_rules.specs.declared.rows.ExportImport.TheVariants as taken
use Rattle.record_rules.specs.declared.rows.LocalName.TheVariants as local
use Rattle.record_rules.specs.Rows.{module_name, import_row, all_row, from_row, braces_row, declared_row, default_row}
use Rattle.record_rules.specs.Filing.{Book, blank_book, answered, filed}
use Rattle.record_rules.specs.Closing.{same_text, handed, handed_row, Lists, Closing, closing}

-- what a record holds once the pages were given to it, one after another
abbrev pub run : List ℕ → List Page → Book → Book
run text [] b = b
run text (p ∷ ps) b = run text ps (filed text (content p) b)

-- what the pages say that it takes
abbrev pub taken_from : List ℕ → List Page → Book → List Content
taken_from text [] b = []
taken_from text (p ∷ ps) b =
    cond (is_ok (answered text (content p) b)) (content p ∷ taken_from text ps (filed text (content p) b)) (taken_from text ps (filed text (content p) b))

abbrev pub taken_pages : List ℕ → List Page → List Content
taken_pages text ps = taken_from text ps blank_book

-- an export, as a page has it
pub data Export : Type 0 where
  -- the statement, the source, the name after `as`
  all : Span → Request → Option Name → Export
  -- the statement, the source, the specifier
  from : Span → Request → Specifier → Export
  -- the statement, the specifier
  brace : Span → Specifier → Export
  -- the statement, the declaration, the name
  declared : Span → Span → Name → Export
  -- the statement, the word `default`, the body, the local name
  as_default : Span → Span → Span → DefaultName → Export

-- the exports of a page, in its order
abbrev pub exports_of : Content → List Export
exports_of blank = []
exports_of (statement s) = []
exports_of (import s phase r ss attrs) = []
exports_of (export_all s r n attrs) = all s r n ∷ []
exports_of (export_from s r ss attrs) = map (from s r) ss
exports_of (braces s ss) = map (brace s) ss
exports_of (declaration s d ns) = map (declared s d) ns
exports_of (default s keyword body n) = as_default s keyword body n ∷ []

-- whether an export comes from a source with a lone surrogate
abbrev pub from_lone : Export → Bool
from_lone (all s r n) = r.lone
from_lone (from s r sp) = r.lone
from_lone (brace s sp) = false
from_lone (declared s d n) = false
from_lone (as_default s keyword body n) = false

-- the row of an export before the imports are known
abbrev pub export_row : Export → ExportRow
export_row (all s r n) = all_row s (module_name r) n
export_row (from s r sp) = from_row s (module_name r) sp
export_row (brace s sp) = braces_row s sp
export_row (declared s d n) = declared_row s d n
export_row (as_default s keyword body n) = default_row s keyword body n

-- the imports of a page, in its order: none from a source with a lone surrogate
abbrev pub imports_of : Content → List ImportRow
imports_of blank = []
imports_of (statement s) = []
imports_of (import s phase r ss attrs) = cond r.lone [] (map (import_row s phase (module_name r)) ss)
imports_of (export_all s r n attrs) = []
imports_of (export_from s r ss attrs) = []
imports_of (braces s ss) = []
imports_of (declaration s d ns) = []
imports_of (default s keyword body n) = []

abbrev pub taken_exports : List ℕ → List Page → List Export
taken_exports text ps = flat_map exports_of (taken_pages text ps)

abbrev pub taken_imports : List ℕ → List Page → List ImportRow
taken_imports text ps = flat_map imports_of (taken_pages text ps)

-- no import has the local name
abbrev pub Unbound : List ℕ → Part → List ImportRow → Type 0
Unbound text name is = AllByRecursion (λ i. same_text text i.local.text name ≡ false) is

-- the first import of a local name
pub record First (text : List ℕ) (name : Part) (is : List ImportRow) (i : ImportRow) : Type 0 where
  pub before : List ImportRow
  pub after : List ImportRow
  pub whole : is ≡ before ++ i ∷ after
  pub others : Unbound text name before
  pub binds : same_text text i.local.text name ≡ true

pub data Place : Type 0 where
  to_local : Place
  to_indirect : Place
  to_star : Place

-- the closing rule: the list that an export goes to, and its row there
pub data Goes (text : List ℕ) (is : List ImportRow) (e : ExportRow) : Place → ExportRow → Type 0 where
  -- with a request, an unnamed export-all goes to star
  star : (r : NameSpan) → e.request ≡ Some r → e.import_name ≡ taken.AllButDefault → Goes text is e to_star e
  -- and all else to indirect
  sourced : (r : NameSpan) → e.request ≡ Some r → (e.import_name ≢ taken.AllButDefault) → Goes text is e to_indirect e
  -- without one, an export that has no local name of its own, or a plain default, goes to local
  nameless : e.request ≡ None → ((n : NameSpan) → e.local ≢ local.Name n) → Goes text is e to_local e
  -- as does one whose local name is not imported
  unbound : (n : NameSpan) → e.request ≡ None → e.local ≡ local.Name n → Unbound text n.text is → Goes text is e to_local e
  -- or whose first import is a namespace or the default of a source phase
  kept : (n : NameSpan) (i : ImportRow) → e.request ≡ None → e.local ≡ local.Name n → First text n.text is i
      → handed i.import_name i.phase ≡ None → Goes text is e to_local e
  -- any other first import is handed on: its request, its import name and its statement
  handed_on : (n : NameSpan) (i : ImportRow) (t : ExportImport) → e.request ≡ None → e.local ≡ local.Name n → First text n.text is i
      → handed i.import_name i.phase ≡ Some t → Goes text is e to_indirect (handed_row e i t)

-- each export has one row in one list, by the rule, but those of a source with a lone surrogate have none; each
-- list keeps the order of the exports and holds nothing else
pub data Placed (text : List ℕ) (is : List ImportRow) : List Export → Lists → Type 0 where
  done : Placed text is [] (record { local = []; indirect = []; star = [] })
  none : (e : Export) (es : List Export) (l : Lists) → from_lone e ≡ true → Placed text is es l → Placed text is (e ∷ es) l
  local_next : (e : Export) (r : ExportRow) (es : List Export) (l : Lists) → from_lone e ≡ false → Goes text is (export_row e) to_local r
      → Placed text is es l → Placed text is (e ∷ es) (record { local = r ∷ l.local; indirect = l.indirect; star = l.star })
  indirect_next : (e : Export) (r : ExportRow) (es : List Export) (l : Lists) → from_lone e ≡ false → Goes text is (export_row e) to_indirect r
      → Placed text is es l → Placed text is (e ∷ es) (record { local = l.local; indirect = r ∷ l.indirect; star = l.star })
  star_next : (e : Export) (r : ExportRow) (es : List Export) (l : Lists) → from_lone e ≡ false → Goes text is (export_row e) to_star r
      → Placed text is es l → Placed text is (e ∷ es) (record { local = l.local; indirect = l.indirect; star = r ∷ l.star })

-- what a closed record owes to the pages that led to it: each taken export has its one row
abbrev pub ExportsPlaced : List ℕ → List Page → Closing → Type 0
ExportsPlaced text ps r = Placed text (taken_imports text ps) (taken_exports text ps) r.lists

-- the same things, each equally often
abbrev pub Equally : {X : Type 0} → List X → List X → Type 0
Equally {X} xs ys = (is : X → Bool) → count_by is xs ≡ count_by is ys

-- no local name is imported twice
abbrev pub Once : List ℕ → List ImportRow → Type 0
Once text is = (name : Part) → count_by (λ i. same_text text i.local.text name) is ≤ 1

-- two closed records of which one is free of faults exactly when the other is, and that have the same rows, each
-- equally often, if no local name is imported twice
pub record Agree (text : List ℕ) (is : List ImportRow) (r s : Closing) : Type 0 where
  pub clean : (r.faults ≡ [] → s.faults ≡ []) × (s.faults ≡ [] → r.faults ≡ [])
  pub local : Once text is → Equally r.lists.local s.lists.local
  pub indirect : Once text is → Equally r.lists.indirect s.lists.indirect
  pub star : Once text is → Equally r.lists.star s.lists.star

-- the order of pages does not matter: any other pages of which the same are taken, each equally often, agree
abbrev pub OrdersAgree : List ℕ → List Page → Closing → Type 0
OrdersAgree text ps r =
    (qs : List Page) → Equally (taken_pages text ps) (taken_pages text qs)
    → Agree text (taken_imports text ps) r (closing text (run text qs blank_book))
