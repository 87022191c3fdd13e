-- What the tables hold after any pages, and what a page adds to each.
use Rattle.std.proofs.Common.{arith, ◌≡◌, ℕ, Bool, true, false, cond, List, [], ◌∷◌, ◌++◌, Option, inl, inr, sym, refl, ap, ◌∙◌}
use Rattle.std.specs.List.{flat_map}
use Rattle.std.proofs.lemmas.List.{append_assoc, append-nil}
use Rattle.std.proofs.lemmas.List.Concat.{flat_map-append, flat_map_single}
use Rattle.std.proofs.lemmas.List.Folds.{flat_map-map}
use Rattle.std.proofs.lemmas.Bool.{cases_Bool}
use Rattle.lexer.specs.declared.token.Span.{Span}
use Rattle.pages.specs.declared.rows.Name.{Name}
use Rattle.pages.specs.declared.rows.Specifier.{Specifier}
use Rattle.pages.specs.declared.page.Page.{Page}
use Rattle.pages.specs.Contents.{Content, content, blank, statement, import, export_all, export_from, braces, declaration, default}
use Rattle.record_rules.specs.declared.rows.NameSpan.{NameSpan}
use Rattle.record_rules.specs.declared.rows.RequestRow.{RequestRow}
use Rattle.record_rules.specs.declared.rows.Clause.TheVariants as clause
use Rattle.record_rules.specs.declared.rows.ExportRow.{ExportRow}
use Rattle.record_rules.specs.Rows.{module_name, import_row, request_row, all_row, from_row, braces_row, declared_row, default_row}
use Rattle.record_rules.specs.Filing.{Book, blank_book, Write, an_import, a_request, a_waiting, a_name, a_skipped, skips, name_writes, skip_writes, writes, imports_in, requests_in, waiting_in, adds, join_books, fits, is_blank}
use Rattle.record_rules.specs.Runs.{run, taken_from, taken_pages, Export, from, brace, declared, exports_of, from_lone, export_row, imports_of, taken_exports, taken_imports}
use Rattle.record_rules.proofs.Joins.{joined_joined, joined_same, joined_none}

-- the tables after any pages

module _ {X : Type 0} (text : List ℕ) (get : Book → List X) (law : (b d : Book) → get (join_books b d) ≡ get b ++ get d) where
  -- a table holds what the taken pages add, in their order
  pub history : (ps : List Page) (b : Book) → get (run text ps b) ≡ get b ++ flat_map (λ q. get (adds text q)) (taken_from text ps b)
  history [] b = sym (append-nil (get b))
  history (p ∷ ps) b = elim (cases_Bool (is_blank (content p))) [
    | inl h ↦ rw h (history ps b)
    | inr h ↦ elim (cases_Bool (fits (join_books b (adds text (content p))))) [
      | inl k ↦ rw (h, k)
          (history ps (join_books b (adds text (content p)))
          ∙ ap (λ xs. xs ++ flat_map (λ q. get (adds text q)) (taken_from text ps (join_books b (adds text (content p))))) (law b (adds text (content p)))
          ∙ append_assoc (get b) (get (adds text (content p))) (flat_map (λ q. get (adds text q)) (taken_from text ps (join_books b (adds text (content p))))))
      | inr k ↦ rw (h, k) (history ps b)
    ]
  ]

-- What a page adds to a table that neither names nor skipped spans go to.

module _ {X : Type 0} (get : Write → List X) (no_name : (n : NameSpan) → get (a_name n) ≡ []) (no_skip : (s : Span) → get (a_skipped s) ≡ []) where
  -- rows one by one
  each : {S : Type 0} (f : S → Write) (ss : List S) → flat_map get (flat_map (λ s. f s ∷ []) ss) ≡ flat_map (λ s. get (f s)) ss
  each f ss = joined_joined get (λ s. f s ∷ []) ss ∙ joined_same _ _ (λ s. append-nil (get (f s))) ss

  skip_none : (text : List ℕ) (n : Name) → flat_map get (skips text n) ≡ []
  skip_none text n = grind (arith, no_skip)

  -- what comes to the table of a page's rows
  abbrev pub gives : Content → List X
  gives blank = []
  gives (statement s) = []
  gives (import s phase r ss attrs) =
      cond r.lone [] (flat_map (λ sp. get (an_import (import_row s phase (module_name r) sp))) ss ++ (get (a_request (request_row clause.Import s (module_name r))) ++ []))
  gives (export_all s r o attrs) = cond r.lone [] (get (a_waiting (all_row s (module_name r) o)) ++ (get (a_request (request_row clause.Export s (module_name r))) ++ []))
  gives (export_from s r ss attrs) =
      cond r.lone [] (get (a_request (request_row clause.Export s (module_name r))) ++ flat_map (λ sp. get (a_waiting (from_row s (module_name r) sp))) ss)
  gives (braces s ss) = flat_map (λ sp. get (a_waiting (braces_row s sp))) ss
  gives (declaration s d ns) = flat_map (λ n. get (a_waiting (declared_row s d n))) ns
  gives (default s keyword body n) = get (a_waiting (default_row s keyword body n)) ++ []

  import_gives : (t : Bool) (f : Specifier → Write) (q : Write) (ss : List Specifier)
      → flat_map get (cond t [] (flat_map (λ sp. f sp ∷ []) ss ++ q ∷ [])) ≡ cond t [] (flat_map (λ sp. get (f sp)) ss ++ (get q ++ []))
  import_gives true f q ss = refl
  import_gives false f q ss = flat_map-append get (flat_map (λ sp. f sp ∷ []) ss) (q ∷ []) ∙ ap (λ xs. xs ++ (get q ++ [])) (each f ss)

  all_gives : (t : Bool) (text : List ℕ) (o : Option Name) (ws : List Write)
      → flat_map get (name_writes o ++ cond t (skip_writes text o) ws) ≡ cond t [] (flat_map get ws)
  all_gives t text o ws = grind (arith, no_name, skip_none)

  from_gives : (t : Bool) (text : List ℕ) (f : Specifier → Write) (q : Write) (ss : List Specifier)
      → flat_map get (flat_map (λ sp. a_name (record { text = sp.alias.text; span = sp.alias.span }) ∷ []) ss ++ cond t (flat_map (λ sp. skips text sp.alias) ss) (q ∷ flat_map (λ sp. f sp ∷ []) ss))
      ≡ cond t [] (get q ++ flat_map (λ sp. get (f sp)) ss)
  from_gives t text f q ss =
      flat_map-append get (flat_map (λ sp. a_name (record { text = sp.alias.text; span = sp.alias.span }) ∷ []) ss) _
      ∙ ap (λ xs. xs ++ flat_map get (cond t (flat_map (λ sp. skips text sp.alias) ss) (q ∷ flat_map (λ sp. f sp ∷ []) ss)))
      (each (λ sp. a_name (record { text = sp.alias.text; span = sp.alias.span })) ss ∙ joined_same _ (λ sp. []) (λ sp. no_name _) ss ∙ joined_none ss)
      ∙ go t
    where
      go : (t : Bool) → flat_map get (cond t (flat_map (λ sp. skips text sp.alias) ss) (q ∷ flat_map (λ sp. f sp ∷ []) ss)) ≡ cond t [] (get q ++ flat_map (λ sp. get (f sp)) ss)
      go true = joined_joined get (λ sp. skips text sp.alias) ss ∙ joined_same _ (λ sp. []) (λ sp. skip_none text sp.alias) ss ∙ joined_none ss
      go false = ap (λ xs. get q ++ xs) (each f ss)

  -- a row and a name for each element
  pairs : {S : Type 0} (f : S → Write) (n : S → NameSpan) (ss : List S) → flat_map get (flat_map (λ s. f s ∷ a_name (n s) ∷ []) ss) ≡ flat_map (λ s. get (f s)) ss
  pairs f n ss =
      joined_joined get (λ s. f s ∷ a_name (n s) ∷ []) ss
      ∙ joined_same _ (λ s. get (f s)) (λ s. ap (λ xs. get (f s) ++ (xs ++ [])) (no_name (n s)) ∙ append-nil (get (f s))) ss

  pub given : (text : List ℕ) (c : Content) → flat_map get (writes text c) ≡ gives c
  given text blank = refl
  given text (statement s) = refl
  given text (import s phase r ss attrs) = import_gives r.lone _ _ ss
  given text (export_all s r o attrs) = all_gives r.lone text o _
  given text (export_from s r ss attrs) = from_gives r.lone text _ _ ss
  given text (braces s ss) = pairs (λ sp. a_waiting (braces_row s sp)) _ ss
  given text (declaration s d ns) = pairs (λ n. a_waiting (declared_row s d n)) _ ns
  given text (default s keyword body n) = refl

-- nothing, of a source with a lone surrogate or of another
pub nothing : {X : Type 0} (t : Bool) → ◌≡◌ {A = List X} (cond t [] []) []
nothing t = grind arith

pub imports_of_lem : (text : List ℕ) (c : Content) → flat_map imports_in (writes text c) ≡ imports_of c
imports_of_lem text c = given imports_in (λ n. refl) (λ s. refl) text c ∙ go c
  where
    go : (c : Content) → gives imports_in (λ n. refl) (λ s. refl) c ≡ imports_of c
    go blank = refl
    go (statement s) = refl
    go (import s phase r ss attrs) = ap (cond r.lone []) (append-nil _ ∙ flat_map_single (import_row s phase (module_name r)) ss)
    go (export_all s r o attrs) = nothing r.lone
    go (export_from s r ss attrs) = ap (cond r.lone []) (joined_none ss) ∙ nothing r.lone
    go (braces s ss) = joined_none ss
    go (declaration s d ns) = joined_none ns
    go (default s keyword body n) = refl

-- the request of a page
abbrev pub requests_of : Content → List RequestRow
requests_of blank = []
requests_of (statement s) = []
requests_of (import s phase r ss attrs) = cond r.lone [] (request_row clause.Import s (module_name r) ∷ [])
requests_of (export_all s r o attrs) = cond r.lone [] (request_row clause.Export s (module_name r) ∷ [])
requests_of (export_from s r ss attrs) = cond r.lone [] (request_row clause.Export s (module_name r) ∷ [])
requests_of (braces s ss) = []
requests_of (declaration s d ns) = []
requests_of (default s keyword body n) = []

pub requests_of_lem : (text : List ℕ) (c : Content) → flat_map requests_in (writes text c) ≡ requests_of c
requests_of_lem text c = given requests_in (λ n. refl) (λ s. refl) text c ∙ go c
  where
    go : (c : Content) → gives requests_in (λ n. refl) (λ s. refl) c ≡ requests_of c
    go blank = refl
    go (statement s) = refl
    go (import s phase r ss attrs) = ap (λ xs. cond r.lone [] (xs ++ request_row clause.Import s (module_name r) ∷ [])) (joined_none ss)
    go (export_all s r o attrs) = refl
    go (export_from s r ss attrs) = ap (λ xs. cond r.lone [] (request_row clause.Export s (module_name r) ∷ xs)) (joined_none ss)
    go (braces s ss) = joined_none ss
    go (declaration s d ns) = joined_none ns
    go (default s keyword body n) = refl

-- the row that waits for an export
abbrev pub waits : Export → List ExportRow
waits e = cond (from_lone e) [] (export_row e ∷ [])

from_waits : (t : Bool) (row : Specifier → ExportRow) (ss : List Specifier) → cond t [] (flat_map (λ sp. row sp ∷ []) ss) ≡ flat_map (λ sp. cond t [] (row sp ∷ [])) ss
from_waits true row ss = sym (joined_none ss)
from_waits false row ss = refl

pub waiting_of : (text : List ℕ) (c : Content) → flat_map waiting_in (writes text c) ≡ flat_map waits (exports_of c)
waiting_of text c = given waiting_in (λ n. refl) (λ s. refl) text c ∙ go c
  where
    go : (c : Content) → gives waiting_in (λ n. refl) (λ s. refl) c ≡ flat_map waits (exports_of c)
    go blank = refl
    go (statement s) = refl
    go (import s phase r ss attrs) = ap (λ xs. cond r.lone [] (xs ++ [])) (joined_none ss) ∙ nothing r.lone
    go (export_all s r o attrs) = sym (append-nil _)
    go (export_from s r ss attrs) = from_waits r.lone (from_row s (module_name r)) ss ∙ sym (flat_map-map waits (from s r) ss)
    go (braces s ss) = sym (flat_map-map waits (brace s) ss)
    go (declaration s d ns) = sym (flat_map-map waits (declared s d) ns)
    go (default s keyword body n) = refl

-- over any pages

pub imports_after : (text : List ℕ) (ps : List Page) → (run text ps blank_book).imports ≡ taken_imports text ps
imports_after text ps =
    history text (λ b. b.imports) (λ b d. refl) ps blank_book
    ∙ joined_same (λ c. (adds text c).imports) imports_of (imports_of_lem text) (taken_pages text ps)

pub waiting_after : (text : List ℕ) (ps : List Page) → (run text ps blank_book).waiting ≡ flat_map waits (taken_exports text ps)
waiting_after text ps =
    history text (λ b. b.waiting) (λ b d. refl) ps blank_book
    ∙ joined_same (λ c. (adds text c).waiting) (λ c. flat_map waits (exports_of c)) (waiting_of text) (taken_pages text ps)
    ∙ sym (joined_joined waits exports_of (taken_pages text ps))
