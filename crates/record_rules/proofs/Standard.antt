-- The rows of a closed record are the entries of ECMA-262.
use Rattle.std.proofs.Common.{arith, ◌≡◌, ℕ, Bool, true, false, cond, not, List, [], ◌∷◌, ◌++◌, map, None, filter, Option, inl, inr, sym, refl, ap, ◌∙◌}
use Rattle.std.specs.List.{flat_map}
use Rattle.std.proofs.lemmas.Bool.{cases_Bool}
use Rattle.std.proofs.lemmas.List.Concat.{flat_map_single}
use Rattle.std.proofs.lemmas.List.Folds.{flat_map-map}
use Rattle.std.proofs.lemmas.Simd.{map-map}
use Rattle.lexer.specs.declared.token.Part.{Part}
use Rattle.lexer.specs.declared.token.Span.{Span}
use Rattle.lexer.specs.Tokens.{part_of}
use Rattle.pages.specs.declared.rows.Name.{Name}
use Rattle.pages.specs.declared.rows.Request.{Request}
use Rattle.pages.specs.declared.rows.Specifier.{Specifier}
use Rattle.pages.specs.declared.rows.Binding.{Binding}
use Rattle.pages.specs.declared.page.Phase.{Phase}
use Rattle.pages.specs.declared.page.DefaultName.{DefaultName}
use Rattle.pages.specs.declared.page.Page.{Page}
use Rattle.pages.specs.Contents.{Content, blank, statement, import, export_all, export_from, braces, declaration, default}
use Rattle.record_rules.specs.declared.rows.NameSpan.{NameSpan}
use Rattle.record_rules.specs.declared.rows.ImportName.{ImportName}
use Rattle.record_rules.specs.declared.rows.ImportRow.{ImportRow}
use Rattle.record_rules.specs.declared.rows.RequestRow.{RequestRow}
use Rattle.record_rules.specs.declared.rows.Clause.TheVariants as clause
use Rattle.record_rules.specs.declared.rows.ExportImport.{ExportImport}
use Rattle.record_rules.specs.declared.rows.LocalName.{LocalName}
use Rattle.record_rules.specs.declared.rows.ExportRow.{ExportRow}
use Rattle.record_rules.specs.declared.rows.Settled.{Settled}
use Rattle.record_rules.specs.declared.rows.Settled.TheVariants as settled
use Rattle.record_rules.specs.Rows.{module_name, import_name_by, import_row, request_row, all_row, from_row, braces_row, declared_row, default_row}
use Rattle.record_rules.specs.Filing.{blank_book, requests_in, adds}
use Rattle.record_rules.specs.Closing.{same_text, first_import, handed, by_request, by_taken, by_local, by_import, by_handed, settle, in_local, in_indirect, in_star, closing}
use Rattle.record_rules.specs.Runs.{run, taken_pages, from, brace, declared, exports_of, imports_of, taken_exports, taken_imports}
use Rattle.record_rules.specs.Ecma.{ImportEntry, ExportEntry, specifier_import, import_entries, star_entry, export_entries, module_requests, Sorted, as_local, as_indirect, as_star, import_of, re_export, sort_found, sort_bound, sort_taken, sort_request, sort, local_in, indirect_in, star_in, imported_text, import_entry_of, request_text, taken_text, local_text, export_entry_of, well_formed, clauses, ByTheStandard}
use Rattle.record_rules.proofs.Joins.{joined_joined, joined_same, joined_none, map_joined}
use Rattle.record_rules.proofs.Tables.{nothing, waits, history, imports_after, waiting_after, requests_of, requests_of_lem}

-- over the clauses that the standard speaks of

joined_kept : {X Y : Type 0} (p : X → Bool) (f : X → List Y) (xs : List X) → flat_map f (filter p xs) ≡ flat_map (λ x. cond (p x) (f x) []) xs
joined_kept p f [] = refl
joined_kept p f (x ∷ xs) = elim (cases_Bool (p x)) [
  | inl h ↦ rw h (ap (λ zs. f x ++ zs) (joined_kept p f xs))
  | inr h ↦ rw h (joined_kept p f xs)
]

map_same : {X Y Z : Type 0} (f : Y → Z) (g : X → Y) (h : X → Z) → ((x : X) → f (g x) ≡ h x) → (xs : List X) → map f (map g xs) ≡ map h xs
map_same f g h e xs = map-map f g xs ∙ ap (λ k. map k xs) (λ i x. e x i)

-- imports

specifier_entry : (text : List ℕ) (s : Span) (p : Phase) (r : Request) (b : Binding) (sp : Specifier)
    → ◌≡◌ {A = ImportEntry} (record { module_request = part_of text r.text; import_name = imported_text text p (import_name_by b sp); local_name = part_of text sp.alias.text }) (specifier_import text (part_of text r.text) p b sp)
specifier_entry text s p r b sp = grind arith

import_entries_lem : (t : Bool) (text : List ℕ) (s : Span) (p : Phase) (r : Request) (ss : List Specifier)
    → map (import_entry_of text) (cond t [] (map (import_row s p (module_name r)) ss))
    ≡ cond (not t) (map (λ sp. specifier_import text (part_of text r.text) p sp.binding sp) ss) []
import_entries_lem true text s p r ss = refl
import_entries_lem false text s p r ss =
    map_same (import_entry_of text) (import_row s p (module_name r)) (λ sp. specifier_import text (part_of text r.text) p sp.binding sp) (λ sp. specifier_entry text s p r sp.binding sp) ss

imports_by : (text : List ℕ) (c : Content) → map (import_entry_of text) (imports_of c) ≡ cond (well_formed c) (import_entries text c) []
imports_by text c = grind (arith, import_entries_lem, nothing)

imports_are : (text : List ℕ) (ps : List Page) → map (import_entry_of text) (taken_imports text ps) ≡ flat_map (import_entries text) (clauses text ps)
imports_are text ps =
    map_joined (import_entry_of text) imports_of (taken_pages text ps)
    ∙ joined_same _ _ (imports_by text) (taken_pages text ps)
    ∙ sym (joined_kept well_formed (import_entries text) (taken_pages text ps))

-- requests

request_by : (t : Bool) (text : List ℕ) (q : RequestRow) → map (λ q. part_of text q.text) (cond t [] (q ∷ [])) ≡ cond (not t) (part_of text q.text ∷ []) []
request_by t text q = grind arith

requests_by : (text : List ℕ) (c : Content) → map (λ q. part_of text q.text) (requests_of c) ≡ cond (well_formed c) (module_requests text c) []
requests_by text blank = refl
requests_by text (statement s) = refl
requests_by text (import s p r ss attrs) = request_by r.lone text (request_row clause.Import s (module_name r))
requests_by text (export_all s r o attrs) = request_by r.lone text (request_row clause.Export s (module_name r))
requests_by text (export_from s r ss attrs) = request_by r.lone text (request_row clause.Export s (module_name r))
requests_by text (braces s ss) = refl
requests_by text (declaration s d ns) = refl
requests_by text (default s keyword body n) = refl

requests_are : (text : List ℕ) (ps : List Page) → map (λ q. part_of text q.text) (run text ps blank_book).requests ≡ flat_map (module_requests text) (clauses text ps)
requests_are text ps =
    ap (map (λ q. part_of text q.text))
    (history text (λ b. b.requests) (λ b d. refl) ps blank_book ∙ joined_same (λ c. (adds text c).requests) requests_of (requests_of_lem text) (taken_pages text ps))
    ∙ map_joined (λ q. part_of text q.text) requests_of (taken_pages text ps)
    ∙ joined_same _ _ (requests_by text) (taken_pages text ps)
    ∙ sym (joined_kept well_formed (module_requests text) (taken_pages text ps))

-- exports

star_by : (t : Bool) (text : List ℕ) (s : Span) (r : Request) (o : Option Name)
    → map (export_entry_of text) (cond t [] (all_row s (module_name r) o ∷ []) ++ []) ≡ cond (not t) (star_entry text (part_of text r.text) o ∷ []) []
star_by t text s r o = grind arith

from_by : (t : Bool) (text : List ℕ) (row : Specifier → ExportRow) (entry : Specifier → ExportEntry) → ((sp : Specifier) → export_entry_of text (row sp) ≡ entry sp) → (ss : List Specifier)
    → map (export_entry_of text) (flat_map (λ sp. cond t [] (row sp ∷ [])) ss) ≡ cond (not t) (map entry ss) []
from_by true text row entry h ss = ap (map (export_entry_of text)) (joined_none ss)
from_by false text row entry h ss = ap (map (export_entry_of text)) (flat_map_single row ss) ∙ map_same (export_entry_of text) row entry h ss

default_by : (text : List ℕ) (s keyword body : Span) (n : DefaultName)
    → map (export_entry_of text) (default_row s keyword body n ∷ []) ≡ export_entries text (default s keyword body n)
default_by text s keyword body n = grind arith

exports_by : (text : List ℕ) (c : Content) → map (export_entry_of text) (flat_map waits (exports_of c)) ≡ cond (well_formed c) (export_entries text c) []
exports_by text blank = refl
exports_by text (statement s) = refl
exports_by text (import s p r ss attrs) = sym (nothing (not r.lone))
exports_by text (export_all s r o attrs) = star_by r.lone text s r o
exports_by text (export_from s r ss attrs) =
    ap (map (export_entry_of text)) (flat_map-map waits (from s r) ss) ∙ from_by r.lone text (from_row s (module_name r)) _ (λ sp. refl) ss
exports_by text (braces s ss) =
    ap (map (export_entry_of text)) (flat_map-map waits (brace s) ss ∙ flat_map_single (braces_row s) ss) ∙ map_same (export_entry_of text) (braces_row s) _ (λ sp. refl) ss
exports_by text (declaration s d ns) =
    ap (map (export_entry_of text)) (flat_map-map waits (declared s d) ns ∙ flat_map_single (declared_row s d) ns) ∙ map_same (export_entry_of text) (declared_row s d) _ (λ n. refl) ns
exports_by text (default s keyword body n) = default_by text s keyword body n

exports_are : (text : List ℕ) (ps : List Page) → map (export_entry_of text) (flat_map waits (taken_exports text ps)) ≡ flat_map (export_entries text) (clauses text ps)
exports_are text ps =
    ap (map (export_entry_of text)) (joined_joined waits exports_of (taken_pages text ps))
    ∙ map_joined (export_entry_of text) (λ c. flat_map waits (exports_of c)) (taken_pages text ps)
    ∙ joined_same _ _ (exports_by text) (taken_pages text ps)
    ∙ sym (joined_kept well_formed (export_entries text) (taken_pages text ps))

-- sorting

module _ (text : List ℕ) where
  abbrev entry_of : Settled → Sorted
  entry_of (settled.Local r) = as_local (export_entry_of text r)
  entry_of (settled.Indirect r) = as_indirect (export_entry_of text r)
  entry_of (settled.Star r) = as_star (export_entry_of text r)

  one : (w : ExportRow) (i : ImportRow) (n : ImportName) (p : Phase)
      → entry_of (by_handed w i (handed n p)) ≡ re_export (export_entry_of text w) (import_entry_of text i) (imported_text text p n)
  one w i n p = grind arith

  found : (w : ExportRow) (n : Part) (is : List ImportRow)
      → entry_of (by_import w (first_import text n is)) ≡ sort_found (export_entry_of text w) (import_of (part_of text n) (map (import_entry_of text) is))
  found w n [] = refl
  found w n (i ∷ is) = elim (cases_Bool (same_text text i.local.text n)) [
    | inl h ↦ rw h (one w i i.import_name i.phase)
    | inr h ↦ rw h (found w n is)
  ]

  by_local_lem : (w : ExportRow) (is : List ImportRow) (l : LocalName)
      → entry_of (by_local text is w l) ≡ sort_bound (map (import_entry_of text) is) (export_entry_of text w) (local_text text None l)
  by_local_lem w is l = grind (arith, found)

  by_taken_lem : (w : ExportRow) (t : ExportImport) → entry_of (by_taken w t) ≡ sort_taken (export_entry_of text w) (taken_text text t)
  by_taken_lem w t = grind arith

  by_request_lem : (w : ExportRow) (is : List ImportRow) (o : Option NameSpan) → w.request ≡ o
      → entry_of (by_request text is w o) ≡ sort_request (map (import_entry_of text) is) (export_entry_of text w) (request_text text o)
  by_request_lem w is o q = grind (arith, by_taken_lem, by_local_lem)

  settled_sorted : (is : List ImportRow) (w : ExportRow) → entry_of (settle text is w) ≡ sort (map (import_entry_of text) is) (export_entry_of text w)
  settled_sorted is w = by_request_lem w is w.request refl

  local_of : (s : Settled) → map (export_entry_of text) (in_local s) ≡ local_in (entry_of s)
  local_of s = grind arith

  indirect_of : (s : Settled) → map (export_entry_of text) (in_indirect s) ≡ indirect_in (entry_of s)
  indirect_of s = grind arith

  star_of : (s : Settled) → map (export_entry_of text) (in_star s) ≡ star_in (entry_of s)
  star_of s = grind arith

  list_is : (put : Settled → List ExportRow) (pick : Sorted → List ExportEntry) → ((s : Settled) → map (export_entry_of text) (put s) ≡ pick (entry_of s))
      → (is : List ImportRow) (ws : List ExportRow)
      → map (export_entry_of text) (flat_map (λ w. put (settle text is w)) ws) ≡ flat_map (λ e. pick (sort (map (import_entry_of text) is) e)) (map (export_entry_of text) ws)
  list_is put pick g is ws =
      map_joined (export_entry_of text) (λ w. put (settle text is w)) ws
      ∙ joined_same _ _ (λ w. g (settle text is w) ∙ ap pick (settled_sorted is w)) ws
      ∙ sym (flat_map-map (λ e. pick (sort (map (import_entry_of text) is) e)) (export_entry_of text) ws)

-- the whole

module _ (text : List ℕ) (ps : List Page) where
  list_by : (put : Settled → List ExportRow) (pick : Sorted → List ExportEntry) → ((s : Settled) → map (export_entry_of text) (put s) ≡ pick (entry_of text s))
      → map (export_entry_of text) (flat_map (λ w. put (settle text (run text ps blank_book).imports w)) (run text ps blank_book).waiting)
      ≡ flat_map (λ e. pick (sort (flat_map (import_entries text) (clauses text ps)) e)) (flat_map (export_entries text) (clauses text ps))
  list_by put pick g =
      ap (λ is. map (export_entry_of text) (flat_map (λ w. put (settle text is w)) (run text ps blank_book).waiting)) (imports_after text ps)
      ∙ ap (λ ws. map (export_entry_of text) (flat_map (λ w. put (settle text (taken_imports text ps) w)) ws)) (waiting_after text ps)
      ∙ list_is text put pick g (taken_imports text ps) (flat_map waits (taken_exports text ps))
      ∙ ap (λ is. flat_map (λ e. pick (sort is e)) (map (export_entry_of text) (flat_map waits (taken_exports text ps)))) (imports_are text ps)
      ∙ ap (λ es. flat_map (λ e. pick (sort (flat_map (import_entries text) (clauses text ps)) e)) es) (exports_are text ps)

pub by_the_standard : (text : List ℕ) (ps : List Page) → ByTheStandard text ps (closing text (run text ps blank_book))
by_the_standard text ps =
    record {
      imports = ap (map (import_entry_of text)) (imports_after text ps) ∙ imports_are text ps;
      requests = requests_are text ps;
      local = list_by text ps in_local local_in (local_of text);
      indirect = list_by text ps in_indirect indirect_in (indirect_of text);
      star = list_by text ps in_star star_in (star_of text);
    }
