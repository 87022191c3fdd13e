-- Each taken export has one row in one list.
use Rattle.std.proofs.Common.{◌≡◌, ℕ, false, List, [], ◌∷◌, ◌++◌, Some, None, Option, inl, inr, sym, refl, ap, subst}
use Rattle.std.specs.List.{flat_map}
use Rattle.std.proofs.lemmas.Bool.{cases_Bool}
use Rattle.lexer.specs.declared.token.Part.{Part}
use Rattle.pages.specs.declared.page.Page.{Page}
use Rattle.record_rules.specs.declared.rows.NameSpan.{NameSpan}
use Rattle.record_rules.specs.declared.rows.ImportRow.{ImportRow}
use Rattle.record_rules.specs.declared.rows.ExportRow.{ExportRow}
use Rattle.record_rules.specs.declared.rows.ExportImport.{ExportImport}
use Rattle.record_rules.specs.declared.rows.ExportImport.TheVariants as taken
use Rattle.record_rules.specs.declared.rows.LocalName.{LocalName}
use Rattle.record_rules.specs.declared.rows.LocalName.TheVariants as local
use Rattle.record_rules.specs.declared.rows.Settled.{Settled}
use Rattle.record_rules.specs.declared.rows.Settled.TheVariants as settled
use Rattle.record_rules.specs.Filing.{blank_book}
use Rattle.record_rules.specs.Closing.{same_text, first_import, handed, by_request, by_taken, by_local, by_import, by_handed, settle, in_local, in_indirect, in_star, Lists, sorted, closing}
use Rattle.record_rules.specs.Runs.{run, Export, from_lone, export_row, taken_exports, taken_imports, Unbound, First, to_local, to_indirect, to_star, Goes, star, sourced, nameless, unbound, kept, handed_on, Placed, done, none, local_next, indirect_next, star_next, ExportsPlaced}
use Rattle.record_rules.proofs.Joins.{either}
use Rattle.record_rules.proofs.Tables.{waits, imports_after, waiting_after}

first_none : (text : List ℕ) (n : Part) (is : List ImportRow) → first_import text n is ≡ None → Unbound text n is
first_none text n [] e = tt
first_none text n (j ∷ js) e = either (same_text text j.local.text n) (Some j) (first_import text n js) e
    (λ h e'. absurd cc) (λ h e'. (h, first_none text n js e'))

first_some : (text : List ℕ) (n : Part) (i : ImportRow) (is : List ImportRow) → first_import text n is ≡ Some i → First text n is i
first_some text n i [] e = absurd cc
first_some text n i (j ∷ js) e = either (same_text text j.local.text n) (Some j) (first_import text n js) e
    (λ h e'. let s : j ≡ i = cc in
    subst (λ x. First text n (j ∷ js) x) s (record { before = []; after = js; whole = refl; others = tt; binds = h }))
    (λ h e'. let f = first_some text n i js e' in
    record { before = j ∷ f.before; after = f.after; whole = ap (λ xs. j ∷ xs) f.whole; others = (h, f.others); binds = f.binds })

-- where a row was settled, by the rule
abbrev Gone : List ℕ → List ImportRow → ExportRow → Settled → Type 0
Gone text is e (settled.Local r) = Goes text is e to_local r
Gone text is e (settled.Indirect r) = Goes text is e to_indirect r
Gone text is e (settled.Star r) = Goes text is e to_star r

module _ (text : List ℕ) (is : List ImportRow) (e : ExportRow) where
  by_taken_lem : (r : NameSpan) → e.request ≡ Some r → (x : ExportImport) → e.import_name ≡ x → Gone text is e (by_taken e x)
  by_taken_lem r q taken.AllButDefault h = star r q h
  by_taken_lem r q taken.All h = sourced r q (λ g. cc)
  by_taken_lem r q taken.Absent h = sourced r q (λ g. cc)
  by_taken_lem r q (taken.Default s) h = sourced r q (λ g. cc)
  by_taken_lem r q (taken.Name n) h = sourced r q (λ g. cc)

  by_handed_lem : (n : NameSpan) (i : ImportRow) → e.request ≡ None → e.local ≡ local.Name n → First text n.text is i
      → (o : Option ExportImport) → handed i.import_name i.phase ≡ o → Gone text is e (by_handed e i o)
  by_handed_lem n i q l f None h = kept n i q l f h
  by_handed_lem n i q l f (Some t) h = handed_on n i t q l f h

  by_import_lem : (n : NameSpan) → e.request ≡ None → e.local ≡ local.Name n → (o : Option ImportRow) → first_import text n.text is ≡ o → Gone text is e (by_import e o)
  by_import_lem n q l None h = unbound n q l (first_none text n.text is h)
  by_import_lem n q l (Some i) h = by_handed_lem n i q l (first_some text n.text i is h) (handed i.import_name i.phase) refl

  by_local_lem : e.request ≡ None → (l : LocalName) → e.local ≡ l → Gone text is e (by_local text is e l)
  by_local_lem q (local.Name n) h = by_import_lem n q h (first_import text n.text is) refl
  by_local_lem q (local.Default n) h = nameless q (λ m g. cc)
  by_local_lem q local.Absent h = nameless q (λ m g. cc)

  by_request_lem : (o : Option NameSpan) → e.request ≡ o → Gone text is e (by_request text is e o)
  by_request_lem (Some r) q = by_taken_lem r q e.import_name refl
  by_request_lem None q = by_local_lem q e.local refl

-- one export more

next : (text : List ℕ) (is : List ImportRow) (e : Export) → from_lone e ≡ false → (s : Settled) → Gone text is (export_row e) s
    → (es : List Export) (l : Lists) → Placed text is es l
    → Placed text is (e ∷ es) (record { local = in_local s ++ l.local; indirect = in_indirect s ++ l.indirect; star = in_star s ++ l.star })
next text is e f (settled.Local r) g es l p = local_next e r es l f g p
next text is e f (settled.Indirect r) g es l p = indirect_next e r es l f g p
next text is e f (settled.Star r) g es l p = star_next e r es l f g p

placed : (text : List ℕ) (is : List ImportRow) (es : List Export) → Placed text is es (sorted text is (flat_map waits es))
placed text is [] = done
placed text is (e ∷ es) = elim (cases_Bool (from_lone e)) [
  | inl f ↦ rw f (none e es (sorted text is (flat_map waits es)) f (placed text is es))
  | inr f ↦ rw f (next text is e f (settle text is (export_row e)) (by_request_lem text is (export_row e) (export_row e).request refl) es (sorted text is (flat_map waits es)) (placed text is es))
]

pub exports_placed : (text : List ℕ) (ps : List Page) → ExportsPlaced text ps (closing text (run text ps blank_book))
exports_placed text ps =
    subst (λ is. Placed text (taken_imports text ps) (taken_exports text ps) (sorted text is (run text ps blank_book).waiting)) (sym (imports_after text ps))
    (subst (λ ws. Placed text (taken_imports text ps) (taken_exports text ps) (sorted text (taken_imports text ps) ws)) (sym (waiting_after text ps))
    (placed text (taken_imports text ps) (taken_exports text ps)))
