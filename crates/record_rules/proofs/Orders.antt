-- Pages in another order give the same rows equally often, and faults together.
use Rattle.std.proofs.Common.{◌≡◌, ℕ, ◌+◌, ◌≤◌, Bool, true, cond, List, [], ◌∷◌, ◌++◌, length, Some, None, fold, sum_by, count_by, Option, unwrap_or, inl, inr, sym, refl, ap, ◌∙◌, subst, arith}
use Rattle.std.specs.List.{flat_map}
use Rattle.std.specs.Str.{bytes_eq}
use Rattle.std.proofs.lemmas.Slice.Eq.{bytes_eq-Decides}
use Rattle.std.proofs.lemmas.List.{append-nil, append_assoc, length-append, length-map}
use Rattle.std.proofs.lemmas.List.Concat.{length-flat_map}
use Rattle.std.proofs.lemmas.List.Sums.{sum_by-cons, sum_by-append, sum_by_push}
use Rattle.std.proofs.lemmas.Bool.Decides.{nat_tests}
use Rattle.std.proofs.lemmas.Bool.{cases_Bool}
use Rattle.lexer.specs.declared.token.Part.{Part}
use Rattle.lexer.specs.declared.token.Span.{Span}
use Rattle.lexer.specs.Tokens.{part_of}
use Rattle.pages.specs.declared.fault.FaultKind.TheVariants as wrong
use Rattle.pages.specs.declared.page.Page.{Page}
use Rattle.pages.specs.Faults.{fault_at}
use Rattle.record_rules.specs.declared.rows.NameSpan.{NameSpan}
use Rattle.record_rules.specs.declared.rows.ImportRow.{ImportRow}
use Rattle.record_rules.specs.declared.rows.ExportRow.{ExportRow}
use Rattle.record_rules.specs.declared.rows.ExportImport.{ExportImport}
use Rattle.record_rules.specs.declared.rows.LocalName.{LocalName}
use Rattle.record_rules.specs.declared.rows.LocalName.TheVariants as local
use Rattle.record_rules.specs.declared.rows.Settled.{Settled}
use Rattle.record_rules.specs.Filing.{Book, blank_book, adds, join_books}
use Rattle.record_rules.specs.Closing.{same_text, first_import, by_request, by_local, by_import, by_handed, settle, in_local, in_indirect, in_star, sorted, last_such, repeat_of, repeat_at, repeats_from, repeats, default_span, defaults_of, all_defaults, several, closing}
use Rattle.record_rules.specs.Runs.{run, taken_pages, Once, Equally, Agree, OrdersAgree}
use Rattle.record_rules.proofs.Joins.{joined_joined, either}
use Rattle.record_rules.proofs.Counting.{Same, sum_by_same, sum_by_plus, sum_by_joined, length_sum, sums}
use Rattle.record_rules.proofs.Tables.{history, imports_after}

tables_same : {X : Type 0} (text : List ℕ) (get : Book → List X) (law : (b d : Book) → get (join_books b d) ≡ get b ++ get d) → get blank_book ≡ []
    → (ps qs : List Page) → Equally (taken_pages text ps) (taken_pages text qs)
    → Same (get (run text ps blank_book)) (get (run text qs blank_book))
tables_same text get law z ps qs s f =
    let g : (rs : List Page) → sum_by f (get (run text rs blank_book)) ≡ sum_by (λ c. sum_by f (get (adds text c))) (taken_pages text rs)
    = λ rs. ap (sum_by f) (history text get law rs blank_book ∙ ap (λ xs. xs ++ flat_map (λ q. get (adds text q)) (taken_pages text rs)) z)
    ∙ sum_by_joined f (λ q. get (adds text q)) (taken_pages text rs) in
    g ps ∙ sums (λ c. sum_by f (get (adds text c))) (taken_pages text ps) (taken_pages text qs) s ∙ sym (g qs)

-- the first import of a text that is imported once

module _ (text : List ℕ) (n : Part) where
  abbrev found : ImportRow → Bool
  found i = same_text text i.local.text n

  none_zero : (f : ImportRow → ℕ) (is : List ImportRow) → count_by found is ≡ 0 → sum_by (λ i. cond (found i) (f i) 0) is ≡ 0
  none_zero f [] e = refl
  none_zero f (j ∷ js) e =
      grind (arith, nat_tests, sum_by-cons (λ i. cond (found i) 1 0) j js, sum_by-cons (λ i. cond (found i) (f i) 0) j js, none_zero f js)

  -- where at most one is found, it is what a sum over all finds
  first_sum : (h : Option ImportRow → ℕ) (is : List ImportRow) → count_by found is ≤ 1
      → h (first_import text n is) + sum_by (λ i. cond (found i) (h None) 0) is ≡ sum_by (λ i. cond (found i) (h (Some i)) 0) is + h None
  first_sum h [] l = omega arith
  first_sum h (j ∷ js) l =
      grind (
        arith,
        nat_tests,
        sum_by-cons (λ i. cond (found i) 1 0) j js,
        sum_by-cons (λ i. cond (found i) (h (Some i)) 0) j js,
        sum_by-cons (λ i. cond (found i) (h None) 0) j js,
        none_zero (λ i. h (Some i)) js,
        none_zero (λ i. h None) js,
        first_sum h js,
      )

  first_same : (h : Option ImportRow → ℕ) (is js : List ImportRow) → Same is js → count_by found is ≤ 1 → h (first_import text n is) ≡ h (first_import text n js)
  first_same h is js s l =
      omega (arith, first_sum h is l, first_sum h js, s (λ i. cond (found i) 1 0), s (λ i. cond (found i) (h (Some i)) 0), s (λ i. cond (found i) (h None) 0))

module _ (text : List ℕ) (is js : List ImportRow) (s : Same is js) (once : Once text is) (k : Settled → ℕ) (w : ExportRow) where
  local_same : (l : LocalName) → k (by_local text is w l) ≡ k (by_local text js w l)
  local_same (local.Name n) = first_same text n.text (λ o. k (by_import w o)) is js s (once n.text)
  local_same (local.Default n) = refl
  local_same local.Absent = refl

  request_same : (o : Option NameSpan) → k (by_request text is w o) ≡ k (by_request text js w o)
  request_same o = grind (arith, local_same)

lists_same : (text : List ℕ) (is js : List ImportRow) (ws vs : List ExportRow) (put : Settled → List ExportRow) → Same is js → Once text is → Same ws vs
    → Same (flat_map (λ w. put (settle text is w)) ws) (flat_map (λ w. put (settle text js w)) vs)
lists_same text is js ws vs put s once t f =
    sum_by_joined f (λ w. put (settle text is w)) ws
    ∙ sum_by_same _ _ (λ w. request_same text is js s once (λ x. sum_by f (put x)) w w.request) ws
    ∙ t (λ w. sum_by f (put (settle text js w)))
    ∙ sym (sum_by_joined f (λ w. put (settle text js w)) vs)

-- names that come once

abbrev named : List ℕ → Part → List NameSpan → ℕ
named text q ns = count_by (λ m. same_text text m.text q) ns

module _ (text : List ℕ) (q : Part) where
  none_last : (ns : List NameSpan) (o : Option Span) → fold (λ x n. cond (same_text text n.text q) (Some n.span) x) o ns ≡ None
      → (o ≡ None) × (named text q ns ≡ 0)
  none_last [] o e = (e, refl)
  none_last (n ∷ ns) o e = either (same_text text n.text q) (Some n.span) o (none_last ns (cond (same_text text n.text q) (Some n.span) o) e).0
      (λ h e'. absurd cc)
      (λ h e'. (e', grind (arith, nat_tests, sum_by-cons (λ m. cond (same_text text m.text q) 1 0) n ns, (none_last ns (cond (same_text text n.text q) (Some n.span) o) e).1)))

  last_none : (ns : List NameSpan) (o : Option Span) → named text q ns ≡ 0 → fold (λ x n. cond (same_text text n.text q) (Some n.span) x) o ns ≡ o
  last_none [] o z = refl
  last_none (n ∷ ns) o z = grind (arith, nat_tests, sum_by-cons (λ m. cond (same_text text m.text q) 1 0) n ns, last_none ns)

named_like : (text : List ℕ) (q n : Part) → same_text text n q ≡ true → (ns : List NameSpan) → named text q ns ≡ named text n ns
named_like text q n h ns =
    ap (λ bytes. count_by (λ m. bytes_eq (part_of text m.text) bytes) ns) (sym ((bytes_eq-Decides (part_of text n) (part_of text q)).0 h))

push_once : (text : List ℕ) (q : Part) (n : NameSpan) (seen : List NameSpan) → named text n.text seen ≡ 0 → named text q seen ≤ 1 → named text q (seen ++ n ∷ []) ≤ 1
push_once text q n seen z l =
    let p : named text q (seen ++ n ∷ []) ≡ named text q seen + cond (same_text text n.text q) 1 0 = sum_by_push (λ m. cond (same_text text m.text q) 1 0) seen n in
    elim (cases_Bool (same_text text n.text q)) [
      | inl h ↦ let k = named_like text q n.text h seen in grind (arith, nat_tests)
      | inr h ↦ grind (arith, nat_tests)
    ]

nil_parts : {X : Type 0} (xs ys : List X) → xs ++ ys ≡ [] → (xs ≡ []) × (ys ≡ [])
nil_parts [] ys e = (refl, e)
nil_parts (x ∷ xs) ys e = absurd cc

no_repeat : (o : Option Span) (s : Span) → repeat_of o s ≡ [] → o ≡ None
no_repeat o s e = grind arith

down : (text : List ℕ) (all ns seen : List NameSpan) → repeats_from text all seen ns ≡ [] → ((q : Part) → named text q seen ≤ 1) → (q : Part) → named text q (seen ++ ns) ≤ 1
down text all [] seen e l q = subst (λ xs. named text q xs ≤ 1) (sym (append-nil seen)) (l q)
down text all (n ∷ ns) seen e l q =
    let h = nil_parts (repeat_at text all seen n) (repeats_from text all (seen ++ n ∷ []) ns) e in
    let z = (none_last text n.text seen None (no_repeat (last_such text n.text seen) (unwrap_or (last_such text n.text all) n.span) h.0)).1 in
    subst (λ xs. named text q xs ≤ 1) (append_assoc seen (n ∷ []) ns)
    (down text all ns (seen ++ n ∷ []) h.1 (λ p. push_once text p n seen z (l p)) q)

up : (text : List ℕ) (all ns seen : List NameSpan) → ((q : Part) → named text q (seen ++ ns) ≤ 1) → repeats_from text all seen ns ≡ []
up text all [] seen l = refl
up text all (n ∷ ns) seen l =
    let own : same_text text n.text n.text ≡ true = (bytes_eq-Decides (part_of text n.text) (part_of text n.text)).1 refl in
    let z : named text n.text seen ≡ 0 = grind (
      arith,
      nat_tests,
      l n.text,
      sum_by-append (λ m. cond (same_text text m.text n.text) 1 0) seen (n ∷ ns),
      sum_by-cons (λ m. cond (same_text text m.text n.text) 1 0) n ns,
    ) in
    ap (λ o. repeat_of o (unwrap_or (last_such text n.text all) n.span) ++ repeats_from text all (seen ++ n ∷ []) ns) (last_none text n.text seen None z)
    ∙ up text all ns (seen ++ n ∷ []) (λ q. subst (λ xs. named text q xs ≤ 1) (sym (append_assoc seen (n ∷ []) ns)) (l q))

repeats_same : (text : List ℕ) (ns ms : List NameSpan) → Same ns ms → repeats text ns ≡ [] → repeats text ms ≡ []
repeats_same text ns ms s e =
    up text ms ms [] (λ q. subst (λ c. c ≤ 1) (s (λ m. cond (same_text text m.text q) 1 0)) (down text ns ns [] e (λ p. omega arith) q))

-- defaults, of which the imports decide the list and not the number

module _ (text : List ℕ) where
  abbrev defaults : Settled → ℕ
  defaults s = length (defaults_of text (in_local s)) + length (defaults_of text (in_indirect s))

  by_handed_lem : (w : ExportRow) (i : ImportRow) (o : Option ExportImport) → defaults (by_handed w i o) ≡ length (defaults_of text (w ∷ []))
  by_handed_lem w i o = grind arith

  by_import_lem : (w : ExportRow) (o : Option ImportRow) → defaults (by_import w o) ≡ length (defaults_of text (w ∷ []))
  by_import_lem w o = grind (arith, by_handed_lem)

  by_local_lem : (is js : List ImportRow) (w : ExportRow) (l : LocalName) → defaults (by_local text is w l) ≡ defaults (by_local text js w l)
  by_local_lem is js w l = grind (arith, by_import_lem)

  by_request_lem : (is js : List ImportRow) (w : ExportRow) (o : Option NameSpan) → defaults (by_request text is w o) ≡ defaults (by_request text js w o)
  by_request_lem is js w o = grind (arith, by_local_lem)

  one_list : (put : Settled → List ExportRow) (is : List ImportRow) (ws : List ExportRow)
      → length (defaults_of text (flat_map (λ w. put (settle text is w)) ws)) ≡ sum_by (λ w. length (defaults_of text (put (settle text is w)))) ws
  one_list put is ws =
      ap length (joined_joined (λ row. default_span text row.export_name) (λ w. put (settle text is w)) ws)
      ∙ length-flat_map (λ w. defaults_of text (put (settle text is w))) ws

  all_length : (is : List ImportRow) (ws : List ExportRow) (sk : List Span)
      → length (all_defaults text (sorted text is ws) sk) ≡ sum_by (λ w. defaults (settle text is w)) ws + sum_by (λ s. 1) sk
  all_length is ws sk =
      let a = length-append (defaults_of text (sorted text is ws).local) (defaults_of text (sorted text is ws).indirect ++ sk) in
      let b = length-append (defaults_of text (sorted text is ws).indirect) sk in
      let c = one_list in_local is ws in
      let d = one_list in_indirect is ws in
      let e = sum_by_plus (λ w. length (defaults_of text (in_local (settle text is w)))) (λ w. length (defaults_of text (in_indirect (settle text is w)))) ws in
      omega (arith, a, b, c, d, e, length_sum sk)

  defaults_same : (is js : List ImportRow) (ws vs : List ExportRow) (sk sl : List Span) → Same ws vs → Same sk sl
      → length (all_defaults text (sorted text is ws) sk) ≡ length (all_defaults text (sorted text js vs) sl)
  defaults_same is js ws vs sk sl s t =
      let a = sum_by_same (λ w. defaults (settle text is w)) (λ w. defaults (settle text js w)) (λ w. by_request_lem is js w w.request) ws in
      let b = s (λ w. defaults (settle text js w)) in
      omega (arith, all_length is ws sk, all_length js vs sl, a, b, t (λ x. 1))

several_same : (ss us : List Span) → length ss ≡ length us → several ss ≡ [] → several us ≡ []
several_same ss us l e = grind (arith, nat_tests, ap length e, length-map ss (fault_at wrong.SeveralDefaults))

clean_same : (text : List ℕ) (b c : Book) → Same b.waiting c.waiting → Same b.names c.names → Same b.skipped c.skipped
    → (closing text b).faults ≡ [] → (closing text c).faults ≡ []
clean_same text b c w n s e =
    let h = nil_parts (repeats text b.names) (several (all_defaults text (sorted text b.imports b.waiting) b.skipped)) e in
    ap (λ xs. xs ++ several (all_defaults text (sorted text c.imports c.waiting) c.skipped)) (repeats_same text b.names c.names n h.0)
    ∙ several_same (all_defaults text (sorted text b.imports b.waiting) b.skipped) (all_defaults text (sorted text c.imports c.waiting) c.skipped)
    (defaults_same text b.imports c.imports b.waiting c.waiting b.skipped c.skipped w s) h.1

agree : (text : List ℕ) (b c : Book) → Same b.imports c.imports → Same b.waiting c.waiting → Same b.names c.names → Same b.skipped c.skipped
    → Agree text b.imports (closing text b) (closing text c)
agree text b c i w n s =
    record {
      clean = (clean_same text b c w n s, clean_same text c b (λ f. sym (w f)) (λ f. sym (n f)) (λ f. sym (s f)));
      local = λ once p. lists_same text b.imports c.imports b.waiting c.waiting in_local i once w (λ x. cond (p x) 1 0);
      indirect = λ once p. lists_same text b.imports c.imports b.waiting c.waiting in_indirect i once w (λ x. cond (p x) 1 0);
      star = λ once p. lists_same text b.imports c.imports b.waiting c.waiting in_star i once w (λ x. cond (p x) 1 0);
    }

pub orders_agree : (text : List ℕ) (ps : List Page) → OrdersAgree text ps (closing text (run text ps blank_book))
orders_agree text ps qs s =
    subst (λ is. Agree text is (closing text (run text ps blank_book)) (closing text (run text qs blank_book))) (imports_after text ps)
    (agree text (run text ps blank_book) (run text qs blank_book)
    (tables_same text (λ x. x.imports) (λ c d. refl) refl ps qs s)
    (tables_same text (λ x. x.waiting) (λ c d. refl) refl ps qs s)
    (tables_same text (λ x. x.names) (λ c d. refl) refl ps qs s)
    (tables_same text (λ x. x.skipped) (λ c d. refl) refl ps qs s))
