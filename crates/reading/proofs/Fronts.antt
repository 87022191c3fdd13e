-- What each part of a clause takes stands at the front. `front` of Whole says it of whole items.
use Rattle.std.proofs.Common.{◌≡◌, ℕ, List, [], ◌∷◌, ◌++◌, take, drop, sym, refl, ap, ◌∙◌, append_assoc, take-append-drop}
use Rattle.kinds.specs.declared.kind.Kind.{Kind}
use Rattle.lexer.specs.declared.token.Token.{Token}
use Rattle.pages.specs.declared.rows.Specifier.{Specifier}
use Rattle.pages.specs.declared.rows.Attribute.{Attribute}
use Rattle.reading.specs.Hosts.{Host}
use Rattle.reading.specs.Readings.{Starred, Form, Clause}
use Rattle.reading.specs.Grammar.{One, one, Elements, last, last_comma, more, Braces, empty, full, ImportSpecifier, alone, renamed, StarAs, star_as, FromS, from_s, ImportForm, bare, default, default_star, default_braces, star, braces, defer_star, source_of, OneAttribute, attribute, Attributes, no_attributes, some_attributes, End, semicolon, at_eof, at_brace, at_line, ExportSpecifier, alone_out, renamed_out, Sourced, sourced, ExportClause, all_of, all_as, some_of, own, by_declaration, by_default}

record Front (ts rest : List Token) : Type 0 where
  part : List Token
  is : ts ≡ part ++ rest

infixr 40 ◌⨾◌
◌⨾◌ : {ts m rest : List Token} → Front ts m → Front m rest → Front ts rest
p ⨾ q = record { part = p.part ++ q.part; is = p.is ∙ ap (λ x. p.part ++ x) q.is ∙ sym (append_assoc p.part q.part _) }

here : {ts : List Token} → Front ts ts
here = record { part = []; is = refl }

by_one : {P : Token → Type 0} {ts rest : List Token} {t : Token} → One P ts t rest → Front ts rest
by_one (one {t = t} h) = record { part = t ∷ []; is = refl }

by_length : (k : ℕ) (ts : List Token) → Front ts (drop k ts)
by_length k ts = record { part = take k ts; is = sym (take-append-drop k ts) }

module _ {A : Type 0} {R : List Token → A → List Token → Type 0} {close : Kind}
    (by : (ts : List Token) (a : A) (rest : List Token) → R ts a rest → Front ts rest) where
  by_elements : {ts rest : List Token} {l : List A} → Elements R close ts l rest → Front ts rest
  by_elements (last {ts = ts} {m = m} {a = a} r s) = by ts a m r ⨾ by_one s
  by_elements (last_comma {ts = ts} {m = m} {a = a} r s s') = by ts a m r ⨾ by_one s ⨾ by_one s'
  by_elements (more {ts = ts} {m = m} {a = a} r s d) = by ts a m r ⨾ by_one s ⨾ by_elements d

  by_braces : {ts rest : List Token} {l : List A} → Braces R close ts l rest → Front ts rest
  by_braces (empty s s') = by_one s ⨾ by_one s'
  by_braces (full s d) = by_one s ⨾ by_elements d

by_spec : {ts rest : List Token} {a : Specifier} → ImportSpecifier ts a rest → Front ts rest
by_spec (alone l) = by_one l
by_spec (renamed x k l) = by_one x ⨾ by_one k ⨾ by_one l

by_attr : {ts rest : List Token} {a : Attribute} → OneAttribute ts a rest → Front ts rest
by_attr (attribute k c v) = by_one k ⨾ by_one c ⨾ by_one v

by_out : {ts rest : List Token} {a : Specifier} → ExportSpecifier ts a rest → Front ts rest
by_out (alone_out l) = by_one l
by_out (renamed_out x k l) = by_one x ⨾ by_one k ⨾ by_one l

by_from : {ts rest : List Token} {s : Token} → FromS ts s rest → Front ts rest
by_from (from_s w s) = by_one w ⨾ by_one s

by_star : {ts rest : List Token} {s : Starred} → StarAs ts s rest → Front ts rest
by_star (star_as s w b) = by_one s ⨾ by_one w ⨾ by_one b

by_form : {ts rest : List Token} {f : Form} → ImportForm ts f rest → Front ts rest
by_form (bare s) = by_one s
by_form (default b d) = by_one b ⨾ by_from d
by_form (default_star b c s d) = by_one b ⨾ by_one c ⨾ by_star s ⨾ by_from d
by_form (default_braces b c l d) = by_one b ⨾ by_one c ⨾ by_braces (λ ts a rest. by_spec) l ⨾ by_from d
by_form (star s d) = by_star s ⨾ by_from d
by_form (braces l d) = by_braces (λ ts a rest. by_spec) l ⨾ by_from d
by_form (defer_star w s d) = by_one w ⨾ by_star s ⨾ by_from d
by_form (source_of w b d) = by_one w ⨾ by_one b ⨾ by_from d

by_attributes : {text : List ℕ} {ts rest : List Token} {l : List Attribute} → Attributes text ts l rest → Front ts rest
by_attributes (no_attributes h) = here
by_attributes (some_attributes h k d u) = by_one k ⨾ by_braces (λ ts a rest. by_attr) d

by_end : {ts rest : List Token} → End ts rest → Front ts rest
by_end (semicolon s) = by_one s
by_end (at_eof h) = here
by_end (at_brace h) = here
by_end (at_line l n) = here

by_sourced : {text : List ℕ} {ts rest : List Token} {s : Token} {l : List Attribute} → Sourced text ts s l rest → Front ts rest
by_sourced (sourced f a d) = by_from f ⨾ by_attributes a ⨾ by_end d

by_export : {text : List ℕ} {h : Host} {all : List Token} {n : ℕ} {ts rest : List Token} {c : Clause} → ExportClause text h all n ts c rest → Front ts rest
by_export (all_of s c) = by_one s ⨾ by_sourced c
by_export (all_as s k n c) = by_one s ⨾ by_one k ⨾ by_one n ⨾ by_sourced c
by_export (some_of b c) = by_braces (λ ts a rest. by_out) b ⨾ by_sourced c
by_export (own b g o d) = by_braces (λ ts a rest. by_out) b ⨾ by_end d
by_export (by_declaration {ts = ts} {k = k} n q) = by_length k ts
by_export (by_default {m = m} {k = k} v q) = by_one v ⨾ by_length k m
