-- Each reader takes what stands at the front, and looks at nothing behind the token come to.
use Rattle.std.proofs.Common.{◌≡◌, ℕ, zero, suc, ◌+◌, ◌≤◌, Bool, true, false, not, ◌&&◌, ◌||◌, eqb, ◌⊎◌, List, [], ◌∷◌, ◌++◌, map, length, get_or, take, drop, Some, None, Ok, Err, Option, Result, sym, refl, ap, ◌∙◌, subst, inl, inr, arith, length-append, take-append-drop}
use Rattle.std.specs.List.{slice_get}
use Rattle.std.proofs.lemmas.Bool.{cases_Bool, or_parts, or_left, or_cases, not-false, eq-eqb, and_parts}
use Rattle.kinds.specs.declared.kind.Kind.{Kind}
use Rattle.kinds.specs.declared.kind.Kind.TheVariants.{Eof, Str, Undetermined, Import, Export, Default, From, As, Star, LCurly, RCurly, Comma, Colon, Semicolon, Eq, Defer, Source, With, Assert}
use Rattle.kinds.specs.Numbers.{number, same}
use Rattle.kinds.specs.Classes.{is_identifier_name, is_binding}
use Rattle.lexer.specs.declared.token.Token.{Token}
use Rattle.lexer.specs.declared.token.Span.{Span}
use Rattle.lexer.specs.Tokens.{ended}
use Rattle.pages.specs.declared.fault.Fault.{Fault}
use Rattle.pages.specs.declared.fault.FaultKind.TheVariants.{Expected, Unexpected, Unclosed, Unended, NoString, LoneName, Foreign, Full, DeferBraces, DeferDefault, SourceForm}
use Rattle.pages.specs.declared.rows.Attribute.{Attribute}
use Rattle.pages.specs.declared.page.Phase.{Phase}
use Rattle.pages.specs.declared.page.Phase.TheVariants as phase
use Rattle.pages.specs.Faults.{fault_at, fault_with, fault_of_host}
use Rattle.reading.specs.declared.naming.Naming.{Naming}
use Rattle.reading.specs.Ahead.{next, rest, span_here, at, attributes_follow}
use Rattle.reading.specs.Settings.{Setting}
use Rattle.reading.specs.Readings.{Clause, all_from, names_from, declared, defaulted, last_end, tokens_at, named}
use Rattle.reading.specs.Steps.{stop, got, Reader, stop_at, add, bind, test, esc, token, none, word, str, identifier, binding, name, ending}
use Rattle.reading.specs.Braces.{closes, separator, elements, inside, braced}
use Rattle.reading.specs.Attributes.{key, attribute, repeats, attributes}
use Rattle.reading.specs.Imports.{local, alias, specifier, from_source, star_alias, star_with_source, braces_with_source, room_by, via_star, via_braces, after_default, after_defer, after_source_name, after_source, after_binding, form}
use Rattle.reading.specs.Exports.{export_specifier, locals, sourced, export_all, export_braces, room_for, declared_by, defaulted_by, second_export, export_clause}
use Rattle.reading.specs.Laws.{Site, Refuses, SameNext, both_end, both_go_on, Opened, opened, Why, no_from, no_as, no_open, no_colon, no_close, no_form, no_string, no_name, no_binding, no_more, unclosed, unended, no_value, lone, equals, imports, refused, full, no_room}
use Rattle.reading.proofs.Clean.{clash, never, bound_got, tested_got}
use Rattle.reading.proofs.OfKinds.{classed, same_is, seen}
use Rattle.reading.proofs.Attrs.{keyword}
use Rattle.reading.proofs.Local.{next_same, span_same, opened_more, Seen, taken, Here, LocalAt, Local, as_other, local_got, here_stop, here_stop_at, here_add, here_test, local_if, after, after_to, here_token, after_token}

-- a brace list ends before the close, the end or an Undetermined token
separator_ends : (brace : Span) (e : ℕ) (ts : List Token) {b : Bool} {fs : List Fault} {e' : ℕ} {m : List Token}
    → separator RCurly brace e ts ≡ got b fs e' m → b ≡ false → closes RCurly m ≡ true
unfolding separator closes
separator_ends brace e ts p z = tested_got (at RCurly ts) _ _ p
    (λ h q. let c : closes RCurly ts ≡ true = or_left _ _ h in cc)
    (λ _ q. tested_got (at Comma ts) _ _ q
    (λ _ q₁. bound_got (word Comma e ts) _ q₁ λ t gs e₁ n hs _ q₂.
    let c : not (closes RCurly n) ≡ false = cc in let d = not-false (closes RCurly n) c in cc)
    (λ _ q₁. never (sym q₁)))

elements_end : {A : Type 0} (p : Reader A) (brace : Span) (room e : ℕ) (ts : List Token) {l : List A} {fs : List Fault} {e' : ℕ} {m : List Token}
    → elements p RCurly brace room e ts ≡ got l fs e' m → closes RCurly m ≡ true
unfolding elements stop_at
elements_end p brace zero e ts q = never (sym q)
elements_end p brace (suc room) e ts q =
    bound_got (p e ts) _ q λ a gs e₁ n hs _ q₁. bound_got (separator RCurly brace e₁ n) _ q₁ λ b gs₂ e₂ o hs₂ z q₂. tested_got b _ _ q₂
    (λ _ q₃. bound_got (elements p RCurly brace room e₂ o) _ q₃ λ l gs₃ e₃ r hs₃ z₃ q₄. let c = elements_end p brace room e₂ o z₃ in cc)
    (λ f q₃. let c = separator_ends brace e₁ n z f in cc)

inside_ends : {A : Type 0} (p : Reader A) (brace : Span) (room e : ℕ) (ts : List Token) {l : List A} {fs : List Fault} {e' : ℕ} {m : List Token}
    → inside p RCurly brace room e ts ≡ got l fs e' m → closes RCurly m ≡ true
unfolding inside closes
inside_ends p brace room e ts q = tested_got (at RCurly ts) _ _ q
    (λ h z. let c : closes RCurly ts ≡ true = or_left _ _ h in cc) (λ _ z. elements_end p brace room e ts z)

closes_rest : (m : List Token) → closes RCurly m ≡ true → at RCurly m ≡ false → (at Eof m || at Undetermined m) ≡ true
unfolding closes
closes_rest m c h = elim (or_cases _ _ c) [ inl p ↦ clash h p | inr p ↦ p ]

module _ (site : Site) where
  -- one token
  word_then : (k : Kind) → eqb (number Eof) (number k) ≡ false → {B : Type 0} {K : Token → Reader B} {front : List Token} (e : ℕ) (ts : List Token)
      → (at k ts ≡ false → Why site front e ts (fault_at Expected (span_here e ts))) → ((t : Token) → t.kind ≡ k → LocalAt site (front ++ (t ∷ [])) (K t))
      → Here site front (λ e ts. bind (word k e ts) K) e ts
  word_then k z e ts why l = after_token site Expected (λ t. same t.kind k) esc (seen k refl z) e ts why (λ t h. l t (same_is t.kind k h))

  -- a token that is there
  pub sure_then : (k : Kind) → eqb (number Eof) (number k) ≡ false → {B : Type 0} {K : Token → Reader B} {front : List Token} (e : ℕ) (ts : List Token)
      → at k ts ≡ true → ((t : Token) → t.kind ≡ k → LocalAt site (front ++ (t ∷ [])) (K t)) → Here site front (λ e ts. bind (word k e ts) K) e ts
  sure_then k z e ts h l = word_then k z e ts (λ n. clash n h) l

  string_local : {front : List Token} → LocalAt site front (str Unexpected)
  string_local e ts = here_token site Unexpected (λ t. same t.kind Str) none (seen Str refl refl) e ts (λ h. no_string h)

  string_then : {B : Type 0} {K : Token → Reader B} {front : List Token}
      → ((t : Token) → t.kind ≡ Str → LocalAt site (front ++ (t ∷ [])) (K t)) → LocalAt site front (λ e ts. bind (str Unexpected e ts) K)
  string_then l e ts = after_token site Unexpected (λ t. same t.kind Str) none (seen Str refl refl) e ts (λ h. no_string h) (λ t h. l t (same_is t.kind Str h))

  value_then : {B : Type 0} {K : Token → Reader B} {front : List Token}
      → ((t : Token) → LocalAt site (front ++ (t ∷ [])) (K t)) → LocalAt site front (λ e ts. bind (str NoString e ts) K)
  value_then l e ts = after_token site NoString (λ t. same t.kind Str) none (seen Str refl refl) e ts (λ h. no_value h) (λ t h. l t)

  identifier_local : {front : List Token} → LocalAt site front identifier
  identifier_local e ts = here_token site Unexpected (λ t. is_identifier_name t.kind) none classed.eof_unnamed e ts (λ h. no_name h)

  binding_then : {B : Type 0} {K : Token → Reader B} {front : List Token}
      → ((t : Token) → LocalAt site (front ++ (t ∷ [])) (K t)) → LocalAt site front (λ e ts. bind (binding Unexpected e ts) K)
  binding_then l e ts = after_token site Unexpected (λ t. is_binding t.kind) none classed.eof_unbound e ts (λ h. no_binding h) (λ t h. l t)

  -- a string as a name
  string_name : Reader Token
  string_name e ts = bind (str Unexpected e ts) λ t e₁ m. test t.lone (stop (fault_at LoneName t.span)) (got t [] e₁ m)

  lone_is : (t : Token) (e : ℕ) (y : List Token) → same t.kind Str ≡ true → t.lone ≡ true → string_name e (t ∷ y) ≡ stop (fault_at LoneName t.span)
  unfolding string_name token next rest test bind add
  lone_is t e y h o = rw (h, o) refl

  well_formed_is : (t : Token) (e : ℕ) (y : List Token) → same t.kind Str ≡ true → t.lone ≡ false → string_name e (t ∷ y) ≡ got t [] t.span.end y
  unfolding string_name token next rest test bind add
  well_formed_is t e y h o = rw (h, o) refl

  string_local_name : {front : List Token} (e : ℕ) (ts : List Token) → at Str ts ≡ true → Here site front string_name e ts
  unfolding next span_here last_end
  string_local_name e [] h = clash (seen Str refl refl) h
  string_local_name {front = front} e (t ∷ x) h = elim (cases_Bool t.lone) [
    | inl o ↦ as_other site (λ e y. stop (fault_at LoneName (span_here e y))) (λ y s. same_lone y s o)
        (here_stop site (λ e ts. fault_at LoneName (span_here e ts)) (λ m m' s. ap (fault_at LoneName) (span_same e s)) (lone h o))
    | inr o ↦ subst (λ z. Seen site front string_name e (t ∷ x) z) (sym (well_formed_is t e x h o)) (taken (t ∷ []) x (λ m' s. well_formed_is t e m' h o))
  ]
    where
      same_lone : (y : List Token) → SameNext (t ∷ x) y → t.lone ≡ true → string_name e y ≡ stop (fault_at LoneName (span_here e y))
      same_lone y both_go_on o = lone_is t e _ h o

  name_local : Local site name
  unfolding name string_name
  name_local front e ts = here_test site (λ t. same t.kind Str) (λ h. string_local_name e ts h) (λ h. identifier_local e ts)

  key_local : Local site key
  unfolding key
  key_local front e ts = here_test site (λ t. same t.kind Str) (λ h. string_local e ts) (λ h. identifier_local e ts)

  semicolon_taken : {front : List Token} (e : ℕ) (ts : List Token) → same (next ts).kind Semicolon ≡ true
      → Here site {A = Unit {0}} front (λ e ts. got tt [] (next ts).span.end (rest ts)) e ts
  unfolding next rest last_end
  semicolon_taken e [] h = clash (seen Semicolon refl refl) h
  semicolon_taken e (t ∷ ts) h = taken (t ∷ []) ts (λ m' s. refl)

  pub ending_local : Local site ending
  unfolding ending
  ending_local front e ts = here_test site (λ t. same t.kind Semicolon) (λ h. semicolon_taken e ts h)
      (λ h. here_test site (λ t. same t.kind Eof || (same t.kind RCurly || t.new_line)) (λ _. local_got site tt e ts)
      (λ n. let p = or_parts _ _ n in let q = or_parts _ _ p.1 in
      here_stop site (λ e _. fault_at Unended (record { start = e; end = e })) (λ m m' s. refl) (unended h p.0 q.0 q.1)))

  -- the brace list
  closes_same : {m m' : List Token} → SameNext m m' → closes RCurly m ≡ closes RCurly m'
  unfolding closes
  closes_same s = ap (λ t. same t.kind RCurly || (same t.kind Eof || same t.kind Undetermined)) (next_same s)

  separator_local : (brace : Span) {front : List Token} → Opened front brace → LocalAt site front (separator RCurly brace)
  unfolding separator
  separator_local brace {front = front} o e ts = here_test site (λ t. same t.kind RCurly) (λ h. local_got site false e ts)
      (λ c. here_test site (λ t. same t.kind Comma)
      (λ h. sure_then Comma refl e ts h (λ t k e m. as_other site (λ e x. got (not (closes RCurly m)) [] e x) (λ x s. ap (λ b. got (not b) [] e x) (sym (closes_same s)))
      (local_got site (not (closes RCurly m)) e m)))
      (λ h. here_stop site (λ e ts. fault_with Unclosed (span_here e ts) brace) (λ m m' s. ap (λ x. fault_with Unclosed x brace) (span_same e s)) (unclosed o c h)))

  module _ {A : Type 0} {p : Reader A} (element : Local site p) where
    elements_local : (brace : Span) (room : ℕ) {front : List Token} → Opened front brace → LocalAt site front (elements p RCurly brace room)
    unfolding elements
    elements_local brace zero o e ts = here_stop_at site Full full
    elements_local brace (suc room) {front = front} o e ts = after site (element front e ts) (λ a part e ts. after site (separator_local brace (opened_more part o) e ts) (λ b part₂.
        local_if site b (λ _ e ts. after site (elements_local brace room (opened_more part₂ (opened_more part o)) e ts) (λ l _. local_got site (a ∷ l))) (λ _. local_got site (a ∷ []))))

    inside_local : (brace : Span) (room : ℕ) {front : List Token} → Opened front brace → LocalAt site front (inside p RCurly brace room)
    unfolding inside
    inside_local brace room o e ts = here_test site (λ t. same t.kind RCurly) (λ h. local_got site [] e ts) (λ h. elements_local brace room o e ts)

    pub braced_here : (room : ℕ) (front : List Token) (e : ℕ) (ts : List Token) → (at LCurly ts ≡ false → Why site front e ts (fault_at Expected (span_here e ts)))
        → Here site front (braced p RCurly room) e ts
    unfolding braced
    braced_here room front e ts why = word_then LCurly refl e ts why (λ o k e ts.
        after_to site (λ m. closes RCurly m ≡ true) (λ l fs e' m q. inside_ends p o.span room e ts q) (inside_local o.span room (opened front [] o k) e ts)
        (λ l part e m c. word_then RCurly refl e m (λ h. no_close h (closes_rest m c h)) (λ _ _. local_got site l)))

  -- attributes
  attribute_local : Local site attribute
  unfolding attribute
  attribute_local front e ts = after site (key_local front e ts) (λ k part e ts. word_then Colon refl e ts (λ h. no_colon h) (λ _ _. value_then (λ v. local_got site _)))

  with_or_assert : (t u : Token) → attributes_follow t ≡ true → u.kind ≡ t.kind → (u.kind ≡ With) ⊎ (u.kind ≡ Assert)
  unfolding attributes_follow
  with_or_assert t u h k = elim (or_cases _ _ h) [ inl p ↦ inl (k ∙ same_is t.kind With p) | inr p ↦ inr (k ∙ same_is t.kind Assert (and_parts _ _ p).0) ]

  pub attributes_local : (w : Setting) (text : List ℕ) → Local site (attributes w text)
  unfolding attributes
  attributes_local w text front e ts = here_test site attributes_follow
      (λ h. as_other site (λ e x. bind (word (next ts).kind e x) (λ _ e₁ m. bind (braced attribute RCurly w.attributes e₁ m) λ l e₂ n. add (repeats text [] l) (got l [] e₂ n)))
      (λ x s. ap (λ t. bind (word t.kind e x) (λ _ e₁ m. bind (braced attribute RCurly w.attributes e₁ m) λ l e₂ n. add (repeats text [] l) (got l [] e₂ n))) (sym (next_same s)))
      (sure_then (next ts).kind (keyword (next ts) h).1 e ts (seen (next ts).kind refl (eq-eqb _ _ refl)) (λ u k e m.
      after site (braced_here attribute_local w.attributes _ e m (λ n. no_open front u refl (with_or_assert (next ts) u h k) n))
      (λ l part e m. here_add site (repeats text [] l) (local_got site l e m)))))
      (λ h. local_got site [] e ts)

  -- imports
  alias_local : (x : Token) → Local site (alias x)
  unfolding alias
  alias_local x front e ts = here_test site (λ t. same t.kind As) (λ h. sure_then As refl e ts h (λ _ _. name_local _)) (λ h. local_got site x e ts)

  specifier_local : Local site specifier
  unfolding specifier
  specifier_local front e ts = after site (name_local front e ts) (λ x part e ts. after site (alias_local x _ e ts) (λ l part₂ e ts. here_add site (local l) (local_got site _ e ts)))

  from_local : Local site from_source
  unfolding from_source
  from_local front e ts = word_then From refl e ts (λ h. no_from h) (λ _ _. string_local)

  -- where a Star follows
  star_here : (front : List Token) (e : ℕ) (ts : List Token) → at Star ts ≡ true → Here site front star_alias e ts
  unfolding star_alias
  star_here front e ts h = sure_then Star refl e ts h (λ s k e ts. word_then As refl e ts (λ n. no_as front s refl k n) (λ _ _. binding_then (λ b. local_got site _)))

  star_from_here : (front : List Token) (e : ℕ) (ts : List Token) → at Star ts ≡ true → Here site front star_with_source e ts
  unfolding star_with_source
  star_from_here front e ts h = after site (star_here front e ts h) (λ c part e ts. after site (from_local _ e ts) (λ s part₂. local_got site _))

  via_star_here : (ph : Phase) (d : Option Token) (front : List Token) (e : ℕ) (ts : List Token) → at Star ts ≡ true → Here site front (via_star ph d) e ts
  unfolding via_star
  via_star_here ph d front e ts h = after site (star_from_here front e ts h) (λ p part. local_got site _)

  -- where an LCurly follows
  braces_from_here : (room : ℕ) (front : List Token) (e : ℕ) (ts : List Token) → at LCurly ts ≡ true → Here site front (braces_with_source room) e ts
  unfolding braces_with_source
  braces_from_here room front e ts h = after site (braced_here specifier_local room front e ts (λ n. clash n h)) (λ l part e ts. after site (from_local _ e ts) (λ s part₂. local_got site _))

  module _ (w : Setting) where
    via_braces_here : (ph : Phase) (d : Option Token) (front : List Token) (e : ℕ) (ts : List Token) → at LCurly ts ≡ true → Here site front (via_braces w ph d) e ts
    unfolding via_braces
    via_braces_here ph d front e ts h = after site (braces_from_here (room_by w d) front e ts h) (λ p part. local_got site _)

    default_local : (ph : Phase) (b : Token) → Local site (after_default w ph b)
    unfolding after_default
    default_local ph b front e ts = here_test site (λ t. same t.kind Comma)
        (λ c. sure_then Comma refl e ts c (λ _ _ e ts. here_test site (λ t. same t.kind Star) (λ h. via_star_here ph (Some b) _ e ts h)
        (λ h. here_test site (λ t. same t.kind LCurly) (λ h'. via_braces_here ph (Some b) _ e ts h') (λ h'. here_stop_at site Unexpected (no_more h h')))))
        (λ _. after site (from_local front e ts) (λ s part. local_got site _))

    defer_local : (d : Token) → Local site (after_defer w d)
    unfolding after_defer
    defer_local d front e ts = here_test site (λ t. same t.kind Star) (λ h. here_add site (esc d) (via_star_here phase.Defer None front e ts h))
        (λ _. here_test site (λ t. same t.kind LCurly) (λ h. here_add site (fault_at DeferBraces d.span ∷ []) (here_add site (esc d) (via_braces_here phase.Defer None front e ts h)))
        (λ _. here_test site (λ t. same t.kind From) (λ _. default_local phase.Evaluation d front e ts)
        (λ _. here_test site (λ t. same t.kind As) (λ _. default_local phase.Evaluation d front e ts)
        (λ _. here_test site (λ t. is_binding t.kind)
        (λ _. here_add site (fault_at DeferDefault d.span ∷ []) (here_add site (esc d) (binding_then (λ b. default_local phase.Defer b _) e ts)))
        (λ _. default_local phase.Evaluation d front e ts)))))

    source_name_local : (d b : Token) → Local site (after_source_name d b)
    unfolding after_source_name
    source_name_local d b front e ts = here_test site (λ t. same b.kind From && same t.kind Str)
        (λ _. here_add site (esc b) (string_then (λ s _. local_got site _) e ts))
        (λ _. here_add site (esc d) (after site (from_local front e ts) (λ s part. local_got site _)))

    source_local : (d : Token) → Local site (after_source w d)
    unfolding after_source
    source_local d front e ts = here_test site (λ t. is_binding t.kind) (λ _. binding_then (λ b. source_name_local d b _) e ts)
        (λ _. here_test site (λ t. same t.kind Star) (λ h. here_add site (fault_at SourceForm d.span ∷ []) (here_add site (esc d) (via_star_here phase.Source None front e ts h)))
        (λ _. here_test site (λ t. same t.kind LCurly) (λ h. here_add site (fault_at SourceForm d.span ∷ []) (here_add site (esc d) (via_braces_here phase.Source None front e ts h)))
        (λ _. default_local phase.Evaluation d front e ts)))

    binding_local : (b : Token) → Local site (after_binding w b)
    unfolding after_binding
    binding_local b front e ts = here_test site (λ t. same t.kind Eq) (λ h. here_stop_at site Foreign (equals h))
        (λ _. local_if site (same b.kind Defer) (λ _. defer_local b front)
        (λ _. local_if site (same b.kind Source) (λ _. source_local b front) (λ _. default_local phase.Evaluation b front)) e ts)

    pub form_local : Local site (form w)
    unfolding form
    form_local front e ts = here_test site (λ t. same t.kind Str) (λ _. string_then (λ s _. local_got site _) e ts)
        (λ a. here_test site (λ t. same t.kind Star) (λ h. via_star_here phase.Evaluation None front e ts h)
        (λ b. here_test site (λ t. same t.kind LCurly) (λ h. via_braces_here phase.Evaluation None front e ts h)
        (λ c. after_token site Expected (λ t. is_binding t.kind) none classed.eof_unbound e ts (λ h. no_form h a b c) (λ t _. binding_local t _))))

    -- exports
    out_local : Local site export_specifier
    unfolding export_specifier
    out_local front e ts = after site (name_local front e ts) (λ x part e ts. after site (alias_local x _ e ts) (λ y part₂. local_got site _))

    module _ (text : List ℕ) where
      sourced_local : (f : Token → List Attribute → Clause) → Local site (sourced w text f)
      unfolding sourced
      sourced_local f front e ts = after site (from_local front e ts) (λ s part e ts. after site (attributes_local w text _ e ts)
          (λ l part₂ e ts. after site (ending_local _ e ts) (λ _ part₃. local_got site _)))

      pub export_all_here : (front : List Token) (e : ℕ) (ts : List Token) → at Star ts ≡ true → Here site front (export_all w text) e ts
      unfolding export_all
      export_all_here front e ts h = sure_then Star refl e ts h (λ _ _ e ts. here_test site (λ t. same t.kind As)
          (λ a. sure_then As refl e ts a (λ _ _ e ts. after site (name_local _ e ts) (λ x part. sourced_local (all_from (Some x)) _)))
          (λ _. sourced_local (all_from None) _ e ts))

      pub export_braces_here : (front : List Token) (e : ℕ) (ts : List Token) → at LCurly ts ≡ true → Here site front (export_braces w text) e ts
      unfolding export_braces
      export_braces_here front e ts h = after site (braced_here out_local w.names front e ts (λ n. clash n h)) (λ l part e ts. here_test site (λ t. same t.kind From)
          (λ _. sourced_local (names_from l) _ e ts)
          (λ _. here_add site (locals text l) (after site (ending_local _ e ts) (λ _ part₂. local_got site _))))

-- the host's answers
kept : (k : ℕ) (ts m : List Token) → SameNext (drop k ts) m → (take k (take k ts ++ m) ≡ take k ts) × (drop k (take k ts ++ m) ≡ m)
kept zero ts m s = (refl, refl)
kept (suc k) [] m both_end = (refl, refl)
kept (suc k) (t ∷ ts) m s = let p = kept k ts m s in (ap (λ x. t ∷ x) p.0, p.1)

body_kept : (b k : ℕ) → b ≤ k → (ts m : List Token) → SameNext (drop k ts) m → take b (take k ts ++ m) ≡ take b ts
body_kept zero k h ts m s = refl
body_kept (suc b) zero h ts m s = absurd (omega arith)
body_kept (suc b) (suc k) h [] m both_end = refl
body_kept (suc b) (suc k) h (t ∷ ts) m s = ap (λ x. t ∷ x) (body_kept b k (omega arith) ts m s)

name_at : (all : List Token) (is : List ℕ) (k : ℕ) (t : Token) → slice_get (map (λ i. get_or all i ended) is) k ≡ Some t → (i : ℕ) × (t ≡ get_or all i ended)
name_at all [] k t e = let z : ◌≡◌ {A = ℕ} 0 1 = cc in absurd (omega arith)
name_at all (i ∷ is) zero t e = (i, cc)
name_at all (i ∷ is) (suc k) t e = name_at all is k t e

module _ (site : Site) where
  host_local : (F : List Token → Clause) (b k : ℕ) → b ≤ k → {front : List Token}
      → LocalAt site front (λ e ts. got (F (take b ts)) [] (last_end e (take k ts)) (drop k ts))
  host_local F b k h {front = front} e ts =
      let R : Reader Clause = λ e ts. got (F (take b ts)) [] (last_end e (take k ts)) (drop k ts) in
      subst (λ x. Seen site front R e x (got (F (take b ts)) [] (last_end e (take k ts)) (drop k ts))) (take-append-drop k ts)
      (taken (take k ts) (drop k ts) (λ m s. let p = kept k ts m s in let q = body_kept b k h ts m s in cc))

  refused_local : {A : Type 0} (c : ℕ) {front : List Token} → Refuses site (site.first + length front) c → LocalAt site {A = A} front (λ e ts. stop (fault_of_host c (span_here e ts)))
  refused_local c r e ts = here_stop site (λ e ts. fault_of_host c (span_here e ts)) (λ m m' s. ap (fault_of_host c) (span_same e s)) (refused c r)

  room_local : (o : Option Token) {R : Reader Clause} {front : List Token} → ((t : Token) → o ≡ Some t → (i : ℕ) × (t ≡ get_or site.all i ended)) → LocalAt site front R
      → LocalAt site front (λ e ts. room_for o (R e ts))
  unfolding room_for
  room_local None f l e ts = l e ts
  room_local (Some t) {front = front} f l e ts =
      let p = f t refl in
      here_stop site (λ _ _. fault_at Full t.span) (λ m m' s. refl) (subst (λ x. Why site front e ts (fault_at Full x.span)) (sym p.1) (no_room p.0))

  -- the host is asked about the token come to
  declared_local : (w : Setting) (n : ℕ) (a : Result (ℕ × List ℕ) ℕ) → site.host.declaration site.all n ≡ a → (front : List Token) → n ≡ site.first + length front
      → LocalAt site front (declared_by w site.all a)
  unfolding declared_by tokens_at
  declared_local w n (Err c) q front z e ts = refused_local c (inr (inl (ap (site.host.declaration site.all) (sym z) ∙ q))) e ts
  declared_local w n (Ok a) q front z e ts = room_local (slice_get (tokens_at site.all a.1) w.names) (λ t e. name_at site.all a.1 w.names t e)
      (host_local (λ ts. declared ts (tokens_at site.all a.1)) a.0 a.0 (omega arith)) e ts

  default_local_by : (n : ℕ) (d : Token) (a : Result (ℕ × ℕ × Naming) ℕ) → site.host.defaulting site.all n ≡ a → (front : List Token) → n ≡ site.first + length front
      → LocalAt site front (defaulted_by site.all d a)
  unfolding defaulted_by
  default_local_by n d (Err c) q front z e ts = refused_local c (inr (inr (ap (site.host.defaulting site.all) (sym z) ∙ q))) e ts
  default_local_by n d (Ok a) q front z e ts =
      host_local (λ ts. defaulted d ts (named site.all a.2)) a.1 a.0 (site.host.defaulting_lawful site.all n a.0 a.1 a.2 q).2 e ts

  one_more : (n : ℕ) (front : List Token) (t : Token) → n ≡ site.first + length front → n + 1 ≡ site.first + length (front ++ (t ∷ []))
  one_more n front t z = omega (arith, z, length-append front (t ∷ []))

  pub export_local : (w : Setting) (text : List ℕ) (n : ℕ) (front : List Token) → n ≡ site.first + length front → LocalAt site front (export_clause w text site.host site.all n)
  unfolding export_clause
  export_local w text n front z e ts = here_test site (λ t. same t.kind Star) (λ a. export_all_here site w text front e ts a)
      (λ _. here_test site (λ t. same t.kind LCurly) (λ a. export_braces_here site w text front e ts a)
      (λ _. here_test site (λ t. same t.kind Default) (λ a. sure_then site Default refl e ts a
      (λ d _. default_local_by (n + 1) d (site.host.defaulting site.all (n + 1)) refl (front ++ (d ∷ [])) (one_more n front d z)))
      (λ _. here_test site (λ t. same t.kind Import) (λ i. here_stop_at site Foreign (imports i))
      (λ _. here_test site (λ t. same t.kind Export)
      (λ a. as_other site (λ e x. add (second_export (next ts) ∷ []) (bind (word Export e x) λ _ e₁ m. declared_by w site.all (site.host.declaration site.all (n + 1)) e₁ m))
      (λ x s. ap (λ t. add (second_export t ∷ []) (bind (word Export e x) λ _ e₁ m. declared_by w site.all (site.host.declaration site.all (n + 1)) e₁ m)) (sym (next_same s)))
      (here_add site (second_export (next ts) ∷ []) (sure_then site Export refl e ts a
      (λ t _. declared_local w (n + 1) (site.host.declaration site.all (n + 1)) refl (front ++ (t ∷ [])) (one_more n front t z)))))
      (λ _. declared_local w n (site.host.declaration site.all n) refl front z e ts)))))
