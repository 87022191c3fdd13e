-- The eight forms of an import.
use Rattle.std.proofs.Common.{◌≡◌, ℕ, ◌≤◌, Bool, true, false, eqb, List, [], length, Some, None, Option, inl, inr, refl, ap, ◌∙◌, arith}
use Rattle.std.proofs.lemmas.Bool.{cases_Bool, and_parts, and_right, and_from}
use Rattle.kinds.specs.declared.kind.Kind.{Kind}
use Rattle.kinds.specs.declared.kind.Kind.TheVariants.{Str, From, As, Star, LCurly, RCurly, Comma, Eq, Defer, Source}
use Rattle.kinds.specs.Numbers.{number, same}
use Rattle.kinds.specs.Classes.{is_binding, is_keyword}
use Rattle.lexer.specs.declared.token.Token.{Token}
use Rattle.pages.specs.declared.fault.FaultKind.TheVariants.{Expected, Unexpected, Foreign}
use Rattle.pages.specs.declared.rows.Specifier.{Specifier}
use Rattle.pages.specs.declared.page.Phase.{Phase}
use Rattle.pages.specs.declared.page.Phase.TheVariants as phase
use Rattle.reading.specs.Ahead.{next, at}
use Rattle.reading.specs.Settings.{Setting}
use Rattle.reading.specs.Readings.{Starred, Form, import_rows}
use Rattle.reading.specs.Grammar.{one, Sign, Word, B, ImportSpecifier, Braces, empty, full, StarAs, star_as, FromS, from_s, ImportForm, bare, default, default_star, default_braces, star, braces, defer_star, source_of}
use Rattle.reading.specs.Steps.{esc}
use Rattle.reading.specs.Braces.{braced}
use Rattle.reading.specs.Imports.{specifier, from_source, star_alias, star_with_source, braces_with_source, starred, listed, room_by, via_star, via_braces, after_default, after_defer, after_source_name, after_source, after_binding, form}
use Rattle.reading.specs.Main.{Cleanly}
use Rattle.reading.proofs.Clean.{Right, took, takes, bound_of, binds, tested, passes, fails, stopped_at, done, ends, added, adds, faulty, clash}
use Rattle.reading.proofs.OfKinds.{same_is, seen, esc_is, esc_none, one_as, one_is, binding_is_not, comma_right, star_right, as_right, from_right, str_right, binding_right, sign_at, word_at, classed}
use Rattle.reading.proofs.Lists.{curly, braced_sound, braced_complete}
use Rattle.reading.proofs.Specifiers.{specifiers}

-- from S, and Star as B
pub source_right : Right from_source FromS
unfolding from_source
source_right = record { sound = sound; complete = complete }
  where
    sound : (e : ℕ) {ts : List Token} {a : Token} {rest : List Token} → Cleanly (from_source e ts) a rest → FromS ts a rest
    sound e {ts = ts} y = took e ts from_right y λ k e₁ m w y₁. from_s w ((str_right Unexpected).sound e₁ y₁)

    complete : (e : ℕ) {ts : List Token} {a : Token} {rest : List Token} → FromS ts a rest → Cleanly (from_source e ts) a rest
    complete e (from_s w s) = takes e _ from_right w λ e₁. (str_right Unexpected).complete e₁ s

stars_right : Right star_alias StarAs
unfolding star_alias
stars_right = record { sound = sound; complete = complete }
  where
    sound : (e : ℕ) {ts : List Token} {a : Starred} {rest : List Token} → Cleanly (star_alias e ts) a rest → StarAs ts a rest
    sound e {ts = ts} y = took e ts star_right y λ s e₁ m r y₁. took e₁ m as_right y₁ λ k e₂ n w y₂. took e₂ n (binding_right Unexpected) y₂ λ b e₃ q r' y₃.
        done (StarAs ts) y₃ (λ _. star_as r w r')

    complete : (e : ℕ) {ts : List Token} {a : Starred} {rest : List Token} → StarAs ts a rest → Cleanly (star_alias e ts) a rest
    complete e (star_as s k b) = takes e _ star_right s λ e₁. takes e₁ _ as_right k λ e₂. takes e₂ _ (binding_right Unexpected) b λ e₃. ends

-- where these make a form
via_star_lem : (ph : Phase) (d : Option Token) (e : ℕ) (ts : List Token) {a : Form} {rest : List Token} (P : Form → List Token → Type 0)
    → Cleanly (via_star ph d e ts) a rest → ((c : Starred) (s : Token) (m n : List Token) → StarAs ts c m → FromS m s n → P (starred ph d (c, s)) n) → P a rest
unfolding via_star star_with_source
via_star_lem ph d e ts P y k = bound_of (star_with_source e ts) y λ p e₁ n z y₁. done P y₁ (λ _.
    took e ts stars_right z λ c e₂ m r z₁. took e₂ m source_right z₁ λ s e₃ o r' z₂. done (λ p n. P (starred ph d p) n) z₂ (λ _. k c s m o r r'))

star_via : (ph : Phase) (d : Option Token) (e : ℕ) {ts m n : List Token} {c : Starred} {s : Token} → StarAs ts c m → FromS m s n → Cleanly (via_star ph d e ts) (starred ph d (c, s)) n
unfolding via_star star_with_source
star_via ph d e r r' = binds _ (takes e _ stars_right r λ e₁. takes e₁ _ source_right r' λ e₂. ends) λ e₃. ends

-- what is next
pub from_at : {ts m : List Token} {s : Token} {v : Bool} (c : Kind) → FromS ts s m → eqb (number From) (number c) ≡ v → at c ts ≡ v
from_at c (from_s w s) e = word_at c w e

star_at : {ts m : List Token} {s : Starred} {v : Bool} (c : Kind) → StarAs ts s m → eqb (number Star) (number c) ≡ v → at c ts ≡ v
star_at c (star_as s k b) e = sign_at c s e

pub braces_at : {A : Type 0} {R : List Token → A → List Token → Type 0} {close : Kind} {ts m : List Token} {l : List A} {v : Bool} (c : Kind)
    → Braces R close ts l m → eqb (number LCurly) (number c) ≡ v → at c ts ≡ v
braces_at c (empty s s') e = sign_at c s e
braces_at c (full s d) e = sign_at c s e

at_binding : {ts m : List Token} {b : Token} → B ts b m → is_binding (next ts).kind ≡ true
unfolding next
at_binding (one h) = h

comma_binding : {ts m : List Token} {t : Token} → Sign Comma ts t m → is_binding (next ts).kind ≡ false
unfolding next
comma_binding (one h) = ap is_binding h ∙ classed.comma_unbound

-- keywords
keyword_binding : {k : Kind} {ts m : List Token} {t : Token} → Word k ts t m → is_binding k ≡ true → B ts t m
keyword_binding w e = one_as w (ap is_binding (one_is w).0 ∙ e)

pub word_esc : {k : Kind} {ts m : List Token} {t : Token} → Word k ts t m → esc t ≡ []
word_esc {t = t} w = esc_none t (one_is w).1

word_same : {k : Kind} {ts m : List Token} {t : Token} {v : Bool} (c : Kind) → Word k ts t m → eqb (number k) (number c) ≡ v → same t.kind c ≡ v
word_same c w e = seen c (one_is w).0 e

binding_at_eq : {ts m : List Token} {b : Token} → B ts b m → at Eq ts ≡ false
unfolding next
binding_at_eq (one {t = t} h) = (binding_is_not t.kind h).eq

unescaped : (t : Token) (k : Kind) → t.kind ≡ k → is_keyword k ≡ true → esc t ≡ [] → t.escaped ≡ false
unescaped t k q h n = esc_is t (ap is_keyword q ∙ h) n

module _ (w : Setting) where
  via_braces_lem : (ph : Phase) (d : Option Token) (e : ℕ) (ts : List Token) {a : Form} {rest : List Token} (P : Form → List Token → Type 0)
      → Cleanly (via_braces w ph d e ts) a rest
      → ((l : List Specifier) (s : Token) (m n : List Token) → Braces ImportSpecifier RCurly ts l m → length l ≤ room_by w d → FromS m s n → P (listed ph d (l, s)) n) → P a rest
  unfolding via_braces braces_with_source
  via_braces_lem ph d e ts P y k = bound_of (braces_with_source (room_by w d) e ts) y λ p e₁ n z y₁. done P y₁ (λ _.
      bound_of (braced specifier RCurly (room_by w d) e ts) z λ l e₂ m x z₁. let r = braced_sound curly specifiers (room_by w d) e ts x in
      took e₂ m source_right z₁ λ s e₃ o r' z₂. done (λ p n. P (listed ph d p) n) z₂ (λ _. k l s m o r.0 r.1 r'))

  braces_via : (ph : Phase) (d : Option Token) (e : ℕ) {ts m n : List Token} {l : List Specifier} {s : Token}
      → Braces ImportSpecifier RCurly ts l m → length l ≤ room_by w d → FromS m s n → Cleanly (via_braces w ph d e ts) (listed ph d (l, s)) n
  unfolding via_braces braces_with_source
  braces_via ph d e r h r' = binds _ (binds _ (braced_complete curly specifiers (room_by w d) e r h) λ e₁. takes e₁ _ source_right r' λ e₂. ends) λ e₃. ends

  -- a form, and that its rows have room
  abbrev Fit : List Token → Form → List Token → Type 0
  Fit ts f rest = ImportForm ts f rest × (length (import_rows f) ≤ w.names)

  default_sound : (b : Token) (ts m : List Token) (e : ℕ) {f : Form} {rest : List Token} → B ts b m → Cleanly (after_default w phase.Evaluation b e m) f rest → Fit ts f rest
  unfolding after_default
  default_sound b ts m e r y = tested y
      (λ _ y₁. took e m comma_right y₁ λ k e₁ n s y₂. tested y₂
      (λ _ y₃. via_star_lem phase.Evaluation (Some b) e₁ n (Fit ts) y₃ (λ c t o q d d'. (default_star r s d d', w.two)))
      (λ _ y₃. tested y₃
      (λ _ y₄. via_braces_lem phase.Evaluation (Some b) e₁ n (Fit ts) y₄ (λ l t o q d h d'. (default_braces r s d d', omega (arith, w.two))))
      (λ _ y₄. stopped_at Unexpected e₁ n y₄)))
      (λ _ y₁. took e m source_right y₁ λ s e₁ n d y₂. done (Fit ts) y₂ (λ _. (default r d, omega (arith, w.two))))

  defer_sound : (b : Token) (ts m : List Token) (e : ℕ) {f : Form} {rest : List Token}
      → B ts b m → b.kind ≡ Defer → Cleanly (after_defer w b e m) f rest → Fit ts f rest
  unfolding after_defer
  defer_sound b ts m e r k y = tested y
      (λ _ y₁. added y₁ λ n y₂. via_star_lem phase.Defer None e m (Fit ts) y₂ (λ c s o q d d'. (defer_star (one_as r (k, unescaped b Defer k classed.defer_keyword n)) d d', omega (arith, w.two))))
      (λ _ y₁. tested y₁ (λ _ y₂. added y₂ λ n _. faulty n)
      (λ _ y₂. tested y₂ (λ _ y₃. default_sound b ts m e r y₃)
      (λ _ y₃. tested y₃ (λ _ y₄. default_sound b ts m e r y₄)
      (λ _ y₄. tested y₄ (λ _ y₅. added y₅ λ n _. faulty n) (λ _ y₅. default_sound b ts m e r y₅)))))

  source_sound : (b : Token) (ts m : List Token) (e : ℕ) {f : Form} {rest : List Token}
      → B ts b m → b.kind ≡ Source → Cleanly (after_source w b e m) f rest → Fit ts f rest
  unfolding after_source after_source_name
  source_sound b ts m e r k y = tested y
      (λ _ y₁. took e m (binding_right Unexpected) y₁ λ c e₁ n d y₂. tested y₂
      (λ h y₃. added y₃ λ u y₄. took e₁ n (str_right Unexpected) y₄ λ s e₂ q d' y₅. done (Fit ts) y₅
      (λ _. let j = same_is c.kind From (and_parts _ _ h).0 in
      (default r (from_s (one_as d (j, unescaped c From j classed.from_keyword u)) d'), omega (arith, w.two))))
      (λ _ y₃. added y₃ λ u y₄. took e₁ n source_right y₄ λ s e₂ q d' y₅. done (Fit ts) y₅
      (λ _. (source_of (one_as r (k, unescaped b Source k classed.source_keyword u)) d d', omega (arith, w.two)))))
      (λ _ y₁. tested y₁ (λ _ y₂. added y₂ λ n _. faulty n)
      (λ _ y₂. tested y₂ (λ _ y₃. added y₃ λ n _. faulty n) (λ _ y₃. default_sound b ts m e r y₃)))

  pub form_sound : (e : ℕ) (ts : List Token) {f : Form} {rest : List Token} → Cleanly (form w e ts) f rest → Fit ts f rest
  unfolding form after_binding
  form_sound e ts y = tested y
      (λ _ y₁. took e ts (str_right Unexpected) y₁ λ s e₁ m r y₂. done (Fit ts) y₂ (λ _. (bare r, omega arith)))
      (λ _ y₁. tested y₁ (λ _ y₂. via_star_lem phase.Evaluation None e ts (Fit ts) y₂ (λ c s m q d d'. (star d d', omega (arith, w.two))))
      (λ _ y₂. tested y₂ (λ _ y₃. via_braces_lem phase.Evaluation None e ts (Fit ts) y₃ (λ l s m q d h d'. (braces d d', h)))
      (λ _ y₃. took e ts (binding_right Expected) y₃ λ b e₁ m r y₄. tested y₄ (λ _ y₅. stopped_at Foreign e₁ m y₅)
      (λ _ y₅. tested y₅ (λ h y₆. defer_sound b ts m e₁ r (same_is b.kind Defer h) y₆)
      (λ _ y₆. tested y₆ (λ h y₇. source_sound b ts m e₁ r (same_is b.kind Source h) y₇)
      (λ _ y₇. default_sound b ts m e₁ r y₇))))))

  -- a form that begins with a binding identifier
  led : (e : ℕ) {ts m : List Token} {b : Token} {f : Form} {rest : List Token} → B ts b m → at Eq m ≡ false
      → ((e : ℕ) → same b.kind Defer ≡ true → Cleanly (after_defer w b e m) f rest)
      → ((e : ℕ) → same b.kind Source ≡ true → Cleanly (after_source w b e m) f rest)
      → ((e : ℕ) → same b.kind Defer ≡ false → same b.kind Source ≡ false → Cleanly (after_default w phase.Evaluation b e m) f rest)
      → Cleanly (form w e ts) f rest
  unfolding form after_binding next
  led e (one {t = b} h) q d s k =
      fails _ (binding_is_not b.kind h).str (fails _ (binding_is_not b.kind h).star (fails _ (binding_is_not b.kind h).lcurly
      (takes e _ (binding_right Expected) (one h) λ e₁. fails _ q (elim (cases_Bool (same b.kind Defer)) [
        | inl i ↦ passes _ i (d e₁ i)
        | inr i ↦ fails _ i (elim (cases_Bool (same b.kind Source)) [
          | inl j ↦ passes _ j (s e₁ j)
          | inr j ↦ fails _ j (k e₁ i j)
        ])
      ]))))

  -- a default before a Comma is one, whatever its kind
  comma_led : (e : ℕ) {ts m n : List Token} {b c : Token} {f : Form} {rest : List Token} → B ts b m → Sign Comma m c n
      → ((e : ℕ) → Cleanly (after_default w phase.Evaluation b e m) f rest) → Cleanly (form w e ts) f rest
  unfolding after_defer after_source
  comma_led e r s k = led e r (sign_at Eq s refl)
      (λ e _. fails _ (sign_at Star s refl) (fails _ (sign_at LCurly s refl) (fails _ (sign_at From s refl) (fails _ (sign_at As s refl) (fails _ (comma_binding s) (k e))))))
      (λ e _. fails _ (comma_binding s) (fails _ (sign_at Star s refl) (fails _ (sign_at LCurly s refl) (k e))))
      (λ e _ _. k e)

  default_complete : (b : Token) (e : ℕ) {m rest : List Token} {s : Token} → FromS m s rest
      → Cleanly (after_default w phase.Evaluation b e m) (record { phase = phase.Evaluation; default = Some b; namespace = None; specifiers = []; source = s }) rest
  unfolding after_default
  default_complete b e d = fails _ (from_at Comma d refl) (takes e _ source_right d λ e₁. ends)

  pub form_complete : (e : ℕ) {ts : List Token} {f : Form} {rest : List Token} → ImportForm ts f rest → length (import_rows f) ≤ w.names → Cleanly (form w e ts) f rest
  unfolding form after_default after_defer after_source after_source_name
  form_complete e (bare s) h = passes _ (sign_at Str s refl) (takes e _ (str_right Unexpected) s λ e₁. ends)
  form_complete e (default {b = b} r (from_s v s)) h = led e r (from_at Eq (from_s v s) refl)
      (λ e _. fails _ (from_at Star (from_s v s) refl) (fails _ (from_at LCurly (from_s v s) refl) (passes _ (from_at From (from_s v s) refl) (default_complete b e (from_s v s)))))
      (λ e _. passes _ (at_binding (keyword_binding v classed.from_binds)) (takes e _ (binding_right Unexpected) (keyword_binding v classed.from_binds) λ e₁.
      passes _ (and_from _ _ (word_same From v refl) (sign_at Str s refl)) (adds (word_esc v) (takes e₁ _ (str_right Unexpected) s λ e₂. ends))))
      (λ e _ _. default_complete b e (from_s v s))
  form_complete e (default_star {b = b} r s d d') h = comma_led e r s λ e.
      passes _ (sign_at Comma s refl) (takes e _ comma_right s λ e₁. passes _ (star_at Star d refl) (star_via phase.Evaluation (Some b) e₁ d d'))
  form_complete e (default_braces {b = b} r s d d') h = comma_led e r s λ e.
      passes _ (sign_at Comma s refl) (takes e _ comma_right s λ e₁. fails _ (braces_at Star d refl)
      (passes _ (braces_at LCurly d refl) (braces_via phase.Evaluation (Some b) e₁ d (omega (arith, w.two)) d')))
  form_complete e (star d d') h = fails _ (star_at Str d refl) (passes _ (star_at Star d refl) (star_via phase.Evaluation None e d d'))
  form_complete e (braces d d') h =
      fails _ (braces_at Str d refl) (fails _ (braces_at Star d refl) (passes _ (braces_at LCurly d refl) (braces_via phase.Evaluation None e d h d')))
  form_complete e (defer_star v d d') h = led e (keyword_binding v classed.defer_binds) (star_at Eq d refl)
      (λ e _. passes _ (star_at Star d refl) (adds (word_esc v) (star_via phase.Defer None e d d')))
      (λ e j. clash (word_same Source v refl) j)
      (λ e i _. clash i (word_same Defer v refl))
  form_complete e (source_of v b d) h = led e (keyword_binding v classed.source_binds) (binding_at_eq b)
      (λ e i. clash (word_same Defer v refl) i)
      (λ e _. passes _ (at_binding b) (takes e _ (binding_right Unexpected) b λ e₁.
      fails _ (and_right _ _ (from_at Str d refl)) (adds (word_esc v) (takes e₁ _ source_right d λ e₂. ends))))
      (λ e _ j. clash j (word_same Source v refl))
