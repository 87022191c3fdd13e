-- The laws of stops, item by item.
use Rattle.std.proofs.Common.{◌≡◌, ℕ, zero, suc, ◌+◌, ◌-◌, ◌<◌, true, false, not, ◌&&◌, ◌||◌, leb, List, [], ◌∷◌, ◌++◌, length, take, drop, Ok, Err, Result, sym, refl, ap, ◌∙◌, subst, inl, inr, add-zero, arith, take-append-drop, length-append}
use Rattle.std.proofs.Math.Seq.{take-append_seam}
use Rattle.std.proofs.lemmas.Bool.{cases_Bool, le-leb, and_parts, and_left}
use Rattle.kinds.specs.declared.kind.Kind.TheVariants.{Import, Export, Star, LCurly, LParen, Dot, Default}
use Rattle.kinds.specs.Numbers.{same}
use Rattle.lexer.specs.declared.token.Token.{Token}
use Rattle.pages.specs.declared.fault.Fault.{Fault}
use Rattle.pages.specs.declared.fault.FaultKind.TheVariants.{Foreign}
use Rattle.pages.specs.Faults.{fault_of_host}
use Rattle.reading.specs.Ahead.{next, rest, span_here, at, import_follows}
use Rattle.reading.specs.Settings.{Setting}
use Rattle.reading.specs.Hosts.{Host}
use Rattle.reading.specs.Readings.{Clause, imported, stated, Item, last_end, span_of, upto}
use Rattle.reading.specs.Steps.{Out, stop, got, Reader, stop_at, add, bind, test, esc, token, ending, crowded}
use Rattle.reading.specs.Attributes.{attributes}
use Rattle.reading.specs.Imports.{form, importing}
use Rattle.reading.specs.Exports.{export_all, export_braces, export_clause, exporting}
use Rattle.reading.specs.Items.{stated_by, clause, item}
use Rattle.reading.specs.Laws.{Site, SameNext, Why, refused, imports, NoHost, an_import, all_of, some_of, foreign, Stop, SameStop, Taken, LawsOfStops}
use Rattle.reading.proofs.Clean.{clash, never, tested_got}
use Rattle.reading.proofs.OfKinds.{same_is, seen}
use Rattle.reading.proofs.Local.{self, extend, next_same, Seen, taken, stopped, Here, Local, local_got, here_stop_at, after, local_crowded}
use Rattle.reading.proofs.OfReaders.{form_local, attributes_local, ending_local, export_all_here, export_braces_here, export_local}

-- the tokens before what is left
upto_front : (xs ys : List Token) → upto (xs ++ ys) ys ≡ xs
unfolding upto
upto_front xs ys =
    let n : length (xs ++ ys) - length ys ≡ length xs = omega (arith, length-append xs ys) in
    rw n (take-append_seam xs ys)

-- what follows `import`
abbrev import_rest : Setting → List ℕ → Reader Clause
import_rest w text e₁ m =
    bind (form w e₁ m) λ f e₂ n. bind (attributes w text e₂ n) λ l e₃ o. bind (ending e₃ o) λ _ e₄ r. got (imported f l) [] e₄ r

import_local : (site : Site) (w : Setting) (text : List ℕ) → Local site (import_rest w text)
import_local site w text front e ts = after site (form_local site w front e ts) (λ f part e ts. after site (attributes_local site w text _ e ts) (λ l part₂ e ts.
    after site (ending_local site _ e ts) (λ _ part₃. local_got site (imported f l))))

abbrev made : List Token → Clause → Reader Item
made ts c e m = got (record { tokens = upto ts m; clause = c }) [] e m

-- an item that begins with the token t, which draws fs, and goes on with K
abbrev body : ℕ → Token → List Fault → Reader Clause → Reader Item
body room t fs K e x = crowded room (bind (add fs (K e x)) (made (t ∷ x)))

module _ (site : Site) where
  itemized : (t : Token) (fs : List Fault) {K : Reader Clause} {front : List Token} {e : ℕ} {x : List Token} {o : Out Clause}
      → Seen site front K e x o → Seen site front (λ e x. bind (add fs (K e x)) (made (t ∷ x))) e x (bind (add fs o) (made (t ∷ x)))
  unfolding bind add
  itemized t fs {K = K} {front = front} {e = e} (taken part m {a = c} {fs = gs} same) =
      let u : (m : List Token) → upto (t ∷ (part ++ m)) m ≡ t ∷ part = λ m. upto_front (t ∷ part) m in
      let value : List Token → List Token → Out Item = λ xs m. got (record { tokens = xs; clause = c }) ((fs ++ gs) ++ []) (last_end e part) m in
      subst (λ xs. Seen site front (λ e x. bind (add fs (K e x)) (made (t ∷ x))) e (part ++ m) (value xs m)) (sym (u m))
      (taken part m (λ m' s. ap (λ o. bind (add fs o) (made (t ∷ (part ++ m')))) (same m' s) ∙ ap (λ xs. value xs m') (u m')))
  itemized t fs (stopped part m why same) = stopped part m why (λ m' s. ap (λ o. bind (add fs o) (made (t ∷ (part ++ m')))) (same m' s))

  body_here : (room : ℕ) (t : Token) (fs : List Fault) {K : Reader Clause} {front : List Token} {e : ℕ} {x : List Token} → Here site front K e x → Here site front (body room t fs K) e x
  body_here room t fs s = local_crowded site room (itemized t fs s)

-- the first token
module _ (w : Setting) (text : List ℕ) (t : Token) where
  follows_same : {x x' : List Token} → SameNext x x' → import_follows (t ∷ x) ≡ import_follows (t ∷ x')
  unfolding import_follows next rest
  follows_same s = ap (λ u. same t.kind Import && not (same u.kind LParen || same u.kind Dot)) (next_same s)

  import_kind : (x : List Token) → import_follows (t ∷ x) ≡ true → t.kind ≡ Import
  unfolding import_follows next
  import_kind x h = same_is t.kind Import (and_parts _ _ h).0

  import_is : (h : Host) (all : List Token) (n e : ℕ) (x : List Token) → import_follows (t ∷ x) ≡ true
      → item w text h all n e (t ∷ x) ≡ body w.faults t (esc t) (import_rest w text) t.span.end x
  unfolding item clause importing token next rest test bind
  import_is h all n e x f = rw (f, seen Import (import_kind x f) refl) refl

  export_is : (h : Host) (all : List Token) (n e : ℕ) (x : List Token) → import_follows (t ∷ x) ≡ false → same t.kind Export ≡ true
      → item w text h all n e (t ∷ x) ≡ body w.faults t (esc t) (export_clause w text h all (n + 1)) t.span.end x
  unfolding item clause exporting token next rest test bind
  export_is h all n e x f g = rw (f, g) refl

-- An item that is read from the token t on: what it takes stands at the front, and t is its first token.
pub record First (e : ℕ) (t : Token) (x : List Token) (i : Item) (e' : ℕ) (m : List Token) : Type 0 where
  pub taken : Taken e (t ∷ x) i e' m
  pub part : List Token
  pub begins : i.tokens ≡ t ∷ part

taken_as : {e e₁ e' : ℕ} {ts r m : List Token} {i j : Item} {gs fs : List Fault} → got j gs e₁ r ≡ got i fs e' m → Taken e ts j e₁ r → Taken e ts i e' m
taken_as p k =
    let a = k.is in
    let b = k.end in record { is = cc; end = cc }

module _ (w : Setting) (text : List ℕ) (site : Site) (t : Token) where
  stop_of : {P : Reader Item} {x : List Token} {o : Out Item} {f : Fault} (e : ℕ) → Seen site (t ∷ []) P t.span.end x o → o ≡ stop f → Stop site e (t ∷ x) f
  unfolding last_end
  stop_of e (taken part m same) p = never p
  stop_of {f = f} e (stopped part m {f = g} why same) p =
      let q : g ≡ f = cc in
      record { part = t ∷ part; left = m; is = refl; why = subst (λ y. Why site (t ∷ part) (last_end t.span.end part) m y) q why }

  same_of : (K : Reader Clause) (e : ℕ) {x : List Token} {o : Out Item} {f : Fault}
      → ((x' : List Token) → SameNext x x' → (h : Host) (all : List Token) (n : ℕ) → item w text h all n e (t ∷ x') ≡ body w.faults t (esc t) K t.span.end x')
      → Seen site (t ∷ []) (body w.faults t (esc t) K) t.span.end x o → o ≡ stop f → SameStop w text site e (t ∷ x) f
  unfolding last_end
  same_of K e eqs (taken part m same) p = never p
  same_of K e {f = f} eqs (stopped part m {f = g} why same) p =
      let q : g ≡ f = cc in
      record {
        part = t ∷ part;
        left = m;
        is = refl;
        why = subst (λ y. Why site (t ∷ part) (last_end t.span.end part) m y) q why;
        same = λ m' s h all n. eqs (part ++ m') (extend part s) h all n ∙ same m' s ∙ ap stop q;
      }

  first_of : {P : Reader Item} {x : List Token} {o : Out Item} {i : Item} {fs : List Fault} {e' : ℕ} {m : List Token} (e : ℕ)
      → Seen site (t ∷ []) P t.span.end x o → o ≡ got i fs e' m → i.tokens ≡ upto (t ∷ x) m → First e t x i e' m
  unfolding last_end
  first_of {i = i} {e' = e'} {m = m} e (taken part m₁ same) p u =
      let q : m₁ ≡ m = cc in
      let r : last_end t.span.end part ≡ e' = cc in
      let v : i.tokens ≡ t ∷ part = u ∙ ap (λ y. upto (t ∷ (part ++ m₁)) y) (sym q) ∙ upto_front (t ∷ part) m₁ in
      let k : Taken e (t ∷ (part ++ m₁)) i e' m = record { is = rw (v, q) refl; end = rw (v, ← r) refl } in
      record { taken = k; part = part; begins = v }
  first_of e (stopped part m₁ why same) p u = never (sym p)

-- the tokens of an item
crowded_tokens : (room : ℕ) (ts : List Token) (o : Out Clause) {i : Item} {fs : List Fault} {e : ℕ} {m : List Token}
    → crowded room (bind o (made ts)) ≡ got i fs e m → i.tokens ≡ upto ts m
unfolding bind add crowded stop_at
crowded_tokens room ts (stop f) p = never (sym p)
crowded_tokens room ts (got c gs e₁ m₁) {i = i} {m = m} p = tested_got (leb (length (gs ++ [])) room) _ _ p
    (λ _ q. let r : record { tokens = upto ts m₁; clause = c } ≡ i = cc in let s : m₁ ≡ m = cc in rw (← r, s) refl)
    (λ _ q. never (sym q))

not_import : import_follows [] ≡ false
unfolding import_follows next rest same
not_import = refl

not_export : at Export [] ≡ false
unfolding next same
not_export = refl

-- the host's statement
module _ (w : Setting) (text : List ℕ) (h : Host) (all : List Token) (n : ℕ) where
  abbrev site : Site
  site = record { host = h; all = all; first = n }

  stated_is : (e : ℕ) (ts : List Token) → import_follows ts ≡ false → at Export ts ≡ false
      → item w text h all n e ts ≡ crowded w.faults (bind (stated_by (h.statement all n) e ts) (made ts))
  unfolding item clause test
  stated_is e ts f g = rw (f, g) refl

  few : (k e : ℕ) (ts : List Token) → crowded w.faults (bind (stated_by (Ok k) e ts) (made ts)) ≡ got (record { tokens = take k ts; clause = stated }) [] (last_end e (take k ts)) (drop k ts)
  unfolding stated_by bind add crowded test
  few k e ts =
      let u : upto ts (drop k ts) ≡ take k ts =
      ap (λ x. upto x (drop k ts)) (sym (take-append-drop k ts)) ∙ upto_front (take k ts) (drop k ts) in
      rw (le-leb 0 w.faults (omega arith), u) refl

  refusal : (c e : ℕ) (ts : List Token) → crowded w.faults (bind (stated_by (Err c) e ts) (made ts)) ≡ stop (fault_of_host c (span_here e ts))
  unfolding stated_by bind crowded
  refusal c e ts = refl

  stated_stop : (a : Result ℕ ℕ) → h.statement all n ≡ a → (e : ℕ) (ts : List Token) (f : Fault) → crowded w.faults (bind (stated_by a e ts) (made ts)) ≡ stop f → Stop site e ts f
  unfolding last_end
  stated_stop (Err c) u e ts f p =
      let q : fault_of_host c (span_here e ts) ≡ f = cc (refusal c e ts) in
      record { part = []; left = ts; is = refl; why = subst (λ y. Why site [] e ts y) q (refused c (inl (ap (h.statement all) (add-zero n) ∙ u))) }
  stated_stop (Ok k) u e ts f p = never (sym (few k e ts) ∙ p)

  stated_taken : (a : Result ℕ ℕ) (e : ℕ) (ts : List Token) (i : Item) (fs : List Fault) (e' : ℕ) (m : List Token)
      → crowded w.faults (bind (stated_by a e ts) (made ts)) ≡ got i fs e' m → Taken e ts i e' m
  stated_taken (Err c) e ts i fs e' m p = never (sym p ∙ refusal c e ts)
  stated_taken (Ok k) e ts i fs e' m p = taken_as (sym (few k e ts) ∙ p) (record { is = sym (take-append-drop k ts); end = refl })

  stated_first : (a : Result ℕ ℕ) → h.statement all n ≡ a → (e : ℕ) (t : Token) (x : List Token) (i : Item) (fs : List Fault) (e' : ℕ) (m : List Token)
      → crowded w.faults (bind (stated_by a e (t ∷ x)) (made (t ∷ x))) ≡ got i fs e' m → First e t x i e' m
  stated_first (Err c) q e t x i fs e' m p = never (sym p ∙ refusal c e (t ∷ x))
  stated_first (Ok zero) q e t x i fs e' m p = absurd (omega (arith, (h.statement_lawful all n 0 q).some))
  stated_first (Ok (suc k)) q e t x i fs e' m p =
      let r = sym (few (suc k) e (t ∷ x)) ∙ p in
      let v : record { tokens = t ∷ take k x; clause = stated } ≡ i = cc in
      record { taken = stated_taken (Ok (suc k)) e (t ∷ x) i fs e' m p; part = take k x; begins = sym (ap (λ (j : Item). j.tokens) v) }

  -- any item
  module _ (e : ℕ) (t : Token) (x : List Token) where
    import_seen : Here site (t ∷ []) (body w.faults t (esc t) (import_rest w text)) t.span.end x
    import_seen = body_here site w.faults t (esc t) (import_local site w text (t ∷ []) t.span.end x)

    export_seen : Here site (t ∷ []) (body w.faults t (esc t) (export_clause w text h all (n + 1))) t.span.end x
    export_seen = body_here site w.faults t (esc t) (export_local site w text (n + 1) (t ∷ []) refl t.span.end x)

    cases : (C : Type 0) → (import_follows (t ∷ x) ≡ true → C) → (import_follows (t ∷ x) ≡ false → same t.kind Export ≡ true → C)
        → (import_follows (t ∷ x) ≡ false → same t.kind Export ≡ false → C) → C
    cases C f g k = elim (cases_Bool (import_follows (t ∷ x))) [
      | inl p ↦ f p
      | inr p ↦ elim (cases_Bool (same t.kind Export)) [ inl q ↦ g p q | inr q ↦ k p q ]
    ]

    stop_first : (f : Fault) → item w text h all n e (t ∷ x) ≡ stop f → Stop site e (t ∷ x) f
    unfolding next
    stop_first f p = cases (Stop site e (t ∷ x) f)
        (λ a. stop_of w text site t e import_seen (sym (import_is w text t h all n e x a) ∙ p))
        (λ a b. stop_of w text site t e export_seen (sym (export_is w text t h all n e x a b) ∙ p))
        (λ a b. stated_stop (h.statement all n) refl e (t ∷ x) f (sym (stated_is e (t ∷ x) a b) ∙ p))

    pub first_law : (i : Item) (fs : List Fault) (e' : ℕ) (m : List Token) → item w text h all n e (t ∷ x) ≡ got i fs e' m → First e t x i e' m
    unfolding next
    first_law i fs e' m p = cases (First e t x i e' m)
        (λ a. let q = sym (import_is w text t h all n e x a) ∙ p in
        first_of w text site t e import_seen q (crowded_tokens w.faults (t ∷ x) (add (esc t) (import_rest w text t.span.end x)) q))
        (λ a b. let q = sym (export_is w text t h all n e x a b) ∙ p in
        first_of w text site t e export_seen q (crowded_tokens w.faults (t ∷ x) (add (esc t) (export_clause w text h all (n + 1) t.span.end x)) q))
        (λ a b. stated_first (h.statement all n) refl e t x i fs e' m (sym (stated_is e (t ∷ x) a b) ∙ p))

    span_first : (i : Item) (fs : List Fault) (e' : ℕ) (m : List Token) → item w text h all n e (t ∷ x) ≡ got i fs e' m
        → span_of i.tokens ≡ record { start = t.span.start; end = e' }
    unfolding span_of last_end
    span_first i fs e' m p =
        let b = first_law i fs e' m p in
        let q : last_end t.span.end b.part ≡ e' = sym (b.taken.end ∙ ap (last_end e) b.begins) in
        ap span_of b.begins ∙ ap (λ y. record { start = t.span.start; end = y }) q

    pub shorter : (i : Item) (fs : List Fault) (e' : ℕ) (m : List Token) → item w text h all n e (t ∷ x) ≡ got i fs e' m → length m < length (t ∷ x)
    shorter i fs e' m p =
        let b = first_law i fs e' m p in
        omega (arith, ap length b.taken.is, length-append i.tokens m, ap length b.begins)

  pub stop_law : (e : ℕ) (ts : List Token) (f : Fault) → item w text h all n e ts ≡ stop f → Stop site e ts f
  stop_law e [] f p = stated_stop (h.statement all n) refl e [] f (sym (stated_is e [] not_import not_export) ∙ p)
  stop_law e (t ∷ x) f p = stop_first e t x f p

  taken_law : (e : ℕ) (ts : List Token) (i : Item) (fs : List Fault) (e' : ℕ) (m : List Token) → item w text h all n e ts ≡ got i fs e' m → Taken e ts i e' m
  taken_law e [] i fs e' m p = stated_taken (h.statement all n) e [] i fs e' m (sym (stated_is e [] not_import not_export) ∙ p)
  taken_law e (t ∷ x) i fs e' m p = (first_law e t x i fs e' m p).taken

pub no_import : (ts : List Token) → at Export ts ≡ true → import_follows ts ≡ false
unfolding import_follows
no_import ts h = and_left _ _ (seen Import (same_is (next ts).kind Export h) refl)

-- where no host is asked
module _ (w : Setting) (text : List ℕ) (t : Token) where
  -- an export that goes on with K wherever the next token is that of x
  free_is : (K : Reader Clause) (x : List Token) → same t.kind Export ≡ true
      → ((h : Host) (all : List Token) (n e : ℕ) (x' : List Token) → SameNext x x' → export_clause w text h all n e x' ≡ K e x')
      → (e : ℕ) (x' : List Token) → SameNext x x' → (h : Host) (all : List Token) (n : ℕ) → item w text h all n e (t ∷ x') ≡ body w.faults t (esc t) K t.span.end x'
  unfolding next
  free_is K x g k e x' s h all n =
      export_is w text t h all n e x' (sym (follows_same w text t s) ∙ no_import (t ∷ x) g) g
      ∙ ap (λ o. crowded w.faults (bind (add (esc t) o) (made (t ∷ x')))) (k h all (n + 1) t.span.end x' s)

  star_is : (x : List Token) → at Star x ≡ true → (h : Host) (all : List Token) (n e : ℕ) (x' : List Token) → SameNext x x' → export_clause w text h all n e x' ≡ export_all w text e x'
  unfolding export_clause test
  star_is x g h all n e x' s =
      let q : at Star x' ≡ true = ap (λ u. same u.kind Star) (sym (next_same s)) ∙ g in rw q refl

  braces_is : (x : List Token) → at LCurly x ≡ true → (h : Host) (all : List Token) (n e : ℕ) (x' : List Token) → SameNext x x' → export_clause w text h all n e x' ≡ export_braces w text e x'
  unfolding export_clause test
  braces_is x g h all n e x' s =
      let k : (next x').kind ≡ LCurly = ap (λ u. u.kind) (sym (next_same s)) ∙ same_is (next x).kind LCurly g in
      rw (seen Star k refl, seen LCurly k refl) refl

  import_stops : (x : List Token) → at Import x ≡ true → (h : Host) (all : List Token) (n e : ℕ) (x' : List Token) → SameNext x x' → export_clause w text h all n e x' ≡ stop_at Foreign e x'
  unfolding export_clause test
  import_stops x g h all n e x' s =
      let k : (next x').kind ≡ Import = ap (λ u. u.kind) (sym (next_same s)) ∙ same_is (next x).kind Import g in
      rw (seen Star k refl, seen LCurly k refl, seen Default k refl, seen Import k refl) refl

  module _ (h : Host) (all : List Token) (n e : ℕ) (x : List Token) (f : Fault) where
    alike_first : (K : Reader Clause)
        → ((x' : List Token) → SameNext x x' → (h : Host) (all : List Token) (n : ℕ) → item w text h all n e (t ∷ x') ≡ body w.faults t (esc t) K t.span.end x')
        → Here (site w text h all n) (t ∷ []) K t.span.end x → item w text h all n e (t ∷ x) ≡ stop f → SameStop w text (site w text h all n) e (t ∷ x) f
    alike_first K eqs s p = same_of w text (site w text h all n) t K e eqs (body_here (site w text h all n) w.faults t (esc t) s) (sym (eqs x (self x) h all n) ∙ p)

    pub alike_law : NoHost (t ∷ x) → item w text h all n e (t ∷ x) ≡ stop f → SameStop w text (site w text h all n) e (t ∷ x) f
    unfolding next rest
    alike_law (an_import a) p =
        alike_first (import_rest w text) (λ x' s h all n. import_is w text t h all n e x' (sym (follows_same w text t s) ∙ a)) (import_local (site w text h all n) w text (t ∷ []) t.span.end x) p
    alike_law (all_of b c) p =
        alike_first (export_all w text) (free_is (export_all w text) x b (star_is x c) e) (export_all_here (site w text h all n) w text (t ∷ []) t.span.end x c) p
    alike_law (some_of b c) p =
        alike_first (export_braces w text) (free_is (export_braces w text) x b (braces_is x c) e) (export_braces_here (site w text h all n) w text (t ∷ []) t.span.end x c) p
    alike_law (foreign b c) p =
        alike_first (stop_at Foreign) (free_is (stop_at Foreign) x b (import_stops x c) e) (here_stop_at (site w text h all n) Foreign (imports c)) p

asked : {C : Type 0} → NoHost [] → C
asked d = go d refl
  where
    go : {C : Type 0} {ts : List Token} → NoHost ts → ts ≡ [] → C
    go (an_import {ts = ts} a) q = clash not_import (subst (λ x. import_follows x ≡ true) q a)
    go (all_of b c) q = clash not_export (subst (λ x. at Export x ≡ true) q b)
    go (some_of b c) q = clash not_export (subst (λ x. at Export x ≡ true) q b)
    go (foreign b c) q = clash not_export (subst (λ x. at Export x ≡ true) q b)

pub lawful : LawsOfStops
lawful w text h all n = record { takes = taken_law w text h all n; spans = span_first w text h all n; stops = stop_law w text h all n; alike = go }
  where
    go : (e : ℕ) (ts : List Token) (f : Fault) → NoHost ts → item w text h all n e ts ≡ stop f → SameStop w text (record { host = h; all = all; first = n }) e ts f
    go e [] f d p = asked d
    go e (t ∷ x) f d p = alike_law w text t h all n e x f d p
