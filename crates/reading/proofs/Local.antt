-- Readers by what they take and look at: what is taken stands at the front, and the answer hangs on nothing behind
-- the token come to.
use Rattle.std.proofs.Common.{◌≡◌, ℕ, Bool, true, false, leb, List, [], ◌∷◌, ◌++◌, length, sym, refl, ap, ◌∙◌, subst, append_assoc, inl, inr}
use Rattle.std.proofs.lemmas.Bool.{cases_Bool}
use Rattle.std.proofs.lemmas.List.{append-nil}
use Rattle.lexer.specs.declared.token.Token.{Token}
use Rattle.lexer.specs.declared.token.Span.{Span}
use Rattle.lexer.specs.Tokens.{ended}
use Rattle.pages.specs.declared.fault.Fault.{Fault}
use Rattle.pages.specs.declared.fault.FaultKind.{FaultKind}
use Rattle.pages.specs.declared.fault.FaultKind.TheVariants.{Full}
use Rattle.pages.specs.Faults.{fault_at}
use Rattle.reading.specs.Ahead.{next, rest, span_here}
use Rattle.reading.specs.Readings.{last_end}
use Rattle.reading.specs.Steps.{Out, stop, got, Reader, stop_at, add, bind, test, token, crowded}
use Rattle.reading.specs.Laws.{Site, SameNext, both_end, both_go_on, Opened, opened, Why, full}

-- the same next token
pub self : (ts : List Token) → SameNext ts ts
self [] = both_end
self (t ∷ ts) = both_go_on

pub extend : (xs : List Token) {m m' : List Token} → SameNext m m' → SameNext (xs ++ m) (xs ++ m')
extend [] s = s
extend (x ∷ xs) s = both_go_on

pub next_same : {m m' : List Token} → SameNext m m' → next m ≡ next m'
unfolding next
next_same both_end = refl
next_same both_go_on = refl

pub span_same : (e : ℕ) {m m' : List Token} → SameNext m m' → span_here e m ≡ span_here e m'
unfolding span_here
span_same e both_end = refl
span_same e both_go_on = refl

pub end_joined : (e : ℕ) (xs ys : List Token) → last_end e (xs ++ ys) ≡ last_end (last_end e xs) ys
unfolding last_end
end_joined e [] ys = refl
end_joined e (x ∷ xs) ys = end_joined x.span.end xs ys

pub opened_more : {front : List Token} {s : Span} (part : List Token) → Opened front s → Opened (front ++ part) s
opened_more part (opened a b o h) = subst (λ x. Opened x o.span) (sym (append_assoc a (o ∷ b) part)) (opened a (b ++ part) o h)

module _ (site : Site) where
  -- after the tokens `front`, the reader p answers o
  pub data Seen {A : Type 0} (front : List Token) (p : Reader A) (e : ℕ) : List Token → Out A → Type 0 where
    taken : (part m : List Token) {a : A} {fs : List Fault}
        → ((m' : List Token) → SameNext m m' → p e (part ++ m') ≡ got a fs (last_end e part) m')
        → Seen front p e (part ++ m) (got a fs (last_end e part) m)
    stopped : (part m : List Token) {f : Fault} → Why site (front ++ part) (last_end e part) m f
        → ((m' : List Token) → SameNext m m' → p e (part ++ m') ≡ stop f) → Seen front p e (part ++ m) (stop f)

  abbrev pub Here : {A : Type 0} → List Token → Reader A → ℕ → List Token → Type 0
  Here front p e ts = Seen front p e ts (p e ts)

  abbrev pub LocalAt : {A : Type 0} → List Token → Reader A → Type 0
  LocalAt front p = (e : ℕ) (ts : List Token) → Here front p e ts

  abbrev pub Local : {A : Type 0} → Reader A → Type 0
  Local p = (front : List Token) → LocalAt front p

  -- readers that answer alike wherever the next token is the same
  agree : {A : Type 0} {p q : Reader A} {front : List Token} {e : ℕ} {ts : List Token} {o : Out A}
      → ((x : List Token) → SameNext ts x → p e x ≡ q e x) → Seen front q e ts o → Seen front p e ts o
  agree h (taken part m same) = taken part m (λ m' s. h (part ++ m') (extend part s) ∙ same m' s)
  agree h (stopped part m why same) = stopped part m why (λ m' s. h (part ++ m') (extend part s) ∙ same m' s)

  pub as_other : {A : Type 0} {p : Reader A} (q : Reader A) {front : List Token} {e : ℕ} {ts : List Token}
      → ((x : List Token) → SameNext ts x → p e x ≡ q e x) → Here front q e ts → Here front p e ts
  as_other {p = p} q {front = front} {e = e} {ts = ts} h s = subst (λ o. Seen front p e ts o) (sym (h ts (self ts))) (agree h s)

  -- an answer with nothing taken
  pub local_got : {A : Type 0} (a : A) {front : List Token} → LocalAt front (λ e ts. got a [] e ts)
  unfolding last_end
  local_got a e ts = taken [] ts (λ m' s. refl)

  -- a stop at the token come to
  pub here_stop : {A : Type 0} {front : List Token} {e : ℕ} {ts : List Token} (F : ℕ → List Token → Fault)
      → ((m m' : List Token) → SameNext m m' → F e m ≡ F e m') → Why site front e ts (F e ts) → Here {A = A} front (λ e ts. stop (F e ts)) e ts
  unfolding last_end
  here_stop {front = front} {e = e} {ts = ts} F same why =
      stopped [] ts (subst (λ x. Why site x e ts (F e ts)) (sym (append-nil front)) why) (λ m' s. ap stop (sym (same ts m' s)))

  pub here_stop_at : {A : Type 0} {front : List Token} {e : ℕ} {ts : List Token} (k : FaultKind)
      → Why site front e ts (fault_at k (span_here e ts)) → Here {A = A} front (stop_at k) e ts
  unfolding stop_at
  here_stop_at {e = e} k why = here_stop (λ e ts. fault_at k (span_here e ts)) (λ m m' s. ap (fault_at k) (span_same e s)) why

  -- faults added
  pub here_add : {A : Type 0} (fs : List Fault) {p : Reader A} {front : List Token} {e : ℕ} {ts : List Token} {o : Out A}
      → Seen front p e ts o → Seen front (λ e ts. add fs (p e ts)) e ts (add fs o)
  unfolding add
  here_add fs (taken part m same) = taken part m (λ m' s. ap (add fs) (same m' s))
  here_add fs (stopped part m why same) = stopped part m why (λ m' s. ap (add fs) (same m' s))

  -- tests on the next token
  pub here_test : {A : Type 0} (b : Token → Bool) {p q : Reader A} {front : List Token} {e : ℕ} {ts : List Token}
      → (b (next ts) ≡ true → Here front p e ts) → (b (next ts) ≡ false → Here front q e ts)
      → Here front (λ e ts. test (b (next ts)) (p e ts) (q e ts)) e ts
  unfolding test
  here_test b {p = p} {q = q} {e = e} {ts = ts} f g = elim (cases_Bool (b (next ts))) [
    | inl h ↦ as_other p (λ x s. ap (λ v. test v (p e x) (q e x)) (ap b (sym (next_same s)) ∙ h)) (f h)
    | inr h ↦ as_other q (λ x s. ap (λ v. test v (p e x) (q e x)) (ap b (sym (next_same s)) ∙ h)) (g h)
  ]

  -- tests that are settled
  pub local_if : {A : Type 0} (b : Bool) {p q : Reader A} {front : List Token} → (b ≡ true → LocalAt front p) → (b ≡ false → LocalAt front q)
      → LocalAt front (λ e ts. test b (p e ts) (q e ts))
  unfolding test
  local_if true f g = f refl
  local_if false f g = g refl

  -- one step after another
  join : {A B : Type 0} (p : Reader A) (k : A → Reader B) {front : List Token} {e : ℕ} (part : List Token) {m : List Token} {a : A} {fs : List Fault} {o : Out B}
      → ((m' : List Token) → SameNext m m' → p e (part ++ m') ≡ got a fs (last_end e part) m') → Seen (front ++ part) (k a) (last_end e part) m o
      → Seen front (λ e ts. bind (p e ts) k) e (part ++ m) (add fs o)
  unfolding bind add
  join p k {e = e} part {fs = fs} same (taken part₂ m₂ {a = b} {fs = gs} same₂) =
      rw (← append_assoc part part₂ m₂, ← end_joined e part part₂)
      (taken (part ++ part₂) m₂ {a = b} {fs = fs ++ gs} (λ m' s. rw (append_assoc part part₂ m', same (part₂ ++ m') (extend part₂ s), same₂ m' s, end_joined e part part₂) refl))
  join p k {front = front} {e = e} part same (stopped part₂ m₂ {f = f} why same₂) =
      rw (← append_assoc part part₂ m₂)
      (stopped (part ++ part₂) m₂ {f = f} (rw (end_joined e part part₂, ← append_assoc front part part₂) why)
      (λ m' s. rw (append_assoc part part₂ m', same (part₂ ++ m') (extend part₂ s), same₂ m' s) refl))

  -- with what is known of the tokens that are left then
  pub after_to : {A B : Type 0} {p : Reader A} {k : A → Reader B} {front : List Token} {e : ℕ} {ts : List Token} {o : Out A} (Q : List Token → Type 0)
      → ((a : A) (fs : List Fault) (e' : ℕ) (m : List Token) → p e ts ≡ got a fs e' m → Q m) → Seen front p e ts o
      → ((a : A) (part : List Token) (e : ℕ) (m : List Token) → Q m → Here (front ++ part) (k a) e m) → Seen front (λ e ts. bind (p e ts) k) e ts (bind o k)
  unfolding bind
  after_to {p = p} {k = k} {e = e} Q post (taken part m {a = a} {fs = fs} same) l = join p k part same (l a part (last_end e part) m (post a fs (last_end e part) m (same m (self m))))
  after_to {k = k} Q post (stopped part m why same) l = stopped part m why (λ m' s. ap (λ x. bind x k) (same m' s))

  pub after : {A B : Type 0} {p : Reader A} {k : A → Reader B} {front : List Token} {e : ℕ} {ts : List Token}
      → Here front p e ts → ((a : A) (part : List Token) → LocalAt (front ++ part) (k a)) → Here front (λ e ts. bind (p e ts) k) e ts
  after s l = after_to (λ _. Unit {0}) (λ a fs e' m _. tt) s (λ a part e m _. l a part e m)

  -- one token
  module _ (k : FaultKind) (p : Token → Bool) (w : Token → List Fault) (none : p ended ≡ false) where
    token_is : (t : Token) (e : ℕ) (x : List Token) → p t ≡ true → token k p w e (t ∷ x) ≡ got t (w t) t.span.end x
    unfolding token test next rest
    token_is t e x h = rw h refl

    no_token : {B : Type 0} (K : Token → Reader B) {front : List Token} (e : ℕ) (ts : List Token)
        → p (next ts) ≡ false → Why site front e ts (fault_at k (span_here e ts)) → Here front (λ e ts. bind (token k p w e ts) K) e ts
    unfolding token test bind stop_at
    no_token {B = B} K e ts h y = as_other (stop_at {A = B} k) (λ x s. rw (ap p (sym (next_same s)) ∙ h) refl) (here_stop_at k y)

    -- and what follows it
    pub after_token : {B : Type 0} {K : Token → Reader B} {front : List Token} (e : ℕ) (ts : List Token)
        → (p (next ts) ≡ false → Why site front e ts (fault_at k (span_here e ts))) → ((t : Token) → p t ≡ true → LocalAt (front ++ (t ∷ [])) (K t))
        → Here front (λ e ts. bind (token k p w e ts) K) e ts
    unfolding next last_end bind
    after_token {K = K} e [] why l = no_token K e [] none (why none)
    after_token {K = K} {front = front} e (t ∷ ts) why l = elim (cases_Bool (p t)) [
      | inl h ↦ subst (λ o. Seen front (λ e ts. bind (token k p w e ts) K) e (t ∷ ts) o) (ap (λ o. bind o K) (sym (token_is t e ts h)))
          (join (token k p w) K (t ∷ []) (λ m' s. token_is t e m' h) (l t h t.span.end ts))
      | inr h ↦ no_token K e (t ∷ ts) h (why h)
    ]

    -- alone
    alone : (o : Out Token) → bind o (λ t e ts. got t [] e ts) ≡ o
    unfolding bind add
    alone (stop f) = refl
    alone (got t fs e m) = ap (λ gs. got t gs e m) (append-nil fs)

    pub here_token : {front : List Token} (e : ℕ) (ts : List Token) → (p (next ts) ≡ false → Why site front e ts (fault_at k (span_here e ts))) → Here front (token k p w) e ts
    here_token e ts why = as_other (λ e ts. bind (token k p w e ts) (λ t e ts. got t [] e ts)) (λ x s. sym (alone (token k p w e x))) (after_token e ts why (λ t h. local_got t))

  -- too many faults
  pub local_crowded : {A : Type 0} (room : ℕ) {p : Reader A} {front : List Token} {e : ℕ} {ts : List Token} {o : Out A}
      → Seen front p e ts o → Seen front (λ e ts. crowded room (p e ts)) e ts (crowded room o)
  unfolding crowded test stop_at
  local_crowded room (stopped part m why same) = stopped part m why (λ m' s. ap (crowded room) (same m' s))
  local_crowded room {p = p} {front = front} {e = e} (taken part m {a = a} {fs = fs} same) = elim (cases_Bool (leb (length fs) room)) [
    | inl h ↦
        let u : (m : List Token) → crowded room (got a fs (last_end e part) m) ≡ got a fs (last_end e part) m = λ m. rw h refl in
        subst (λ o. Seen front (λ e ts. crowded room (p e ts)) e (part ++ m) o) (sym (u m)) (taken part m (λ m' s. ap (crowded room) (same m' s) ∙ u m'))
    | inr h ↦
        let u : (m : List Token) → crowded room (got a fs (last_end e part) m) ≡ stop (fault_at Full (span_here (last_end e part) m)) = λ m. rw h refl in
        subst (λ o. Seen front (λ e ts. crowded room (p e ts)) e (part ++ m) o) (sym (u m))
        (stopped part m full (λ m' s. ap (crowded room) (same m' s) ∙ u m' ∙ ap (λ x. stop (fault_at Full x)) (sym (span_same (last_end e part) s))))
  ]
