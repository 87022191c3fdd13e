-- Whole modules.
use Rattle.std.proofs.Common.{◌≡◌, ℕ, zero, suc, ◌+◌, ◌≤◌, true, false, List, [], ◌∷◌, ◌++◌, length, Ok, Err, Result, sym, refl, ap, ◌∙◌, append_assoc, arith}
use Rattle.std.proofs.lemmas.List.{append-nil}
use Rattle.std.proofs.lemmas.Bool.{le-leb}
use Rattle.kinds.specs.declared.kind.Kind.TheVariants.{Export}
use Rattle.lexer.specs.declared.token.Token.{Token}
use Rattle.pages.specs.declared.fault.Fault.{Fault}
use Rattle.pages.specs.declared.fault.FaultKind.TheVariants.{Full}
use Rattle.reading.specs.Ahead.{at, import_follows}
use Rattle.reading.specs.Settings.{Setting}
use Rattle.reading.specs.Hosts.{Host}
use Rattle.reading.specs.Readings.{Clause, Item, upto, Fits, AllFit, specifiers_in, names_in, attributes_in, joined}
use Rattle.reading.specs.Grammar.{one, ItemClause, an_import, an_export, a_statement, Items, no_items, an_item, Module}
use Rattle.reading.specs.Steps.{Out, stop, got, stop_at, crowded, ending}
use Rattle.reading.specs.Attributes.{attributes}
use Rattle.reading.specs.Imports.{form, importing}
use Rattle.reading.specs.Exports.{exporting}
use Rattle.reading.specs.Items.{stated_by, clause, item, items, read_all}
use Rattle.reading.specs.Main.{Cleanly, Exactly, NoneEmpty, OneReading, Splits, ExactlyItems, Clean, Fitting, pages_of}
use Rattle.reading.proofs.Clean.{took, takes, bound_of, binds, tested, passes, fails, stopped, stopped_at, done, ends, never, bound_got}
use Rattle.reading.proofs.OfKinds.{import_right, export_right, word_at}
use Rattle.reading.proofs.Forms.{form_sound, form_complete}
use Rattle.reading.proofs.Attrs.{attributes_sound, attributes_complete, end_sound, end_complete}
use Rattle.reading.proofs.OfExports.{export_sound, export_complete}
use Rattle.reading.proofs.OfLaws.{first_law, shorter, no_import}

-- an item is not read of nothing
pub some_left : {text : List ℕ} {h : Host} {all : List Token} {n : ℕ} {ts rest : List Token} {c : Clause} → ItemClause text h all n ts c rest → ts ≡ [] → ⊥
some_left (an_import f (one v) c a d) e = cc
some_left (an_export (one v) c) e = cc
some_left (a_statement i x q) e = cc

-- the limit of faults
uncrowded : {A : Type 0} (room : ℕ) (o : Out A) {a : A} {r : List Token} → Cleanly (crowded room o) a r → Cleanly o a r
unfolding crowded
uncrowded room (stop f) y = stopped y
uncrowded room (got a fs e m) y = tested y (λ _ y₁. y₁) (λ _ y₁. stopped_at Full e m y₁)

clean_fits : {A : Type 0} (room : ℕ) {o : Out A} {a : A} {r : List Token} → Cleanly o a r → Cleanly (crowded room o) a r
unfolding crowded
clean_fits room y = rw y.is (passes _ (le-leb 0 room (omega arith)) (record { past = y.past; is = refl }))

module _ (w : Setting) (text : List ℕ) (h : Host) (all : List Token) where
  abbrev Fit : ℕ → List Token → Clause → List Token → Type 0
  Fit n ts c rest = ItemClause text h all n ts c rest × Fits w c

  import_sound : (n e : ℕ) (ts : List Token) {c : Clause} {rest : List Token} → import_follows ts ≡ true → Cleanly (importing w text e ts) c rest → Fit n ts c rest
  unfolding importing
  import_sound n e ts f y =
      took e ts import_right y λ k e₁ m v y₁. bound_of (form w e₁ m) y₁ λ g e₂ o z y₂. bound_of (attributes w text e₂ o) y₂ λ l e₃ p z' y₃.
      bound_of (ending e₃ p) y₃ λ d e₄ q z'' y₄.
      let r = form_sound w e₁ m z in let r' = attributes_sound w text e₂ o z' in
      done (Fit n ts) y₄ (λ _. (an_import f v r.0 r'.0 (end_sound e₃ p z''), record { specifiers = r.1; names = omega arith; attributes = r'.1 }))

  stated_sound : (a : Result ℕ ℕ) (n e : ℕ) (t : Token) (ts : List Token) {c : Clause} {rest : List Token}
      → import_follows (t ∷ ts) ≡ false → at Export (t ∷ ts) ≡ false → h.statement all n ≡ a → Cleanly (stated_by a e (t ∷ ts)) c rest → Fit n (t ∷ ts) c rest
  unfolding stated_by
  stated_sound (Err c) n e t ts i x q y = stopped y
  stated_sound (Ok k) n e t ts i x q y =
      done (Fit n (t ∷ ts)) y (λ _. (a_statement i x q, record { specifiers = omega arith; names = omega arith; attributes = omega arith }))

  clause_sound : (n e : ℕ) (t : Token) (ts : List Token) {c : Clause} {rest : List Token} → Cleanly (clause w text h all n e (t ∷ ts)) c rest → Fit n (t ∷ ts) c rest
  unfolding clause exporting
  clause_sound n e t ts y = tested y (λ f y₁. import_sound n e (t ∷ ts) f y₁)
      (λ i y₁. tested y₁
      (λ _ y₂. took e (t ∷ ts) export_right y₂ λ k e₁ m v y₃. let r = export_sound w text h all (n + 1) e₁ m y₃ in (an_export v r.0, r.1))
      (λ x y₂. stated_sound _ n e t ts i x refl y₂))

  clause_complete : (n e : ℕ) {ts : List Token} {c : Clause} {rest : List Token} → ItemClause text h all n ts c rest → Fits w c → Cleanly (clause w text h all n e ts) c rest
  unfolding clause importing exporting stated_by
  clause_complete n e (an_import f v c a d) q = passes _ f (takes e _ import_right v λ e₁. binds _ (form_complete w e₁ c q.specifiers) λ e₂.
      binds _ (attributes_complete w text e₂ a q.attributes) λ e₃. binds _ (end_complete e₃ d) λ e₄. ends)
  clause_complete n e (an_export v c) q = fails _ (no_import _ (word_at Export v refl)) (passes _ (word_at Export v refl) (takes e _ export_right v λ e₁.
      export_complete w text h all (n + 1) e₁ c q))
  clause_complete n e (a_statement i x q) u = fails _ i (fails _ x (rw q ends))

  pub data Reads (n : ℕ) (ts : List Token) : Item → List Token → Type 0 where
    reads : {c : Clause} {rest : List Token} → ItemClause text h all n ts c rest → Fits w c → Reads n ts (record { tokens = upto ts rest; clause = c }) rest

  pub item_sound : (n e : ℕ) (t : Token) (ts : List Token) {i : Item} {rest : List Token} → Cleanly (item w text h all n e (t ∷ ts)) i rest → Reads n (t ∷ ts) i rest
  unfolding item
  item_sound n e t ts y = bound_of (clause w text h all n e (t ∷ ts)) (uncrowded w.faults _ y) λ c e₁ m z y₁.
      let r = clause_sound n e t ts z in done (Reads n (t ∷ ts)) y₁ (λ _. reads r.0 r.1)

  pub item_complete : (n e : ℕ) {ts : List Token} {c : Clause} {rest : List Token} → ItemClause text h all n ts c rest → Fits w c
      → Cleanly (item w text h all n e ts) (record { tokens = upto ts rest; clause = c }) rest
  unfolding item
  item_complete n e c q = clean_fits w.faults (binds _ (clause_complete n e c q) λ e₁. ends)

  -- items
  abbrev Run : ℕ → List Token → List Item → List Token → Type 0
  Run n ts is rest = Items text h all n ts is rest × AllFit w is

  pub after : {n : ℕ} {ts m rest : List Token} {i : Item} {is : List Item} → Reads n ts i m → Run (n + length i.tokens) m is rest → Run n ts (i ∷ is) rest
  after (reads c q) d = (an_item c d.0, (q, d.1))

  items_sound : (room n e : ℕ) (ts : List Token) {is : List Item} {rest : List Token} → Cleanly (items w text h all room n e ts) is rest → Run n ts is rest
  unfolding items
  items_sound room n e [] y = done (Run n []) y (λ _. (no_items, tt))
  items_sound zero n e (t ∷ ts) y = stopped_at Full e (t ∷ ts) y
  items_sound (suc room) n e (t ∷ ts) y =
      bound_of (item w text h all n e (t ∷ ts)) y λ i e₁ m z y₁. bound_of (items w text h all room (n + length i.tokens) e₁ m) y₁ λ is e₂ q z' y₂.
      done (Run n (t ∷ ts)) y₂ (λ _. after (item_sound n e t ts z) (items_sound room (n + length i.tokens) e₁ m z'))

  items_complete : (room n e : ℕ) (ts : List Token) {is : List Item} → Items text h all n ts is [] → AllFit w is → length ts ≤ room
      → Cleanly (items w text h all room n e ts) is []
  unfolding items
  items_complete room n e [] no_items f l = ends
  items_complete room n e [] (an_item c d) f l = absurd (some_left c refl)
  items_complete zero n e (t ∷ ts) d f l = absurd (omega arith)
  items_complete (suc room) n e (t ∷ ts) (an_item {m = m} c d) f l =
      let y = item_complete n e c f.0 in
      let s = shorter w text h all n e t ts _ [] y.past m y.is in
      binds _ y λ e₁. binds _ (items_complete room (n + length (upto (t ∷ ts) m)) e₁ m d f.1 (omega arith)) λ e₂. ends

  -- reading ends at the end
  items_end : (room n e : ℕ) (ts : List Token) {is : List Item} {fs : List Fault} {e' : ℕ} {m : List Token} → items w text h all room n e ts ≡ got is fs e' m → m ≡ []
  unfolding items stop_at
  items_end room n e [] p = cc
  items_end zero n e (t ∷ ts) p = never (sym p)
  items_end (suc room) n e (t ∷ ts) p = bound_got (item w text h all n e (t ∷ ts)) _ p λ i _ e₁ m _ _ p₁.
      bound_got (items w text h all room (n + length i.tokens) e₁ m) _ p₁ λ _ _ _ r _ q p₂. let z = items_end room (n + length i.tokens) e₁ m q in cc

-- every reading fits some tables
abbrev needs : Clause → ℕ
needs c = length (specifiers_in c) + (length (names_in c) + length (attributes_in c))

abbrev needed : List Item → ℕ
needed [] = 2
needed (i ∷ is) = needs i.clause + needed is

needed_two : (is : List Item) → 2 ≤ needed is
needed_two [] = omega arith
needed_two (i ∷ is) = omega (arith, needed_two is)

wide : (n : ℕ) → 2 ≤ n → Setting
wide n h = record { names = n; attributes = n; faults = 0; two = h }

fit : (c : Clause) (n : ℕ) (h : 2 ≤ n) → needs c ≤ n → Fits (wide n h) c
unfolding wide
fit c n h l = record { specifiers = omega arith; names = omega arith; attributes = omega arith }

all_fit : (is : List Item) (n : ℕ) (h : 2 ≤ n) → needed is ≤ n → AllFit (wide n h) is
all_fit [] n h l = tt
all_fit (i ∷ is) n h l = (fit i.clause n h (omega arith), all_fit is n h (omega arith))

-- an item takes a token at least, and what it takes stands at the front
front : {text : List ℕ} {h : Host} {all : List Token} {n : ℕ} {ts rest : List Token} {c : Clause}
    → ItemClause text h all n ts c rest → (ts ≡ upto ts rest ++ rest) × (1 ≤ length (upto ts rest))
front {ts = []} c = absurd (some_left c refl)
front {text = text} {h = h} {all = all} {n = n} {ts = t ∷ x} {rest = rest} {c = c} d =
    let w : Setting = wide (2 + needs c) (omega arith) in
    let y = item_complete w text h all n 0 d (fit c (2 + needs c) (omega arith) (omega arith)) in
    let k = first_law w text h all n 0 t x _ [] y.past rest y.is in (k.taken.is, omega (arith, ap length k.begins))

all_joined : {text : List ℕ} {h : Host} {all : List Token} {n : ℕ} {ts rest : List Token} {is : List Item}
    → Items text h all n ts is rest → (joined is ++ rest ≡ ts) × NoneEmpty is
all_joined no_items = (refl, tt)
all_joined {ts = ts} {rest = rest} (an_item {m = m} {is = is} c d) =
    let k = front c in
    let p = all_joined d in
    (append_assoc (upto ts m) (joined is) rest ∙ ap (λ x. upto ts m ++ x) p.0 ∙ sym k.0, (k.1, p.1))

full : (w : Setting) (text : List ℕ) (h : Host) (ts : List Token) (is : List Item) → Module text h ts is → AllFit w is → Cleanly (read_all w text h ts) is []
unfolding read_all
full w text h ts is d f = items_complete w text h ts (length ts) 0 0 ts d f (omega arith)

to_end : (w : Setting) (text : List ℕ) (h : Host) (ts : List Token) (is : List Item) (fs : List Fault) (e : ℕ) (m : List Token) → read_all w text h ts ≡ got is fs e m → m ≡ []
unfolding read_all
to_end w text h ts is fs e m p = items_end w text h ts (length ts) 0 0 ts p

read_sound : (w : Setting) (text : List ℕ) (h : Host) (ts : List Token) (is : List Item) → Cleanly (read_all w text h ts) is [] → Module text h ts is × AllFit w is
unfolding read_all
read_sound w text h ts is y = items_sound w text h ts (length ts) 0 0 ts y

has : (w : Setting) (text : List ℕ) (h : Host) (ts : List Token) → Clean (read_all w text h ts) → Fitting w text h ts
has w text h ts c =
    let z : c.left ≡ [] = to_end w text h ts c.value [] c.is.past c.left c.is.is in
    let y = read_sound w text h ts c.value (record { past = c.is.past; is = c.is.is ∙ ap (λ m. got c.value [] c.is.past m) z }) in
    record { items = c.value; reading = y.0; fits = y.1 }

pub exact : Exactly
exact text h ts = record {
  has_reading = λ w c. has w text h ts c;
  is_clean = λ w f. record { value = f.items; left = []; is = full w text h ts f.items f.reading f.fits };
  pages = λ w f. ap pages_of (full w text h ts f.items f.reading f.fits).is;
  sound = λ w is y. read_sound w text h ts is y;
  complete = λ w is d f. full w text h ts is d f;
  to_the_end = λ w is fs e m p. to_end w text h ts is fs e m p;
}

clause_of : {w : Setting} {text : List ℕ} {h : Host} {all : List Token} {n : ℕ} {ts rest : List Token} {i : Item}
    → Reads w text h all n ts i rest → ItemClause text h all n ts i.clause rest × Fits w i.clause
clause_of (reads c f) = (c, f)

pub exact_items : ExactlyItems
exact_items w text h all n e t ts = record {
  sound = λ i m y. clause_of (item_sound w text h all n e t ts y);
  complete = λ c m d f. item_complete w text h all n e d f;
}

pub only : OneReading
only text h ts is js d d' =
    let n = needed is + needed js in
    let l : 2 ≤ n = omega (arith, needed_two is) in
    let p = (full (wide n l) text h ts is d (all_fit is n l (omega arith))).is in
    let q = (full (wide n l) text h ts js d' (all_fit js n l (omega arith))).is in cc

pub splits : Splits
splits text h ts is d = let p = all_joined d in (sym (append-nil (joined is)) ∙ p.0, p.1)
