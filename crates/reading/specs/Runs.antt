-- A run of items: one reading of an item after another, from the token n of the whole list on, as far as it goes.
use Rattle.std.specs.Prelude.{◌≡◌, ℕ, ◌+◌, List, [], ◌∷◌, ◌++◌, map, length}
use Rattle.lexer.specs.declared.token.Token.{Token}
use Rattle.pages.specs.declared.fault.Fault.{Fault}
use Rattle.reading.specs.Settings.{Setting}
use Rattle.reading.specs.Hosts.{Host}
use Rattle.reading.specs.Readings.{Item, AllFit}
use Rattle.reading.specs.Steps.{got}
use Rattle.reading.specs.Items.{item, read_all}
use Rattle.reading.specs.Grammar.{Items}

-- an item as it comes to a page, with the faults that it draws
pub record Paged : Type 0 where
  pub item : Item
  pub faults : List Fault

abbrev pub items_of : List Paged → List Item
items_of ps = map (λ p. p.item) ps

abbrev pub faults_of : List Paged → List Fault
faults_of [] = []
faults_of (p ∷ ps) = p.faults ++ faults_of ps

abbrev pub clean : Item → Paged
clean i = record { item = i; faults = [] }

-- From the token n on, after a token that ends at e: what is read of ts, the end of the last token taken, what is left.
pub data Run (w : Setting) (text : List ℕ) (h : Host) (all : List Token) : ℕ → ℕ → List Token → List Paged → ℕ → List Token → Type 0 where
  stays : {n e : ℕ} {ts : List Token} → Run w text h all n e ts [] e ts
  goes : {n e e₁ e₂ : ℕ} {t : Token} {ts m rest : List Token} {i : Item} {fs : List Fault} {ps : List Paged}
      → item w text h all n e (t ∷ ts) ≡ got i fs e₁ m → Run w text h all (n + length i.tokens) e₁ m ps e₂ rest
      → Run w text h all n e (t ∷ ts) (record { item = i; faults = fs } ∷ ps) e₂ rest

pub record Clearly (w : Setting) (text : List ℕ) (h : Host) (all : List Token) (n e : ℕ) (ts : List Token) (is : List Item) (rest : List Token) : Type 0 where
  pub past : ℕ
  pub run : Run w text h all n e ts (map clean is) past rest

-- A run without faults is what the grammar has, as far as it goes; a run to the end is the reading of the whole list.
pub record ExactRuns (w : Setting) (text : List ℕ) (h : Host) (all : List Token) : Type 0 where
  pub sound : (n e : ℕ) (ts : List Token) (ps : List Paged) (e' : ℕ) (rest : List Token) → Run w text h all n e ts ps e' rest → faults_of ps ≡ []
      → Items text h all n ts (items_of ps) rest × AllFit w (items_of ps)
  pub complete : (n e : ℕ) (ts : List Token) (is : List Item) (rest : List Token) → Items text h all n ts is rest → AllFit w is
      → Clearly w text h all n e ts is rest
  pub whole : (ps : List Paged) (e : ℕ) → Run w text h all 0 0 all ps e [] → read_all w text h all ≡ got (items_of ps) (faults_of ps) e []

abbrev pub ExactlyRuns : Type 0
ExactlyRuns = (w : Setting) (text : List ℕ) (h : Host) (all : List Token) → ExactRuns w text h all
