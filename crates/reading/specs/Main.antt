-- What is shown of reading: it reads without a stop and without a fault exactly what the grammar has, and in one way.
use Rattle.std.specs.Prelude.{◌≡◌, ℕ, ◌≤◌, List, [], ◌∷◌, map, length}
use Rattle.lexer.specs.declared.token.Token.{Token}
use Rattle.pages.specs.declared.fault.Fault.{Fault}
use Rattle.pages.specs.Contents.{Content}
use Rattle.reading.specs.Settings.{Setting}
use Rattle.reading.specs.Hosts.{Host}
use Rattle.reading.specs.Readings.{Clause, Item, Fits, AllFit, content_of, upto, joined}
use Rattle.reading.specs.Grammar.{ItemClause, Module}
use Rattle.reading.specs.Steps.{Out, stop, got}
use Rattle.reading.specs.Braces.{TakesOne}
use Rattle.reading.specs.Attributes.{attribute}
use Rattle.reading.specs.Imports.{specifier}
use Rattle.reading.specs.Exports.{export_specifier}
use Rattle.reading.specs.Items.{item, read_all}

-- read without a stop and without a fault
pub record Cleanly {A : Type 0} (o : Out A) (a : A) (rest : List Token) : Type 0 where
  pub past : ℕ
  pub is : o ≡ got a [] past rest

-- no stop and no fault
pub record Clean {A : Type 0} (o : Out A) : Type 0 where
  pub value : A
  pub left : List Token
  pub is : Cleanly o value left

-- a reading that fits the tables of the pages
pub record Fitting (w : Setting) (text : List ℕ) (h : Host) (ts : List Token) : Type 0 where
  pub items : List Item
  pub reading : Module text h ts items
  pub fits : AllFit w items

-- the pages of what was read
abbrev pub pages_of : Out (List Item) → List Content
pages_of (stop f) = []
pages_of (got is fs e m) = map content_of is

-- no item is empty
abbrev pub NoneEmpty : List Item → Type 0
NoneEmpty [] = Unit {0}
NoneEmpty (i ∷ is) = (1 ≤ length i.tokens) × NoneEmpty is

-- Reading is exact: it gives no stop and no fault exactly where there is a reading that fits, and the pages are then
-- those of its items.
pub record Exact (text : List ℕ) (h : Host) (ts : List Token) : Type 0 where
  pub has_reading : (w : Setting) → Clean (read_all w text h ts) → Fitting w text h ts
  pub is_clean : (w : Setting) → Fitting w text h ts → Clean (read_all w text h ts)
  pub pages : (w : Setting) (f : Fitting w text h ts) → pages_of (read_all w text h ts) ≡ map content_of f.items
  -- and what is read is that reading
  pub sound : (w : Setting) (is : List Item) → Cleanly (read_all w text h ts) is [] → Module text h ts is × AllFit w is
  pub complete : (w : Setting) (is : List Item) → Module text h ts is → AllFit w is → Cleanly (read_all w text h ts) is []
  -- reading ends, unless by a stop, at the end only
  pub to_the_end : (w : Setting) (is : List Item) (fs : List Fault) (e : ℕ) (m : List Token) → read_all w text h ts ≡ got is fs e m → m ≡ []

abbrev pub Exactly : Type 0
Exactly = (text : List ℕ) (h : Host) (ts : List Token) → Exact text h ts

-- no token list has two readings under one host
abbrev pub OneReading : Type 0
OneReading = (text : List ℕ) (h : Host) (ts : List Token) (is js : List Item) → Module text h ts is → Module text h ts js → is ≡ js

-- the items of a reading, put together, are the whole list, and none is empty
abbrev pub Splits : Type 0
Splits = (text : List ℕ) (h : Host) (ts : List Token) (is : List Item) → Module text h ts is → (joined is ≡ ts) × NoneEmpty is

-- An item alone: a page without faults belongs to a clause of the grammar, and every such clause that fits gives one.
pub record ExactItem (w : Setting) (text : List ℕ) (h : Host) (all : List Token) (n e : ℕ) (t : Token) (ts : List Token) : Type 0 where
  pub sound : (i : Item) (m : List Token) → Cleanly (item w text h all n e (t ∷ ts)) i m → ItemClause text h all n (t ∷ ts) i.clause m × Fits w i.clause
  pub complete : (c : Clause) (m : List Token) → ItemClause text h all n (t ∷ ts) c m → Fits w c
      → Cleanly (item w text h all n e (t ∷ ts)) (record { tokens = upto (t ∷ ts) m; clause = c }) m

abbrev pub ExactlyItems : Type 0
ExactlyItems = (w : Setting) (text : List ℕ) (h : Host) (all : List Token) (n e : ℕ) (t : Token) (ts : List Token) → ExactItem w text h all n e t ts

-- each element of a brace list takes a token
pub record ElementsTakeOne : Type 0 where
  pub specifiers : TakesOne specifier
  pub exports : TakesOne export_specifier
  pub attributes : TakesOne attribute
