-- Reading items: the whole token list, the number of the token come to, and what is left.
use Rattle.std.specs.Prelude.{ℕ, zero, suc, ◌+◌, List, [], ◌∷◌, length, take, drop, Ok, Err, Result}
use Rattle.kinds.specs.declared.kind.Kind.TheVariants.{Export}
use Rattle.lexer.specs.declared.token.Token.{Token}
use Rattle.pages.specs.declared.fault.FaultKind.TheVariants.{Full}
use Rattle.pages.specs.Faults.{fault_of_host}
use Rattle.reading.specs.Ahead.{at, span_here, import_follows}
use Rattle.reading.specs.Settings.{Setting}
use Rattle.reading.specs.Hosts.{Host}
use Rattle.reading.specs.Readings.{Clause, stated, Item, last_end, upto}
use Rattle.reading.specs.Steps.{Out, stop, got, Reader, stop_at, bind, test, crowded}
use Rattle.reading.specs.Imports.{importing}
use Rattle.reading.specs.Exports.{exporting}

-- the host's statement, by its answer
unfoldable pub stated_by : Result ℕ ℕ → Reader Clause
stated_by (Err c) e ts = stop (fault_of_host c (span_here e ts))
stated_by (Ok k) e ts = got stated [] (last_end e (take k ts)) (drop k ts)

-- one item's form
unfoldable pub clause : Setting → List ℕ → Host → List Token → ℕ → Reader Clause
clause w text h all n e ts =
    test (import_follows ts) (importing w text e ts)
    (test (at Export ts) (exporting w text h all n e ts)
    (stated_by (h.statement all n) e ts))

-- One item, with its tokens: what `read` puts on a page, with the faults drawn.
unfoldable pub item : Setting → List ℕ → Host → List Token → ℕ → Reader Item
item w text h all n e ts =
    crowded w.faults (bind (clause w text h all n e ts) λ c e₁ m. got (record { tokens = upto ts m; clause = c }) [] e₁ m)

-- Items up to the end, at most as many as there is room for.
unfoldable pub items : Setting → List ℕ → Host → List Token → ℕ → ℕ → Reader (List Item)
items w text h all room n e [] = got [] [] e []
items w text h all zero n e (t ∷ ts) = stop_at Full e (t ∷ ts)
items w text h all (suc room) n e (t ∷ ts) =
    bind (item w text h all n e (t ∷ ts)) λ i e₁ m.
    bind (items w text h all room (n + length i.tokens) e₁ m) λ is e₂ r. got (i ∷ is) [] e₂ r

-- The whole list. Every item takes a token, so there is room for all of them.
unfoldable pub read_all : Setting → List ℕ → Host → List Token → Out (List Item)
read_all w text h ts = items w text h ts (length ts) 0 0 ts
