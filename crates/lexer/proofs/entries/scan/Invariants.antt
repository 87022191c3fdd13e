use Rattle.std.proofs.Common.{length}
use Rattle.lexer.proofs.Listed.{Scanned}
use Rattle.lexer.proofs.entries.scan.Given as goal

abbrev pub invariant-loop-entry : goal.invariant-loop-entry
invariant-loop-entry g l = Scanned (g.E.Entries.entries l.initial.rest) (g.E.Entries.entries l.rest) l.count

abbrev pub decreases-loop-entry : goal.decreases-loop-entry
decreases-loop-entry g l = length (g.E.Entries.entries l.rest)
