use Rattle.std.proofs.Common.{◌≡◌, ◌+◌, ◌∷◌, Err, sym, ap, ◌∙◌, arith}
use Rattle.lexer.proofs.Listed.{Scanned, begins, meets_bad, goes_on, listed_le}
use Rattle.lexer.proofs.entries.scan.Given.{Over}
use Rattle.lexer.proofs.entries.scan.Goals as goal
use Rattle.lexer.proofs.entries.scan.Goals.{Else-eq, In-Err}

pub loop-entry-init : goal.loop-entry-init
loop-entry-init g c = begins _

-- the entry come to, and those after it
bad_next : (g : Over) (c : In-Err g) → g.E.Entries.entries c.loop-entry.rest ≡ Err c.in-Err.broken ∷ g.E.Entries.entries c.in-Some.after
bad_next g c = c.in-Some.ensures ∙ ap (λ e. e ∷ g.E.Entries.entries c.in-Some.after) c.in-Err.is

pub overflow_add-count : goal.overflow_add-count
overflow_add-count g c = omega (arith, (meets_bad _ _ _ _ c.loop-entry.invariant c.in-Err.broken (bad_next g c)).counted, listed_le (g.E.Entries.entries c.args.entries))

next_scanned : (g : Over) (c : Else-eq g) → Scanned (g.E.Entries.entries c.args.entries) (g.E.Entries.entries c.in-Some.after) (c.loop-entry.count + 1)
next_scanned g c = goes_on _ _ _ _ c.loop-entry.invariant c.in-Ok.token (c.in-Some.ensures ∙ ap (λ e. e ∷ g.E.Entries.entries c.in-Some.after) c.in-Ok.is) (sym c.if-eq.ensures)

pub overflow_add-count-in-Some : goal.overflow_add-count-in-Some
overflow_add-count-in-Some g c = omega (arith, (next_scanned g c).count, listed_le (g.E.Entries.entries c.args.entries))
