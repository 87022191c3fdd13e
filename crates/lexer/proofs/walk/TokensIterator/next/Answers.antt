use Rattle.std.proofs.Common.{length, sym, ap, ◌∙◌, rules}
use Rattle.lexer.specs.Entries.{is_eof}
use Rattle.lexer.proofs.Passing.{one_here, placed_more}
use Rattle.lexer.proofs.walk.TokensIterator.next.Goals as goal

pub returns-clause-steps : goal.returns-clause-steps
returns-clause-steps g c =
    let here = one_here _ (g.S.Source.alive c.args.self.now.source.now) _ (sym (ap is_eof c.look-token.ensures) ∙ sym c.if-eq.ensures) in
    placed_more _ _ _ (g.S.Source.orderly c.args.self.now.source.now) _ _ _ c.look-token.ensures here c.after-self.ensures

pub returns-clause-goes : goal.returns-clause-goes
returns-clause-goes g c = let e = ap length (returns-clause-steps g c) in search rules
