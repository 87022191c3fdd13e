use Rattle.std.proofs.Common.{Some, None, refl, lit<}
use Rattle.std.proofs.lemmas.Str.Pattern.{split_parts}
use Rattle.replay.proofs.lines.LinesIterator.next.Goals as goal

pub returns-clause-steps : goal.returns-clause-steps
returns-clause-steps c =
    let h = split_parts 10 c.args.self.now.rest.now (Some (c.in_ok-line.line, c.in_ok-line.rest)) c.in_ok-line.ensures.cases (lit< tt) in
    record { whole = h.0; unbroken = h.1 }

pub returns-in_err-line-clause-steps : goal.returns-in_err-line-clause-steps
returns-in_err-line-clause-steps c =
    rw c.from_residual.ensures (record { none = split_parts 10 c.args.self.now.rest.now None c.in_err-line.ensures.cases (lit< tt); same = refl })
