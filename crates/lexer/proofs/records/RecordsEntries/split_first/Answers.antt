use Rattle.lexer.proofs.FourteenBytes.{splits}
use Rattle.lexer.proofs.records.RecordsEntries.split_first.Goals as goal

pub returns-in-Some : goal.returns-in-Some
returns-in-Some c = splits c.args.self.size c.args.self.bytes.now _ _ _ c.in-Some.ensures c.decode.ensures
