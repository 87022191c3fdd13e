use Rattle.std.proofs.Common.{◌∙◌, rules, tests}
use Rattle.std.proofs.lemmas.Iterator.{YieldsList-from_slice}
use Rattle.std.proofs.lemmas.Iterator.Search.{find_from_yields_List}
use Rattle.record_rules.specs.Closing.{same_text}
use Rattle.module_record.proofs.settling.Imports.find.Goals as goal

pub returns : goal.returns
returns c =
    c.copied.ensures
    ∙ find_from_yields_List (λ row. same_text c.args.self.now.text.now row.local.text c.args.name) _ _ _ c.find.ensures.ran (YieldsList-from_slice c.args.self.now.rows.now cc) (λ x b q k. search (rules, tests))
