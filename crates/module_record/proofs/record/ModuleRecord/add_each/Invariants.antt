use Rattle.std.proofs.Common.{◌≡◌, List, drop}
use Rattle.std.specs.Fn.{FnReturnsAt}
use Rattle.std.specs.List.{flat_map}
use Rattle.record_rules.specs.Filing.{Write, entering}
use Rattle.module_record.specs.Marking.{Makes}
use Rattle.module_record.proofs.record.ModuleRecord.add_each.Given as goal

abbrev pub invariant-loop-item : goal.invariant-loop-item
invariant-loop-item g l =
    (h : _ → List Write) → Makes (FnReturnsAt g.F.Fn l.row_of) h → entering (flat_map h (drop l.item-index l.items)) l.self ≡ entering (flat_map h l.items) l.initial.self
