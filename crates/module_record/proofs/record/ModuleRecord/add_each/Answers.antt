use Rattle.std.proofs.Common.{refl}
use Rattle.std.proofs.iter.Next.{says_at}
use Rattle.std.proofs.lemmas.Result.{err_from_is_err_and}
use Rattle.std.specs.List.{flat_map}
use Rattle.record_rules.specs.Filing.{entering}
use Rattle.module_record.proofs.Enters.{item_went, item_stuck}
use Rattle.module_record.proofs.record.ModuleRecord.add_each.Goals as goal

pub returns-in_err-add : goal.returns-in_err-add
returns-in_err-add g c = λ h m.
    let made = m _ _ (says_at g.F.Fn c.row_of.ensures refl) in
    let p = err_from_is_err_and c.from_residual.result c.from_residual.ensures.1 in
    rw p.1 (item_stuck h _ _ _ _ _ _ c.loop-item-test.true c.item-item.is made (entering (flat_map h c.args.items.now) c.args.self.now) (c.loop-item.invariant h m) c.in_err-add.ensures)

pub loop-item-preserved : goal.loop-item-preserved
loop-item-preserved g c = λ h m.
    let made = m _ _ (says_at g.F.Fn c.row_of.ensures refl) in
    item_went h _ _ _ _ _ _ c.loop-item-test.true c.item-item.is made (entering (flat_map h c.args.items.now) c.args.self.now) (c.loop-item.invariant h m) c.in_ok-add.ensures
