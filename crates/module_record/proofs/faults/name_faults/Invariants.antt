use Rattle.std.proofs.Common.{◌≡◌, ◌-◌, ◌≤◌, ◌++◌, length, take, drop}
use Rattle.record_rules.specs.Closing.{repeats_from, repeats}
use Rattle.module_record.proofs.faults.name_faults.Given as goal

abbrev pub invariant-loop-i : goal.invariant-loop-i
invariant-loop-i l = record {
  faults : l.faults ++ repeats_from l.text l.names (take l.i l.names) (drop l.i l.names) ≡ repeats l.text l.names;
  few : length l.faults ≤ l.i - 1;
}
