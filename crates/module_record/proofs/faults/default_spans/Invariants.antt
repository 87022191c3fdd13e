use Rattle.std.proofs.Common.{◌≡◌, ◌≤◌, ◌++◌, length, drop}
use Rattle.record_rules.specs.Closing.{defaults_of}
use Rattle.module_record.proofs.faults.default_spans.Given as goal

abbrev pub invariant-loop-row : goal.invariant-loop-row
invariant-loop-row l = record {
  spans : l.spans ++ defaults_of l.text (drop l.row-index l.row-items) ≡ defaults_of l.text l.row-items;
  few : length l.spans ≤ l.row-index;
}
