use Rattle.std.proofs.Common.{◌≡◌, ◌++◌, drop, string_bytes}
use Rattle.replay.specs.Shown.{placed_lines}
use Rattle.replay.proofs.tokens.token_lines.Given as goal

abbrev pub invariant-loop-placed : goal.invariant-loop-placed
invariant-loop-placed l = string_bytes l.lines ++ placed_lines (drop l.placed-index l.tokens) ≡ placed_lines l.tokens
