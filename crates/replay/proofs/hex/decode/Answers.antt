use Rattle.std.proofs.Common.{arith}
use Rattle.std.proofs.lemmas.Grind.{common_steps}
use Rattle.replay.proofs.Digits.{all_made}
use Rattle.replay.proofs.hex.decode.Goals as goal

pub returns : goal.returns
returns c = all_made (λ v. v.items) c.try_collect.result c.args.codes.now (grind (arith, common_steps)) (grind (arith, common_steps))
