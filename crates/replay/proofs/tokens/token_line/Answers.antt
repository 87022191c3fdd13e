use Rattle.std.proofs.Common.{◌≡◌, string_bytes, append_assoc}
use Rattle.replay.specs.Shown.{line_of, token_line}
use Rattle.replay.proofs.Listing.{made_as}
use Rattle.replay.proofs.tokens.token_line.Goals as goal

pub returns : goal.returns
returns c =
    let same : line_of c.from-kind.result c.args.token.span c.args.token.text c.marks_of-marks.result ≡ token_line c.args.token =
    λ i. line_of (c.from-kind.ensures.value i) c.args.token.span c.args.token.text (c.marks_of-marks.ensures i) in
    made_as (λ s. string_bytes s) c.format.result _ _ c.format.ensures.ok (simp append_assoc same)
