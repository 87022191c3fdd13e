use Rattle.std.proofs.Common.{length, string_bytes, ◌∙◌}
use Rattle.lexer.specs.Entries.{listed, ending_of}
use Rattle.lexer.specs.Records.{entries}
use Rattle.replay.specs.Shown.{list_lines}
use Rattle.replay.proofs.Listing.{made_as}
use Rattle.replay.proofs.tokens.file_lines.Goals as goal

pub returns : goal.returns
returns c =
    let bytes = c.new-file.ensures.bytes in
    let text = c.new-file.ensures.text in
    let ending = c.ending-ending.ensures ∙ (λ i. ending_of (entries (length (text i)) (bytes i))) in
    made_as (λ s. string_bytes s) c.list_lines.result _ _ c.list_lines.ensures (λ i. list_lines (listed (entries (length (text i)) (bytes i))) (ending i))
