use Rattle.std.proofs.Common.{◌∙◌}
use Rattle.frames.proofs.WriteBack.{hex_eight}
use Rattle.frames.proofs.write.hex_time.Goals as goal

pub returns : goal.returns
returns c = c.hex_text.ensures ∙ hex_eight c.args.time _ c.to_be_bytes.ensures
