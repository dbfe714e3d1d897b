use Rattle.std.proofs.Common.{refl}
use Rattle.frames.specs.declared.request.Request.TheVariants.{Close}
use Rattle.frames.proofs.WriteBack.{written}
use Rattle.frames.proofs.write.write_close.Goals as goal

pub returns : goal.returns
returns c = written Close _ c.args.buffer.now _ _ tt refl c.write_frame.ensures
