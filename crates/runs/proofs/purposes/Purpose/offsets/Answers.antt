use Rattle.std.proofs.Common.{sym, subst}
use Rattle.std.proofs.ByRecursion.{All-get_or}
use Rattle.runs.specs.Purposes.{offsets_of, Windowed}
use Rattle.runs.proofs.Windows.{every_window}
use Rattle.runs.proofs.purposes.Purpose.offsets.Goals as goal

pub returns : goal.returns
returns c =
    record {
      row = c.row_at.ensures;
      window = subst Windowed (sym c.row_at.ensures) (All-get_or Windowed offsets_of c.args.self.row (0, 0) c.args.self.within every_window);
    }
