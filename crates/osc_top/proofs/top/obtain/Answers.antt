use Rattle.std.proofs.Common.{arith}
use Rattle.std.specs.Prelude.{◌≢◌}
use Rattle.osc_cli.specs.declared.task.Mode.TheVariants.{Gen}
use Rattle.osc_top.proofs.Files.{Obtains-loads}
use Rattle.osc_top.proofs.top.obtain.Goals as goal

pub returns-in-Run : goal.returns-in-Run
returns-in-Run g c =
    let reads : c.args.task.now.mode ≢ Gen = grind (arith, c.in-Run.is) in
    record {
      later = c.load.ensures.later;
      kept = c.load.ensures.kept;
      obtains = Obtains-loads _ _ _ _ _ reads c.load.ensures.loads;
    }
