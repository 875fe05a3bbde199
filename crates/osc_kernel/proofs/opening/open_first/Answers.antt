-- The first process has its pages.
use Rattle.std.proofs.Common.{sym, ap, ◌∙◌, subst, ◌≡◌}
use Rattle.osc_calls.specs.Open.{all_pages, first_process}
use Rattle.osc_open.specs.Laying.{pages_of}
use Rattle.osc_process.specs.Parts.{with_tables}
use Rattle.osc_kernel.specs.Sound.{IsSized}
use Rattle.osc_kernel.proofs.Laid.{first_sized}
use Rattle.osc_kernel.proofs.opening.open_first.Goals as goal

pub returns-in-Ok-clause-opened : goal.returns-in-Ok-clause-opened
returns-in-Ok-clause-opened c =
    let config = c.args.config.now in
    let tables = c.open.new.self.space.tables in
    let laid = c.in-Ok.ensures.answer.1 in
    let is : c.open.new.self ≡ first_process config tables = c.in-Ok.ensures.rest ∙ ap (with_tables tables) c.in_ok-first.ensures in
    record {
      enough = c.in-Ok.ensures.answer.0;
      laid = laid;
      first_is = is;
      sized = subst (IsSized config) (sym is) (first_sized config (all_pages (pages_of c.args.pages.now)) tables c.open.new.frames c.open.new.jobs.pushed c.requires.valid laid);
    }
