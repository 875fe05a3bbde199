use Rattle.std.proofs.Common.{rules, ◌≡◌, ◌∷◌, [], subst, sym}
use Rattle.osc_kernel.specs.Sound.{AllSized}
use Rattle.osc_kernel.proofs.Laid.{only_sized}
use Rattle.osc_kernel.proofs.opening.new_state.Goals as goal

pub returns-clause-rooms : goal.returns-clause-rooms
returns-clause-rooms c =
    record {
      valid = c.requires.valid;
      few = search rules;
      room = search rules;
      rest = search rules;
      sized =
          (let e : c.in_ok-first_of.field-0.items ≡ c.args.first ∷ [] = search rules in
          subst (AllSized c.args.config.now) (sym e) (only_sized c.args.config.now c.args.first c.requires.sized));
      counted = search rules;
      reported = search rules;
      for_reports = search rules;
      for_entries = search rules;
      for_output = search rules;
      for_jobs = search rules;
      named = search rules;
    }
