-- The journal of a machine tells what its kernel keeps: a step of a run is a longer run.
use Rattle.std.proofs.Common.{ℕ, ◌≡◌, ◌≤◌, None, [], ◌∷◌, ◌++◌, refl, sym, ap, ◌∙◌, subst}
use Rattle.osc_word.specs.declared.settings.Config.{Config}
use Rattle.osc_word.specs.Limits.{first_fault}
use Rattle.osc_image.specs.Image.{Image}
use Rattle.osc_image.specs.Frames.{needed_frames}
use Rattle.osc_machine.specs.Parts.{State}
use Rattle.osc_machine.specs.Step.{step}
use Rattle.osc_machine.specs.Run.{Ran, run_on, run}
use Rattle.osc_machine.specs.Start.{start_of}
use Rattle.osc_machine.specs.Laws.{HasKernel}
use Rattle.osc_machine.specs.Agreements.{ReplayAgrees}
use Rattle.osc_machine.proofs.RunLaws.{runs_join}
use Rattle.osc_ledger.proofs.ReplayRuns.{runs_fit_replay, runs_agree_with_replay}
use Rattle.osc_core.specs.Boot.{IsOfFile}
use Rattle.osc_core.specs.Told.{Reached, JournalTells}

-- what a run comes to is told
pub tells-where-reached : (config : Config) (s : State) → Reached config s → JournalTells config s
tells-where-reached config s r = record {
  reached = r;
  home = subst (ReplayAgrees config) (sym r.comes) (runs_agree_with_replay r.file r.image config r.picks r.valid r.taken r.enough);
  anywhere = λ k here. runs_fit_replay r.file r.image config r.picks k r.valid r.taken r.enough (subst (λ (z : State). HasKernel z k) r.comes here);
}

one-more : (n : ℕ) (ran : Ran) → (run_on (n ∷ []) ran).state ≡ (step ran.state n).state
unfolding run_on
one-more n ran = refl

-- one step after a run is a run with one pick more
pub reached-next : (config : Config) (s : State) (n : ℕ) → Reached config s → Reached config (step s n).state
reached-next config s n r =
    let first : Ran = record { state = start_of r.image config; commits = []; trace = [] } in
    record {
      file = r.file;
      image = r.image;
      picks = r.picks ++ n ∷ [];
      valid = r.valid;
      taken = r.taken;
      enough = r.enough;
      comes = ap (λ (z : State). (step z n).state) r.comes ∙ sym (ap (λ (z : Ran). z.state) (runs_join r.picks (n ∷ []) first) ∙ one-more n (run_on r.picks first));
    }

nothing-run : (s : State) → s ≡ (run s []).state
unfolding run_on
nothing-run s = refl

pub tells-at-start : (image : Image) (config : Config) (s : State) → IsOfFile image → first_fault config ≡ None
    → needed_frames config.levels image ≤ config.frames → s ≡ start_of image config → JournalTells config s
tells-at-start image config s of valid enough starts = tells-where-reached config s (record {
  file = of.file;
  image = image;
  picks = [];
  valid = valid;
  taken = of.taken;
  enough = enough;
  comes = starts ∙ nothing-run (start_of image config);
})

pub tells-after-step : (config : Config) (s after : State) (n : ℕ) → after ≡ (step s n).state → Reached config s → JournalTells config after
tells-after-step config s after n e r = subst (JournalTells config) (sym e) (tells-where-reached config (step s n).state (reached-next config s n r))
