use Rattle.std.proofs.Common.{◌≡◌, Bool, length, nat_lt, true, false, arith, sym, ap, subst, ◌∙◌}
use Rattle.std.specs.Prelude.{IfOk}
use Rattle.std.proofs.lemmas.Bool.Decides.{nat_tests}
use Rattle.osc_image.specs.Frames.{needed_frames}
use Rattle.osc_machine.specs.Parts.{State}
use Rattle.osc_machine.specs.Run.{run}
use Rattle.osc_machine.specs.Start.{start_of}
use Rattle.osc_core.specs.Ends.{EndFits}
use Rattle.osc_core.specs.Sound.{Sound}
use Rattle.osc_top.specs.Due.{is_judged, seeded_due}
use Rattle.osc_top.specs.Deciding.{Decides}
use Rattle.osc_top.proofs.Runs.{some-start-harts}
use Rattle.osc_top.proofs.top.run_image.Goals as goal

-- the start is as it is asked for, whether the run is judged or not
pub judge_booted-requires-clause-harts : goal.judge_booted-requires-clause-harts
judge_booted-requires-clause-harts c =
    rw (ap (λ (s : State). length s.harts) c.in-Ok.ensures.begins.starts)
    (some-start-harts c.args.image.now c.args.task.now.config c.in-Ok.ensures.begins.valid)

pub judge_booted-requires-clause-sound : goal.judge_booted-requires-clause-sound
judge_booted-requires-clause-sound c =
    let begins = c.in-Ok.ensures.begins in
    subst (λ s. Sound s) (sym begins.starts)
    (c.starts_sound.ensures c.requires.image.file c.args.image.now c.args.task.now.config begins.valid c.requires.image.taken begins.enough)

pub judge_booted-requires-clause-ends : goal.judge_booted-requires-clause-ends
judge_booted-requires-clause-ends c picks =
    let begins = c.in-Ok.ensures.begins in
    subst (λ s. EndFits (run s picks).state) (sym begins.starts)
    (c.ends_fit.ensures c.requires.image.file c.args.image.now c.args.task.now.config picks begins.valid c.requires.image.taken begins.enough)

pub run_booted-requires-clause-harts : goal.run_booted-requires-clause-harts
run_booted-requires-clause-harts c =
    rw (ap (λ (s : State). length s.harts) c.in-Ok.ensures.begins.starts)
    (some-start-harts c.args.image.now c.args.task.now.config c.in-Ok.ensures.begins.valid)

pub run_booted-requires-clause-sound : goal.run_booted-requires-clause-sound
run_booted-requires-clause-sound c =
    let begins = c.in-Ok.ensures.begins in
    subst (λ s. Sound s) (sym begins.starts)
    (c.starts_sound.ensures c.requires.image.file c.args.image.now c.args.task.now.config begins.valid c.requires.image.taken begins.enough)

pub run_booted-requires-clause-ends : goal.run_booted-requires-clause-ends
run_booted-requires-clause-ends c picks =
    let begins = c.in-Ok.ensures.begins in
    subst (λ s. EndFits (run s picks).state) (sym begins.starts)
    (c.ends_fit.ensures c.requires.image.file c.args.image.now c.args.task.now.config picks begins.valid c.requires.image.taken begins.enough)

pub returns-then-is_judged : goal.returns-then-is_judged
returns-then-is_judged c =
    let begins = c.in-Ok.ensures.begins in
    let task = c.args.task.now in
    let image = c.args.image.now in
    let fits : nat_lt task.config.frames (needed_frames task.config.levels image) ≡ false = grind (arith, nat_tests, begins.enough) in
    let judged : is_judged task.mode ≡ true = sym c.is_judged.ensures ∙ c.if-is_judged.true in
    rw fits (subst (λ (b : Bool). IfOk c.judge_booted.result (λ d. Decides d (seeded_due b task image (start_of image task.config)))) (sym judged)
    (subst (λ (s : State). IfOk c.judge_booted.result (λ d. Decides d (seeded_due true task image s))) begins.starts c.judge_booted.ensures))

pub returns-else-is_judged : goal.returns-else-is_judged
returns-else-is_judged c =
    let begins = c.in-Ok.ensures.begins in
    let task = c.args.task.now in
    let image = c.args.image.now in
    let fits : nat_lt task.config.frames (needed_frames task.config.levels image) ≡ false = grind (arith, nat_tests, begins.enough) in
    let judged : is_judged task.mode ≡ false = sym c.is_judged.ensures ∙ c.if-is_judged.false in
    rw fits (subst (λ (b : Bool). Decides c.run_booted.result (seeded_due b task image (start_of image task.config))) (sym judged)
    (subst (λ (s : State). Decides c.run_booted.result (seeded_due false task image s)) begins.starts (c.run_booted.ensures image)))
