-- What a run from a machine's start comes to.
use Rattle.std.proofs.Common.{◌≡◌, ℕ, ◌<◌, ◌≤◌, nat_le, Bool, true, false, length, None, Some, IfSome, List, refl, sym, ◌∙◌, ap, subst, arith}
use Rattle.std.proofs.lemmas.Bool.Decides.{nat_tests}
use Rattle.std.proofs.lemmas.List.FromFn.{length-map-range_with_len}
use Rattle.std.specs.declared.option.Option.{Option}
use Rattle.osc_word.specs.declared.settings.Config.{Config}
use Rattle.osc_word.specs.Limits.{first_fault}
use Rattle.osc_image.specs.Image.{Image}
use Rattle.osc_calls.specs.Open.{open_kernel, open_start}
use Rattle.osc_machine.specs.declared.Ending.{Ending}
use Rattle.osc_machine.specs.declared.Ending.TheVariants as ending
use Rattle.osc_machine.specs.Start.{first_hart, start_of}
use Rattle.osc_seed.specs.declared.SeededEnd.{SeededEnd}
use Rattle.osc_seed.specs.declared.SeededEnd.TheVariants.{Over, Spent}
use Rattle.osc_word.specs.declared.steps.Event.{Event}
use Rattle.osc_world.specs.Run.{ObjectRun, begins, boot}
use Rattle.osc_judge.specs.declared.judging.JudgedError.{JudgedError}
use Rattle.osc_judge.specs.Judging.{first_error}
use Rattle.osc_judged.specs.Judged.{judged_over}
use Rattle.osc_cli.specs.declared.task.Task.{Task}
use Rattle.osc_machine.specs.Parts.{State}
use Rattle.osc_machine.specs.Run.{run}
use Rattle.osc_machine.specs.Views.{ending_of, machine_over}
use Rattle.osc_seed.specs.Seeded.{end_after, picks_made}
use Rattle.osc_core.specs.Ends.{EndFits, IsEnding}
use Rattle.osc_top.specs.declared.outcome.Outcome.TheVariants as outcome
use Rattle.osc_top.specs.declared.outcome.Verdict.{Verdict}
use Rattle.osc_top.specs.Due.{judgement, outcome_of, over_due, refused, seeded_due, verdict_of, HasGuestStatus}

-- there is a hart
some-harts : (config : Config) → first_fault config ≡ None → 0 < config.harts
some-harts config e = go (nat_le 1 config.harts) refl
  where
    go : (b : Bool) → nat_le 1 config.harts ≡ b → 0 < config.harts
    go true test = grind (arith, nat_tests, test)
    go false test = absurd (let z : ⊥ = grind (arith, nat_tests, test, e) in z)

start-harts : (image : Image) (config : Config) → length (start_of image config).harts ≡ config.harts
unfolding start_of
start-harts image config =
    length-map-range_with_len (first_hart config (open_start image (open_kernel image config))) 0 config.harts

pub some-start-harts : (image : Image) (config : Config) → first_fault config ≡ None → 0 < length (start_of image config).harts
some-start-harts image config e = rw (start-harts image config) (some-harts config e)

-- the answer of a seeded run tells whether the machine is over, and after how many picks
pub ends-over : (over : Bool) (made picks : ℕ) → end_after over made ≡ Over picks → (over ≡ true) × (made ≡ picks)
ends-over true made picks e = (refl, cc)
ends-over false made picks e = cc

pub ends-spent : (over : Bool) (made : ℕ) → end_after over made ≡ Spent → over ≡ false
ends-spent true made e = cc
ends-spent false made e = refl

-- a process's end gives a guest's status
pub guest-status : (end : Option Ending) → IfSome end IsEnding → HasGuestStatus (outcome_of end)
guest-status None fits = tt
guest-status (Some ending.Fault) fits = tt
guest-status (Some (ending.Exit status)) fits = fits

-- ---- what is due for a run that was made, by how it ended
-- the picks that a task makes from a start, and where they lead
abbrev pub picks_of : Task → State → List ℕ
picks_of task start = picks_made start task.seed task.picks

pub due-over : (judged : Bool) (task : Task) (image : Image) (start s : State) (picks : ℕ) (said : Option Verdict)
    → s ≡ (run start (picks_of task start)).state → end_after (machine_over s) (length (picks_of task start)) ≡ Over picks
    → said ≡ judgement judged image task.config (run start (picks_of task start)).commits
    → over_due picks s said ≡ seeded_due judged task image start
due-over judged task image start s picks said is ends judges =
    let over = ends-over (machine_over s) (length (picks_of task start)) picks ends in
    let here : machine_over (run start (picks_of task start)).state ≡ true = ap machine_over (sym is) ∙ over.0 in
    rw here (ap (λ n. over_due n s said) (sym over.1) ∙ ap (λ (t : State). over_due (length (picks_of task start)) t said) is
    ∙ ap (over_due (length (picks_of task start)) (run start (picks_of task start)).state) judges)

pub due-spent : (judged : Bool) (task : Task) (image : Image) (start s : State)
    → s ≡ (run start (picks_of task start)).state → end_after (machine_over s) (length (picks_of task start)) ≡ Spent
    → refused (outcome.Spent task.picks) ≡ seeded_due judged task image start
due-spent judged task image start s is ends =
    let here : machine_over (run start (picks_of task start)).state ≡ false =
    ap machine_over (sym is) ∙ ends-spent (machine_over s) (length (picks_of task start)) ends in
    rw here refl

-- the first error of the world that was given the events is that of the object run over them
pub judges : (image : Image) (config : Config) (events : List Event) (world : Option ObjectRun) (error : Option JudgedError)
    → world ≡ judged_over events (Some (begins (boot image config))) → error ≡ first_error world
    → Some (verdict_of error) ≡ judgement true image config events
judges image config events world error is first = ap (λ e. Some (verdict_of e)) (first ∙ ap first_error is)

-- how a run ends from a start has a guest's status
pub ends-guest : (task : Task) (start s : State) → ((picks : List ℕ) → EndFits (run start picks).state) → s ≡ (run start (picks_of task start)).state
    → HasGuestStatus (outcome_of (ending_of s))
ends-guest task start s fits is =
    guest-status (ending_of s) (subst (λ (t : State). IfSome (ending_of t) IsEnding) (sym is) (fits (picks_of task start)).ending)

-- ---- a run whose harts came in and went out as a vector
pub ran-over : (judged : Bool) (task : Task) (image : Image) (start before s after : State) (picks : ℕ) (said : Option Verdict) → before ≡ start → after ≡ s
    → s ≡ (run before (picks_of task before)).state → end_after (machine_over s) (length (picks_of task before)) ≡ Over picks
    → said ≡ judgement judged image task.config (run before (picks_of task before)).commits
    → over_due picks after said ≡ seeded_due judged task image start
ran-over judged task image start before s after picks said e f is ends judges =
    ap (λ (t : State). over_due picks t said) f ∙ due-over judged task image before s picks said is ends judges ∙ ap (seeded_due judged task image) e

pub ran-spent : (judged : Bool) (task : Task) (image : Image) (start before s : State) → before ≡ start
    → s ≡ (run before (picks_of task before)).state → end_after (machine_over s) (length (picks_of task before)) ≡ Spent
    → refused (outcome.Spent task.picks) ≡ seeded_due judged task image start
ran-spent judged task image start before s e is ends = due-spent judged task image before s is ends ∙ ap (seeded_due judged task image) e

pub ran-guest : (task : Task) (start before s after : State) → ((picks : List ℕ) → EndFits (run start picks).state) → before ≡ start → after ≡ s
    → s ≡ (run before (picks_of task before)).state → HasGuestStatus (outcome_of (ending_of after))
ran-guest task start before s after fits e f is =
    subst (λ (t : State). HasGuestStatus (outcome_of (ending_of t))) (sym f)
    (ends-guest task before s (λ picks. subst (λ (t : State). EndFits (run t picks).state) (sym e) (fits picks)) is)
