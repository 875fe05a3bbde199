-- A call that waits commits.
use Rattle.std.proofs.Common.{ℕ, ◌-◌, ◌≡◌, ◌<◌, ◌≤◌, false, Some, List, [], ◌∷◌, length, drop, arith, refl, ap, sym, ◌∙◌, subst}
use Rattle.std.specs.List.{sum_by}
use Rattle.std.proofs.lemmas.List.{length-append, length-drop}
use Rattle.osc_word.specs.JobList.{JobList}
use Rattle.osc_word.specs.declared.job_list.Job.{Job}
use Rattle.osc_word.specs.declared.calls.Call.{Call}
use Rattle.osc_word.specs.declared.calls.Call.TheVariants as calls
use Rattle.osc_space.specs.Space.{Closing, Keeps}
use Rattle.osc_space.specs.Header.{Found}
use Rattle.osc_calls.specs.Kernel.{KernelState, Process, Calling, UnderWay, Waiting, Shown, process_at}
use Rattle.osc_calls.specs.Labels.{out_count}
use Rattle.osc_calls.specs.Planned.{Planned}
use Rattle.osc_calls.specs.Plan.{plan, plan_by, plan_meant, plan_of, plan_waiting, commit_shown, journal_entry}
use Rattle.osc_calls.specs.Requests.{meant}
use Rattle.osc_settled.specs.FollowLaws.{most_jobs}
use Rattle.osc_settled.specs.KernelFits.{KernelFits}
use Rattle.osc_settled.proofs.Plans.{plans_keep}
use Rattle.osc_ready.specs.Writes.{writes_out}
use Rattle.osc_word.specs.declared.settings.Config.{Config}
use Rattle.osc_settled.proofs.Taking.{jobs_have_room}
use Rattle.osc_ready.proofs.Limits.{in_range}
use Rattle.osc_ready.proofs.Found.{callers_fit}
use Rattle.osc_ready.proofs.Writes.{plans_write}
use Rattle.osc_kernel.specs.declared.state.State.{State}
use Rattle.osc_kernel.specs.declared.state.UnderWay.{UnderWay as Doing}
use Rattle.osc_kernel.specs.declared.state.UnderWay.TheVariants as doing
use Rattle.osc_kernel.specs.declared.commit.Made.{Made}
use Rattle.osc_kernel.specs.Inside.{kernel_of, under_way_of}
use Rattle.osc_kernel.specs.Plans.{CanPlan, is_waiting, planned_by}
use Rattle.osc_kernel.specs.Sound.{begun, Fits, HasRooms, Sound, ending_by}

-- ---- before the plan
waits_is : (s : State) (c : Calling) → s.under_way ≡ doing.Waiting c → (kernel_of s).under_way ≡ Waiting c
waits_is s c u = ap (λ (x : Doing). under_way_of x s.closing) u

waiting_fits : (k : KernelState) (c : Calling) (f : Fits k) → k.under_way ≡ Waiting c → KernelFits f.words k
waiting_fits k c f u = subst (λ x. KernelFits f.words (begun x k)) u f.fits

none_pushed : (jobs : List Job) (done : ℕ) → done ≤ length jobs - 1 → drop done jobs ≡ [] → (jobs ≡ []) × (done ≡ 0)
none_pushed [] done l e = (refl, omega (arith, l))
none_pushed (j ∷ jobs) done l e =
    let a = length-drop done (j ∷ jobs) in
    let b : length (drop done (j ∷ jobs)) ≡ 0 = ap (λ xs. length xs) e in
    absurd (omega (arith, a, b, l))

-- what is given back does not matter before the plan
pub closing_apart : (s : State) (closing : Closing) (c : Calling) → s.under_way ≡ doing.Waiting c → kernel_of (record s { closing = closing }) ≡ kernel_of s
closing_apart s closing c u =
    ap (λ x. record (kernel_of s) { under_way = x }) (ap (λ (x : Doing). under_way_of x closing) u ∙ sym (ap (λ (x : Doing). under_way_of x s.closing) u))

pub can_plan : (s : State) (closing : Closing) (c : Calling) → Sound s → s.under_way ≡ doing.Waiting c → closing ≡ Keeps → CanPlan (record s { closing = closing }) c
can_plan s closing c h u keeps =
    let is = waits_is s c u in
    let a = callers_fit h.fits.words (kernel_of s) c (waiting_fits (kernel_of s) c h.fits is) is in
    let none = none_pushed s.jobs.pushed s.done h.clean a.jobs in
    let r = subst (λ (x : UnderWay). HasRooms (ending_by x) s) is h.rooms in
    record {
      caller = record {
        has = record {
          process = a.has.process;
          at = a.has.at;
          fits = record {
            lives = a.has.fits.lives;
            parts = a.has.fits.parts;
            few = a.has.fits.few;
            regions = a.has.fits.regions;
            different = a.has.fits.different;
            joins = a.has.fits.joins;
          };
        };
        jobs = a.jobs;
        room = a.room;
        hart = a.hart;
        runs = a.runs;
        alive = a.alive;
        forks = λ granted. (let g = a.forks granted in record { root = g.root; different = g.different; joins = g.joins });
      };
      rooms = record {
        valid = r.valid;
        few = r.few;
        room = r.room;
        rest = r.rest;
        sized = r.sized;
        counted = r.counted;
        reported = r.reported;
        for_reports = r.for_reports;
        for_entries = r.for_entries;
        for_output = r.for_output;
        for_jobs = r.for_jobs;
        named = r.named;
      };
      keeps = keeps;
      pushed = none.0;
      done = none.1;
      written = (let x = (waiting_fits (kernel_of s) c h.fits is).sizes.output in omega (arith, x));
      frames = (waiting_fits (kernel_of s) c h.fits is).sizes.free;
      waits = u;
    }

-- ---- after the plan
pub plan_is : (found : Found) (k : KernelState) (c : Calling) (p : Process) → k.under_way ≡ Waiting c → process_at k c.pid ≡ Some p → plan found k ≡ commit_shown c (plan_of found c p k)
unfolding plan
plan_is found k c p u at = ap (λ x. plan_waiting found x k) u ∙ ap (λ o. plan_by found c o k) at

-- what a plan has made, before the call is entered
pub record MadeFits (s t : State) (c : Calling) (found : Found) (m : Made) : Type 0 where
  pub frames : length t.frames ≡ t.config.frames
  pub room : length t.journal.items < t.config.journal
  pub few : writes_out (meant c.call) m.answer ≤ 4194304
  pub sums : sum_by out_count (drop t.done t.jobs.pushed) ≡ writes_out (meant c.call) m.answer
  pub fits : Fits (commit_shown c (planned_by t m)).kernel
  pub is : commit_shown c (planned_by t m) ≡ plan found (kernel_of s)

pub made_fits : (s t : State) (c : Calling) (p : Process) (found : Found) (m : Made) → Sound s → s.under_way ≡ doing.Waiting c → process_at (kernel_of s) c.pid ≡ Some p
    → planned_by t m ≡ plan_of found c p (kernel_of s) → MadeFits s t c found m
made_fits s t c p found m h u at e =
    let k = kernel_of s in
    let is = waits_is s c u in
    let f = waiting_fits k c h.fits is in
    let same : commit_shown c (planned_by t m) ≡ plan found k = ap (commit_shown c) e ∙ sym (plan_is found k c p is at) in
    let after : KernelFits h.fits.words (commit_shown c (planned_by t m)).kernel = subst (λ x. KernelFits h.fits.words x.kernel) (sym same) (plans_keep h.fits.words found k c f is) in
    let none = (callers_fit h.fits.words k c f is).jobs in
    let w = plans_write found c p k none in
    record {
      frames = after.sizes.free;
      room = (let a = after.sizes.journal in let b = length-append t.journal.items (journal_entry c m.answer ∷ []) in omega (arith, a, b));
      few = subst (λ (x : Planned). writes_out (meant c.call) x.answer ≤ 4194304) (sym e) w.most;
      sums = subst (λ (x : Planned). sum_by out_count x.kernel.jobs ≡ writes_out (meant c.call) x.answer) (sym e) w.jobs;
      fits = record { words = h.fits.words; fits = after; opens = tt };
      is = same;
    }

-- what was planned, told of the fields before
pub planned_is : (s : State) (closing : Closing) (c : Calling) (p : Process) (found : Found) (call : Call) (m : Planned) → s.under_way ≡ doing.Waiting c → call ≡ meant c.call
    → m ≡ plan_meant found c p (kernel_of (record s { closing = closing })) call → m ≡ plan_of found c p (kernel_of s)
planned_is s closing c p found call m u is e =
    e ∙ ap (λ k. plan_meant found c p k call) (closing_apart s closing c u) ∙ ap (λ x. plan_meant found c p (kernel_of s) x) is

-- the jobs have room in a count
pub few_jobs : (s t : State) (c : Calling) (found : Found) → Sound s → s.under_way ≡ doing.Waiting c → (kernel_of t).jobs ≡ (plan found (kernel_of s)).kernel.jobs → length (kernel_of t).jobs < 4294967295
few_jobs s t c found h u e =
    let is = waits_is s c u in
    let f = waiting_fits (kernel_of s) c h.fits is in
    let a = jobs_have_room h.fits.words found (kernel_of s) c f is in
    let b = most_of s.config (meant c.call) (in_range s.config f.sizes.config).frames in
    let d = ap (λ xs. length xs) e in
    omega (arith, a, b, d)
  where
    most_of : (config : Config) (call : Call) → config.frames ≤ 4096 → most_jobs config call ≤ 557120
    most_of config (calls.Write buf len) l = omega arith
    most_of config (calls.Exit x) l = omega arith
    most_of config (calls.Malloc x) l = omega arith
    most_of config (calls.Free x) l = omega arith
    most_of config (calls.Realloc x y) l = omega arith
    most_of config calls.Fork l = omega arith
    most_of config (calls.Spawn x y z) l = omega arith
    most_of config (calls.Join x) l = omega arith
    most_of config (calls.Done x) l = omega arith
    most_of config (calls.Share x) l = omega arith
    most_of config (calls.Wait x) l = omega arith
    most_of config (calls.Unknown x) l = omega arith
    most_of config (calls.End x) l = omega arith

-- the kernel is sound once its call is entered
pub entered_sound : (s m t : State) (c : Calling) (found : Found) (made : Made) → Sound s → s.under_way ≡ doing.Waiting c → MadeFits s m c found made → m.done ≡ 0
    → kernel_of t ≡ (commit_shown c (planned_by m made)).kernel → HasRooms (ending_by (kernel_of t).under_way) t → t.pending ≡ writes_out (meant c.call) made.answer
    → t.jobs ≡ m.jobs → t.done ≡ m.done → Sound t
entered_sound s m t c found made h u f start k rooms pending jobs done =
    let none : t.done ≡ 0 = done ∙ start in
    let same : drop t.done t.jobs.pushed ≡ drop m.done m.jobs.pushed = ap (λ n. drop n t.jobs.pushed) done ∙ ap (λ (j : JobList). drop m.done j.pushed) jobs in
    let few = few_jobs s t c found h u (ap (λ (x : KernelState). x.jobs) (k ∙ ap (λ (x : Shown). x.kernel) f.is)) in
    record {
      fits = subst Fits (sym k) f.fits;
      rooms = rooms;
      few_jobs = (let a = length-drop t.done t.jobs.pushed in omega (arith, a, few, none));
      clean = omega (arith, none);
      pending = pending ∙ sym f.sums ∙ ap (λ js. sum_by out_count js) (sym same);
    }

-- ---- no call waits
pub plans_none : (found : Found) (s : State) → is_waiting s.under_way ≡ false → plan found (kernel_of s) ≡ record { kernel = kernel_of s; shows = [] }
unfolding plan
plans_none found s n = go s.under_way refl (λ e. ap is_waiting (sym e) ∙ n)
  where
    go : (u : Doing) → s.under_way ≡ u → (s.under_way ≡ u → is_waiting u ≡ false) → plan_waiting found (kernel_of s).under_way (kernel_of s) ≡ record { kernel = kernel_of s; shows = [] }
    go doing.Quiet e h = ap (λ (x : Doing). plan_waiting found (under_way_of x s.closing) (kernel_of s)) e
    go doing.Retrying e h = ap (λ (x : Doing). plan_waiting found (under_way_of x s.closing) (kernel_of s)) e
    go (doing.Leaving hart) e h = ap (λ (x : Doing). plan_waiting found (under_way_of x s.closing) (kernel_of s)) e
    go (doing.Waiting calling) e h = absurd (let z = h e in let w : ⊥ = grind (arith, z) in w)
    go (doing.Returning calling answer effect) e h = ap (λ (x : Doing). plan_waiting found (under_way_of x s.closing) (kernel_of s)) e
