-- The kernel that is given back.
use Rattle.std.proofs.Common.{ℕ, ◌-◌, ◌≡◌, ◌<◌, true, Option, Some, None, List, [], length, drop, slice_get, arith, refl, ap, sym, ◌∙◌, subst}
use Rattle.std.specs.List.{sum_by}
use Rattle.std.proofs.lemmas.Option.{slice_get_within}
use Rattle.osc_word.specs.JobList.{JobList}
use Rattle.osc_word.specs.declared.calls.Answer.{Answer}
use Rattle.osc_word.specs.declared.calls.Resume.TheVariants.{Again, Idle}
use Rattle.osc_word.specs.declared.steps.Label.{Label}
use Rattle.osc_calls.specs.declared.HartRecord.{HartRecord}
use Rattle.osc_calls.specs.Kernel.{KernelState, Process, Calling, Committed, Effect, Nothing, Clears, Starts, Ends, UnderWay, Quiet, Retrying, Leaving, Waiting, Returning, process_at}
use Rattle.osc_calls.specs.Finish.{Finished, finish, finish_by, returned, returned_from, freed_by, settled, hart_left, given_back}
use Rattle.osc_calls.specs.Labels.{answer_shows, out_count}
use Rattle.osc_calls.specs.Planned.{with_draft}
use Rattle.osc_calls.specs.Refusals.{draft_of}
use Rattle.osc_space.specs.Finish.{finished}
use Rattle.osc_process.specs.Returns.{CanReturn}
use Rattle.osc_settled.specs.KernelFits.{KernelFits}
use Rattle.osc_settled.proofs.Returning.{finish_keeps}
use Rattle.osc_settled.proofs.Lists.{some_same}
use Rattle.osc_under_way.specs.declared.effects.Effect.{Effect as Does}
use Rattle.osc_under_way.specs.Effects.{effect_of}
use Rattle.osc_ready.specs.Found.{ReturnerFits}
use Rattle.osc_ready.proofs.Found.{returners_fit, enders_fit}
use Rattle.osc_kernel.specs.declared.state.State.{State}
use Rattle.osc_kernel.specs.declared.state.UnderWay.{UnderWay as Doing}
use Rattle.osc_kernel.specs.declared.state.UnderWay.TheVariants as doing
use Rattle.osc_kernel.specs.Inside.{kernel_of, under_way_of}
use Rattle.osc_kernel.specs.Returns.{Settles, asks_again, done_of, label_shows, shows_by, shows_in}
use Rattle.osc_kernel.specs.Sound.{OpenJobs, begun, opens_with, Fits, HasRooms, Sound, ends_one, ending_by}

-- ---- the agreement
pub at_hand : (k : KernelState) (f : Fits k) → k.jobs ≡ [] → KernelFits f.words k
at_hand k f none = go k.under_way refl
  where
    go : (u : UnderWay) → k.under_way ≡ u → KernelFits f.words k
    go Quiet u = subst (λ js. KernelFits f.words (record k { jobs = js })) (sym none) (subst (λ x. KernelFits f.words (begun x k)) u f.fits)
    go Retrying u = subst (λ x. KernelFits f.words (begun x k)) u f.fits
    go (Leaving hart) u = subst (λ x. KernelFits f.words (begun x k)) u f.fits
    go (Waiting c) u = subst (λ x. KernelFits f.words (begun x k)) u f.fits
    go (Returning done) u = subst (λ x. KernelFits f.words (begun x k)) u f.fits

quiet_again : (k : KernelState) → (finish k).kernel.under_way ≡ Quiet
unfolding finish
quiet_again k = go k.under_way
  where
    back : (done : Committed) (o : Option Process) → (returned done o k).kernel.under_way ≡ Quiet
    back done None = refl
    back done (Some p) = refl

    go : (u : UnderWay) → (finish_by u k).kernel.under_way ≡ Quiet
    go Quiet = refl
    go Retrying = refl
    go (Leaving hart) = refl
    go (Waiting c) = refl
    go (Returning done) = back done (process_at k done.calling.pid)

quiet_fits : (words : List ℕ) (k : KernelState) → KernelFits words k → k.under_way ≡ Quiet → k.jobs ≡ [] → Fits k
quiet_fits words k f u none = record {
  words = words;
  fits = subst (λ x. KernelFits words (begun x k)) (sym u) (subst (λ js. KernelFits words (record k { jobs = js })) none f);
  opens = subst (λ x. opens_with x k.jobs) (sym u) (subst OpenJobs (sym none) (record { silent = refl; within = tt }));
}

pub finished_fits : (k : KernelState) → Fits k → k.jobs ≡ [] → (finish k).kernel.jobs ≡ [] → Fits (finish k).kernel
finished_fits k f none left = quiet_fits f.words (finish k).kernel (finish_keeps f.words k (at_hand k f none) none) (quiet_again k) left

pub is_quiet : (k t : KernelState) → t ≡ (finish k).kernel → t.under_way ≡ Quiet
is_quiet k t e = ap (λ (x : KernelState). x.under_way) e ∙ quiet_again k

-- ---- the call that returns
pub returner : (s : State) (c : Calling) (a : Answer) (e : Does) → Sound s → s.under_way ≡ doing.Returning c a e → (kernel_of s).jobs ≡ [] → ReturnerFits (kernel_of s) (done_of c a e s.closing)
returner s c a e h u none = returners_fit h.fits.words (kernel_of s) (done_of c a e s.closing) (at_hand (kernel_of s) h.fits none) (ap (λ (x : Doing). under_way_of x s.closing) u)

ends_are : (e : Effect) → ends_one e ≡ 1 → (status : ℕ) × (e ≡ Ends status)
ends_are Nothing h = absurd (omega (arith, h))
ends_are Clears h = absurd (omega (arith, h))
ends_are (Starts hart start) h = absurd (omega (arith, h))
ends_are (Ends status) h = (status, refl)

pub settles : (s : State) (c : Calling) (a : Answer) (e : Does) → Sound s → s.under_way ≡ doing.Returning c a e → (kernel_of s).jobs ≡ [] → Settles s c.pid e
settles s c a e h u none =
    let done = done_of c a e s.closing in
    let f = at_hand (kernel_of s) h.fits none in
    let is : (kernel_of s).under_way ≡ Returning done = ap (λ (x : Doing). under_way_of x s.closing) u in
    let r = returners_fit h.fits.words (kernel_of s) done f is in
    record {
      returns = λ n p at. subst (λ (x : Process). CanReturn s.closing x.space s.frames) (some_same r.process p (sym r.at ∙ at))
          (record { few = r.few; kind = s.config.heap; batch = s.config.batch; regions = s.regions; returns = r.returns; frames = r.frames });
      ends = λ n p at. (let w = ends_are (effect_of e) n in
          let d = enders_fit h.fits.words (kernel_of s) done p w.0 f is w.1 at in
          (record { few = d.fits.few; kind = s.config.heap; batch = s.config.batch; fit = d.fits.parts; held = d.covered }, d.fits.lives));
      within = slice_get_within s.processes.items c.pid r.process r.at;
      rooms = subst (λ (x : UnderWay). HasRooms (ending_by x) s) is h.rooms;
    }

-- ---- what is settled
pub settled_back : (done : Committed) (p : Process) (e : Effect) (k : KernelState) → ends_one e ≡ 0 → settled done p e k ≡ with_draft done.calling.pid p (finished done.closing (draft_of k p)) k
settled_back done p Nothing k n = refl
settled_back done p Clears k n = refl
settled_back done p (Starts hart start) k n = refl
settled_back done p (Ends status) k n = absurd (omega (arith, n))

-- ---- the whole
pub return_is : (k : KernelState) (done : Committed) (p : Process) → k.under_way ≡ Returning done → process_at k done.calling.pid ≡ Some p → finish k ≡ returned_from done p (freed_by done.closing p.space.waiting) k
unfolding finish
return_is k done p u at = ap (λ x. finish_by x k) u ∙ ap (λ o. returned done o k) at

pub label_is : (k : KernelState) (done : Committed) (p : Process) → k.under_way ≡ Returning done → process_at k done.calling.pid ≡ Some p
    → label_shows k ≡ answer_shows done.calling.pid (length k.journal - 1) p.space.objects done.answer
label_is k done p u at = ap (λ x. shows_by k x) u ∙ ap (λ o. shows_in done k o) at

pub left_is : (k : KernelState) (hart : ℕ) (records : List HartRecord) → k.under_way ≡ Leaving hart → hart_left hart (slice_get k.records hart) k ≡ record k { records = records }
    → finish k ≡ given_back Idle (record k { records = records })
unfolding finish
left_is k hart records u e = ap (λ x. finish_by x k) u ∙ ap (given_back Idle) e

pub sound_after : (s t : State) → Sound s → (kernel_of s).jobs ≡ [] → kernel_of t ≡ (finish (kernel_of s)).kernel → HasRooms 0 t
    → t.jobs ≡ s.jobs → t.done ≡ s.done → t.pending ≡ s.pending → Sound t
sound_after s t h none e rooms jobs done pending =
    let same : drop t.done t.jobs.pushed ≡ drop s.done s.jobs.pushed = ap (λ n. drop n t.jobs.pushed) done ∙ ap (λ (j : JobList). drop s.done j.pushed) jobs in
    record {
      fits = subst Fits (sym e) (finished_fits (kernel_of s) h.fits none (ap (λ (k : KernelState). k.jobs) (sym e) ∙ same ∙ none));
      rooms = subst (λ (u : UnderWay). HasRooms (ending_by u) t) (sym (is_quiet (kernel_of s) (kernel_of t) e)) rooms;
      few_jobs = subst (λ (j : JobList). length j.pushed < 4294967295) (sym jobs) h.few_jobs;
      clean = (let a = ap (λ (j : JobList). length j.pushed) jobs in let b = h.clean in omega (arith, a, b, done));
      pending = pending ∙ h.pending ∙ ap (λ js. sum_by out_count js) (sym same);
    }

pub returned_kernel : (s m t : State) (c : Calling) (a : Answer) (e : Does) (shown : Option Label) (freed : List ℕ) (p : Process)
    → s.under_way ≡ doing.Returning c a e → process_at (kernel_of s) c.pid ≡ Some p → m ≡ record s { shown = shown; freed = freed }
    → kernel_of t ≡ settled (done_of c a e s.closing) p (effect_of e) (kernel_of m) → kernel_of (record t { under_way = doing.Quiet }) ≡ (finish (kernel_of s)).kernel
returned_kernel s m t c a e shown freed p u at is k =
    ap (λ (x : KernelState). record x { under_way = Quiet }) (k ∙ ap (λ (x : State). settled (done_of c a e s.closing) p (effect_of e) (kernel_of x)) is)
    ∙ sym (ap (λ (f : Finished). f.kernel) (return_is (kernel_of s) (done_of c a e s.closing) p (ap (λ (x : Doing). under_way_of x s.closing) u) at))

pub record GivesUp (s : State) : Type 0 where
  pub finish_is : finish (kernel_of s) ≡ given_back Again (kernel_of s)
  pub shows : label_shows (kernel_of s) ≡ []
  pub ends : ending_by (kernel_of s).under_way ≡ 0

pub gives_up : (s : State) → asks_again s.under_way ≡ true → GivesUp s
unfolding finish
gives_up s t = go s.under_way refl (λ e. ap asks_again (sym e) ∙ t)
  where
    by : (u : UnderWay) → (kernel_of s).under_way ≡ u → finish_by u (kernel_of s) ≡ given_back Again (kernel_of s) → shows_by (kernel_of s) u ≡ [] → ending_by u ≡ 0 → GivesUp s
    by u is f l e = record {
      finish_is = ap (λ x. finish_by x (kernel_of s)) is ∙ f;
      shows = ap (λ x. shows_by (kernel_of s) x) is ∙ l;
      ends = ap ending_by is ∙ e;
    }

    go : (u : Doing) → s.under_way ≡ u → (s.under_way ≡ u → asks_again u ≡ true) → GivesUp s
    go doing.Quiet e h = by Quiet (ap (λ (x : Doing). under_way_of x s.closing) e) refl refl refl
    go doing.Retrying e h = by Retrying (ap (λ (x : Doing). under_way_of x s.closing) e) refl refl refl
    go (doing.Leaving hart) e h = absurd (let z = h e in let w : ⊥ = grind (arith, z) in w)
    go (doing.Waiting calling) e h = by (Waiting calling) (ap (λ (x : Doing). under_way_of x s.closing) e) refl refl refl
    go (doing.Returning calling answer effect) e h = absurd (let z = h e in let w : ⊥ = grind (arith, z) in w)
