-- Each step of the kernel keeps how many frames each process has for its image and its stack, and each run.
use Rattle.std.proofs.Common.{ℕ, zero, suc, ◌+◌, ◌≡◌, ◌≢◌, ◌≤◌, ◌==◌, ◌⊎◌, inl, inr, Bool, true, false, Option, Some, None, Ok, List, [], ◌∷◌, length, map, filter, slice_get, slice_set, arith, refl, sym, ap, subst, ◌∙◌}
use Rattle.std.proofs.lemmas.Bool.Decides.{nat_tests}
use Rattle.osc_word.specs.declared.settings.Config.{Config}
use Rattle.osc_word.specs.AddressMap.{is_image_or_stack, stack_size}
use Rattle.osc_word.specs.Limits.{first_fault}
use Rattle.osc_image.specs.Image.{Image, pages}
use Rattle.osc_image.specs.Frames.{needed_frames}
use Rattle.osc_image.specs.Form.{image_of}
use Rattle.osc_paging.specs.declared.Mapped.{Mapped}
use Rattle.osc_space.specs.Header.{Found}
use Rattle.osc_space.specs.Space.{Space}
use Rattle.osc_space.specs.Fork.{frame_of_page, image_frames}
use Rattle.osc_calls.specs.Kernel.{KernelState, Process, Calling, process_at}
use Rattle.osc_calls.specs.Plan.{plan_of}
use Rattle.osc_calls.specs.Open.{first_process, image_pages, all_pages, lay_all, rooted, open_kernel}
use Rattle.osc_settled.proofs.Lists.{get-put_same, get-put_other, some_same}
use Rattle.osc_settled.proofs.Commits.{lives_none}
use Rattle.osc_settled.proofs.Spawning.{get-either}
use Rattle.osc_settled.proofs.Outcomes.{Asks, caller_lives}
use Rattle.osc_settled.proofs.Images.{none_below}
use Rattle.osc_settled.proofs.Laying.{Ranges, ranges}
use Rattle.osc_machine.specs.Parts.{State}
use Rattle.osc_machine.specs.Run.{run}
use Rattle.osc_machine.specs.Start.{start_of}
use Rattle.osc_machine.specs.Laws.{HasKernel}
use Rattle.osc_machine.proofs.KernelLaws.{start_has_kernel}
use Rattle.osc_safe.proofs.StandingRuns.{first_ran, started-both}
use Rattle.osc_ledger.proofs.ReplayRuns.{opens-fit}
use Rattle.osc_counted.specs.Images.{ImagesFit, StepsKeepImages, RunsFitImages}
use Rattle.osc_counted.proofs.PlanRows.{Does, Leaves, Puts, Forks, Shares, plan-does}
use Rattle.osc_counted.proofs.Starts.{start-images}
use Rattle.osc_counted.proofs.Lifting.{Keeps, Returned, StandsWith, step-keeps, runs-keep}

-- ---- lists
-- what stands in a list with one put in place of another
pub put-either : {X : Type 0} (xs : List X) (i j : ℕ) (x y z : X) → slice_get xs i ≡ Some x → slice_get (slice_set xs i y) j ≡ Some z
    → ((i ≡ j) × (y ≡ z)) ⊎ ((i ≢ j) × (slice_get xs j ≡ Some z))
put-either xs i j x y z e f = go (i == j) refl
  where
    go : (b : Bool) → (i == j) ≡ b → ((i ≡ j) × (y ≡ z)) ⊎ ((i ≢ j) × (slice_get xs j ≡ Some z))
    go true d =
        let is : i ≡ j = grind (arith, nat_tests, d) in
        inl (is, some_same y z (sym (get-put_same xs i x y e) ∙ ap (slice_get (slice_set xs i y)) is ∙ f))
    go false d =
        let other : i ≢ j = grind (arith, nat_tests, d) in inr (other, sym (get-put_other xs i j y other) ∙ f)

-- ---- steps
abbrev Fits : List ℕ → Process → Type 0
Fits image q = length (image_frames q.space.tables) ≡ length image + stack_size

module _ (image words : List ℕ) (found : Found) (k : KernelState) (c : Calling) (p : Process) (a : Asks words k c) (here : process_at k c.pid ≡ Some p) (f : ImagesFit image k) where
  own : Fits image p
  own = f c.pid p here (lives_none p (process_at k c.pid) here (caller_lives words k c a))

  planned : (pid : ℕ) (q : Process) → process_at (plan_of found c p k).kernel pid ≡ Some q → q.status ≡ None → Fits image q
  planned pid q at lives = go (plan-does words k c p a here found c.call)
    where
      putted : (new : Space) → length (image_frames new.tables) ≡ length (image_frames p.space.tables) → (plan_of found c p k).kernel.processes ≡ slice_set k.processes c.pid (record p { space = new }) → Fits image q
      putted new same e = either (put-either k.processes c.pid pid p (record p { space = new }) q here (ap (λ ps. slice_get ps pid) (sym e) ∙ at))
        where
          either : ((c.pid ≡ pid) × (record p { space = new } ≡ q)) ⊎ ((c.pid ≢ pid) × (slice_get k.processes pid ≡ Some q)) → Fits image q
          either (inl g) = ap (λ (x : Process). length (image_frames x.space.tables)) (sym g.1) ∙ same ∙ own
          either (inr g) = f pid q g.1 lives

      forked : (child : Process) → length (image_frames child.space.tables) ≡ length (image_frames p.space.tables)
          → (slice_get k.processes pid ≡ Some q) ⊎ ((pid ≡ length k.processes) × (child ≡ q)) → Fits image q
      forked child same (inl g) = f pid q g lives
      forked child same (inr g) = ap (λ (x : Process). length (image_frames x.space.tables)) (sym g.1) ∙ same ∙ own

      go : Does k c.pid p c.call (plan_of found c p k) → Fits image q
      go (Leaves b e s) = f pid q (ap (λ ps. slice_get ps pid) (sym e) ∙ at) lives
      go (Puts new b e s t) = putted new s.image e
      go (Forks number child x y b e s) = forked child s.image (get-either k.processes child pid q (ap (λ ps. slice_get ps pid) (sym e) ∙ at))
      go (Shares count address new x y b e s) = putted new s.image e

returned : (image : List ℕ) (k m : KernelState) (at : ℕ) (p new : Process) → process_at k at ≡ Some p → m.processes ≡ slice_set k.processes at new → Returned p new → ImagesFit image k → ImagesFit image m
returned image k m at p new here e back f pid q there lives = either (put-either k.processes at pid p new q here (ap (λ ps. slice_get ps pid) (sym e) ∙ there))
  where
    either : ((at ≡ pid) × (new ≡ q)) ⊎ ((at ≢ pid) × (slice_get k.processes pid ≡ Some q)) → Fits image q
    either (inl g) =
        let b = back (ap (λ (x : Process). x.status) g.1 ∙ lives) in
        ap (λ (x : Process). length (image_frames x.space.tables)) (sym g.1)
        ∙ ap (λ (ms : List Mapped). length (map frame_of_page (filter (λ (m : Mapped). is_image_or_stack m.number) ms))) b.1 ∙ f at p here b.0
    either (inr g) = f pid q g.1 lives

images-keep : (image : List ℕ) → Keeps (ImagesFit image)
images-keep image = record {
  same = λ k m s f pid q at lives. f pid q (ap (λ ps. slice_get ps pid) (sym s.processes) ∙ at) lives;
  plans = λ words found k c p a here all f pid q at lives. planned image words found k c p a here f pid q at lives;
  returns = λ k m at p new here config journal e back f. returned image k m at p new here e back f;
}

pub steps_keep_images : StepsKeepImages
steps_keep_images words image old new shows fits step told f = step-keeps (ImagesFit image) (images-keep image) words old new shows fits step told f

-- ---- runs
opens-images : (image : Image) (config : Config) → length (image_frames (lay_all (all_pages (image_pages image)) (rooted config)).tables) ≡ length (pages image) + stack_size → ImagesFit (pages image) (open_kernel image config)
unfolding open_kernel
opens-images image config e zero q at lives =
    ap (λ (x : Process). length (image_frames x.space.tables)) (sym (some_same (first_process config (lay_all (all_pages (image_pages image)) (rooted config)).tables) q at)) ∙ e
opens-images image config e (suc pid) q at lives = absurd (let z : ⊥ = grind (arith, at) in z)

starts-images : (image : Image) (config : Config) → 1 ≤ config.harts → length (image_frames (lay_all (all_pages (image_pages image)) (rooted config)).tables) ≡ length (pages image) + stack_size
    → StandsWith (ImagesFit (pages image)) (images-keep (pages image)) (start_of image config)
unfolding start_of
starts-images image config some e =
    record { kernel = open_kernel image config; has = start_has_kernel image config (open_kernel image config); told = opens-fit image config some; kept = opens-images image config e }

pub the-kernel : (s : State) (j k : KernelState) → HasKernel s j → HasKernel s k → j ≡ k
the-kernel s j k a b = let same : j ∷ [] ≡ k ∷ [] = sym a.one ∙ b.one in (let q : j ≡ k = grind (arith, same) in q)

pub runs_fit_images : RunsFitImages
runs_fit_images file image config picks k fit is_image room has =
    let r = ranges config fit in
    let w = runs-keep (ImagesFit (pages image)) (images-keep (pages image)) picks (first_ran image config) (started-both file image config fit is_image room)
    (starts-images image config r.harts (start-images image config r (none_below file image is_image) room)) in
    subst (ImagesFit (pages image)) (the-kernel _ w.kernel k w.has has) w.kept
