-- Each entry of a run is answered by the rule of refusals.
use Rattle.std.proofs.Common.{ℕ, ◌+◌, ◌≡◌, ◌⊎◌, inl, inr, Bool, true, false, Option, Some, None, is_some, List, [], ◌∷◌, ◌++◌, take, slice_get, arith, refl, sym, ap, subst, ◌∙◌}
use Rattle.std.specs.Option.{option_map_or}
use Rattle.osc_word.specs.declared.calls.Answer.{Answer}
use Rattle.osc_word.specs.declared.calls.Call.{Call}
use Rattle.osc_word.specs.declared.calls.Call.TheVariants as calls
use Rattle.osc_word.specs.declared.calls.Entry.{Entry}
use Rattle.osc_word.specs.declared.steps.Label.{Label}
use Rattle.osc_image.specs.Image.{pages}
use Rattle.osc_paging.specs.KeptTables.{KeptTables}
use Rattle.osc_space.specs.Header.{Found}
use Rattle.osc_calls.specs.declared.HartRecord.TheVariants.{Runs}
use Rattle.osc_calls.specs.declared.Begun.{Begun}
use Rattle.osc_calls.specs.declared.Begun.TheVariants as begun
use Rattle.osc_calls.specs.Kernel.{KernelState, Process, Calling, Waiting, process_at, is_last, idle_hart}
use Rattle.osc_calls.specs.Requests.{calling_of, meant}
use Rattle.osc_calls.specs.Refusals.{refusal_of}
use Rattle.osc_calls.specs.Planned.{planned_unless}
use Rattle.osc_calls.specs.WritePlan.{write_by, first_unreadable, write_count}
use Rattle.osc_calls.specs.ProcessPlans.{done_by, value_left, fork_done, spawn_done, share_done}
use Rattle.osc_calls.specs.Plan.{plan_meant, plan_of, journal_entry, plan_by, plan}
use Rattle.osc_calls.specs.Begin.{no_words, begun_in, begin_as, begin_call, begin}
use Rattle.osc_calls.specs.JobDone.{job_done}
use Rattle.osc_settled.specs.Records.{is_living}
use Rattle.osc_settled.specs.KernelFits.{KernelFits}
use Rattle.osc_settled.proofs.Beginning.{asks_as}
use Rattle.osc_settled.proofs.Outcomes.{asks, caller_lives}
use Rattle.osc_machine.specs.Parts.{State}
use Rattle.osc_machine.specs.Step.{step}
use Rattle.osc_machine.specs.Run.{Ran, with_step, at}
use Rattle.osc_machine.specs.Start.{start_of}
use Rattle.osc_machine.specs.Views.{kernel_of, journal_of}
use Rattle.osc_machine.specs.Refusals.{setting_of, refusal_told, faults, IsAnswered}
use Rattle.osc_machine.proofs.KernelLaws.{kernel_seen}
use Rattle.osc_safe.specs.KernelSteps.{KernelStep, Kept, Begins, Plans, EndsJob, Finishes}
use Rattle.osc_safe.proofs.KernelRows.{kernels_step}
use Rattle.osc_safe.proofs.Moments.{further}
use Rattle.osc_safe.proofs.StandingRuns.{Both, first_ran, started-both, both_on}
use Rattle.osc_ledger.specs.Replays.{ReplayFits}
use Rattle.osc_ledger.specs.Wanting.{FramesTold, setting, is_committed, RunsAnswerByRule}
use Rattle.osc_ledger.proofs.ByRule.{plans_answer_by_rule}
use Rattle.osc_ledger.proofs.ReplaySteps.{IsUncommitted, same-waiting, room-there, fits-waiting, finish-left}
use Rattle.osc_ledger.proofs.ReplayRuns.{Stand, stands-at}

-- ---- the journal in a plan
write-journal : (bad : Option ℕ) (t : KeptTables) (buf count : ℕ) (k : KernelState) → (write_by bad t buf count k).kernel.journal ≡ k.journal
write-journal (Some address) t buf count k = refl
write-journal None t buf count k = refl

done-journal : (last : Bool) (thread : Option ℕ) (value : ℕ) (c : Calling) (k : KernelState) → (done_by last c (value_left thread value k)).kernel.journal ≡ k.journal
done-journal true None value c k = refl
done-journal true (Some number) value c k = refl
done-journal false None value c k = refl
done-journal false (Some number) value c k = refl

fork-journal : (r : Option Answer) (c : Calling) (p : Process) (k : KernelState) → (planned_unless r k (fork_done c p k)).kernel.journal ≡ k.journal
fork-journal None c p k = refl
fork-journal (Some a) c p k = refl

spawn-journal : (r : Option Answer) (c : Calling) (p : Process) (pc sp arg : ℕ) (k : KernelState) → (planned_unless r k (spawn_done c p pc sp arg k)).kernel.journal ≡ k.journal
spawn-journal None c p pc sp arg k = refl
spawn-journal (Some a) c p pc sp arg k = refl

share-journal : (r : Option Answer) (c : Calling) (p : Process) (count : ℕ) (k : KernelState) → (planned_unless r k (share_done c p count k)).kernel.journal ≡ k.journal
share-journal None c p count k = refl
share-journal (Some a) c p count k = refl

plan-journal : (found : Found) (c : Calling) (p : Process) (k : KernelState) (call : Call) → (plan_meant found c p k call).kernel.journal ≡ k.journal
plan-journal found c p k (calls.Exit status) = refl
plan-journal found c p k (calls.Write buf len) = write-journal (first_unreadable p.space.tables buf (write_count k.output len)) p.space.tables buf (write_count k.output len) k
plan-journal found c p k (calls.Malloc size) = refl
plan-journal found c p k (calls.Free pointer) = refl
plan-journal found c p k (calls.Realloc pointer size) = refl
plan-journal found c p k calls.Fork = fork-journal (refusal_of calls.Fork p k) c p k
plan-journal found c p k (calls.Spawn pc sp arg) = spawn-journal (refusal_of (calls.Spawn pc sp arg) p k) c p pc sp arg k
plan-journal found c p k (calls.Join number) = refl
plan-journal found c p k (calls.Done value) = done-journal (is_last k.records c.pid) c.thread value c k
plan-journal found c p k (calls.Share count) = share-journal (refusal_of (calls.Share count) p k) c p count k
plan-journal found c p k (calls.Wait number) = refl
plan-journal found c p k (calls.Unknown number) = refl
plan-journal found c p k (calls.End fault) = refl

-- ---- lists that end in one more
tail-same : {X : Type 0} (y : X) (a b : List X) → y ∷ a ≡ y ∷ b → a ≡ b
tail-same y a b e = cc

not-longer : {X : Type 0} {A : Type 0} (xs : List X) (x : X) → xs ≡ xs ++ x ∷ [] → A
not-longer [] x e = absurd (let z : ⊥ = grind (arith, e) in z)
not-longer (y ∷ xs) x e = not-longer xs x (tail-same y xs (xs ++ x ∷ []) e)

last-same : {X : Type 0} (xs : List X) (x y : X) → xs ++ x ∷ [] ≡ xs ++ y ∷ [] → x ≡ y
last-same [] x y e = cc
last-same (z ∷ xs) x y e = last-same xs x y (tail-same z (xs ++ x ∷ []) (xs ++ y ∷ []) e)

-- ---- a step that enters a call
record Entered (words : List ℕ) (old : KernelState) (entry : Entry) : Type 0 where
  calling : Calling
  process : Process
  found : Found
  committing : is_committed old.under_way ≡ false
  fits : KernelFits words (record old { under_way = Waiting calling })
  told : ReplayFits (record old { under_way = Waiting calling })
  here : process_at old calling.pid ≡ Some process
  is : entry ≡ journal_entry calling (plan_of found calling process (record old { under_way = Waiting calling })).answer

planned-enters : (words : List ℕ) (old : KernelState) (c : Calling) (found : Found) (entry : Entry) → is_committed old.under_way ≡ false
    → KernelFits words (record old { under_way = Waiting c }) → ReplayFits (record old { under_way = Waiting c })
    → (plan found (record old { under_way = Waiting c })).kernel.journal ≡ old.journal ++ entry ∷ [] → Entered words old entry
unfolding plan
planned-enters words old c found entry before fits told e = go (process_at old c.pid) refl e
  where
    k : KernelState
    k = record old { under_way = Waiting c }

    go : (o : Option Process) → process_at old c.pid ≡ o → (plan_by found c o (record old { under_way = Waiting c })).kernel.journal ≡ old.journal ++ entry ∷ [] → Entered words old entry
    go None at f = absurd (let z = sym (caller_lives words (record old { under_way = Waiting c }) c (asks words (record old { under_way = Waiting c }) c fits refl)) ∙ ap is_living at in let w : ⊥ = grind (arith, z) in w)
    go (Some p) at f =
        let m = record old { under_way = Waiting c } in
        let made = plan_of found c p m in record {
          calling = c;
          process = p;
          found = found;
          committing = before;
          fits = fits;
          told = told;
          here = at;
          is = last-same old.journal entry (journal_entry c made.answer) (sym f ∙ ap (λ js. js ++ journal_entry c made.answer ∷ []) (plan-journal found c p m (meant c.call)));
        }

enters : (words : List ℕ) (old new : KernelState) (shows : List Label) (entry : Entry) → KernelFits words old → ReplayFits old → KernelStep old new shows → new.journal ≡ old.journal ++ entry ∷ [] → Entered words old entry
unfolding begin job_done
enters words old new shows entry fits told (Kept e q) f = not-longer old.journal entry (sym (ap (λ (k : KernelState). k.journal) e) ∙ f)
enters words old new shows entry fits told (EndsJob word job n e q) f = not-longer old.journal entry (sym (ap (λ (k : KernelState). k.journal) e) ∙ f)
enters words old new shows entry fits told (Finishes n e q) f = not-longer old.journal entry (sym (ap (λ (k : KernelState). k.journal) e ∙ (finish-left old).journal) ∙ f)
enters words old new shows entry fits told (Plans found c u e q) f =
    let same : old ≡ record old { under_way = Waiting c } = λ i. record old { under_way = u i } in
    planned-enters words old c found entry (ap is_committed u) (subst (KernelFits words) same fits) (subst ReplayFits same told)
    (ap (λ k. (plan found k).kernel.journal) (sym same) ∙ sym (ap (λ (k : KernelState). k.journal) e) ∙ f)
enters words old new shows entry fits told (Begins hart regs pc asked u e q) f = called (calling_of hart regs pc asked (slice_get old.records hart)) refl (sym (ap (λ (k : KernelState). k.journal) e) ∙ f)
  where
    by : (b : Begun) (c : Calling) → (b ≡ begun.Planned → KernelFits words (record old { under_way = Waiting c })) → (begin_as b c old).kernel.journal ≡ old.journal ++ entry ∷ [] → Entered words old entry
    by begun.Planned c w g = planned-enters words old c no_words entry (ap is_committed u) (w refl) (same-waiting old c (subst IsUncommitted (sym u) tt) told) g
    by begun.Again c w g = not-longer old.journal entry g
    by begun.JournalFull c w g = not-longer old.journal entry g
    by begun.Gone c w g = not-longer old.journal entry g
    by begun.Boxes c w g = not-longer old.journal entry g
    by (begun.Header first second) c w g = not-longer old.journal entry g

    called : (o : Option Calling) → calling_of hart regs pc asked (slice_get old.records hart) ≡ o → (begin_call hart o old).kernel.journal ≡ old.journal ++ entry ∷ [] → Entered words old entry
    called None z g = not-longer old.journal entry g
    called (Some c) z g =
        by (begun_in (process_at old c.pid) c old) c
        (λ b. (let who = asks_as hart pc regs asked (slice_get old.records hart) c z in
        fits-waiting words old c fits u (room-there (process_at old c.pid) c old b) (subst (λ h. slice_get old.records h ≡ Some (Runs c.pid c.thread)) who.1 who.0))) g

-- ---- the rule
entry-answers : (words image : List ℕ) (k : KernelState) (entry : Entry) → Entered words k entry → FramesTold (setting k image) k → faults entry.call entry.answer ≡ false
    → IsAnswered (refusal_told (setting k image) k.journal (is_some (idle_hart k.records)) entry.pid entry.call) entry.call entry.answer
entry-answers words image k entry e t h =
    let m = record k { under_way = Waiting e.calling } in
    let frames : FramesTold (setting m image) m = record { unused = t.unused; each = t.each } in
    subst (λ (x : Entry). faults x.call x.answer ≡ false → IsAnswered (refusal_told (setting k image) k.journal (is_some (idle_hart k.records)) x.pid x.call) x.call x.answer) (sym e.is)
    (λ g. plans_answer_by_rule words image e.found m e.calling e.process e.fits refl e.here e.told (λ w. frames) g) h

pub runs_answer_by_rule : RunsAnswerByRule
runs_answer_by_rule file image config picks fit is_image room frames i k entry seen more h =
    go (further (start_of image config) picks i)
  where
    ran : Ran
    ran = at (start_of image config) picks i

    w : Stand config ran.state
    w = stands-at file image config (take i picks) fit is_image room

    both : Both ran
    both = both_on (take i picks) (first_ran image config) (started-both file image config fit is_image room)

    same : w.kernel ≡ k
    same = some (kernel_seen ran.state w.kernel w.has)
      where
        some : kernel_of ran.state ≡ Some w.kernel → w.kernel ≡ k
        some e = let f : Some w.kernel ≡ Some k = sym e ∙ seen in cc

    journal-is : (s : State) (j : KernelState) → kernel_of s ≡ Some j → journal_of s ≡ j.journal
    journal-is s j e = ap (λ o. option_map_or (λ (x : KernelState). x.journal) o []) e

    told-config : k.config ≡ config
    told-config = ap (λ (x : KernelState). x.config) (sym same) ∙ w.same

    frames-told : is_committed w.kernel.under_way ≡ false → FramesTold (setting w.kernel (pages image)) w.kernel
    frames-told before = subst (λ c. FramesTold (record { config = c; image = pages image }) w.kernel) (sym w.same) (frames i w.kernel w.has before)

    answered : (words : List ℕ) → Entered words w.kernel entry → IsAnswered (refusal_told (setting_of image config) k.journal (is_some (idle_hart k.records)) entry.pid entry.call) entry.call entry.answer
    answered words e =
        subst (λ c. IsAnswered (refusal_told (record { config = c; image = pages image }) k.journal (is_some (idle_hart k.records)) entry.pid entry.call) entry.call entry.answer) told-config
        (subst (λ (x : KernelState). IsAnswered (refusal_told (record { config = x.config; image = pages image }) x.journal (is_some (idle_hart x.records)) entry.pid entry.call) entry.call entry.answer) same
        (entry-answers words (pages image) w.kernel entry e (frames-told e.committing) h))

    go : (at (start_of image config) picks (i + 1) ≡ ran) ⊎ ((x : ℕ) × (slice_get picks i ≡ Some x) × (at (start_of image config) picks (i + 1) ≡ with_step ran (step ran.state x)))
        → IsAnswered (refusal_told (setting_of image config) k.journal (is_some (idle_hart k.records)) entry.pid entry.call) entry.call entry.answer
    go (inl e) = not-longer k.journal entry (sym (journal-is ran.state k seen) ∙ sym (ap (λ (r : Ran). journal_of r.state) e) ∙ more)
    go (inr e) =
        let g = kernels_step ran.state e.0 w.kernel both.holds both.stands w.has in
        let after = ap (λ (r : Ran). journal_of r.state) e.2 in
        let next = journal-is (step ran.state e.0).state g.next (kernel_seen (step ran.state e.0).state g.next g.has) in
        answered g.fits.words
        (enters g.fits.words w.kernel g.next (step ran.state e.0).shows entry g.fits.fits w.fit g.goes
        (sym next ∙ sym after ∙ more ∙ ap (λ (x : KernelState). x.journal ++ entry ∷ []) (sym same)))
