-- The frames that the journal tells are the kernel's, in every run.
use Rattle.std.proofs.Common.{ℕ, ◌+◌, ◌/◌, ◌≡◌, ◌<◌, ◌≤◌, Bool, true, false, Some, None, Ok, List, [], ◌∷◌, length, map, take, slice_get, arith, refl, sym, ap, subst, ◌∙◌}
use Rattle.osc_word.specs.declared.settings.Config.{Config}
use Rattle.osc_word.specs.declared.settings.HeapKind.{HeapKind}
use Rattle.osc_word.specs.declared.settings.HeapKind.TheVariants.{Oscar, Plain}
use Rattle.osc_word.specs.Limits.{first_fault}
use Rattle.osc_word.specs.AddressMap.{first_shared_page, first_shadow_page}
use Rattle.osc_class.specs.declared.Room.{Room}
use Rattle.osc_image.specs.Image.{Image, pages}
use Rattle.osc_image.specs.Frames.{needed_frames}
use Rattle.osc_image.specs.Form.{image_of}
use Rattle.osc_slot.specs.Slots.{need as block_need}
use Rattle.osc_slot.specs.Heap.{next_block, free_count}
use Rattle.osc_slot.proofs.Backing.{free_count-le}
use Rattle.osc_paging.specs.KeptTables.{KeptTables, need}
use Rattle.osc_space.specs.Objects.{mark, next_page}
use Rattle.osc_space.specs.Space.{Space, Closing, Keeps}
use Rattle.osc_space.specs.Fork.{private_frames}
use Rattle.osc_space.specs.Share.{next_shared_page}
use Rattle.osc_space.specs.Finish.{finished}
use Rattle.osc_space.specs.Agree.{PlainAgrees, HeapAgrees}
use Rattle.osc_parts.specs.Settled.{PartsFit}
use Rattle.osc_calls.specs.Kernel.{KernelState, Process, UnderWay, Quiet, Retrying, Leaving, Waiting, Returning, process_at}
use Rattle.osc_settled.specs.Memory.{at_rest}
use Rattle.osc_settled.specs.UnderWay.{closing_of}
use Rattle.osc_settled.specs.KernelFits.{KernelFits}
use Rattle.osc_machine.specs.Run.{run, at}
use Rattle.osc_machine.specs.Start.{start_of}
use Rattle.osc_machine.specs.Laws.{HasKernel}
use Rattle.osc_machine.specs.Replay.{Ledger, ledger_at, replay}
use Rattle.osc_machine.specs.Refusals.{Setting, setting_of, region_pages, process_frames, new_tables}
use Rattle.osc_machine.specs.Agreements.{account_told, account_kept}
use Rattle.osc_safe.proofs.KernelRows.{kernels_step}
use Rattle.osc_safe.proofs.StandingRuns.{Both, first_ran, started-both, both_on}
use Rattle.osc_ledger.specs.Replays.{ReplayFits, processes_then}
use Rattle.osc_ledger.specs.Tables.{TablesTold}
use Rattle.osc_ledger.specs.Wanting.{WantsFit, FramesTold, is_committed, setting}
use Rattle.osc_ledger.proofs.ReplaySteps.{IsUncommitted, uncommitted}
use Rattle.osc_ledger.proofs.ReplayRuns.{Stand, stands-at, runs_fit_replay}
use Rattle.osc_ledger.proofs.Returned.{account-at, kept-ledger}
use Rattle.osc_ledger.proofs.ShadowSteps.{runs_fit_shadows}
use Rattle.osc_ledger.proofs.NeedTold.{shadow_need_is_told, region_need_is_told}
use Rattle.osc_ledger.proofs.RunsByRule.{runs_answer_by_rule}
use Rattle.osc_tabled.specs.Tabled.{TablesFit, RunsFitTables}
use Rattle.osc_tabled.specs.Counts.{TablesAreCounted}
use Rattle.osc_tabled.specs.PlainNeeds.{PlainNeedIsTold}
use Rattle.osc_counted.specs.Told.{HasCount, CountsTold, TablesNumber, RunsTellUnused}
use Rattle.osc_refusals.specs.Refused.{RunsTellFrames, RunsRefuseByRule}
use Rattle.osc_refusals.proofs.Few.{shared-few}

-- ---- a kernel whose call under way is not committed gives nothing back
pub not-committed : (u : UnderWay) → is_committed u ≡ false → IsUncommitted u
not-committed Quiet e = tt
not-committed Retrying e = tt
not-committed (Leaving c) e = tt
not-committed (Waiting c) e = tt
not-committed (Returning done) e = absurd (let z : ⊥ = grind (arith, e) in z)

keeps-all : (u : UnderWay) (pid : ℕ) → is_committed u ≡ false → closing_of u pid ≡ Keeps
keeps-all Quiet pid e = refl
keeps-all Retrying pid e = refl
keeps-all (Leaving c) pid e = refl
keeps-all (Waiting c) pid e = refl
keeps-all (Returning done) pid e = absurd (let z : ⊥ = grind (arith, e) in z)

parts-now : (k : KernelState) (closing : Closing) (s : Space) → closing ≡ Keeps
    → PartsFit k.config.heap k.config.batch k.regions (finished closing (at_rest s k.free)).space (finished closing (at_rest s k.free)).free
    → PartsFit k.config.heap k.config.batch k.regions s k.free
unfolding finished
parts-now k closing s e h = subst (λ c. PartsFit k.config.heap k.config.batch k.regions (finished c (at_rest s k.free)).space (finished c (at_rest s k.free)).free) e h

-- ---- one kernel
module _ (counted : TablesAreCounted) (plain : PlainNeedIsTold) (words image : List ℕ) (k : KernelState) (fits : KernelFits words k)
    (calm : is_committed k.under_way ≡ false) (replayed : ReplayFits k) (tabled : TablesFit image k) where
  abbrev s : Setting
  s = setting k image

  all-told : map account_told (replay k.config k.journal) ≡ map account_kept k.processes
  all-told = replayed.accounts ∙ ap (map account_kept) (uncommitted k (not-committed k.under_way calm))

  module _ (pid : ℕ) (p : Process) (here : process_at k pid ≡ Some p) (lives : p.status ≡ None) where
    abbrev l : Ledger
    l = ledger_at (replay k.config k.journal) pid

    told : TablesTold s l p.space.tables
    told = tabled pid p (subst (λ (ps : List Process). slice_get ps pid ≡ Some p) (sym (uncommitted k (not-committed k.under_way calm))) here) lives

    parts : PartsFit k.config.heap k.config.batch k.regions p.space k.free
    parts = parts-now k (closing_of k.under_way pid) p.space (keeps-all k.under_way pid calm) (fits.memory.spaces pid p here lives).returns.parts

    objects-are : l.objects ≡ p.space.objects
    objects-are = ap (λ (m : Ledger). m.objects) (kept-ledger l p (account-at (replay k.config k.journal) k.processes pid p all-told here))

    pub number-is : HasCount s l p.space.tables
    number-is = counted s l p.space.tables (let t = parts.levels in omega (arith, t)) (fits.memory.spaces pid p here lives).tables.apart told

    over-shadows : (count : ℕ) → new_tables s l (next_page p.space.objects) count ≡ need p.space.tables (next_page p.space.objects) count
    over-shadows count = subst (λ os. new_tables s l (next_page os) count ≡ need p.space.tables (next_page os) count) objects-are (shadow_need_is_told s l p.space.tables count told)

    over-regions : (count : ℕ) → count ≤ free_count k.free
        → new_tables s l (first_shared_page + region_pages l.regions) count ≡ need p.space.tables (next_shared_page p.space.tables) count
    over-regions count few =
        let was = fits.memory.spaces pid p here lives in
        let shared = shared-few p.space k.free was.frames in
        let small = was.tables.small in
        let frames = free_count-le k.free in
        region_need_is_told s l p.space.tables count told (omega (arith, few, shared, small, frames))

    over-blocks : (room : Room) → k.config.heap ≡ Plain
        → new_tables s l ((next_block p.space.heap room).start / 4096) (block_need p.space.heap.frames p.space.heap.held room)
        ≡ need p.space.tables ((next_block p.space.heap room).start / 4096) (block_need p.space.heap.frames p.space.heap.held room)
    over-blocks room heap =
        let agrees : PlainAgrees p.space = subst (λ h. HeapAgrees h p.space) heap parts.agrees.heap in
        plain s l p.space.tables _ _ (objects-are ∙ agrees.objects) told

    pub wants-fit : p.space.shadows ≡ k.config.shadows → process_frames s l ≡ length (private_frames p.space (length k.free)) → WantsFit s k.free l p
    wants-fit shadows private = record {
      shadows = shadows;
      private = private;
      over_shadows = λ count heap few. over-shadows count;
      over_regions = over-regions;
      over_blocks = λ room heap few. over-blocks room heap;
    }

-- ---- runs
the-kernel : (a b k : KernelState) (rest : List KernelState) → rest ≡ a ∷ [] → rest ≡ b ∷ [] → a ≡ b
the-kernel a b k rest e f = let same : a ∷ [] ≡ b ∷ [] = sym e ∙ f in (let q : a ≡ b = grind (arith, same) in q)

module _ (tables : RunsFitTables) (unused : RunsTellUnused) (counted : TablesAreCounted) (plain : PlainNeedIsTold) where
  pub runs-tell-frames : RunsTellFrames
  runs-tell-frames file image config picks k valid taken enough has calm =
      subst (λ (c : Config). FramesTold (record { config = c; image = pages image }) k) same
      (record { unused = counts.unused; each = λ pid p here lives. wants-fit counted plain words (pages image) k fits calm replayed tabled pid p here lives (shadows pid p here) (counts.private pid p here lives) })
    where
      w : Stand config (run (start_of image config) picks).state
      w = stands-at file image config picks valid taken enough

      same : k.config ≡ config
      same = ap (λ (x : KernelState). x.config) (the-kernel k w.kernel k _ has.one w.has.one) ∙ w.same

      both : Both (run (start_of image config) picks)
      both = both_on picks (first_ran image config) (started-both file image config valid taken enough)

      words : List ℕ
      words = (kernels_step (run (start_of image config) picks).state 0 k both.holds both.stands has).fits.words

      fits : KernelFits words k
      fits = (kernels_step (run (start_of image config) picks).state 0 k both.holds both.stands has).fits.fits

      replayed : ReplayFits k
      replayed = runs_fit_replay file image config picks k valid taken enough has

      tabled : TablesFit (pages image) k
      tabled = tables file image config picks k valid taken enough has

      shadows : (pid : ℕ) (p : Process) → process_at k pid ≡ Some p → p.space.shadows ≡ k.config.shadows
      shadows = runs_fit_shadows file image config picks k valid taken enough has

      counts : CountsTold (setting k (pages image)) k
      counts =
          subst (λ (c : Config). CountsTold (record { config = c; image = pages image }) k) (sym same)
          (unused file image config picks k valid taken enough has calm
          (subst (λ (c : Config). TablesNumber (record { config = c; image = pages image }) k) same
          (λ pid p here lives. number-is counted plain words (pages image) k fits calm replayed tabled pid p here lives)))

  pub runs-refuse-by-rule : RunsRefuseByRule
  runs-refuse-by-rule file image config picks valid taken enough =
      runs_answer_by_rule file image config picks valid taken enough
      (λ i k has calm. runs-tell-frames file image config (take i picks) k valid taken enough has calm)
