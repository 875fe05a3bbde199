-- The frames of regions, and all frames in use, counted.
use Rattle.std.proofs.Common.{ℕ, zero, suc, ◌+◌, ◌-◌, ◌≡◌, ◌<◌, ◌≤◌, Bool, true, false, cond, Option, Some, None, is_some, List, [], ◌∷◌, ◌++◌, length, map, filter, slice_get, arith, refl, sym, ap, subst, ◌∙◌}
use Rattle.std.specs.Prelude.{sum_by}
use Rattle.std.specs.List.{flat_map}
use Rattle.std.proofs.lemmas.List.Sums.{sum_by-cons}
use Rattle.osc_word.specs.declared.settings.Config.{Config}
use Rattle.osc_word.specs.AddressMap.{is_image_or_stack, is_shared}
use Rattle.osc_image.specs.Image.{pages}
use Rattle.osc_slot.specs.Heap.{free_count}
use Rattle.osc_paging.specs.declared.Mapped.{Mapped}
use Rattle.osc_space.specs.Fork.{table_frame_of, heap_frame_of, frame_of_page, image_frames, frames_owned}
use Rattle.osc_space.specs.Share.{holders, shared_frames}
use Rattle.osc_parts.specs.Frames.{among, frames_held}
use Rattle.osc_calls.specs.Kernel.{KernelState, Process, process_at}
use Rattle.osc_settled.specs.Memory.{shared_by, shared, one_if, IsBare}
use Rattle.osc_settled.specs.FollowLaws.{held_count, region_count}
use Rattle.osc_settled.specs.KernelFits.{KernelFits}
use Rattle.osc_settled.proofs.Totals.{frames_add_up}
use Rattle.osc_machine.specs.Run.{run}
use Rattle.osc_machine.specs.Start.{start_of}
use Rattle.osc_machine.specs.Replay.{Region, Ledger, ledger_at, replay}
use Rattle.osc_machine.specs.Agreements.{Account, account_told, account_kept}
use Rattle.osc_machine.specs.Refusals.{Setting, setting_of, living_frames, process_frames, region_frames, used, unused}
use Rattle.osc_safe.proofs.KernelRows.{kernels_step}
use Rattle.osc_safe.proofs.StandingRuns.{first_ran, started-both, both_on}
use Rattle.osc_ledger.specs.Replays.{ReplayFits}
use Rattle.osc_ledger.specs.Wanting.{setting, is_committed}
use Rattle.osc_ledger.proofs.ReplayRuns.{stands-at}
use Rattle.osc_counted.specs.Images.{ImagesFit}
use Rattle.osc_counted.specs.Regions.{Givers, times, AreGiven, regions_told, RegionsTold, regions_of, RegionsAreCounted}
use Rattle.osc_counted.specs.Told.{HasCount, TablesNumber, UnusedAreFree, CountsTold, RunsTellUnused}
use Rattle.osc_counted.proofs.Counting.{total, total-same, total-regions, times-append, given-counted}
use Rattle.osc_counted.proofs.Privates.{all-told, held-told, private-told}
use Rattle.osc_counted.proofs.ImageSteps.{the-kernel, runs_fit_images}
use Rattle.osc_counted.proofs.RegionSteps.{runs_tell_regions}

-- ---- ledgers beside their processes
heads : (x y : Account) (xs ys : List Account) → x ∷ xs ≡ y ∷ ys → x ≡ y
heads x y xs ys e = cc

tails : (x y : Account) (xs ys : List Account) → x ∷ xs ≡ y ∷ ys → xs ≡ ys
tails x y xs ys e = cc

abbrev regions_by : Bool → List Region → List Region
regions_by over regions = cond over [] regions

-- what so many ledgers tell of a frame's region is what their processes have of it
shared-told : (x : Option ℕ) (f : ℕ) (ls : List Ledger) (ps : List Process) → map account_told ls ≡ map account_kept ps
    → ((pid : ℕ) (p : Process) → slice_get ps pid ≡ Some p → p.status ≡ None → among f (shared_frames p.space.tables) ≡ times x (ledger_at ls pid).regions)
    → ((pid status : ℕ) (p : Process) → slice_get ps pid ≡ Some p → p.status ≡ Some status → among f (shared_frames p.space.tables) ≡ 0)
    → shared f ps ≡ times x (regions_of ls)
shared-told x f [] [] e living ended = refl
shared-told x f [] (p ∷ ps) e living ended = absurd (let z : ⊥ = grind (arith, e) in z)
shared-told x f (l ∷ ls) [] e living ended = absurd (let z : ⊥ = grind (arith, e) in z)
shared-told x f (l ∷ ls) (p ∷ ps) e living ended =
    let later = shared-told x f ls ps (tails (account_told l) (account_kept p) (map account_told ls) (map account_kept ps) e)
    (λ pid q at lives. living (suc pid) q at lives) (λ pid status q at over. ended (suc pid) status q at over) in
    let here = own p.status refl (ap (λ (a : Account). a.over) (heads (account_told l) (account_kept p) (map account_told ls) (map account_kept ps) e)) in
    let split = times-append x (regions_by l.over l.regions) (regions_of ls) in
    let sum = sum_by-cons (shared_by f) p ps in
    omega (arith, later, here, split, sum)
  where
    own : (s : Option ℕ) → p.status ≡ s → l.over ≡ is_some p.status → shared_by f p ≡ times x (regions_by l.over l.regions)
    own None s o = living 0 p refl s ∙ sym (ap (λ b. times x (regions_by b l.regions)) (o ∙ ap (λ (z : Option ℕ). is_some z) s))
    own (Some status) s o = ended 0 status p refl s ∙ sym (ap (λ b. times x (regions_by b l.regions)) (o ∙ ap (λ (z : Option ℕ). is_some z) s))

given-both : (givers : Givers) (calls count : ℕ) (rs ss : List Region) → AreGiven givers calls count rs → AreGiven givers calls count ss → AreGiven givers calls count (rs ++ ss)
given-both givers calls count [] ss g h = h
given-both givers calls count (r ∷ rs) ss g h = (g.0, g.1, given-both givers calls count rs ss g.2 h)

given-told : (givers : Givers) (calls count : ℕ) (ls : List Ledger) (ps : List Process) → map account_told ls ≡ map account_kept ps
    → ((pid : ℕ) (p : Process) → slice_get ps pid ≡ Some p → p.status ≡ None → AreGiven givers calls count (ledger_at ls pid).regions)
    → AreGiven givers calls count (regions_of ls)
given-told givers calls count [] ps e living = tt
given-told givers calls count (l ∷ ls) [] e living = absurd (let z : ⊥ = grind (arith, e) in z)
given-told givers calls count (l ∷ ls) (p ∷ ps) e living =
    given-both givers calls count (regions_by l.over l.regions) (regions_of ls)
    (own p.status refl (ap (λ (a : Account). a.over) (heads (account_told l) (account_kept p) (map account_told ls) (map account_kept ps) e)))
    (given-told givers calls count ls ps (tails (account_told l) (account_kept p) (map account_told ls) (map account_kept ps) e) (λ pid q at lives. living (suc pid) q at lives))
  where
    own : (s : Option ℕ) → p.status ≡ s → l.over ≡ is_some p.status → AreGiven givers calls count (regions_by l.over l.regions)
    own None s o = subst (λ b. AreGiven givers calls count (regions_by b l.regions)) (sym (o ∙ ap (λ (z : Option ℕ). is_some z) s)) (living 0 p refl s)
    own (Some status) s o = subst (λ b. AreGiven givers calls count (regions_by b l.regions)) (sym (o ∙ ap (λ (z : Option ℕ). is_some z) s)) tt

held-sum : (s : Setting) (ls : List Ledger) (ps : List Process) → map account_told ls ≡ map account_kept ps
    → ((pid : ℕ) (p : Process) → slice_get ps pid ≡ Some p → p.status ≡ None → process_frames s (ledger_at ls pid) ≡ length (frames_held p.space))
    → ((pid status : ℕ) (p : Process) → slice_get ps pid ≡ Some p → p.status ≡ Some status → length (frames_held p.space) ≡ 0)
    → sum_by (living_frames s) ls ≡ held_count ps
held-sum s [] [] e living ended = refl
held-sum s [] (p ∷ ps) e living ended = absurd (let z : ⊥ = grind (arith, e) in z)
held-sum s (l ∷ ls) [] e living ended = absurd (let z : ⊥ = grind (arith, e) in z)
held-sum s (l ∷ ls) (p ∷ ps) e living ended =
    let later = held-sum s ls ps (tails (account_told l) (account_kept p) (map account_told ls) (map account_kept ps) e)
    (λ pid q at lives. living (suc pid) q at lives) (λ pid status q at over. ended (suc pid) status q at over) in
    let here = own p.status refl (ap (λ (a : Account). a.over) (heads (account_told l) (account_kept p) (map account_told ls) (map account_kept ps) e)) in
    let told = sum_by-cons (living_frames s) l ls in
    let kept = sum_by-cons (λ (q : Process). length (frames_held q.space)) p ps in
    omega (arith, later, here, told, kept)
  where
    own : (x : Option ℕ) → p.status ≡ x → l.over ≡ is_some p.status → living_frames s l ≡ length (frames_held p.space)
    own None x o = ap (λ b. cond {A = ℕ} b 0 (process_frames s l)) (o ∙ ap (λ (z : Option ℕ). is_some z) x) ∙ living 0 p refl x
    own (Some status) x o = ap (λ b. cond {A = ℕ} b 0 (process_frames s l)) (o ∙ ap (λ (z : Option ℕ). is_some z) x) ∙ sym (ended 0 status p refl x)

-- ---- processes that have ended
bare-shared : (p : Process) (f : ℕ) → IsBare p.space → among f (shared_frames p.space.tables) ≡ 0
bare-shared p f b = ap (λ (ms : List Mapped). among f (map frame_of_page (filter (λ (m : Mapped). is_shared m.number) ms))) b.pages

bare-held : (p : Process) → IsBare p.space → length (frames_held p.space) ≡ 0
bare-held p b =
    ap (λ ts. length (((map table_frame_of ts ++ map heap_frame_of p.space.heap.pages) ++ image_frames p.space.tables) ++ map table_frame_of p.space.tables.aside)) b.tables
    ∙ ap (λ hs. length ((map heap_frame_of hs ++ image_frames p.space.tables) ++ map table_frame_of p.space.tables.aside)) b.frames
    ∙ ap (λ (ms : List Mapped). length (map frame_of_page (filter (λ (m : Mapped). is_image_or_stack m.number) ms) ++ map table_frame_of p.space.tables.aside)) b.pages
    ∙ ap (λ ts. length (map table_frame_of ts)) b.aside

-- ---- regions
pub regions_are_counted : RegionsAreCounted
regions_are_counted words k fits rest told h =
    sym (total-regions k.regions)
    ∙ ap (total (λ f. one_if (holders k.regions f))) fits.sizes.regions
    ∙ total-same (λ f. one_if (holders k.regions f)) (λ f. one_if (times (h.givers f) (regions_of (replay k.config k.journal)))) k.config.frames (λ f l. ap one_if (fits.memory.holders f ∙ each f))
    ∙ given-counted h.givers (length k.journal) k.config.frames (regions_of (replay k.config k.journal))
    (given-told h.givers (length k.journal) k.config.frames (replay k.config k.journal) k.processes (all-told k rest told) (λ pid p at lives. h.given pid p at lives))
  where
    each : (f : ℕ) → shared f k.processes ≡ times (h.givers f) (regions_of (replay k.config k.journal))
    each f =
        shared-told (h.givers f) f (replay k.config k.journal) k.processes (all-told k rest told)
        (λ pid p at lives. h.maps pid f p at lives) (λ pid status p at over. bare-shared p f (fits.memory.bare pid status p at over))

-- ---- all frames
used-is : (s : Setting) (ls : List Ledger) → used s ls ≡ sum_by (living_frames s) ls + region_frames (regions_of ls)
unfolding used
used-is s ls = refl

pub unused_are_free : UnusedAreFree
unused_are_free words image k fits rest told images regions number =
    let all = frames_add_up words k fits in
    let counted = regions_are_counted words k fits rest told regions in
    let held = held-sum (setting k image) (replay k.config k.journal) k.processes (all-told k rest told)
    (λ pid p at lives. held-told words image k pid p fits rest told images at lives (number pid p at lives))
    (λ pid status p at over. bare-held p (fits.memory.bare pid status p at over)) in
    let is = used-is (setting k image) (replay k.config k.journal) in
    omega (arith, all, counted, held, is)

-- ---- runs
pub runs_tell_unused : RunsTellUnused
runs_tell_unused file image config picks k fit is_image room has rest number =
    let b = both_on picks (first_ran image config) (started-both file image config fit is_image room) in
    let g = kernels_step (run (start_of image config) picks).state 0 k b.holds b.stands has in
    let w = stands-at file image config picks fit is_image room in
    let is : w.kernel ≡ k = the-kernel (run (start_of image config) picks).state w.kernel k w.has has in
    let same : k.config ≡ config = ap (λ (x : KernelState). x.config) (sym is) ∙ w.same in
    let told : ReplayFits k = subst ReplayFits is w.fit in
    let images = runs_fit_images file image config picks k fit is_image room has in
    let regions = runs_tell_regions file image config picks k fit is_image room has in
    let numbers : TablesNumber (setting k (pages image)) k = subst (λ (c : Config). TablesNumber (record { config = c; image = pages image }) k) (sym same) number in
    subst (λ (c : Config). CountsTold (record { config = c; image = pages image }) k) same (record {
      unused = unused_are_free g.fits.words (pages image) k g.fits.fits rest told images regions numbers;
      private = λ pid p at lives. private-told g.fits.words (pages image) k pid p g.fits.fits rest told images at lives (numbers pid p at lives);
    })
