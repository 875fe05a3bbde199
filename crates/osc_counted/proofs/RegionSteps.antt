-- Each step of the kernel keeps which frames are those of regions, and whose, and so it is all along each run.
use Rattle.std.proofs.Common.{ℕ, zero, suc, ◌+◌, ◌≡◌, ◌≢◌, ◌<◌, ◌≤◌, ◌==◌, ◌⊎◌, inl, inr, nat_lt, Bool, true, false, cond, Option, Some, None, Ok, List, [], ◌∷◌, ◌++◌, length, map, filter, slice_get, slice_set, arith, refl, sym, ap, subst, ◌∙◌}
use Rattle.std.specs.Prelude.{slice_index}
use Rattle.std.proofs.lemmas.Bool.Decides.{nat_tests}
use Rattle.std.proofs.lemmas.List.{append-nil, length-append}
use Rattle.std.proofs.lemmas.Option.{slice_get_within}
use Rattle.osc_word.specs.declared.calls.Answer.TheVariants as answers
use Rattle.osc_word.specs.declared.calls.Call.TheVariants as calls
use Rattle.osc_word.specs.declared.settings.Config.{Config}
use Rattle.osc_word.specs.AddressMap.{is_shared}
use Rattle.osc_word.specs.Limits.{first_fault}
use Rattle.osc_image.specs.Image.{Image}
use Rattle.osc_image.specs.Frames.{needed_frames}
use Rattle.osc_image.specs.Form.{image_of}
use Rattle.osc_paging.specs.declared.Mapped.{Mapped}
use Rattle.osc_space.specs.Header.{Found}
use Rattle.osc_space.specs.Space.{Space}
use Rattle.osc_space.specs.Fork.{frame_of_page}
use Rattle.osc_space.specs.Share.{shared_frames}
use Rattle.osc_parts.specs.Frames.{among, vacant}
use Rattle.osc_parts.proofs.Trading.{vacant_once, vacant_there}
use Rattle.osc_calls.specs.Kernel.{KernelState, Process, Calling, process_at}
use Rattle.osc_calls.specs.Planned.{Planned}
use Rattle.osc_calls.specs.Plan.{plan_of, journal_entry, committed}
use Rattle.osc_calls.specs.Open.{first_process, image_pages, all_pages, lay_all, rooted, open_kernel, open_words}
use Rattle.osc_settled.specs.Memory.{shared_by}
use Rattle.osc_settled.specs.KernelFits.{KernelFits}
use Rattle.osc_settled.proofs.Lists.{length-put, get-put_same, get-put_other, some_same, one_within}
use Rattle.osc_settled.proofs.Commits.{lives_none}
use Rattle.osc_settled.proofs.Spawning.{get-either}
use Rattle.osc_settled.proofs.Outcomes.{Asks, caller_lives}
use Rattle.osc_settled.proofs.Laying.{ranges, none_held}
use Rattle.osc_settled.proofs.ImageStart.{images_start}
use Rattle.osc_machine.specs.Start.{start_of}
use Rattle.osc_machine.proofs.KernelLaws.{start_has_kernel}
use Rattle.osc_machine.specs.Replay.{Region, Ledger, first_ledger, told_by, child_of, ledger_at, noted_from, replay}
use Rattle.osc_machine.specs.Agreements.{account_told, account_kept}
use Rattle.osc_safe.proofs.StandingRuns.{first_ran, started-both}
use Rattle.osc_ledger.proofs.Returned.{replay-more}
use Rattle.osc_ledger.proofs.ReplaySteps.{same-length}
use Rattle.osc_ledger.proofs.ReplayRuns.{opens-fit}
use Rattle.osc_counted.specs.Regions.{Givers, times, AreGiven, regions_told, RegionsTold, StepsKeepRegions, RunsTellRegions}
use Rattle.osc_counted.proofs.PlanFrames.{SameFrames, SharesFrames, free-unshared}
use Rattle.osc_counted.proofs.PlanRows.{is_quiet, quiet-regions, quiet-childless, SameBooks, Does, Leaves, Puts, Forks, Shares, plan-does}
use Rattle.osc_counted.proofs.FreshGivers.{given-later, fresh, fresh-times, fresh-given, fresh-own, fresh-more}
use Rattle.osc_counted.proofs.Lifting.{SameKept, Keeps, Returned, StandsWith, step-keeps, runs-keep}
use Rattle.osc_counted.proofs.ImageSteps.{put-either, the-kernel}

-- ---- ledgers by their numbers
at-first : (xs ys : List Ledger) (i : ℕ) → i < length xs → ledger_at (xs ++ ys) i ≡ ledger_at xs i
at-first [] ys i l = absurd (omega (arith, l))
at-first (x ∷ xs) ys zero l = refl
at-first (x ∷ xs) ys (suc i) l = at-first xs ys i (omega (arith, l))

at-last : (xs : List Ledger) (m : Ledger) → ledger_at (xs ++ m ∷ []) (length xs) ≡ m
at-last [] m = refl
at-last (x ∷ xs) m = at-last xs m

at-own : (xs : List Ledger) (i : ℕ) (m : Ledger) → i < length xs → ledger_at (slice_set xs i m) i ≡ m
at-own [] i m l = absurd (omega (arith, l))
at-own (x ∷ xs) zero m l = refl
at-own (x ∷ xs) (suc i) m l = at-own xs i m (omega (arith, l))

at-other : (xs : List Ledger) (i j : ℕ) (m : Ledger) → i ≢ j → ledger_at (slice_set xs i m) j ≡ ledger_at xs j
at-other [] i j m n = refl
at-other (x ∷ xs) zero zero m n = absurd (n refl)
at-other (x ∷ xs) zero (suc j) m n = refl
at-other (x ∷ xs) (suc i) zero m n = refl
at-other (x ∷ xs) (suc i) (suc j) m n = at-other xs i j m (λ e. n (ap suc e))

-- ---- processes whose regions were told already
-- the process was one of those before, or is a child of one
record From (k m : KernelState) (pid : ℕ) (q : Process) : Type 0 where
  before : ℕ
  old : Process
  there : process_at k before ≡ Some old
  lives : old.status ≡ None
  shared : (f : ℕ) → among f (shared_frames q.space.tables) ≡ among f (shared_frames old.space.tables)
  regions : regions_told m pid ≡ regions_told k before

told-from : (k m : KernelState) → RegionsTold k → m.config ≡ k.config → length k.journal ≤ length m.journal
    → ((pid : ℕ) (q : Process) → process_at m pid ≡ Some q → q.status ≡ None → From k m pid q) → RegionsTold m
told-from k m h config longer from = record {
  givers = h.givers;
  past = λ f call e. (let l = h.past f call e in omega (arith, l, longer));
  given = λ pid q at lives. given (from pid q at lives);
  maps = λ pid f q at lives. maps f (from pid q at lives);
}
  where
    given : {pid : ℕ} {q : Process} → From k m pid q → AreGiven h.givers (length m.journal) m.config.frames (regions_told m pid)
    given {pid} x =
        subst (λ rs. AreGiven h.givers (length m.journal) m.config.frames rs) (sym x.regions)
        (subst (λ (c : Config). AreGiven h.givers (length m.journal) c.frames (regions_told k x.before)) (sym config)
        (given-later h.givers (length k.journal) (length m.journal) k.config.frames (regions_told k x.before) longer (h.given x.before x.old x.there x.lives)))

    maps : {pid : ℕ} {q : Process} (f : ℕ) → From k m pid q → among f (shared_frames q.space.tables) ≡ times (h.givers f) (regions_told m pid)
    maps f x = x.shared f ∙ h.maps x.before f x.old x.there x.lives ∙ ap (times (h.givers f)) (sym x.regions)

same-told : (k m : KernelState) (pid : ℕ) → m.config ≡ k.config → m.journal ≡ k.journal → regions_told m pid ≡ regions_told k pid
same-told k m pid config journal =
    ap (λ c. (ledger_at (replay c m.journal) pid).regions) config ∙ ap (λ j. (ledger_at (replay k.config j) pid).regions) journal

same-journal : (k m : KernelState) → m.journal ≡ k.journal → length k.journal ≤ length m.journal
same-journal k m e = let l = ap (λ js. length js) e in omega (arith, l)

same-kept : (k m : KernelState) → SameKept k m → RegionsTold k → RegionsTold m
same-kept k m s h = told-from k m h s.config (same-journal k m s.journal) (λ pid q at lives. record {
  before = pid;
  old = q;
  there = ap (λ ps. slice_get ps pid) (sym s.processes) ∙ at;
  lives = lives;
  shared = λ f. refl;
  regions = same-told k m pid s.config s.journal;
})

returned : (k m : KernelState) (at : ℕ) (p new : Process) → process_at k at ≡ Some p → m.config ≡ k.config → m.journal ≡ k.journal → m.processes ≡ slice_set k.processes at new → Returned p new → RegionsTold k → RegionsTold m
returned k m at p new here config journal e back h = told-from k m h config (same-journal k m journal) (λ pid q there lives.
    either pid q lives (put-either k.processes at pid p new q here (ap (λ ps. slice_get ps pid) (sym e) ∙ there)))
  where
    either : (pid : ℕ) (q : Process) → q.status ≡ None → ((at ≡ pid) × (new ≡ q)) ⊎ ((at ≢ pid) × (slice_get k.processes pid ≡ Some q)) → From k m pid q
    either pid q lives (inl g) =
        let b = back (ap (λ (x : Process). x.status) g.1 ∙ lives) in record {
          before = at;
          old = p;
          there = here;
          lives = b.0;
          shared = λ f. ap (λ (x : Process). among f (shared_frames x.space.tables)) (sym g.1) ∙ ap (λ (ms : List Mapped). among f (map frame_of_page (filter (λ (m : Mapped). is_shared m.number) ms))) b.1;
          regions = ap (regions_told m) (sym g.0) ∙ same-told k m at config journal;
        }
    either pid q lives (inr g) = record { before = pid; old = q; there = g.1; lives = lives; shared = λ f. refl; regions = same-told k m pid config journal }

-- ---- a call that commits
module _ (words : List ℕ) (found : Found) (k : KernelState) (c : Calling) (p : Process) (a : Asks words k c) (here : process_at k c.pid ≡ Some p)
    (all : map account_told (replay k.config k.journal) ≡ map account_kept k.processes) (h : RegionsTold k) where
  abbrev ls : List Ledger
  ls = replay k.config k.journal

  abbrev l : Ledger
  l = ledger_at ls c.pid

  abbrev made : Planned
  made = plan_of found c p k

  abbrev m : KernelState
  m = committed c made

  abbrev t : Ledger
  t = told_by k.config (length k.journal) c.call made.answer l

  own : p.status ≡ None
  own = lives_none p (process_at k c.pid) here (caller_lives words k c a)

  count : length ls ≡ length k.processes
  count = same-length ls k.processes all

  within : (pid : ℕ) (q : Process) → process_at k pid ≡ Some q → pid < length ls
  within pid q at = let x = slice_get_within k.processes pid q at in let y = count in omega (arith, x, y)

  longer : SameBooks k made → length m.journal ≡ length k.journal + 1
  longer b =
      let x : length m.journal ≡ length made.kernel.journal + 1 = length-append made.kernel.journal (journal_entry c made.answer ∷ []) in
      let y = ap (λ js. length js) b.1 in omega (arith, x, y)

  -- the ledgers after the entry
  now : SameBooks k made → replay m.config m.journal ≡ slice_set ls c.pid t ++ child_of c.call made.answer l
  now b =
      ap (λ config. replay config (made.kernel.journal ++ journal_entry c made.answer ∷ [])) b.0
      ∙ ap (λ journal. replay k.config (journal ++ journal_entry c made.answer ∷ [])) b.1
      ∙ replay-more k.config k.journal (journal_entry c made.answer)

  put-within : (pid : ℕ) → pid < length ls → pid < length (slice_set ls c.pid t)
  put-within pid w = let x = length-put ls c.pid t in omega (arith, x, w)

  told-own : SameBooks k made → regions_told m c.pid ≡ t.regions
  told-own b =
      let w = within c.pid p here in
      ap (λ xs. (ledger_at xs c.pid).regions) (now b)
      ∙ ap (λ (x : Ledger). x.regions) (at-first (slice_set ls c.pid t) (child_of c.call made.answer l) c.pid (put-within c.pid w) ∙ at-own ls c.pid t w)

  told-other : SameBooks k made → (pid : ℕ) → pid < length ls → c.pid ≢ pid → regions_told m pid ≡ regions_told k pid
  told-other b pid w other =
      ap (λ xs. (ledger_at xs pid).regions) (now b)
      ∙ ap (λ (x : Ledger). x.regions) (at-first (slice_set ls c.pid t) (child_of c.call made.answer l) pid (put-within pid w) ∙ at-other ls c.pid pid t other)

  -- where the entry tells of no region
  told-same : SameBooks k made → t.regions ≡ l.regions → (pid : ℕ) → pid < length ls → regions_told m pid ≡ regions_told k pid
  told-same b e pid w = go (c.pid == pid) refl
    where
      go : (d : Bool) → (c.pid == pid) ≡ d → regions_told m pid ≡ regions_told k pid
      go true f = let is : c.pid ≡ pid = grind (arith, nat_tests, f) in ap (regions_told m) (sym is) ∙ told-own b ∙ e ∙ ap (regions_told k) is
      go false f = told-other b pid w (grind (arith, nat_tests, f))

  same-one : SameBooks k made → t.regions ≡ l.regions → (pid : ℕ) (q : Process) → slice_get k.processes pid ≡ Some q → q.status ≡ None → From k m pid q
  same-one b e pid q at lives = record { before = pid; old = q; there = at; lives = lives; shared = λ f. refl; regions = told-same b e pid (within pid q at) }

  putted : SameBooks k made → t.regions ≡ l.regions → (new : Space) → made.kernel.processes ≡ slice_set k.processes c.pid (record p { space = new }) → SameFrames p.space new
      → (pid : ℕ) (q : Process) → process_at made.kernel pid ≡ Some q → q.status ≡ None → From k m pid q
  putted b e new i s pid q at lives = either (put-either k.processes c.pid pid p (record p { space = new }) q here (ap (λ ps. slice_get ps pid) (sym i) ∙ at))
    where
      either : ((c.pid ≡ pid) × (record p { space = new } ≡ q)) ⊎ ((c.pid ≢ pid) × (slice_get k.processes pid ≡ Some q)) → From k m pid q
      either (inl g) = record {
        before = c.pid;
        old = p;
        there = here;
        lives = own;
        shared = λ f. ap (λ (x : Process). among f (shared_frames x.space.tables)) (sym g.1) ∙ s.shared f;
        regions = ap (regions_told m) (sym g.0) ∙ told-own b ∙ e;
      }
      either (inr g) = same-one b e pid q g.1 lives

  -- a fork: the child holds what its parent does
  forked : SameBooks k made → (number : ℕ) (child : Process) → c.call ≡ calls.Fork → made.answer ≡ answers.Number number → made.kernel.processes ≡ k.processes ++ child ∷ [] → SameFrames p.space child.space
      → (pid : ℕ) (q : Process) → process_at made.kernel pid ≡ Some q → q.status ≡ None → From k m pid q
  forked b number child x y i s pid q at lives = either (get-either k.processes child pid q (ap (λ ps. slice_get ps pid) (sym i) ∙ at))
    where
      told : t.regions ≡ l.regions
      told = ap (λ call. (told_by k.config (length k.journal) call made.answer l).regions) x ∙ ap (λ answer. (told_by k.config (length k.journal) calls.Fork answer l).regions) y

      children : child_of c.call made.answer l ≡ (record l { threads = 1; spawned = 0 }) ∷ []
      children = ap (λ call. child_of call made.answer l) x ∙ ap (λ answer. child_of calls.Fork answer l) y

      last : regions_told m (length k.processes) ≡ l.regions
      last =
          let size : length k.processes ≡ length (slice_set ls c.pid t) = sym (length-put ls c.pid t ∙ count) in
          ap (regions_told m) size
          ∙ ap (λ xs. (ledger_at xs (length (slice_set ls c.pid t))).regions) (now b)
          ∙ ap (λ ch. (ledger_at (slice_set ls c.pid t ++ ch) (length (slice_set ls c.pid t))).regions) children
          ∙ ap (λ (z : Ledger). z.regions) (at-last (slice_set ls c.pid t) (record l { threads = 1; spawned = 0 }))

      either : (slice_get k.processes pid ≡ Some q) ⊎ ((pid ≡ length k.processes) × (child ≡ q)) → From k m pid q
      either (inl g) = same-one b told pid q g lives
      either (inr g) = record {
        before = c.pid;
        old = p;
        there = here;
        lives = own;
        shared = λ f. ap (λ (z : Process). among f (shared_frames z.space.tables)) (sym g.1) ∙ s.shared f;
        regions = ap (regions_told m) g.0 ∙ last;
      }

  -- a share: its frames have a new giver
  module _ (b : SameBooks k made) (pages address : ℕ) (new : Space) (x : c.call ≡ calls.Share pages) (y : made.answer ≡ answers.Number address)
      (i : made.kernel.processes ≡ slice_set k.processes c.pid (record p { space = new })) (s : SharesFrames k p.space pages new) where
    abbrev n : ℕ
    n = length k.journal

    abbrev givers : Givers
    givers = fresh h.givers s.frames n

    told : t.regions ≡ (record { call = n; pages = pages }) ∷ l.regions
    told = ap (λ call. (told_by k.config (length k.journal) call made.answer l).regions) x ∙ ap (λ answer. (told_by k.config (length k.journal) (calls.Share pages) answer l).regions) y

    once : (f : ℕ) → among f s.frames ≤ 1
    once f = let w = s.were_free f in let v = vacant_once k.free f in omega (arith, w, v)

    -- no process has a frame that was free
    unmapped : (pid f : ℕ) (q : Process) → process_at k pid ≡ Some q → q.status ≡ None → 0 < among f s.frames → times (h.givers f) (regions_told k pid) ≡ 0
    unmapped pid f q at lives j =
        sym (h.maps pid f q at lives) ∙ free-unshared words k c p a here f pid q at (let w = s.were_free f in omega (arith, w, j))

    inside : (f : ℕ) → 0 < among f s.frames → f < k.config.frames
    inside f j =
        let w = s.were_free f in
        let v = slice_get_within k.free f true (vacant_there k.free f (omega (arith, w, j))) in
        let z = a.sizes.free in omega (arith, v, z)

    past : (f call : ℕ) → givers f ≡ Some call → call < length m.journal
    past f call e = go (nat_lt 0 (among f s.frames)) e
      where
        go : (d : Bool) → cond d (Some n) (h.givers f) ≡ Some call → call < length m.journal
        go true g = let same = some_same n call g in let z = longer b in omega (arith, same, z)
        go false g = let j = h.past f call g in let z = longer b in omega (arith, j, z)

    given-by : (pid : ℕ) (rs : List Region) → regions_told m pid ≡ rs → AreGiven givers (n + 1) k.config.frames rs → AreGiven givers (length m.journal) m.config.frames (regions_told m pid)
    given-by pid rs e g =
        subst (λ xs. AreGiven givers (length m.journal) m.config.frames xs) (sym e)
        (subst (λ (z : Config). AreGiven givers (length m.journal) z.frames rs) (sym b.0)
        (subst (λ z. AreGiven givers z k.config.frames rs) (sym (longer b)) g))

    old-given : (pid : ℕ) (q : Process) → process_at k pid ≡ Some q → q.status ≡ None → AreGiven givers (n + 1) k.config.frames (regions_told k pid)
    old-given pid q at lives =
        fresh-given h.givers s.frames n k.config.frames (regions_told k pid) (h.given pid q at lives) (λ f j. unmapped pid f q at lives j)

    own-given : AreGiven givers (n + 1) k.config.frames ((record { call = n; pages = pages }) ∷ l.regions)
    own-given = ((omega arith), fresh-own h.givers s.frames n k.config.frames h.past once inside ∙ s.size, old-given c.pid p here own)

    abbrev There : ℕ → Process → Type 0
    There pid q = ((c.pid ≡ pid) × (record p { space = new } ≡ q)) ⊎ ((c.pid ≢ pid) × (slice_get k.processes pid ≡ Some q))

    there : (pid : ℕ) (q : Process) → process_at made.kernel pid ≡ Some q → There pid q
    there pid q at = put-either k.processes c.pid pid p (record p { space = new }) q here (ap (λ ps. slice_get ps pid) (sym i) ∙ at)

    given-now : (pid : ℕ) (q : Process) → q.status ≡ None → There pid q → AreGiven givers (length m.journal) m.config.frames (regions_told m pid)
    given-now pid q lives (inl g) = given-by pid ((record { call = n; pages = pages }) ∷ l.regions) (ap (regions_told m) (sym g.0) ∙ told-own b ∙ told) own-given
    given-now pid q lives (inr g) = given-by pid (regions_told k pid) (told-other b pid (within pid q g.1) g.0) (old-given pid q g.1 lives)

    maps-now : (pid f : ℕ) (q : Process) → q.status ≡ None → There pid q → among f (shared_frames q.space.tables) ≡ times (givers f) (regions_told m pid)
    maps-now pid f q lives (inl g) =
        ap (λ (z : Process). among f (shared_frames z.space.tables)) (sym g.1)
        ∙ fresh-more h.givers s.frames n k.config.frames pages f (among f (shared_frames p.space.tables)) (among f (shared_frames new.tables)) l.regions
        (h.given c.pid p here own) h.past (once f) (λ j. unmapped c.pid f p here own j) (h.maps c.pid f p here own) (s.more f)
        ∙ ap (times (givers f)) (sym (ap (regions_told m) (sym g.0) ∙ told-own b ∙ told))
    maps-now pid f q lives (inr g) =
        h.maps pid f q g.1 lives
        ∙ sym (fresh-times h.givers s.frames n k.config.frames (regions_told k pid) f (h.given pid q g.1 lives) (λ j. unmapped pid f q g.1 lives j))
        ∙ ap (times (givers f)) (sym (told-other b pid (within pid q g.1) g.0))

    shared-told : RegionsTold m
    shared-told = record {
      givers = fresh h.givers s.frames n;
      past = past;
      given = λ pid q at lives. given-now pid q lives (there pid q at);
      maps = λ pid f q at lives. maps-now pid f q lives (there pid q at);
    }

  planned : RegionsTold m
  planned = go (plan-does words k c p a here found c.call)
    where
      quiet : is_quiet c.call made.answer ≡ true → t.regions ≡ l.regions
      quiet e = quiet-regions k.config (length k.journal) c.call made.answer l e

      more : SameBooks k made → length k.journal ≤ length m.journal
      more b = let z = longer b in omega (arith, z)

      go : Does k c.pid p c.call made → RegionsTold m
      go (Leaves b e s) = told-from k m h b.0 (more b) (λ pid q at lives. same-one b (quiet s) pid q (ap (λ ps. slice_get ps pid) (sym e) ∙ at) lives)
      go (Puts new b e s w) = told-from k m h b.0 (more b) (λ pid q at lives. putted b (quiet w) new e s pid q at lives)
      go (Forks number child x y b e s) = told-from k m h b.0 (more b) (λ pid q at lives. forked b number child x y e s pid q at lives)
      go (Shares pages address new x y b e s) = shared-told b pages address new x y e s

regions-keep : Keeps RegionsTold
regions-keep = record {
  same = λ k m s h. same-kept k m s h;
  plans = λ words found k c p a here all h. planned words found k c p a here all h;
  returns = λ k m at p new here config journal e back h. returned k m at p new here config journal e back h;
}

pub steps_keep_regions : StepsKeepRegions
steps_keep_regions words old new shows fits step told h = step-keeps RegionsTold regions-keep words old new shows fits step told h

-- ---- runs
pub none-shared : (words : List ℕ) (k : KernelState) (pid f : ℕ) (q : Process) → KernelFits words k → ((g : ℕ) → slice_index k.regions g ≡ 0) → process_at k pid ≡ Some q → among f (shared_frames q.space.tables) ≡ 0
none-shared words k pid f q fits none at =
    let held = fits.memory.holders f in let z = none f in let one = one_within (shared_by f) k.processes pid q at in omega (arith, held, z, one)

opens-regions : (image : Image) (config : Config) → KernelFits (open_words image (open_kernel image config)) (open_kernel image config) → RegionsTold (open_kernel image config)
unfolding open_kernel noted_from
opens-regions image config fits = record {
  givers = λ f. None;
  past = λ f call e. absurd (let z : ⊥ = grind (arith, e) in z);
  given = λ pid q at lives. given pid q at;
  maps = λ pid f q at lives. maps pid f q at;
}
  where
    given : (pid : ℕ) (q : Process) → process_at (open_kernel image config) pid ≡ Some q → AreGiven (λ f. None) 0 config.frames (ledger_at (first_ledger ∷ []) pid).regions
    given zero q at = tt
    given (suc pid) q at = tt

    maps : (pid f : ℕ) (q : Process) → process_at (open_kernel image config) pid ≡ Some q → among f (shared_frames q.space.tables) ≡ times None (ledger_at (first_ledger ∷ []) pid).regions
    maps zero f q at = none-shared _ (open_kernel image config) zero f q fits (λ g. none_held config.frames g) at
    maps (suc pid) f q at = none-shared _ (open_kernel image config) (suc pid) f q fits (λ g. none_held config.frames g) at

starts-regions : (image : Image) (config : Config) → 1 ≤ config.harts → KernelFits (open_words image (open_kernel image config)) (open_kernel image config) → StandsWith RegionsTold regions-keep (start_of image config)
unfolding start_of
starts-regions image config some fits =
    record { kernel = open_kernel image config; has = start_has_kernel image config (open_kernel image config); told = opens-fit image config some; kept = opens-regions image config fits }

pub runs_tell_regions : RunsTellRegions
runs_tell_regions file image config picks k fit is_image room has =
    let r = ranges config fit in
    let w = runs-keep RegionsTold regions-keep picks (first_ran image config) (started-both file image config fit is_image room)
    (starts-regions image config r.harts (images_start file image config fit is_image room)) in
    subst RegionsTold (the-kernel _ w.kernel k w.has has) w.kept
