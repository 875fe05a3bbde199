-- A process that stands alone in its machine meets what its calls ask, and stands there again once
-- each has returned.
use Rattle.std.proofs.Common.{ℕ, zero, suc, ◌+◌, ◌-◌, ◌*◌, ◌≡◌, ◌<◌, ◌≤◌, Bool, true, false, Option, Some, None, List, [], length, map, slice_get, slice_set, replicate, arith, refl, ap, sym, subst, ◌∙◌}
use Rattle.std.proofs.lemmas.Bool.Decides.{nat_tests}
use Rattle.osc_word.specs.JobList.{JobList, without_jobs, no_jobs}
use Rattle.osc_word.specs.Limits.{first_fault}
use Rattle.osc_word.specs.declared.settings.Config.{Config}
use Rattle.osc_word.specs.declared.job_list.Job.{Job}
use Rattle.osc_word.specs.declared.calls.Answer.{Answer}
use Rattle.osc_frames.specs.Free.{all_free, least_free, without_frame}
use Rattle.osc_paging.specs.KeptTables.{closed}
use Rattle.osc_paging.specs.TableChanges.{opened}
use Rattle.osc_paging.specs.JobWords.{words_after}
use Rattle.osc_paging.specs.Agree.{AgreesAfter}
use Rattle.osc_space.specs.Space.{Draft, Outcome, Closing, Keeps}
use Rattle.osc_space.specs.Header.{Found}
use Rattle.osc_space.specs.Share.{Regions, shared_frames, shared_pages, no_regions}
use Rattle.osc_space.specs.Finish.{finished}
use Rattle.osc_space.specs.Agree.{HasSpare}
use Rattle.osc_release.specs.Outcomes.{terms}
use Rattle.osc_space.specs.Fork.{frame_of_page}
use Rattle.osc_parts.specs.Frames.{among}
use Rattle.osc_parts.specs.Settled.{PartsFit, Settled, tables_of}
use Rattle.osc_parts.specs.PlanFits.{PlanFits, with_jobs}
use Rattle.osc_parts.specs.FreeLaws.{HasTerms}
use Rattle.osc_calls.specs.Kernel.{Process}
use Rattle.osc_calls.specs.HeapPlans.{malloc_by, free_of, realloc_by}
use Rattle.osc_calls.specs.Open.{rooted}
use Rattle.osc_settled.specs.Memory.{at_rest}
use Rattle.osc_settled.proofs.Laying.{Ranges, ranges, rooted_fits, no_words}
use Rattle.osc_settled.proofs.Answering.{malloc_fits, null_fits, realloc_fits}
use Rattle.osc_settled.proofs.Memories.{plan_returns}
use Rattle.osc_process.specs.Fits.{HasParts, HasBatch, HasSomeParts}
use Rattle.osc_process.specs.Parts.{SameSizes, unused, draft_at, made, with_tables}
use Rattle.osc_process.specs.Returns.{CanReturn, CanEnd}
use Rattle.osc_process.specs.Stands.{Stands}
use Rattle.osc_process.proofs.Sizes.{same_sizes, sizes_then}
use Rattle.osc_process.proofs.Releases.{finished_keeps}

-- ---- a process that has its topmost table alone
least_zero : (n root : ℕ) → 0 < n → Some root ≡ least_free (all_free n) → root ≡ 0
least_zero zero root l e = absurd (omega (arith, l))
least_zero (suc n) root l e = grind (arith, nat_tests, e)

pub fresh_stands : (config : Config) (p : Process) (regions : Regions) (free : List Bool) (jobs : JobList) (root : ℕ) → first_fault config ≡ None
    → p ≡ with_tables (opened root (closed config.levels config.frames (config.frames + config.shadows))) (unused config.levels config.frames config.shadows)
    → regions ≡ no_regions config.frames → Some root ≡ least_free (all_free config.frames) → free ≡ without_frame (all_free config.frames) (Some root) → jobs ≡ no_jobs (8 * config.frames + 64)
    → Stands config p regions free jobs
fresh_stands config p regions free jobs root valid process none least taken room =
    let r = ranges config valid in
    let laid = rooted_fits config r in
    let frames = r.frames in
    let zero_root : root ≡ 0 = least_zero config.frames root (omega (arith, frames)) least in
    let count = laid.count in
    rw (process, none, taken, room, zero_root) (record {
      valid = valid;
      count = count;
      spare = omega (arith, count);
      sizes = record { top = refl; count = refl; room = refl; shadows = refl; frames = refl };
      alone = laid.none_shared;
      entries = λ frame index. 0;
      words = no_words config;
      settled = record { parts = laid.parts; tables = laid.tables };
    })

few_harts : (config : Config) → first_fault config ≡ None → config.harts ≤ 8
few_harts config e = grind (arith, nat_tests, e)

module _ (config : Config) (p : Process) (regions : Regions) (free : List Bool) (jobs : JobList) (s : Stands config p regions free jobs) where
  pub few : length free ≤ 4096
  few = let r = ranges config s.valid in let f = r.few_frames in let c = s.count in omega (arith, f, c)

  pub harts : config.harts ≤ 8
  harts = few_harts config s.valid

  pub has_parts : HasParts config.heap p.space free
  has_parts = record { few = few; batch = config.batch; regions = regions; fit = s.settled.parts }

  pub has_batch : HasBatch config.heap config.batch p.space
  has_batch = record { free = free; few = few; regions = regions; fit = s.settled.parts }

  has_terms : (call : ℕ) → HasTerms config.batch (terms config.harts call config.batch)
  has_terms call = record { is = refl; harts = harts }

  none_left : (frame : ℕ) → among frame (shared_frames p.space.tables) ≡ 0
  none_left frame = ap (λ ms. among frame (map frame_of_page ms)) s.alone

  pub can_end : CanEnd regions p.space free
  can_end = record {
    few = few;
    kind = config.heap;
    batch = config.batch;
    fit = s.settled.parts;
    held = λ frame. (let none = none_left frame in omega (arith, none));
  }

  -- ---- the plans fit
  abbrev Fits : Outcome → Type 0
  Fits o = PlanFits config.heap config.batch s.entries s.words regions (at_rest p.space free) o

  pub malloc_stands : (n : ℕ) → Fits (malloc_by config.heap n (at_rest p.space free))
  malloc_stands n = malloc_fits config.heap config.batch s.entries s.words regions n (at_rest p.space free) s.settled

  pub free_stands : (call pointer : ℕ) (found : Found) → Fits (free_of config.heap (terms config.harts call config.batch) pointer found (at_rest p.space free))
  free_stands call pointer found = null_fits config.heap config.batch s.entries s.words regions (terms config.harts call config.batch) pointer found (at_rest p.space free) _ (has_terms call) s.settled

  pub realloc_stands : (call pointer n : ℕ) (found : Found) → Fits (realloc_by config.heap (terms config.harts call config.batch) pointer n found (at_rest p.space free))
  realloc_stands call pointer n found = realloc_fits config.heap config.batch s.entries s.words regions (terms config.harts call config.batch) pointer n found (at_rest p.space free) (has_terms call) s.settled

  -- ---- and return
  pub can_return : (answer : Answer) (closing : Closing) (q : Process) (after : List Bool) (left : JobList) → Fits (made answer closing q after left) → CanReturn closing q.space after
  can_return answer closing q after left f = record {
    few = let c : length after ≡ length free = f.trades.count in let l = few in omega (arith, c, l);
    kind = config.heap;
    batch = config.batch;
    regions = regions;
    returns = plan_returns config.heap config.batch s.entries s.words regions (at_rest p.space free) (made answer closing q after left) f;
    frames = f.frames;
  }

  pub stands_after : (answer : Answer) (closing : Closing) (q u : Process) (after last : List Bool) (left : JobList) → Fits (made answer closing q after left)
      → SameSizes p.space q.space → SameSizes q.space u.space → left.room ≡ jobs.room
      → ((js : List Job) → draft_at u last js ≡ finished closing (draft_at q after js))
      → Stands config u regions last left
  stands_after answer closing q u after last left f a b room returns =
      let now = words_after s.entries left.pushed s.words in
      let is = sym (returns left.pushed) in
      let counts : length (finished closing (draft_at q after left.pushed)).free ≡ length after = f.gives.count in
      let count : length last ≡ length after = subst (λ (d : Draft). length d.free ≡ length after) is counts in
      let same : length last ≡ length free = count ∙ f.trades.count in
      let tables = f.agrees now [] f.tables in
      record {
        valid = s.valid;
        count = same ∙ s.count;
        spare = let e = s.spare in omega (arith, e, same, room);
        sizes = sizes_then (unused config.levels config.frames config.shadows).space p.space u.space s.sizes (sizes_then p.space q.space u.space a b);
        alone = subst (λ (d : Draft). shared_pages d.space.tables ≡ shared_pages q.space.tables) is f.gives.shared ∙ (f.trades.shared ∙ s.alone);
        entries = s.entries;
        words = now;
        settled = record {
          parts = subst (λ (d : Draft). PartsFit config.heap config.batch regions d.space d.free) is f.parts;
          tables = subst (λ (d : Draft). AgreesAfter s.entries now (tables_of (with_jobs [] d))) is tables;
        };
      }

  -- ---- by call
  module _ (cleared left : JobList) (is_cleared : cleared ≡ without_jobs jobs) where
    fits_made : (answer : Answer) (closing : Closing) (q : Process) (after : List Bool) (plan : Draft → Outcome)
        → made answer closing q after left ≡ plan (draft_at p free cleared.pushed) → Fits (plan (at_rest p.space free)) → Fits (made answer closing q after left)
    fits_made answer closing q after plan e f =
        let none : cleared.pushed ≡ [] = ap (λ (js : JobList). js.pushed) is_cleared in
        subst Fits (sym (e ∙ ap (λ js. plan (draft_at p free js)) none)) f

    room_is : left.room ≡ cleared.room → left.room ≡ jobs.room
    room_is e = e ∙ ap (λ (js : JobList). js.room) is_cleared

    pub malloc_after : (n : ℕ) (answer : Answer) (q : Process) (after : List Bool)
        → made answer Keeps q after left ≡ malloc_by config.heap n (draft_at p free cleared.pushed) → SameSizes p.space q.space → left.room ≡ cleared.room
        → Stands config q regions after left
    malloc_after n answer q after e a room =
        stands_after answer Keeps q q after after left (fits_made answer Keeps q after (malloc_by config.heap n) e (malloc_stands n)) a (same_sizes q.space) (room_is room) (λ js. finished_keeps (draft_at q after js))

    free_fits : (call pointer : ℕ) (found : Found) (answer : Answer) (closing : Closing) (q : Process)
        → ((x : List Bool) → made answer closing q x left ≡ free_of config.heap (terms config.harts call config.batch) pointer found (draft_at p x cleared.pushed)) → Fits (made answer closing q free left)
    free_fits call pointer found answer closing q e =
        fits_made answer closing q free (free_of config.heap (terms config.harts call config.batch) pointer found) (e free) (free_stands call pointer found)

    pub free_returns : (call pointer : ℕ) (found : Found) (answer : Answer) (closing : Closing) (q : Process)
        → ((x : List Bool) → made answer closing q x left ≡ free_of config.heap (terms config.harts call config.batch) pointer found (draft_at p x cleared.pushed)) → CanReturn closing q.space free
    free_returns call pointer found answer closing q e = can_return answer closing q free left (free_fits call pointer found answer closing q e)

    pub free_after : (call pointer : ℕ) (found : Found) (answer : Answer) (closing : Closing) (q u : Process) (last : List Bool)
        → ((x : List Bool) → made answer closing q x left ≡ free_of config.heap (terms config.harts call config.batch) pointer found (draft_at p x cleared.pushed))
        → SameSizes p.space q.space → SameSizes q.space u.space → left.room ≡ cleared.room → ((js : List Job) → draft_at u last js ≡ finished closing (draft_at q free js))
        → Stands config u regions last left
    free_after call pointer found answer closing q u last e a b room returns =
        stands_after answer closing q u free last left (free_fits call pointer found answer closing q e) a b (room_is room) returns

    realloc_fitting : (call pointer n : ℕ) (found : Found) (answer : Answer) (closing : Closing) (q : Process) (after : List Bool)
        → made answer closing q after left ≡ realloc_by config.heap (terms config.harts call config.batch) pointer n found (draft_at p free cleared.pushed) → Fits (made answer closing q after left)
    realloc_fitting call pointer n found answer closing q after e =
        fits_made answer closing q after (realloc_by config.heap (terms config.harts call config.batch) pointer n found) e (realloc_stands call pointer n found)

    pub realloc_returns : (call pointer n : ℕ) (found : Found) (answer : Answer) (closing : Closing) (q : Process) (after : List Bool)
        → made answer closing q after left ≡ realloc_by config.heap (terms config.harts call config.batch) pointer n found (draft_at p free cleared.pushed) → CanReturn closing q.space after
    realloc_returns call pointer n found answer closing q after e = can_return answer closing q after left (realloc_fitting call pointer n found answer closing q after e)

    pub realloc_after : (call pointer n : ℕ) (found : Found) (answer : Answer) (closing : Closing) (q u : Process) (after last : List Bool)
        → made answer closing q after left ≡ realloc_by config.heap (terms config.harts call config.batch) pointer n found (draft_at p free cleared.pushed)
        → SameSizes p.space q.space → SameSizes q.space u.space → left.room ≡ cleared.room → ((js : List Job) → draft_at u last js ≡ finished closing (draft_at q after js))
        → Stands config u regions last left
    realloc_after call pointer n found answer closing q u after last e a b room returns =
        stands_after answer closing q u after last left (realloc_fitting call pointer n found answer closing q after e) a b (room_is room) returns
