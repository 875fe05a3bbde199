-- A share keeps what holds.
use Rattle.std.proofs.Common.{ℕ, zero, suc, ◌+◌, ◌^◌, ◌≡◌, ◌≢◌, ◌<◌, ◌≤◌, ◌==◌, nat_lt, Bool, true, false, Option, Some, None, is_some, List, [], ◌∷◌, ◌++◌, length, map, take, slice_get, slice_set, arith, refl, ap, sym, ◌∙◌, subst, ◌⊎◌, inl, inr}
use Rattle.std.proofs.lemmas.Bool.Decides.{nat_tests}
use Rattle.std.proofs.lemmas.List.{append_assoc}
use Rattle.std.proofs.lemmas.Option.{slice_get_within}
use Rattle.osc_word.specs.declared.calls.Answer.{Answer}
use Rattle.osc_word.specs.declared.calls.Answer.TheVariants as answers
use Rattle.osc_word.specs.declared.calls.Call.TheVariants as calls
use Rattle.osc_word.specs.declared.job_list.Job.{Job}
use Rattle.osc_word.specs.declared.settings.HeapKind.{HeapKind}
use Rattle.osc_sv39.specs.declared.entries.Mapping.{Mapping}
use Rattle.osc_slot.specs.Heap.{free_count}
use Rattle.osc_slot.proofs.Backing.{free_count-give, free_count-le}
use Rattle.osc_paging.specs.KeptTables.{mapping_at, need, root_of, levels_of}
use Rattle.osc_paging.specs.TableChanges.{Changed, zero_job, map_pages}
use Rattle.osc_paging.specs.JobWords.{words_after}
use Rattle.osc_paging.specs.Agree.{Agrees}
use Rattle.osc_space.specs.LeafFlags.{read_write_at}
use Rattle.osc_space.specs.Space.{Space, Draft, Keeps, reason, first_reason, lack_of_frames}
use Rattle.osc_space.specs.Fork.{frame_of_page, free_numbers, set_free}
use Rattle.osc_space.specs.Share.{Regions, Sharing, holders, hold, shared_pages, shared_frames, next_shared_page, share_address, share_plan, share_reasons}
use Rattle.osc_space.specs.Agree.{AreApart, AllTaken, SpaceAgrees}
use Rattle.osc_parts.specs.Frames.{among, vacant, frames_held, FramesFit}
use Rattle.osc_parts.specs.Settled.{Settled}
use Rattle.osc_parts.specs.Jobs.{AllWriteWhere}
use Rattle.osc_parts.specs.ShareLaws.{ShareFits}
use Rattle.osc_parts.proofs.Counts.{once_apart, all_taken, taken_but, given_length}
use Rattle.osc_parts.proofs.Trading.{held_is, held_once, held_taken, vacant_once, vacant_there}
use Rattle.osc_parts.proofs.JobCounts.{IsOf, map_pages-links, length-mapped}
use Rattle.osc_parts.proofs.Settling.{settled_frames}
use Rattle.osc_parts.proofs.Blocks.{all_weaker, where_append}
use Rattle.osc_parts.proofs.MallocParts.{high_enough, some_root}
use Rattle.osc_parts.proofs.SharedPages.{among_take, among_free, numbers_count, length_take, Taken, taken, hold_each, Shares, map_pages-shares}
use Rattle.osc_parts.proofs.ShareParts.{shares_fit}
use Rattle.osc_calls.specs.Kernel.{KernelState, Process, Calling, process_at}
use Rattle.osc_calls.specs.Refusals.{draft_of, sharing_of, refusal_of}
use Rattle.osc_calls.specs.Planned.{answered, planned_unless}
use Rattle.osc_calls.specs.ProcessPlans.{with_sharing, share_done}
use Rattle.osc_settled.specs.Memory.{Memory, memory_of, draft_in, entries_in, held_by, shared_by, held, one_if, SpaceFits, IsBare, MemoryFits}
use Rattle.osc_settled.specs.UnderWay.{HasAlone, is_end}
use Rattle.osc_settled.proofs.Manned.{all_put}
use Rattle.osc_settled.proofs.Lists.{get-put_same, get-put_other, length-put, sum-put, some_same}
use Rattle.osc_settled.proofs.Memories.{keeps_returns, returns_keeps, UsedOnce}
use Rattle.osc_settled.proofs.Commits.{lives_none, none_lives, living_put, records_stay, Owed}
use Rattle.osc_settled.proofs.Outcomes.{Asks, caller_lives, closes_nothing}
use Rattle.osc_settled.proofs.Answering.{answered_owed, settled}
use Rattle.osc_settled.proofs.Apart.{holds_apart}
use Rattle.osc_settled.proofs.Silent.{outs, outs-push, outs-map, map_pages-outs, first_no_end}

-- ---- what becomes of each frame
-- the frames that a share takes are no more free, but of the new pages or of tables
pub record SharesEach (s t : Space) (regions now : Regions) (free after : List Bool) (before jobs : List Job) : Type 0 where
  pub pages : List ℕ
  pub were_free : (f : ℕ) → among f pages ≤ vacant free f
  pub each : (f : ℕ) → among f (frames_held t) + vacant after f + among f pages ≡ among f (frames_held s) + vacant free f
  pub shared : (f : ℕ) → among f (shared_frames t.tables) ≡ among f (shared_frames s.tables) + among f pages
  pub holds : (f : ℕ) → holders now f ≡ holders regions f + among f pages
  pub more : List Job
  pub jobs_are : jobs ≡ before ++ more
  pub within : AllWriteWhere (λ f. (0 < among f (frames_held t)) ⊎ (0 < among f pages)) more

-- as many different frames as are taken are no more than all frames
given_count : (xs : List ℕ) (free : List Bool) → AreApart xs → AllTaken free xs → free_count (set_free true xs free) ≡ length xs + free_count free
given_count [] free a t = omega arith
given_count (x ∷ xs) free a t =
    let here = free_count-give free x t.0 in
    let later = given_count xs (slice_set free x true) a.1 (taken_but free x xs a.0 t.1) in
    omega (arith, here, later)

few_taken : (xs : List ℕ) (free : List Bool) → AreApart xs → AllTaken free xs → length xs ≤ length free
few_taken xs free a t =
    let c = given_count xs free a t in
    let l = free_count-le (set_free true xs free) in
    let e = given_length xs free in
    omega (arith, c, l, e)

module _ (kind : HeapKind) (batch : ℕ) (entries : ℕ → ℕ → ℕ) (words : List ℕ) (regions : Regions) (n : ℕ) (d : Draft) (settled : Settled kind batch entries words regions d)
    (needs : n + need d.space.tables (next_shared_page d.space.tables) n ≤ free_count d.free) where
  abbrev first : ℕ
  first = next_shared_page d.space.tables

  abbrev xs : List ℕ
  xs = take n (free_numbers d.free)

  abbrev begun : Changed
  begun = record { tables = d.space.tables; free = set_free false xs d.free; jobs = d.jobs ++ map zero_job xs }

  abbrev ms : List Mapping
  ms = map read_write_at xs

  abbrev done : Changed
  done = map_pages first ms begun

  abbrev after : Space
  after = record (d.space) { tables = done.tables }

  was : SpaceAgrees kind d.space regions d.free
  was = settled.parts.agrees

  start : FramesFit d.space d.free
  start = settled_frames kind d.space regions d.free was

  xs_free : (f : ℕ) → among f xs ≤ vacant d.free f
  xs_free f = let a = among_take n f (free_numbers d.free) in let b = among_free d.free f in omega (arith, a, b)

  takes : Taken xs d.free (set_free false xs d.free)
  takes = taken xs d.free xs_free

  size : length xs ≡ n
  size = length_take n (free_numbers d.free) (let a = numbers_count d.free in omega (arith, a, needs))

  ms_size : length ms ≡ n
  ms_size = length-mapped read_write_at xs ∙ size

  small : length d.free ≤ 4096
  small = settled.tables.small

  shared_few : length (shared_pages d.space.tables) ≤ length d.free
  shared_few =
      let a = length-mapped frame_of_page (shared_pages d.space.tables) in
      let b = few_taken (shared_frames d.space.tables) d.free
      (once_apart (shared_frames d.space.tables) (λ f. (let o = held_once d.space d.free f start in omega (arith, o))))
      (all_taken d.free (shared_frames d.space.tables) (λ f l. held_taken d.space d.free f start (omega (arith, l)))) in
      omega (arith, a, b)

  n_few : n ≤ length d.free
  n_few = let a = free_count-le d.free in omega (arith, a, needs)

  enough : need d.space.tables first (length ms) ≤ free_count (set_free false xs d.free)
  enough = let a = takes.fewer in let b : need d.space.tables first (length ms) ≡ need d.space.tables first n = ap (need d.space.tables first) ms_size in let c = size in omega (arith, a, b, c, needs)

  in_levels : first + length ms ≤ 512 ^ levels_of d.space.tables
  in_levels = let a = high_enough d.space.tables.top settled.parts.levels in let b = shared_few in let c = n_few in let e = ms_size in let s = small in omega (arith, a, b, c, e, s)

  end_low : first + length ms ≤ 0x1000000
  end_low = let b = shared_few in let c = n_few in let e = ms_size in let s = small in omega (arith, b, c, e, s)

  none : {X : Type 0} (x : Option X) → is_some x ≡ false → x ≡ None
  none None e = refl
  none (Some y) e = absurd (let z : ⊥ = grind (arith, e) in z)

  unmapped : (q : ℕ) → first ≤ q → q < first + length ms → mapping_at d.space.tables.pages q ≡ None
  unmapped q l u = none (mapping_at d.space.tables.pages q) (was.shared.first q (let e = end_low in grind (arith, nat_tests, l, u, e)) ∙ (grind (arith, nat_tests, l)))

  shares : Shares d.space ms begun done
  shares =
      let r = some_root (root_of d.space.tables) was.root in
      map_pages-shares d.space r.0 ms first begun (omega arith) end_low unmapped r.1 in_levels enough

  frames_back : (f : ℕ) (fs : List ℕ) → among f (map (λ (m : Mapping). m.frame) (map read_write_at fs)) ≡ among f fs
  frames_back f [] = refl
  frames_back f (x ∷ fs) = let e = frames_back f fs in omega (arith, e)

  zeroes_where : (own : ℕ → Type 0) (fs : List ℕ) → ((f : ℕ) → 0 < among f fs → own f) → AllWriteWhere own (map zero_job fs)
  zeroes_where own [] h = tt
  zeroes_where own (x ∷ fs) h = ((omega arith, h x (grind (arith, nat_tests))), zeroes_where own fs (λ f l. h f (omega (arith, l))))

  table_held : (f : ℕ) → IsOf done.tables.tables f → 0 < among f (frames_held after)
  table_held f l = let h = held_is f after in omega (arith, h, l)

  pub shares_each : SharesEach d.space after regions (hold xs regions) d.free done.free d.jobs done.jobs
  shares_each = record {
    pages = xs;
    were_free = xs_free;
    each = λ f. (let a = shares.each f in let c = takes.each f in omega (arith, a, c));
    shared = λ f. (let b = shares.more f in let e = frames_back f xs in omega (arith, b, e));
    holds = λ f. hold_each xs regions f (λ g l. (let a = slice_get_within d.free g true (vacant_there d.free g (let x = xs_free g in omega (arith, x, l))) in let c = was.shared.count in omega (arith, a, c)));
    more = map zero_job xs ++ (map_pages-links ms first begun).pushed.more;
    jobs_are = (map_pages-links ms first begun).pushed.is ∙ append_assoc d.jobs (map zero_job xs) (map_pages-links ms first begun).pushed.more;
    within = where_append (λ f. (0 < among f (frames_held after)) ⊎ (0 < among f xs)) (map zero_job xs) (map_pages-links ms first begun).pushed.more
        (zeroes_where (λ f. (0 < among f (frames_held after)) ⊎ (0 < among f xs)) xs (λ f l. inr l))
        (all_weaker (IsOf done.tables.tables) (λ f. (0 < among f (frames_held after)) ⊎ (0 < among f xs)) (map_pages-links ms first begun).pushed.more (λ f l. inl (table_held f l)) (map_pages-links ms first begun).pushed.within);
  }

-- ---- the memories
abbrev pub process_sharing : Process → Sharing → Process
process_sharing p s = record p { space = record (p.space) { tables = s.tables } }

abbrev pub memory_sharing : Memory → ℕ → Process → Sharing → Memory
memory_sharing m pid p s = record m {
  processes = slice_set m.processes pid (process_sharing p s);
  regions = s.regions;
  free = s.free;
  jobs = s.jobs;
}

-- a share in a memory
record SharesIn (words : List ℕ) (m : Memory) (p : Process) (n : ℕ) (s : Sharing) : Type 0 where
  fits : (entries : ℕ → ℕ → ℕ) → ShareFits m.heap m.batch entries words m.regions n (draft_in m p.space) s
  each : SharesEach p.space (process_sharing p s).space m.regions s.regions m.free s.free m.jobs s.jobs

none_or_more : (pages vacant held was now : ℕ) → pages ≤ vacant → vacant + held + one_if was ≡ 1 → now ≡ was + pages → one_if now ≡ one_if was + pages
none_or_more zero vacant held was now l u e = let same : now ≡ was = omega (arith, e) in ap one_if same ∙ (let z : one_if was ≡ one_if was + 0 = omega arith in z)
none_or_more (suc pages) vacant held zero now l u e = let p : pages ≡ 0 = omega (arith, l, u) in let is : now ≡ 1 = omega (arith, e, p) in ap one_if is ∙ (let z : 1 ≡ 0 + suc pages = omega (arith, p) in z)
none_or_more (suc pages) vacant held (suc was) now l u e = absurd (omega (arith, l, u))

uses_sharing : (words : List ℕ) (m : Memory) (pid n : ℕ) (p : Process) (s : Sharing) → slice_get m.processes pid ≡ Some p
    → UsedOnce m.processes m.regions m.free → SharesIn words m p n s → UsedOnce (slice_set m.processes pid (process_sharing p s)) s.regions s.free
uses_sharing words m pid n p s at u t = record {
  uses = λ f l. (let was = u.uses f (let c = (t.fits (λ a b. 0)).takes.size in omega (arith, c, l)) in
      let each = t.each.each f in let sum = sum-put (held_by f) m.processes pid p (process_sharing p s) at in
      let h = none_or_more (among f t.each.pages) (vacant m.free f) (held f m.processes) (holders m.regions f) (holders s.regions f) (t.each.were_free f) was (t.each.holds f) in
      omega (arith, was, each, sum, h));
  holders = λ f. (let was = u.holders f in let sum = sum-put (shared_by f) m.processes pid p (process_sharing p s) at in
      let h = t.each.holds f in let e = t.each.shared f in
      omega (arith, was, sum, h, e));
}

sharing_memory : (words : List ℕ) (m : Memory) (pid n : ℕ) (p : Process) (s : Sharing)
    → MemoryFits words m (λ q. Keeps) → m.jobs ≡ [] → slice_get m.processes pid ≡ Some p → p.status ≡ None → SharesIn words m p n s
    → MemoryFits words (memory_sharing m pid p s) (λ q. Keeps)
sharing_memory words m pid n p s fit none at lives t = record {
  spaces = λ q r g alive. go q r (pid == q) refl g alive;
  bare = λ q status r g over. ended q status r (pid == q) refl g over;
  uses = once.uses;
  holders = once.holders;
}
  where
    new : Process
    new = process_sharing p s

    was_once : UsedOnce m.processes m.regions m.free
    was_once = record { uses = fit.uses; holders = fit.holders }

    once : UsedOnce (slice_set m.processes pid (process_sharing p s)) s.regions s.free
    once = uses_sharing words m pid n p s at was_once t

    any : ShareFits m.heap m.batch (entries_in (slice_set m.processes pid (process_sharing p s))) words m.regions n (draft_in m p.space) s
    any = t.fits (entries_in (slice_set m.processes pid (process_sharing p s)))

    mine_was : SpaceFits words m Keeps p.space
    mine_was = fit.spaces pid p at lives

    mine : (r : Process) → process_sharing p s ≡ r → SpaceFits words (memory_sharing m pid p s) Keeps r.space
    mine r same = subst (λ (x : Process). SpaceFits words (memory_sharing m pid p s) Keeps x.space) same (record {
      returns = keeps_returns m.heap m.batch s.regions (process_sharing p s).space s.free any.settled.parts;
      frames = settled_frames m.heap (process_sharing p s).space s.regions s.free any.settled.parts.agrees;
      tables = any.settled.tables;
    })

    theirs : (q : ℕ) (r : Process) → pid ≢ q → slice_get m.processes q ≡ Some r → slice_get (slice_set m.processes pid (process_sharing p s)) q ≡ Some r
        → SpaceFits words m Keeps r.space → SpaceFits words (memory_sharing m pid p s) Keeps r.space
    theirs q r d before g was =
        let beside = any.others m.heap m.batch r.space (record {
          parts = returns_keeps m.heap m.batch m.regions r.space m.free was.returns;
          apart = holds_apart m.processes m.regions m.free pid q p r was_once d at before mine_was.frames was.frames;
          apart_back = holds_apart m.processes m.regions m.free q pid r p was_once (λ h. d (sym h)) before at was.frames mine_was.frames;
          tables = subst (λ js. Agrees r.space.tables m.free (words_after (entries_in (slice_set m.processes pid (process_sharing p s))) js words)) (sym none)
              (subst (λ js. Agrees r.space.tables m.free (words_after (entries_in m.processes) js words)) none was.tables);
        }) in
        record {
          returns = keeps_returns m.heap m.batch s.regions r.space s.free beside.parts;
          frames = settled_frames m.heap r.space s.regions s.free beside.parts.agrees;
          tables = beside.tables;
        }

    go : (q : ℕ) (r : Process) (b : Bool) → (pid == q) ≡ b → slice_get (slice_set m.processes pid (process_sharing p s)) q ≡ Some r → r.status ≡ None → SpaceFits words (memory_sharing m pid p s) Keeps r.space
    go q r true d g alive =
        let same : q ≡ pid = grind (arith, nat_tests, d) in
        mine r (some_same (process_sharing p s) r (sym (get-put_same m.processes pid p (process_sharing p s) at) ∙ subst (λ k. slice_get (slice_set m.processes pid (process_sharing p s)) k ≡ Some r) same g))
    go q r false d g alive =
        let e : pid ≢ q = grind (arith, nat_tests, d) in
        let before = sym (get-put_other m.processes pid q (process_sharing p s) e) ∙ g in
        theirs q r e before g (fit.spaces q r before alive)

    ended : (q status : ℕ) (r : Process) (b : Bool) → (pid == q) ≡ b → slice_get (slice_set m.processes pid (process_sharing p s)) q ≡ Some r → r.status ≡ Some status → IsBare r.space
    ended q status r true d g over =
        let same : q ≡ pid = grind (arith, nat_tests, d) in
        let is = some_same (process_sharing p s) r (sym (get-put_same m.processes pid p (process_sharing p s) at) ∙ subst (λ k. slice_get (slice_set m.processes pid (process_sharing p s)) k ≡ Some r) same g) in
        absurd (let z : None ≡ Some status = sym lives ∙ ap (λ (x : Process). x.status) is ∙ over in let w : ⊥ = grind (arith, z) in w)
    ended q status r false d g over =
        let e : pid ≢ q = grind (arith, nat_tests, d) in
        fit.bare q status r (sym (get-put_other m.processes pid q (process_sharing p s) e) ∙ g) over

-- ---- the plan
-- the jobs of a share write in frames that no other process uses
alone_where : (regions now : Regions) (p r : Process) (free after : List Bool) (before jobs : List Job) (t : SharesEach p.space r.space regions now free after before jobs)
    → ((f : ℕ) → 0 < vacant free f → holders regions f ≡ 0) → (f : ℕ) → (0 < among f (frames_held r.space)) ⊎ (0 < among f t.pages) → HasAlone now (Some r) f
alone_where regions now p r free after before jobs t none f (inl l) = inl l
alone_where regions now p r free after before jobs t none f (inr l) =
    let a = t.were_free f in let b = vacant_once free f in let c = none f (omega (arith, a, l)) in let h = t.holds f in let e = t.shared f in
    inr (omega (arith, e, l), omega (arith, a, b, c, h, l))

sharing_owed : (words : List ℕ) (k : KernelState) (c : Calling) (p : Process) (n : ℕ) (s : Sharing) (address : ℕ) → Asks words k c → process_at k c.pid ≡ Some p
    → SharesIn words (memory_of k) p n s → outs s.jobs ≡ 0 → Owed words c (answered (answers.Number address) (with_sharing c.pid p s k))
sharing_owed words k c p n s address a e t w = record {
  sizes = record {
    config = a.sizes.config;
    memory = a.sizes.memory;
    free = any.takes.size ∙ a.sizes.free;
    regions = any.settled.parts.agrees.shared.count ∙ any.takes.size ∙ a.sizes.free;
    records = a.sizes.records;
    processes = subst (λ x. x ≤ k.config.processes) (sym (length-put k.processes c.pid (process_sharing p s))) a.sizes.processes;
    threads = a.sizes.threads;
    journal = a.sizes.journal;
    output = (let x = a.sizes.output in omega (arith, x, w));
    peak = a.sizes.peak;
  };
  room = a.waits.room;
  memory = closes_nothing words (memory_sharing (memory_of k) c.pid p s) c.pid (sharing_memory words (memory_of k) c.pid n p s a.memory a.waits.jobs e lives t);
  records = records_stay k.processes (slice_set k.processes c.pid (process_sharing p s)) k.threads k.records None a.records
      (λ q. living_put k.processes c.pid p (process_sharing p s) q e refl) (length-put k.processes c.pid (process_sharing p s));
  manned = all_put k.processes k.records c.pid p (process_sharing p s) None a.manned e refl;
  lives = none_lives (process_sharing p s) (slice_get (slice_set k.processes c.pid (process_sharing p s)) c.pid) there lives;
  caller = a.waits.caller;
  jobs = subst (λ x. AllWriteWhere (HasAlone s.regions x) s.jobs) (sym there)
      (subst (λ js. AllWriteWhere (HasAlone s.regions (Some (process_sharing p s))) js) (sym (t.each.jobs_are ∙ ap (λ js. js ++ t.each.more) a.waits.jobs))
      (all_weaker (λ f. (0 < among f (frames_held (process_sharing p s).space)) ⊎ (0 < among f t.each.pages)) (HasAlone s.regions (Some (process_sharing p s))) t.each.more
      (alone_where k.regions s.regions p (process_sharing p s) k.free s.free k.jobs s.jobs t.each unheld) t.each.within));
  effect = refl;
}
  where
    any : ShareFits k.config.heap k.config.batch (λ x y. 0) words k.regions n (draft_of k p) s
    any = t.fits (λ x y. 0)

    lives : p.status ≡ None
    lives = lives_none p (process_at k c.pid) e (caller_lives words k c a)

    there : slice_get (slice_set k.processes c.pid (process_sharing p s)) c.pid ≡ Some (process_sharing p s)
    there = get-put_same k.processes c.pid p (process_sharing p s) e

    unheld : (f : ℕ) → 0 < vacant k.free f → holders k.regions f ≡ 0
    unheld f l = go (holders k.regions f) (a.memory.uses f (slice_get_within k.free f true (vacant_there k.free f l)))
      where
        go : (h : ℕ) → vacant k.free f + held f k.processes + one_if h ≡ 1 → h ≡ 0
        go zero u = refl
        go (suc h) u = absurd (omega (arith, u, l))

share_outs : (n : ℕ) (s : Sharing) → outs (share_plan n s).jobs ≡ outs s.jobs
unfolding share_plan
share_outs n s =
    let fs = take n (free_numbers s.free) in
    map_pages-outs (next_shared_page s.tables) (map read_write_at fs) (record { tables = s.tables; free = set_free false fs s.free; jobs = s.jobs ++ map zero_job fs })
    ∙ outs-push s.jobs (map zero_job fs) (outs-map zero_job fs (λ f. refl))

share_no_end : (n : ℕ) (s : Sharing) (answer : Answer) → first_reason (share_reasons n s) ≡ Some answer → is_end answer ≡ false
unfolding share_reasons
share_no_end n s answer e = first_no_end (reason (n == 0) answers.Empty ∷ lack_of_frames s.free s.tables n (next_shared_page s.tables) n ∷ []) answer (refl, (refl, tt)) e

shares_each_in : (kind : HeapKind) (batch : ℕ) (entries : ℕ → ℕ → ℕ) (words : List ℕ) (regions : Regions) (n : ℕ) (d : Draft) → Settled kind batch entries words regions d
    → first_reason (share_reasons n (record { tables = d.space.tables; regions = regions; free = d.free; jobs = d.jobs })) ≡ None
    → SharesEach d.space (record (d.space) { tables = (share_plan n (record { tables = d.space.tables; regions = regions; free = d.free; jobs = d.jobs })).tables }) regions
    (share_plan n (record { tables = d.space.tables; regions = regions; free = d.free; jobs = d.jobs })).regions d.free
    (share_plan n (record { tables = d.space.tables; regions = regions; free = d.free; jobs = d.jobs })).free d.jobs
    (share_plan n (record { tables = d.space.tables; regions = regions; free = d.free; jobs = d.jobs })).jobs
unfolding share_plan share_reasons
shares_each_in kind batch entries words regions n d k e =
    shares_each kind batch entries words regions n d k (enough (n == 0) (nat_lt (free_count d.free) (n + need d.space.tables (next_shared_page d.space.tables) n)) refl e)
  where
    enough : (b c : Bool) → nat_lt (free_count d.free) (n + need d.space.tables (next_shared_page d.space.tables) n) ≡ c
        → first_reason (reason b answers.Empty ∷ reason c answers.NoFrames ∷ []) ≡ None → n + need d.space.tables (next_shared_page d.space.tables) n ≤ free_count d.free
    enough true c g f = absurd (let z : ⊥ = grind (arith, f) in z)
    enough false true g f = absurd (let z : ⊥ = grind (arith, f) in z)
    enough false false g f = grind (arith, nat_tests, g)

pub share_owed : (words : List ℕ) (k : KernelState) (c : Calling) (p : Process) (count : ℕ) → Asks words k c → process_at k c.pid ≡ Some p
    → Owed words c (planned_unless (refusal_of (calls.Share count) p k) k (share_done c p count k))
share_owed words k c p count a e = go (refusal_of (calls.Share count) p k) refl
  where
    go : (r : Option Answer) → refusal_of (calls.Share count) p k ≡ r → Owed words c (planned_unless r k (share_done c p count k))
    go (Some answer) f = answered_owed words k c answer a (share_no_end count (sharing_of k p) answer f)
    go None f = sharing_owed words k c p count (share_plan count (sharing_of k p)) (share_address (sharing_of k p)) a e
        (record {
          fits = λ entries. shares_fit k.config.heap k.config.batch entries words k.regions count (draft_of k p) (settled words k c p entries a e) f;
          each = shares_each_in k.config.heap k.config.batch (λ x y. 0) words k.regions count (draft_of k p) (settled words k c p (λ x y. 0) a e) f;
        })
        (share_outs count (sharing_of k p) ∙ ap outs a.waits.jobs)
