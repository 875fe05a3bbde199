-- A fork keeps what holds.
use Rattle.std.proofs.Common.{ℕ, zero, suc, ◌+◌, ◌≡◌, ◌≢◌, ◌<◌, ◌≤◌, ◌==◌, nat_le, ◌&&◌, Bool, true, false, cond, Option, Some, None, is_some, is_none, List, [], ◌∷◌, ◌++◌, length, map, filter, slice_get, slice_set, arith, refl, ap, sym, ◌∙◌, subst, ◌⊎◌, inl, inr}
use Rattle.std.specs.List.{sum_by}
use Rattle.std.proofs.lemmas.Bool.Decides.{nat_tests}
use Rattle.std.proofs.lemmas.List.{length-append}
use Rattle.std.proofs.lemmas.List.Sums.{sum_by_push, sum_by-cons}
use Rattle.std.proofs.lemmas.Option.{slice_get_within}
use Rattle.osc_word.specs.declared.calls.Answer.{Answer}
use Rattle.osc_word.specs.declared.calls.Answer.TheVariants as answers
use Rattle.osc_word.specs.declared.calls.Call.TheVariants as calls
use Rattle.osc_word.specs.declared.job_list.Job.{Job}
use Rattle.osc_slot.proofs.Backing.{get-set}
use Rattle.osc_paging.specs.KeptTables.{KeptTables, piece_of}
use Rattle.osc_paging.specs.JobWords.{words_after}
use Rattle.osc_paging.specs.Agree.{Agrees}
use Rattle.osc_paging.specs.CopyLaws.{KeepsTaken, TellsEntries, CopyAgrees}
use Rattle.osc_paging.specs.TableChanges.{renamed}
use Rattle.osc_space.specs.Space.{Space, Keeps, Reason, reason, first_reason}
use Rattle.osc_word.specs.AddressMap.{is_image_or_stack}
use Rattle.osc_paging.specs.declared.Mapped.{Mapped}
use Rattle.osc_space.specs.Fork.{table_frame_of, heap_frame_of, frame_of_page, Forked, copies, copy_by, copy_job, set_free, fork_reasons, fork_plan}
use Rattle.osc_space.specs.Share.{Regions, holders, shared_frames, join}
use Rattle.osc_parts.specs.Frames.{among, vacant, one_where, frames_held, frames_mapped, FramesFit}
use Rattle.osc_parts.specs.Settled.{PartsFit}
use Rattle.osc_parts.specs.Jobs.{AllWriteWhere, WritesWhere, IsOwn}
use Rattle.osc_parts.specs.ForkFits.{ForkFits}
use Rattle.osc_parts.proofs.Counts.{among-append}
use Rattle.osc_parts.proofs.Trading.{held_is, held_once, held_taken, vacant_once, vacant_there}
use Rattle.osc_parts.proofs.Settling.{settled_frames}
use Rattle.osc_parts.proofs.Blocks.{all_weaker}
use Rattle.osc_parts.proofs.ForkParts.{forks_fit}
use Rattle.osc_calls.specs.declared.Thread.{Thread}
use Rattle.osc_calls.specs.declared.HartRecord.{HartRecord}
use Rattle.osc_calls.specs.declared.HartRecord.TheVariants.{Idle, Runs}
use Rattle.osc_calls.specs.Kernel.{KernelState, Process, Calling, process_at, root_frame, idle_hart}
use Rattle.osc_calls.specs.JobDone.{child_entry}
use Rattle.osc_calls.specs.Labels.{out_count}
use Rattle.osc_calls.specs.Refusals.{draft_of, no_hart, no_process, refusal_of}
use Rattle.osc_calls.specs.Planned.{planned_unless}
use Rattle.osc_calls.specs.ProcessPlans.{new_hart, fork_start, child_process, fork_made, fork_done}
use Rattle.osc_settled.specs.Memory.{Memory, memory_of, draft_in, entries_in, held_by, shared_by, held, shared, one_if, SpaceFits, IsBare, MemoryFits}
use Rattle.osc_settled.specs.Records.{is_living, RecordsFit, IsManned}
use Rattle.osc_settled.specs.UnderWay.{HasAlone, is_end}
use Rattle.osc_settled.proofs.Manned.{manned_put, manned_new}
use Rattle.osc_settled.proofs.Lists.{get-put_same, get-put_other, length-put, one_within, some_same}
use Rattle.osc_settled.proofs.Memories.{keeps_returns, returns_keeps, UsedOnce, taken_there}
use Rattle.osc_settled.proofs.Apart.{holds_apart}
use Rattle.osc_settled.proofs.Commits.{last_of, lives_none, Owed}
use Rattle.osc_settled.proofs.Outcomes.{Asks, caller_lives, closes_nothing}
use Rattle.osc_settled.proofs.Answering.{answered_owed, settled}
use Rattle.osc_settled.proofs.Ending.{living_within}
use Rattle.osc_settled.proofs.Spawning.{get-last, get-either, idle_there, idle_is, idle_other, start_fits, records_more}
use Rattle.osc_settled.proofs.Silent.{outs, outs-push, outs-map, first_no_end}

-- ---- the child's frames
-- who holds a frame, where somebody does
record Holder {X : Type 0} (f : X → ℕ) (xs : List X) : Type 0 where
  index : ℕ
  element : X
  at : slice_get xs index ≡ Some element
  more : 0 < f element

holder : {X : Type 0} (f : X → ℕ) (xs : List X) → 0 < sum_by f xs → Holder f xs
holder f [] l = absurd (omega arith)
holder {X = X} f (x ∷ xs) l = go (f x) refl (holder f xs)
  where
    go : (n : ℕ) → f x ≡ n → (0 < sum_by f xs → Holder f xs) → Holder f (x ∷ xs)
    go zero e later =
        let a = sum_by-cons f x xs in
        let h = later (omega (arith, a, e, l)) in
        record { index = suc h.index; element = h.element; at = h.at; more = h.more }
    go (suc n) e later = record { index = 0; element = x; at = refl; more = omega (arith, e) }

-- frames that are not among those taken are as free as before
set_other : (f x : ℕ) (free : List Bool) → (x == f) ≡ false → vacant (slice_set free x false) f ≡ vacant free f
set_other f x free d =
    let at : slice_get (slice_set free x false) f ≡ cond ((f == x) && is_some (slice_get free f)) (Some false) (slice_get free f) = get-set free x f false in
    let other : (f == x) ≡ false = grind (arith, nat_tests, d) in
    let is : slice_get (slice_set free x false) f ≡ slice_get free f = grind (arith, at, other) in
    ap one_where is

not_taken : (f : ℕ) (xs : List ℕ) (free : List Bool) → among f xs ≡ 0 → vacant (set_free false xs free) f ≡ vacant free f
not_taken f [] free e = refl
not_taken f (x ∷ xs) free e = go (x == f) refl e (not_taken f xs (slice_set free x false))
  where
    go : (b : Bool) → (x == f) ≡ b → cond b 1 0 + among f xs ≡ 0 → (among f xs ≡ 0 → vacant (set_free false xs (slice_set free x false)) f ≡ vacant (slice_set free x false) f)
        → vacant (set_free false xs (slice_set free x false)) f ≡ vacant free f
    go true d g later = absurd (omega (arith, g))
    go false d g later = later (omega (arith, g)) ∙ set_other f x free d

-- the frame that a copy is made into is where the job writes
copied_into : (own : ℕ → Type 0) (t : KeptTables) (pairs : List (ℕ × ℕ)) → AllWriteWhere own (map (copy_job t) pairs) → (f : ℕ) → 0 < among f (map (λ (c : ℕ × ℕ). c.1) pairs) → own f
copied_into own t [] w f l = absurd (omega arith)
copied_into own t (c ∷ pairs) w f l = go (c.1 == f) refl l (copied_into own t pairs w.1 f)
  where
    writes : (b : Bool) → WritesWhere own (copy_by b c) → own c.1
    writes true v = v
    writes false v = v.2

    go : (b : Bool) → (c.1 == f) ≡ b → 0 < cond b 1 0 + among f (map (λ (d : ℕ × ℕ). d.1) pairs) → (0 < among f (map (λ (d : ℕ × ℕ). d.1) pairs) → own f) → own f
    go true d m later = subst own (let same : c.1 ≡ f = grind (arith, nat_tests, d) in same) (writes (is_some (piece_of t.tables c.0)) w.0)
    go false d m later = later (omega (arith, m))

-- a frame that was free and is not any more is the child's
taken_into : (own : ℕ → Type 0) (s : Space) (free : List Bool) → AllWriteWhere own (fork_plan s free).jobs → (f : ℕ) → 0 < vacant free f → vacant (fork_plan s free).free f ≡ 0 → own f
unfolding fork_plan
taken_into own s free w f l v = go (among f (map (λ (c : ℕ × ℕ). c.1) (copies s free))) refl
  where
    go : (n : ℕ) → among f (map (λ (c : ℕ × ℕ). c.1) (copies s free)) ≡ n → own f
    go zero e = absurd (let same = not_taken f (map (λ (c : ℕ × ℕ). c.1) (copies s free)) free e in omega (arith, same, v, l))
    go (suc n) e = copied_into own s.tables (copies s free) w f (omega (arith, e))

-- ---- the memories
abbrev pub memory_forked : Memory → Process → Regions → Forked → Memory
memory_forked m child now f = record m {
  processes = m.processes ++ child ∷ [];
  regions = now;
  free = f.free;
  jobs = m.jobs ++ f.jobs;
}

-- a fork in a memory
record ForksIn (words : List ℕ) (m : Memory) (p : Process) (now : Regions) (f : Forked) : Type 0 where
  fits : (entries : ℕ → ℕ → ℕ) → ForkFits m.heap m.batch entries words m.regions now (draft_in m p.space) f
  into : AllWriteWhere (IsOwn f.child) f.jobs → (frame : ℕ) → 0 < vacant m.free frame → vacant f.free frame ≡ 0 → IsOwn f.child frame
  renames : f.child.tables ≡ renamed f.names p.space.tables

-- what is pushed where no job was pending
pushed_all : (own : ℕ → Type 0) (before jobs more : List Job) → before ≡ [] → before ++ jobs ≡ before ++ more → AllWriteWhere own more → AllWriteWhere own jobs
pushed_all own before jobs more e is w =
    let z : jobs ≡ more = subst (λ js. js ++ jobs ≡ js ++ more) e is in subst (λ js. AllWriteWhere own js) (sym z) w

-- no more frames are free
no_more_free : (free after : List Bool) (f : ℕ) → KeepsTaken free after → vacant after f ≤ vacant free f
no_more_free free after f k = go (vacant after f) refl (vacant free f) refl
  where
    go : (x : ℕ) → vacant after f ≡ x → (y : ℕ) → vacant free f ≡ y → x ≤ y
    go zero e y g = omega arith
    go (suc x) e (suc y) g = (let a = vacant_once after f in omega (arith, a, e))
    go (suc x) e zero g =
        let there = vacant_there after f (omega (arith, e)) in
        let within : f < length free = (let l = slice_get_within after f true there in let s = k.size in omega (arith, l, s)) in
        absurd (let z = sym there ∙ k.taken f (taken_there free f within g) in let w : ⊥ = grind (arith, z) in w)

pub bare_none : (s : Space) (f : ℕ) → IsBare s → among f (frames_held s) ≡ 0
bare_none s f b =
    let h = held_is f s in
    let t = ap (λ ts. among f (map table_frame_of ts)) b.tables in
    let p = ap (λ ps. among f (map heap_frame_of ps)) b.frames in
    let i = ap (λ (ms : List Mapped). among f (map frame_of_page (filter (λ (m : Mapped). is_image_or_stack m.number) ms))) b.pages in
    let a = ap (λ ts. among f (map table_frame_of ts)) b.aside in
    omega (arith, h, t, p, i, a)

-- the child's frames were free, and are all that was taken
child_each : (words : List ℕ) (m : Memory) (p : Process) (now : Regions) (f : Forked) → MemoryFits words m (λ q. Keeps) → m.jobs ≡ []
    → ForksIn words m p now f → (frame : ℕ) → among frame (frames_held f.child) + vacant f.free frame ≡ vacant m.free frame
child_each words m p now f fit none t frame = go (vacant m.free frame) refl
  where
    any : ForkFits m.heap m.batch (λ x y. 0) words m.regions now (draft_in m p.space) f
    any = t.fits (λ x y. 0)

    child_fit : FramesFit f.child f.free
    child_fit = settled_frames m.heap f.child now f.free any.child.agrees

    own : 0 < vacant m.free frame → vacant f.free frame ≡ 0 → 0 < among frame (frames_held f.child)
    own l v = t.into (pushed_all (IsOwn f.child) m.jobs f.jobs any.pushes.more none any.pushes.is any.pushes.within) frame l v

    -- a frame of the child was held by nobody
    not_held : (r : Process) (q : ℕ) → slice_get m.processes q ≡ Some r → 0 < held_by frame r → (s : Option ℕ) → r.status ≡ s → among frame (frames_held f.child) ≡ 0
    not_held r q at l (Some status) e = absurd (let b = bare_none r.space frame (fit.bare q status r at e) in omega (arith, b, l))
    not_held r q at l None e =
        let parts = returns_keeps m.heap m.batch m.regions r.space m.free (fit.spaces q r at e).returns in
        let apart = any.others_apart m.heap m.batch r.space parts frame in
        let mapped : among frame (frames_mapped r.space) ≡ among frame (frames_held r.space) + among frame (shared_frames r.space.tables) = among-append frame (frames_held r.space) (shared_frames r.space.tables) in
        omega (arith, apart, mapped, l)

    no_child : (x : ℕ) → among frame (frames_held f.child) ≡ x → vacant m.free frame ≡ 0 → among frame (frames_held f.child) ≡ 0
    no_child zero e v = e
    no_child (suc x) e v =
        let within : frame < length m.free = (let l = slice_get_within f.free frame false (held_taken f.child f.free frame child_fit (omega (arith, e))) in let s = any.takes.size in omega (arith, l, s)) in
        let zero_now = any.child.private frame (omega (arith, e)) in
        let zero_was : holders m.regions frame ≡ 0 = (let h = any.holds frame in omega (arith, h, zero_now)) in
        let use_was = fit.uses frame within in
        let some : 0 < held frame m.processes = (let o : one_if (holders m.regions frame) ≡ 0 = ap one_if zero_was in omega (arith, o, use_was, v)) in
        let h = holder (held_by frame) m.processes some in
        not_held h.element h.index h.at h.more h.element.status refl

    after : (x : ℕ) → vacant f.free frame ≡ x → vacant m.free frame ≡ 1 → among frame (frames_held f.child) + vacant f.free frame ≡ 1
    after zero e v = let o = own (omega (arith, v)) e in let l = held_once f.child f.free frame child_fit in omega (arith, o, l, e)
    after (suc x) e v = let l = held_once f.child f.free frame child_fit in omega (arith, l, e)

    go : (n : ℕ) → vacant m.free frame ≡ n → among frame (frames_held f.child) + vacant f.free frame ≡ vacant m.free frame
    go zero e = let less = no_more_free m.free f.free frame any.takes in let z = no_child (among frame (frames_held f.child)) refl e in omega (arith, less, z, e)
    go (suc n) e = let one = vacant_once m.free frame in let is : vacant m.free frame ≡ 1 = omega (arith, one, e) in after (vacant f.free frame) refl is ∙ sym is

still_one : (was now more : ℕ) → now ≡ was + more → more ≤ was → one_if now ≡ one_if was
still_one zero now more e l = let z : now ≡ 0 = omega (arith, e, l) in ap one_if z
still_one (suc was) zero more e l = absurd (omega (arith, e))
still_one (suc was) (suc now) more e l = refl

uses_forked : (words : List ℕ) (m : Memory) (pid : ℕ) (p child : Process) (now : Regions) (f : Forked) → MemoryFits words m (λ q. Keeps) → m.jobs ≡ [] → slice_get m.processes pid ≡ Some p
    → child.space ≡ f.child → ForksIn words m p now f → UsedOnce (m.processes ++ child ∷ []) now f.free
uses_forked words m pid p child now f fit none at is t = record {
  uses = λ frame l. (let was = fit.uses frame (let s = any.takes.size in omega (arith, s, l)) in
      let each = child_each words m p now f fit none t frame in
      let sum = sum_by_push (held_by frame) m.processes child in
      let c : held_by frame child ≡ among frame (frames_held f.child) = ap (λ (s : Space). among frame (frames_held s)) is in
      let o = still_one (holders m.regions frame) (holders now frame) (among frame (shared_frames f.child.tables)) (any.holds frame) (few frame) in
      omega (arith, was, each, sum, c, o));
  holders = λ frame. (let was = fit.holders frame in let h = any.holds frame in
      let sum = sum_by_push (shared_by frame) m.processes child in
      let c : shared_by frame child ≡ among frame (shared_frames f.child.tables) = ap (λ (s : Space). among frame (shared_frames s.tables)) is in
      omega (arith, was, h, sum, c));
}
  where
    any : ForkFits m.heap m.batch (λ x y. 0) words m.regions now (draft_in m p.space) f
    any = t.fits (λ x y. 0)

    few : (frame : ℕ) → among frame (shared_frames f.child.tables) ≤ holders m.regions frame
    few frame =
        let a : among frame (shared_frames f.child.tables) ≡ shared_by frame p = ap (λ xs. among frame xs) any.same in
        let b : shared_by frame p ≤ shared frame m.processes = one_within (shared_by frame) m.processes pid p at in
        let c = fit.holders frame in omega (arith, a, b, c)

-- the newest process tells what stands in its tables
tells : (ps : List Process) (child : Process) → TellsEntries (entries_in (ps ++ child ∷ [])) child.space.tables
tells ps child f i l h = ap (λ (o : Option Process). child_entry o f i) (last_of ps child)

forked_memory : (words : List ℕ) (m : Memory) (pid : ℕ) (p child : Process) (now : Regions) (f : Forked) → MemoryFits words m (λ q. Keeps) → m.jobs ≡ [] → slice_get m.processes pid ≡ Some p → p.status ≡ None
    → child.space ≡ f.child → child.status ≡ None → ForksIn words m p now f → MemoryFits words (memory_forked m child now f) (λ q. Keeps)
forked_memory words m pid p child now f fit none at lives is alive t = record {
  spaces = λ q r g l. go q r (get-either m.processes child q r g) l;
  bare = λ q status r g over. bare q status r (get-either m.processes child q r g) over;
  uses = once.uses;
  holders = once.holders;
}
  where
    entries : ℕ → ℕ → ℕ
    entries frame index = entries_in (m.processes ++ child ∷ []) frame index

    any : ForkFits m.heap m.batch (entries_in (m.processes ++ child ∷ [])) words m.regions now (draft_in m p.space) f
    any = t.fits (entries_in (m.processes ++ child ∷ []))

    once : UsedOnce (m.processes ++ child ∷ []) now f.free
    once = uses_forked words m pid p child now f fit none at is t

    was_once : UsedOnce m.processes m.regions m.free
    was_once = record { uses = fit.uses; holders = fit.holders }

    copied : CopyAgrees p.space.tables f.names f.free (words_after (entries_in (m.processes ++ child ∷ [])) (m.jobs ++ f.jobs) words)
    copied = any.tables (subst (λ (s : Space). TellsEntries (entries_in (m.processes ++ child ∷ [])) s.tables) is (tells m.processes child))

    fits_by : (s : Space) → PartsFit m.heap m.batch now s f.free → Agrees s.tables f.free (words_after (entries_in (m.processes ++ child ∷ [])) (m.jobs ++ f.jobs) words) → SpaceFits words (memory_forked m child now f) Keeps s
    fits_by s parts tables = record {
      returns = keeps_returns m.heap m.batch now s f.free parts;
      frames = settled_frames m.heap s now f.free parts.agrees;
      tables = tables;
    }

    old : (q : ℕ) (r : Process) (b : Bool) → (pid == q) ≡ b → slice_get m.processes q ≡ Some r → SpaceFits words m Keeps r.space → SpaceFits words (memory_forked m child now f) Keeps r.space
    old q r true d g was =
        let same : q ≡ pid = grind (arith, nat_tests, d) in
        let one = some_same p r (sym at ∙ subst (λ k. slice_get m.processes k ≡ Some r) same g) in
        subst (λ (x : Process). SpaceFits words (memory_forked m child now f) Keeps x.space) one (fits_by p.space any.parent copied.parent)
    old q r false d g was =
        let n : pid ≢ q = grind (arith, nat_tests, d) in
        let parts = returns_keeps m.heap m.batch m.regions r.space m.free was.returns in
        fits_by r.space
        (any.others m.heap m.batch r.space parts (holds_apart m.processes m.regions m.free q pid r p was_once (λ h. n (sym h)) g at was.frames (fit.spaces pid p at lives).frames))
        (any.others_tables m.heap m.batch r.space parts
        (subst (λ js. Agrees r.space.tables m.free (words_after (entries_in (m.processes ++ child ∷ [])) js words)) (sym none)
        (subst (λ js. Agrees r.space.tables m.free (words_after (entries_in m.processes) js words)) none was.tables)))

    new : SpaceFits words (memory_forked m child now f) Keeps child.space
    new = subst (λ s. SpaceFits words (memory_forked m child now f) Keeps s) (sym is)
        (fits_by f.child any.child
        (subst (λ u. Agrees u f.free (words_after (entries_in (m.processes ++ child ∷ [])) (m.jobs ++ f.jobs) words)) (sym t.renames) copied.child))

    go : (q : ℕ) (r : Process) → (slice_get m.processes q ≡ Some r) ⊎ ((q ≡ length m.processes) × (child ≡ r)) → r.status ≡ None → SpaceFits words (memory_forked m child now f) Keeps r.space
    go q r (inl g) l = old q r (pid == q) refl g (fit.spaces q r g l)
    go q r (inr g) l = subst (λ (x : Process). SpaceFits words (memory_forked m child now f) Keeps x.space) g.1 new

    bare : (q status : ℕ) (r : Process) → (slice_get m.processes q ≡ Some r) ⊎ ((q ≡ length m.processes) × (child ≡ r)) → r.status ≡ Some status → IsBare r.space
    bare q status r (inl g) over = fit.bare q status r g over
    bare q status r (inr g) over = absurd (let z = sym alive ∙ ap (λ (x : Process). x.status) g.1 ∙ over in let w : ⊥ = grind (arith, z) in w)

-- ---- the records
past_none : (ps : List Process) → slice_get ps (length ps) ≡ None
past_none [] = refl
past_none (p ∷ ps) = past_none ps

living_more : (ps : List Process) (child : Process) (q : ℕ) → q < length ps → is_living (slice_get (ps ++ child ∷ []) q) ≡ is_living (slice_get ps q)
living_more [] child q l = absurd (omega arith)
living_more (p ∷ ps) child zero l = refl
living_more (p ∷ ps) child (suc q) l = living_more ps child q (omega (arith, l))

living_but : (ps : List Process) (child : Process) (q : ℕ) → length ps ≢ q → is_living (slice_get (ps ++ child ∷ []) q) ≡ is_living (slice_get ps q)
living_but [] child zero n = absurd (n refl)
living_but [] child (suc q) n = refl
living_but (p ∷ ps) child zero n = refl
living_but (p ∷ ps) child (suc q) n = living_but ps child q (λ e. n (ap (λ k. suc k) e))

length_more : (ps : List Process) (child : Process) → length (ps ++ child ∷ []) ≡ length ps + 1
length_more ps child = let a = length-append ps (child ∷ []) in omega (arith, a)

records_with : (ps : List Process) (child : Process) (threads : List Thread) (records : List HartRecord) → RecordsFit ps threads records None → RecordsFit (ps ++ child ∷ []) threads records None
records_with ps child threads records f = record {
  lives = λ h q t g. (let l = f.lives h q t g in living_more ps child q (living_within ps q l) ∙ l);
  goes_on = f.goes_on;
  works = f.works;
  alone = f.alone;
  known = λ h q g. (let k = f.known h q g in let n = length_more ps child in omega (arith, k, n));
  stopped = λ h q g alive. f.stopped h q g (sym (living_more ps child q (f.known h q g)) ∙ alive);
  spawned = λ place t g. (let k = f.spawned place t g in let n = length_more ps child in omega (arith, k, n));
}

-- ---- the plan
copies_outs : (t : KeptTables) (pairs : List (ℕ × ℕ)) → outs (map (copy_job t) pairs) ≡ 0
copies_outs t pairs = outs-map (copy_job t) pairs (λ c. none (is_some (piece_of t.tables c.0)) c)
  where
    none : (b : Bool) (c : ℕ × ℕ) → out_count (copy_by b c) ≡ 0
    none true c = refl
    none false c = refl

fork_outs : (s : Space) (free : List Bool) → outs (fork_plan s free).jobs ≡ 0
unfolding fork_plan
fork_outs s free = copies_outs s.tables (copies s free)

fork_renames : (s : Space) (free : List Bool) → (fork_plan s free).child.tables ≡ renamed (fork_plan s free).names s.tables
unfolding fork_plan
fork_renames s free = refl

forks_in : (words : List ℕ) (k : KernelState) (c : Calling) (p : Process) → Asks words k c → process_at k c.pid ≡ Some p → first_reason (fork_reasons p.space k.free) ≡ None
    → ForksIn words (memory_of k) p (join (fork_plan p.space k.free).child.tables k.regions) (fork_plan p.space k.free)
forks_in words k c p a e r = record {
  fits = λ entries. forks_fit k.config.heap k.config.batch entries words k.regions (draft_of k p) (settled words k c p entries a e) r;
  into = λ w frame l v. taken_into (IsOwn (fork_plan p.space k.free).child) p.space k.free w frame l v;
  renames = fork_renames p.space k.free;
}

forked_owed : (words : List ℕ) (k : KernelState) (c : Calling) (p : Process) (hart : ℕ) (f : Forked) → Asks words k c → process_at k c.pid ≡ Some p
    → slice_get k.records hart ≡ Some Idle → length k.processes < k.config.processes → outs f.jobs ≡ 0
    → ForksIn words (memory_of k) p (join f.child.tables k.regions) f → Owed words c (fork_made hart (length k.processes) c f k)
forked_owed words k c p hart f a e idle room none t = record {
  sizes = record {
    config = a.sizes.config;
    memory = a.sizes.memory;
    free = any.takes.size ∙ a.sizes.free;
    regions = any.child.agrees.shared.count ∙ any.takes.size ∙ a.sizes.free;
    records = length-put k.records hart (Runs (length k.processes) None) ∙ a.sizes.records;
    processes = (let n = length_more k.processes (child_process c.pid f.child) in omega (arith, n, room));
    threads = a.sizes.threads;
    journal = a.sizes.journal;
    output = (let x = outs-push k.jobs f.jobs none in let y = a.sizes.output in omega (arith, x, y));
    peak = a.sizes.peak;
  };
  room = a.waits.room;
  memory = closes_nothing words (memory_forked (memory_of k) (child_process c.pid f.child) (join f.child.tables k.regions) f) c.pid
      (forked_memory words (memory_of k) c.pid p (child_process c.pid f.child) (join f.child.tables k.regions) f a.memory a.waits.jobs e lives refl refl t);
  records = records_more (k.processes ++ child_process c.pid f.child ∷ []) k.threads k.threads k.records hart (length k.processes) None with_child
      (ap is_living (get-last k.processes (child_process c.pid f.child))) (λ q u h. h) refl
      (λ h g. (let z = sym (a.records.lives h (length k.processes) None g) ∙ ap is_living (past_none k.processes) in let w : ⊥ = grind (arith, z) in w))
      with_child.spawned;
  manned = λ q l n. manned q (length k.processes == q) refl l n;
  lives = living_more k.processes (child_process c.pid f.child) c.pid (living_within k.processes c.pid (caller_lives words k c a)) ∙ caller_lives words k c a;
  caller = get-put_other k.records hart c.hart (Runs (length k.processes) None) other ∙ a.waits.caller;
  jobs = subst (λ x. AllWriteWhere (HasAlone (join f.child.tables k.regions) x) (k.jobs ++ f.jobs)) (sym (get-last k.processes (child_process c.pid f.child)))
      (all_weaker (IsOwn f.child) (HasAlone (join f.child.tables k.regions) (Some (child_process c.pid f.child))) (k.jobs ++ f.jobs) (λ frame l. inl l)
      (subst (λ js. AllWriteWhere (IsOwn f.child) (js ++ f.jobs)) (sym a.waits.jobs)
      (pushed_all (IsOwn f.child) k.jobs f.jobs any.pushes.more a.waits.jobs any.pushes.is any.pushes.within)));
  effect = (
    refl,
    start_fits (fork_made hart (length k.processes) c f k).kernel (child_process c.pid f.child) c.hart hart None
        (fork_start k.config c (length k.processes) (root_frame f.child)) other (get-put_same k.records hart Idle (Runs (length k.processes) None) idle)
        (get-last k.processes (child_process c.pid f.child)) refl refl refl,
  );
}
  where
    any : ForkFits k.config.heap k.config.batch (λ x y. 0) words k.regions (join f.child.tables k.regions) (draft_of k p) f
    any = t.fits (λ x y. 0)

    lives : p.status ≡ None
    lives = lives_none p (process_at k c.pid) e (caller_lives words k c a)

    manned : (q : ℕ) (b : Bool) → (length k.processes == q) ≡ b → is_living (slice_get (k.processes ++ child_process c.pid f.child ∷ []) q) ≡ true → None ≢ Some q
        → IsManned (slice_set k.records hart (Runs (length k.processes) None)) q
    manned q true d l n =
        let same : length k.processes ≡ q = grind (arith, nat_tests, d) in
        subst (λ x. IsManned (slice_set k.records hart (Runs (length k.processes) None)) x) same (manned_new k.records hart (length k.processes) Idle None idle)
    manned q false d l n =
        let not_new : length k.processes ≢ q = grind (arith, nat_tests, d) in
        manned_put k.records hart q Idle (Runs (length k.processes) None) idle (λ t x. (let z : ⊥ = cc in z))
        (a.manned q (sym (living_but k.processes (child_process c.pid f.child) q not_new) ∙ l) n)

    other : hart ≢ c.hart
    other = idle_other k.records hart c.hart c.pid c.thread idle a.waits.caller

    with_child : RecordsFit (k.processes ++ child_process c.pid f.child ∷ []) k.threads k.records None
    with_child = records_with k.processes (child_process c.pid f.child) k.threads k.records a.records

reasons_no_end : (k : KernelState) (p : Process) (answer : Answer) → first_reason (no_hart k ∷ no_process k ∷ fork_reasons p.space k.free) ≡ Some answer → is_end answer ≡ false
unfolding fork_reasons
reasons_no_end k p answer e = first_no_end (no_hart k ∷ no_process k ∷ fork_reasons p.space k.free) answer (refl, (refl, (refl, tt))) e

-- where no reason holds, there is a hart, a process and memory
pub none_of : (b d : Bool) (x y : Answer) (more : List Reason) → first_reason (reason b x ∷ reason d y ∷ more) ≡ None → (b ≡ false) × (d ≡ false) × (first_reason more ≡ None)
none_of true d x y more e = absurd (let z : ⊥ = grind (arith, e) in z)
none_of false true x y more e = absurd (let z : ⊥ = grind (arith, e) in z)
none_of false false x y more e = (refl, refl, e)

below : (most n : ℕ) → nat_le most n ≡ false → n < most
below most n e = grind (arith, nat_tests, e)

pub fork_owed : (words : List ℕ) (k : KernelState) (c : Calling) (p : Process) → Asks words k c → process_at k c.pid ≡ Some p
    → Owed words c (planned_unless (refusal_of calls.Fork p k) k (fork_done c p k))
fork_owed words k c p a e = go (refusal_of calls.Fork p k) refl
  where
    go : (r : Option Answer) → refusal_of calls.Fork p k ≡ r → Owed words c (planned_unless r k (fork_done c p k))
    go (Some answer) f = answered_owed words k c answer a (reasons_no_end k p answer f)
    go None f =
        let n = none_of (is_none (idle_hart k.records)) (nat_le k.config.processes (length k.processes)) answers.NoHart answers.NoProcess (fork_reasons p.space k.free) f in
        forked_owed words k c p (new_hart k) (fork_plan p.space k.free) a e (idle_there k.records (new_hart k) (idle_is (idle_hart k.records) n.0))
        (below k.config.processes (length k.processes) n.1) (fork_outs p.space k.free) (forks_in words k c p a e n.2)
