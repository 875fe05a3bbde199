-- What was made and answered is the plan's.
use Rattle.std.proofs.Common.{ℕ, ◌+◌, ◌≡◌, ◌==◌, Bool, true, false, cond, List, [], ◌∷◌, ◌++◌, Option, Some, None, arith, refl, ap, sym, subst, ◌∙◌}
use Rattle.std.proofs.lemmas.Bool.Decides.{nat_tests}
use Rattle.osc_word.specs.declared.job_list.Job.{Job}
use Rattle.osc_word.specs.declared.calls.Answer.{Answer}
use Rattle.osc_word.specs.declared.calls.Answer.TheVariants as answer
use Rattle.osc_class.specs.declared.Room.{Room}
use Rattle.osc_class.specs.Rooms.{room_of}
use Rattle.osc_paging.specs.KeptTables.{KeptTables}
use Rattle.osc_slot.specs.declared.Block.{Block}
use Rattle.osc_slot.specs.Slots.{is_room}
use Rattle.osc_slot.specs.Heap.{Heap, next_block, block_of_user}
use Rattle.osc_space.specs.Space.{Draft, Outcome, Keeps, GivesBack, reason, first_reason, unless, push}
use Rattle.osc_space.specs.BlockWords.{copy_jobs, trim_jobs}
use Rattle.osc_space.specs.PlainHeap.{place_plain, plain_malloc_in, plain_malloc_plan, let_go_plain, plain_free_of, kept_bytes, copy_block, plain_move, plain_resize, plain_realloc_of}
use Rattle.osc_plain.specs.declared.PlainMalloced.TheVariants as malloced
use Rattle.osc_plain.specs.declared.PlainFreed.TheVariants as freed
use Rattle.osc_plain.specs.declared.PlainRealloced.TheVariants as realloced
use Rattle.osc_plain.specs.Plan.{draft, lacks, malloced_now, freed_now, realloced_now}

-- ---- malloc
pub malloc_refused : (shadows n : ℕ) (t : KeptTables) (heap : Heap) (free : List Bool) (jobs : List Job) (room : Room) → room ≡ room_of n → lacks t heap free room ≡ true
    → malloced_now malloced.NoFrames (draft shadows t heap free jobs) ≡ plain_malloc_plan n (draft shadows t heap free jobs)
unfolding plain_malloc_plan
malloc_refused shadows n t heap free jobs room r e =
    let lack : lacks t heap free (room_of n) ≡ true = subst (λ x. lacks t heap free x ≡ true) r e in
    ap (λ b. unless (first_reason (reason b answer.NoFrames ∷ [])) (draft shadows t heap free jobs) (plain_malloc_in n (next_block heap (room_of n)) (draft shadows t heap free jobs))) (sym lack)

pub malloc_done : (shadows n pointer : ℕ) (t : KeptTables) (heap : Heap) (free : List Bool) (jobs : List Job) (room : Room) (new : Draft) → room ≡ room_of n → lacks t heap free room ≡ false
    → pointer ≡ (next_block heap room).start + 16 → new ≡ place_plain n (next_block heap room) (draft shadows t heap free jobs)
    → malloced_now (malloced.Given pointer) new ≡ plain_malloc_plan n (draft shadows t heap free jobs)
unfolding plain_malloc_plan
malloc_done shadows n pointer t heap free jobs room new r e p m =
    let lack : lacks t heap free (room_of n) ≡ false = subst (λ x. lacks t heap free x ≡ false) r e in
    ap (λ x. malloced_now (malloced.Given x) new) p
    ∙ ap (λ x. malloced_now (malloced.Given ((next_block heap room).start + 16)) x) m
    ∙ ap (λ x. plain_malloc_in n (next_block heap x) (draft shadows t heap free jobs)) r
    ∙ ap (λ b. unless (first_reason (reason b answer.NoFrames ∷ [])) (draft shadows t heap free jobs) (plain_malloc_in n (next_block heap (room_of n)) (draft shadows t heap free jobs))) (sym lack)

-- ---- free
pub freed_nothing : (harts : ℕ) (found : Option Block) (d : Draft) → found ≡ None → freed_now freed.NotAnObject found d ≡ plain_free_of found harts d
freed_nothing harts found d e =
    let P : Option Block → Type 0 = λ x. freed_now freed.NotAnObject x d ≡ plain_free_of x harts d in
    subst P (sym e) refl

pub freed_block : (harts : ℕ) (found : Option Block) (block : Block) (d new : Draft) → found ≡ Some block → new ≡ let_go_plain harts block d → freed_now freed.Freed found new ≡ plain_free_of found harts d
freed_block harts found block d new e m =
    let P : Option Block → Type 0 = λ x. freed_now freed.Freed x new ≡ plain_free_of x harts d in
    subst P (sym e) (ap (λ x. freed_now freed.Freed (Some block) x) m)

-- ---- realloc
-- a block has its user address
pub has_address : (held : List Block) (user : ℕ) (block : Block) → block_of_user held user ≡ Some block → user ≡ block.start + 16
has_address [] user block e = cc
has_address (b ∷ held) user block e = go (b.start + 16 == user) refl e (has_address held user block)
  where
    go : (t : Bool) → (b.start + 16 == user) ≡ t → cond t (Some b) (block_of_user held user) ≡ Some block → (block_of_user held user ≡ Some block → user ≡ block.start + 16) → user ≡ block.start + 16
    go true f g on = let is : b ≡ block = cc in let s : b.start ≡ block.start = ap (λ (x : Block). x.start) is in let h : b.start + 16 ≡ user = grind (arith, nat_tests, f) in omega (arith, s, h)
    go false f g on = on g

pub moved_nothing : (harts n size : ℕ) (found : Option Block) (d : Draft) → found ≡ None → realloced_now realloced.NotAnObject n found d ≡ plain_realloc_of found harts n size d
moved_nothing harts n size found d e =
    let P : Option Block → Type 0 = λ x. realloced_now realloced.NotAnObject n x d ≡ plain_realloc_of x harts n size d in
    subst P (sym e) refl

pub stayed : (harts n size pointer : ℕ) (found : Option Block) (block : Block) (d new : Draft) → found ≡ Some block → is_room (room_of n) block.room ≡ true → pointer ≡ block.start + 16
    → new ≡ push (trim_jobs d.space.heap.pages block (kept_bytes block size n) n) d
    → realloced_now (realloced.Placed pointer) n found new ≡ plain_realloc_of found harts n size d
stayed harts n size pointer found block d new e r p m =
    let P : Option Block → Type 0 = λ x. realloced_now (realloced.Placed pointer) n x new ≡ plain_realloc_of x harts n size d in
    subst P (sym e) (rw r (ap (λ x. kept_now (answer.Placed x) new) p ∙ ap (λ x. kept_now (answer.Placed (block.start + 16)) x) m))
  where
    kept_now : Answer → Draft → Outcome
    kept_now a x = record { answer = a; draft = x; closing = Keeps }

pub refused : (harts n size shadows : ℕ) (t : KeptTables) (heap : Heap) (free : List Bool) (jobs : List Job) (found : Option Block) (block : Block) (room : Room) → found ≡ Some block → room ≡ room_of n
    → is_room (room_of n) block.room ≡ false → lacks t heap free room ≡ true
    → realloced_now realloced.NoFrames n found (draft shadows t heap free jobs) ≡ plain_realloc_of found harts n size (draft shadows t heap free jobs)
refused harts n size shadows t heap free jobs found block room e q r l =
    let lack : lacks t heap free (room_of n) ≡ true = subst (λ x. lacks t heap free x ≡ true) q l in
    let d : Draft = draft shadows t heap free jobs in
    let P : Option Block → Type 0 = λ x. realloced_now realloced.NoFrames n x (draft shadows t heap free jobs) ≡ plain_realloc_of x harts n size (draft shadows t heap free jobs) in
    subst P (sym e) (rw r (ap (λ b. unless (first_reason (reason b answer.NoFrames ∷ [])) d (plain_resize false harts block n (kept_bytes block size n) d)) (sym lack)))

pub moved : (harts n size shadows pointer : ℕ) (t : KeptTables) (heap : Heap) (free : List Bool) (jobs : List Job) (found : Option Block) (block : Block) (room : Room) (new : Draft) → found ≡ Some block → room ≡ room_of n
    → is_room (room_of n) block.room ≡ false → lacks t heap free room ≡ false → pointer ≡ (next_block heap room).start + 16
    → new ≡ let_go_plain harts block (copy_block block (next_block heap room) (kept_bytes block size n) (place_plain n (next_block heap room) (draft shadows t heap free jobs)))
    → realloced_now (realloced.Placed pointer) n found new ≡ plain_realloc_of found harts n size (draft shadows t heap free jobs)
moved harts n size shadows pointer t heap free jobs found block room new e q r l p m =
    let lack : lacks t heap free (room_of n) ≡ false = subst (λ x. lacks t heap free x ≡ false) q l in
    let d : Draft = draft shadows t heap free jobs in
    let P : Option Block → Type 0 = λ x. realloced_now (realloced.Placed pointer) n x new ≡ plain_realloc_of x harts n size (draft shadows t heap free jobs) in
    subst P (sym e) (rw r
    (ap (λ x. moved_now x new) p
    ∙ ap (λ x. moved_now ((next_block heap room).start + 16) x) m
    ∙ ap (λ x. plain_move harts block n (kept_bytes block size n) (next_block heap x) d) q
    ∙ ap (λ b. unless (first_reason (reason b answer.NoFrames ∷ [])) d (plain_resize false harts block n (kept_bytes block size n) d)) (sym lack)))
  where
    moved_now : ℕ → Draft → Outcome
    moved_now x y = record { answer = answer.Placed x; draft = y; closing = GivesBack (block ∷ []) }

-- a block is placed, the bytes are copied, and the old pages are let go
pub moves : (shadows harts kept : ℕ) (old block next : Block) (t u : KeptTables) (heap : Heap) (free : List Bool) (jobs copied pushed : List Job) (d : Draft) → block ≡ next → draft shadows t heap free jobs ≡ d
    → copied ≡ jobs ++ copy_jobs heap.pages old block kept
    → draft shadows u heap free pushed ≡ let_go_plain harts old (draft shadows t heap free copied)
    → draft shadows u heap free pushed ≡ let_go_plain harts old (copy_block old next kept d)
moves shadows harts kept old block next t u heap free jobs copied pushed d b p j e =
    e ∙ ap (λ x. let_go_plain harts old (draft shadows t heap free x)) j
    ∙ ap (λ x. let_go_plain harts old (copy_block old x kept (draft shadows t heap free jobs))) b
    ∙ ap (λ x. let_go_plain harts old (copy_block old next kept x)) p
