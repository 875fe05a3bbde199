-- Looks at the processes.
use Rattle.std.proofs.Common.{ℕ, ◌+◌, ◌≡◌, ◌==◌, Bool, true, cond, Option, Some, None, is_some, List, [], ◌∷◌, slice_get, arith, refl, ap, sym, ◌∙◌, subst}
use Rattle.std.specs.Prelude.{IfSome}
use Rattle.std.specs.List.{count_by, list_all}
use Rattle.std.proofs.lemmas.Bool.Decides.{nat_tests}
use Rattle.std.proofs.lemmas.List.Sums.{sum_by-cons}
use Rattle.osc_word.specs.declared.job_list.Job.{Job}
use Rattle.osc_word.specs.declared.job_list.Job.TheVariants.{PutWord, ZeroWords, CopyWords, CopyPart, CopyTable, ClearBox, Tell, ToOut}
use Rattle.osc_slot.specs.declared.Block.{Block}
use Rattle.osc_slot.specs.Heap.{release}
use Rattle.osc_paging.specs.declared.Piece.{Piece}
use Rattle.osc_paging.specs.KeptTables.{KeptTables, piece_of, placed, table_at, word_in, kept_word, root_of}
use Rattle.osc_space.specs.Space.{Space, Draft, Closing, Keeps, GivesBack, with_heap}
use Rattle.osc_space.specs.Finish.{give_blocks, finished}
use Rattle.osc_space.specs.WordLaws.{StaysInFrame, StayInFrames}
use Rattle.osc_parts.specs.Jobs.{WritesWhere, AllWriteWhere}
use Rattle.osc_calls.specs.Kernel.{KernelState, Process, UnderWay, Quiet, Retrying, Leaving, Waiting, Returning, process_at}
use Rattle.osc_settled.specs.Memory.{Memory, MemoryFits, at_rest}
use Rattle.osc_settled.specs.UnderWay.{UnderWayFits, WaitingFits, ReturningFits}
use Rattle.osc_settled.specs.KernelFits.{KernelFits}
use Rattle.osc_kernel.specs.Sound.{Fits, begun, has_not_ended, opens_with}

-- a frame that is no table has words 0
no_word : (t : KeptTables) (piece aside : Option Piece) (index : ℕ) → placed t piece aside ≡ None → word_in t piece index ≡ 0
no_word t None aside index e = refl
no_word t (Some p) aside index e = absurd (let z : ⊥ = grind (arith, e) in z)

pub no_table : (t : KeptTables) (frame index : ℕ) → table_at t frame ≡ None → kept_word t frame index ≡ 0
no_table t frame index e = no_word t (piece_of t.tables frame) (piece_of t.aside frame) index e

-- none is left exactly where all have ended
pub all_ended : (ps : List Process) → (count_by has_not_ended ps == 0) ≡ list_all (λ (p : Process). is_some p.status) ps
all_ended [] = refl
all_ended (p ∷ ps) = go p.status refl (all_ended ps)
  where
    more : count_by has_not_ended (p ∷ ps) ≡ cond (has_not_ended p) 1 0 + count_by has_not_ended ps
    more = sum_by-cons (λ (x : Process). cond (has_not_ended x) 1 0) p ps

    go : (o : Option ℕ) → p.status ≡ o → (count_by has_not_ended ps == 0) ≡ list_all (λ (x : Process). is_some x.status) ps → (count_by has_not_ended (p ∷ ps) == 0) ≡ list_all (λ (x : Process). is_some x.status) (p ∷ ps)
    go None e b =
        let a = more in
        grind (arith, nat_tests, a, b, e)
    go (Some status) e b =
        let a = more in
        grind (arith, nat_tests, a, b, e)

-- ---- the topmost table of a process that has not ended
tables_given : (blocks : List Block) (d : Draft) → (give_blocks blocks d).space.tables ≡ d.space.tables
tables_given [] d = refl
tables_given (block ∷ blocks) d = tables_given blocks (with_heap (release d.space.heap block d.free) d)

root_before : (closing : Closing) (s : Space) (free : List Bool) → is_some (root_of (finished closing (at_rest s free)).space.tables) ≡ true → is_some (root_of s.tables) ≡ true
unfolding finished
root_before Keeps s free e = e
root_before (GivesBack blocks) s free e = ap (λ (t : KeptTables). is_some (root_of t)) (sym (tables_given blocks (at_rest s free))) ∙ e

root_in_memory : (words : List ℕ) (m : Memory) (closes : ℕ → Closing) (pid : ℕ) (p : Process) → MemoryFits words m closes
    → slice_get m.processes pid ≡ Some p → p.status ≡ None → is_some (root_of p.space.tables) ≡ true
root_in_memory words m closes pid p h at lives = root_before (closes pid) p.space m.free (h.spaces pid p at lives).returns.parts.agrees.root

pub has_root : (k : KernelState) (pid : ℕ) (p : Process) → Fits k → process_at k pid ≡ Some p → p.status ≡ None → is_some (root_of p.space.tables) ≡ true
has_root k pid p f at lives = go k.under_way f.fits
  where
    go : (u : UnderWay) → KernelFits f.words (begun u k) → is_some (root_of p.space.tables) ≡ true
    go Quiet h = root_in_memory f.words _ _ pid p h.memory at lives
    go Retrying h = root_in_memory f.words _ _ pid p h.memory at lives
    go (Leaving hart) h = root_in_memory f.words _ _ pid p h.memory at lives
    go (Waiting c) h = root_in_memory f.words _ _ pid p h.memory at lives
    go (Returning done) h = root_in_memory f.words _ _ pid p h.memory at lives

-- ---- the next job
job_stays : (own : ℕ → Type 0) (job : Job) → WritesWhere own job → StaysInFrame job
job_stays own (PutWord at value) w = tt
job_stays own (ZeroWords at count) w = w.0
job_stays own (CopyWords from to count) w = (w.0, w.1)
job_stays own (CopyPart from to bytes) w = tt
job_stays own (CopyTable from to) w = tt
job_stays own (ClearBox hart) w = tt
job_stays own (Tell hart) w = tt
job_stays own (ToOut at first count) w = tt

first_stays : (own : ℕ → Type 0) (jobs : List Job) (job : Job) → AllWriteWhere own jobs → slice_get jobs 0 ≡ Some job → StaysInFrame job
first_stays own [] job w e = absurd (let z : ⊥ = grind (arith, e) in z)
first_stays own (next ∷ jobs) job w e = let same : next ≡ job = cc in subst StaysInFrame same (job_stays own next w.0)

first_of_those : (jobs : List Job) (job : Job) → StayInFrames jobs → slice_get jobs 0 ≡ Some job → StaysInFrame job
first_of_those [] job w e = absurd (let z : ⊥ = grind (arith, e) in z)
first_of_those (next ∷ jobs) job w e = let same : next ≡ job = cc in subst StaysInFrame same w.0

no_next : (jobs : List Job) (job : Job) → jobs ≡ [] → slice_get jobs 0 ≡ Some job → StaysInFrame job
no_next [] job none e = absurd (let z : ⊥ = grind (arith, e) in z)
no_next (next ∷ jobs) job none e = absurd (let z : ⊥ = grind (arith, none) in z)

pub next_stays : (k : KernelState) (job : Job) → Fits k → slice_get k.jobs 0 ≡ Some job → StaysInFrame job
next_stays k job f e = go k.under_way refl f.fits f.opens
  where
    go : (u : UnderWay) → k.under_way ≡ u → KernelFits f.words (begun u k) → opens_with u k.jobs → StaysInFrame job
    go Quiet u h o = first_of_those k.jobs job o.within e
    go Retrying u h o = no_next k.jobs job (subst (λ x. UnderWayFits k x) u h.under_way) e
    go (Leaving hart) u h o = no_next k.jobs job (subst (λ x. UnderWayFits k x) u h.under_way) e
    go (Waiting c) u h o = no_next k.jobs job (let w : WaitingFits k c = subst (λ x. UnderWayFits k x) u h.under_way in w.jobs) e
    go (Returning done) u h o = first_stays _ k.jobs job (let r : ReturningFits k done = subst (λ x. UnderWayFits k x) u h.under_way in r.jobs) e

pub if_some : {X : Type 0} (o : Option X) (P : X → Type 0) → ((x : X) → o ≡ Some x → P x) → IfSome o P
if_some None P h = tt
if_some (Some x) P h = h x refl
