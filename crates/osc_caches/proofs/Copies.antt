-- In a call on the heap nothing is copied into a table.
use Rattle.std.proofs.Common.{ℕ, ◌≡◌, ◌≢◌, ◌<◌, ◌==◌, ⊎_elim, Bool, true, false, Some, None, List, [], ◌∷◌, arith, refl, sym, ap, subst, ◌∙◌}
use Rattle.std.proofs.lemmas.Bool.Decides.{nat_tests}
use Rattle.osc_word.specs.declared.job_list.Job.{Job}
use Rattle.osc_word.specs.declared.job_list.Job.TheVariants.{PutWord, ZeroWords, CopyWords, CopyPart, CopyTable, ClearBox, Tell, ToOut}
use Rattle.osc_paging.specs.KeptTables.{KeptTables}
use Rattle.osc_paging.specs.CopyLaws.{IsNoTable}
use Rattle.osc_space.specs.Share.{holders, shared_frames}
use Rattle.osc_parts.specs.Frames.{among, frames_held}
use Rattle.osc_parts.specs.Jobs.{AllWriteWhere}
use Rattle.osc_parts.proofs.Blocks.{no_piece}
use Rattle.osc_parts.proofs.Counts.{among-append}
use Rattle.osc_parts.proofs.Trading.{held_is}
use Rattle.osc_calls.specs.Kernel.{KernelState, Process, process_at}
use Rattle.osc_settled.specs.UnderWay.{HasAlone, ReturningFits, UnderWayFits}
use Rattle.osc_settled.specs.KernelFits.{KernelFits}
use Rattle.osc_settled.proofs.Commits.{lives_none}
use Rattle.osc_settled.proofs.Following.{processes_apart}
use Rattle.osc_showing.specs.Showing.{JobsFit}
use Rattle.osc_caches.specs.Stores.{AllCopyElsewhere, HeapCallsCopy}

-- into none of the caller's
pub own-copies : (t : KeptTables) (free : List Bool) (jobs : List Job) → JobsFit t free jobs → AllCopyElsewhere t jobs
own-copies t free [] j = tt
own-copies t free (PutWord at value ∷ jobs) j = (tt, own-copies t free jobs j.1)
own-copies t free (ZeroWords at count ∷ jobs) j = (tt, own-copies t free jobs j.1)
own-copies t free (CopyWords from to count ∷ jobs) j = ((j.0.1, j.0.2), own-copies t free jobs j.1)
own-copies t free (CopyPart from to bytes ∷ jobs) j = ((j.0.1, j.0.2), own-copies t free jobs j.1)
own-copies t free (CopyTable from to ∷ jobs) j = (tt, own-copies t free jobs j.1)
own-copies t free (ClearBox hart ∷ jobs) j = (tt, own-copies t free jobs j.1)
own-copies t free (Tell hart ∷ jobs) j = (tt, own-copies t free jobs j.1)
own-copies t free (ToOut at first count ∷ jobs) j = (tt, own-copies t free jobs j.1)

-- and into none of another's, since the jobs write in frames of the caller's alone
other-copies : (own : ℕ → Type 0) (t : KeptTables) (jobs : List Job) → ((f : ℕ) → own f → IsNoTable t f) → AllWriteWhere own jobs → AllCopyElsewhere t jobs
other-copies own t [] h w = tt
other-copies own t (PutWord at value ∷ jobs) h w = (tt, other-copies own t jobs h w.1)
other-copies own t (ZeroWords at count ∷ jobs) h w = (tt, other-copies own t jobs h w.1)
other-copies own t (CopyWords from to count ∷ jobs) h w = ((w.0.1, h to.frame w.0.2), other-copies own t jobs h w.1)
other-copies own t (CopyPart from to bytes ∷ jobs) h w = ((w.0.0, h to.frame w.0.1), other-copies own t jobs h w.1)
other-copies own t (CopyTable from to ∷ jobs) h w = (tt, other-copies own t jobs h w.1)
other-copies own t (ClearBox hart ∷ jobs) h w = (tt, other-copies own t jobs h w.1)
other-copies own t (Tell hart ∷ jobs) h w = (tt, other-copies own t jobs h w.1)
other-copies own t (ToOut at first count ∷ jobs) h w = (tt, other-copies own t jobs h w.1)

pub alone-no-table : (words : List ℕ) (k : KernelState) (pid q : ℕ) (p r : Process) → KernelFits words k → q ≢ pid → process_at k pid ≡ Some p → process_at k q ≡ Some r → p.status ≡ None → r.status ≡ None
    → (frame : ℕ) → HasAlone k.regions (Some p) frame → IsNoTable r.space.tables frame
alone-no-table words k pid q p r fits apart here there lives alive frame a =
    let both = processes_apart words k q pid r p fits apart there here alive lives frame in
    let back = processes_apart words k pid q p r fits (λ e. apart (sym e)) here there lives alive frame in
    let b = held_is frame r.space in
    let c = among-append frame (frames_held p.space) (shared_frames p.space.tables) in
    let d = among-append frame (frames_held r.space) (shared_frames r.space.tables) in
    let none : among frame (frames_held r.space) ≡ 0 = ⊎_elim
    (λ (x : 0 < among frame (frames_held p.space)). (let z : among frame (frames_held r.space) ≡ 0 = omega (arith, x, back, d) in z))
    (λ (x : (0 < among frame (shared_frames p.space.tables)) × (holders k.regions frame ≡ 1)). (let y = x.0 in let z : among frame (frames_held r.space) ≡ 0 = omega (arith, y, both, c) in z))
    a in
    (no_piece frame r.space.tables.tables (omega (arith, none, b)), no_piece frame r.space.tables.aside (omega (arith, none, b)))

pub heap_calls_copy : HeapCallsCopy
heap_calls_copy words now k done fits u made shows q r there alive = go (q == done.calling.pid) refl
  where
    stands : ReturningFits k done
    stands = subst (UnderWayFits k) u fits.under_way

    lives : shows.p.status ≡ None
    lives = lives_none shows.p (process_at k done.calling.pid) shows.is stands.lives

    jobs : AllWriteWhere (HasAlone k.regions (Some shows.p)) k.jobs
    jobs = subst (λ o. AllWriteWhere (HasAlone k.regions o) k.jobs) (ap (process_at k) made ∙ shows.is) stands.jobs

    go : (b : Bool) → (q == done.calling.pid) ≡ b → AllCopyElsewhere r.space.tables k.jobs
    go true e =
        let same : q ≡ done.calling.pid = grind (arith, nat_tests, e) in
        let h : process_at k done.calling.pid ≡ Some r = subst (λ z. process_at k z ≡ Some r) same there in
        let one : shows.p ≡ r = (let z : Some shows.p ≡ Some r = sym shows.is ∙ h in grind (arith, z)) in
        subst (λ (z : Process). AllCopyElsewhere z.space.tables k.jobs) one (own-copies shows.p.space.tables k.free k.jobs shows.shows.jobs)
    go false e =
        other-copies (HasAlone k.regions (Some shows.p)) r.space.tables k.jobs
        (alone-no-table words k done.calling.pid q shows.p r fits (λ z. let b : ⊥ = grind (arith, nat_tests, e, z) in b) shows.is there lives alive) jobs
