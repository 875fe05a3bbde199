-- Tables that no pending job writes show what is kept.
use Rattle.std.proofs.Common.{ℕ, zero, suc, ◌+◌, ◌≡◌, ◌≢◌, ◌<◌, ◌≤◌, ⊎_elim, Bool, Option, Some, None, List, [], ◌∷◌, ◌++◌, drop, map, slice_get, arith, refl, sym, ap, subst, ◌∙◌}
use Rattle.std.specs.List.{range_with_len}
use Rattle.std.specs.Option.{option_to_list}
use Rattle.osc_word.specs.declared.job_list.WordAt.{WordAt}
use Rattle.osc_word.specs.declared.job_list.Job.{Job}
use Rattle.osc_word.specs.declared.job_list.Job.TheVariants.{PutWord, ZeroWords, CopyWords, CopyPart, CopyTable, ClearBox, Tell, ToOut}
use Rattle.osc_sv39.specs.Walk.{word_at, put_word}
use Rattle.osc_paging.specs.declared.Piece.{Piece}
use Rattle.osc_paging.specs.KeptTables.{KeptTables, piece_of, word_in, kept_word}
use Rattle.osc_paging.specs.Agree.{Agrees}
use Rattle.osc_paging.specs.CopyLaws.{IsNoTable, IsTable, WritesElsewhere, AllElsewhere}
use Rattle.osc_paging.specs.OtherLaws.{IsAnyTable}
use Rattle.osc_paging.proofs.Elsewhere.{job_elsewhere, jobs_elsewhere}
use Rattle.osc_parts.specs.Jobs.{AllWriteWhere}
use Rattle.osc_parts.proofs.Blocks.{all_weaker, all_elsewhere}
use Rattle.osc_calls.specs.Kernel.{KernelState, Process, Committed, Returning, process_at}
use Rattle.osc_calls.specs.Moves.{Move, after, moves_of}
use Rattle.osc_calls.specs.Moves as move
use Rattle.osc_calls.specs.MoveLaws.{words_moved, words_after_moves}
use Rattle.osc_calls.specs.JobDone.{entries}
use Rattle.osc_settled.specs.UnderWay.{HasAlone, made_by, ReturningFits, UnderWayFits}
use Rattle.osc_settled.specs.KernelFits.{KernelFits}
use Rattle.osc_machine.specs.Parts.{CallPlace, Outside, TakingBoxes, FirstWord, SecondWord, Working, GivingBoxes, Returning as AtReturn, HartState, State}
use Rattle.osc_machine.specs.Laws.{kernels_held, HasKernel}
use Rattle.osc_safe.specs.Standing.{StandsAt, Stands}
use Rattle.osc_caches.specs.Words.{words_then, words_in_end, WordsAgree}
use Rattle.osc_caches.specs.KeptShown.{ShowsKept, KeptShown}
use Rattle.osc_caches.proofs.Copies.{alone-no-table}

-- ---- moves that write no table
abbrev MoveAway : KeptTables → Move → Type 0
MoveAway t (move.Put to value) = (to.index < 512) × IsNoTable t to.frame
MoveAway t (move.Copy from to) = (to.index < 512) × IsNoTable t to.frame
MoveAway t (move.CopyLow from to bytes) = (to.index < 512) × IsNoTable t to.frame
MoveAway t m = Unit {0}

abbrev AllAway : KeptTables → List Move → Type 0
AllAway t [] = Unit {0}
AllAway t (m ∷ moves) = MoveAway t m × AllAway t moves

put-away : (t : KeptTables) (words : List ℕ) (frame index value f i : ℕ) → (index < 512) × IsNoTable t frame → i < 512 → IsAnyTable t f → word_at (put_word words frame index value) f i ≡ word_at words f i
put-away t words frame index value f i c l h = job_elsewhere (λ a b. 0) t (PutWord (record { frame = frame; index = index }) value) words f i c l h

move-away : (t : KeptTables) (m : Move) (words : List ℕ) (f i : ℕ) → MoveAway t m → i < 512 → IsAnyTable t f → word_at (words_moved m words) f i ≡ word_at words f i
move-away t (move.Put to value) words f i c l h = put-away t words to.frame to.index value f i c l h
move-away t (move.Copy from to) words f i c l h = put-away t words to.frame to.index _ f i c l h
move-away t (move.CopyLow from to bytes) words f i c l h = put-away t words to.frame to.index _ f i c l h
move-away t (move.ChangeBox box) words f i c l h = refl
move-away t (move.Out from) words f i c l h = refl

moves-away : (t : KeptTables) (moves : List Move) (words : List ℕ) (f i : ℕ) → AllAway t moves → i < 512 → IsAnyTable t f → word_at (words_after_moves moves words) f i ≡ word_at words f i
moves-away t [] words f i c l h = refl
moves-away t (m ∷ moves) words f i c l h = moves-away t moves (words_moved m words) f i c.1 l h ∙ move-away t m words f i c.0 l h

then-away : (t : KeptTables) (moves : List Move) (read : Option ℕ) (words : List ℕ) (f i : ℕ) → AllAway t moves → i < 512 → IsAnyTable t f → word_at (words_then moves read words) f i ≡ word_at words f i
then-away t [] read words f i c l h = refl
then-away t (move.Copy from to ∷ moves) (Some word) words f i c l h = moves-away t moves _ f i c.1 l h ∙ put-away t words to.frame to.index word f i c.0 l h
then-away t (move.Copy from to ∷ moves) None words f i c l h = moves-away t (move.Copy from to ∷ moves) words f i c l h
then-away t (move.CopyLow from to bytes ∷ moves) (Some word) words f i c l h = moves-away t moves _ f i c.1 l h ∙ put-away t words to.frame to.index _ f i c.0 l h
then-away t (move.CopyLow from to bytes ∷ moves) None words f i c l h = moves-away t (move.CopyLow from to bytes ∷ moves) words f i c l h
then-away t (move.Put to value ∷ moves) read words f i c l h = moves-away t (move.Put to value ∷ moves) words f i c l h
then-away t (move.ChangeBox box ∷ moves) read words f i c l h = moves-away t (move.ChangeBox box ∷ moves) words f i c l h
then-away t (move.Out from ∷ moves) read words f i c l h = moves-away t (move.Out from ∷ moves) words f i c l h

-- the moves of a job that writes no table
zeros-away : (t : KeptTables) (at : WordAt) (first count : ℕ) → at.index + (first + count) ≤ 512 → IsNoTable t at.frame → AllAway t (map (λ k. move.Put (after at k) 0) (range_with_len first count))
zeros-away t at first zero l n = tt
zeros-away t at first (suc count) l n = ((omega (arith, l), n), zeros-away t at (first + 1) count (omega (arith, l)) n)

copies-away : (t : KeptTables) (from to : WordAt) (first count : ℕ) → to.index + (first + count) ≤ 512 → IsNoTable t to.frame → AllAway t (map (λ k. move.Copy (after from k) (after to k)) (range_with_len first count))
copies-away t from to first zero l n = tt
copies-away t from to first (suc count) l n = ((omega (arith, l), n), copies-away t from to (first + 1) count (omega (arith, l)) n)

table-away : (t : KeptTables) (entries : ℕ → ℕ → ℕ) (to first count : ℕ) → first + count ≤ 512 → IsNoTable t to → AllAway t (map (λ k. move.Put (record { frame = to; index = k }) (entries to k)) (range_with_len first count))
table-away t entries to first zero l n = tt
table-away t entries to first (suc count) l n = ((omega (arith, l), n), table-away t entries to (first + 1) count (omega (arith, l)) n)

job-away : (entries : ℕ → ℕ → ℕ) (t : KeptTables) (job : Job) → WritesElsewhere t job → AllAway t (moves_of entries job)
job-away entries t (PutWord at value) w = (w, tt)
job-away entries t (ZeroWords at count) w = zeros-away t at 0 count (let l = w.0 in omega (arith, l)) w.1
job-away entries t (CopyWords from to count) w = copies-away t from to 0 count (let l = w.0 in omega (arith, l)) w.1
job-away entries t (CopyPart from to bytes) w = (w, tt)
job-away entries t (CopyTable from to) w = table-away t entries to 0 512 (omega arith) w
job-away entries t (ClearBox hart) w = (tt, tt)
job-away entries t (Tell hart) w = (tt, tt)
job-away entries t (ToOut at first count) w = (tt, tt)

left-away : (t : KeptTables) (before moves : List Move) → AllAway t (before ++ moves) → AllAway t moves
left-away t [] moves c = c
left-away t (m ∷ before) moves c = left-away t before moves c.1

first-away : (t : KeptTables) (jobs : List Job) (job : Job) → slice_get jobs 0 ≡ Some job → AllElsewhere t jobs → WritesElsewhere t job × AllElsewhere t (drop 1 jobs)
first-away t [] job e c = absurd (let b : ⊥ = grind (arith, e) in b)
first-away t (x ∷ jobs) job e c = (let same : x ≡ job = grind (arith, e) in (subst (WritesElsewhere t) same c.0, c.1))

-- ---- the work that is left
end-away : (k : KernelState) (t : KeptTables) (place : CallPlace) (words : List ℕ) (f i : ℕ) → StandsAt place k → AllElsewhere t k.jobs → i < 512 → IsAnyTable t f → word_at (words_in_end place k words) f i ≡ word_at words f i
end-away k t Outside words f i st c l h = absurd st
end-away k t (TakingBoxes box) words f i st c l h = jobs_elsewhere (entries k) t k.jobs words f i c l h
end-away k t (FirstWord first second) words f i st c l h = jobs_elsewhere (entries k) t k.jobs words f i c l h
end-away k t (SecondWord found second) words f i st c l h = jobs_elsewhere (entries k) t k.jobs words f i c l h
end-away k t (Working moves read) words f i st c l h =
    let w = st.1 in
    let both = first-away t k.jobs w.job w.next c in
    let all : AllAway t moves = left-away t w.before moves (subst (AllAway t) w.rest (job-away (entries k) t w.job both.0)) in
    jobs_elsewhere (entries k) t (drop 1 k.jobs) (words_then moves read words) f i both.1 l h ∙ then-away t moves read words f i all l h
end-away k t (GivingBoxes box) words f i st c l h = jobs_elsewhere (entries k) t k.jobs words f i c l h
end-away k t (AtReturn return) words f i st c l h = jobs_elsewhere (entries k) t k.jobs words f i c l h

-- a word that agrees, in a table or in a leaf table aside
agreed-any : (t : KeptTables) (free : List Bool) (words : List ℕ) (f i : ℕ) → Agrees t free words → i < 512 → IsAnyTable t f → word_at words f i ≡ kept_word t f i
agreed-any t free words f i a l h = go (piece_of t.tables f) (piece_of t.aside f) refl refl
  where
    go : (o x : Option Piece) → piece_of t.tables f ≡ o → piece_of t.aside f ≡ x → word_at words f i ≡ word_in t o i
    go (Some p) x e d = a.agree f i p l e
    go None (Some p) e d = a.zeros f i p l d
    go None None e d = absurd (⊎_elim (λ (z : IsTable t f). z e) (λ (z : piece_of t.aside f ≢ None). z d) h)

-- ---- where the kernel is
held-by : (harts : List HartState) (k : KernelState) → kernels_held harts ≡ k ∷ [] → (n : ℕ) × (h : HartState) × (slice_get harts n ≡ Some h) × (h.kernel ≡ Some k)
held-by [] k e = absurd (let b : ⊥ = grind (arith, e) in b)
held-by (h ∷ harts) k e = go h.kernel refl (held-by harts k)
  where
    go : (o : Option KernelState) → h.kernel ≡ o → (kernels_held harts ≡ k ∷ [] → (n : ℕ) × (g : HartState) × (slice_get harts n ≡ Some g) × (g.kernel ≡ Some k))
        → (n : ℕ) × (g : HartState) × (slice_get (h ∷ harts) n ≡ Some g) × (g.kernel ≡ Some k)
    go (Some z) d later = (let q : z ∷ kernels_held harts ≡ k ∷ [] = ap (λ o. option_to_list o ++ kernels_held harts) (sym d) ∙ e in let same : z ≡ k = grind (arith, q) in (0, h, refl, d ∙ ap Some same))
    go None d later = (let l = later (ap (λ o. option_to_list o ++ kernels_held harts) (sym d) ∙ e) in (suc l.0, l.1, l.2, l.3))

kept-elsewhere : (s : State) (k : KernelState) (pid : ℕ) (p : Process) → Stands s → HasKernel s k → WordsAgree s s.words → process_at k pid ≡ Some p → p.status ≡ None → AllElsewhere p.space.tables k.jobs
    → ShowsKept p.space.tables s.words
kept-elsewhere s k pid p stands has agree at lives away f i l h = go s.kernel refl
  where
    go : (o : Option KernelState) → s.kernel ≡ o → word_at s.words f i ≡ kept_word p.space.tables f i
    go (Some z) e =
        let q : z ∷ kernels_held s.harts ≡ k ∷ [] = ap (λ o. option_to_list o ++ kernels_held s.harts) (sym e) ∙ has.one in
        let same : z ≡ k = grind (arith, q) in
        sym (jobs_elsewhere (entries k) p.space.tables k.jobs s.words f i away l h)
        ∙ agreed-any p.space.tables k.free _ f i ((agree.home k (e ∙ ap Some same)).each pid p at lives) l h
    go None e =
        let x = held-by s.harts k (ap (λ o. option_to_list o ++ kernels_held s.harts) (sym e) ∙ has.one) in
        let hand = stands.hand x.0 x.1 x.2 k x.3 in
        sym (end-away k p.space.tables x.1.place s.words f i hand.stands away l h)
        ∙ agreed-any p.space.tables k.free _ f i ((agree.hand x.0 x.1 k x.2 x.3).each pid p at lives) l h

-- ---- other processes
others-away : (words : List ℕ) (k : KernelState) (done : Committed) (pid : ℕ) (p made : Process) → KernelFits words k → k.under_way ≡ Returning done → pid ≢ made_by done.effect done.calling.pid → process_at k pid ≡ Some p → p.status ≡ None
    → process_at k (made_by done.effect done.calling.pid) ≡ Some made → made.status ≡ None → AllElsewhere p.space.tables k.jobs
others-away words k done pid p made fits u apart at lives here alive =
    let stands : ReturningFits k done = subst (UnderWayFits k) u fits.under_way in
    all_elsewhere p.space.tables k.jobs
    (all_weaker (HasAlone k.regions (Some made)) (IsNoTable p.space.tables) k.jobs (alone-no-table words k (made_by done.effect done.calling.pid) pid made p fits apart here at alive lives)
    (subst (λ o. AllWriteWhere (HasAlone k.regions o) k.jobs) here stands.jobs))

pub kept_shown : KeptShown
kept_shown = record { elsewhere = kept-elsewhere; others = others-away }
