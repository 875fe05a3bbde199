-- What the words show while a job is under way.
use Rattle.std.proofs.Common.{ℕ, zero, suc, ◌+◌, ◌*◌, ◌≡◌, ◌<◌, ◌≤◌, ◌==◌, ◌||◌, Bool, true, false, Option, Some, None, List, [], ◌∷◌, ◌++◌, drop, map, slice_get, arith, refl, sym, ap, subst, ◌∙◌}
use Rattle.std.specs.List.{range_with_len}
use Rattle.std.specs.Option.{option_map_or}
use Rattle.std.proofs.lemmas.Bool.Decides.{nat_tests}
use Rattle.std.proofs.lemmas.List.{length-set}
use Rattle.osc_word.specs.declared.job_list.WordAt.{WordAt}
use Rattle.osc_word.specs.declared.job_list.Job.{Job}
use Rattle.osc_word.specs.declared.job_list.Job.TheVariants.{PutWord, ZeroWords, CopyWords, CopyPart, CopyTable, ClearBox, Tell, ToOut}
use Rattle.osc_sv39.specs.Walk.{word_at, put_word}
use Rattle.osc_paging.specs.Boxes.{BoxState}
use Rattle.osc_paging.specs.KeptTables.{KeptTables}
use Rattle.osc_paging.specs.CopyLaws.{IsNoTable}
use Rattle.osc_paging.proofs.WordLists.{get_or-set}
use Rattle.osc_calls.specs.Kernel.{KernelState, Process, process_at, next_job}
use Rattle.osc_calls.specs.Moves.{Move, after, low_bytes, moves_of}
use Rattle.osc_calls.specs.Moves as move
use Rattle.osc_calls.specs.JobDone.{job_done, entries}
use Rattle.osc_calls.proofs.MoveLawProofs.{moves_do_job}
use Rattle.osc_machine.specs.Parts.{CallPlace, Outside, TakingBoxes, FirstWord, SecondWord, Working, GivingBoxes, Returning}
use Rattle.osc_machine.specs.Turns.{first_held, return_of, move_ask, StillAt, AllDone, moves_left}
use Rattle.osc_safe.specs.Standing.{WorksOn, StandsAt}
use Rattle.osc_showing.specs.Showing.{closes, is_closed, JobFits, JobsFit, Shows}
use Rattle.osc_showing.proofs.Shown.{same-shows}
use Rattle.osc_caches.specs.Words.{words_then, Does}
use Rattle.osc_caches.specs.HeapShows.{cleared_in, CallShows}
use Rattle.osc_caches.specs.Working.{without_job, WorkShows, ShowsAt, WorkKeepsShowing}
use Rattle.osc_caches.proofs.Refits.{unread}
use Rattle.osc_caches.proofs.WordSteps.{InEnd, moved}
use Rattle.osc_caches.proofs.HeapShows.{job-shows}
use Rattle.osc_caches.proofs.Stores.{SameOn, AllMoveElsewhere, stored-same, same-then, job-moves, left-moves, first-copies}
use Rattle.osc_caches.proofs.Copies.{own-copies}

-- ---- where the call goes on
first-rest : (jobs : List Job) (job : Job) → slice_get jobs 0 ≡ Some job → jobs ≡ job ∷ drop 1 jobs
first-rest [] job e = absurd (let b : ⊥ = grind (arith, e) in b)
first-rest (x ∷ jobs) job e = (let same : x ≡ job = grind (arith, e) in ap (λ j. j ∷ jobs) same)

job-then : (k : KernelState) (pid : ℕ) (words : List ℕ) (job : Job) → next_job k ≡ Some job → CallShows k pid words → CallShows (without_job k) pid (words_then (moves_of (entries k) job) None words)
job-then k pid words job e s = record {
  old = s.old;
  p = s.p;
  is = s.is;
  was = s.was;
  shows = subst (Shows (cleared_in k.config.harts k.under_way) s.old s.p.space.tables k.free (drop 1 k.jobs)) (sym (unread (moves_of (entries k) job) words ∙ moves_do_job (entries k) job words))
      (job-shows (cleared_in k.config.harts k.under_way) s.old s.p.space.tables k.free (entries k) job (drop 1 k.jobs) words
      (subst (λ js. Shows (cleared_in k.config.harts k.under_way) s.old s.p.space.tables k.free js words) (first-rest k.jobs job e) s.shows));
}

gives-shows : (k : KernelState) (pid : ℕ) (words : List ℕ) (o : Option ℕ) → CallShows k pid words → ShowsAt (option_map_or (λ box. GivingBoxes box) o (Returning (return_of false k))) k pid words
gives-shows k pid words None s = s
gives-shows k pid words (Some box) s = s

goes-shows : (k : KernelState) (pid : ℕ) (words : List ℕ) (boxes : List (Option BoxState)) (o : Option Job) → next_job k ≡ o → CallShows k pid words
    → ShowsAt (option_map_or (λ job. Working (moves_of (entries k) job) None) o (option_map_or (λ box. GivingBoxes box) (first_held boxes) (Returning (return_of false k)))) k pid words
goes-shows k pid words boxes None e s = gives-shows k pid words (first_held boxes) s
goes-shows k pid words boxes (Some job) e s = record { now = s; then = job-then k pid words job e s }

-- ---- a word of a table that is still to be made
put-apart : (words : List ℕ) (g j v f i : ℕ) → i < 512 → j < 512 → (g == f) ≡ false → word_at (put_word words g j v) f i ≡ word_at words f i
put-apart words g j v f i l m d = grind (arith, nat_tests, d, get_or-set words (g * 512 + j) (f * 512 + i) v)

closed-put : (harts : ℕ) (old t : KeptTables) (free : List Bool) (js : List Job) (words : List ℕ) (frame index value : ℕ) → Shows harts old t free js words → is_closed js frame ≡ true → index < 512
    → Shows harts old t free js (put_word words frame index value)
closed-put harts old t free js words frame index value s closed l =
    same-shows harts old t free js words (put_word words frame index value) s (length-set words (frame * 512 + index) value) (λ f i m h c. put-apart words frame index value f i m l (other f c (frame == f) refl))
  where
    other : (f : ℕ) → is_closed js f ≡ false → (b : Bool) → (frame == f) ≡ b → b ≡ false
    other f c false d = refl
    other f c true d = absurd (let same : frame ≡ f = grind (arith, nat_tests, d) in let e : true ≡ false = sym closed ∙ ap (is_closed js) same ∙ c in let z : ⊥ = grind (arith, e) in z)

-- ---- the stores of a job of many moves
-- a put is in a frame that is still to be made
abbrev PutsClosed : Job → Move → Type 0
PutsClosed job (move.Put to value) = (closes job to.frame ≡ true) × (to.index < 512)
PutsClosed job m = Unit {0}

abbrev AllPutClosed : Job → List Move → Type 0
AllPutClosed job [] = Unit {0}
AllPutClosed job (m ∷ moves) = PutsClosed job m × AllPutClosed job moves

same-frame : (f : ℕ) → (f == f) ≡ true
same-frame f = grind (arith, nat_tests)

zeros-closed : (at : WordAt) (all first count : ℕ) → at.index + (first + count) ≤ 512 → AllPutClosed (ZeroWords at all) (map (λ k. move.Put (after at k) 0) (range_with_len first count))
zeros-closed at all first zero l = tt
zeros-closed at all first (suc count) l = ((same-frame at.frame, omega (arith, l)), zeros-closed at all (first + 1) count (omega (arith, l)))

table-closed : (entries : ℕ → ℕ → ℕ) (from to first count : ℕ) → first + count ≤ 512 → AllPutClosed (CopyTable from to) (map (λ k. move.Put (record { frame = to; index = k }) (entries to k)) (range_with_len first count))
table-closed entries from to first zero l = tt
table-closed entries from to first (suc count) l = ((same-frame to, omega (arith, l)), table-closed entries from to (first + 1) count (omega (arith, l)))

copies-closed : (job : Job) (from to : WordAt) (first count : ℕ) → AllPutClosed job (map (λ k. move.Copy (after from k) (after to k)) (range_with_len first count))
copies-closed job from to first zero = tt
copies-closed job from to first (suc count) = (tt, copies-closed job from to (first + 1) count)

left-closed : (job : Job) (before moves : List Move) → AllPutClosed job (before ++ moves) → AllPutClosed job moves
left-closed job [] moves c = c
left-closed job (m ∷ before) moves c = left-closed job before moves c.1

-- a job of one move has none after it
short : (x m next : Move) (before moves : List Move) → x ∷ [] ≡ before ++ m ∷ next ∷ moves → ⊥
short x m next [] moves e = grind (arith, e)
short x m next (b ∷ []) moves e = grind (arith, e)
short x m next (b ∷ c ∷ before) moves e = grind (arith, e)

puts-closed : (t : KeptTables) (free : List Bool) (entries : ℕ → ℕ → ℕ) (job : Job) (rest : List Job) (m next : Move) (before moves : List Move) → JobFits t free rest job
    → moves_of entries job ≡ before ++ m ∷ next ∷ moves → PutsClosed job m
puts-closed t free entries (PutWord at value) rest m next before moves j e = absurd (short (move.Put at value) m next before moves e)
puts-closed t free entries (ZeroWords at count) rest m next before moves j e =
    (left-closed (ZeroWords at count) before (m ∷ next ∷ moves) (subst (AllPutClosed (ZeroWords at count)) e (zeros-closed at count 0 count (let l = j.1 in omega (arith, l))))).0
puts-closed t free entries (CopyWords from to count) rest m next before moves j e =
    (left-closed (CopyWords from to count) before (m ∷ next ∷ moves) (subst (AllPutClosed (CopyWords from to count)) e (copies-closed (CopyWords from to count) from to 0 count))).0
puts-closed t free entries (CopyPart from to bytes) rest m next before moves j e = absurd (short (move.CopyLow from to bytes) m next before moves e)
puts-closed t free entries (CopyTable from to) rest m next before moves j e =
    (left-closed (CopyTable from to) before (m ∷ next ∷ moves) (subst (AllPutClosed (CopyTable from to)) e (table-closed entries from to 0 512 (omega arith)))).0
puts-closed t free entries (ClearBox hart) rest m next before moves j e = absurd (short (move.ChangeBox hart) m next before moves e)
puts-closed t free entries (Tell hart) rest m next before moves j e = absurd (short (move.ChangeBox hart) m next before moves e)
puts-closed t free entries (ToOut at first count) rest m next before moves j e = absurd (short (move.Out at) m next before moves e)

first-fits : (t : KeptTables) (free : List Bool) (jobs : List Job) (job : Job) → slice_get jobs 0 ≡ Some job → JobsFit t free jobs → JobFits t free (drop 1 jobs) job
first-fits t free [] job e j = absurd (let b : ⊥ = grind (arith, e) in b)
first-fits t free (x ∷ jobs) job e j = (let same : x ≡ job = grind (arith, e) in subst (JobFits t free jobs) same j.0)

first-closed : (jobs : List Job) (job : Job) (f : ℕ) → slice_get jobs 0 ≡ Some job → closes job f ≡ true → is_closed jobs f ≡ true
first-closed [] job f e c = absurd (let b : ⊥ = grind (arith, e) in b)
first-closed (x ∷ jobs) job f e c = (let same : x ≡ job = grind (arith, e) in let d : closes x f ≡ true = ap (λ j. closes j f) same ∙ c in either (closes x f) (is_closed jobs f) d)
  where
    either : (a b : Bool) → a ≡ true → (a || b) ≡ true
    either a b e = grind (arith, e)

-- ---- an action of the job
-- a store in a frame that is no table
shows-stored : (harts : ℕ) (old t : KeptTables) (free : List Bool) (js : List Job) (words : List ℕ) (frame index value : ℕ) → Shows harts old t free js words → IsNoTable t frame → index < 512
    → Shows harts old t free js (put_word words frame index value)
shows-stored harts old t free js words frame index value s n l =
    let same = stored-same t words frame index value l n in same-shows harts old t free js words (put_word words frame index value) s same.size (λ f i m h c. same.same f i m h)

with-words : (k : KernelState) (pid : ℕ) (words now : List ℕ) (s : CallShows k pid words) → Shows (cleared_in k.config.harts k.under_way) s.old s.p.space.tables k.free k.jobs now → CallShows k pid now
with-words k pid words now s shows = record { old = s.old; p = s.p; is = s.is; was = s.was; shows = shows }

elsewhere : (k : KernelState) (pid : ℕ) (words : List ℕ) (moves : List Move) → WorksOn k moves → (s : CallShows k pid words) → AllMoveElsewhere s.p.space.tables moves
elsewhere k pid words moves w s =
    let t = s.p.space.tables in
    left-moves t w.before moves (subst (AllMoveElsewhere t) w.rest (job-moves (entries k) t w.job (first-copies t k.jobs w.job w.next (own-copies t k.free k.jobs s.shows.jobs)).0))

-- the word of a copy is stored
copied-now : (k : KernelState) (pid : ℕ) (words now : List ℕ) (to : WordAt) (value : ℕ) (s : CallShows k pid words) → (to.index < 512) × IsNoTable s.p.space.tables to.frame → now ≡ put_word words to.frame to.index value → CallShows k pid now
copied-now k pid words now to value s e d =
    subst (CallShows k pid) (sym d) (with-words k pid words (put_word words to.frame to.index value) s (shows-stored _ s.old s.p.space.tables k.free k.jobs words to.frame to.index value s.shows e.1 e.0))

no-more : (left : List Move) (then : Option ℕ) → AllDone ≡ StillAt left then → ⊥
no-more left then e = grind (arith, e)

moved-now : (k : KernelState) (pid word : ℕ) (moves left : List Move) (read then : Option ℕ) (words now : List ℕ) → WorksOn k moves → CallShows k pid words → Does (move_ask moves read) word words now
    → moves_left moves read word ≡ StillAt left then → CallShows k pid now
moved-now k pid word [] left read then words now w s d e = absurd (no-more left then e)
moved-now k pid word (move.Put to value ∷ []) left read then words now w s d e = absurd (no-more left then e)
moved-now k pid word (move.Put to value ∷ next ∷ moves) left read then words now w s d e =
    let t = s.p.space.tables in
    let c = puts-closed t k.free (entries k) w.job (drop 1 k.jobs) (move.Put to value) next w.before moves (first-fits t k.free k.jobs w.job w.next s.shows.jobs) w.rest in
    subst (CallShows k pid) (sym d) (with-words k pid words (put_word words to.frame to.index value) s
    (closed-put _ s.old t k.free k.jobs words to.frame to.index value s.shows (first-closed k.jobs w.job to.frame w.next c.0) c.1))
moved-now k pid word (move.Copy from to ∷ moves) left None then words now w s d e = subst (CallShows k pid) (sym d.1) s
moved-now k pid word (move.Copy from to ∷ moves) left (Some read) then words now w s d e =
    copied-now k pid words now to read s (elsewhere k pid words (move.Copy from to ∷ moves) w s).0 d
moved-now k pid word (move.CopyLow from to bytes ∷ moves) left None then words now w s d e = subst (CallShows k pid) (sym d.1) s
moved-now k pid word (move.CopyLow from to bytes ∷ moves) left (Some read) then words now w s d e =
    copied-now k pid words now to (low_bytes bytes read) s (elsewhere k pid words (move.CopyLow from to bytes ∷ moves) w s).0 d
moved-now k pid word (move.ChangeBox box ∷ moves) left read then words now w s d e = subst (CallShows k pid) (sym d) s
moved-now k pid word (move.Out from ∷ moves) left read then words now w s d e = subst (CallShows k pid) (sym d.1) s

work-moved : (k : KernelState) (pid word : ℕ) (moves left : List Move) (read then : Option ℕ) (words now : List ℕ) → WorksOn k moves → WorkShows k pid moves read words
    → Does (move_ask moves read) word words now → moves_left moves read word ≡ StillAt left then → WorkShows k pid left then now
work-moved k pid word moves left read then words now w s d e = record {
  now = moved-now k pid word moves left read then words now w s.now d e;
  then = (let q : words_then left then now ≡ words_then moves read words = subst (λ p. InEnd p now ≡ words_then moves read words) e (moved moves read word words now d) in
      subst (CallShows (without_job k) pid) (sym q) s.then);
}

work-ended : (k : KernelState) (pid word : ℕ) (moves : List Move) (read : Option ℕ) (words now : List ℕ) → WorkShows k pid moves read words
    → Does (move_ask moves read) word words now → moves_left moves read word ≡ AllDone → CallShows (job_done word k).kernel pid now
unfolding job_done
work-ended k pid word moves read words now s d e =
    let q : now ≡ words_then moves read words = subst (λ p. InEnd p now ≡ words_then moves read words) e (moved moves read word words now d) in
    let later : CallShows (without_job k) pid now = subst (CallShows (without_job k) pid) (sym q) s.then in
    record { old = later.old; p = later.p; is = later.is; was = later.was; shows = later.shows }

-- ---- a store of another hart
call-stored : (k : KernelState) (pid frame index value : ℕ) (words : List ℕ) → CallShows k pid words → ((p : Process) → process_at k pid ≡ Some p → IsNoTable p.space.tables frame) → index < 512
    → CallShows k pid (put_word words frame index value)
call-stored k pid frame index value words s n l = with-words k pid words (put_word words frame index value) s (shows-stored _ s.old s.p.space.tables k.free k.jobs words frame index value s.shows (n s.p s.is) l)

then-stored : (k : KernelState) (pid frame index value : ℕ) (moves : List Move) (read : Option ℕ) (words : List ℕ) → WorksOn k moves → WorkShows k pid moves read words
    → ((p : Process) → process_at k pid ≡ Some p → IsNoTable p.space.tables frame) → index < 512 → CallShows (without_job k) pid (words_then moves read (put_word words frame index value))
then-stored k pid frame index value moves read words w s n l =
    let x = s.then in
    let t = x.p.space.tables in
    let one : s.now.p ≡ x.p = (let q : Some s.now.p ≡ Some x.p = sym s.now.is ∙ x.is in grind (arith, q)) in
    let all : AllMoveElsewhere t moves = subst (λ (z : Process). AllMoveElsewhere z.space.tables moves) one (elsewhere k pid words moves w s.now) in
    let same : SameOn t (words_then moves read words) (words_then moves read (put_word words frame index value)) =
    same-then t moves read words (put_word words frame index value) all (stored-same t words frame index value l (n x.p x.is)) in
    record {
      old = x.old;
      p = x.p;
      is = x.is;
      was = x.was;
      shows = same-shows _ x.old t k.free (drop 1 k.jobs) (words_then moves read words) (words_then moves read (put_word words frame index value)) x.shows same.size (λ f i m h c. same.same f i m h);
    }

work-stored : (k : KernelState) (pid frame index value : ℕ) (place : CallPlace) (words : List ℕ) → StandsAt place k → ShowsAt place k pid words
    → ((p : Process) → process_at k pid ≡ Some p → IsNoTable p.space.tables frame) → index < 512 → ShowsAt place k pid (put_word words frame index value)
work-stored k pid frame index value Outside words st s n l = call-stored k pid frame index value words s n l
work-stored k pid frame index value (TakingBoxes box) words st s n l = call-stored k pid frame index value words s n l
work-stored k pid frame index value (FirstWord first second) words st s n l = call-stored k pid frame index value words s n l
work-stored k pid frame index value (SecondWord found second) words st s n l = call-stored k pid frame index value words s n l
work-stored k pid frame index value (Working moves read) words st s n l = record {
  now = call-stored k pid frame index value words s.now n l;
  then = then-stored k pid frame index value moves read words st.1 s n l;
}
work-stored k pid frame index value (GivingBoxes box) words st s n l = call-stored k pid frame index value words s n l
work-stored k pid frame index value (Returning return) words st s n l = call-stored k pid frame index value words s n l

pub work_keeps_showing : WorkKeepsShowing
work_keeps_showing = record {
  on = λ k pid words boxes s. goes-shows k pid words boxes (next_job k) refl s;
  moved = work-moved;
  ended = work-ended;
  stored = work-stored;
}
