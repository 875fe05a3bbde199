-- A store in a frame that is no table leaves the agreement.
use Rattle.std.proofs.Common.{ℕ, zero, suc, ◌+◌, ◌*◌, ◌≡◌, ◌<◌, ◌≤◌, ◌==◌, inl, inr, ltb, cond, Bool, true, false, Option, Some, None, List, [], ◌∷◌, ◌++◌, drop, length, map, set, get_or, slice_get, arith, refl, sym, ap, subst, ◌∙◌}
use Rattle.std.specs.List.{range_with_len}
use Rattle.std.proofs.lemmas.List.{length-set}
use Rattle.osc_word.specs.declared.job_list.WordAt.{WordAt}
use Rattle.osc_word.specs.declared.job_list.Job.{Job}
use Rattle.osc_word.specs.declared.job_list.Job.TheVariants.{PutWord, ZeroWords, CopyWords, CopyPart, CopyTable, ClearBox, Tell, ToOut}
use Rattle.osc_sv39.specs.Walk.{word_at, put_word}
use Rattle.osc_paging.specs.KeptTables.{KeptTables}
use Rattle.osc_paging.specs.JobWords.{zeroed, table_copied, words_done, words_after}
use Rattle.osc_paging.specs.Agree.{Agrees}
use Rattle.osc_paging.specs.CopyLaws.{IsNoTable}
use Rattle.osc_paging.specs.OtherLaws.{IsAnyTable}
use Rattle.osc_paging.proofs.WordLists.{get_or-set, zeroed_at}
use Rattle.osc_paging.proofs.Elsewhere.{length-words_done, length-words_after, job_elsewhere, some_piece}
use Rattle.osc_calls.specs.Kernel.{KernelState, Process, process_at}
use Rattle.osc_calls.specs.Moves.{Move, after, low_bytes, moves_of}
use Rattle.osc_calls.specs.Moves as move
use Rattle.osc_calls.specs.MoveLaws.{words_moved, words_after_moves}
use Rattle.osc_calls.specs.JobDone.{entries}
use Rattle.osc_machine.specs.Parts.{CallPlace, Outside, TakingBoxes, FirstWord, SecondWord, Working, GivingBoxes, Returning}
use Rattle.osc_safe.specs.Standing.{StandsAt}
use Rattle.osc_safe.proofs.KernelRows.{home-is, hand-is-one}
use Rattle.osc_caches.specs.Words.{words_then, words_in_end, AllAgree}
use Rattle.osc_caches.specs.DataFrames.{IsNobodysTable}
use Rattle.osc_caches.specs.Stores.{CopiesElsewhere, AllCopyElsewhere, CopiesFit, StoresLeave}

-- ---- words that are the same in all tables
pub record SameOn (t : KeptTables) (w v : List ℕ) : Type 0 where
  pub size : length v ≡ length w
  pub same : (f i : ℕ) → i < 512 → IsAnyTable t f → word_at v f i ≡ word_at w f i

agrees-same : (t : KeptTables) (free : List Bool) (w v : List ℕ) → SameOn t w v → Agrees t free w → Agrees t free v
agrees-same t free w v s a = record {
  size = s.size ∙ a.size;
  small = a.small;
  apart = a.apart;
  taken = a.taken;
  parents = a.parents;
  leaves = a.leaves;
  agree = λ f i p l e. s.same f i l (inl (some_piece e)) ∙ a.agree f i p l e;
  spare = a.spare;
  zeros = λ f i p l e. s.same f i l (inr (some_piece e)) ∙ a.zeros f i p l e;
}

-- a word that is put in both
both-set : (w v : List ℕ) (j y q : ℕ) → length v ≡ length w → get_or v q 0 ≡ get_or w q 0 → get_or (set v j y) q 0 ≡ get_or (set w j y) q 0
both-set w v j y q e s = get_or-set v j q y ∙ go (q == j) ∙ sym (get_or-set w j q y)
  where
    go : (b : Bool) → cond b (cond (ltb j (length v)) y (get_or v q 0)) (get_or v q 0) ≡ cond b (cond (ltb j (length w)) y (get_or w q 0)) (get_or w q 0)
    go true = ap (λ n. cond (ltb j n) y (get_or v q 0)) e ∙ ap (λ z. cond (ltb j (length w)) y z) s
    go false = s

same-put : (t : KeptTables) (w v : List ℕ) (frame index value : ℕ) → SameOn t w v → SameOn t (put_word w frame index value) (put_word v frame index value)
same-put t w v frame index value s = record {
  size = length-set v (frame * 512 + index) value ∙ s.size ∙ sym (length-set w (frame * 512 + index) value);
  same = λ f i l h. both-set w v (frame * 512 + index) value (f * 512 + i) s.size (s.same f i l h);
}

same-copied : (entries : ℕ → ℕ → ℕ) (t : KeptTables) (frame index count : ℕ) (w v : List ℕ) → SameOn t w v → SameOn t (table_copied entries frame index count w) (table_copied entries frame index count v)
unfolding table_copied
same-copied entries t frame index zero w v s = s
same-copied entries t frame index (suc count) w v s = same-copied entries t frame (index + 1) count _ _ (same-put t w v frame index (entries frame index) s)

both-zeroed : (w v : List ℕ) (from count q : ℕ) → get_or v q 0 ≡ get_or w q 0 → get_or (zeroed from count v) q 0 ≡ get_or (zeroed from count w) q 0
both-zeroed w v from count q s =
    zeroed_at count from v q ∙ ap (λ z. cond (ltb q from) z (cond (ltb q (from + count)) 0 z)) s ∙ sym (zeroed_at count from w q)

same-done : (entries : ℕ → ℕ → ℕ) (t : KeptTables) (job : Job) (w v : List ℕ) → CopiesElsewhere t job → SameOn t w v → SameOn t (words_done entries job w) (words_done entries job v)
same-done entries t (PutWord at value) w v c s = same-put t w v at.frame at.index value s
same-done entries t (ZeroWords at count) w v c s = record {
  size = length-words_done entries (ZeroWords at count) v ∙ s.size ∙ sym (length-words_done entries (ZeroWords at count) w);
  same = λ f i l h. both-zeroed w v (at.frame * 512 + at.index) count (f * 512 + i) (s.same f i l h);
}
same-done entries t (CopyWords from to count) w v c s = record {
  size = length-words_done entries (CopyWords from to count) v ∙ s.size ∙ sym (length-words_done entries (CopyWords from to count) w);
  same = λ f i l h. job_elsewhere entries t (CopyWords from to count) v f i c l h ∙ s.same f i l h ∙ sym (job_elsewhere entries t (CopyWords from to count) w f i c l h);
}
same-done entries t (CopyPart from to bytes) w v c s = record {
  size = length-words_done entries (CopyPart from to bytes) v ∙ s.size ∙ sym (length-words_done entries (CopyPart from to bytes) w);
  same = λ f i l h. job_elsewhere entries t (CopyPart from to bytes) v f i c l h ∙ s.same f i l h ∙ sym (job_elsewhere entries t (CopyPart from to bytes) w f i c l h);
}
same-done entries t (CopyTable from to) w v c s = same-copied entries t to 0 512 w v s
same-done entries t (ClearBox hart) w v c s = s
same-done entries t (Tell hart) w v c s = s
same-done entries t (ToOut at first count) w v c s = s

same-after : (entries : ℕ → ℕ → ℕ) (t : KeptTables) (jobs : List Job) (w v : List ℕ) → AllCopyElsewhere t jobs → SameOn t w v → SameOn t (words_after entries jobs w) (words_after entries jobs v)
same-after entries t [] w v c s = s
same-after entries t (job ∷ jobs) w v c s = same-after entries t jobs (words_done entries job w) (words_done entries job v) c.1 (same-done entries t job w v c.0 s)

-- ---- moves
abbrev pub MoveElsewhere : KeptTables → Move → Type 0
MoveElsewhere t (move.Copy from to) = (to.index < 512) × IsNoTable t to.frame
MoveElsewhere t (move.CopyLow from to bytes) = (to.index < 512) × IsNoTable t to.frame
MoveElsewhere t m = Unit {0}

abbrev pub AllMoveElsewhere : KeptTables → List Move → Type 0
AllMoveElsewhere t [] = Unit {0}
AllMoveElsewhere t (m ∷ moves) = MoveElsewhere t m × AllMoveElsewhere t moves

-- a word that is put where no table is, whatever it is
same-stored : (t : KeptTables) (w v : List ℕ) (frame index x y : ℕ) → (index < 512) × IsNoTable t frame → SameOn t w v → SameOn t (put_word w frame index x) (put_word v frame index y)
same-stored t w v frame index x y c s = record {
  size = length-set v (frame * 512 + index) y ∙ s.size ∙ sym (length-set w (frame * 512 + index) x);
  same = λ f i l h. job_elsewhere (λ a b. 0) t (PutWord (record { frame = frame; index = index }) y) v f i c l h ∙ s.same f i l h
      ∙ sym (job_elsewhere (λ a b. 0) t (PutWord (record { frame = frame; index = index }) x) w f i c l h);
}

same-moved : (t : KeptTables) (m : Move) (w v : List ℕ) → MoveElsewhere t m → SameOn t w v → SameOn t (words_moved m w) (words_moved m v)
same-moved t (move.Put to value) w v c s = same-put t w v to.frame to.index value s
same-moved t (move.Copy from to) w v c s = same-stored t w v to.frame to.index _ _ c s
same-moved t (move.CopyLow from to bytes) w v c s = same-stored t w v to.frame to.index _ _ c s
same-moved t (move.ChangeBox box) w v c s = s
same-moved t (move.Out from) w v c s = s

same-moves : (t : KeptTables) (moves : List Move) (w v : List ℕ) → AllMoveElsewhere t moves → SameOn t w v → SameOn t (words_after_moves moves w) (words_after_moves moves v)
same-moves t [] w v c s = s
same-moves t (m ∷ moves) w v c s = same-moves t moves (words_moved m w) (words_moved m v) c.1 (same-moved t m w v c.0 s)

pub same-then : (t : KeptTables) (moves : List Move) (read : Option ℕ) (w v : List ℕ) → AllMoveElsewhere t moves → SameOn t w v → SameOn t (words_then moves read w) (words_then moves read v)
same-then t [] read w v c s = s
same-then t (move.Copy from to ∷ moves) (Some word) w v c s = same-moves t moves _ _ c.1 (same-stored t w v to.frame to.index word word c.0 s)
same-then t (move.Copy from to ∷ moves) None w v c s = same-moves t (move.Copy from to ∷ moves) w v c s
same-then t (move.CopyLow from to bytes ∷ moves) (Some word) w v c s = same-moves t moves _ _ c.1 (same-stored t w v to.frame to.index _ _ c.0 s)
same-then t (move.CopyLow from to bytes ∷ moves) None w v c s = same-moves t (move.CopyLow from to bytes ∷ moves) w v c s
same-then t (move.Put to value ∷ moves) read w v c s = same-moves t (move.Put to value ∷ moves) w v c s
same-then t (move.ChangeBox box ∷ moves) read w v c s = same-moves t (move.ChangeBox box ∷ moves) w v c s
same-then t (move.Out from ∷ moves) read w v c s = same-moves t (move.Out from ∷ moves) w v c s

-- the moves of a job copy where it does
puts-elsewhere : (t : KeptTables) (g : ℕ → WordAt) (value : ℕ → ℕ) (first count : ℕ) → AllMoveElsewhere t (map (λ k. move.Put (g k) (value k)) (range_with_len first count))
puts-elsewhere t g value first zero = tt
puts-elsewhere t g value first (suc count) = (tt, puts-elsewhere t g value (first + 1) count)

copies-elsewhere : (t : KeptTables) (from to : WordAt) (first count : ℕ) → to.index + (first + count) ≤ 512 → IsNoTable t to.frame → AllMoveElsewhere t (map (λ k. move.Copy (after from k) (after to k)) (range_with_len first count))
copies-elsewhere t from to first zero l n = tt
copies-elsewhere t from to first (suc count) l n = ((omega (arith, l), n), copies-elsewhere t from to (first + 1) count (omega (arith, l)) n)

pub job-moves : (entries : ℕ → ℕ → ℕ) (t : KeptTables) (job : Job) → CopiesElsewhere t job → AllMoveElsewhere t (moves_of entries job)
job-moves entries t (PutWord at value) c = (tt, tt)
job-moves entries t (ZeroWords at count) c = puts-elsewhere t (λ k. after at k) (λ k. 0) 0 count
job-moves entries t (CopyWords from to count) c = copies-elsewhere t from to 0 count (let l = c.0 in omega (arith, l)) c.1
job-moves entries t (CopyPart from to bytes) c = (c, tt)
job-moves entries t (CopyTable from to) c = puts-elsewhere t (λ k. record { frame = to; index = k }) (λ k. entries to k) 0 512
job-moves entries t (ClearBox hart) c = (tt, tt)
job-moves entries t (Tell hart) c = (tt, tt)
job-moves entries t (ToOut at first count) c = (tt, tt)

pub left-moves : (t : KeptTables) (before moves : List Move) → AllMoveElsewhere t (before ++ moves) → AllMoveElsewhere t moves
left-moves t [] moves c = c
left-moves t (m ∷ before) moves c = left-moves t before moves c.1

pub first-copies : (t : KeptTables) (jobs : List Job) (job : Job) → slice_get jobs 0 ≡ Some job → AllCopyElsewhere t jobs → CopiesElsewhere t job × AllCopyElsewhere t (drop 1 jobs)
first-copies t [] job e c = absurd (let b : ⊥ = grind (arith, e) in b)
first-copies t (x ∷ jobs) job e c = (let same : x ≡ job = grind (arith, e) in (subst (CopiesElsewhere t) same c.0, c.1))

-- ---- the work that is left
same-end : (k : KernelState) (t : KeptTables) (n : ℕ) (place : CallPlace) (w v : List ℕ) → StandsAt place k → AllCopyElsewhere t k.jobs → SameOn t w v → SameOn t (words_in_end place k w) (words_in_end place k v)
same-end k t n Outside w v stands c s = absurd stands
same-end k t n (TakingBoxes box) w v stands c s = same-after (entries k) t k.jobs w v c s
same-end k t n (FirstWord first second) w v stands c s = same-after (entries k) t k.jobs w v c s
same-end k t n (SecondWord found second) w v stands c s = same-after (entries k) t k.jobs w v c s
same-end k t n (Working moves read) w v stands c s =
    let works = stands.1 in
    let both = first-copies t k.jobs works.job works.next c in
    let all : AllMoveElsewhere t moves = left-moves t works.before moves (subst (AllMoveElsewhere t) works.rest (job-moves (entries k) t works.job both.0)) in
    same-after (entries k) t (drop 1 k.jobs) (words_then moves read w) (words_then moves read v) both.1 (same-then t moves read w v all s)
same-end k t n (GivingBoxes box) w v stands c s = same-after (entries k) t k.jobs w v c s
same-end k t n (Returning return) w v stands c s = same-after (entries k) t k.jobs w v c s

pub stored-same : (t : KeptTables) (w : List ℕ) (frame index value : ℕ) → index < 512 → IsNoTable t frame → SameOn t w (put_word w frame index value)
stored-same t w frame index value l n = record {
  size = length-set w (frame * 512 + index) value;
  same = λ f i m h. job_elsewhere (λ a b. 0) t (PutWord (record { frame = frame; index = index }) value) w f i (l, n) m h;
}

-- a place at which the kernel stands, or home
all-same : (k : KernelState) (place : CallPlace) (w v : List ℕ) → length (words_in_end place k v) ≡ length (words_in_end place k w)
    → ((pid : ℕ) (p : Process) → process_at k pid ≡ Some p → p.status ≡ None → SameOn p.space.tables (words_in_end place k w) (words_in_end place k v))
    → AllAgree k (words_in_end place k w) → AllAgree k (words_in_end place k v)
all-same k place w v e s a = record { size = e ∙ a.size; each = λ pid p at lives. agrees-same p.space.tables k.free _ _ (s pid p at lives) (a.each pid p at lives) }

-- the lengths stay
length-moved : (m : Move) (words : List ℕ) → length (words_moved m words) ≡ length words
length-moved (move.Put to value) words = length-set words _ value
length-moved (move.Copy from to) words = length-set words _ _
length-moved (move.CopyLow from to bytes) words = length-set words _ _
length-moved (move.ChangeBox box) words = refl
length-moved (move.Out from) words = refl

length-moves : (moves : List Move) (words : List ℕ) → length (words_after_moves moves words) ≡ length words
length-moves [] words = refl
length-moves (m ∷ moves) words = length-moves moves (words_moved m words) ∙ length-moved m words

length-then : (moves : List Move) (read : Option ℕ) (words : List ℕ) → length (words_then moves read words) ≡ length words
length-then [] read words = refl
length-then (move.Copy from to ∷ moves) (Some word) words = length-moves moves _ ∙ length-set words _ word
length-then (move.Copy from to ∷ moves) None words = length-moves (move.Copy from to ∷ moves) words
length-then (move.CopyLow from to bytes ∷ moves) (Some word) words = length-moves moves _ ∙ length-set words _ _
length-then (move.CopyLow from to bytes ∷ moves) None words = length-moves (move.CopyLow from to bytes ∷ moves) words
length-then (move.Put to value ∷ moves) read words = length-moves (move.Put to value ∷ moves) words
length-then (move.ChangeBox box ∷ moves) read words = length-moves (move.ChangeBox box ∷ moves) words
length-then (move.Out from ∷ moves) read words = length-moves (move.Out from ∷ moves) words

length-end : (k : KernelState) (place : CallPlace) (words : List ℕ) → length (words_in_end place k words) ≡ length words
length-end k Outside words = length-words_after (entries k) k.jobs words
length-end k (TakingBoxes box) words = length-words_after (entries k) k.jobs words
length-end k (FirstWord first second) words = length-words_after (entries k) k.jobs words
length-end k (SecondWord found second) words = length-words_after (entries k) k.jobs words
length-end k (Working moves read) words = length-words_after (entries k) (drop 1 k.jobs) (words_then moves read words) ∙ length-then moves read words
length-end k (GivingBoxes box) words = length-words_after (entries k) k.jobs words
length-end k (Returning return) words = length-words_after (entries k) k.jobs words

pub stores_leave : StoresLeave
stores_leave s k frame index value stands has copies nobodys l agree = record {
  home = λ other e. (let same : other ≡ k = home-is s other k has e in
      all-same other Outside s.words now (lengths other Outside)
      (λ pid p at lives. (let c = subst CopiesFit (sym same) copies in let n = subst (λ z. IsNobodysTable z frame) (sym same) nobodys in
      same-after (entries other) p.space.tables other.jobs s.words now (c pid p at lives) (stored-same p.space.tables s.words frame index value l (n pid p at lives))))
      (agree.home other e));
  hand = λ m h other e f. (let same : other ≡ k = hand-is-one s m h other k has e f in
      all-same other h.place s.words now (lengths other h.place)
      (λ pid p at lives. (let c = subst CopiesFit (sym same) copies in let n = subst (λ z. IsNobodysTable z frame) (sym same) nobodys in
      same-end other p.space.tables m h.place s.words now (stands.hand m h e other f).stands (c pid p at lives) (stored-same p.space.tables s.words frame index value l (n pid p at lives))))
      (agree.hand m h other e f));
}
  where
    now : List ℕ
    now = put_word s.words frame index value

    lengths : (z : KernelState) (place : CallPlace) → length (words_in_end place z now) ≡ length (words_in_end place z s.words)
    lengths z place = length-end z place now ∙ length-set s.words (frame * 512 + index) value ∙ sym (length-end z place s.words)
