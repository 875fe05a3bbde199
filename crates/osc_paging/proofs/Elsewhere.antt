-- Jobs that write no table leave its words.
use Rattle.std.proofs.Common.{ℕ, zero, suc, ◌≡◌, ◌≢◌, ◌<◌, ◌≤◌, ◌+◌, ◌*◌, ◌⊎◌, inl, inr, ⊎_elim, List, [], ◌∷◌, Option, Some, None, arith, refl, ap, sym, ◌∙◌, subst, length, get_or}
use Rattle.std.proofs.lemmas.Bool.Decides.{nat_tests}
use Rattle.std.proofs.lemmas.List.{length-set}
use Rattle.osc_word.specs.declared.job_list.Job.{Job}
use Rattle.osc_word.specs.declared.job_list.Job.TheVariants.{PutWord, ZeroWords, CopyWords, CopyPart, CopyTable, ClearBox, Tell, ToOut}
use Rattle.osc_sv39.specs.Walk.{word_at, put_word}
use Rattle.osc_paging.specs.JobWords.{copied, table_copied, words_done, words_after}
use Rattle.osc_paging.specs.KeptTables.{KeptTables, piece_of}
use Rattle.osc_paging.specs.CopyLaws.{IsNoTable, IsTable, WritesElsewhere, AllElsewhere, JobsElsewhereKeep, TakingKeeps}
use Rattle.osc_paging.specs.OtherLaws.{IsAnyTable}
use Rattle.osc_paging.proofs.WordLists.{get_or-set, zeroed_at, length-zeroed}

-- ---- copies of words and of tables
length-copied : (count from to : ℕ) (words : List ℕ) → length (copied from to count words) ≡ length words
unfolding copied
length-copied zero from to words = refl
length-copied (suc count) from to words = length-copied count (from + 1) (to + 1) _ ∙ length-set words to _

copied_apart : (count from to : ℕ) (words : List ℕ) (j : ℕ) → (j < to) ⊎ (to + count ≤ j) → get_or (copied from to count words) j 0 ≡ get_or words j 0
unfolding copied
copied_apart zero from to words j h = refl
copied_apart (suc count) from to words j h =
    let later : (j < to + 1) ⊎ (to + 1 + count ≤ j) = ⊎_elim (λ (l : j < to). inl (omega arith)) (λ (l : to + suc count ≤ j). inr (omega arith)) h in
    copied_apart count (from + 1) (to + 1) _ j later ∙ grind (arith, nat_tests, h, get_or-set words to j (get_or words from 0))

length-table_copied : (entries : ℕ → ℕ → ℕ) (count g from : ℕ) (words : List ℕ) → length (table_copied entries g from count words) ≡ length words
unfolding table_copied
length-table_copied entries zero g from words = refl
length-table_copied entries (suc count) g from words = length-table_copied entries count g (from + 1) _ ∙ length-set words (g * 512 + from) _

-- another word stays at a store
put_word_apart : (words : List ℕ) (g j v f i : ℕ) → i < 512 → j < 512 → (f ≢ g) ⊎ (i < j) → word_at (put_word words g j v) f i ≡ word_at words f i
put_word_apart words g j v f i s m h = ⊎_elim
    (λ (d : f ≢ g). grind (arith, nat_tests, d, get_or-set words (g * 512 + j) (f * 512 + i) v))
    (λ (d : i < j). grind (arith, nat_tests, d, get_or-set words (g * 512 + j) (f * 512 + i) v))
    h

pub table_copied_apart : (entries : ℕ → ℕ → ℕ) (count g from : ℕ) (words : List ℕ) (f i : ℕ) → i < 512 → from + count ≤ 512 → (f ≢ g) ⊎ (i < from) → word_at (table_copied entries g from count words) f i ≡ word_at words f i
unfolding table_copied
table_copied_apart entries zero g from words f i s m h = refl
table_copied_apart entries (suc count) g from words f i s m h =
    let later : (f ≢ g) ⊎ (i < from + 1) = ⊎_elim (λ (d : f ≢ g). inl d) (λ (d : i < from). inr (omega arith)) h in
    table_copied_apart entries count g (from + 1) _ f i s (omega arith) later ∙ put_word_apart words g from _ f i s (omega arith) h

here_or_later : (i from : ℕ) → from ≤ i → (i ≡ from) ⊎ (from < i)
here_or_later i from l = grind arith

pub table_copied_here : (entries : ℕ → ℕ → ℕ) (count g from c : ℕ) (words : List ℕ) (i : ℕ) → length words ≡ c * 512 → g < c → i < 512 → from + count ≤ 512 → from ≤ i → i < from + count → word_at (table_copied entries g from count words) g i ≡ entries g i
unfolding table_copied
table_copied_here entries zero g from c words i e l s m low high = absurd (omega arith)
table_copied_here entries (suc count) g from c words i e l s m low high = ⊎_elim
    (λ (d : i ≡ from). table_copied_apart entries count g (from + 1) _ g i s (omega arith) (inr (omega arith)) ∙ grind (arith, nat_tests, d, get_or-set words (g * 512 + from) (g * 512 + i) (entries g from)))
    (λ (d : from < i). table_copied_here entries count g (from + 1) c _ i (length-set words (g * 512 + from) _ ∙ e) l s (omega arith) (omega arith) (omega arith))
    (here_or_later i from low)

-- ---- one job, and all
pub length-words_done : (entries : ℕ → ℕ → ℕ) (job : Job) (words : List ℕ) → length (words_done entries job words) ≡ length words
length-words_done entries (PutWord at value) words = length-set words _ value
length-words_done entries (ZeroWords at count) words = length-zeroed count _ words
length-words_done entries (CopyWords from to count) words = length-copied count _ _ words
length-words_done entries (CopyPart from to bytes) words = length-set words _ _
length-words_done entries (CopyTable from to) words = length-table_copied entries 512 to 0 words
length-words_done entries (ClearBox hart) words = refl
length-words_done entries (Tell hart) words = refl
length-words_done entries (ToOut at first count) words = refl

pub length-words_after : (entries : ℕ → ℕ → ℕ) (jobs : List Job) (words : List ℕ) → length (words_after entries jobs words) ≡ length words
length-words_after entries [] words = refl
length-words_after entries (job ∷ jobs) words = length-words_after entries jobs (words_done entries job words) ∙ length-words_done entries job words

other_frame : (t : KeptTables) (f g : ℕ) → IsAnyTable t f → IsNoTable t g → f ≢ g
other_frame t f g h n e = ⊎_elim
    (λ (d : IsTable t f). d (subst (λ x. piece_of t.tables x ≡ None) (sym e) n.0))
    (λ (d : piece_of t.aside f ≢ None). d (subst (λ x. piece_of t.aside x ≡ None) (sym e) n.1))
    h

-- a word of a table stays
pub job_elsewhere : (entries : ℕ → ℕ → ℕ) (t : KeptTables) (job : Job) (words : List ℕ) (f i : ℕ) → WritesElsewhere t job → i < 512 → IsAnyTable t f → word_at (words_done entries job words) f i ≡ word_at words f i
job_elsewhere entries t (PutWord at value) words f i w s h =
    let d = other_frame t f at.frame h w.1 in
    put_word_apart words at.frame at.index value f i s w.0 (inl d)
job_elsewhere entries t (ZeroWords at count) words f i w s h =
    let d = other_frame t f at.frame h w.1 in
    grind (arith, nat_tests, d, w.0, zeroed_at count (at.frame * 512 + at.index) words (f * 512 + i))
job_elsewhere entries t (CopyWords from to count) words f i w s h =
    let d = other_frame t f to.frame h w.1 in
    let within = w.0 in
    copied_apart count (from.frame * 512 + from.index) (to.frame * 512 + to.index) words (f * 512 + i) (apart f to.frame to.index count i d within s)
  where
    apart : (f g j count i : ℕ) → f ≢ g → j + count ≤ 512 → i < 512 → (f * 512 + i < g * 512 + j) ⊎ (g * 512 + j + count ≤ f * 512 + i)
    apart f g j count i d l s = grind (arith, d)
job_elsewhere entries t (CopyPart from to bytes) words f i w s h =
    let d = other_frame t f to.frame h w.1 in
    put_word_apart words to.frame to.index _ f i s w.0 (inl d)
job_elsewhere entries t (CopyTable from to) words f i w s h = table_copied_apart entries 512 to 0 words f i s (omega arith) (inl (other_frame t f to h w))
job_elsewhere entries t (ClearBox hart) words f i w s h = refl
job_elsewhere entries t (Tell hart) words f i w s h = refl
job_elsewhere entries t (ToOut at first count) words f i w s h = refl

pub jobs_elsewhere : (entries : ℕ → ℕ → ℕ) (t : KeptTables) (jobs : List Job) (words : List ℕ) (f i : ℕ) → AllElsewhere t jobs → i < 512 → IsAnyTable t f → word_at (words_after entries jobs words) f i ≡ word_at words f i
jobs_elsewhere entries t [] words f i w s h = refl
jobs_elsewhere entries t (job ∷ jobs) words f i w s h = jobs_elsewhere entries t jobs (words_done entries job words) f i w.1 s h ∙ job_elsewhere entries t job words f i w.0 s h

pub some_piece : {A : Type 0} {x : Option A} {y : A} → x ≡ Some y → x ≢ None
some_piece e n = let h = sym n ∙ e in cc

pub jobs_elsewhere_keep : JobsElsewhereKeep
jobs_elsewhere_keep entries t free words jobs k w = record {
  size = length-words_after entries jobs words ∙ k.size;
  small = k.small;
  apart = k.apart;
  taken = k.taken;
  parents = k.parents;
  leaves = k.leaves;
  agree = λ f i p s e. jobs_elsewhere entries t jobs words f i w s (inl (some_piece e)) ∙ k.agree f i p s e;
  spare = k.spare;
  zeros = λ f i p s e. jobs_elsewhere entries t jobs words f i w s (inr (some_piece e)) ∙ k.zeros f i p s e;
}

pub taking_keeps : TakingKeeps
taking_keeps t free after words k more = record {
  size = k.size ∙ ap (λ n. n * 512) (sym more.size);
  small = let same = more.size in let most = k.small in omega arith;
  apart = k.apart;
  taken = λ f p e. more.taken f (k.taken f p e);
  parents = k.parents;
  leaves = k.leaves;
  agree = k.agree;
  spare = λ f p e. ((k.spare f p e).0, more.taken f (k.spare f p e).1);
  zeros = k.zeros;
}
