-- Jobs that write no word of memory: what they leave of the memories of all.
use Rattle.std.proofs.Common.{ℕ, ◌≡◌, List, [], ◌∷◌, ◌++◌, refl, sym, ◌∙◌, subst}
use Rattle.osc_word.specs.declared.job_list.Job.{Job}
use Rattle.osc_word.specs.declared.job_list.Job.TheVariants.{PutWord, ZeroWords, CopyWords, CopyPart, CopyTable, ClearBox, Tell, ToOut}
use Rattle.osc_paging.specs.JobWords.{words_done, words_after}
use Rattle.osc_paging.specs.Agree.{Agrees}
use Rattle.osc_space.specs.Space.{Closing}
use Rattle.osc_parts.specs.Jobs.{AllWriteWhere}
use Rattle.osc_settled.specs.Memory.{Memory, entries_in, MemoryFits}

-- the job changes a box, or only reads
abbrev pub WritesNothing : Job → Type 0
WritesNothing (PutWord at value) = ⊥
WritesNothing (ZeroWords at count) = ⊥
WritesNothing (CopyWords from to count) = ⊥
WritesNothing (CopyPart from to bytes) = ⊥
WritesNothing (CopyTable from to) = ⊥
WritesNothing (ClearBox hart) = Unit {0}
WritesNothing (Tell hart) = Unit {0}
WritesNothing (ToOut at first count) = Unit {0}

abbrev pub AllWriteNothing : List Job → Type 0
AllWriteNothing [] = Unit {0}
AllWriteNothing (job ∷ jobs) = WritesNothing job × AllWriteNothing jobs

same_done : (entries : ℕ → ℕ → ℕ) (job : Job) (words : List ℕ) → WritesNothing job → words_done entries job words ≡ words
same_done entries (PutWord at value) words w = absurd w
same_done entries (ZeroWords at count) words w = absurd w
same_done entries (CopyWords from to count) words w = absurd w
same_done entries (CopyPart from to bytes) words w = absurd w
same_done entries (CopyTable from to) words w = absurd w
same_done entries (ClearBox hart) words w = refl
same_done entries (Tell hart) words w = refl
same_done entries (ToOut at first count) words w = refl

pub same_after : (entries : ℕ → ℕ → ℕ) (jobs : List Job) (words : List ℕ) → AllWriteNothing jobs → words_after entries jobs words ≡ words
same_after entries [] words w = refl
same_after entries (job ∷ jobs) words w = same_after entries jobs (words_done entries job words) w.1 ∙ same_done entries job words w.0

writes_anywhere : (own : ℕ → Type 0) (jobs : List Job) → AllWriteNothing jobs → AllWriteWhere own jobs
writes_anywhere own [] w = tt
writes_anywhere own (PutWord at value ∷ jobs) w = absurd w.0
writes_anywhere own (ZeroWords at count ∷ jobs) w = absurd w.0
writes_anywhere own (CopyWords from to count ∷ jobs) w = absurd w.0
writes_anywhere own (CopyPart from to bytes ∷ jobs) w = absurd w.0
writes_anywhere own (CopyTable from to ∷ jobs) w = absurd w.0
writes_anywhere own (ClearBox hart ∷ jobs) w = (tt, writes_anywhere own jobs w.1)
writes_anywhere own (Tell hart ∷ jobs) w = (tt, writes_anywhere own jobs w.1)
writes_anywhere own (ToOut at first count ∷ jobs) w = (tt, writes_anywhere own jobs w.1)

-- such jobs, pushed where none was pending
pub more_writes : (own : ℕ → Type 0) (before jobs : List Job) → before ≡ [] → AllWriteNothing jobs → AllWriteWhere own (before ++ jobs)
more_writes own before jobs e w = subst (λ js. AllWriteWhere own (js ++ jobs)) (sym e) (writes_anywhere own jobs w)

pub more_memory : (words : List ℕ) (m : Memory) (closes : ℕ → Closing) (jobs : List Job) → m.jobs ≡ [] → AllWriteNothing jobs
    → MemoryFits words m closes → MemoryFits words (record m { jobs = m.jobs ++ jobs }) closes
more_memory words m closes jobs e w f = record {
  spaces = λ pid p at lives. (let was = f.spaces pid p at lives in record {
    returns = was.returns;
    frames = was.frames;
    tables = subst (λ js. Agrees p.space.tables m.free (words_after (entries_in m.processes) (js ++ jobs) words)) (sym e)
        (subst (λ ws. Agrees p.space.tables m.free ws) (sym (same_after (entries_in m.processes) jobs words w))
        (subst (λ js. Agrees p.space.tables m.free (words_after (entries_in m.processes) js words)) e was.tables));
  });
  bare = f.bare;
  uses = f.uses;
  holders = f.holders;
}
