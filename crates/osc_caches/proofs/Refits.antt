-- A kernel that fits with some words fits with all that agree with its tables.
use Rattle.std.proofs.Common.{ℕ, ◌≡◌, false, Option, Some, None, List, [], ◌∷◌, drop, slice_get, arith, refl, sym, ap, ◌∙◌}
use Rattle.std.specs.Option.{option_map_or}
use Rattle.osc_word.specs.declared.job_list.Job.{Job}
use Rattle.osc_paging.specs.JobWords.{words_done, words_after}
use Rattle.osc_paging.proofs.Elsewhere.{length-words_after}
use Rattle.osc_calls.specs.Kernel.{KernelState, next_job}
use Rattle.osc_calls.specs.Moves.{Move, Put, Copy, CopyLow, ChangeBox, Out, moves_of}
use Rattle.osc_calls.specs.MoveLaws.{words_after_moves}
use Rattle.osc_calls.specs.JobDone.{entries}
use Rattle.osc_calls.proofs.MoveLawProofs.{moves_do_job}
use Rattle.osc_settled.specs.KernelFits.{KernelFits}
use Rattle.osc_machine.specs.Parts.{Working, GivingBoxes, Returning}
use Rattle.osc_machine.specs.Turns.{place_on, first_held, return_of}
use Rattle.osc_paging.specs.Boxes.{BoxState}
use Rattle.osc_caches.specs.Words.{words_then, words_in_end, AllAgree}

-- what agrees after the jobs
pub all-agree : (words : List ℕ) (k : KernelState) → KernelFits words k → AllAgree k (words_after (entries k) k.jobs words)
all-agree words k f = record {
  size = length-words_after (entries k) k.jobs words ∙ f.sizes.memory;
  each = λ pid p at lives. (f.memory.spaces pid p at lives).tables;
}

pub refit : (words other : List ℕ) (k : KernelState) → KernelFits words k → AllAgree k (words_after (entries k) k.jobs other) → KernelFits other k
refit words other k f a = record {
  sizes = record {
    config = f.sizes.config;
    memory = sym (length-words_after (entries k) k.jobs other) ∙ a.size;
    free = f.sizes.free;
    regions = f.sizes.regions;
    records = f.sizes.records;
    processes = f.sizes.processes;
    threads = f.sizes.threads;
    journal = f.sizes.journal;
    output = f.sizes.output;
    peak = f.sizes.peak;
  };
  memory = record {
    spaces = λ pid p at lives. (let was = f.memory.spaces pid p at lives in record { returns = was.returns; frames = was.frames; tables = a.each pid p at lives });
    bare = f.memory.bare;
    uses = f.memory.uses;
    holders = f.memory.holders;
  };
  records = f.records;
  manned = f.manned;
  under_way = f.under_way;
}

-- ---- the place where a committed call goes on has all its work before it
gives-end : (k : KernelState) (words : List ℕ) (o : Option ℕ) → words_in_end (option_map_or (λ box. GivingBoxes box) o (Returning (return_of false k))) k words ≡ words_after (entries k) k.jobs words
gives-end k words None = refl
gives-end k words (Some box) = refl

first-done : (k : KernelState) (words : List ℕ) (jobs : List Job) (job : Job) → slice_get jobs 0 ≡ Some job
    → words_after (entries k) (drop 1 jobs) (words_done (entries k) job words) ≡ words_after (entries k) jobs words
first-done k words [] job e = absurd (let b : ⊥ = grind (arith, e) in b)
first-done k words (x ∷ jobs) job e = let same : job ≡ x = grind (arith, e) in ap (λ j. words_after (entries k) jobs (words_done (entries k) j words)) same

-- while the first move has read nothing
pub unread : (moves : List Move) (words : List ℕ) → words_then moves None words ≡ words_after_moves moves words
unread [] words = refl
unread (Put at value ∷ moves) words = refl
unread (Copy from to ∷ moves) words = refl
unread (CopyLow from to bytes ∷ moves) words = refl
unread (ChangeBox box ∷ moves) words = refl
unread (Out at ∷ moves) words = refl

goes-end : (k : KernelState) (words : List ℕ) (boxes : List (Option BoxState)) (o : Option Job) → next_job k ≡ o
    → words_in_end (option_map_or (λ job. Working (moves_of (entries k) job) None) o (option_map_or (λ box. GivingBoxes box) (first_held boxes) (Returning (return_of false k)))) k words
    ≡ words_after (entries k) k.jobs words
goes-end k words boxes None e = gives-end k words (first_held boxes)
goes-end k words boxes (Some job) e =
    ap (words_after (entries k) (drop 1 k.jobs)) (unread (moves_of (entries k) job) words ∙ moves_do_job (entries k) job words) ∙ first-done k words k.jobs job e

pub on-end : (k : KernelState) (words : List ℕ) (boxes : List (Option BoxState)) → words_in_end (place_on k boxes) k words ≡ words_after (entries k) k.jobs words
on-end k words boxes = goes-end k words boxes (next_job k) refl
