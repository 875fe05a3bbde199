-- Calls that only answer, and calls on the heap.
use Rattle.std.proofs.Common.{ℕ, ◌≡◌, ◌≤◌, ◌==◌, Bool, true, false, cond, Some, None, unwrap_or, List, arith, refl, ap, sym, ◌∙◌, subst}
use Rattle.std.proofs.lemmas.Bool.Decides.{nat_tests}
use Rattle.osc_word.specs.declared.settings.HeapKind.{HeapKind}
use Rattle.osc_word.specs.declared.settings.HeapKind.TheVariants.{Oscar, Plain}
use Rattle.osc_word.specs.declared.calls.Answer.{Answer}
use Rattle.osc_word.specs.declared.calls.Answer.TheVariants as answers
use Rattle.osc_paging.specs.Agree.{Agrees}
use Rattle.osc_paging.specs.JobWords.{words_after}
use Rattle.osc_space.specs.Space.{Draft, Outcome, Terms, unchanged}
use Rattle.osc_space.specs.Share.{Regions}
use Rattle.osc_space.specs.Header.{Found}
use Rattle.osc_parts.specs.Jobs.{AllWriteWhere}
use Rattle.osc_parts.specs.Settled.{Settled}
use Rattle.osc_parts.specs.PlanFits.{PlanFits}
use Rattle.osc_parts.specs.FreeLaws.{HasTerms}
use Rattle.osc_parts.proofs.MallocParts.{mallocs_fit}
use Rattle.osc_parts.proofs.FreeReturn.{frees_fit}
use Rattle.osc_parts.proofs.ReallocKinds.{reallocs_fit}
use Rattle.osc_parts.proofs.PlainMalloc.{plain_mallocs_fit}
use Rattle.osc_parts.proofs.PlainFree.{plain_frees_fit}
use Rattle.osc_parts.proofs.PlainRealloc.{plain_reallocs_fit}
use Rattle.osc_parts.proofs.Settling.{unchanged_fits}
use Rattle.osc_word.specs.declared.settings.Config.{Config}
use Rattle.osc_word.specs.Limits.{first_fault}
use Rattle.osc_calls.specs.declared.JoinLook.{JoinLook}
use Rattle.osc_calls.specs.declared.JoinLook.TheVariants as joined
use Rattle.osc_calls.specs.declared.WaitLook.{WaitLook}
use Rattle.osc_calls.specs.declared.WaitLook.TheVariants as waited
use Rattle.osc_calls.specs.Kernel.{KernelState, Process, Calling, process_at}
use Rattle.osc_calls.specs.Requests.{join_answer, wait_answer}
use Rattle.osc_calls.specs.Refusals.{draft_of}
use Rattle.osc_calls.specs.Planned.{answered, outcome_planned}
use Rattle.osc_calls.specs.HeapPlans.{terms_of, malloc_by, free_by, free_of, realloc_by}
use Rattle.osc_settled.specs.Memory.{memory_of, entries_in}
use Rattle.osc_settled.specs.UnderWay.{HasAlone, is_end, record_by}
use Rattle.osc_settled.specs.KeepLaws.{FitsCaller}
use Rattle.osc_settled.proofs.Memories.{returns_keeps}
use Rattle.osc_settled.proofs.Commits.{lives_none, Owed}
use Rattle.osc_settled.proofs.Outcomes.{Asks, caller_lives, closes_nothing, outcome_owed}
use Rattle.osc_settled.proofs.Silent.{outs, Silent, malloc_by-silent, free_of-silent, realloc_by-silent}

-- ---- an answer alone
pub answered_owed : (words : List ℕ) (k : KernelState) (c : Calling) (answer : Answer) → Asks words k c → is_end answer ≡ false → Owed words c (answered answer k)
answered_owed words k c answer a e = record {
  sizes = a.sizes;
  room = a.waits.room;
  memory = closes_nothing words (memory_of k) c.pid a.memory;
  records = a.records;
  manned = a.manned;
  lives = caller_lives words k c a;
  caller = a.waits.caller ∙ ap (λ b. Some (record_by b c)) (sym e);
  jobs = subst (λ js. AllWriteWhere (HasAlone k.regions (process_at k c.pid)) js) (sym a.waits.jobs) tt;
  effect = refl;
}

pub join_no_end : (look : JoinLook) → is_end (unwrap_or (join_answer look) answers.Unknown) ≡ false
join_no_end (joined.Value value) = refl
join_no_end joined.NotYet = refl
join_no_end joined.Unknown = refl

pub wait_no_end : (look : WaitLook) → is_end (unwrap_or (wait_answer look) answers.Unknown) ≡ false
wait_no_end (waited.Status status) = refl
wait_no_end waited.NotYet = refl
wait_no_end waited.Unknown = refl

-- ---- the heap
-- between two calls the caller's memory is settled, whatever entries are asked for
pub settled : (words : List ℕ) (k : KernelState) (c : Calling) (p : Process) (entries : ℕ → ℕ → ℕ) → Asks words k c → process_at k c.pid ≡ Some p
    → Settled k.config.heap k.config.batch entries words k.regions (draft_of k p)
settled words k c p entries a e =
    let was = a.memory.spaces c.pid p e (lives_none p (process_at k c.pid) e (caller_lives words k c a)) in
    record {
      parts = returns_keeps k.config.heap k.config.batch k.regions p.space k.free was.returns;
      tables = subst (λ js. Agrees p.space.tables k.free (words_after entries js words)) (sym a.waits.jobs)
          (subst (λ js. Agrees p.space.tables k.free (words_after (entries_in k.processes) js words)) a.waits.jobs was.tables);
    }

few_harts : (config : Config) → first_fault config ≡ None → config.harts ≤ 8
few_harts config e = grind (arith, nat_tests, e)

pub has_terms : (words : List ℕ) (k : KernelState) (c : Calling) → Asks words k c → HasTerms k.config.batch (terms_of k)
has_terms words k c a = record { is = refl; harts = few_harts k.config a.sizes.config }

pub fits_caller : (words : List ℕ) (k : KernelState) (c : Calling) (p : Process) (o : Outcome) → Asks words k c
    → ((entries : ℕ → ℕ → ℕ) → PlanFits k.config.heap k.config.batch entries words k.regions (draft_of k p) o) → Silent (draft_of k p) o → FitsCaller words k p o
fits_caller words k c p o a f s = record { each = f; answer = s.answer; writes = s.writes ∙ ap outs a.waits.jobs }

pub malloc_fits : (kind : HeapKind) (batch : ℕ) (entries : ℕ → ℕ → ℕ) (words : List ℕ) (regions : Regions) (n : ℕ) (d : Draft)
    → Settled kind batch entries words regions d → PlanFits kind batch entries words regions d (malloc_by kind n d)
malloc_fits Oscar batch entries words regions n d s = mallocs_fit batch entries words regions n d s
malloc_fits Plain batch entries words regions n d s = plain_mallocs_fit batch entries words regions n d s

pub malloc_owed : (words : List ℕ) (k : KernelState) (c : Calling) (p : Process) (n : ℕ) → Asks words k c → process_at k c.pid ≡ Some p
    → Owed words c (outcome_planned c.pid p k (malloc_by k.config.heap n (draft_of k p)))
malloc_owed words k c p n a e =
    outcome_owed words k c p (malloc_by k.config.heap n (draft_of k p)) a e
    (fits_caller words k c p (malloc_by k.config.heap n (draft_of k p)) a
    (λ entries. malloc_fits k.config.heap k.config.batch entries words k.regions n (draft_of k p) (settled words k c p entries a e))
    (malloc_by-silent k.config.heap n (draft_of k p)))

free_fits : (kind : HeapKind) (batch : ℕ) (entries : ℕ → ℕ → ℕ) (words : List ℕ) (regions : Regions) (terms : Terms) (pointer : ℕ) (found : Found) (d : Draft)
    → HasTerms batch terms → Settled kind batch entries words regions d → PlanFits kind batch entries words regions d (free_by kind terms pointer found d)
free_fits Oscar batch entries words regions terms pointer found d h s = frees_fit batch entries words regions terms pointer found d s h
free_fits Plain batch entries words regions terms pointer found d h s = plain_frees_fit batch entries words regions terms.harts pointer d s h.harts

-- a free of 0 changes nothing
pub null_fits : (kind : HeapKind) (batch : ℕ) (entries : ℕ → ℕ → ℕ) (words : List ℕ) (regions : Regions) (terms : Terms) (pointer : ℕ) (found : Found) (d : Draft) (null : Bool)
    → HasTerms batch terms → Settled kind batch entries words regions d
    → PlanFits kind batch entries words regions d (cond null (unchanged answers.Nothing d) (free_by kind terms pointer found d))
null_fits kind batch entries words regions terms pointer found d true h s = unchanged_fits kind batch entries words regions d answers.Nothing s
null_fits kind batch entries words regions terms pointer found d false h s = free_fits kind batch entries words regions terms pointer found d h s

pub free_owed : (words : List ℕ) (k : KernelState) (c : Calling) (p : Process) (pointer : ℕ) (found : Found) → Asks words k c → process_at k c.pid ≡ Some p
    → Owed words c (outcome_planned c.pid p k (free_of k.config.heap (terms_of k) pointer found (draft_of k p)))
free_owed words k c p pointer found a e =
    outcome_owed words k c p (free_of k.config.heap (terms_of k) pointer found (draft_of k p)) a e
    (fits_caller words k c p (free_of k.config.heap (terms_of k) pointer found (draft_of k p)) a
    (λ entries. null_fits k.config.heap k.config.batch entries words k.regions (terms_of k) pointer found (draft_of k p) (pointer == 0) (has_terms words k c a) (settled words k c p entries a e))
    (free_of-silent k.config.heap (terms_of k) pointer found (draft_of k p)))

pub realloc_fits : (kind : HeapKind) (batch : ℕ) (entries : ℕ → ℕ → ℕ) (words : List ℕ) (regions : Regions) (terms : Terms) (pointer n : ℕ) (found : Found) (d : Draft)
    → HasTerms batch terms → Settled kind batch entries words regions d → PlanFits kind batch entries words regions d (realloc_by kind terms pointer n found d)
realloc_fits Oscar batch entries words regions terms pointer n found d h s = reallocs_fit batch entries words regions terms pointer n found d s h
realloc_fits Plain batch entries words regions terms pointer n found d h s = plain_reallocs_fit batch entries words regions terms.harts pointer n found.second d s h.harts

pub realloc_owed : (words : List ℕ) (k : KernelState) (c : Calling) (p : Process) (pointer n : ℕ) (found : Found) → Asks words k c → process_at k c.pid ≡ Some p
    → Owed words c (outcome_planned c.pid p k (realloc_by k.config.heap (terms_of k) pointer n found (draft_of k p)))
realloc_owed words k c p pointer n found a e =
    outcome_owed words k c p (realloc_by k.config.heap (terms_of k) pointer n found (draft_of k p)) a e
    (fits_caller words k c p (realloc_by k.config.heap (terms_of k) pointer n found (draft_of k p)) a
    (λ entries. realloc_fits k.config.heap k.config.batch entries words k.regions (terms_of k) pointer n found (draft_of k p) (has_terms words k c a) (settled words k c p entries a e))
    (realloc_by-silent k.config.heap (terms_of k) pointer n found (draft_of k p)))
