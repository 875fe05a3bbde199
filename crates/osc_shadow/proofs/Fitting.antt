-- What is exactly a plan fits as the plan does, and a call that gives nothing back leaves a memory that
-- is settled.
use Rattle.std.proofs.Common.{ℕ, ◌≡◌, Bool, List, [], refl, sym, subst}
use Rattle.osc_word.specs.declared.job_list.Job.{Job}
use Rattle.osc_word.specs.declared.settings.HeapKind.{HeapKind}
use Rattle.osc_paging.specs.JobWords.{words_after}
use Rattle.osc_space.specs.Space.{Space, Draft, Outcome, Closing, Keeps}
use Rattle.osc_space.specs.Finish.{finished}
use Rattle.osc_parts.specs.Settled.{PartsFit, Settled}
use Rattle.osc_shadow.specs.Fits.{FitsAfter, IsSettled}

pub fits_after : (kind : HeapKind) (batch : ℕ) (before : Draft) (made planned : Outcome) → made ≡ planned
    → FitsAfter kind batch before planned → FitsAfter kind batch before made
fits_after kind batch before made planned e fits = subst (λ (o : Outcome). FitsAfter kind batch before o) (sym e) fits

given_nothing : (closing : Closing) (d : Draft) → closing ≡ Keeps → finished closing d ≡ d
unfolding finished
given_nothing closing d e = rw e refl

pub stays_settled : (kind : HeapKind) (space : Space) (free : List Bool) (jobs : List Job) (o : Outcome) → jobs ≡ [] → o.closing ≡ Keeps
    → ((batch : ℕ) → FitsAfter kind batch (record { space = space; free = free; jobs = jobs }) o)
    → IsSettled kind space free → IsSettled kind o.draft.space o.draft.free
stays_settled kind space free jobs o none keeps fits is =
    let before = subst (λ (js : List Job). Settled kind is.batch is.entries is.words is.regions (record { space = space; free = free; jobs = js })) (sym none) is.settled in
    let after = fits is.batch is.entries is.words is.regions before in
    record {
      batch = is.batch;
      entries = is.entries;
      words = words_after is.entries o.draft.jobs is.words;
      regions = is.regions;
      settled = record {
        parts = subst (λ (d : Draft). PartsFit kind is.batch is.regions d.space d.free) (given_nothing o.closing o.draft keeps) after.parts;
        tables = after.tables;
      };
    }
