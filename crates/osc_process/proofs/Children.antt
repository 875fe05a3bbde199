-- The child of a process that stands alone in its machine stands there beside it.
use Rattle.std.proofs.Common.{ℕ, ◌≡◌, Bool, false, Option, Some, None, is_some, List, [], ◌∷◌, length, map, arith, refl, ap, sym, subst, ◌∙◌}
use Rattle.osc_word.specs.JobList.{JobList}
use Rattle.osc_word.specs.declared.settings.Config.{Config}
use Rattle.osc_word.specs.declared.calls.Answer.{Answer}
use Rattle.osc_paging.specs.declared.Mapped.{Mapped}
use Rattle.osc_paging.specs.KeptTables.{KeptTables, kept_word}
use Rattle.osc_paging.specs.TableChanges.{renamed}
use Rattle.osc_paging.specs.JobWords.{words_after}
use Rattle.osc_paging.specs.Agree.{Agrees}
use Rattle.osc_space.specs.Space.{Space, first_reason}
use Rattle.osc_space.specs.Fork.{Forked, frame_of_page, fork_plan, fork_reasons}
use Rattle.osc_space.specs.Share.{Regions, shared_frames, shared_pages, hold, join}
use Rattle.osc_parts.specs.Settled.{PartsFit}
use Rattle.osc_parts.specs.ForkFits.{ForkFits}
use Rattle.osc_parts.proofs.ForkParts.{forks_fit}
use Rattle.osc_calls.specs.Kernel.{Process}
use Rattle.osc_calls.specs.ProcessPlans.{child_process}
use Rattle.osc_settled.specs.Memory.{at_rest}
use Rattle.osc_process.specs.Parts.{unused}
use Rattle.osc_process.specs.Stands.{Stands}
use Rattle.osc_process.proofs.Forks.{child_sizes}
use Rattle.osc_process.proofs.Sizes.{sizes_then}

joins_none : (child : KeptTables) (regions : Regions) → shared_frames child ≡ [] → join child regions ≡ regions
unfolding join
joins_none child regions e = ap (λ fs. hold fs regions) e

child_tables : (s : Space) (free : List Bool) → (fork_plan s free).child.tables ≡ renamed (fork_plan s free).names s.tables
unfolding fork_plan
child_tables s free = refl

no_pages : (pages : List Mapped) → map frame_of_page pages ≡ [] → pages ≡ []
no_pages [] e = refl
no_pages (m ∷ pages) e = absurd (let z : ⊥ = grind (arith, e) in z)

pub none_there : (o : Option Answer) → is_some o ≡ false → o ≡ None
none_there None e = refl
none_there (Some answer) e = absurd (let z : ⊥ = grind (arith, e) in z)

module _ (config : Config) (p : Process) (regions : Regions) (free : List Bool) (jobs : JobList) (s : Stands config p regions free jobs) where
  -- where it is not refused
  module _ (granted : first_reason (fork_reasons p.space free) ≡ None) where
    abbrev made : Forked
    made = fork_plan p.space free

    -- what the child's tables tell
    abbrev told : ℕ → ℕ → ℕ
    told frame index = kept_word made.child.tables frame index

    fit : ForkFits config.heap config.batch told s.words regions (join made.child.tables regions) (at_rest p.space free) made
    fit = forks_fit config.heap config.batch told s.words regions (at_rest p.space free) (record { parts = s.settled.parts; tables = s.settled.tables }) granted

    none_shared : shared_frames made.child.tables ≡ []
    none_shared = fit.same ∙ ap (map frame_of_page) s.alone

    child_words : Agrees made.child.tables made.free (words_after told made.jobs s.words)
    child_words =
        subst (λ (t : KeptTables). Agrees t made.free (words_after told made.jobs s.words)) (sym (child_tables p.space free)) (fit.tables (λ f i l h. refl)).child

    made_stands : (pid : ℕ) (left : JobList) → left.room ≡ jobs.room → Stands config (child_process pid made.child) regions made.free left
    made_stands pid left room =
        let size : length made.free ≡ length free = fit.takes.size in
        record {
          valid = s.valid;
          count = size ∙ s.count;
          spare = (let e = s.spare in omega (arith, e, size, room));
          sizes = sizes_then (unused config.levels config.frames config.shadows).space p.space made.child s.sizes (child_sizes p.space free);
          alone = no_pages (shared_pages made.child.tables) none_shared;
          entries = told;
          words = words_after told made.jobs s.words;
          settled = record {
            parts = subst (λ (x : Regions). PartsFit config.heap config.batch x made.child made.free) (joins_none made.child.tables regions none_shared) fit.child;
            tables = child_words;
          };
        }

    pub child_stands : (pid : ℕ) (child : Process) (after : List Bool) (left : JobList) → child ≡ child_process pid made.child → after ≡ made.free → left.room ≡ jobs.room
        → Stands config child regions after left
    child_stands pid child after left is taken room =
        subst (λ (q : Process). Stands config q regions after left) (sym is)
        (subst (λ (x : List Bool). Stands config (child_process pid made.child) regions x left) (sym taken) (made_stands pid left room))
