-- The boxes from one on are still to be cleared.
use Rattle.std.proofs.Common.{ℕ, suc, ◌+◌, ◌-◌, ◌≡◌, ◌<◌, Bool, List, [], ◌∷◌, ◌++◌, map, arith, refl, ap, ◌∙◌}
use Rattle.std.specs.List.{range_with_len}
use Rattle.osc_word.specs.declared.job_list.Job.{Job}
use Rattle.osc_word.specs.declared.job_list.Job.TheVariants.{ClearBox}
use Rattle.osc_paging.specs.KeptTables.{KeptTables}
use Rattle.osc_paging.specs.TableChanges.{Changed}
use Rattle.osc_tables.specs.Calls.{changed}
use Rattle.osc_space.specs.Free.{reclaim_all, clear_jobs}
use Rattle.osc_shadow.specs.Flushing.{flushed}

abbrev pub clears_from : ℕ → ℕ → List Job
clears_from harts hart = map (λ h. ClearBox h) (range_with_len hart (harts - hart))

pub next_clear : (harts hart : ℕ) → hart < harts → clears_from harts hart ≡ (ClearBox hart ∷ []) ++ clears_from harts (hart + 1)
next_clear harts hart l = let e : harts - hart ≡ suc (harts - (hart + 1)) = omega arith in rw e refl

pub no_clear : (harts hart : ℕ) → harts ≡ hart → clears_from harts hart ≡ []
no_clear harts hart e = let z : harts - hart ≡ 0 = omega arith in rw z refl

pub flushes : (harts : ℕ) (leaves : List ℕ) (u : KeptTables) (free : List Bool) (now after : List Job) (c : Changed) → changed u free now ≡ reclaim_all leaves c → after ≡ now ++ clear_jobs harts → changed u free after ≡ flushed harts leaves c
flushes harts leaves u free now after c e f = ap (λ js. changed u free js) f ∙ ap (λ (d : Changed). record d { jobs = d.jobs ++ clear_jobs harts }) e
