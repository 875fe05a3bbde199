-- A job that is done leaves what each hart relies on, but for one whose cache it clears.
use Rattle.std.proofs.Common.{ℕ, ◌≡◌, not, ◌||◌, if◌then◌else◌, Bool, true, false, Some, List, [], ◌∷◌, drop, slice_get, arith, refl, sym, ap, ◌∙◌}
use Rattle.std.specs.List.{list_any}
use Rattle.osc_word.specs.declared.job_list.Job.{Job}
use Rattle.osc_space.specs.Space.{Space}
use Rattle.osc_calls.specs.JobDone.{job_done}
use Rattle.osc_showing.specs.Showing.{closes, is_closed, clears}
use Rattle.osc_relying.specs.Relying.{flushes, may_keep, HasPage, Kept, Goes, HasTable, Made, Aside}
use Rattle.osc_lasting.specs.Lasting.{JobsLast}

closed-later : (jobs : List Job) (f : ℕ) → is_closed jobs f ≡ false → is_closed (drop 1 jobs) f ≡ false
closed-later [] f e = e
closed-later (job ∷ jobs) f e = either (closes job f) (is_closed jobs f) e
  where
    either : (a b : Bool) → (a || b) ≡ false → b ≡ false
    either false b e = e
    either true b e = absurd (let z : ⊥ = grind (arith, e) in z)

due-later : (jobs : List Job) (job : Job) (n : ℕ) → slice_get jobs 0 ≡ Some job → clears n job ≡ false → list_any (clears n) jobs ≡ true → list_any (clears n) (drop 1 jobs) ≡ true
due-later [] job n e d h = absurd (let b : ⊥ = grind (arith, e) in b)
due-later (x ∷ jobs) job n e d h =
    let same : job ≡ x = grind (arith, e) in
    let none : clears n x ≡ false = ap (clears n) (sym same) ∙ d in
    grind (arith, none, h)

-- whose cache the job does not clear
is-spared : (b : Bool) → (if b then false else true) ≡ true → b ≡ false
is-spared false e = refl
is-spared true e = absurd (let z : ⊥ = grind (arith, e) in z)

may-later : (flushes : Bool) (jobs : List Job) (job : Job) (n : ℕ) → slice_get jobs 0 ≡ Some job → clears n job ≡ false → (not flushes || list_any (clears n) jobs) ≡ true → (not flushes || list_any (clears n) (drop 1 jobs)) ≡ true
may-later false jobs job n e d h = refl
may-later true jobs job n e d h = due-later jobs job n e d h

pub jobs_last : JobsLast
unfolding job_done
jobs_last words word job k fits levels oscar next = record {
  pages = λ n pid page frame called l s e x. record { p = x.p; is = x.is; lives = x.lives; goes_on = x.goes_on; canonical = x.canonical; has = on-page n pid x.p.space _ frame (is-spared (clears n job) s) x.has };
  tables = λ n pid level page frame l s x. record { p = x.p; is = x.is; lives = x.lives; has = on-table n pid x.p.space level _ frame (is-spared (clears n job) s) x.has };
}
  where
    keeps : (n pid : ℕ) → clears n job ≡ false → may_keep k n pid ≡ true → may_keep (job_done word k).kernel n pid ≡ true
    keeps n pid d h = may-later (flushes k.config.harts k.under_way pid) k.jobs job n next d h

    on-page : (n pid : ℕ) (s : Space) (number frame : ℕ) → clears n job ≡ false → HasPage k n pid s number frame → HasPage (job_done word k).kernel n pid s number frame
    on-page n pid s number frame d (Kept m e f) = Kept m e f
    on-page n pid s number frame d (Goes g may) = Goes g (keeps n pid d may)

    on-table : (n pid : ℕ) (s : Space) (level number frame : ℕ) → clears n job ≡ false → HasTable k n pid s level number frame → HasTable (job_done word k).kernel n pid s level number frame
    on-table n pid s level number frame d (Made e made) = Made e (closed-later k.jobs frame made)
    on-table n pid s level number frame d (Aside l e made may) = Aside l e (closed-later k.jobs frame made) (keeps n pid d may)
