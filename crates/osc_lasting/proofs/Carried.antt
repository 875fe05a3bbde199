-- What a step leaves of the pages and tables of one process, and of all.
use Rattle.std.proofs.Common.{ℕ, suc, ◌≡◌, ◌≢◌, ◌<◌, ◌||◌, ◌⊎◌, inl, inr, ⊎_elim, Bool, true, false, Some, None, List, [], ◌∷◌, arith, refl, sym, ap, subst, ◌∙◌}
use Rattle.std.proofs.lemmas.Bool.Decides.{nat_tests}
use Rattle.osc_word.specs.declared.calls.Answer.{Answer}
use Rattle.osc_word.specs.declared.calls.Answer.TheVariants.{Nothing}
use Rattle.osc_word.specs.declared.job_list.Job.{Job}
use Rattle.osc_sv39.specs.declared.entries.Mapping.{Mapping}
use Rattle.osc_sv39.specs.Walk.{piece, is_canonical, number_of}
use Rattle.osc_paging.specs.declared.TableFrame.{TableFrame}
use Rattle.osc_paging.specs.KeptTables.{KeptTables, levels_of, mapping_at, frame_of, piece_of}
use Rattle.osc_paging.specs.Agree.{Apart}
use Rattle.osc_paging.specs.CopyLaws.{IsTable}
use Rattle.osc_paging.proofs.TableLists.{apart-found, apart-placed}
use Rattle.osc_space.specs.Space.{Space, Draft, Outcome}
use Rattle.osc_space.specs.Agree.{is_waiting}
use Rattle.osc_calls.specs.Kernel.{KernelState, Process, process_at}
use Rattle.osc_settled.specs.Records.{ending}
use Rattle.osc_showing.specs.Showing.{is_closed, Turned}
use Rattle.osc_showing.specs.Leading.{piece_at}
use Rattle.osc_caches.specs.Going.{replaces, GoingPage, PagesGo}
use Rattle.osc_relying.specs.Relying.{answer_for, may_keep, HasPage, Kept, Goes, HasTable, Made, Aside}
use Rattle.osc_lasting.specs.Lasting.{Lasts, each_hart}

-- ---- one process, at rest before
pub record Carried (s t : Space) (answer : Answer) (js : List Job) : Type 0 where
  pub top : t.tables.top ≡ s.tables.top
  pub pages : (number : ℕ) (m : Mapping) → mapping_at s.tables.pages number ≡ Some m → (mapping_at t.tables.pages number ≡ Some m) ⊎ GoingPage t answer number m.frame
  pub goes_on : (number frame : ℕ) → GoingPage s Nothing number frame → GoingPage t answer number frame
  pub tables : (level number f : ℕ) → frame_of s.tables.tables level number ≡ Some f
      → (frame_of t.tables.tables level number ≡ Some f) ⊎ ((level ≡ 0) × (piece_of t.tables.aside f ≡ Some (piece_at 0 number)))
  pub made : (level number f : ℕ) → frame_of s.tables.tables level number ≡ Some f → is_closed js f ≡ false

pub is-table : (ts : List TableFrame) (level number f : ℕ) → frame_of ts level number ≡ Some f → piece_of ts f ≢ None
is-table [] level number f e h = absurd (let b : ⊥ = grind (arith, e) in b)
is-table (t ∷ ts) level number f e h = grind (arith, nat_tests, e, h, is-table ts level number f)

-- where nothing changes but the answer and the jobs
waits-only : (a b : Bool) → (a || false) ≡ true → (a || b) ≡ true
waits-only true b e = refl
waits-only false b e = absurd (let z : ⊥ = grind (arith, e) in z)

pub same-carried : (s : Space) (answer : Answer) (js : List Job) → ((f : ℕ) → IsTable s.tables f → is_closed js f ≡ false) → Carried s s answer js
same-carried s answer js made = record {
  top = refl;
  pages = λ q m e. inl e;
  goes_on = λ q f g. record { object = g.object; o = g.o; is = g.is; has = g.has; goes = waits-only (is_waiting s g.object) (replaces answer g.object) g.goes; at = g.at };
  tables = λ l q f e. inl e;
  made = λ l q f e. made f (is-table s.tables.tables l q f e);
}

-- where its tables are turned
pub tables-turned : (old t : KeptTables) (free : List Bool) (js : List Job) → Apart old.tables → Turned old t free js → (level number f : ℕ) → frame_of old.tables level number ≡ Some f
    → (frame_of t.tables level number ≡ Some f) ⊎ ((level ≡ 0) × (piece_of t.aside f ≡ Some (piece_at 0 number)))
tables-turned old t free js apart k level number f e = ⊎_elim
    (λ (h : piece_of t.tables f ≡ Some (piece_at level number)). inl (apart-placed t.tables f level number k.tidy.apart h))
    (λ (h : (level ≡ 0) × (piece_of t.aside f ≡ Some (piece_at level number))). inr (h.0, h.1 ∙ ap (λ l. Some (piece_at l number)) h.0))
    (k.olds f (piece_at level number) (apart-found old.tables level number f apart e))

pub outcome-carried : (d : Draft) (o : Outcome) → Apart d.space.tables.tables → o.draft.space.tables.top ≡ d.space.tables.top → PagesGo d o → Turned d.space.tables o.draft.space.tables o.draft.free o.draft.jobs
    → Carried d.space o.draft.space o.answer o.draft.jobs
outcome-carried d o apart top go k = record {
  top = top;
  pages = go.pages;
  goes_on = go.goes_on;
  tables = tables-turned d.space.tables o.draft.space.tables o.draft.free o.draft.jobs apart k;
  made = λ l q f e. k.made f (is-table d.space.tables.tables l q f e);
}

-- ---- what a hart relies on
page-lasts : (k new : KernelState) (n pid : ℕ) (s t : Space) (number frame : ℕ) → answer_for k.under_way pid ≡ Nothing → Carried s t (answer_for new.under_way pid) new.jobs → may_keep new n pid ≡ true
    → HasPage k n pid s number frame → HasPage new n pid t number frame
page-lasts k new n pid s t number frame none c may (Kept m e f) = ⊎_elim
    (λ (h : mapping_at t.tables.pages number ≡ Some m). Kept m h f)
    (λ (g : GoingPage t (answer_for new.under_way pid) number m.frame). Goes (subst (GoingPage t (answer_for new.under_way pid) number) f g) may)
    (c.pages number m e)
page-lasts k new n pid s t number frame none c may (Goes g was) = Goes (c.goes_on number frame (subst (λ a. GoingPage s a number frame) none g)) may

table-lasts : (k new : KernelState) (n pid : ℕ) (s t : Space) (level number table : ℕ) → s.tables.aside ≡ [] → Carried s t (answer_for new.under_way pid) new.jobs → may_keep new n pid ≡ true
    → HasTable k n pid s level number table → HasTable new n pid t level number table
table-lasts k new n pid s t level number table none c may (Made e made) = ⊎_elim
    (λ (h : frame_of t.tables.tables level (piece (suc level) number) ≡ Some table). Made h (c.made level (piece (suc level) number) table e))
    (λ (h : (level ≡ 0) × (piece_of t.tables.aside table ≡ Some (piece_at 0 (piece (suc level) number)))).
    Aside h.0 (subst (λ l. piece_of t.tables.aside table ≡ Some (piece_at 0 (piece (suc l) number))) h.0 h.1) (c.made level (piece (suc level) number) table e) may)
    (c.tables level (piece (suc level) number) table e)
table-lasts k new n pid s t level number table none c may (Aside l e made was) =
    absurd (let z : piece_of [] table ≡ Some (piece_at 0 (piece 1 number)) = ap (λ ts. piece_of ts table) (sym none) ∙ e in let b : ⊥ = grind (arith, z) in b)

-- ---- all processes
-- no call is committed, and no leaf table stands aside
pub record IsCalm (k : KernelState) (pid : ℕ) (p : Process) : Type 0 where
  pub none : answer_for k.under_way pid ≡ Nothing
  pub aside : p.space.tables.aside ≡ []

pub record Carries (k new : KernelState) (pid : ℕ) (p : Process) : Type 0 where
  pub after : Process
  pub is : process_at new pid ≡ Some after
  pub lives : after.status ≡ None
  pub carried : Carried p.space after.space (answer_for new.under_way pid) new.jobs
  pub keeps : (n : ℕ) → n < k.config.harts → may_keep new n pid ≡ true

pub carries-last : (k new : KernelState) → ((pid : ℕ) (p : Process) → process_at k pid ≡ Some p → p.status ≡ None → IsCalm k pid p)
    → ((pid : ℕ) (p : Process) → process_at k pid ≡ Some p → p.status ≡ None → Carries k new pid p) → Lasts k new each_hart
carries-last k new calm all = record {
  pages = λ n pid page frame called l s e x. (let c = all pid x.p x.is x.lives in let q = calm pid x.p x.is x.lives in record {
    p = c.after;
    is = c.is;
    lives = c.lives;
    goes_on = e;
    canonical = subst (λ top. is_canonical (suc top) page ≡ true) (sym c.carried.top) x.canonical;
    has = subst (λ top. HasPage new n pid c.after.space (number_of (suc top) page) frame) (sym c.carried.top)
        (page-lasts k new n pid x.p.space c.after.space (number_of (levels_of x.p.space.tables) page) frame q.none c.carried (c.keeps n l) x.has);
  });
  tables = λ n pid level page table l s x. (let c = all pid x.p x.is x.lives in let q = calm pid x.p x.is x.lives in record {
    p = c.after;
    is = c.is;
    lives = c.lives;
    has = subst (λ top. HasTable new n pid c.after.space level (number_of (suc top) page) table) (sym c.carried.top)
        (table-lasts k new n pid x.p.space c.after.space level (number_of (levels_of x.p.space.tables) page) table q.aside c.carried (c.keeps n l) x.has);
  });
}

-- one step after another
pub lasts-then : (k mid new : KernelState) → mid.config.harts ≡ k.config.harts → ((pid : ℕ) → ending mid.under_way ≡ Some pid → ⊥) → Lasts k mid each_hart → Lasts mid new each_hart → Lasts k new each_hart
lasts-then k mid new same none a b = record {
  pages = λ n pid page frame called l s e x. b.pages n pid page frame called (subst (λ h. n < h) (sym same) l) s e (a.pages n pid page frame called l s (λ h. absurd (none pid h)) x);
  tables = λ n pid level page table l s x. b.tables n pid level page table (subst (λ h. n < h) (sym same) l) s (a.tables n pid level page table l s x);
}
