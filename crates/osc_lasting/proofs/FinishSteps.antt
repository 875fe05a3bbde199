-- A call that returns leaves what each hart relies on: after a flush only what is kept is relied on, and else
-- what goes waits still.
use Rattle.std.proofs.Common.{ℕ, suc, ◌≡◌, ◌≢◌, ◌<◌, ◌==◌, not, nat_lt, ◌&&◌, ◌||◌, if◌then◌else◌, Bool, true, false, Option, Some, None, List, [], ◌∷◌, slice_get, arith, refl, sym, ap, subst, ◌∙◌}
use Rattle.std.specs.List.{list_any}
use Rattle.std.proofs.lemmas.Bool.Decides.{nat_tests}
use Rattle.osc_word.specs.declared.calls.Answer.{Answer}
use Rattle.osc_word.specs.declared.calls.Answer.TheVariants.{Nothing}
use Rattle.osc_sv39.specs.Walk.{piece, is_canonical, number_of}
use Rattle.osc_slot.specs.declared.Block.{Block}
use Rattle.osc_paging.specs.KeptTables.{KeptTables, levels_of, mapping_at, frame_of}
use Rattle.osc_space.specs.Space.{Space, Draft, Closing, Keeps, GivesBack}
use Rattle.osc_space.specs.Finish.{give_blocks, finished}
use Rattle.osc_space.specs.Agree.{is_waiting}
use Rattle.osc_calls.specs.declared.HartRecord.{HartRecord}
use Rattle.osc_calls.specs.Kernel.{KernelState, Process, Committed, Effect, Nothing as NoEffect, Clears, Starts, Ends, UnderWay, Quiet, Retrying, Leaving, Waiting, Returning, process_at}
use Rattle.osc_calls.specs.Refusals.{draft_of}
use Rattle.osc_calls.specs.Finish.{hart_left, settled, returned, finish_by, finish}
use Rattle.osc_settled.specs.Records.{is_living, ends_by, ending}
use Rattle.osc_settled.specs.UnderWay.{UnderWayFits}
use Rattle.osc_settled.proofs.Lists.{get-put_same, get-put_other}
use Rattle.osc_showing.specs.Showing.{is_closed, clears}
use Rattle.osc_showing.specs.PlanTurns.{cleared_by}
use Rattle.osc_caches.specs.Going.{replaces, GoingPage}
use Rattle.osc_relying.specs.Relying.{answer_for, flushes, may_keep, HasPage, Kept, Goes, HasTable, Made, Aside}
use Rattle.osc_blocks.specs.Replacing.{ReplacesAtFlush}
use Rattle.osc_lasting.specs.Lasting.{LastsReturned, FinishesLast}

-- ---- what a return leaves of one process
record Left (k new : KernelState) (n pid : ℕ) (p : Process) : Type 0 where
  after : Process
  is : process_at new pid ≡ Some after
  lives : after.status ≡ None
  top : after.space.tables.top ≡ p.space.tables.top
  pages : (number frame : ℕ) → HasPage k n pid p.space number frame → HasPage new n pid after.space number frame
  tables : (level number table : ℕ) → HasTable k n pid p.space level number table → HasTable new n pid after.space level number table

no-box : (ends : Option ℕ) (pid : ℕ) → (ends ≡ Some pid → false ≡ true) → ends ≡ Some pid → ⊥
no-box ends pid h e = let z = h e in grind (arith, z)

left-last : (k new : KernelState) → new.under_way ≡ Quiet → ((n pid : ℕ) (p : Process) → n < k.config.harts → process_at k pid ≡ Some p → p.status ≡ None → (ending k.under_way ≡ Some pid → ⊥) → Left k new n pid p) → LastsReturned k new
left-last k new quiet all = record {
  pages = λ n pid page frame l x. (let c = all n pid x.p l x.is x.lives (no-box (ending k.under_way) pid x.goes_on) in record {
    p = c.after;
    is = c.is;
    lives = c.lives;
    goes_on = λ e. absurd (let z : ending Quiet ≡ Some pid = ap ending (sym quiet) ∙ e in let b : ⊥ = grind (arith, z) in b);
    canonical = subst (λ top. is_canonical (suc top) page ≡ true) (sym c.top) x.canonical;
    has = subst (λ top. HasPage new n pid c.after.space (number_of (suc top) page) frame) (sym c.top) (c.pages (number_of (levels_of x.p.space.tables) page) frame x.has);
  });
  tables = λ n pid level page table l alive x. (let c = all n pid x.p l x.is x.lives alive in record {
    p = c.after;
    is = c.is;
    lives = c.lives;
    has = subst (λ top. HasTable new n pid c.after.space level (number_of (suc top) page) table) (sym c.top) (c.tables level (number_of (levels_of x.p.space.tables) page) table x.has);
  });
}

-- ---- nothing that was relied on is dropped: pages of objects that wait go still
record IsQuiet (new : KernelState) : Type 0 where
  under_way : new.under_way ≡ Quiet
  jobs : new.jobs ≡ []

none-for : (new : KernelState) (pid : ℕ) → IsQuiet new → answer_for new.under_way pid ≡ Nothing
none-for new pid q = ap (λ u. answer_for u pid) q.under_way

keeps-all : (new : KernelState) (n pid : ℕ) → IsQuiet new → may_keep new n pid ≡ true
keeps-all new n pid q = ap (λ u. not (flushes new.config.harts u pid) || list_any (clears n) new.jobs) q.under_way

-- with no job no table is closed
none-closed : (new : KernelState) (frame : ℕ) → IsQuiet new → is_closed new.jobs frame ≡ false
none-closed new frame q = ap (λ js. is_closed js frame) q.jobs

-- what goes was not replaced: it waits
abbrev ReplacesNone : Answer → Type 0
ReplacesNone answer = (object : ℕ) → replaces answer object ≡ false

still-goes : (s : Space) (answer : Answer) (number frame : ℕ) → ReplacesNone answer → GoingPage s answer number frame → GoingPage s Nothing number frame
still-goes s answer number frame w g = record { object = g.object; o = g.o; is = g.is; has = g.has; goes = waits (is_waiting s g.object) (replaces answer g.object) (w g.object) g.goes; at = g.at }
  where
    waits : (a b : Bool) → b ≡ false → (a || b) ≡ true → (a || false) ≡ true
    waits a b e h = grind (arith, e, h)

same-left : (k new : KernelState) (n pid : ℕ) (p : Process) → IsQuiet new → ReplacesNone (answer_for k.under_way pid) → process_at new pid ≡ Some p → p.status ≡ None → Left k new n pid p
same-left k new n pid p q w there lives = record { after = p; is = there; lives = lives; top = refl; pages = page; tables = table }
  where
    page : (number frame : ℕ) → HasPage k n pid p.space number frame → HasPage new n pid p.space number frame
    page number frame (Kept m e f) = Kept m e f
    page number frame (Goes g may) = Goes (subst (λ a. GoingPage p.space a number frame) (sym (none-for new pid q)) (still-goes p.space (answer_for k.under_way pid) number frame w g)) (keeps-all new n pid q)

    table : (level number frame : ℕ) → HasTable k n pid p.space level number frame → HasTable new n pid p.space level number frame
    table level number frame (Made e made) = Made e (none-closed new frame q)
    table level number frame (Aside l e made may) = Aside l e (none-closed new frame q) (keeps-all new n pid q)

-- ---- after a flush only what is kept was relied on
record SameTables (t u : KeptTables) : Type 0 where
  top : u.top ≡ t.top
  pages : u.pages ≡ t.pages
  tables : u.tables ≡ t.tables

flushed-left : (k new : KernelState) (n pid : ℕ) (p after : Process) → IsQuiet new → (may_keep k n pid ≡ true → ⊥) → SameTables p.space.tables after.space.tables → process_at new pid ≡ Some after → after.status ≡ None → Left k new n pid p
flushed-left k new n pid p after q none same there lives = record { after = after; is = there; lives = lives; top = same.top; pages = page; tables = table }
  where
    page : (number frame : ℕ) → HasPage k n pid p.space number frame → HasPage new n pid after.space number frame
    page number frame (Kept m e f) = Kept m (ap (λ ps. mapping_at ps number) same.pages ∙ e) f
    page number frame (Goes g may) = absurd (none may)

    table : (level number frame : ℕ) → HasTable k n pid p.space level number frame → HasTable new n pid after.space level number frame
    table level number frame (Made e made) = Made (ap (λ ts. frame_of ts level (piece (suc level) number)) same.tables ∙ e) (none-closed new frame q)
    table level number frame (Aside l e made may) = absurd (none may)

-- ---- what a call gives back
blocks-same : (blocks : List Block) (d : Draft) → ((give_blocks blocks d).space.tables ≡ d.space.tables) × ((give_blocks blocks d).jobs ≡ d.jobs)
blocks-same [] d = (refl, refl)
blocks-same (block ∷ blocks) d = blocks-same blocks _

record Gives (d e : Draft) : Type 0 where
  tables : SameTables d.space.tables e.space.tables
  jobs : e.jobs ≡ d.jobs

finished-gives : (closing : Closing) (d : Draft) → Gives d (finished closing d)
unfolding finished
finished-gives Keeps d = record { tables = record { top = refl; pages = refl; tables = refl }; jobs = refl }
finished-gives (GivesBack blocks) d =
    let b = blocks-same blocks d in
    record { tables = record { top = ap (λ (t : KeptTables). t.top) b.0; pages = ap (λ (t : KeptTables). t.pages) b.0; tables = ap (λ (t : KeptTables). t.tables) b.0 }; jobs = b.1 }

-- no cache is to be cleared any more
none-kept : (k : KernelState) (done : Committed) (blocks : List Block) (n pid : ℕ) → k.under_way ≡ Returning done → done.closing ≡ GivesBack blocks → k.jobs ≡ [] → (done.calling.pid == pid) ≡ true → n < k.config.harts
    → may_keep k n pid ≡ true → ⊥
none-kept k done blocks n pid u closing none own l may =
    let now : (not (flushes k.config.harts (Returning done) pid) || list_any (clears n) []) ≡ true =
    subst (λ js. (not (flushes k.config.harts (Returning done) pid) || list_any (clears n) js) ≡ true) none
    (subst (λ x. (not (flushes k.config.harts x pid) || list_any (clears n) k.jobs) ≡ true) u may) in
    let due : (not ((done.calling.pid == pid) && nat_lt 0 k.config.harts) || false) ≡ true = subst (λ c. (not ((done.calling.pid == pid) && nat_lt 0 (cleared_by k.config.harts c)) || false) ≡ true) closing now in
    grind (arith, nat_tests, due, own, l)

-- ---- the process of the call
none-replaced : (k : KernelState) (u : UnderWay) (pid : ℕ) → k.under_way ≡ u → answer_for u pid ≡ Nothing → ReplacesNone (answer_for k.under_way pid)
none-replaced k u pid e none object = ap (λ x. replaces (answer_for x pid) object) e ∙ ap (λ a. replaces a object) none

own-replaced : (k : KernelState) (done : Committed) (pid : ℕ) → k.under_way ≡ Returning done → (done.calling.pid == pid) ≡ true → done.closing ≡ Keeps → ReplacesAtFlush k → ReplacesNone (answer_for k.under_way pid)
own-replaced k done pid e own keeps flushed object =
    ap (λ x. replaces (answer_for x pid) object) e ∙ ap (λ b. replaces (if b then done.answer else Nothing) object) own ∙ flushed done object e keeps

abbrev gave : KernelState → Committed → Process → Process
gave k done p = record p { space = (finished done.closing (draft_of k p)).space }

own-left : (k new : KernelState) (done : Committed) (n pid : ℕ) (p : Process) → ReplacesAtFlush k → k.jobs ≡ [] → k.under_way ≡ Returning done → IsQuiet new → n < k.config.harts → (done.calling.pid == pid) ≡ true → p.status ≡ None
    → process_at new pid ≡ Some (gave k done p) → (closing : Closing) → done.closing ≡ closing → Left k new n pid p
unfolding finished
own-left k new done n pid p flushed none u q l own lives there Keeps c =
    same-left k new n pid p q (own-replaced k done pid u own c flushed) (there ∙ ap (λ (z : Closing). Some (record p { space = (finished z (draft_of k p)).space })) c) lives
own-left k new done n pid p flushed none u q l own lives there (GivesBack blocks) c =
    flushed-left k new n pid p (gave k done p) q (none-kept k done blocks n pid u c none own l) (finished-gives done.closing (draft_of k p)).tables there lives

-- ---- a call that returns
record Returned (k new : KernelState) (done : Committed) (caller : Process) : Type 0 where
  quiet : IsQuiet new
  own : (ending (Returning done) ≡ Some done.calling.pid → ⊥) → process_at new done.calling.pid ≡ Some (gave k done caller)
  others : (pid : ℕ) → done.calling.pid ≢ pid → process_at new pid ≡ process_at k pid

returned-last : (k new : KernelState) (done : Committed) (caller : Process) → ReplacesAtFlush k → k.jobs ≡ [] → k.under_way ≡ Returning done → process_at k done.calling.pid ≡ Some caller → Returned k new done caller → LastsReturned k new
returned-last k new done caller flushed none u here r = left-last k new (let q = r.quiet in q.under_way) (λ n pid p l at lives alive. go n pid p l at lives alive (done.calling.pid == pid) refl)
  where
    go : (n pid : ℕ) (p : Process) → n < k.config.harts → process_at k pid ≡ Some p → p.status ≡ None → (ending k.under_way ≡ Some pid → ⊥) → (b : Bool) → (done.calling.pid == pid) ≡ b → Left k new n pid p
    go n pid p l at lives alive true d =
        let own : done.calling.pid ≡ pid = grind (arith, nat_tests, d) in
        let same : caller ≡ p = (let f : Some caller ≡ Some p = sym here ∙ ap (λ z. process_at k z) own ∙ at in cc) in
        let there : process_at new pid ≡ Some (gave k done p) =
        subst (λ z. process_at new z ≡ Some (gave k done p)) own (subst (λ (z : Process). process_at new done.calling.pid ≡ Some (gave k done z)) same
        (r.own (λ e. alive (ap ending u ∙ subst (λ z. ending (Returning done) ≡ Some z) own e)))) in
        own-left k new done n pid p flushed none u r.quiet l d lives there done.closing refl
    go n pid p l at lives alive false d =
        let other : done.calling.pid ≢ pid = grind (arith, nat_tests, d) in
        same-left k new n pid p r.quiet (none-replaced k (Returning done) pid u (ap (λ b. if b then done.answer else Nothing) d)) (r.others pid other ∙ at) lives

settled-returned : (k : KernelState) (done : Committed) (p : Process) (effect : Effect) → k.jobs ≡ [] → process_at k done.calling.pid ≡ Some p → done.effect ≡ effect → Returned k (record (settled done p effect k) { under_way = Quiet }) done p
settled-returned k done p (Ends status) none here e = record {
  quiet = record { under_way = refl; jobs = none };
  own = λ alive. absurd (alive (ap (ends_by done.calling.pid) e));
  others = λ pid n. get-put_other k.processes done.calling.pid pid _ n;
}
settled-returned k done p NoEffect none here e = record {
  quiet = record { under_way = refl; jobs = (finished-gives done.closing (draft_of k p)).jobs ∙ none };
  own = λ alive. get-put_same k.processes done.calling.pid p (gave k done p) here;
  others = λ pid n. get-put_other k.processes done.calling.pid pid (gave k done p) n;
}
settled-returned k done p Clears none here e = record {
  quiet = record { under_way = refl; jobs = (finished-gives done.closing (draft_of k p)).jobs ∙ none };
  own = λ alive. get-put_same k.processes done.calling.pid p (gave k done p) here;
  others = λ pid n. get-put_other k.processes done.calling.pid pid (gave k done p) n;
}
settled-returned k done p (Starts hart start) none here e = record {
  quiet = record { under_way = refl; jobs = (finished-gives done.closing (draft_of k p)).jobs ∙ none };
  own = λ alive. get-put_same k.processes done.calling.pid p (gave k done p) here;
  others = λ pid n. get-put_other k.processes done.calling.pid pid (gave k done p) n;
}

-- ---- no call was committed
uncommitted-last : (k new : KernelState) (u : UnderWay) → k.under_way ≡ u → ((pid : ℕ) → answer_for u pid ≡ Nothing) → IsQuiet new → new.processes ≡ k.processes → LastsReturned k new
uncommitted-last k new u e none q same = left-last k new q.under_way (λ n pid p l at lives alive.
    same-left k new n pid p q (none-replaced k u pid e (none pid)) (ap (λ ps. slice_get ps pid) same ∙ at) lives)

by-process : (k : KernelState) (done : Committed) (o : Option Process) → ReplacesAtFlush k → k.jobs ≡ [] → k.under_way ≡ Returning done → is_living (process_at k done.calling.pid) ≡ true → process_at k done.calling.pid ≡ o → LastsReturned k (returned done o k).kernel
by-process k done None flushed none u lives e = absurd (let z = sym lives ∙ ap is_living e in let b : ⊥ = grind (arith, z) in b)
by-process k done (Some p) flushed none u lives e = returned-last k (returned done (Some p) k).kernel done p flushed none u e (settled-returned k done p done.effect none e refl)

left-by : (k : KernelState) (hart : ℕ) (o : Option HartRecord) → k.jobs ≡ [] → k.under_way ≡ Leaving hart → LastsReturned k (record (hart_left hart o k) { under_way = Quiet })
left-by k hart None none e = uncommitted-last k (record k { under_way = Quiet }) (Leaving hart) e (λ pid. refl) (record { under_way = refl; jobs = none }) refl
left-by k hart (Some kept) none e = uncommitted-last k (record (hart_left hart (Some kept) k) { under_way = Quiet }) (Leaving hart) e (λ pid. refl) (record { under_way = refl; jobs = none }) refl

pub finishes_last : FinishesLast
unfolding finish
finishes_last words k fits levels oscar flushed none = go k.under_way refl
  where
    go : (u : UnderWay) → k.under_way ≡ u → LastsReturned k (finish_by u k).kernel
    go (Returning done) e = (let r : UnderWayFits k (Returning done) = subst (UnderWayFits k) e fits.under_way in by-process k done (process_at k done.calling.pid) flushed none e r.lives refl)
    go (Leaving hart) e = left-by k hart (slice_get k.records hart) none e
    go Quiet e = uncommitted-last k (record k { under_way = Quiet }) Quiet e (λ pid. refl) (record { under_way = refl; jobs = none }) refl
    go Retrying e = uncommitted-last k (record k { under_way = Quiet }) Retrying e (λ pid. refl) (record { under_way = refl; jobs = none }) refl
    go (Waiting c) e = uncommitted-last k (record k { under_way = Quiet }) (Waiting c) e (λ pid. refl) (record { under_way = refl; jobs = none }) refl
