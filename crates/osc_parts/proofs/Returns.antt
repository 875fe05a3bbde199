-- A call under way, until it returns.
use Rattle.std.proofs.Common.{ℕ, ◌≡◌, ap, sym, ◌∙◌, subst}
use Rattle.osc_word.specs.declared.settings.HeapKind.{HeapKind}
use Rattle.osc_paging.specs.JobWords.{words_after}
use Rattle.osc_paging.specs.Agree.{Agrees, AgreesAfter}
use Rattle.osc_space.specs.Space.{Draft, Closing}
use Rattle.osc_space.specs.Share.{Regions}
use Rattle.osc_space.specs.Finish.{finished}
use Rattle.osc_parts.specs.Frames.{Trades}
use Rattle.osc_parts.specs.Settled.{tables_of, PartsFit}
use Rattle.osc_parts.specs.PlanFits.{with_jobs}
use Rattle.osc_parts.specs.Returning.{Returning, PlansReturn, JobsLeave, ReturnsSettle, ReturnsKeepOthers}
use Rattle.osc_parts.proofs.Settling.{Unheld, unheld_after, settled_frames}
use Rattle.osc_parts.proofs.Giving.{agrees_fit}
use Rattle.osc_parts.proofs.Others.{apart_after, back_after, parts_beside}

pub plans_return : PlansReturn
plans_return kind batch entries words regions d o s p =
    let was : Unheld d.space regions d.free = record { free_ones = s.parts.agrees.shared.unheld; own_ones = s.parts.private } in
    let now = unheld_after d.space o.draft.space regions d.free o.draft.free was p.trades in
    record {
      frames = p.frames;
      private = now.own_ones;
      unheld = now.free_ones;
      held = p.held;
      same = p.same;
      gives = p.gives;
      parts = p.parts;
      agrees = p.agrees;
    }

pub jobs_leave : JobsLeave
jobs_leave kind batch entries regions closing jobs d r = record {
  frames = r.frames;
  private = r.private;
  unheld = r.unheld;
  held = r.held;
  same = λ js. r.same js ∙ ap (with_jobs js) (sym (r.same jobs));
  gives = subst (λ (x : Draft). Trades d.space d.free x.space x.free) (sym (r.same jobs)) r.gives;
  parts = subst (λ (x : Draft). PartsFit kind batch regions x.space x.free) (sym (r.same jobs)) r.parts;
  agrees = λ now js g. subst (λ (x : Draft). AgreesAfter entries now (tables_of (with_jobs js x))) (sym (r.same jobs)) (r.agrees now js g);
}

-- a return leaves the jobs
jobs_stay : (kind : HeapKind) (batch : ℕ) (entries : ℕ → ℕ → ℕ) (regions : Regions) (closing : Closing) (d : Draft) → Returning kind batch entries regions closing d → finished closing d ≡ with_jobs d.jobs (finished closing d)
jobs_stay kind batch entries regions closing d r = r.same d.jobs

pub returns_settle : ReturnsSettle
returns_settle kind batch entries words regions closing d r g = record {
  parts = r.parts;
  tables = subst (λ (x : Draft). AgreesAfter entries words (tables_of x)) (sym (jobs_stay kind batch entries regions closing d r)) (r.agrees words d.jobs g);
}

pub returns_keep_others : ReturnsKeepOthers
returns_keep_others kind other_kind batch other_batch entries words regions closing d other r b =
    let f = finished closing d in
    let theirs = settled_frames other_kind other regions d.free b.parts.agrees in
    let parts = parts_beside other_kind other_batch regions d.space f.space other d.free f.free (record { free_ones = r.unheld; own_ones = r.private }) b.apart b.parts r.gives in
    let jobs : f.jobs ≡ d.jobs = ap (λ (x : Draft). x.jobs) (jobs_stay kind batch entries regions closing d r) in
    record {
      parts = parts;
      apart = apart_after d.space f.space other d.free f.free r.frames b.apart theirs r.gives;
      apart_back = back_after d.space f.space other d.free f.free r.frames b.apart_back theirs r.gives;
      tables = subst (λ js. Agrees other.tables f.free (words_after entries js words)) (sym jobs)
          (agrees_fit other d.free f.free (words_after entries d.jobs words) b.tables r.gives.count (settled_frames other_kind other regions f.free parts.agrees));
    }
