-- A call leaves other processes' memories as they are.
use Rattle.std.proofs.Common.{ℕ, zero, suc, ◌+◌, ◌*◌, ◌≡◌, ◌≤◌, Bool, false, List, length, arith, refl, ap, sym, ◌∙◌, subst}
use Rattle.osc_word.specs.declared.settings.HeapKind.{HeapKind}
use Rattle.osc_word.specs.declared.job_list.Job.{Job}
use Rattle.osc_paging.specs.JobWords.{words_after}
use Rattle.osc_paging.specs.Agree.{Agrees}
use Rattle.osc_paging.specs.CopyLaws.{IsNoTable}
use Rattle.osc_paging.proofs.WordLists.{words_after-append}
use Rattle.osc_paging.proofs.Elsewhere.{jobs_elsewhere_keep}
use Rattle.osc_space.specs.Space.{Space}
use Rattle.osc_space.specs.Share.{Regions, shared_frames}
use Rattle.osc_space.specs.Finish.{finished}
use Rattle.osc_parts.specs.Frames.{among, vacant, frames_held, frames_mapped, FramesFit, Trades}
use Rattle.osc_parts.specs.Settled.{PartsFit}
use Rattle.osc_parts.specs.Jobs.{IsOwn, Pushed}
use Rattle.osc_parts.specs.OthersFit.{HoldsApart, PlansKeepOthers}
use Rattle.osc_parts.proofs.Counts.{among-append}
use Rattle.osc_parts.proofs.Trading.{held_is, held_once, held_taken, fits, there, shared_same, quiet_taken}
use Rattle.osc_parts.proofs.Settling.{Unheld, unheld_after, regions_after, settled_frames}
use Rattle.osc_parts.proofs.Blocks.{no_piece, all_weaker, all_elsewhere}
use Rattle.osc_parts.proofs.Giving.{agrees_fit}

-- ---- frames
mapped_is : (s : Space) (f : ℕ) → among f (frames_mapped s) ≡ among f (frames_held s) + among f (shared_frames s.tables)
mapped_is s f = among-append f (frames_held s) (shared_frames s.tables)

-- a frame is one of a memory's, or free, or neither
once : (s : Space) (free : List Bool) (f : ℕ) → FramesFit s free → among f (frames_mapped s) + vacant free f ≤ 1
once s free f k = let a = mapped_is s f in let b = held_once s free f k in omega (arith, a, b)

pub apart_after : (s t other : Space) (free after : List Bool) → FramesFit s free → HoldsApart s other → FramesFit other free → Trades s free t after → HoldsApart t other
apart_after s t other free after g h k d = λ f. go f (among f (frames_mapped other)) refl
  where
    go : (f : ℕ) → (x : ℕ) → among f (frames_mapped other) ≡ x → among f (frames_held t) + among f (frames_mapped other) ≤ 1
    go f zero e = let a = d.each f in let b = held_once s free f g in omega (arith, a, b, e)
    go f (suc x) e = let a = d.each f in let b = h f in let c = once other free f k in omega (arith, a, b, c, e)

pub back_after : (s t other : Space) (free after : List Bool) → FramesFit s free → HoldsApart other s → FramesFit other free → Trades s free t after → HoldsApart other t
back_after s t other free after g h k d = λ f. go f (among f (frames_held other)) refl
  where
    same : (f : ℕ) → among f (shared_frames t.tables) ≡ among f (shared_frames s.tables)
    same f = shared_same s t f d.shared

    go : (f : ℕ) → (x : ℕ) → among f (frames_held other) ≡ x → among f (frames_held other) + among f (frames_mapped t) ≤ 1
    go f zero e = let a = d.each f in let b = held_once s free f g in let u = mapped_is t f in let w = same f in omega (arith, a, b, e, u, w)
    go f (suc x) e = let a = d.each f in let b = h f in let c = held_once other free f k in let u = mapped_is t f in let v = mapped_is s f in let w = same f in omega (arith, a, b, c, e, u, v, w)

pub fit_beside : (s t other : Space) (free after : List Bool) → HoldsApart s other → FramesFit other free → Trades s free t after → FramesFit other after
fit_beside s t other free after h k d = fits other after
    (λ f. (let a = held_once other free f k in omega (arith, a)))
    (λ f l. there free after f false (held_taken other free f k l) d.count
    (let a = d.each f in let b = h f in let c = mapped_is other f in let e = held_once other free f k in omega (arith, a, b, c, e, l)))

-- ---- the parts
pub parts_beside : (kind : HeapKind) (batch : ℕ) (regions : Regions) (s t other : Space) (free after : List Bool)
    → Unheld s regions free → HoldsApart s other → PartsFit kind batch regions other free → Trades s free t after → PartsFit kind batch regions other after
parts_beside kind batch regions s t other free after u h p d =
    let was = p.agrees in
    let fit = fit_beside s t other free after h (settled_frames kind other regions free was) d in
    let l = d.count in
    record {
      agrees = record {
        frames = was.frames ∙ sym l;
        count = was.count ∙ sym l;
        room = was.room ∙ ap (λ n. n + other.shadows) (sym l);
        root = was.root;
        aside = was.aside;
        heap = was.heap;
        shared = regions_after other.tables other.tables regions free after was.shared refl l (unheld_after s t regions free after u d).free_ones;
        ranges = was.ranges;
        apart = was.apart;
        taken = quiet_taken other after was.aside fit;
      };
      heap = p.heap;
      levels = p.levels;
      shadows = p.shadows;
      few = p.few;
      waits = p.waits;
      private = p.private;
    }

-- ---- the words
no_table_of : (s other : Space) (f : ℕ) → HoldsApart s other → IsOwn s f → IsNoTable other.tables f
no_table_of s other f h l =
    let a = h f in let b = mapped_is other f in let c = held_is f other in
    (no_piece f other.tables.tables (omega (arith, a, b, c, l)), no_piece f other.tables.aside (omega (arith, a, b, c, l)))

pub words_beside : (entries : ℕ → ℕ → ℕ) (words : List ℕ) (s other : Space) (free after : List Bool) (jobs now : List Job) (most : ℕ)
    → HoldsApart s other → Pushed (IsOwn s) jobs now most → Agrees other.tables free (words_after entries jobs words) → length after ≡ length free → FramesFit other after
    → Agrees other.tables after (words_after entries now words)
words_beside entries words s other free after jobs now most h p g l k =
    subst (λ (js : List Job). Agrees other.tables after (words_after entries js words)) (sym p.is)
    (subst (λ (ws : List ℕ). Agrees other.tables after ws) (sym (words_after-append entries jobs p.more words))
    (agrees_fit other free after (words_after entries p.more (words_after entries jobs words))
    (jobs_elsewhere_keep entries other.tables free (words_after entries jobs words) p.more g
    (all_elsewhere other.tables p.more (all_weaker (IsOwn s) (IsNoTable other.tables) p.more (λ f m. no_table_of s other f h m) p.within)))
    l k))

-- ---- the whole
pub plans_keep_others : PlansKeepOthers
plans_keep_others kind other_kind batch other_batch entries words regions d o other s p b =
    let f = finished o.closing o.draft in
    let was = settled_frames kind d.space regions d.free s.parts.agrees in
    let theirs = settled_frames other_kind other regions d.free b.parts.agrees in
    let unheld : Unheld d.space regions d.free = record { free_ones = s.parts.agrees.shared.unheld; own_ones = s.parts.private } in
    let apart = apart_after d.space o.draft.space other d.free o.draft.free was b.apart theirs p.trades in
    let back = back_after d.space o.draft.space other d.free o.draft.free was b.apart_back theirs p.trades in
    let parts = parts_beside other_kind other_batch regions d.space o.draft.space other d.free o.draft.free unheld b.apart b.parts p.trades in
    let now = settled_frames other_kind other regions o.draft.free parts.agrees in
    let last = parts_beside other_kind other_batch regions o.draft.space f.space other o.draft.free f.free (unheld_after d.space o.draft.space regions d.free o.draft.free unheld p.trades) apart parts p.gives in
    record {
      planned = record {
        parts = parts;
        apart = apart;
        apart_back = back;
        tables = words_beside entries words o.draft.space other d.free o.draft.free d.jobs o.draft.jobs (8 * length d.free + 64) apart p.pushes b.tables p.trades.count now;
      };
      parts = last;
      apart = apart_after o.draft.space f.space other o.draft.free f.free p.frames apart now p.gives;
      apart_back = back_after o.draft.space f.space other o.draft.free f.free p.frames back now p.gives;
      agrees = λ words jobs g. agrees_fit other o.draft.free f.free (words_after entries jobs words) g p.gives.count (settled_frames other_kind other regions f.free last.agrees);
    }
