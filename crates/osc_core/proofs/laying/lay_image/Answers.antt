-- One more page, and the end.
use Rattle.std.proofs.Common.{ℕ, ◌≡◌, ◌+◌, ◌≤◌, ◌∙◌, Some, get_or, slice_get, length, ap, sym, subst, arith}
use Rattle.osc_sv39.specs.declared.flags.PteBits.{PteBits}
use Rattle.osc_calls.specs.Open.{open_page}
use Rattle.osc_open.specs.Laying.{pages_of}
use Rattle.osc_core.proofs.Images.{LaysSome, none_laid, all_laid, after_some, after_none, length_pages, page_at}
use Rattle.osc_core.proofs.laying.lay_image.Goals as goal
use Rattle.osc_core.proofs.laying.lay_image.Goals.{in-Some, in_default}

pub loop-page-init : goal.loop-page-init
loop-page-init c = record { room = c.requires.room; laid = λ t free can. none_laid c.args.image.now t free (pages_of c.args.pages.now) c.args.words.now can.agrees }

pub loop-page-preserved : goal.loop-page-preserved
loop-page-preserved c =
    let ps = c.args.pages.now in
    let n = c.loop-page.page-index in
    let p : ℕ × PteBits = get_or ps n (0, record { 0 = 0 }) in
    let this : slice_get (pages_of ps) n ≡ Some (open_page p.0 p.1) = page_at ps n (0, record { 0 = 0 }) c.loop-page-test.true in
    elim c.match-frame_of.branch [
      | in-Some w ↦ record {
        room = ap length w.bytes-is ∙ w.lay_page.ensures.room;
        laid = λ t free can. subst (λ ws. LaysSome c.args.image.now t free (n + 1) (pages_of ps) c.args.words.now ws) (sym w.words-is)
            (after_some c.args.image.now t free c.args.root c.args.levels (pages_of ps) c.args.words.now c.loop-page.words can n c.requires.levels (c.loop-page.invariant.laid t free can) p.0 p.1 this
            w.in-Some.frame w.lay_page.new.words (sym c.frame_of.ensures ∙ w.in-Some.is) w.lay_page.ensures.laid);
      }
      | in_default w ↦ record {
        room = ap length w.bytes-is ∙ c.loop-page.invariant.room;
        laid = λ t free can. subst (λ ws. LaysSome c.args.image.now t free (n + 1) (pages_of ps) c.args.words.now ws) (sym w.words-is)
            (after_none c.args.image.now t free c.args.root c.args.levels (pages_of ps) c.args.words.now c.loop-page.words can n c.requires.levels (c.loop-page.invariant.laid t free can) p.0 p.1 this
            (sym c.frame_of.ensures ∙ w.in_default.is));
      }
    ]

pub returns : goal.returns
returns c = λ t free can.
    all_laid c.args.image.now t free c.loop-page.page-index (pages_of c.args.pages.now) c.args.words.now c.loop-page.words
    (let l = length_pages c.args.pages.now in let t : length c.args.pages.now ≤ c.loop-page.page-index = omega arith in omega (arith, l, t)) (c.loop-page.invariant.laid t free can)
