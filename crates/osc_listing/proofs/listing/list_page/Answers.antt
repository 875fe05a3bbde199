use Rattle.std.proofs.Common.{◌+◌, ◌*◌, ◌<◌, ◌++◌, ap, ◌∙◌, arith}
use Rattle.osc_listing.specs.Listing.{first_lines}
use Rattle.osc_listing.proofs.Lines.{word-shown, line-next, lines-none}
use Rattle.osc_listing.proofs.listing.list_page.Goals as goal

pub loop-index-init : goal.loop-index-init
loop-index-init c = lines-none _ _ _

pub loop-index-preserved : goal.loop-index-preserved
loop-index-preserved c =
    let l = c.loop-index in
    let inside : 4 * l.index + 3 < 4096 = omega (arith, c.loop-index-test.true) in
    line-next c.args.image.now c.args.page l.index _ _ _ _ _ l.invariant (omega arith)
    (c.word_in.ensures ∙ word-shown c.args.image.now c.args.page (4 * l.index) _ inside c.page_bytes.ensures.each)
    c.in_ok-append_line.ensures

pub returns : goal.returns
returns c =
    c.loop-index.invariant
    ∙ ap (λ index. c.args.text.now.items ++ first_lines c.args.image.now c.args.page index)
    (omega (arith, c.loop-index.auto, c.loop-index-test.false))
