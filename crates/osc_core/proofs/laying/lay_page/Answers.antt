-- The words of a page are those of its bytes.
use Rattle.osc_core.proofs.Puts.{lays_page}
use Rattle.osc_core.proofs.laying.lay_page.Goals as goal

pub returns-clause-laid : goal.returns-clause-laid
returns-clause-laid c =
    lays_page c.args.image.now c.args.page c.args.frame c.page_bytes.new.into c.args.words.now c.put_page.new.words c.page_bytes.ensures.each c.put_page.ensures
