use Rattle.osc_listing.proofs.Lines.{line-pieces}
use Rattle.osc_listing.proofs.listing.write_line.Goals as goal

pub returns : goal.returns
returns c =
    line-pieces c.args.address c.args.word _ _ _ _ _ c.clear.ensures c.hexadecimal.ensures.after c.text.ensures.after c.append_word.ensures.after
    c.text-2.ensures.after
