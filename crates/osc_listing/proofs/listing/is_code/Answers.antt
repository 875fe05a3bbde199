use Rattle.std.proofs.Common.{sym, ◌∙◌}
use Rattle.osc_listing.proofs.Flags.{code_flag, no_flags}
use Rattle.osc_listing.proofs.listing.is_code.Goals as goal

pub returns-in-Some : goal.returns-in-Some
returns-in-Some c =
    c.contains.ensures tt ∙ code_flag c.args.image.now c.args.page c.in-Some.bits (sym c.page_bits.ensures ∙ c.in-Some.is)

pub returns-in-None : goal.returns-in-None
returns-in-None c = no_flags c.args.image.now c.args.page (sym c.page_bits.ensures ∙ c.in-None.is)
