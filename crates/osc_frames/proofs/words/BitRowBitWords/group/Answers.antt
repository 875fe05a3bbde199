use Rattle.std.proofs.Common.{ℕ, ◌+◌, ◌*◌, Bool, List, ap, ◌∙◌, arith}
use Rattle.std.specs.Int.{bit_at}
use Rattle.std.proofs.lemmas.List.{get_or_read}
use Rattle.osc_frames.specs.Words.{digit}
use Rattle.osc_frames.specs.Words.{is_in}
use Rattle.osc_frames.proofs.Rows.{group_of_row}
use Rattle.osc_frames.proofs.words.BitRowBitWords.group.Goals as goal

pub returns-clause-bits : goal.returns-clause-bits
returns-clause-bits g c = λ j l.
    let row = c.self.inside in
    let words = c.self.invariant.words in
    let read = get_or_read row.groups.items _ _ (omega (arith, c.requires)) c.index.ensures 0 in
    let known = group_of_row c.self.invariant c.args.i j l in
    ap (λ (w : ℕ). bit_at w j) read ∙ known ∙ ap (λ (ns : List Bool). digit (is_in ns (64 * c.args.i + j))) c.self.view_is
