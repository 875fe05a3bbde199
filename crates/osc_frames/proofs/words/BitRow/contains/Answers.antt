use Rattle.std.proofs.Common.{ℕ, ◌%◌, ◌==◌, Some, sym, ap, ◌∙◌, arith}
use Rattle.std.specs.Int.{bit_at}
use Rattle.std.proofs.lemmas.List.{get_or_read}
use Rattle.std.proofs.lemmas.Nat.Bits.{shr_and_one}
use Rattle.osc_frames.proofs.Rows.{place_in, told_row}
use Rattle.osc_frames.proofs.words.BitRow.contains.Goals as goal

pub index-requires : goal.index-requires
index-requires c =
    let at = place_in c.self.invariant c.args.self.now c.args.i c.self.view_is c.requires in
    let words = c.self.invariant.words in
    omega (arith, c.self.inside.groups.ok.0, at.1)

pub returns : goal.returns
returns c =
    let at = place_in c.self.invariant c.args.self.now c.args.i c.self.view_is c.requires in
    let words = c.self.invariant.words in
    let read = get_or_read c.self.inside.groups.items _ _ (omega (arith, at.1)) c.index.ensures 0 in
    let told = told_row c.self.invariant c.args.self.now c.args.i c.self.view_is c.requires in
    told ∙ ap (λ (w : ℕ). Some (bit_at w (c.args.i % 64) == 1)) (sym read) ∙ ap (λ (b : ℕ). Some (b == 1)) (sym (shr_and_one c.index.result.now (c.args.i % 64)))
