use Rattle.std.proofs.Common.{◌/◌, ◌<◌, Bool, List, length, set, ap, ◌∙◌, arith}
use Rattle.std.proofs.lemmas.List.{get_or_read}
use Rattle.osc_frames.proofs.Rows.{place_in, written, numbers_written, row_written}
use Rattle.osc_frames.proofs.words.BitRow.set.Goals as goal

pub index-requires : goal.index-requires
index-requires c =
    let at = place_in c.self.invariant c.args.self.now c.args.i c.self.view_is c.requires in
    let words = c.self.invariant.words in
    omega (arith, c.self.inside.groups.ok.0, at.1)

pub index_mut-requires : goal.index_mut-requires
index_mut-requires c =
    let at = place_in c.self.invariant c.args.self.now c.args.i c.self.view_is c.requires in
    let words = c.self.invariant.words in
    omega (arith, c.self.inside.groups.ok.0, at.1)

pub with_bit-self-inside-requires : goal.with_bit-self-inside-requires
with_bit-self-inside-requires c = (place_in c.self.invariant c.args.self.now c.args.i c.self.view_is c.requires).1

pub invariant_of-self : goal.invariant_of-self
invariant_of-self c =
    let at = place_in c.self.invariant c.args.self.now c.args.i c.self.view_is c.requires in
    let words = c.self.invariant.words in
    let within : c.args.i / 64 < length c.self.inside.groups.items = omega (arith, at.1) in
    let read = get_or_read c.self.inside.groups.items _ _ within c.index.ensures 0 in
    let new = written c.self.inside.groups.items c.args.i c.index.result.now c.with_bit-word.result c.args.value within read c.with_bit-word.ensures in
    row_written c.self.invariant c.args.i c.with_bit-word.result c.with_bit-self-inside.result c.args.value new at.0 c.with_bit-word.type_inv c.with_bit-self-inside.ensures

pub returns : goal.returns
returns c =
    let at = place_in c.self.invariant c.args.self.now c.args.i c.self.view_is c.requires in
    let words = c.self.invariant.words in
    let within : c.args.i / 64 < length c.self.inside.groups.items = omega (arith, at.1) in
    let read = get_or_read c.self.inside.groups.items _ _ within c.index.ensures 0 in
    let new = written c.self.inside.groups.items c.args.i c.index.result.now c.with_bit-word.result c.args.value within read c.with_bit-word.ensures in
    numbers_written c.self.inside.groups.items c.self.inside.count c.args.i c.with_bit-word.result c.args.value new at.0 ∙ ap (λ (ns : List Bool). set ns c.args.i c.args.value) c.self.view_is
