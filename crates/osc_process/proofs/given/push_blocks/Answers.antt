-- One object more.
use Rattle.std.proofs.Common.{◌≡◌, ◌≤◌, ◌+◌, ◌∷◌, ◌++◌, [], ◌∙◌, arith, refl, ap, sym, take, length, get_or}
use Rattle.std.specs.Vec.{vec_len}
use Rattle.osc_space.specs.Header.{block_of}
use Rattle.osc_process.specs.Given.{blocks_of}
use Rattle.osc_process.proofs.Blocks.{one_more, none_more}
use Rattle.osc_process.proofs.given.push_blocks.Goals as goal
use Rattle.osc_process.proofs.given.push_blocks.Goals.{in-Some, in_default}

pub loop-object-preserved : goal.loop-object-preserved
loop-object-preserved c =
    let i = c.loop-object.invariant in
    elim c.match-fact_of.branch [
      | in-Some w ↦
          let more = one_more c.args.marks.now.objects c.args.objects.now c.loop-object.object-index (c.loop-object.object-index + 1) w.in-Some.fact (omega arith) (omega arith) (let e = w.in-Some.ensures in cc) in
          rw w.blocks-is (record {
            blocks = rw (w.push.ensures.items, w.unwrap.ensures) (ap (λ xs. xs ++ w.block_of.result ∷ []) i.blocks
                ∙ (ap (λ b. blocks_of c.args.marks.now.objects (take c.loop-object.object-index c.args.objects.now) ++ b ∷ []) w.block_of.ensures ∙ sym more));
            few = omega arith;
            capacity = omega arith;
          })
      | in_default w ↦
          let same = none_more c.args.marks.now.objects c.args.objects.now c.loop-object.object-index (c.loop-object.object-index + 1) (omega arith) (omega arith) (let e = w.in_default.ensures in cc) in
          rw w.blocks-is (record { blocks = i.blocks ∙ sym same; few = omega arith; capacity = i.capacity })
    ]
