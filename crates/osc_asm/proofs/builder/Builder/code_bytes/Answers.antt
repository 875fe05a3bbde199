use Rattle.std.proofs.Common.{◌∙◌, ap, subst, ◌≤◌, ◌++◌, length}
use Rattle.byteorder.specs.Endian.{little_bytes}
use Rattle.osc_rv.specs.Instr.{word_of}
use Rattle.osc_asm.proofs.Places.{code-next_of, code-end}
use Rattle.osc_asm.proofs.builder.Builder.code_bytes.Goals as goal

pub loop-index-preserved : goal.loop-index-preserved
loop-index-preserved c =
    code-next_of c.args.self.now c.loop-index.index _ c.args.self.now.code c.item-item.result c.loop-index.code.items _ _
    (c.deref-item-items.ensures.value ∙ ap (λ b. b.code) c.self.view_is) c.loop-index-test.true c.item-item.is
    (c.in_ok-push_word.ensures
    ∙ ap (λ word. c.loop-index.code.items ++ little_bytes 4 word) (c.encode.ensures.word ∙ ap word_of c.instr_at.ensures))
    c.loop-index.invariant

pub returns : goal.returns
returns c = code-end c.args.self.now c.loop-index.index c.args.self.now.code c.loop-index.code.items _
    (subst (λ xs. length xs ≤ c.loop-index.index) (c.deref-item-items.ensures.value ∙ ap (λ b. b.code) c.self.view_is)
    c.loop-index-test.false) c.loop-index.invariant
