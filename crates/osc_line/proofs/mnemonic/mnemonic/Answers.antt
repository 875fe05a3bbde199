use Rattle.std.proofs.Common.{refl}
use Rattle.osc_line.proofs.Unnamed.{named_by_kind}
use Rattle.osc_line.proofs.mnemonic.mnemonic.Goals as goal

pub returns : goal.returns
returns c =
    named_by_kind c.args.name.now c.atomic.result (record {
      upper = c.in_default-upper_op.ensures;
      branch = c.in_default-branch_kind.ensures;
      load = c.in_default-load_kind.ensures;
      store = c.in_default-store_kind.ensures;
      imm = c.in_default-imm_op.ensures;
      shift = c.in_default-shift_op.ensures;
      shift_w = c.in_default-shift_w_op.ensures;
      reg = c.in_default.ensures;
      mul = c.in_default-mul_op.ensures;
    }) (c.in_default-single.ensures.missing refl) c.atomic.ensures.found c.atomic.ensures.missing
