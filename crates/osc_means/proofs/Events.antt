-- Instructions and events are alike in both runs.
use Rattle.std.proofs.Common.{ℕ, zero, suc, ◌≡◌, ◌≢◌, ◌<◌, ◌≤◌, ◌==◌, ◌+◌, ◌-◌, ◌*◌, ◌%◌, ◌^◌, Bool, true, false, cond, List, [], ◌∷◌, Option, Some, None, option_map, Result, Ok, Err, arith, refl, ap, sym, subst, ◌∙◌, slice_get, length, map, unwrap_or}
use Rattle.std.proofs.lemmas.Bool.Decides.{nat_tests}
use Rattle.std.proofs.lemmas.Option.{slice_get-map, slice_get_within}
use Rattle.std.specs.Option.{option_and_then}
use Rattle.osc_word.specs.Registers.{register}
use Rattle.osc_word.specs.declared.steps.Choice.{Choice}
use Rattle.osc_word.specs.declared.steps.Event.{Event}
use Rattle.osc_sv39.specs.declared.entries.Access.TheVariants as access
use Rattle.osc_rv.specs.Instr.{instr_of}
use Rattle.osc_rv.specs.declared.instr.Instr.{Instr}
use Rattle.osc_rv.specs.declared.instr.Instr.TheVariants as instr
use Rattle.osc_rv.specs.declared.instr.UpperOp.TheVariants.{Lui, Auipc}
use Rattle.osc_isa.specs.Numbers.{wrapped, extended}
use Rattle.osc_isa.specs.declared.IntDone.TheVariants as done
use Rattle.osc_isa.specs.Integer.{next, operate, op_of_imm, op_of_shift, op_of_shift_w, is_taken, load_width, store_width, without_bit_0, jumped, branched}
use Rattle.osc_isa.specs.Multiply.{muldiv}
use Rattle.osc_isa.specs.Atomic.{width_of}
use Rattle.osc_world.specs.declared.Value.{Value}
use Rattle.osc_world.specs.declared.Value.TheVariants.{Num, Ptr}
use Rattle.osc_world.specs.declared.ObjectWhy.{ObjectWhy}
use Rattle.osc_world.specs.Values.{advanced}
use Rattle.osc_world.specs.States.{Process, Hart, turn_in, turn_on, turn_of}
use Rattle.osc_world.specs.Deeds.{Steps, sets}
use Rattle.osc_world.specs.Offers.{Meaning, Goes, Errs, Unfit, Only, Never, then_try}
use Rattle.osc_world.specs.World.{World, WorldTurn, WorldStep, WorldOffer, Memory}
use Rattle.osc_world.specs.Operations.{operated, operated_imm, multiplied, is_taken_for}
use Rattle.osc_world.specs.Accesses.{aimed, value_at}
use Rattle.osc_world.specs.Instructions.{register_of, objects_of, sets_if, passes, jumps, jumps_by, branches, load_step, store_step, amo_step, reserve_step, conditional}
use Rattle.osc_world.specs.Calls.{calls}
use Rattle.osc_world.specs.Events.{only_step, offered, meaning_by, does, does_if, instr_in, instr_at, meaning_in, meaning}
use Rattle.osc_world.specs.Knows.{Knows, is_known}
use Rattle.osc_world.specs.PlainWorld.{Flat, Plain, PlainTurn, PlainOffer, plain_number, plain_offered}
use Rattle.osc_world.specs.PlainRun.{plain_chosen, plain_done, plain_does, plain_instr, plain_meaning_in, plain_meaning}
use Rattle.osc_world.proofs.Known.{all-at}
use Rattle.osc_world.proofs.KnownDeeds.{InTurn, regs-known}
use Rattle.osc_means.specs.Shown.{shown, shown_hart, Laid, Mirrored, Shows, Kept}
use Rattle.osc_means.proofs.Bytes.{store-is}
use Rattle.osc_means.proofs.Rows.{stands, some-same}
use Rattle.osc_means.proofs.Operations.{advanced-shown, operated-shown, operated_imm-shown, multiplied-shown, taken-shown}
use Rattle.osc_means.proofs.Reading.{Paired, plain_turn, mirrored, value-shown}
use Rattle.osc_means.proofs.Offers.{ResultsAlike, results-show}
use Rattle.osc_means.proofs.Steps.{tried, tested, register-shown, Stepped, only-alike, by_done, sets-alike, jump-alike, jump_by-alike, pass-alike, branch-alike, aimed-reached, load-alike, store-alike, amo-alike, reserve-alike, conditional-alike}
use Rattle.osc_means.proofs.Calls.{calls-alike}

-- ---- instructions

register-known : (turn : WorldTurn) (r : ℕ) → InTurn turn → Knows turn.state → is_known (length turn.process.memory.objects) (register_of turn r) ≡ true
register-known turn r i k = by (r == 0)
  where
    held : (found : Option Value) → slice_get turn.hart.regs r ≡ found → is_known (length turn.process.memory.objects) (unwrap_or found (Num 0)) ≡ true
    held None e = refl
    held (Some v) e = all-at (is_known (length turn.process.memory.objects)) turn.hart.regs r v (regs-known turn i k) e

    by : (test : Bool) → is_known (length turn.process.memory.objects) (cond test (Num 0) (unwrap_or (slice_get turn.hart.regs r) (Num 0))) ≡ true
    by true = refl
    by false = held (slice_get turn.hart.regs r) refl

-- a register plus a signed field
offset-shown : (place : ℕ → ℕ → ℕ) (turn : WorldTurn) (r n : ℕ) → wrapped (register (map (shown (place turn.pid)) turn.hart.regs) r + n) ≡ shown (place turn.pid) (advanced (register_of turn r) n)
offset-shown place turn r n = ap (λ z. wrapped (z + n)) (register-shown (place turn.pid) turn.hart.regs r) ∙ sym (advanced-shown (place turn.pid) (register_of turn r) n)

pub offered-alike : (frames : ℕ) (place : ℕ → ℕ → ℕ) (turn : WorldTurn) (plain : Plain) (y : Process Flat) (i : Instr) → Paired frames place turn plain y
    → ResultsAlike frames place turn plain y (offered turn i) (plain_offered (plain_turn place turn plain y) i)
unfolding offered plain_offered ResultsAlike
offered-alike frames place turn plain y (instr.Upper Lui rd imm) pair =
    only-alike frames place turn plain y (Ok (sets turn rd (Num (extended 32 (imm * 4096))))) _
    (λ step e. sets-alike place turn plain y rd (Some (Num (extended 32 (imm * 4096)))) (extended 32 (imm * 4096)) (instr.Upper Lui rd imm) step (λ r f. ap (shown (place turn.pid)) (sym (some-same (Num (extended 32 (imm * 4096))) r f))) e)
offered-alike frames place turn plain y (instr.Upper Auipc rd imm) pair =
    only-alike frames place turn plain y (Ok (sets turn rd (Num (wrapped (turn.hart.pc + extended 32 (imm * 4096)))))) _
    (λ step e. sets-alike place turn plain y rd (Some (Num (wrapped (turn.hart.pc + extended 32 (imm * 4096))))) (wrapped (turn.hart.pc + extended 32 (imm * 4096))) (instr.Upper Auipc rd imm) step
    (λ r f. ap (shown (place turn.pid)) (sym (some-same (Num (wrapped (turn.hart.pc + extended 32 (imm * 4096)))) r f))) e)
offered-alike frames place turn plain y (instr.Jal rd half) pair =
    only-alike frames place turn plain y (jumps turn rd (wrapped (turn.hart.pc + extended 21 (half * 2)))) _ (λ step e. jump-alike place turn plain y rd (wrapped (turn.hart.pc + extended 21 (half * 2))) (instr.Jal rd half) step e)
offered-alike frames place turn plain y (instr.Jalr rd rs1 imm) pair =
    only-alike frames place turn plain y (jumps_by turn rd (advanced (register_of turn rs1) (extended 12 imm))) _
    (λ step e. rw (offset-shown place turn rs1 (extended 12 imm)) (jump_by-alike place turn plain y rd (advanced (register_of turn rs1) (extended 12 imm)) (instr.Jalr rd rs1 imm) step e))
offered-alike frames place turn plain y (instr.Branch kind rs1 rs2 half) pair =
    only-alike frames place turn plain y (branches turn (wrapped (turn.hart.pc + extended 13 (half * 2))) (is_taken_for (objects_of turn) kind (register_of turn rs1) (register_of turn rs2))) _
    (λ step e. rw (register-shown (place turn.pid) turn.hart.regs rs1, register-shown (place turn.pid) turn.hart.regs rs2)
    (branch-alike place turn plain y (wrapped (turn.hart.pc + extended 13 (half * 2))) (is_taken_for (objects_of turn) kind (register_of turn rs1) (register_of turn rs2))
    (is_taken kind (shown (place turn.pid) (register_of turn rs1)) (shown (place turn.pid) (register_of turn rs2))) (instr.Branch kind rs1 rs2 half) step
    (λ s. taken-shown (place turn.pid) (objects_of turn) kind (register_of turn rs1) (register_of turn rs2) s (mirrored pair).memory.laid (register-known turn rs1 pair.in_turn pair.knows) (register-known turn rs2 pair.in_turn pair.knows)) e))
offered-alike frames place turn plain y (instr.Load kind rd rs1 imm) pair =
    only-alike frames place turn plain y (load_step turn kind rd (advanced (register_of turn rs1) (extended 12 imm))) _
    (λ step e. rw (offset-shown place turn rs1 (extended 12 imm)) (load-alike frames place turn plain y kind rd (advanced (register_of turn rs1) (extended 12 imm)) (instr.Load kind rd rs1 imm) step pair e))
offered-alike frames place turn plain y (instr.Store kind rs1 rs2 imm) pair =
    only-alike frames place turn plain y (store_step turn (store_width kind) (advanced (register_of turn rs1) (extended 12 imm)) (register_of turn rs2)) _
    (λ step e. rw (offset-shown place turn rs1 (extended 12 imm), register-shown (place turn.pid) turn.hart.regs rs2)
    (store-alike frames place turn plain y (store_width kind) (advanced (register_of turn rs1) (extended 12 imm)) (register_of turn rs2) (instr.Store kind rs1 rs2 imm) step pair (store-is kind) e))
offered-alike frames place turn plain y (instr.Imm op rd rs1 imm) pair =
    only-alike frames place turn plain y (sets_if turn rd (operated_imm (objects_of turn) op (register_of turn rs1) (extended 12 imm))) _
    (λ step e. rw (register-shown (place turn.pid) turn.hart.regs rs1)
    (sets-alike place turn plain y rd (operated_imm (objects_of turn) op (register_of turn rs1) (extended 12 imm)) (operate (op_of_imm op) (shown (place turn.pid) (register_of turn rs1)) (extended 12 imm)) (instr.Imm op rd rs1 imm) step
    (λ r. operated_imm-shown (place turn.pid) (objects_of turn) op (register_of turn rs1) (extended 12 imm) r (mirrored pair).memory.laid (register-known turn rs1 pair.in_turn pair.knows)) e))
offered-alike frames place turn plain y (instr.Shift op rd rs1 amount) pair =
    only-alike frames place turn plain y (sets_if turn rd (operated (objects_of turn) (op_of_shift op) (register_of turn rs1) (Num amount))) _
    (λ step e. rw (register-shown (place turn.pid) turn.hart.regs rs1)
    (sets-alike place turn plain y rd (operated (objects_of turn) (op_of_shift op) (register_of turn rs1) (Num amount)) (operate (op_of_shift op) (shown (place turn.pid) (register_of turn rs1)) amount) (instr.Shift op rd rs1 amount) step
    (λ r. operated-shown (place turn.pid) (objects_of turn) (op_of_shift op) (register_of turn rs1) (Num amount) r (mirrored pair).memory.laid refl) e))
offered-alike frames place turn plain y (instr.ShiftW op rd rs1 amount) pair =
    only-alike frames place turn plain y (sets_if turn rd (operated (objects_of turn) (op_of_shift_w op) (register_of turn rs1) (Num amount))) _
    (λ step e. rw (register-shown (place turn.pid) turn.hart.regs rs1)
    (sets-alike place turn plain y rd (operated (objects_of turn) (op_of_shift_w op) (register_of turn rs1) (Num amount)) (operate (op_of_shift_w op) (shown (place turn.pid) (register_of turn rs1)) amount) (instr.ShiftW op rd rs1 amount) step
    (λ r. operated-shown (place turn.pid) (objects_of turn) (op_of_shift_w op) (register_of turn rs1) (Num amount) r (mirrored pair).memory.laid refl) e))
offered-alike frames place turn plain y (instr.Op op rd rs1 rs2) pair =
    only-alike frames place turn plain y (sets_if turn rd (operated (objects_of turn) op (register_of turn rs1) (register_of turn rs2))) _
    (λ step e. rw (register-shown (place turn.pid) turn.hart.regs rs1, register-shown (place turn.pid) turn.hart.regs rs2)
    (sets-alike place turn plain y rd (operated (objects_of turn) op (register_of turn rs1) (register_of turn rs2)) (operate op (shown (place turn.pid) (register_of turn rs1)) (shown (place turn.pid) (register_of turn rs2))) (instr.Op op rd rs1 rs2) step
    (λ r. operated-shown (place turn.pid) (objects_of turn) op (register_of turn rs1) (register_of turn rs2) r (mirrored pair).memory.laid (register-known turn rs2 pair.in_turn pair.knows)) e))
offered-alike frames place turn plain y (instr.Mul op rd rs1 rs2) pair =
    only-alike frames place turn plain y (sets_if turn rd (multiplied op (register_of turn rs1) (register_of turn rs2))) _
    (λ step e. rw (register-shown (place turn.pid) turn.hart.regs rs1, register-shown (place turn.pid) turn.hart.regs rs2)
    (sets-alike place turn plain y rd (multiplied op (register_of turn rs1) (register_of turn rs2)) (muldiv op (shown (place turn.pid) (register_of turn rs1)) (shown (place turn.pid) (register_of turn rs2))) (instr.Mul op rd rs1 rs2) step
    (λ r. multiplied-shown (place turn.pid) op (register_of turn rs1) (register_of turn rs2) r) e))
offered-alike frames place turn plain y (instr.Fence bits) pair =
    only-alike frames place turn plain y (Ok (passes turn)) _ (λ step e. let s : passes turn ≡ step = cc in pass-alike place turn plain y (instr.Fence bits) step s)
offered-alike frames place turn plain y (instr.FenceI bits) pair =
    only-alike frames place turn plain y (Ok (passes turn)) _ (λ step e. let s : passes turn ≡ step = cc in pass-alike place turn plain y (instr.FenceI bits) step s)
offered-alike frames place turn plain y instr.Ecall pair = calls-alike frames place turn plain y pair
offered-alike frames place turn plain y instr.Ebreak pair = tt
offered-alike frames place turn plain y (instr.Amo op width rd rs1 rs2 aq rl) pair =
    only-alike frames place turn plain y (amo_step turn op width rd (register_of turn rs1) (register_of turn rs2)) _
    (λ step e. rw (register-shown (place turn.pid) turn.hart.regs rs1, register-shown (place turn.pid) turn.hart.regs rs2)
    (amo-alike frames place turn plain y op width rd (register_of turn rs1) (register_of turn rs2) step pair e))
offered-alike frames place turn plain y (instr.Lr width rd rs1 aq rl) pair =
    only-alike frames place turn plain y (reserve_step turn width rd (register_of turn rs1)) _
    (λ step e. rw (register-shown (place turn.pid) turn.hart.regs rs1) (reserve-alike frames place turn plain y width rd (register_of turn rs1) step pair e))
offered-alike frames place turn plain y (instr.Sc width rd rs1 rs2 aq rl) pair =
    rw (register-shown (place turn.pid) turn.hart.regs rs1, register-shown (place turn.pid) turn.hart.regs rs2)
    (conditional-alike frames place turn plain y width rd (register_of turn rs1) (register_of turn rs2) pair)
