-- That the changes of the parts make the state after a deed.
use Rattle.std.proofs.Common.{◌≡◌, ℕ, ◌+◌, ◌%◌, Bool, true, false, cond, List, Some, None, refl, ap, ◌∙◌, map, length, replicate, slice_get, option_and_then}
use Rattle.std.specs.Prelude.{slice_set}
use Rattle.std.specs.declared.option.Option.{Option}
use Rattle.osc_world.specs.declared.Value.{Value}
use Rattle.osc_world.specs.declared.Value.TheVariants.{Num}
use Rattle.osc_world.specs.declared.Reservation.{Reservation}
use Rattle.osc_world.specs.States.{Hart, Process}
use Rattle.osc_world.specs.World.{World, WorldPut, WorldStep, Memory, ObjectDeed}
use Rattle.osc_world.specs.Deeds as deeds
use Rattle.osc_world.specs.Deeds.{state_after}
use Rattle.osc_world.specs.Accesses.{disturbed, is_reserved_word, put_in_world}
use Rattle.osc_world.specs.Calls.{world_kind}
use Rattle.osc_object.specs.Turns.{turn_from}
use Rattle.osc_word.specs.Environment.{answer_register}
use Rattle.osc_world.specs.Deeds.{status_after}
use Rattle.osc_world.specs.States.{idle}
use Rattle.osc_object.specs.Changes.{on, answered, with_put, stepped, served, written, ended, child_on, child_of, next_address, shared_by, forked, spawned, left}
use Rattle.osc_memory.specs.Places.{with_heap, with_status, holding}
use Rattle.osc_memory.proofs.Finds.{changed-is, mapped-at}

module _ (state : World) (number pid : ℕ) (hart : Hart Value) (process : Process Memory) (h : slice_get state.harts number ≡ Some hart) (p : slice_get state.processes pid ≡ Some process) where
  on-disturbed : (rd : ℕ) (value : Value) (pc : ℕ) (reservation : Option Reservation) (b : Bool)
      → on rd value pc reservation (cond b (record hart { reservation = None }) hart) ≡ on rd value pc reservation hart
  on-disturbed rd value pc reservation true = refl
  on-disturbed rd value pc reservation false = refl

  moved : (put : Option WorldPut) (rd : ℕ) (value : Value) (pc : ℕ) (reservation : Option Reservation)
      → stepped number pid (record { put = put; rd = rd; value = value; pc = pc; reservation = reservation }) state
      ≡ state_after world_kind (turn_from state number hart pid process) (deeds.Steps (record { put = put; rd = rd; value = value; pc = pc; reservation = reservation }))
  unfolding state_after put_in_world
  moved None rd value pc reservation = rw (changed-is (on rd value pc reservation) state.harts number hart h) refl
  moved (Some put) rd value pc reservation =
      let same = on-disturbed rd value pc reservation (is_reserved_word pid put.at hart.process hart.reservation) in
      rw (
        changed-is (with_put put.at put.bytes) state.processes pid process p,
        changed-is (on rd value pc reservation) (map (disturbed pid put.at) state.harts) number (disturbed pid put.at hart) (mapped-at (disturbed pid put.at) state.harts number hart h),
        same,
      ) refl

  pub stepped-is : (step : WorldStep) → stepped number pid step state ≡ state_after world_kind (turn_from state number hart pid process) (deeds.Steps step)
  stepped-is step = moved step.put step.rd step.value step.pc step.reservation

  pub served-is : (deed : ObjectDeed) (value : Value)
      → served number pid deed value state ≡ state_after world_kind (turn_from state number hart pid process) (deeds.Heaps deed value)
  unfolding state_after
  served-is deed value = rw (changed-is (with_heap deed) state.processes pid process p, changed-is (answered value) state.harts number hart h) refl

  pub written-is : (bytes : List ℕ) → written number bytes state ≡ state_after world_kind (turn_from state number hart pid process) (deeds.Writes bytes)
  unfolding state_after
  written-is bytes = rw (changed-is (answered (Num (length bytes))) state.harts number hart h) refl

  pub ended-is : (status : ℕ) → ended pid status state ≡ state_after world_kind (turn_from state number hart pid process) (deeds.Exits status)
  unfolding state_after
  ended-is status = rw (changed-is (with_status (Some (status % 64))) state.processes pid process p) refl

  pub shared-is : (count : ℕ) → shared_by number pid count 4096 state ≡ state_after world_kind (turn_from state number hart pid process) (deeds.Shares count)
  unfolding state_after
  shared-is count =
      rw (
        changed-is (holding (length state.shared) count) state.processes pid process p,
        changed-is (answered (Num (next_address (slice_get state.processes pid)))) state.harts number hart h,
        p,
      ) refl

  pub forked-is : (target child : ℕ) (begun : Hart Value) (made : Process Memory) → child ≡ length state.processes → begun ≡ child_on child hart → made ≡ child_of pid process
      → forked number target (Num child) begun made state ≡ state_after world_kind (turn_from state number hart pid process) (deeds.Forks target)
  unfolding state_after
  forked-is target child begun made count begins makes =
      rw (begins, makes, count, changed-is (answered (Num (length state.processes))) state.harts number hart h) refl

  pub spawned-is : (target thread pc : ℕ) (sp arg : Value) (begun : Hart Value) → thread ≡ length state.threads + 1
      → begun ≡ record {
        process = Some pid;
        thread = Some thread;
        regs = slice_set (slice_set (replicate 32 (Num 0)) 2 sp) answer_register arg;
        pc = pc;
        reservation = None;
      }
      → spawned number pid target (Num thread) begun state ≡ state_after world_kind (turn_from state number hart pid process) (deeds.Spawns target pc sp arg)
  unfolding state_after
  spawned-is target thread pc sp arg begun count begins =
      rw (begins, count, changed-is (answered (Num (length state.threads + 1))) state.harts number hart h) refl

  pub left-is : (thread status : Option ℕ) (value : Value) → thread ≡ option_and_then (λ (x : Hart Value). x.thread) (slice_get state.harts number)
      → status ≡ option_and_then (λ (x : Process Memory). x.status) (slice_get state.processes pid)
      → left number pid thread status value state ≡ state_after world_kind (turn_from state number hart pid process) (deeds.Leaves value)
  unfolding state_after
  left-is thread status value named lived =
      let number-is : thread ≡ hart.thread = named ∙ ap (option_and_then (λ (x : Hart Value). x.thread)) h in
      let status-is : status ≡ process.status = lived ∙ ap (option_and_then (λ (x : Process Memory). x.status)) p in
      rw (number-is, status-is, changed-is (with_status (status_after pid process.status (slice_set state.harts number idle))) state.processes pid process p) refl
