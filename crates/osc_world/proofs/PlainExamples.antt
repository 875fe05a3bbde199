-- A program on the plain heap, computed but for the search for its two slots.
use Rattle.std.proofs.Common.{◌≡◌, ◌++◌, [], ◌∷◌, Some, refl}
use Rattle.osc_class.specs.declared.Room.TheVariants.{Small}
use Rattle.osc_class.specs.Rooms.{room_of}
use Rattle.osc_rv.specs.Instr.{instr_of, word_of}
use Rattle.osc_image.specs.Image.{laid_byte}
use Rattle.osc_slot.specs.Least.{least, any}
use Rattle.osc_slot.specs.Areas.{block_at_slot}
use Rattle.osc_slot.specs.Slots.{beside, empty_page, holds_in}
use Rattle.osc_slot.specs.Ordered.{insert_by}
use Rattle.osc_world.specs.Examples.{plain_run_over, plain_register, plain_status, steps, uses_after_free, events_before_exit, shares_and_forks, shares_and_forks_events, plain_output, writes_two_bytes, writes_events}
use Rattle.osc_word.specs.Environment.{call_of}
use Rattle.osc_world.specs.States.{changed_at}
use Rattle.osc_world.specs.Deeds.{state_after}
use Rattle.osc_world.specs.Offers.{chosen}
use Rattle.osc_world.specs.Accesses.{overlaid}
use Rattle.osc_world.specs.PlainWorld.{plain_row, plain_put, plain_serves, plain_offered}
use Rattle.osc_world.specs.PlainRun.{plain_meaning, plain_run}
use Rattle.osc_world.proofs.EmptyHeap.{nothing-beside}

first_page-empty : empty_page 1024 (holds_in 1024 []) 1 ≡ Some 0
unfolding empty_page least any
first_page-empty = refl

second-beside : beside 1024 (holds_in 1024 (block_at_slot 1024 (Small 1) 0 ∷ [])) 1 ≡ Some 1
unfolding beside least any
second-beside = refl

pub first-pointer : plain_register (plain_run_over 1 uses_after_free events_before_exit) 8 ≡ Some 0x2000400010
unfolding instr_of word_of laid_byte room_of insert_by call_of changed_at state_after chosen overlaid plain_row plain_put plain_serves plain_offered plain_meaning plain_run
first-pointer = rw (nothing-beside 1024 1) (rw first_page-empty (rw second-beside (refl {a = Some 0x2000400010})))

pub second-pointer : plain_register (plain_run_over 1 uses_after_free events_before_exit) 9 ≡ Some 0x2000400040
unfolding instr_of word_of laid_byte room_of insert_by call_of changed_at state_after chosen overlaid plain_row plain_put plain_serves plain_offered plain_meaning plain_run
second-pointer = rw (nothing-beside 1024 1) (rw first_page-empty (rw second-beside (refl {a = Some 0x2000400040})))

pub end-status : plain_status (plain_run_over 1 uses_after_free (events_before_exit ++ steps 0 1)) ≡ Some 9
unfolding instr_of word_of laid_byte room_of insert_by call_of changed_at state_after chosen overlaid plain_row plain_put plain_serves plain_offered plain_meaning plain_run
end-status = rw (nothing-beside 1024 1) (rw first_page-empty (rw second-beside (refl {a = Some 9})))

least_page-empty : empty_page 1024 (holds_in 1024 []) 0 ≡ Some 0
unfolding empty_page least any
least_page-empty = refl

pub sum-status : plain_status (plain_run_over 2 shares_and_forks shares_and_forks_events) ≡ Some 18
unfolding instr_of word_of laid_byte room_of insert_by call_of changed_at state_after chosen overlaid plain_row plain_put plain_serves plain_offered plain_meaning plain_run
sum-status = rw (nothing-beside 1024 0) (rw least_page-empty (refl {a = Some 18}))

pub written-output : plain_output (plain_run_over 1 writes_two_bytes writes_events) ≡ Some (104 ∷ 105 ∷ [])
unfolding instr_of word_of laid_byte room_of insert_by call_of changed_at state_after chosen overlaid plain_row plain_put plain_serves plain_offered plain_meaning plain_run
written-output = rw (nothing-beside 1024 1) (rw first_page-empty (refl {a = Some (104 ∷ 105 ∷ [])}))
