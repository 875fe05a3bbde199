-- By computation.
use Rattle.std.proofs.Common.{refl}
use Rattle.osc_class.specs.Rooms.{room_of}
use Rattle.osc_slot.specs.Least.{least, any}
use Rattle.osc_slot.specs.Slots.{beside, empty_page}
use Rattle.osc_slot.specs.Ordered.{insert_by}
use Rattle.osc_slot.specs.Heap.{back, place, release, give_back}
use Rattle.osc_paging.specs.KeptTables.{missing, need_below}
use Rattle.osc_paging.specs.TableChanges.{link_all}
use Rattle.osc_space.specs.BlockWords.{cut}
use Rattle.osc_space.specs.PlainHeap.{plain_malloc_plan, plain_free_plan, plain_realloc_plan}
use Rattle.osc_space.specs.Finish.{finished}
use Rattle.osc_space.specs.Examples.{plain_answers}
use Rattle.osc_space.proofs.examples.plain_answers_by_pointer.Goals as goal

pub returns : goal.returns
unfolding room_of least any beside empty_page insert_by back place release give_back missing need_below link_all cut plain_malloc_plan plain_free_plan plain_realloc_plan finished plain_answers
returns c = refl
