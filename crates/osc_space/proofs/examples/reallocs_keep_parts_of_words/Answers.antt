-- By computation.
use Rattle.std.proofs.Common.{refl}
use Rattle.osc_class.specs.Rooms.{room_of}
use Rattle.osc_slot.specs.Least.{least, any}
use Rattle.osc_slot.specs.Slots.{beside, empty_page}
use Rattle.osc_slot.specs.Ordered.{insert_by}
use Rattle.osc_slot.specs.Heap.{back, place, release, give_back}
use Rattle.osc_paging.specs.KeptTables.{missing, need_below}
use Rattle.osc_paging.specs.TableChanges.{link_all}
use Rattle.osc_space.specs.BlockWords.{cut}
use Rattle.osc_space.specs.Malloc.{malloc_plan}
use Rattle.osc_space.specs.Realloc.{realloc_plan}
use Rattle.osc_space.specs.Finish.{finished}
use Rattle.osc_space.specs.Examples.{move_part_jobs}
use Rattle.osc_space.proofs.examples.reallocs_keep_parts_of_words.Goals as goal

pub returns-clause-moves : goal.returns-clause-moves
unfolding room_of least any beside empty_page insert_by back place release give_back missing need_below link_all cut malloc_plan realloc_plan finished move_part_jobs
returns-clause-moves c = refl
