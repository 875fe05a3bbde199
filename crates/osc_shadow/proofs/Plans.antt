-- A malloc is done, or changes nothing where it is refused.
use Rattle.std.proofs.Common.{ℕ, ◌≡◌, Some, None, ap, sym, ◌∙◌}
use Rattle.osc_word.specs.declared.calls.Answer.{Answer}
use Rattle.osc_class.specs.declared.Room.{Room}
use Rattle.osc_class.specs.Rooms.{room_of, shadow_pages}
use Rattle.osc_slot.specs.Slots.{need as block_need}
use Rattle.osc_slot.specs.Heap.{next_block}
use Rattle.osc_space.specs.Space.{Draft, Outcome, first_reason, unchanged, unless}
use Rattle.osc_space.specs.Malloc.{memory_reasons, malloc_in, malloc_plan}

pub malloc_done : (n : ℕ) (room : Room) (d : Draft) (made : Outcome) → room ≡ room_of n → first_reason (memory_reasons (block_need d.space.heap.frames d.space.heap.held room) (shadow_pages room) d) ≡ None
    → made ≡ malloc_in n (next_block d.space.heap room) d → made ≡ malloc_plan n d
unfolding malloc_plan
malloc_done n room d made e none is =
    is ∙ ap (λ r. malloc_in n (next_block d.space.heap r) d) e
    ∙ sym (ap (λ x. unless x d (malloc_in n (next_block d.space.heap (room_of n)) d)) (sym (ap (λ r. first_reason (memory_reasons (block_need d.space.heap.frames d.space.heap.held r) (shadow_pages r) d)) e) ∙ none))

pub malloc_refused : (n : ℕ) (room : Room) (d : Draft) (why : Answer) → room ≡ room_of n → first_reason (memory_reasons (block_need d.space.heap.frames d.space.heap.held room) (shadow_pages room) d) ≡ Some why
    → unchanged why d ≡ malloc_plan n d
unfolding malloc_plan
malloc_refused n room d why e some =
    sym (ap (λ x. unless x d (malloc_in n (next_block d.space.heap (room_of n)) d)) (sym (ap (λ r. first_reason (memory_reasons (block_need d.space.heap.frames d.space.heap.held r) (shadow_pages r) d)) e) ∙ some))
