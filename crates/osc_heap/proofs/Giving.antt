-- Pages that are given back.
use Rattle.std.proofs.Common.{ℕ, Bool, true, List, [], ◌∷◌, slice_set}
use Rattle.osc_slot.specs.declared.HeapPage.{HeapPage}
use Rattle.osc_slot.specs.Heap.{AreTaken, HaveFrames}
use Rattle.osc_slot.proofs.Backing.{taken-give}
use Rattle.osc_heap.specs.Layout.{CanGiveBack}

-- pages whose frames are taken and all different can be given back
pub can_give : (frames : ℕ) (free : List Bool) (pages : List HeapPage) → AreTaken free pages → HaveFrames frames pages → CanGiveBack free pages
unfolding AreTaken HaveFrames CanGiveBack
can_give frames free [] t h = tt
can_give frames free (p ∷ pages) t h = (t.0, can_give frames (slice_set free p.frame true) pages (taken-give free p.frame pages h.1 t.1) h.2)
