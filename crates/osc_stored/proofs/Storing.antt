-- A guest stores in a frame that is no table, and so each step keeps the words.
use Rattle.std.proofs.Common.{ℕ, ◌+◌, ◌-◌, ◌/◌, ◌%◌, ◌≡◌, ◌<◌, false, [], ◌∷◌, arith, refl, sym, ap, subst, ◌∙◌}
use Rattle.osc_word.specs.declared.job_list.WordAt.{WordAt}
use Rattle.osc_word.specs.declared.settings.HeapKind.TheVariants.{Oscar}
use Rattle.osc_sv39.specs.Walk.{number_of}
use Rattle.osc_paging.specs.KeptTables.{levels_of}
use Rattle.osc_space.specs.Space.{Space}
use Rattle.osc_guest.specs.declared.accesses.MemoryAccess.{MemoryAccess}
use Rattle.osc_guest.specs.declared.places.Place.{Place}
use Rattle.osc_guest.specs.declared.places.Place.TheVariants as at
use Rattle.osc_guest.specs.declared.places.Stage.{Stage}
use Rattle.osc_guest.specs.declared.places.Stage.TheVariants as stage
use Rattle.osc_guest.specs.Accesses.{access_page}
use Rattle.osc_guest.specs.Asks.{word_place, access_ask, ask_at, ask}
use Rattle.osc_guest.specs.Carry.{PlaceOk}
use Rattle.osc_guest.specs.Hands.{holds_box}
use Rattle.osc_guest.specs.User.{UserHart}
use Rattle.osc_calls.specs.Kernel.{KernelState}
use Rattle.osc_machine.specs.declared.HartAsk.TheVariants as does
use Rattle.osc_machine.specs.Parts.{Outside, HartState}
use Rattle.osc_machine.specs.Turns.{guest_ask, place_ask, hart_ask}
use Rattle.osc_safe.proofs.KernelRows.{fits-of}
use Rattle.osc_caches.specs.DataFrames.{IsData, Maps, Holds as HoldsBlock, IsNobodysTable}
use Rattle.osc_caches.proofs.DataFrames.{data_is_no_table}
use Rattle.osc_caches.proofs.ShowSteps.{steps_keep_showing, stores_show}
use Rattle.osc_caches.proofs.Stores.{stores_leave}
use Rattle.osc_caches.proofs.WordSteps.{steps_keep_words}
use Rattle.osc_relying.specs.Relying.{HasPage, Kept, Goes, PageOf, TableOf}
use Rattle.osc_stored.specs.Stored.{PagesAreData, StoresAreData, StoresKeep}
use Rattle.osc_stored.proofs.Copying.{quiet_copies}

-- ---- pages
page-data : (k : KernelState) (n pid : ℕ) (s : Space) (number frame : ℕ) → HasPage k n pid s number frame → IsData s frame
page-data k n pid s number frame (Kept m e f) = Maps number m e f
page-data k n pid s number frame (Goes g may) = let o = g.o in HoldsBlock (o.canon / 4096 + (number - o.first)) g.at

pub pages_are_data : PagesAreData
pages_are_data words k n pid page frame called fits heap reached =
    let p = reached.p in
    data_is_no_table words k pid frame p fits heap reached.is reached.lives (page-data k n pid p.space (number_of (levels_of p.space.tables) page) frame reached.has)

-- ---- stores
-- the access whose word is stored
record StoresThrough (u : UserHart) (to : WordAt) : Type 0 where
  access : MemoryAccess
  frame : ℕ
  stage : Stage
  is : u.place ≡ at.Access access frame stage
  word : word_place access frame ≡ to

through-stage : (access : MemoryAccess) (frame : ℕ) (s : Stage) (number : ℕ) (to : WordAt) (value : ℕ) → guest_ask number (access_ask access frame s) ≡ does.Store to value → word_place access frame ≡ to
through-stage access frame (stage.GatedStore version found) number to value e = cc
through-stage access frame s number to value e = absurd (let b : ⊥ = grind (arith, e) in b)

through : (p : Place) (u : UserHart) (number : ℕ) (to : WordAt) (value : ℕ) → u.place ≡ p → guest_ask number (ask_at p u) ≡ does.Store to value → StoresThrough u to
through (at.Access access frame s) u number to value is e = record { access = access; frame = frame; stage = s; is = is; word = through-stage access frame s number to value e }
through p u number to value is e = absurd (let b : ⊥ = grind (arith, e) in b)

stores-through : (h : HartState) (to : WordAt) (value : ℕ) → h.place ≡ Outside → hart_ask h ≡ does.Store to value → StoresThrough h.user to
unfolding hart_ask ask
stores-through h to value out e = through h.user.place h.user h.number to value refl (sym (ap (λ p. place_ask p h) out) ∙ e)

low-index : (address : ℕ) → address % 4096 / 8 < 512
low-index address = omega arith

pub stores_are_data : StoresAreData
stores_are_data s n h k to value stands has heap r here out e =
    let w = stores-through h to value out e in
    let access = w.access in
    let f = fits-of s k stands has in
    let walks = r.walks n h here in
    let page : PageOf k n false h.user.pid (access_page access) w.frame = subst (PlaceOk (PageOf k n false) (TableOf k n) h.user.pid) w.is walks.1 in record {
      frame = subst (λ (z : WordAt). IsNobodysTable k z.frame) w.word (pages_are_data f.words k n h.user.pid (access_page access) w.frame false f.fits heap page);
      index = subst (λ (z : WordAt). z.index < 512) w.word (low-index access.address);
    }

-- ---- each step
pub stores_keep : StoresKeep
stores_keep s n k holds stands has heap r beside = record {
  agree = steps_keep_words s n holds stands
      (λ h to value here out e. (let d = stores_are_data s n h k to value stands has heap r here out e in
      stores_leave s k to.frame to.index value stands has
      (quiet_copies s n h k holds stands has r beside here (let w = stores-through h to value out e in ap holds_box w.is)) d.frame d.index r.words)) r.words;
  show = steps_keep_showing s n holds stands
      (λ other own. (let same : k ∷ [] ≡ other ∷ [] = sym has.one ∙ own.one in
      let one : k ≡ other = grind (arith, same) in subst (λ (z : KernelState). z.config.heap ≡ Oscar) one heap)) r.words
      (λ h to value here out e. (let d = stores_are_data s n h k to value stands has heap r here out e in
      stores_show s k to.frame to.index value stands has d.frame d.index r.shows)) r.shows;
}
