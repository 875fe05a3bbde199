-- What the pieces of a turn keep: they begin with the box in hand, and hold no gate.
use Rattle.std.proofs.Common.{ℕ, zero, suc, ◌≡◌, Bool, true, false, Option, Some, None, is_some, arith, refl, ◌∙◌, nat_lt, ◌&&◌, ◌%◌, ◌==◌, if◌then◌else◌}
use Rattle.osc_sv39.specs.declared.entries.PteEntry.{PteEntry}
use Rattle.osc_sv39.specs.declared.entries.PteEntry.TheVariants.{Table, Leaf}
use Rattle.osc_sv39.specs.declared.entries.Mapping.{Mapping}
use Rattle.osc_sv39.specs.Entries.{is_allowed}
use Rattle.osc_sv39.specs.Walk.{is_canonical}
use Rattle.osc_paging.specs.declared.Look.{Look}
use Rattle.osc_paging.specs.declared.Look.TheVariants.{Hit, Miss}
use Rattle.osc_paging.specs.Boxes.{BoxState, look}
use Rattle.osc_rv.specs.declared.instr.Instr.{Instr}
use Rattle.osc_isa.specs.declared.IntDone.{IntDone}
use Rattle.osc_isa.specs.declared.IntDone.TheVariants as done
use Rattle.osc_isa.specs.Integer.{done_of}
use Rattle.osc_isa.specs.Traps.{Trap}
use Rattle.osc_guest.specs.declared.accesses.MemoryAccess.{MemoryAccess}
use Rattle.osc_guest.specs.User.{UserHart, Answered, cache_of, risen}
use Rattle.osc_guest.specs.Accesses.{access_of, alignment_trap, fetch_at, kind_of, access_page}
use Rattle.osc_guest.specs.Looking.{lost, reached, seen, looked_up, leaf_found, walked, box_filled}
use Rattle.osc_guest.specs.Instructions.{unless_misaligned, accessing, executed, decoded}
use Rattle.osc_guest.specs.Orders.{begun}
use Rattle.osc_guest.specs.Hands.{holds_box, gate_held, runs_thread, order_in}
use Rattle.osc_guest.specs.Laws.{count_after}

-- the thread and the box stay, and the hart still runs the thread and holds the box and no gate
abbrev pub Calm : UserHart → Answered → Type 0
Calm h a =
    (is_some a.hart.held ≡ is_some h.held) × (order_in a.hart.held ≡ order_in h.held) × (gate_held a.hart.place ≡ None)
    × (runs_thread a.hart.place ≡ true) × (a.hart.pid ≡ h.pid) × (a.hart.root ≡ h.root) × (a.hart.levels ≡ h.levels)
    × (a.hart.frames ≡ h.frames) × (holds_box a.hart.place ≡ true) × (a.hart.retired ≡ count_after a.choice h.retired)

-- a case of a test
pub either : (P : Answered → Type 0) (test : Bool) (a b : Answered) → P a → P b → P (if test then a else b)
either P true a b k l = k
either P false a b k l = l

lost-calm : (access : MemoryAccess) (h : UserHart) → Calm h (lost access h)
lost-calm access h = grind arith

reached-calm : (access : MemoryAccess) (frame : ℕ) (h : UserHart) → Calm h (reached access frame h)
unfolding reached
reached-calm access frame h = grind arith

seen-calm : (access : MemoryAccess) (found : Look) (h : UserHart) → Calm h (seen access found h)
seen-calm access (Hit frame) h = reached-calm access frame (record h { hits = risen h.hits })
seen-calm access Miss h = grind arith

pub looked_up-calm : (access : MemoryAccess) (h : UserHart) → Calm h (looked_up access h)
unfolding looked_up
looked_up-calm access h =
    either (Calm h) (is_canonical h.levels (access_page access)) _ _
    (seen-calm access (look (cache_of h) (access_page access) (kind_of access.what)) h) (lost-calm access h)

filled-same : (page : ℕ) (m : Mapping) (held : Option BoxState) → (is_some (box_filled page m held) ≡ is_some held) × (order_in (box_filled page m held) ≡ order_in held)
filled-same page m None = (refl, refl)
filled-same page m (Some box) = (refl, refl)

leaf-calm : (access : MemoryAccess) (m : Mapping) (h : UserHart) → Calm h (leaf_found access m h)
leaf-calm access m h =
    let c = reached-calm access m.frame (record h { held = box_filled (access_page access) m h.held }) in
    let f = filled-same (access_page access) m h.held in
    either (Calm h) (nat_lt m.frame h.frames && is_allowed m.bits.0 (kind_of access.what)) _ _
    (c.0 ∙ f.0, c.1 ∙ f.1, c.2, c.3, c.4, c.5, c.6, c.7, c.8, c.9) (lost-calm access h)

pub walked-calm : (access : MemoryAccess) (level : ℕ) (entry : PteEntry) (h : UserHart) → Calm h (walked access level entry h)
unfolding walked
walked-calm access zero (Leaf frame bits) h = leaf-calm access (record { frame = frame; bits = bits }) h
walked-calm access (suc level) (Table frame) h = grind arith
walked-calm access zero _ h = lost-calm access h
walked-calm access (suc level) _ h = lost-calm access h

accessing-calm : (access : Option MemoryAccess) (h : UserHart) → Calm h (accessing access h)
accessing-calm None h = grind arith
accessing-calm (Some access) h = go (alignment_trap access)
  where
    go : (trap : Option Trap) → Calm h (unless_misaligned trap access h)
    go (Some trap) = grind arith
    go None = looked_up-calm access h

pub executed-calm : (i : Instr) (does : IntDone) (h : UserHart) → Calm h (executed i does h)
unfolding executed
executed-calm i (done.Load rd kind address) h = accessing-calm (access_of i (done.Load rd kind address)) h
executed-calm i (done.Store width address value) h = accessing-calm (access_of i (done.Store width address value)) h
executed-calm i (done.Atomic address operand) h = accessing-calm (access_of i (done.Atomic address operand)) h
executed-calm i does h = grind arith

pub decoded-calm : (found : Option Instr) (h : UserHart) → Calm h (decoded found h)
decoded-calm None h = grind arith
decoded-calm (Some i) h = executed-calm i (done_of i h.regs h.pc) h

pub begun-calm : (h : UserHart) → Calm h (begun h)
begun-calm h = either (Calm h) (h.pc % 4 == 0) _ _ (looked_up-calm (fetch_at h.pc) h) (grind arith)
