-- A hart asks only for frames of the machine.
use Rattle.std.proofs.Common.{ℕ, zero, suc, ◌<◌, ◌≡◌, Bool, true, false, Option, Some, None, arith, refl, sym, subst, ◌∙◌}
use Rattle.osc_word.specs.declared.orders.Order.{Order}
use Rattle.osc_word.specs.declared.orders.Order.TheVariants as order
use Rattle.osc_sv39.specs.declared.entries.PteEntry.{PteEntry}
use Rattle.osc_sv39.specs.declared.entries.PteEntry.TheVariants.{Table, Leaf}
use Rattle.osc_sv39.specs.Entries.{entry_of}
use Rattle.osc_paging.specs.Boxes.{BoxState}
use Rattle.osc_guest.specs.declared.places.Place.{Place}
use Rattle.osc_guest.specs.declared.places.Place.TheVariants as at
use Rattle.osc_guest.specs.declared.places.Stage.TheVariants as stage
use Rattle.osc_guest.specs.User.{UserHart, box_or_new}
use Rattle.osc_guest.specs.Accesses.{access_page}
use Rattle.osc_guest.specs.Asks.{ask, ask_at}
use Rattle.osc_guest.specs.Told.{Told, Box, Word, Gate, Done, told}
use Rattle.osc_guest.specs.Hands.{gate_held, gate_after, order_in, order_left, order_after, start_in, runs_by, runs_thread}
use Rattle.osc_guest.specs.Carry.{CacheOk, PlaceOk, ToldOk, RootIf, IdleBoxOk, EntryOk, may_walk}
use Rattle.osc_guest.specs.Ranges.{PageIn, TableIn, OrderIn, ToldIn, AskIn, AsksIn, RangeKept, BeginsIn}
use Rattle.osc_guest.proofs.Carry.{carries, empty-ok}
use Rattle.osc_guest.proofs.Hands.{told-order, told-gate, told-runs, told-root, told-frames}

module _ (frames : ℕ) where
  abbrev Within : ℕ → Place → Type 0
  Within pid p = PlaceOk (PageIn frames) (TableIn frames) pid p

  asks_at : (p : Place) (h : UserHart) → Within 0 p → ((frame : ℕ) → gate_held p ≡ Some frame → frame < frames) → AskIn frames (ask_at p h)
  asks_at (at.Walk access level table) h k g = (k, omega arith)
  asks_at (at.Access access frame stage.Fetch) h k g = (k, omega arith)
  asks_at (at.Access access frame stage.Load) h k g = (k, omega arith)
  asks_at (at.Access access frame (stage.TakeGate only)) h k g = k
  asks_at (at.Access access frame (stage.GatedLoad version)) h k g = (k, omega arith)
  asks_at (at.Access access frame (stage.GatedStore version found)) h k g = (k, omega arith)
  asks_at (at.OpenGate frame version) h k g = g frame refl
  asks_at _ h k g = tt

  -- ---- what it has and is told is below the bound
  had : (p : Place) (h : UserHart) → (runs_thread p ≡ true → h.root < frames) → Within 0 p
      → RootIf (may_walk p) (TableIn frames) h.levels h.pid h.root × Within h.pid p
  had (at.Walk access level table) h r k = ((λ page e. r refl), k)
  had (at.Access access frame stage) h r k = ((λ page e. r refl), k)
  had _ h r k = (tt, tt)

  had-back : (pid : ℕ) (p : Place) → Within pid p → Within 0 p
  had-back pid (at.Walk access level table) k = k
  had-back pid (at.Access access frame stage) k = k
  had-back pid _ k = tt

  run-root : (o : Order) (h : UserHart) → h.root < frames → RootIf (runs_by true o) (TableIn frames) h.levels h.pid h.root
  run-root order.Empty h r = λ page e. r
  run-root (order.Start start) h r = λ page e. r
  run-root _ h r = tt

  idle-box : (o : Order) (pid : ℕ) (box : BoxState) → OrderIn frames o → CacheOk (PageIn frames) 0 box.slots
      → IdleBoxOk (PageIn frames) (TableIn frames) pid (start_in o) box.slots
  idle-box (order.Start start) pid box s c = ((λ page e. s.1), c)
  idle-box order.Empty pid box s c = c
  idle-box order.Stop pid box s c = c
  idle-box order.Over pid box s c = c

  entry-in : (level page pid count : ℕ) (entry : PteEntry) → count ≡ frames → EntryOk (PageIn frames) (TableIn frames) count pid page level entry
  entry-in zero page pid count (Leaf frame bits) e = λ less. (let q : frame < frames = grind (arith, less, e) in q)
  entry-in (suc level) page pid count (Table frame) e = λ less. (let q : frame < frames = grind (arith, less, e) in q)
  entry-in zero page pid count _ e = tt
  entry-in (suc level) page pid count _ e = tt

  told-in : (p : Place) (h : UserHart) (t : Told) → (runs_thread p ≡ true → h.frames ≡ frames) → (runs_thread p ≡ true → h.root < frames)
      → ToldIn frames t → ToldOk (PageIn frames) (TableIn frames) h p t
  told-in at.Run h (Box box) n r s = (run-root box.order h (r refl), s.0)
  told-in at.Idle h (Box box) n r s = idle-box box.order h.pid box s.1 s.0
  told-in (at.Walk access level table) h (Word word) n r s = entry-in level (access_page access) h.pid h.frames (entry_of word) (n refl)
  told-in p h t n r s = tt

  -- ---- after an answer
  runs-in : (p : Place) (h : UserHart) (t : Told) → h.place ≡ p → (runs_thread p ≡ true → (h.frames ≡ frames) × (h.root < frames)) → ToldIn frames t
      → runs_thread (told h t).hart.place ≡ true → ((told h t).hart.frames ≡ frames) × ((told h t).hart.root < frames)
  runs-in at.Idle h (Box box) e r s y = go box.order refl s.1
    where
      go : (o : Order) → box.order ≡ o → OrderIn frames o → ((told h (Box box)).hart.frames ≡ frames) × ((told h (Box box)).hart.root < frames)
      go (order.Start start) f s = grind (arith, e, f, s, told-frames h (Box box), told-root h (Box box))
      go o f s = absurd (let b : ⊥ = grind (arith, e, f, y, told-runs h (Box box)) in b)
  runs-in p h t e r s y = grind (arith, e, r, y, told-frames h t, told-root h t, told-runs h t)

  gate-in : (p : Place) (t : Told) (frame : ℕ) → Within 0 p → ((f : ℕ) → gate_held p ≡ Some f → f < frames) → gate_after p t ≡ Some frame → frame < frames
  gate-in (at.Access access own (stage.TakeGate only)) (Gate version) frame k g e = grind (arith, e, k)
  gate-in (at.OpenGate own version) Done frame k g e = absurd (let b : ⊥ = grind (arith, e) in b)
  gate-in p t frame k g e = grind (arith, e, g frame)

  abbrev Ordered : Option Order → Type 0
  Ordered None = Unit {0}
  Ordered (Some o) = OrderIn frames o

  ordered : (held : Option BoxState) → OrderIn frames (box_or_new held).order → Ordered (order_in held)
  ordered None k = tt
  ordered (Some box) k = k

  ordered-back : (held : Option BoxState) → Ordered (order_in held) → OrderIn frames (box_or_new held).order
  ordered-back None k = tt
  ordered-back (Some box) k = k

  left-in : (running : Bool) (o : Order) → OrderIn frames o → OrderIn frames (order_left running o)
  left-in running order.Empty k = k
  left-in true (order.Start start) k = k
  left-in false (order.Start start) k = tt
  left-in running order.Stop k = tt
  left-in running order.Over k = k

  order-in : (p : Place) (t : Told) (kept : Option Order) → Ordered kept → ToldIn frames t → Ordered (order_after p t kept)
  order-in at.Run (Box box) kept k s = left-in true box.order s.1
  order-in at.Idle (Box box) kept k s = left-in false box.order s.1
  order-in (at.GiveBox follows) Done kept k s = tt
  order-in p t kept k s = k

pub asks_in : AsksIn
unfolding ask
asks_in frames h k = asks_at frames h.place h k.place k.gate

pub range_kept : RangeKept
range_kept frames h t k s =
    let c = had frames h.place h k.root k.place in
    let ok = carries (PageIn frames) (TableIn frames) h t (c.0, c.1, k.box.0) (told-in frames h.place h t k.count k.root s) in
    let runs = runs-in frames h.place h t refl (λ e. (k.count e, k.root e)) s in
    record {
      count = λ e. (runs e).0;
      root = λ e. (runs e).1;
      place = had-back frames (told h t).hart.pid (told h t).hart.place ok.1;
      gate = λ frame e. gate-in frames h.place t frame k.place k.gate (sym (told-gate h t) ∙ e);
      box = (
        ok.2,
        ordered-back frames (told h t).hart.held
            (subst (Ordered frames) (sym (told-order h t)) (order-in frames h.place t (order_in h.held) (ordered frames h.held k.box.1) s)),
      );
    }

pub begins_in : BeginsIn
begins_in frames start s = (
  record { count = λ e. absurd (let b : ⊥ = grind (arith, e) in b); root = λ e. absurd (let b : ⊥ = grind (arith, e) in b); place = tt; gate = λ frame e. absurd (let b : ⊥ = grind (arith, e) in b); box = (empty-ok (PageIn frames) 0, tt) },
  record { count = λ e. s.0; root = λ e. s.1; place = tt; gate = λ frame e. absurd (let b : ⊥ = grind (arith, e) in b); box = (empty-ok (PageIn frames) 0, tt) },
)
