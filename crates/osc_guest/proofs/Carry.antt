-- What was true of all that a hart was told stays true of what it has.
use Rattle.std.proofs.Common.{ℕ, zero, suc, ◌<◌, ◌≡◌, ◌⊎◌, inl, inr, ⊎_elim, replicate, get_or, set, Bool, true, false, Option, Some, None, List, [], ◌∷◌, arith, refl, subst, nat_lt, ◌&&◌, ◌%◌, ◌==◌, ◌-◌, if◌then◌else◌}
use Rattle.std.proofs.lemmas.Bool.Decides.{nat_tests}
use Rattle.osc_word.specs.declared.calls.Request.TheVariants as request
use Rattle.osc_word.specs.declared.calls.Resume.{Resume}
use Rattle.osc_word.specs.declared.calls.Resume.TheVariants as resume
use Rattle.osc_word.specs.declared.orders.Order.{Order}
use Rattle.osc_word.specs.declared.orders.Order.TheVariants as order
use Rattle.osc_sv39.specs.declared.entries.Access.{Access}
use Rattle.osc_sv39.specs.declared.entries.Mapping.{Mapping}
use Rattle.osc_sv39.specs.declared.entries.PteEntry.{PteEntry}
use Rattle.osc_sv39.specs.declared.entries.PteEntry.TheVariants.{Table, Leaf}
use Rattle.osc_sv39.specs.Entries.{entry_of, is_allowed}
use Rattle.osc_sv39.specs.Walk.{is_canonical}
use Rattle.osc_paging.specs.declared.CacheEntry.{CacheEntry}
use Rattle.osc_paging.specs.declared.Look.{Look}
use Rattle.osc_paging.specs.declared.Look.TheVariants.{Hit, Miss}
use Rattle.osc_paging.specs.Boxes.{BoxState, entry_in, filled, look, no_entries, seen_in, slot_of}
use Rattle.osc_rv.specs.declared.instr.Instr.{Instr}
use Rattle.osc_rv.specs.Instr.{instr_of}
use Rattle.osc_isa.specs.declared.IntDone.{IntDone}
use Rattle.osc_isa.specs.declared.IntDone.TheVariants as done
use Rattle.osc_isa.specs.Integer.{done_of}
use Rattle.osc_isa.specs.Traps.{Trap}
use Rattle.osc_guest.specs.declared.accesses.MemoryAccess.{MemoryAccess}
use Rattle.osc_guest.specs.declared.accesses.What.{What}
use Rattle.osc_guest.specs.declared.accesses.What.TheVariants as does
use Rattle.osc_guest.specs.declared.places.After.{After}
use Rattle.osc_guest.specs.declared.places.After.TheVariants as after
use Rattle.osc_guest.specs.declared.places.Place.{Place}
use Rattle.osc_guest.specs.declared.places.Place.TheVariants as at
use Rattle.osc_guest.specs.declared.places.Stage.{Stage}
use Rattle.osc_guest.specs.declared.places.Stage.TheVariants as stage
use Rattle.osc_guest.specs.User.{UserHart, Answered, box_or_new, cache_of, risen, starting}
use Rattle.osc_guest.specs.Accesses.{access_of, alignment_trap, fetch_at, found_by, kind_of, access_page, reserved_version}
use Rattle.osc_guest.specs.Looking.{access_begun, box_filled, first_stage, leaf_found, looked_up, reached, seen, walked}
use Rattle.osc_guest.specs.Instructions.{accessing, decoded, executed, unless_misaligned}
use Rattle.osc_guest.specs.Orders.{begun, holding, obeyed, ordered}
use Rattle.osc_guest.specs.Told.{Told, Box, Word, Gate, OldVersion, Resumed, Done, gated, given, resumed, told, told_at}
use Rattle.osc_guest.specs.Carry.{Pages, Tabs, CacheOk, RootOk, HartOk, EntryOk, RunBoxOk, IdleBoxOk, ToldOk, Carries}
use Rattle.osc_guest.specs.Hands.{start_in}

-- ---- caches
abbrev no_entry : Option CacheEntry
no_entry = None

none_in : (n j : ℕ) → get_or (replicate n no_entry) j no_entry ≡ no_entry
none_in zero j = refl
none_in (suc n) zero = refl
none_in (suc n) (suc j) = none_in n j

-- an emptied cache has no page
pub empty-ok : (Page : Pages) (pid : ℕ) → CacheOk Page pid no_entries
unfolding no_entries
empty-ok Page pid slot entry e = absurd (let n = none_in 32 slot in let b : ⊥ = grind (arith, e, n) in b)

-- what stands in a list after a write was written or stood there before
stands : (xs : List (Option CacheEntry)) (i j : ℕ) (y : Option CacheEntry) (entry : CacheEntry)
    → get_or (set xs i y) j None ≡ Some entry → (y ≡ Some entry) ⊎ (get_or xs j None ≡ Some entry)
stands [] i j y entry e = inr e
stands (x ∷ xs) zero zero y entry e = inl e
stands (x ∷ xs) zero (suc j) y entry e = inr e
stands (x ∷ xs) (suc i) zero y entry e = inr e
stands (x ∷ xs) (suc i) (suc j) y entry e = stands xs i j y entry e

module _ (Page : Pages) where
  filled-ok : (pid page : ℕ) (slots : List (Option CacheEntry)) (mapping : Mapping)
      → Page pid page mapping.frame → CacheOk Page pid slots → CacheOk Page pid (filled slots page mapping)
  filled-ok pid page slots mapping new ok slot entry e =
      ⊎_elim (λ f. subst (λ (x : CacheEntry). Page pid x.page x.mapping.frame) (same f) new) (λ old. ok slot entry old)
      (stands slots (slot_of page) slot (Some (record { page = page; mapping = mapping })) entry e)
    where
      same : Some (record { page = page; mapping = mapping }) ≡ Some entry → record { page = page; mapping = mapping } ≡ entry
      same f = cc

  -- a hit is an entry for the page
  hit-ok : (pid page : ℕ) (found : Option CacheEntry) (access : Access) (frame : ℕ)
      → ((entry : CacheEntry) → found ≡ Some entry → Page pid entry.page entry.mapping.frame)
      → seen_in found page access ≡ Hit frame → Page pid page frame
  hit-ok pid page None access frame ok e = absurd (let b : ⊥ = grind (arith, e) in b)
  hit-ok pid page (Some entry) access frame ok e =
      go (entry.page == page) (is_allowed entry.mapping.bits.0 access) refl e
    where
      go : (one two : Bool) → (entry.page == page) ≡ one → (if one && two then Hit entry.mapping.frame else Miss) ≡ Hit frame → Page pid page frame
      go true true s d =
          let p : entry.page ≡ page = grind (arith, nat_tests, s) in
          let f : entry.mapping.frame ≡ frame = grind (arith, d) in
          subst (λ q. Page pid q frame) p (subst (λ g. Page pid entry.page g) f (ok entry refl))
      go true false s d = absurd (let b : ⊥ = grind (arith, d) in b)
      go false two s d = absurd (let b : ⊥ = grind (arith, d) in b)

  box_filled-ok : (pid page : ℕ) (mapping : Mapping) (held : Option BoxState) → Page pid page mapping.frame
      → CacheOk Page pid (box_or_new held).slots → CacheOk Page pid (box_or_new (box_filled page mapping held)).slots
  box_filled-ok pid page mapping None new ok = ok
  box_filled-ok pid page mapping (Some box) new ok = filled-ok pid page box.slots mapping new ok

-- ---- the pieces of a turn
module _ (Page : Pages) (Tab : Tabs) where
  abbrev Base : UserHart → Type 0
  Base h = RootOk Tab h.levels h.pid h.root × CacheOk Page h.pid (cache_of h)

  choose : (test : Bool) (a b : Answered) → (test ≡ true → HartOk Page Tab a.hart) → HartOk Page Tab b.hart
      → HartOk Page Tab (if test then a else b).hart
  choose true a b k l = k refl
  choose false a b k l = l

  begun_at-ok : (s : Option Stage) (access : MemoryAccess) (frame : ℕ) (h : UserHart) → Page h.pid (access_page access) frame
      → Base h → HartOk Page Tab (access_begun s access frame h).hart
  begun_at-ok None access frame h p b = (tt, tt, b.1)
  begun_at-ok (Some stage) access frame h p b = (b.0, p, b.1)

  reached-ok : (access : MemoryAccess) (frame : ℕ) (h : UserHart) → Page h.pid (access_page access) frame → Base h
      → HartOk Page Tab (reached access frame h).hart
  unfolding reached
  reached-ok access frame h p b =
      begun_at-ok (first_stage access.what (reserved_version h.reservation access frame)) access frame h p b

  seen-ok : (access : MemoryAccess) (found : Look) (h : UserHart)
      → ((frame : ℕ) → found ≡ Hit frame → Page h.pid (access_page access) frame) → Tab h.pid (h.levels - 1) (access_page access) h.root
      → Base h → HartOk Page Tab (seen access found h).hart
  seen-ok access (Hit frame) h p t b = reached-ok access frame (record h { hits = risen h.hits }) (p frame refl) b
  seen-ok access Miss h p t b = (b.0, t, b.1)

  looked_up-ok : (access : MemoryAccess) (h : UserHart) → Base h → HartOk Page Tab (looked_up access h).hart
  unfolding looked_up
  looked_up-ok access h b =
      choose (is_canonical h.levels (access_page access)) _ _
      (λ e. seen-ok access (look (cache_of h) (access_page access) (kind_of access.what)) h
      (λ frame f. hit-ok Page h.pid (access_page access) (entry_in (cache_of h) (slot_of (access_page access))) (kind_of access.what) frame (b.1 (slot_of (access_page access))) f)
      (b.0 (access_page access) e) b)
      (tt, tt, b.1)

  leaf-ok : (access : MemoryAccess) (m : Mapping) (h : UserHart) → (m.frame < h.frames → Page h.pid (access_page access) m.frame)
      → Base h → HartOk Page Tab (leaf_found access m h).hart
  leaf-ok access m h p b =
      choose (nat_lt m.frame h.frames && is_allowed m.bits.0 (kind_of access.what)) _ _
      (λ e. let less : m.frame < h.frames = grind (arith, nat_tests, e) in
      reached-ok access m.frame (record h { held = box_filled (access_page access) m h.held }) (p less)
      (b.0, box_filled-ok Page h.pid (access_page access) m h.held (p less) b.1)) (tt, tt, b.1)

  walked-ok : (access : MemoryAccess) (level : ℕ) (entry : PteEntry) (h : UserHart)
      → EntryOk Page Tab h.frames h.pid (access_page access) level entry → Base h → HartOk Page Tab (walked access level entry h).hart
  unfolding walked
  walked-ok access zero (Leaf frame bits) h p b = leaf-ok access (record { frame = frame; bits = bits }) h p b
  walked-ok access (suc level) (Table frame) h t b =
      choose (nat_lt frame h.frames) _ _ (λ e. (b.0, t (let less : frame < h.frames = grind (arith, nat_tests, e) in less), b.1)) (tt, tt, b.1)
  walked-ok access zero _ h p b = (tt, tt, b.1)
  walked-ok access (suc level) _ h p b = (tt, tt, b.1)

  aligned-ok : (trap : Option Trap) (access : MemoryAccess) (h : UserHart) → Base h → HartOk Page Tab (unless_misaligned trap access h).hart
  aligned-ok (Some trap) access h b = (tt, tt, b.1)
  aligned-ok None access h b = looked_up-ok access h b

  accessing-ok : (access : Option MemoryAccess) (h : UserHart) → Base h → HartOk Page Tab (accessing access h).hart
  accessing-ok None h b = (tt, tt, b.1)
  accessing-ok (Some access) h b = aligned-ok (alignment_trap access) access h b

  executed-ok : (i : Instr) (does : IntDone) (h : UserHart) → Base h → HartOk Page Tab (executed i does h).hart
  unfolding executed
  executed-ok i (done.Load rd kind address) h b = accessing-ok (access_of i (done.Load rd kind address)) h b
  executed-ok i (done.Store width address value) h b = accessing-ok (access_of i (done.Store width address value)) h b
  executed-ok i (done.Atomic address operand) h b = accessing-ok (access_of i (done.Atomic address operand)) h b
  executed-ok i _ h b = (tt, tt, b.1)

  decoded-ok : (found : Option Instr) (h : UserHart) → Base h → HartOk Page Tab (decoded found h).hart
  decoded-ok None h b = (tt, tt, b.1)
  decoded-ok (Some i) h b = executed-ok i (done_of i h.regs h.pc) h b

  begun-ok : (h : UserHart) → Base h → HartOk Page Tab (begun h).hart
  begun-ok h b = choose (h.pc % 4 == 0) _ _ (λ e. looked_up-ok (fetch_at h.pc) h b) (tt, tt, b.1)

  -- ---- the answers
  run-ok : (o : Order) (box : BoxState) (h : UserHart) → RunBoxOk Page Tab h (record box { order = o })
      → HartOk Page Tab (ordered true o box h).hart
  run-ok order.Empty box h c = begun-ok (holding box h) c
  run-ok (order.Start start) box h c = begun-ok (holding box h) c
  run-ok order.Stop box h c = (tt, tt, c.1)
  run-ok order.Over box h c = (tt, tt, c.1)

  idle-ok : (o : Order) (box : BoxState) (h : UserHart) → IdleBoxOk Page Tab h.pid (start_in o) box.slots
      → HartOk Page Tab (ordered false o box h).hart
  idle-ok order.Empty box h c = (tt, tt, c)
  idle-ok (order.Start start) box h c = begun-ok (starting start (holding (obeyed box) h)) c
  idle-ok order.Stop box h c = (tt, tt, c)
  idle-ok order.Over box h c = (tt, tt, c)

  gated-ok : (what : What) (access : MemoryAccess) (frame version word : ℕ) (h : UserHart) → Page h.pid (access_page access) frame
      → Base h → HartOk Page Tab (gated what access frame version word h).hart
  gated-ok (does.Lr width) access frame version word h p b = (tt, tt, b.1)
  gated-ok _ access frame version word h p b = (b.0, p, b.1)

  given-ok : (follows : After) (h : UserHart) → HartOk Page Tab (given follows h)
  given-ok after.Run h = (tt, tt, empty-ok Page h.pid)
  given-ok (after.Call asked) h = (tt, tt, empty-ok Page h.pid)
  given-ok after.Idle h = (tt, tt, empty-ok Page h.pid)
  given-ok after.Rest h = (tt, tt, empty-ok Page h.pid)

  resumed-ok : (said : Resume) (h : UserHart) → HartOk Page Tab h → HartOk Page Tab (resumed said h)
  resumed-ok (resume.Return value) h k = (tt, tt, k.2)
  resumed-ok resume.Again h k = k
  resumed-ok resume.Idle h k = (tt, tt, k.2)
  resumed-ok (resume.Fault fault) h k = (tt, tt, k.2)

  told-ok : (p : Place) (h : UserHart) (t : Told) → h.place ≡ p → HartOk Page Tab (record h { place = p }) → HartOk Page Tab h
      → ToldOk Page Tab h p t → HartOk Page Tab (told_at p h t).hart
  told-ok at.Run h (Box box) e f k g = run-ok box.order box h g
  told-ok at.Idle h (Box box) e f k g = idle-ok box.order box h g
  told-ok (at.Walk access level table) h (Word word) e f k g = walked-ok access level (entry_of word) h g (f.0, f.2)
  told-ok (at.Access access frame stage.Fetch) h (Word word) e f k g = decoded-ok (instr_of (found_by access word)) h (f.0, f.2)
  told-ok (at.Access access frame stage.Load) h (Word word) e f k g = (tt, tt, f.2)
  told-ok (at.Access access frame (stage.TakeGate only)) h (Gate version) e f k g = f
  told-ok (at.Access access frame (stage.TakeGate (Some only))) h OldVersion e f k g = (tt, tt, f.2)
  told-ok (at.Access access frame (stage.TakeGate None)) h OldVersion e f k g = k
  told-ok (at.Access access frame (stage.GatedLoad version)) h (Word word) e f k g =
      gated-ok access.what access frame version word h f.1 (f.0, f.2)
  told-ok (at.Access access frame (stage.GatedStore version found)) h Done e f k g = (tt, tt, f.2)
  told-ok (at.Access access frame _) h t e f k g = k
  told-ok (at.OpenGate frame version) h Done e f k g = (tt, tt, f.2)
  told-ok (at.GiveBox follows) h Done e f k g = given-ok follows h
  told-ok (at.Call request.Idle) h (Resumed said) e f k g = (tt, tt, f.2)
  told-ok (at.Call (request.Call call)) h (Resumed said) e f k g = resumed-ok said h k
  told-ok p h t e f k g = k

pub carries : (Page : Pages) (Tab : Tabs) → Carries Page Tab
unfolding told
carries Page Tab h t k g = told-ok Page Tab h.place h t refl k k g
