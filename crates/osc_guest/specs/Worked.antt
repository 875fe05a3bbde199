-- Instructions worked through, step by step.
use Rattle.std.specs.Prelude.{ℕ, zero, suc, ◌≡◌, Bool, true, false, Option, Some, None, List, [], ◌∷◌, ◌++◌, take, replicate}
use Rattle.std.specs.Option.{option_to_list}
use Rattle.osc_word.specs.declared.orders.Start as start
use Rattle.osc_word.specs.declared.orders.Order.TheVariants.{Empty}
use Rattle.osc_word.specs.declared.job_list.WordAt.{WordAt}
use Rattle.osc_word.specs.declared.calls.Request.TheVariants as request
use Rattle.osc_word.specs.declared.calls.Call.TheVariants as call
use Rattle.osc_word.specs.declared.calls.Fault.TheVariants as fault
use Rattle.osc_word.specs.declared.steps.Choice.{Choice}
use Rattle.osc_word.specs.declared.steps.Choice.TheVariants.{Plain, Success, Fail}
use Rattle.osc_word.specs.declared.steps.Access.TheVariants as labelled
use Rattle.osc_word.specs.Registers.{register, with_register}
use Rattle.osc_word.specs.Environment.{call_of}
use Rattle.osc_sv39.specs.declared.entries.Mapping.{Mapping}
use Rattle.osc_rv.specs.declared.instr.AmoOp.TheVariants.{Add}
use Rattle.osc_rv.specs.declared.instr.Width.TheVariants.{W}
use Rattle.osc_rv.specs.Instr.{instr_of}
use Rattle.osc_paging.specs.Boxes.{BoxState, no_entries, filled}
use Rattle.osc_guest.specs.declared.accesses.MemoryAccess.{MemoryAccess}
use Rattle.osc_guest.specs.declared.accesses.What.TheVariants as does
use Rattle.osc_guest.specs.declared.accesses.Reservation.{Reservation}
use Rattle.osc_guest.specs.declared.accesses.Touch.{Touch}
use Rattle.osc_guest.specs.declared.places.Ask.{Ask}
use Rattle.osc_guest.specs.declared.places.Ask.TheVariants as asks
use Rattle.osc_guest.specs.User.{UserHart, handed, user_begin}
use Rattle.osc_guest.specs.Accesses.{store_at, word_stored}
use Rattle.osc_guest.specs.Asks.{ask}
use Rattle.osc_guest.specs.Looking.{reached, looked_up, walked}
use Rattle.osc_guest.specs.Instructions.{executed}
use Rattle.osc_guest.specs.Told.{Told, Box, Word, Gate, OldVersion, Done, told}

-- what a hart asks for, answer by answer
unfoldable pub asks_of : List Told → UserHart → List Ask
asks_of [] h = []
asks_of (t ∷ ts) h = ask h ∷ asks_of ts (told h t).hart

-- the choices of what commits
unfoldable pub choices_of : List Told → UserHart → List Choice
choices_of [] h = []
choices_of (t ∷ ts) h = option_to_list (told h t).choice ++ choices_of ts (told h t).hart

-- the accesses
unfoldable pub touches_of : List Told → UserHart → List Touch
touches_of [] h = []
touches_of (t ∷ ts) h = option_to_list (told h t).touch ++ touches_of ts (told h t).hart

-- the hart after these answers
unfoldable pub after_all : List Told → UserHart → UserHart
after_all [] h = h
after_all (t ∷ ts) h = after_all ts (told h t).hart

-- the registers and what follows them, as far as the examples look
pub record Seen : Type 0 where
  pub a0 : ℕ
  pub a1 : ℕ
  pub t1 : ℕ
  pub pc : ℕ
  pub retired : ℕ
  pub hits : ℕ
  pub walks : ℕ
  pub reserved : Option Reservation
  pub next : Ask

abbrev pub seen_of : UserHart → Seen
seen_of h = record {
  a0 = register h.regs 10;
  a1 = register h.regs 11;
  t1 = register h.regs 6;
  pc = h.pc;
  retired = h.retired;
  hits = h.hits;
  walks = h.walks;
  reserved = h.reservation;
  next = ask h;
}

-- ---- the setting
-- a thread of process 0 in a machine of 64 frames; mostly at 0x10000, with three levels, a0 and t0 set
abbrev pub registers : ℕ → ℕ → List ℕ
registers a0 t0 = with_register (with_register (replicate 32 0) 10 a0) 5 t0

abbrev pub start_at : ℕ → ℕ → List ℕ → start.Start
start_at levels pc regs = record { pid = 0; root = 0; regs = regs; pc = pc; levels = levels; frames = 64 }

-- a thread without arguments
abbrev pub at_pc : ℕ → ℕ → UserHart
at_pc levels pc = user_begin (start_at levels pc (replicate 32 0))

abbrev pub thread : ℕ → ℕ → UserHart
thread a0 t0 = user_begin (start_at 3 0x10000 (registers a0 t0))

-- the code's page stands in frame 4; the data's page, that of 0x1000000010, in frame 22
abbrev pub code_mapping : Mapping
code_mapping = record { frame = 4; bits = record { 0 = 0xDB } }

abbrev pub data_mapping : Mapping
data_mapping = record { frame = 22; bits = record { 0 = 0xD7 } }

abbrev pub empty_box : BoxState
empty_box = record { slots = no_entries; order = Empty }

abbrev pub code_box : BoxState
code_box = record { slots = filled no_entries 0x10 code_mapping; order = Empty }

abbrev pub full_box : BoxState
full_box = record { slots = filled (filled no_entries 0x10 code_mapping) 0x1000000 data_mapping; order = Empty }

abbrev pub word_of_frame : ℕ → ℕ → WordAt
word_of_frame frame index = record { frame = frame; index = index }

abbrev pub reserved : ℕ → Option Reservation
reserved version = Some (record { address = 0x1000000010; width = 8; frame = 22; version = version })

-- the words that hold the instructions at 0x10000; the one at 0x10004 stands in the upper half
abbrev pub addi_word : ℕ
addi_word = 0x0010089300700513

-- accesses of the thread
abbrev pub fetched_at : ℕ → Bool → Touch
fetched_at pc done = record { pid = 0; address = pc; width = 4; kind = labelled.Fetch; done = done }

abbrev pub loaded_at : Bool → Touch
loaded_at done = record { pid = 0; address = 0x1000000010; width = 8; kind = labelled.Load; done = done }

abbrev pub stored_at : Bool → Touch
stored_at done = record { pid = 0; address = 0x1000000010; width = 8; kind = labelled.Store; done = done }

-- ---- addi a0, x0, 7, then addi a7, x0, 1
abbrev pub hit_answers : List Told
hit_answers = Box code_box ∷ Word addi_word ∷ Done ∷ []

-- the fetch hits: three actions
pub record AddiHits : Type 0 where
  pub actions : asks_of hit_answers (thread 0 0) ≡ asks.TakeBox ∷ asks.Load (word_of_frame 4 0) ∷ asks.GiveBox ∷ []
  pub choices : choices_of hit_answers (thread 0 0) ≡ Plain ∷ []
  pub after : seen_of (after_all hit_answers (thread 0 0)) ≡ record {
    a0 = 7;
    a1 = 0;
    t1 = 0;
    pc = 0x10004;
    retired = 1;
    hits = 1;
    walks = 0;
    reserved = None;
    next = asks.TakeBox;
  }

-- tables in frames 1 and 2 lead to the code's page
abbrev pub miss_answers : List Told
miss_answers = Box empty_box ∷ Word 0x401 ∷ Word 0x801 ∷ Word 0x10DB ∷ Word addi_word ∷ Done ∷ []

-- the fetch misses: six actions, and the box that is given has the translation
pub record AddiMisses : Type 0 where
  pub actions : asks_of miss_answers (thread 0 0) ≡ asks.TakeBox ∷ asks.Load (word_of_frame 0 0) ∷ asks.Load (word_of_frame 1 0)
      ∷ asks.Load (word_of_frame 2 16) ∷ asks.Load (word_of_frame 4 0) ∷ asks.GiveBox ∷ []
  pub touches : touches_of miss_answers (thread 0 0) ≡ fetched_at 0x10000 true ∷ []
  pub after : seen_of (after_all miss_answers (thread 0 0)) ≡ record {
    a0 = 7;
    a1 = 0;
    t1 = 0;
    pc = 0x10004;
    retired = 1;
    hits = 0;
    walks = 1;
    reserved = None;
    next = asks.TakeBox;
  }
  pub box : handed (after_all (take 5 miss_answers) (thread 0 0)) ≡ code_box

-- with four levels of tables, in frames 1, 2 and 3 below the root, it takes one action more
abbrev pub four_answers : List Told
four_answers = Box empty_box ∷ Word 0x401 ∷ Word 0x801 ∷ Word 0xC01 ∷ Word 0x10DB ∷ Word addi_word ∷ Done ∷ []

pub record AddiMissesFour : Type 0 where
  pub actions : asks_of four_answers (at_pc 4 0x10000) ≡ asks.TakeBox ∷ asks.Load (word_of_frame 0 0) ∷ asks.Load (word_of_frame 1 0)
      ∷ asks.Load (word_of_frame 2 0) ∷ asks.Load (word_of_frame 3 16) ∷ asks.Load (word_of_frame 4 0) ∷ asks.GiveBox ∷ []
  pub choices : choices_of four_answers (at_pc 4 0x10000) ≡ Plain ∷ []
  pub touches : touches_of four_answers (at_pc 4 0x10000) ≡ fetched_at 0x10000 true ∷ []
  pub box : handed (after_all (take 6 four_answers) (at_pc 4 0x10000)) ≡ code_box

-- ---- sd t0, 0(a0), where the fetch hits and the data's page is not in the cache
abbrev pub sd_answers : List Told
sd_answers = Box code_box ∷ Word 0x00553023 ∷ Word 0x401 ∷ Word 0x801 ∷ Word 0x58D7 ∷ Gate 5 ∷ Word 77 ∷ Done ∷ Done ∷ Done ∷ []

pub record SdMisses : Type 0 where
  pub actions : asks_of sd_answers (thread 0x1000000010 9) ≡ asks.TakeBox ∷ asks.Load (word_of_frame 4 0)
      ∷ asks.Load (word_of_frame 0 64) ∷ asks.Load (word_of_frame 1 0) ∷ asks.Load (word_of_frame 2 0)
      ∷ asks.TakeGate 22 None ∷ asks.Load (word_of_frame 22 2) ∷ asks.Store (word_of_frame 22 2) 9 ∷ asks.OpenGate 22 6
      ∷ asks.GiveBox ∷ []
  pub choices : choices_of sd_answers (thread 0x1000000010 9) ≡ Plain ∷ []
  pub touches : touches_of sd_answers (thread 0x1000000010 9) ≡ fetched_at 0x10000 true ∷ stored_at true ∷ []
  pub after : seen_of (after_all sd_answers (thread 0x1000000010 9)) ≡ record {
    a0 = 0x1000000010;
    a1 = 0;
    t1 = 0;
    pc = 0x10004;
    retired = 1;
    hits = 1;
    walks = 1;
    reserved = None;
    next = asks.TakeBox;
  }

-- ---- ld t1, 0(a0), where both pages are in the cache
abbrev pub ld_answers : List Told
ld_answers = Box full_box ∷ Word 0x00053303 ∷ Word 9 ∷ Done ∷ []

pub record LdHits : Type 0 where
  pub actions : asks_of ld_answers (thread 0x1000000010 0) ≡ asks.TakeBox ∷ asks.Load (word_of_frame 4 0)
      ∷ asks.Load (word_of_frame 22 2) ∷ asks.GiveBox ∷ []
  pub touches : touches_of ld_answers (thread 0x1000000010 0) ≡ fetched_at 0x10000 true ∷ loaded_at true ∷ []
  pub after : seen_of (after_all ld_answers (thread 0x1000000010 0)) ≡ record {
    a0 = 0x1000000010;
    a1 = 0;
    t1 = 9;
    pc = 0x10004;
    retired = 1;
    hits = 2;
    walks = 0;
    reserved = None;
    next = asks.TakeBox;
  }

-- the same where the page is not mapped any more: the fault is found by the first entry, and the end of
-- the process is called
abbrev pub lost_answers : List Told
lost_answers = Box code_box ∷ Word 0x00053303 ∷ Word 0 ∷ Done ∷ []

pub record LdFaults : Type 0 where
  pub actions : asks_of lost_answers (thread 0x1000000010 0) ≡ asks.TakeBox ∷ asks.Load (word_of_frame 4 0)
      ∷ asks.Load (word_of_frame 0 64) ∷ asks.GiveBox ∷ []
  pub choices : choices_of lost_answers (thread 0x1000000010 0) ≡ Plain ∷ []
  pub touches : touches_of lost_answers (thread 0x1000000010 0) ≡ fetched_at 0x10000 true ∷ loaded_at false ∷ []
  pub after : seen_of (after_all lost_answers (thread 0x1000000010 0)) ≡ record {
    a0 = 0x1000000010;
    a1 = 0;
    t1 = 0;
    pc = 0x10000;
    retired = 1;
    hits = 1;
    walks = 1;
    reserved = None;
    next = asks.Kernel (request.Call (call.End (fault.Access 13 0x1000000010)));
  }

-- a link to a frame that the machine has not is no translation
abbrev pub beyond_answers : List Told
beyond_answers = Box code_box ∷ Word 0x00053303 ∷ Word 0x10001 ∷ []

pub record LinkBeyondFaults : Type 0 where
  pub touches : touches_of beyond_answers (thread 0x1000000010 0) ≡ fetched_at 0x10000 true ∷ loaded_at false ∷ []

-- ---- lr.d a1, (a0), then sc.d a1, t0, (a0)
abbrev pub lr_answers : List Told
lr_answers = Box full_box ∷ Word 0x185535AF100535AF ∷ Gate 5 ∷ Word 77 ∷ Done ∷ Done ∷ []

abbrev pub sc_answers : List Told
sc_answers = Box full_box ∷ Word 0x185535AF100535AF ∷ Gate 5 ∷ Word 77 ∷ Done ∷ Done ∷ Done ∷ []

pub record LrReserves : Type 0 where
  pub actions : asks_of lr_answers (thread 0x1000000010 9) ≡ asks.TakeBox ∷ asks.Load (word_of_frame 4 0) ∷ asks.TakeGate 22 None
      ∷ asks.Load (word_of_frame 22 2) ∷ asks.OpenGate 22 5 ∷ asks.GiveBox ∷ []
  pub after : seen_of (after_all lr_answers (thread 0x1000000010 9)) ≡ record {
    a0 = 0x1000000010;
    a1 = 77;
    t1 = 0;
    pc = 0x10004;
    retired = 1;
    hits = 2;
    walks = 0;
    reserved = reserved 5;
    next = asks.TakeBox;
  }

-- with nothing between them it stores and gives 0
pub record ScSucceeds : Type 0 where
  pub actions : asks_of sc_answers (after_all lr_answers (thread 0x1000000010 9)) ≡ asks.TakeBox ∷ asks.Load (word_of_frame 4 0)
      ∷ asks.TakeGate 22 (Some 5) ∷ asks.Load (word_of_frame 22 2) ∷ asks.Store (word_of_frame 22 2) 9 ∷ asks.OpenGate 22 6
      ∷ asks.GiveBox ∷ []
  pub choices : choices_of sc_answers (after_all lr_answers (thread 0x1000000010 9)) ≡ Success ∷ []
  pub touches : touches_of sc_answers (after_all lr_answers (thread 0x1000000010 9)) ≡ fetched_at 0x10004 true ∷ stored_at true ∷ []
  pub after : seen_of (after_all sc_answers (after_all lr_answers (thread 0x1000000010 9))) ≡ record {
    a0 = 0x1000000010;
    a1 = 0;
    t1 = 0;
    pc = 0x10008;
    retired = 2;
    hits = 4;
    walks = 0;
    reserved = None;
    next = asks.TakeBox;
  }

-- the gate has another version than the LR found: it stores nothing and gives 1, whatever the word is
abbrev pub outdated_answers : List Told
outdated_answers = Box full_box ∷ Word 0x185535AF100535AF ∷ OldVersion ∷ Done ∷ []

pub record ScOutdated : Type 0 where
  pub actions : asks_of outdated_answers (after_all lr_answers (thread 0x1000000010 9)) ≡ asks.TakeBox
      ∷ asks.Load (word_of_frame 4 0) ∷ asks.TakeGate 22 (Some 5) ∷ asks.GiveBox ∷ []
  pub choices : choices_of outdated_answers (after_all lr_answers (thread 0x1000000010 9)) ≡ Fail ∷ []
  pub touches : touches_of outdated_answers (after_all lr_answers (thread 0x1000000010 9)) ≡ fetched_at 0x10004 true ∷ []
  pub after : seen_of (after_all outdated_answers (after_all lr_answers (thread 0x1000000010 9))) ≡ record {
    a0 = 0x1000000010;
    a1 = 1;
    t1 = 0;
    pc = 0x10008;
    retired = 2;
    hits = 4;
    walks = 0;
    reserved = None;
    next = asks.TakeBox;
  }

-- without a reservation it takes no gate: it fails in the step that shows its frame
abbrev pub unreserved_answers : List Told
unreserved_answers = Box full_box ∷ Word 0x185535AF ∷ Done ∷ []

pub record ScUnreserved : Type 0 where
  pub actions : asks_of unreserved_answers (thread 0x1000000010 9) ≡ asks.TakeBox ∷ asks.Load (word_of_frame 4 0) ∷ asks.GiveBox ∷ []
  pub choices : choices_of unreserved_answers (thread 0x1000000010 9) ≡ Fail ∷ []
  pub after : seen_of (after_all unreserved_answers (thread 0x1000000010 9)) ≡ record {
    a0 = 0x1000000010;
    a1 = 1;
    t1 = 0;
    pc = 0x10004;
    retired = 1;
    hits = 2;
    walks = 0;
    reserved = None;
    next = asks.TakeBox;
  }

-- ---- parts of words
abbrev pub add_one : ℕ → MemoryAccess
add_one address = record { address = address; width = 4; rd = 0; what = does.Amo Add W 1 }

-- so many times amoadd.w of 1 at the low half of a word
unfoldable pub added : ℕ → ℕ → ℕ
added zero word = word
added (suc times) word = added times (word_stored (add_one 0x1000000010) word)

pub record PartsKept : Type 0 where
  -- the upper half stays, also where the lower one wraps round
  pub amo : added 4000 0xFFFFFFFF00000000 ≡ 0xFFFFFFFF00000FA0
  pub wrapped : added 1 0x01234567FFFFFFFF ≡ 0x0123456700000000
  pub upper : word_stored (add_one 0x1000000014) 0x01234567FFFFFFFF ≡ 0x01234568FFFFFFFF
  pub byte : word_stored (store_at 1 0x1000000013 0xAA) 0x8877665544332211 ≡ 0x88776655AA332211
  pub half : word_stored (store_at 2 0x1000000016 0xAABB) 0x8877665544332211 ≡ 0xAABB665544332211
  pub whole : word_stored (store_at 8 0x1000000010 7) 0x8877665544332211 ≡ 7

-- what the examples compute with
unfoldable pub worked : Unit {0}
unfolding ask told reached looked_up walked executed call_of no_entries instr_of asks_of choices_of touches_of after_all added
worked = tt
