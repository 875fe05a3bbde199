-- What a source that was read to its end gave, and what is due for it.
use Rattle.std.specs.Prelude.{◌≢◌, nat_lt, if◌then◌else◌, Bool, Vec}
use Rattle.std.specs.declared.alloc.Global.{Global}
use Rattle.std.proofs.Common.{◌≡◌, ℕ, ◌<◌, ◌≤◌, true, false, List, [], ◌++◌, length, drop, None, Some, Ok, Err, refl, sym, ◌∙◌, ap, subst, inl, inr, length-append, append-nil, arith}
use Rattle.std.proofs.Math.Seq.{drop-append_seam}
use Rattle.std.proofs.Math.Nat.{eq-or-lt_of_le}
use Rattle.std.proofs.lemmas.List.{drop_all}
use Rattle.std.proofs.lemmas.Bool.Decides.{nat_tests}
use Rattle.std.specs.declared.option.Option.{Option}
use Rattle.std.specs.declared.result.Result.{Result}
use Rattle.osc_outside.specs.Bytes.{Consumes}
use Rattle.osc_outside.proofs.KnownBytes.{Consumes-told}
use Rattle.osc_image.specs.Image.{Image, page_count}
use Rattle.osc_image.specs.declared.ImageFault.{ImageFault}
use Rattle.osc_image.specs.declared.ImageFault.TheVariants as fault
use Rattle.osc_image.specs.Form.{header_fault, image_of}
use Rattle.osc_assemble.specs.declared.TextFault.{TextFault}
use Rattle.osc_assemble.specs.declared.TextFault.TheVariants as text_fault
use Rattle.osc_assemble.specs.Answer.{Means, Refuses}
use Rattle.osc_listing.specs.Listing.{listing}
use Rattle.osc_cli.specs.declared.task.Task.{Task}
use Rattle.osc_cli.specs.declared.task.Mode.{Mode}
use Rattle.osc_cli.specs.declared.task.Mode.TheVariants.{Run, Seed, Object, Gen, Asm, Disasm}
use Rattle.osc_image.specs.Frames.{needed_frames}
use Rattle.osc_machine.specs.declared.Ending.{Ending}
use Rattle.osc_machine.specs.declared.Ending.TheVariants as ending
use Rattle.osc_machine.specs.Parts.{State}
use Rattle.osc_machine.specs.Start.{start_of}
use Rattle.osc_machine.specs.Run.{run}
use Rattle.osc_machine.specs.Views.{ending_of, machine_over}
use Rattle.osc_seed.specs.Seeded.{picks_made}
use Rattle.osc_top.specs.declared.outcome.Outcome.{Outcome}
use Rattle.osc_top.specs.declared.outcome.Outcome.TheVariants.{UnknownWords, BadOption, BadImage, NoRoom, SourceFault, NoMemory, Spent, Fault, Exit, BadText, Done}
use Rattle.osc_top.specs.declared.outcome.Verdict.{Verdict}
use Rattle.osc_top.specs.declared.outcome.Refusal.{Refusal}
use Rattle.osc_top.specs.declared.outcome.Refusal.TheVariants as refusal
use Rattle.osc_top.specs.declared.decision.Decision.{Decision}
use Rattle.osc_top.specs.declared.decision.Decision.TheVariants.{Refused, Made}
use Rattle.osc_top.specs.Due.{Due, due_of, image_due, is_judged, judgement, outcome_of, over_due, refused, run_due, HasGuestStatus}
use Rattle.osc_top.specs.Making.{done, file_due, listed_due, listing_due, IsAssembled, IsDue, IsDueIn}
use Rattle.osc_top.specs.Answer.{IsRead, HasFile, TakesFront, FromFile, TaskCause, TaskDecided}
use Rattle.osc_top.specs.Loading.{IsLoaded, Loads, TakesPart, longest_read}
use Rattle.osc_top.specs.Deciding.{due_in, Decides, DecidesFor, HasBytes, IsDecided, Obtains}

-- a file that is too long is no image
image_of-long : (file : List ℕ) → 16777216 < length file → image_of file ≡ Err fault.TooLong
unfolding image_of header_fault
image_of-long file long = let test : nat_lt 16777216 (length file) ≡ true = grind (arith, nat_tests) in rw test refl

image_of-more : (file more : List ℕ) → length file ≡ longest_read → image_of file ≡ image_of (file ++ more)
image_of-more file more long =
    let longer : 16777216 < length (file ++ more) = rw length-append (omega arith) in
    let this : 16777216 < length file = omega arith in
    image_of-long file this ∙ sym (image_of-long (file ++ more) longer)

-- what is due for a file that is too long does not depend on what follows
due_of-more : (task : Task) (file more : List ℕ) → length file ≡ longest_read → due_of task file ≡ due_of task (file ++ more)
unfolding due_of
due_of-more task file more long = ap (image_due task) (image_of-more file more long)

listed_due-more : (task : Task) (file more : List ℕ) → length file ≡ longest_read → listed_due task file ≡ listed_due task (file ++ more)
unfolding listed_due
listed_due-more task file more long = ap (listing_due task) (image_of-more file more long)

Means-more : (text more : List ℕ) (answer : Result (List ℕ) TextFault) → length text ≡ longest_read → Means text answer
    → Means (text ++ more) answer
Means-more text more answer long (inl (above, is)) = inl (rw length-append (omega arith), is)
Means-more text more answer long (inr (inl (within, line, silent, is))) = absurd (omega arith)
Means-more text more answer long (inr (inr (within, put, puts, is))) = absurd (omega arith)

IsDueIn-more : (mode : Mode) (task : Task) (file more : List ℕ) (due : Due) → length file ≡ longest_read → IsDueIn mode task file due
    → IsDueIn mode task (file ++ more) due
IsDueIn-more Run task file more due long is = is ∙ due_of-more task file more long
IsDueIn-more Seed task file more due long is = is ∙ due_of-more task file more long
IsDueIn-more Object task file more due long is = is ∙ due_of-more task file more long
IsDueIn-more Gen task file more due long is = is ∙ due_of-more task file more long
IsDueIn-more Asm task file more due long (answer, means, is) = (answer, Means-more file more answer long means, is)
IsDueIn-more Disasm task file more due long is = is ∙ listed_due-more task file more long

-- the whole of what the source had
record Whole (task : Task) (before after : Option (List ℕ)) (file : List ℕ) : Type 0 where
  all : List ℕ
  same : (due : Due) → IsDue task file due → IsDue task all due
  read : IsRead before after all

ends-untold : (after : Option (List ℕ)) (file : List ℕ) → Consumes None after file → after ≡ None
ends-untold None file taken = refl
ends-untold (Some left) file taken = cc

whole-short : (task : Task) (before : List ℕ) (after : Option (List ℕ)) (file left : List ℕ) → after ≡ Some left → before ≡ file ++ left
    → left ≡ [] → length file ≤ longest_read → Whole task (Some before) after file
whole-short task before after file left known split none bound =
    let same : before ≡ file = split ∙ (ap (λ rest. file ++ rest) none ∙ append-nil file) in
    let short : length before ≤ longest_read = rw same bound in
    record { all = before; same = λ due is. subst (λ bytes. IsDue task bytes due) (sym same) is; read = (refl, known ∙ ap Some (none ∙ sym (drop_all longest_read before short))) }

whole-long : (task : Task) (before : List ℕ) (after : Option (List ℕ)) (file left : List ℕ) → after ≡ Some left → before ≡ file ++ left
    → length file ≡ longest_read → Whole task (Some before) after file
whole-long task before after file left known split long =
    let rest : drop longest_read before ≡ left =
    ap (drop longest_read) split ∙ (ap (λ n. drop n (file ++ left)) (sym long) ∙ drop-append_seam file left) in
    record {
      all = before;
      same = λ due is. subst (λ bytes. IsDue task bytes due) (sym split) (IsDueIn-more task.mode task file left due long is);
      read = (refl, known ∙ ap Some (sym rest));
    }

whole-told : (task : Task) (before : List ℕ) (after : Option (List ℕ)) (file : List ℕ) → IsLoaded (Some before) after file
    → Whole task (Some before) after file
whole-told task before after file loaded =
    let told = Consumes-told before after file loaded.taken in
    elim (eq-or-lt_of_le loaded.bound) [
      | inl exact ↦ whole-long task before after file told.0 told.1 told.2 exact
      | inr short ↦
          let ends = loaded.ends short in
          whole-short task before after file told.0 told.1 told.2 (rw told.1 at ends) loaded.bound
    ]

whole-of : (task : Task) (before after : Option (List ℕ)) (file : List ℕ) → IsLoaded before after file → Whole task before after file
whole-of task None after file loaded = record { all = file; same = λ due is. is; read = ends-untold after file loaded.taken }
whole-of task (Some before) after file loaded = whole-told task before after file loaded

-- ---- the file of a task

reads-source : (mode : Mode) (number : ℕ) (before after : Option (List ℕ)) (file : List ℕ) → mode ≢ Gen → IsRead before after file
    → HasFile mode number before after file
reads-source Run number before after file no_gen read = read
reads-source Seed number before after file no_gen read = read
reads-source Object number before after file no_gen read = read
reads-source Gen number before after file no_gen read = absurd (no_gen refl)
reads-source Asm number before after file no_gen read = read
reads-source Disasm number before after file no_gen read = read

takes-source : (mode : Mode) (before after : Option (List ℕ)) → mode ≢ Gen → TakesPart before after → TakesFront mode before after
takes-source Run before after no_gen taken = taken
takes-source Seed before after no_gen taken = taken
takes-source Object before after no_gen taken = taken
takes-source Gen before after no_gen taken = absurd (no_gen refl)
takes-source Asm before after no_gen taken = taken
takes-source Disasm before after no_gen taken = taken

has-bytes : (task : Task) (before after : Option (List ℕ)) (file : List ℕ) → task.mode ≢ Gen → IsLoaded before after file
    → HasBytes task before after file
has-bytes task before after file no_gen loaded =
    let whole = whole-of task before after file loaded in
    record {
      all = whole.all;
      same = whole.same;
      had = reads-source task.mode task.number before after whole.all no_gen whole.read;
      front = takes-source task.mode before after no_gen (file, loaded.taken);
    }

-- what reading the source to its end comes to, in a mode that reads it
pub Obtains-loads : (task : Task) (before after : Option (List ℕ)) (rose : Type 0) (read : Result (Vec ℕ Global) Refusal) → task.mode ≢ Gen
    → Loads before after rose read → Obtains task before after rose read
Obtains-loads task before after rose (Ok file) no_gen loads = has-bytes task before after file.items no_gen loads
Obtains-loads task before after rose (Err refusal.Source) no_gen loads =
    (loads.0, no_gen, takes-source task.mode before after no_gen loads.1)
Obtains-loads task before after rose (Err refusal.Memory) no_gen loads = takes-source task.mode before after no_gen loads.1

-- what is decided on the file that was had is what its whole is due
pub IsDecided-bytes : (task : Task) (before after : Option (List ℕ)) (file : List ℕ) (d : Decision) → HasBytes task before after file
    → DecidesFor d (IsDue task file) → IsDecided task before after d
IsDecided-bytes task before after file d has decides =
    record {
      file = has.all;
      decides = record { due = decides.due; decides = decides.decides; wanted = has.same decides.due decides.wanted };
      had = has.had;
    }

-- ---- the outcomes that a file can have
FromRun : Outcome → Type 0
FromRun UnknownWords = ⊥
FromRun (BadOption place) = ⊥
FromRun (BadImage fault) = Unit {0}
FromRun (NoRoom needed frames) = Unit {0}
FromRun SourceFault = ⊥
FromRun NoMemory = ⊥
FromRun (Spent picks) = Unit {0}
FromRun Fault = Unit {0}
FromRun (Exit status) = Unit {0}
FromRun (BadText fault) = Unit {0}
FromRun Done = Unit {0}

end-from-run : (end : Option Ending) → FromRun (outcome_of end)
unfolding FromRun
end-from-run None = tt
end-from-run (Some ending.Fault) = tt
end-from-run (Some (ending.Exit status)) = tt

ran-from-run : (task : Task) (picks : ℕ) (s : State) (said : Option Verdict) (over : Bool)
    → FromRun (if over then over_due picks s said else refused (Spent task.picks)).outcome
unfolding FromRun
ran-from-run task picks s said true = end-from-run (ending_of s)
ran-from-run task picks s said false = tt

run-from-run : (task : Task) (image : Image) (start : State) → FromRun (run_due task image start).outcome
run-from-run task image start =
    let picks = picks_made start task.seed task.picks in
    let ran = run start picks in
    ran-from-run task (length picks) ran.state (judgement (is_judged task.mode) image task.config ran.commits) (machine_over ran.state)

room-from-run : (task : Task) (image : Image) (small : Bool)
    → FromRun (if small then refused (NoRoom (needed_frames task.config.levels image) task.config.frames) else run_due task image (start_of image task.config)).outcome
unfolding FromRun
room-from-run task image true = tt
room-from-run task image false = run-from-run task image (start_of image task.config)

image-from-run : (task : Task) (image : Result Image ImageFault) → FromRun (image_due task image).outcome
unfolding FromRun
image-from-run task (Err fault) = tt
image-from-run task (Ok image) = room-from-run task image (nat_lt task.config.frames (needed_frames task.config.levels image))

file-from-run : (task : Task) (file : List ℕ) → FromRun (due_of task file).outcome
unfolding due_of
file-from-run task file = image-from-run task (image_of file)

text-from-run : (answer : Result (List ℕ) TextFault) → FromRun (file_due answer).outcome
unfolding FromRun
text-from-run (Ok file) = tt
text-from-run (Err fault) = tt

pages-from-run : (task : Task) (image : Image) (small : Bool)
    → FromRun (if small then refused (NoRoom (page_count image) task.config.frames) else done (listing image)).outcome
unfolding FromRun
pages-from-run task image true = tt
pages-from-run task image false = tt

listing-from-run : (task : Task) (image : Result Image ImageFault) → FromRun (listing_due task image).outcome
unfolding FromRun
listing-from-run task (Err fault) = tt
listing-from-run task (Ok image) = pages-from-run task image (nat_lt task.config.frames (page_count image))

listed-from-run : (task : Task) (file : List ℕ) → FromRun (listed_due task file).outcome
unfolding listed_due
listed-from-run task file = listing-from-run task (image_of file)

due-from-run : (mode : Mode) (task : Task) (file : List ℕ) (due : Due) → IsDueIn mode task file due → FromRun due.outcome
due-from-run Run task file due is = rw is (file-from-run task file)
due-from-run Seed task file due is = rw is (file-from-run task file)
due-from-run Object task file due is = rw is (file-from-run task file)
due-from-run Gen task file due is = rw is (file-from-run task file)
due-from-run Asm task file due (answer, means, is) = rw is (text-from-run answer)
due-from-run Disasm task file due is = rw is (listed-from-run task file)

cause-of : (task : Task) (before after : Option (List ℕ)) (rose : Type 0) (due : Due) (outcome : Outcome)
    → FromFile task before after due → FromRun outcome → HasGuestStatus outcome → TaskCause task before after rose due outcome
unfolding FromRun
cause-of task before after rose due UnknownWords from from_run guest = absurd from_run
cause-of task before after rose due (BadOption place) from from_run guest = absurd from_run
cause-of task before after rose due SourceFault from from_run guest = absurd from_run
cause-of task before after rose due NoMemory from from_run guest = absurd from_run
cause-of task before after rose due (BadImage fault) from from_run guest = from
cause-of task before after rose due (NoRoom needed frames) from from_run guest = from
cause-of task before after rose due (Spent picks) from from_run guest = from
cause-of task before after rose due Fault from from_run guest = from
cause-of task before after rose due (Exit status) from from_run guest = (guest, from)
cause-of task before after rose due (BadText fault) from from_run guest = from
cause-of task before after rose due Done from from_run guest = from

-- what is due for the file of a task is what was decided
pub TaskDecided-file : (task : Task) (before after : Option (List ℕ)) (rose : Type 0) (d : Decision) → IsDecided task before after d
    → TaskDecided task before after rose (due_in d)
TaskDecided-file task before after rose d decided =
    let gives : IsDue task decided.file (due_in d) =
    subst (λ due. IsDue task decided.file due) (sym decided.decides.decides.gives) decided.decides.wanted in
    cause-of task before after rose (due_in d) (due_in d).outcome
    (record { file = decided.file; gives = gives; had = decided.had })
    (due-from-run task.mode task decided.file (due_in d) gives) decided.decides.decides.guest

-- ---- what a mode does with a file

-- a mode that runs the file
pub runs-due : (mode : Mode) (task : Task) (file : List ℕ) (due : Due) → mode ≢ Asm → mode ≢ Disasm → due ≡ due_of task file
    → IsDueIn mode task file due
runs-due Run task file due no_text no_list is = is
runs-due Seed task file due no_text no_list is = is
runs-due Object task file due no_text no_list is = is
runs-due Gen task file due no_text no_list is = is
runs-due Asm task file due no_text no_list is = absurd (no_text refl)
runs-due Disasm task file due no_text no_list is = absurd (no_list refl)

pub Decides-run : (mode : Mode) (task : Task) (file : List ℕ) (d : Decision) → mode ≢ Asm → mode ≢ Disasm → Decides d (due_of task file)
    → DecidesFor d (IsDueIn mode task file)
Decides-run mode task file d no_text no_list decides =
    record { due = due_of task file; decides = decides; wanted = runs-due mode task file _ no_text no_list refl }

listed-due : (mode : Mode) (task : Task) (file : List ℕ) → mode ≡ Disasm → IsDueIn mode task file (listed_due task file)
listed-due mode task file is = rw is refl

pub Decides-listed : (mode : Mode) (task : Task) (file : List ℕ) (d : Decision) → mode ≡ Disasm → Decides d (listed_due task file)
    → DecidesFor d (IsDueIn mode task file)
Decides-listed mode task file d is decides =
    record { due = listed_due task file; decides = decides; wanted = listed-due mode task file is }

-- a text that was assembled, and one that was refused
pub Decides-file : (text : List ℕ) (file : Vec ℕ Global) → Means text (Ok file.items) → DecidesFor (Made file) (IsAssembled text)
Decides-file text file means =
    record {
      due = done file.items;
      decides = record { gives = refl; guest = tt; sound = tt };
      wanted = (Ok file.items, means, refl);
    }

pub Decides-fault : (text : List ℕ) (why : TextFault) → why ≢ text_fault.Memory → Refuses why text
    → DecidesFor (Refused (BadText why)) (IsAssembled text)
Decides-fault text why some refuses =
    record {
      due = refused (BadText why);
      decides = record { gives = refl; guest = tt; sound = tt };
      wanted = (Err why, means why some refuses, refl);
    }
  where
    means : (why : TextFault) → why ≢ text_fault.Memory → Refuses why text → Means text (Err why)
    means text_fault.TooLong some refuses = refuses
    means (text_fault.Form line) some refuses = refuses
    means (text_fault.Bound line) some refuses = refuses
    means (text_fault.Label line) some refuses = refuses
    means (text_fault.Far line) some refuses = refuses
    means text_fault.FileTooLong some refuses = refuses
    means text_fault.Memory some refuses = absurd (some refl)

pub ruleset text_steps = (Decides-file, Decides-fault)
