-- What the jobs of laid pages make of words that are all 0.
use Rattle.std.proofs.Common.{ℕ, zero, suc, ◌+◌, ◌*◌, ◌/◌, ◌≡◌, ◌≢◌, ◌<◌, ◌==◌, Bool, true, false, cond, Option, Some, None, is_some, List, [], ◌∷◌, ◌++◌, position, slice_set, get_or, arith, refl, ap, sym, ◌∙◌}
use Rattle.std.proofs.lemmas.Bool.Decides.{nat_tests}
use Rattle.std.proofs.lemmas.List.{get_or-set_other}
use Rattle.osc_word.specs.declared.job_list.Job.{Job}
use Rattle.osc_word.specs.declared.job_list.Job.TheVariants.{PutWord, ZeroWords, CopyWords, CopyPart, CopyTable, ClearBox, Tell, ToOut}
use Rattle.osc_sv39.specs.declared.entries.Mapping.{Mapping}
use Rattle.osc_sv39.specs.Walk.{piece, word_at}
use Rattle.osc_paging.specs.declared.TableFrame.{TableFrame}
use Rattle.osc_paging.specs.JobWords.{zeroed, words_done, words_after}
use Rattle.osc_paging.specs.KeptTables.{frame_of, piece_of, is_piece}
use Rattle.osc_paging.specs.TableChanges.{Changed, link, linked, link_all, leaf_put, with_table, table_frame, is_before}
use Rattle.osc_calls.specs.Open.{OpenPage, laid, lay, lay_all}
use Rattle.osc_core.specs.Words.{AllWrite, Writes, no_entry}

-- ---- a job that puts words in tables alone
abbrev pub InTables : List TableFrame → Job → Type 0
InTables ts (PutWord at value) = (at.index < 512) × (is_some (piece_of ts at.frame) ≡ true)
InTables ts (ZeroWords at count) = Unit {0}
InTables ts _ = ⊥

abbrev pub AllInTables : List TableFrame → List Job → Type 0
AllInTables ts [] = Unit {0}
AllInTables ts (job ∷ jobs) = InTables ts job × AllInTables ts jobs

all_more : (ts : List TableFrame) (jobs more : List Job) → AllInTables ts jobs → AllInTables ts more → AllInTables ts (jobs ++ more)
all_more ts [] more a b = b
all_more ts (job ∷ jobs) more a b = (a.0, all_more ts jobs more a.1 b)

-- ---- tables
abbrev Grows : List TableFrame → List TableFrame → Type 0
Grows ts us = (f : ℕ) → is_some (piece_of ts f) ≡ true → is_some (piece_of us f) ≡ true

grown_job : (ts us : List TableFrame) → Grows ts us → (job : Job) → InTables ts job → InTables us job
grown_job ts us g (PutWord at value) i = (i.0, g at.frame i.1)
grown_job ts us g (ZeroWords at count) i = i
grown_job ts us g (CopyWords from to count) i = i
grown_job ts us g (CopyPart from to bytes) i = i
grown_job ts us g (CopyTable from to) i = i
grown_job ts us g (ClearBox hart) i = i
grown_job ts us g (Tell hart) i = i
grown_job ts us g (ToOut at first count) i = i

all_grown : (ts us : List TableFrame) → Grows ts us → (jobs : List Job) → AllInTables ts jobs → AllInTables us jobs
all_grown ts us g [] a = tt
all_grown ts us g (job ∷ jobs) a = (grown_job ts us g job a.0, all_grown ts us g jobs a.1)

more_is : (t : TableFrame) (ts us : List TableFrame) (f : ℕ) → (is_some (piece_of ts f) ≡ true → is_some (piece_of us f) ≡ true)
    → is_some (piece_of (t ∷ ts) f) ≡ true → is_some (piece_of (t ∷ us) f) ≡ true
more_is t ts us f g e = go (t.frame == f) e
  where
    go : (b : Bool) → is_some (cond b (Some t.piece) (piece_of ts f)) ≡ true → is_some (cond b (Some t.piece) (piece_of us f)) ≡ true
    go true e = refl
    go false e = g e

one_more : (new : TableFrame) (ts : List TableFrame) (f : ℕ) → is_some (piece_of ts f) ≡ true → is_some (piece_of (new ∷ ts) f) ≡ true
one_more new ts f e = go (new.frame == f)
  where
    go : (b : Bool) → is_some (cond b (Some new.piece) (piece_of ts f)) ≡ true
    go true = refl
    go false = e

grows_with : (new : TableFrame) (ts : List TableFrame) → Grows ts (with_table new ts)
grows_with new [] f e = absurd (let w : ⊥ = grind (arith, e) in w)
grows_with new (t ∷ ts) f e = go (is_before t.piece new.piece) (grows_with new ts f)
  where
    go : (b : Bool) → (is_some (piece_of ts f) ≡ true → is_some (piece_of (with_table new ts) f) ≡ true) → is_some (piece_of (cond b (t ∷ with_table new ts) (new ∷ t ∷ ts)) f) ≡ true
    go true on = more_is t ts (with_table new ts) f on e
    go false on = one_more new (t ∷ ts) f e

frame_is_table : (ts : List TableFrame) (l n f : ℕ) → frame_of ts l n ≡ Some f → is_some (piece_of ts f) ≡ true
frame_is_table [] l n f e = absurd (let w : ⊥ = grind (arith, e) in w)
frame_is_table (t ∷ ts) l n f e = go (is_piece t.piece l n) e (frame_is_table ts l n f)
  where
    here : (b : Bool) → (t.frame == f) ≡ b → t.frame ≡ f → is_some (cond b (Some t.piece) (piece_of ts f)) ≡ true
    here true d s = refl
    here false d s = absurd (let w : ⊥ = grind (arith, nat_tests, d, s) in w)

    go : (b : Bool) → cond b (Some t.frame) (frame_of ts l n) ≡ Some f → (frame_of ts l n ≡ Some f → is_some (piece_of ts f) ≡ true) → is_some (piece_of (t ∷ ts) f) ≡ true
    go true k on = here (t.frame == f) refl (let s : t.frame ≡ f = cc in s)
    go false k on = one_more t ts f (on k)

-- ---- each change
abbrev pub Tabled : Changed → Type 0
Tabled c = AllInTables c.tables.tables c.jobs

linked_tabled : (l n : ℕ) (o p f : Option ℕ) (c : Changed) → frame_of c.tables.tables (suc l) (n / 512) ≡ p → Tabled c → Tabled (linked l n o p f c)
linked_tabled l n None (Some parent) (Some frame) c e w =
    let g = grows_with (table_frame l n frame) c.tables.tables in
    all_more (with_table (table_frame l n frame) c.tables.tables) c.jobs _ (all_grown c.tables.tables (with_table (table_frame l n frame) c.tables.tables) g c.jobs w)
    (tt, ((omega arith, is_grown l n parent frame c (frame_is_table c.tables.tables (suc l) (n / 512) parent e)), tt))
  where
    is_grown : (l n parent frame : ℕ) (c : Changed) → is_some (piece_of c.tables.tables parent) ≡ true → is_some (piece_of (with_table (table_frame l n frame) c.tables.tables) parent) ≡ true
    is_grown l n parent frame c i = grows_with (table_frame l n frame) c.tables.tables parent i
linked_tabled l n (Some frame) p f c e w = w
linked_tabled l n None None f c e w = w
linked_tabled l n None (Some parent) None c e w = w

link_all_tabled : (l n : ℕ) (c : Changed) → Tabled c → Tabled (link_all l n c)
unfolding link_all
link_all_tabled zero n c w = w
link_all_tabled (suc l) n c w =
    link_all_tabled l n (link l (piece (suc l) n) c)
    (linked_tabled l (piece (suc l) n) (frame_of c.tables.tables l (piece (suc l) n)) (frame_of c.tables.tables (suc l) (piece (suc l) n / 512)) (position (λ b. b) c.free) c refl w)

put_tabled : (n : ℕ) (m : Mapping) (o : Option ℕ) (c : Changed) → frame_of c.tables.tables 0 (n / 512) ≡ o → Tabled c → Tabled (leaf_put n m o c)
put_tabled n m None c e w = w
put_tabled n m (Some t) c e w = all_more c.tables.tables c.jobs _ w ((omega arith, frame_is_table c.tables.tables 0 (n / 512) t e), tt)

laid_tabled : (p : OpenPage) (o : Option ℕ) (c : Changed) → Tabled c → Tabled (laid p o c)
laid_tabled p None c w = w
laid_tabled p (Some frame) c w = put_tabled p.page _ (frame_of c.tables.tables 0 (p.page / 512)) (record c { free = slice_set c.free frame false }) refl w

pub all_tabled : (ps : List OpenPage) (c : Changed) → Tabled c → Tabled (lay_all ps c)
all_tabled [] c w = w
all_tabled (p ∷ ps) c w =
    all_tabled ps (lay p (link_all c.tables.top p.page c))
    (laid_tabled p (position (λ b. b) (link_all c.tables.top p.page c).free) (link_all c.tables.top p.page c) (link_all_tabled c.tables.top p.page c w))

pub tables_write : (ts : List TableFrame) (jobs : List Job) → AllInTables ts jobs → AllWrite jobs
tables_write ts [] w = tt
tables_write ts (job ∷ jobs) w = (go job w.0, tables_write ts jobs w.1)
  where
    go : (job : Job) → InTables ts job → Writes job
    go (PutWord at value) i = tt
    go (ZeroWords at count) i = tt
    go (CopyWords from to count) i = absurd i
    go (CopyPart from to bytes) i = absurd i
    go (CopyTable from to) i = absurd i
    go (ClearBox hart) i = absurd i
    go (Tell hart) i = absurd i
    go (ToOut at first count) i = absurd i

-- ---- a word that is in no table stays 0
put_stays : (ws : List ℕ) (k x v : ℕ) → k ≢ x → get_or ws x 0 ≡ 0 → get_or (slice_set ws k v) x 0 ≡ 0
put_stays ws k x v d e = get_or-set_other ws k x v 0 (λ s. d (sym s)) ∙ e

zero_stays : (ws : List ℕ) (k x : ℕ) → get_or ws x 0 ≡ 0 → get_or (slice_set ws k 0) x 0 ≡ 0
zero_stays [] k x e = e
zero_stays (w ∷ ws) zero zero e = refl
zero_stays (w ∷ ws) zero (suc x) e = e
zero_stays (w ∷ ws) (suc k) zero e = e
zero_stays (w ∷ ws) (suc k) (suc x) e = zero_stays ws k x e

zeroed_stays : (from count : ℕ) (ws : List ℕ) (x : ℕ) → get_or ws x 0 ≡ 0 → get_or (zeroed from count ws) x 0 ≡ 0
unfolding zeroed
zeroed_stays from zero ws x e = e
zeroed_stays from (suc count) ws x e = zeroed_stays (from + 1) count (slice_set ws from 0) x (zero_stays ws from x e)

job_stays : (ts : List TableFrame) (job : Job) (ws : List ℕ) (f i : ℕ) → i < 512 → piece_of ts f ≡ None → InTables ts job → word_at ws f i ≡ 0 → word_at (words_done no_entry job ws) f i ≡ 0
job_stays ts (PutWord at value) ws f i l none j e =
    put_stays ws (at.frame * 512 + at.index) (f * 512 + i) value (λ same. apart (let a = j.0 in let z : at.frame ≡ f = omega (arith, same, a, l) in z)) e
  where
    apart : at.frame ≡ f → ⊥
    apart same = let z : false ≡ true = sym (ap (λ o. is_some o) none) ∙ sym (ap (λ g. is_some (piece_of ts g)) same) ∙ j.1 in let w : ⊥ = grind (arith, z) in w
job_stays ts (ZeroWords at count) ws f i l none j e = zeroed_stays (at.frame * 512 + at.index) count ws (f * 512 + i) e
job_stays ts (CopyWords from to count) ws f i l none j e = absurd j
job_stays ts (CopyPart from to bytes) ws f i l none j e = absurd j
job_stays ts (CopyTable from to) ws f i l none j e = absurd j
job_stays ts (ClearBox hart) ws f i l none j e = absurd j
job_stays ts (Tell hart) ws f i l none j e = absurd j
job_stays ts (ToOut at first count) ws f i l none j e = absurd j

pub words_stay : (ts : List TableFrame) (jobs : List Job) (ws : List ℕ) (f i : ℕ) → i < 512 → piece_of ts f ≡ None → AllInTables ts jobs → word_at ws f i ≡ 0 → word_at (words_after no_entry jobs ws) f i ≡ 0
words_stay ts [] ws f i l none a e = e
words_stay ts (job ∷ jobs) ws f i l none a e = words_stay ts jobs (words_done no_entry job ws) f i l none a.1 (job_stays ts job ws f i l none a.0 e)
