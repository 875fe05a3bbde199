-- Once the jobs of a copy are done, the words agree with the child's tables.
use Rattle.std.proofs.Common.{ℕ, zero, suc, ◌≡◌, ◌≢◌, ◌<◌, ◌≤◌, ◌==◌, ◌^◌, ◌%◌, ◌/◌, ◌+◌, ◌*◌, ◌⊎◌, inl, inr, ⊎_elim, Bool, true, false, cond, if◌then◌else◌, ◌&&◌, IsTrue, List, [], ◌∷◌, Option, Some, None, arith, refl, ap, sym, ◌∙◌, subst, length}
use Rattle.std.specs.Prelude.{map, not, option_map, slice_get, slice_index, Contains}
use Rattle.std.proofs.lemmas.Bool.Decides.{nat_tests}
use Rattle.std.proofs.lemmas.Option.{slice_get_within}
use Rattle.osc_word.specs.declared.job_list.Job.{Job}
use Rattle.osc_word.specs.declared.job_list.Job.TheVariants.{CopyTable}
use Rattle.osc_sv39.specs.declared.flags.PteBits.{PteBits}
use Rattle.osc_sv39.specs.declared.entries.Mapping.{Mapping}
use Rattle.osc_sv39.specs.declared.entries.PteEntry.TheVariants.{Absent, Table, Leaf, Reserved}
use Rattle.osc_sv39.specs.Entries.{word_of, entry_of, is_valid, is_pointer, is_reserved, is_in_range}
use Rattle.osc_sv39.specs.ReadBack.{is_leaf}
use Rattle.osc_sv39.specs.Walk.{word_at}
use Rattle.osc_sv39.proofs.EntriesBack.{leaves_read_back}
use Rattle.osc_sv39.proofs.FlagTests.{entry_of-low}
use Rattle.osc_paging.specs.declared.Piece.{Piece}
use Rattle.osc_paging.specs.declared.TableFrame.{TableFrame}
use Rattle.osc_paging.specs.declared.Mapped.{Mapped}
use Rattle.osc_paging.specs.JobWords.{words_done, words_after}
use Rattle.osc_paging.specs.KeptTables.{KeptTables, mapping_at, frame_of, piece_of, is_piece, child, page_entry, link_entry, word_in}
use Rattle.osc_paging.specs.TableChanges.{renamed, renamed_page, renamed_table}
use Rattle.osc_paging.specs.Agree.{Apart, ReadsAsLeaf}
use Rattle.osc_paging.specs.CopyLaws.{IsTable, WritesElsewhere, AllElsewhere, CanCopy, CopiesTable, AllCopies, CopyingAgrees}
use Rattle.osc_paging.proofs.TableLists.{apart-found, apart-placed}
use Rattle.osc_paging.proofs.Elsewhere.{table_copied_apart, table_copied_here, length-words_done, length-words_after, some_piece, job_elsewhere, jobs_elsewhere_keep, taking_keeps}

-- ---- lists under new names
abbrev pub new_name : List ℕ → ℕ → ℕ
new_name names frame = slice_index names frame

abbrev pub new_mapping : List ℕ → Mapping → Mapping
new_mapping names m = record m { frame = slice_index names m.frame }

pub mapping_at-renamed : (names : List ℕ) (ms : List Mapped) (n : ℕ) → mapping_at (map (renamed_page names) ms) n ≡ option_map (new_mapping names) (mapping_at ms n)
mapping_at-renamed names [] n = refl
mapping_at-renamed names (m ∷ ms) n = pick (m.number == n) (mapping_at-renamed names ms n)
  where
    pick : (b : Bool) → mapping_at (map (renamed_page names) ms) n ≡ option_map (new_mapping names) (mapping_at ms n)
        → cond b (Some (new_mapping names m.mapping)) (mapping_at (map (renamed_page names) ms) n) ≡ option_map (new_mapping names) (cond b (Some m.mapping) (mapping_at ms n))
    pick true h = refl
    pick false h = h

pub frame_of-renamed : (names : List ℕ) (ts : List TableFrame) (l n : ℕ) → frame_of (map (renamed_table names) ts) l n ≡ option_map (new_name names) (frame_of ts l n)
frame_of-renamed names [] l n = refl
frame_of-renamed names (t ∷ ts) l n = pick (is_piece t.piece l n) (frame_of-renamed names ts l n)
  where
    pick : (b : Bool) → frame_of (map (renamed_table names) ts) l n ≡ option_map (new_name names) (frame_of ts l n)
        → cond b (Some (slice_index names t.frame)) (frame_of (map (renamed_table names) ts) l n) ≡ option_map (new_name names) (cond b (Some t.frame) (frame_of ts l n))
    pick true h = refl
    pick false h = h

-- a name of no table stands nowhere
pub renamed_none : (names : List ℕ) (ts : List TableFrame) (f : ℕ) → ((g : ℕ) → piece_of ts g ≢ None → slice_index names g ≢ f) → piece_of (map (renamed_table names) ts) f ≡ None
renamed_none names [] f h = refl
renamed_none names (t ∷ ts) f h =
    let here : (slice_index names t.frame == f) ≡ false = grind (arith, nat_tests, h t.frame there) in
    rw here (renamed_none names ts f (λ g d. h g (later g d (t.frame == g))))
  where
    there : piece_of (t ∷ ts) t.frame ≢ None
    there = let same : (t.frame == t.frame) ≡ true = grind (arith, nat_tests) in rw same (λ e. cc)

    later : (g : ℕ) → piece_of ts g ≢ None → (b : Bool) → cond b (Some t.piece) (piece_of ts g) ≢ None
    later g d true = λ e. cc
    later g d false = d

apart-renamed : (names : List ℕ) (ts : List TableFrame) → Apart ts → ((f g : ℕ) → piece_of ts f ≢ None → piece_of ts g ≢ None → slice_index names f ≡ slice_index names g → f ≡ g) → Apart (map (renamed_table names) ts)
apart-renamed names [] a h = tt
apart-renamed names (t ∷ ts) a h = (
  rw (frame_of-renamed names ts t.piece.level t.piece.number, a.0) refl,
  renamed_none names ts (slice_index names t.frame) (λ g some same. alone g some (h g t.frame (later g some (t.frame == g)) there same)),
  apart-renamed names ts a.2 (λ f g x y. h f g (later f x (t.frame == f)) (later g y (t.frame == g))),
)
  where
    there : piece_of (t ∷ ts) t.frame ≢ None
    there = let same : (t.frame == t.frame) ≡ true = grind (arith, nat_tests) in rw same (λ e. cc)

    later : (g : ℕ) → piece_of ts g ≢ None → (b : Bool) → cond b (Some t.piece) (piece_of ts g) ≢ None
    later g d true = λ e. cc
    later g d false = d

    alone : (g : ℕ) → piece_of ts g ≢ None → g ≡ t.frame → ⊥
    alone g some same = some (subst (λ x. piece_of ts x ≡ None) (sym same) a.1)

-- ---- a leaf under a new name
record LeafFlags (bits : PteBits) : Type 0 where
  small : bits.0 < 2 ^ 8
  leaf : IsTrue (is_leaf bits)

leaf_flags : (word frame : ℕ) (bits : PteBits) → entry_of word ≡ Leaf frame bits → LeafFlags bits
leaf_flags word frame bits e =
    let low : PteBits = record { 0 = word % 256 } in
    let flags = pick (is_valid low.0) (is_in_range word) (is_reserved low.0) (is_pointer low.0) (sym (entry_of-low word low refl) ∙ e) in
    subst LeafFlags flags.1 (record { small = omega arith; leaf = flags.0 })
  where
    pick : (v q r p : Bool) → (if not v then Absent else if not q then Reserved else if r then Reserved else if p then Table (word / 1024) else Leaf (word / 1024) (record { 0 = word % 256 })) ≡ Leaf frame bits
        → IsTrue (v && not p && not r) × (record { 0 = word % 256 } ≡ bits)
    pick false q r p d = cc
    pick true false r p d = cc
    pick true true true p d = cc
    pick true true false true d = cc
    pick true true false false d = (refl, cc)

reads_renamed : (m : Mapping) (frame : ℕ) → frame < 2 ^ 32 → ReadsAsLeaf m → ReadsAsLeaf (record m { frame = frame })
reads_renamed m frame s e =
    let f = leaf_flags (word_of (Leaf m.frame m.bits)) m.frame m.bits e in
    leaves_read_back frame m.bits s f.small f.leaf

-- ---- where a child's table comes from
record Original (t : KeptTables) (names : List ℕ) (p : Piece) (f : ℕ) : Type 0 where
  was : ℕ
  named : slice_index names was ≡ f
  place : piece_of t.tables was ≡ Some p

some_name : (names : List ℕ) (x : Option ℕ) (f : ℕ) → option_map (new_name names) x ≡ Some f → (g : ℕ) × (x ≡ Some g) × (slice_index names g ≡ f)
some_name names None f e = cc
some_name names (Some g) f e = (g, refl, cc)

original : (t : KeptTables) (names : List ℕ) (p : Piece) (f : ℕ) → Apart t.tables → Apart (renamed names t).tables → piece_of (renamed names t).tables f ≡ Some p → Original t names p f
original t names p f a b e =
    let there = apart-placed (renamed names t).tables f p.level p.number b e in
    let found = some_name names (frame_of t.tables p.level p.number) f (sym (frame_of-renamed names t.tables p.level p.number) ∙ there) in
    record { was = found.0; named = found.2; place = apart-found t.tables p.level p.number found.0 a found.1 }

piece_there : (x : Option Piece) → x ≢ None → (p : Piece) × (x ≡ Some p)
piece_there None h = absurd (h refl)
piece_there (Some p) h = (p, refl)

-- the name of a table is a table of the child
named_table : (t : KeptTables) (names : List ℕ) (f : ℕ) → Apart t.tables → Apart (renamed names t).tables → IsTable t f → IsTable (renamed names t) (slice_index names f)
named_table t names f a b h =
    let p = piece_there (piece_of t.tables f) h in
    let frame = apart-placed t.tables f p.0.level p.0.number a p.1 in
    let now : frame_of (renamed names t).tables p.0.level p.0.number ≡ Some (slice_index names f) = frame_of-renamed names t.tables p.0.level p.0.number ∙ ap (option_map (new_name names)) frame in
    some_piece (apart-found (renamed names t).tables p.0.level p.0.number (slice_index names f) b now)

-- ---- the words
same_or_other : (f g : ℕ) → (f ≡ g) ⊎ (f ≢ g)
same_or_other f g = pick (f == g) refl
  where
    pick : (b : Bool) → (f == g) ≡ b → (f ≡ g) ⊎ (f ≢ g)
    pick true e = inl (grind (arith, nat_tests, e))
    pick false e = inr (grind (arith, nat_tests, e))

-- what is copied stays, whatever comes after
stays_one : (entries : ℕ → ℕ → ℕ) (t : KeptTables) (names : List ℕ) (job : Job) (words : List ℕ) (g i c : ℕ) → CopiesTable t names job ⊎ (WritesElsewhere t job × WritesElsewhere (renamed names t) job) → IsTable (renamed names t) g → length words ≡ c * 512 → g < c → i < 512 → word_at words g i ≡ entries g i → word_at (words_done entries job words) g i ≡ entries g i
stays_one entries t names job words g i c w h e l s was = ⊎_elim
    (λ (k : CopiesTable t names job). rw k.copies (⊎_elim
    (λ (d : g ≡ slice_index names k.from). subst (λ x. word_at (words_done entries (CopyTable k.from x) words) g i ≡ entries g i) d (table_copied_here entries 512 g 0 c words i e l s (omega arith) (omega arith) (omega arith)))
    (λ (d : g ≢ slice_index names k.from). table_copied_apart entries 512 (slice_index names k.from) 0 words g i s (omega arith) (inl d) ∙ was)
    (same_or_other g (slice_index names k.from))))
    (λ (k : WritesElsewhere t job × WritesElsewhere (renamed names t) job). job_elsewhere entries (renamed names t) job words g i k.1 s (inl h) ∙ was)
    w

stays_all : (entries : ℕ → ℕ → ℕ) (t : KeptTables) (names : List ℕ) (jobs : List Job) (words : List ℕ) (g i c : ℕ) → AllCopies t names jobs → IsTable (renamed names t) g → length words ≡ c * 512 → g < c → i < 512 → word_at words g i ≡ entries g i → word_at (words_after entries jobs words) g i ≡ entries g i
stays_all entries t names [] words g i c w h e l s was = was
stays_all entries t names (job ∷ jobs) words g i c w h e l s was =
    stays_all entries t names jobs (words_done entries job words) g i c w.1 h (length-words_done entries job words ∙ e) l s (stays_one entries t names job words g i c w.0 h e l s was)

copied_word : (entries : ℕ → ℕ → ℕ) (t : KeptTables) (names : List ℕ) (jobs : List Job) (words : List ℕ) (f g i c : ℕ) → AllCopies t names jobs → Contains jobs (CopyTable f g) → IsTable (renamed names t) g → length words ≡ c * 512 → g < c → i < 512 → word_at (words_after entries jobs words) g i ≡ entries g i
copied_word entries t names [] words f g i c w x h e l s = absurd (let none = x.1 in omega arith)
copied_word entries t names (job ∷ jobs) words f g i c w (zero, k, d) h e l s =
    stays_all entries t names jobs (words_done entries job words) g i c w.1 h (length-words_done entries job words ∙ e) l s
    (subst (λ (j : Job). word_at (words_done entries j words) g i ≡ entries g i) (sym d) (table_copied_here entries 512 g 0 c words i e l s (omega arith) (omega arith) (omega arith)))
copied_word entries t names (job ∷ jobs) words f g i c w (suc n, k, d) h e l s =
    copied_word entries t names jobs (words_done entries job words) f g i c w.1 (n, omega arith, d) h (length-words_done entries job words ∙ e) l s

-- the parent's words stay
parent_stays : (t : KeptTables) (names : List ℕ) (free after : List Bool) (jobs : List Job) → CanCopy t names free after → AllCopies t names jobs → AllElsewhere t jobs
parent_stays t names free after [] k w = tt
parent_stays t names free after (job ∷ jobs) k w = (one job w.0, parent_stays t names free after jobs k w.1)
  where
    one : (job : Job) → CopiesTable t names job ⊎ (WritesElsewhere t job × WritesElsewhere (renamed names t) job) → WritesElsewhere t job
    one job h = ⊎_elim
        (λ (c : CopiesTable t names job). subst (WritesElsewhere t) (sym c.copies) (k.new c.from c.table, rw k.no_aside refl))
        (λ (c : WritesElsewhere t job × WritesElsewhere (renamed names t) job). c.0)
        h

-- ---- the child
child_there : (t : KeptTables) (names : List ℕ) (l n : ℕ) → child (renamed names t) l n ≢ Absent → child t l n ≢ Absent
child_there t names zero n h = pick (mapping_at t.pages n) (rw (mapping_at-renamed names t.pages n) at h)
  where
    pick : (x : Option Mapping) → page_entry (option_map (new_mapping names) x) ≢ Absent → page_entry x ≢ Absent
    pick None h = h
    pick (Some m) h = λ d. cc
child_there t names (suc l) n h = pick (frame_of t.tables l n) (rw (frame_of-renamed names t.tables l n) at h)
  where
    pick : (x : Option ℕ) → link_entry (option_map (new_name names) x) ≢ Absent → link_entry x ≢ Absent
    pick None h = h
    pick (Some m) h = λ d. cc

some_mapping : (names : List ℕ) (x : Option Mapping) (m : Mapping) → option_map (new_mapping names) x ≡ Some m → (o : Mapping) × (x ≡ Some o) × (new_mapping names o ≡ m)
some_mapping names None m e = cc
some_mapping names (Some o) m e = (o, refl, cc)

pub copying_agrees : CopyingAgrees
copying_agrees entries t names free after words jobs g k w all tells = record {
  parent = taking_keeps t free after now (jobs_elsewhere_keep entries t free words jobs g (parent_stays t names free after jobs k w)) k.keeps;
  child = record {
    size = length-words_after entries jobs words ∙ g.size ∙ ap (λ n. n * 512) (sym k.keeps.size);
    small = let same = k.keeps.size in let most = g.small in omega arith;
    apart = apart;
    taken = taken;
    parents = parents;
    leaves = leaves;
    agree = agree;
    spare = λ f p e. none_aside f p e;
    zeros = λ f i p s e. none_aside f p e;
  };
}
  where
    now : List ℕ
    now = words_after entries jobs words

    new : KeptTables
    new = renamed names t

    apart : Apart new.tables
    apart = apart-renamed names t.tables g.apart k.different

    taken : (f : ℕ) (p : Piece) → piece_of new.tables f ≡ Some p → slice_get after f ≡ Some false
    taken f p e =
        let o = original t names p f g.apart apart e in
        subst (λ x. slice_get after x ≡ Some false) o.named (k.taken o.was (some_piece o.place))

    parents : (l n : ℕ) → l ≤ t.top → child new l n ≢ Absent → frame_of new.tables l (n / 512) ≢ None
    parents l n s h = rw (frame_of-renamed names t.tables l (n / 512)) (pick (frame_of t.tables l (n / 512)) (g.parents l n s (child_there t names l n h)))
      where
        pick : (x : Option ℕ) → x ≢ None → option_map (new_name names) x ≢ None
        pick None h = absurd (h refl)
        pick (Some f) h = λ d. cc

    leaves : (n : ℕ) (m : Mapping) → mapping_at new.pages n ≡ Some m → ReadsAsLeaf m
    leaves n m e =
        let o = some_mapping names (mapping_at t.pages n) m (sym (mapping_at-renamed names t.pages n) ∙ e) in
        let low = k.frames n o.0 o.1 in
        subst ReadsAsLeaf o.2 (reads_renamed o.0 (slice_index names o.0.frame) (let most = g.small in omega arith) (g.leaves n o.0 o.1))

    agree : (f i : ℕ) (p : Piece) → i < 512 → piece_of new.tables f ≡ Some p → word_at now f i ≡ word_of (child new p.level (p.number * 512 + i))
    agree f i p s e =
        let o = original t names p f g.apart apart e in
        let within : f < length free = (let a = slice_get_within after f false (taken f p e) in let same = k.keeps.size in omega arith) in
        let job : Contains jobs (CopyTable o.was f) = subst (λ x. Contains jobs (CopyTable o.was x)) o.named (all o.was (some_piece o.place)) in
        copied_word entries t names jobs words o.was f i (length free) w job (some_piece e) g.size within s
        ∙ tells f i s (some_piece e)
        ∙ ap (λ x. word_in new x i) e

    none_aside : {A : Type 0} (f : ℕ) (p : Piece) → piece_of new.aside f ≡ Some p → A
    none_aside f p e = let h = rw k.no_aside at e in absurd (some_piece h refl)
