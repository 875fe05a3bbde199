-- The words of memory once the tables are made and the pages of an image are laid: those of the start.
use Rattle.std.proofs.Common.{ℕ, zero, suc, ◌+◌, ◌*◌, ◌/◌, ◌%◌, ◌≡◌, ◌<◌, ◌≤◌, ◌==◌, nat_lt, Bool, true, false, cond, Option, Some, None, is_some, List, [], ◌∷◌, ◌++◌, length, map, find, get_or, slice_get, arith, refl, ap, sym, ◌∙◌, subst}
use Rattle.std.specs.Prelude.{slice_index, unwrap_or}
use Rattle.std.specs.List.{range_with_len}
use Rattle.std.proofs.lemmas.Bool.Decides.{nat_tests}
use Rattle.std.proofs.lemmas.Grind.{same_number_lists}
use Rattle.std.proofs.lemmas.Option.{slice_get_within}
use Rattle.std.proofs.lemmas.List.FromFn.{get_or-map-range_with_len, length-map-range_with_len}
use Rattle.byteorder.specs.Endian.{little_from}
use Rattle.osc_word.specs.declared.settings.Config.{Config}
use Rattle.osc_word.specs.Limits.{first_fault}
use Rattle.osc_sv39.specs.declared.entries.Mapping.{Mapping}
use Rattle.osc_sv39.specs.declared.flags.PteBits.{PteBits}
use Rattle.osc_sv39.specs.Walk.{word_at}
use Rattle.osc_paging.specs.declared.Mapped.{Mapped}
use Rattle.osc_paging.specs.declared.Piece.{Piece}
use Rattle.osc_paging.specs.JobWords.{words_after}
use Rattle.osc_paging.specs.KeptTables.{KeptTables, mapping_at, piece_of, root_of, word_in}
use Rattle.osc_paging.specs.TableChanges.{Changed, link_all}
use Rattle.osc_paging.specs.Agree.{Agrees}
use Rattle.osc_image.specs.Image.{Image, NoneFrom, bits_at, laid_byte}
use Rattle.osc_image.specs.Frames.{needed_frames}
use Rattle.osc_space.specs.Share.{no_regions}
use Rattle.osc_parts.specs.Settled.{PartsFit}
use Rattle.osc_parts.proofs.MallocParts.{some_root}
use Rattle.osc_open.specs.Laying.{AreImagePages}
use Rattle.osc_calls.specs.Kernel.{KernelState, process_at}
use Rattle.osc_calls.specs.Open.{OpenPage, open_page, image_pages, image_byte, image_word, all_pages, lay, lay_all, rooted, first_process, first_space, data_word, word_by, open_word, open_words, open_kernel, opening}
use Rattle.osc_kernel.specs.Seen as seen
use Rattle.osc_settled.proofs.Images.{Ascend, from_lower, image_ascends, none_below}
use Rattle.osc_settled.proofs.ImageStart.{images_start}
use Rattle.osc_settled.proofs.Laying.{no_words, none_held, ranges}
use Rattle.osc_settled.proofs.Memories.{returns_keeps}
use Rattle.osc_core.specs.Boot.{IsOfFile}
use Rattle.osc_core.specs.Words.{CanLay, IsAmong, LaysImage, no_entry}
use Rattle.osc_core.proofs.Agreeing.{AllLeaves, all_agree, first_agrees}
use Rattle.osc_core.proofs.Laid.{all_tabled, words_stay}
use Rattle.osc_core.proofs.Pages.{are_image_pages}
use Rattle.osc_core.proofs.Spread.{Spread, all_spread, all_top, found, lay_other, unfound}

-- ---- a page that is none of these
abbrev pub NotThere : ℕ → List OpenPage → Type 0
NotThere q [] = Unit {0}
NotThere q (p ∷ ps) = ((p.page == q) ≡ false) × NotThere q ps

neither_there : (q : ℕ) (xs ys : List OpenPage) → NotThere q xs → NotThere q ys → NotThere q (xs ++ ys)
neither_there q [] ys a b = b
neither_there q (x ∷ xs) ys a b = (a.0, neither_there q xs ys a.1 b)

only_these : (ps : List OpenPage) (c : Changed) (q : ℕ) → NotThere q ps → mapping_at (lay_all ps c).tables.pages q ≡ mapping_at c.tables.pages q
only_these [] c q n = refl
only_these (p ∷ ps) c q n = only_these ps (lay p (link_all c.tables.top p.page c)) q n.1 ∙ lay_other p c q n.0

by_among : (q : ℕ) (ps : List OpenPage) (R : Type 0) → (IsAmong q ps → R) → (NotThere q ps → R) → R
by_among q [] R there absent = absent tt
by_among q (p ∷ ps) R there absent = go (p.page == q) refl (by_among q ps R (λ a. there (suc a.0, a.1, a.2)))
  where
    go : (b : Bool) → (p.page == q) ≡ b → ((NotThere q ps → R) → R) → R
    go true e later = there (0, p.bits, ap (λ n. Some (open_page n p.bits)) (let s : p.page ≡ q = grind (arith, nat_tests, e) in s))
    go false e later = later (λ n. absent (e, n))

not_both : (q : ℕ) (ps : List OpenPage) (k : ℕ) (bits : PteBits) → NotThere q ps → slice_get ps k ≡ Some (open_page q bits) → ⊥
not_both q [] k bits n e = let w : ⊥ = grind (arith, e) in w
not_both q (p ∷ ps) zero bits n e =
    let s : p ≡ open_page q bits = cc in
    let t : p.page ≡ q = ap (λ (x : OpenPage). x.page) s in
    let f = n.0 in
    let w : ⊥ = grind (arith, nat_tests, f, t) in w
not_both q (p ∷ ps) (suc k) bits n e = not_both q ps k bits n.1 e

-- ---- pages that ascend
below : (low : ℕ) (ps : List OpenPage) (k page : ℕ) (bits : PteBits) → AreImagePages low ps → slice_get ps k ≡ Some (open_page page bits) → page < 0x100000
below low [] k page bits a e = absurd (let w : ⊥ = grind (arith, e) in w)
below low (p ∷ ps) zero page bits a e = subst (λ (x : OpenPage). x.page < 0x100000) (let s : p ≡ open_page page bits = cc in s) a.1
below low (p ∷ ps) (suc k) page bits a e = below (suc p.page) ps k page bits a.3 e

leaves : (low : ℕ) (ps : List OpenPage) → Ascend low ps → AllLeaves ps
leaves low [] a = tt
leaves low (p ∷ ps) a = (a.2, leaves (suc p.page) ps a.3)

-- the stack's pages
abbrev stack_from : ℕ → ℕ → List OpenPage
stack_from from zero = []
stack_from from (suc more) = open_page from (record { 0 = 6 }) ∷ stack_from (suc from) more

stack_ascends : (from n : ℕ) → 0x100000 ≤ from → 0x1000F0 ≤ from → from + n ≤ 0x100100 → Ascend from (stack_from from n)
stack_ascends from zero l m k = tt
stack_ascends from (suc more) l m k = (omega arith, grind (arith, nat_tests, l, m, k), refl, stack_ascends (suc from) more (omega arith) (omega arith) (omega arith))

not_in_stack : (q from n : ℕ) → q < from → NotThere q (stack_from from n)
not_in_stack q from zero l = tt
not_in_stack q from (suc more) l = (grind (arith, nat_tests, l), not_in_stack q (suc from) more (omega (arith, l)))

abbrev the_stack : List OpenPage
the_stack = all_pages []

-- ---- a page that the image has not
little_zero : (i n : ℕ) (xs : List ℕ) → ((k : ℕ) → i ≤ k → k < i + n → slice_index xs k ≡ 0) → little_from i n xs ≡ 0
little_zero i zero xs none = refl
little_zero i (suc n) xs none =
    let a : slice_index xs i ≡ 0 = none i (omega arith) (omega arith) in
    let b : little_from (suc i) n xs ≡ 0 = little_zero (suc i) n xs (λ k l m. none k (omega (arith, l)) (omega (arith, m))) in
    rw (a, b) refl

zero_byte : (image : Image) (page k : ℕ) → k < 4096 → bits_at image page ≡ None → image_byte image (4096 * page + k) ≡ 0
zero_byte image page k l none =
    ap (λ q. unwrap_or (cond (is_some (bits_at image q)) (Some (laid_byte image.segments (4096 * page + k))) None) 0) (let d : (4096 * page + k) / 4096 ≡ page = omega (arith, l) in d)
    ∙ ap (λ (o : Option PteBits). unwrap_or (cond (is_some o) (Some (laid_byte image.segments (4096 * page + k))) None) 0) none

zero_word : (image : Image) (page i : ℕ) → i < 512 → bits_at image page ≡ None → image_word image (4096 * page + 8 * i) ≡ 0
zero_word image page i l none =
    little_zero 0 8 (map (image_byte image) (range_with_len (4096 * page + 8 * i) 8))
    (λ j m n. get_or-map-range_with_len (image_byte image) (4096 * page + 8 * i) 8 j (4096 * page + 8 * i + j) 0 (omega (arith, n)) (omega arith)
    ∙ ap (image_byte image) (let z : 4096 * page + 8 * i + j ≡ 4096 * page + (8 * i + j) = omega arith in z)
    ∙ zero_byte image page (8 * i + j) (omega (arith, l, n)) none)

-- ---- the tables of a file's image
abbrev pub all_laid : Image → Config → Changed
all_laid image config = lay_all (all_pages (image_pages image)) (rooted config)

module _ (image : Image) (config : Config) (file : IsOfFile image) (valid : first_fault config ≡ None) (enough : needed_frames config.levels image ≤ config.frames) where
  parts : PartsFit config.heap config.batch (no_regions config.frames) (first_space config (all_laid image config).tables) (all_laid image config).free
  unfolding open_kernel
  parts =
      returns_keeps config.heap config.batch (no_regions config.frames) (first_space config (all_laid image config).tables) (all_laid image config).free
      ((images_start file.file image config valid file.taken enough).memory.spaces 0 (first_process config (all_laid image config).tables) refl refl).returns

  count : length (all_laid image config).free ≡ config.frames
  unfolding open_kernel
  count = (images_start file.file image config valid file.taken enough).sizes.free

  abbrev last : Changed
  last = all_laid image config

  abbrev t : KeptTables
  t = last.tables

  abbrev ps : List OpenPage
  ps = image_pages image

  ascends : Ascend 0 (all_pages ps)
  ascends = image_ascends image (none_below file.file image file.taken) the_stack (from_lower 0x100000 0x1000F0 the_stack (omega arith) (stack_ascends 0x1000F0 16 (omega arith) (omega arith) (omega arith)))

  abbrev first_words : List ℕ
  first_words = words_after no_entry last.jobs (no_words config)

  agrees : Agrees t last.free first_words
  agrees = all_agree (all_pages ps) (no_words config) (rooted config) (leaves 0 (all_pages ps) ascends) (first_agrees config valid)

  first_spread : Spread (rooted config)
  first_spread = record {
    once = tt;
    taken = λ q m h. absurd (let w : ⊥ = grind (arith, h) in w);
    apart = λ p q m n h i same. absurd (let w : ⊥ = grind (arith, h) in w);
    no_table = λ q m h. absurd (let w : ⊥ = grind (arith, h) in w);
    tables = λ f p h. (first_agrees config valid).taken f p h;
  }

  spread : Spread last
  spread = all_spread 0 (all_pages ps) (rooted config) ascends (λ q l. refl) first_spread

  can_lay : (root : ℕ) → root ≡ unwrap_or (root_of t) 0 → CanLay t last.free root config.levels ps first_words
  can_lay root e =
      let r = some_root (root_of t) parts.agrees.root in
      let is : root ≡ r.0 = e ∙ ap (λ o. unwrap_or o 0) r.1 in
      record {
        agrees = agrees;
        bare = parts.agrees.aside;
        levels_in = (let a = all_top (all_pages ps) (rooted config) in let l = (ranges config valid).levels in omega (arith, a, l));
        root_in = r.1 ∙ ap (λ n. Some n) (sym is);
        low = λ page among. below 16 ps among.0 page among.1 (are_image_pages image file) among.2;
        apart = spread.apart;
        no_table = spread.no_table;
        within = λ p m h. slice_get_within last.free m.frame false (spread.taken p m h);
      }

  -- a frame without a table has zeros yet
  stays : (f i : ℕ) → i < 512 → piece_of t.tables f ≡ None → word_at first_words f i ≡ 0
  stays f i l none = words_stay t.tables last.jobs (no_words config) f i l none (all_tabled (all_pages ps) (rooted config) tt) (none_held (config.frames * 512) (f * 512 + i))

  -- a mapped page that is none of the image's stands after them
  high : (q : ℕ) (m : Mapping) → mapping_at t.pages q ≡ Some m → NotThere q ps → 0x100000 ≤ q
  high q m maps absent = go (nat_lt q 0x100000) refl
    where
      go : (b : Bool) → nat_lt q 0x100000 ≡ b → 0x100000 ≤ q
      go false e = grind (arith, nat_tests, e)
      go true e = absurd (let l : q < 0x1000F0 = grind (arith, nat_tests, e) in
          let none : mapping_at t.pages q ≡ None = only_these (all_pages ps) (rooted config) q (neither_there q ps the_stack absent (not_in_stack q 0x1000F0 16 l)) in
          let z : None ≡ Some m = sym none ∙ maps in let w : ⊥ = grind (arith, z) in w)

  module _ (next : List ℕ) (lays : LaysImage image t last.free ps first_words next) (none_from : NoneFrom image 0x100000) where
    data_same : (f i : ℕ) → i < 512 → piece_of t.tables f ≡ None → (o : Option Mapped) → find (λ (x : Mapped). x.mapping.frame == f) t.pages ≡ o → word_at next f i ≡ data_word image o i
    data_same f i l none None e = lays.others f i l (λ page m among h. unfound t.pages f page m e h) ∙ stays f i l none
    data_same f i l none (Some x) e =
        let k = found t.pages f x spread.once e in
        by_among x.number ps (word_at next f i ≡ image_word image (4096 * x.number + 8 * i))
        (λ among. ap (λ g. word_at next g i) (sym k.1) ∙ lays.laid x.number i x.mapping among k.0 l)
        (λ absent. lays.others f i l (λ page m among h same. elsewhere x k.0 absent page m among h (k.1 ∙ same))
        ∙ stays f i l none ∙ sym (zero_word image x.number i l (none_from x.number (high x.number x.mapping k.0 absent))))
      where
        elsewhere : (x : Mapped) → mapping_at t.pages x.number ≡ Some x.mapping → NotThere x.number ps → (page : ℕ) (m : Mapping) → IsAmong page ps → mapping_at t.pages page ≡ Some m → x.mapping.frame ≡ m.frame → ⊥
        elsewhere x h absent page m among k same =
            let s : x.number ≡ page = spread.apart x.number page x.mapping m h k same in
            not_both page ps among.0 among.1 (subst (λ q. NotThere q ps) s absent) among.2

    word_same : (f i : ℕ) → i < 512 → (o : Option Piece) → piece_of t.tables f ≡ o → word_at next f i ≡ word_by image t o f i
    word_same f i l None e = data_same f i l e (find (λ (x : Mapped). x.mapping.frame == f) t.pages) refl
    word_same f i l (Some p) e = lays.agrees.agree f i p l e ∙ sym (ap (λ (o : Option Piece). word_in t o i) e)

    abbrev all_words : List ℕ
    all_words = map (λ place. open_word image t (place / 512) (place % 512)) (range_with_len 0 (config.frames * 512))

    size : length next ≡ config.frames * 512
    size = let a = lays.agrees.size in let b = count in omega (arith, a, b)

    whole : next ≡ all_words
    whole = same_number_lists next all_words
        (size ∙ sym (length-map-range_with_len (λ place. open_word image t (place / 512) (place % 512)) 0 (config.frames * 512)))
        (λ k l. ap (λ j. get_or next j 0) (let z : k ≡ k / 512 * 512 + k % 512 = omega arith in z)
        ∙ word_same (k / 512) (k % 512) (omega arith) (piece_of t.tables (k / 512)) refl
        ∙ sym (get_or-map-range_with_len (λ place. open_word image t (place / 512) (place % 512)) 0 (config.frames * 512) k k 0 (let s = size in omega (arith, s, l)) (omega arith)))

    words_are : next ≡ open_words image (open_kernel image config)
    unfolding open_kernel open_words
    words_are = whole

-- ---- what the laying makes
pub record Opens (image : Image) (config : Config) (next : List ℕ) : Type 0 where
  pub words : next ≡ open_words image (open_kernel image config)
  pub size : length next ≡ config.frames * 512

-- the jobs keep the size of memory
pub made_size : (image : Image) (config : Config) → IsOfFile image → first_fault config ≡ None → needed_frames config.levels image ≤ config.frames
    → length (words_after no_entry (opening (image_pages image) config).jobs (no_words config)) ≡ config.frames * 512
made_size image config file valid enough =
    let a = (agrees image config file valid enough).size in let b = count image config file valid enough in omega (arith, a, b)

told : (image : Image) (config : Config) → unwrap_or (seen.root_in (process_at (open_kernel image config) 0)) 0 ≡ unwrap_or (root_of (all_laid image config).tables) 0
unfolding open_kernel
told image config = refl

pub opens : (image : Image) (config : Config) → IsOfFile image → first_fault config ≡ None → needed_frames config.levels image ≤ config.frames → NoneFrom image 0x100000
    → (pages : List OpenPage) → pages ≡ image_pages image → (k : KernelState) → k ≡ open_kernel image config
    → (root : ℕ) → root ≡ unwrap_or (seen.root_in (process_at k 0)) 0
    → (words next : List ℕ) → words ≡ words_after no_entry (opening (image_pages image) config).jobs (no_words config)
    → ((t : KeptTables) (free : List Bool) → CanLay t free root config.levels pages words → LaysImage image t free pages words next)
    → Opens image config next
opens image config file valid enough none pages is k opened root at words next made lays =
    let first = words_after no_entry (all_laid image config).jobs (no_words config) in
    let can = can_lay image config file valid enough root (at ∙ ap (λ (x : KernelState). unwrap_or (seen.root_in (process_at x 0)) 0) opened ∙ told image config) in
    let t = (all_laid image config).tables in
    let free = (all_laid image config).free in
    let does = lays t free (subst (λ ws. CanLay t free root config.levels pages ws) (sym made) (subst (λ qs. CanLay t free root config.levels qs first) (sym is) can)) in
    let laid : LaysImage image t free (image_pages image) first next = subst (λ qs. LaysImage image t free qs first next) is (subst (λ ws. LaysImage image t free pages ws next) made does) in
    record {
      words = words_are image config file valid enough next laid none;
      size = size image config file valid enough next laid none;
    }
