-- At the start the tables are those over the pages of the image and of the stack.
use Rattle.std.proofs.Common.{ℕ, zero, suc, ◌-◌, ◌/◌, ◌≡◌, ◌≢◌, ◌<◌, ◌≤◌, ◌==◌, ◌&&◌, ◌||◌, not, Bool, true, false, cond, Option, Some, None, Ok, is_some, List, [], ◌∷◌, ◌++◌, length, map, slice_get, arith, refl, sym, ap, subst, ◌∙◌}
use Rattle.std.specs.List.{list_any}
use Rattle.std.proofs.lemmas.Bool.Decides.{nat_tests}
use Rattle.std.proofs.lemmas.List.Folds.{list_any-append}
use Rattle.osc_word.specs.declared.settings.Config.{Config}
use Rattle.osc_word.specs.Limits.{first_fault}
use Rattle.osc_sv39.specs.declared.entries.Mapping.{Mapping}
use Rattle.osc_sv39.specs.Walk.{piece}
use Rattle.osc_image.specs.Image.{Image, pages}
use Rattle.osc_image.specs.Frames.{needed_frames, stack_pages}
use Rattle.osc_image.specs.Form.{image_of}
use Rattle.osc_paging.specs.KeptTables.{KeptTables, frame_of}
use Rattle.osc_paging.specs.TableChanges.{Changed, link_all, map_page, table_frame}
use Rattle.osc_paging.proofs.Needed.{put-tables, map_page-top}
use Rattle.osc_space.specs.Objects.{leaf_given_up}
use Rattle.osc_space.specs.Fork.{frame_of_page}
use Rattle.osc_space.specs.LeafFlags.{leaf_of_page}
use Rattle.osc_space.specs.Share.{shared_pages, shared_frames}
use Rattle.osc_parts.specs.Frames.{among}
use Rattle.osc_parts.proofs.JobCounts.{length-mapped}
use Rattle.osc_calls.specs.Kernel.{KernelState, Process}
use Rattle.osc_calls.specs.Finish.{finish}
use Rattle.osc_calls.specs.Open.{OpenPage, image_pages, all_pages, lay, lay_all, rooted, first_process, open_kernel, open_words}
use Rattle.osc_settled.specs.KernelFits.{KernelFits}
use Rattle.osc_settled.proofs.Images.{number, none_below}
use Rattle.osc_settled.proofs.ImageStart.{images_start}
use Rattle.osc_settled.proofs.Laying.{Ranges, ranges, none_held}
use Rattle.osc_settled.proofs.Lists.{some_same}
use Rattle.osc_machine.specs.Replay.{first_ledger, ledger_at, noted_from}
use Rattle.osc_machine.specs.Refusals.{Setting, ever_mapped}
use Rattle.osc_ledger.specs.Tables.{has_piece, TablesTold}
use Rattle.osc_ledger.specs.Wanting.{setting}
use Rattle.osc_ledger.proofs.AddedTables.{there, Adds, page-adds}
use Rattle.osc_ledger.proofs.HasTables.{HasTables, added, same-tests}
use Rattle.osc_counted.proofs.Starts.{CanLayThese, its, linked, grown, others_can, numbers, start_can}
use Rattle.osc_counted.proofs.RegionSteps.{none-shared}
use Rattle.osc_tabled.specs.Tabled.{TablesFit, StartsFitTables}
use Rattle.osc_tabled.proofs.EverMapped.{ever-first}
use Rattle.osc_tabled.proofs.PlainRows.{none-given}

-- ---- one page
same-adds : (pages : List ℕ) (t u v : KeptTables) → v.tables ≡ u.tables → v.top ≡ u.top → Adds pages t u → Adds pages t v
same-adds pages t u v e f a = record {
  top = f ∙ a.top;
  stays = λ level n h. ap (λ ts. is_some (frame_of ts level n)) e ∙ a.stays level n h;
  only = λ level n h. a.only level n (sym (ap (λ ts. is_some (frame_of ts level n)) e) ∙ h);
  above = λ level n l. ap (λ ts. is_some (frame_of ts level n)) e ∙ a.above level n l;
}

some-there : (x : Option ℕ) → x ≢ None → is_some x ≡ true
some-there None h = absurd (h refl)
some-there (Some f) h = refl

module _ (p : OpenPage) (ps : List OpenPage) (c : Changed) (can : CanLayThese (p ∷ ps) c) where
  abbrev over : Changed
  over = link_all c.tables.top p.page c

  abbrev next : Changed
  next = lay p over

  m : Mapping
  m = record { frame = 0; bits = leaf_of_page p.bits }

  lay-adds : Adds (p.page ∷ []) c.tables next.tables
  lay-adds =
      same-adds (p.page ∷ []) c.tables (map_page p.page m c).tables next.tables
      ((its p ps c can).tables ∙ sym (put-tables p.page m (frame_of over.tables.tables 0 (p.page / 512)) over).0)
      ((its p ps c can).top ∙ (linked p ps c can).top ∙ sym (map_page-top p.page m c))
      (page-adds p.page m c)

  next-top : next.tables.top ≡ c.tables.top
  next-top = (its p ps c can).top ∙ (linked p ps c can).top

  next-has : (ever : ℕ → ℕ → Bool) → HasTables ever (λ leaf. false) c.tables → HasTables (λ level n. has_piece level n (p.page ∷ []) || ever level n) (λ leaf. false) next.tables
  next-has ever h = added ever (λ leaf. false) (p.page ∷ []) c.tables next.tables h lay-adds here (λ n e. refl)
    where
      here : (level n : ℕ) → level < next.tables.top → has_piece level n (p.page ∷ []) ≡ true → there next.tables level n ≡ true
      here level n less e =
          let same : piece (suc level) p.page ≡ n = grind (arith, nat_tests, e) in
          let up : level < c.tables.top = subst (λ t. level < t) next-top less in
          ap (λ ts. is_some (frame_of ts level n)) (its p ps c can).tables
          ∙ some-there (frame_of over.tables.tables level n) (subst (λ x. frame_of over.tables.tables level x ≢ None) same ((grown p ps c can).there level up))

-- ---- all pages
either : (a r e : Bool) → ((a || r) || e) ≡ (r || ((a || false) || e))
either true true e = refl
either true false e = refl
either false true e = refl
either false false e = refl

all-has : (ps : List OpenPage) (c : Changed) (ever : ℕ → ℕ → Bool) → CanLayThese ps c → HasTables ever (λ leaf. false) c.tables
    → HasTables (λ level n. has_piece level n (map number ps) || ever level n) (λ leaf. false) (lay_all ps c).tables
all-has [] c ever can h = h
all-has (p ∷ ps) c ever can h =
    same-tests (λ level n. has_piece level n (map number ps) || (has_piece level n (p.page ∷ []) || ever level n)) (λ level n. has_piece level n (p.page ∷ map number ps) || ever level n)
    (λ leaf. false) (λ leaf. false) (lay_all ps (next p ps c can)).tables
    (λ level n. either (piece (suc level) p.page == n) (has_piece level n (map number ps)) (ever level n)) (λ leaf. refl)
    (all-has ps (next p ps c can) (λ level n. has_piece level n (p.page ∷ []) || ever level n) (others_can p ps c can) (next-has p ps c can ever h))

all-top : (ps : List OpenPage) (c : Changed) → CanLayThese ps c → (lay_all ps c).tables.top ≡ c.tables.top
all-top [] c can = refl
all-top (p ∷ ps) c can = all-top ps (next p ps c can) (others_can p ps c can) ∙ next-top p ps c can

-- the topmost table alone
root-has : (config : Config) → HasTables (λ level n. false) (λ leaf. false) (rooted config).tables
root-has config = record {
  below = λ level n less. alone level n (config.levels - 1 == level) (let z : (config.levels - 1 == level) ≡ false = grind (arith, nat_tests, less) in z);
  above = λ level n more. root (config.levels - 1 == level) (0 == n);
}
  where
    alone : (level n : ℕ) (b : Bool) → b ≡ false → is_some (cond {A = Option ℕ} (b && (0 == n)) (Some 0) None) ≡ false
    alone level n true e = absurd (let z : ⊥ = grind (arith, e) in z)
    alone level n false e = refl

    root : (a b : Bool) → is_some (cond {A = Option ℕ} (a && b) (Some 0) None) ≡ (a && b)
    root true true = refl
    root true false = refl
    root false b = refl

-- ---- the kernel
nothing-among : (xs : List ℕ) → ((f : ℕ) → among f xs ≡ 0) → length xs ≡ 0
nothing-among [] h = refl
nothing-among (x ∷ xs) h = absurd (let z = h x in let same : (x == x) ≡ true = grind (arith, nat_tests) in let w : ⊥ = grind (arith, nat_tests, z, same) in w)

first-told : (file : List ℕ) (image : Image) (config : Config) → first_fault config ≡ None → image_of file ≡ Ok image → needed_frames config.levels image ≤ config.frames
    → length (shared_pages (lay_all (all_pages (image_pages image)) (rooted config)).tables) ≡ 0
    → TablesTold (record { config = config; image = pages image }) first_ledger (lay_all (all_pages (image_pages image)) (rooted config)).tables
first-told file image config valid taken enough none = record {
  levels = (let t = all-top (all_pages (image_pages image)) (rooted config) can in let l = (ranges config valid).levels in omega (arith, t, l));
  below = has.below;
  above = has.above;
  regions = none;
}
  where
    s : Setting
    s = record { config = config; image = pages image }

    can : CanLayThese (all_pages (image_pages image)) (rooted config)
    can = start_can image config (ranges config valid) (none_below file image taken) enough

    or-none : (b : Bool) → b ≡ (b || false)
    or-none true = refl
    or-none false = refl

    test-same : (level n : ℕ) → has_piece level n (ever_mapped s first_ledger) ≡ (has_piece level n (map number (all_pages (image_pages image))) || false)
    test-same level n =
        ever-first (λ page. piece (suc level) page == n) stack_pages (pages image)
        ∙ sym (list_any-append (λ page. piece (suc level) page == n) (pages image) stack_pages)
        ∙ ap (λ xs. has_piece level n xs) (sym (numbers image))
        ∙ or-none (has_piece level n (map number (all_pages (image_pages image))))

    has : HasTables (λ level n. has_piece level n (ever_mapped s first_ledger)) (λ leaf. leaf_given_up [] [] leaf) (lay_all (all_pages (image_pages image)) (rooted config)).tables
    has =
        same-tests (λ level n. has_piece level n (map number (all_pages (image_pages image))) || false) (λ level n. has_piece level n (ever_mapped s first_ledger))
        (λ leaf. false) (λ leaf. leaf_given_up [] [] leaf) (lay_all (all_pages (image_pages image)) (rooted config)).tables
        test-same (λ leaf. none-given [] [] leaf refl)
        (all-has (all_pages (image_pages image)) (rooted config) (λ level n. false) can (root-has config))

pub starts_fit_tables : StartsFitTables
unfolding open_kernel finish noted_from
starts_fit_tables file image config valid taken enough pid p at lives = go pid at
  where
    fits : KernelFits (open_words image (open_kernel image config)) (open_kernel image config)
    fits = images_start file image config valid taken enough

    t : KeptTables
    t = (lay_all (all_pages (image_pages image)) (rooted config)).tables

    none : length (shared_pages t) ≡ 0
    none =
        let none-of = nothing-among (shared_frames t) (λ f. none-shared (open_words image (open_kernel image config)) (open_kernel image config) 0 f (first_process config t) fits (λ g. none_held config.frames g) refl) in
        let same = length-mapped frame_of_page (shared_pages t) in
        omega (arith, none-of, same)

    go : (n : ℕ) → slice_get (first_process config t ∷ []) n ≡ Some p → TablesTold (record { config = config; image = pages image }) (ledger_at (first_ledger ∷ []) n) p.space.tables
    go zero e = subst (λ (x : Process). TablesTold (record { config = config; image = pages image }) first_ledger x.space.tables) (some_same (first_process config t) p e) (first-told file image config valid taken enough none)
    go (suc n) e = absurd (let z : ⊥ = grind (arith, e) in z)
