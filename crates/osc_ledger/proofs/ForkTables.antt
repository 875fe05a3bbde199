-- A child of a fork has the tables that its ledger tells, and a call's return leaves the tables as they are.
use Rattle.std.proofs.Common.{ℕ, suc, ◌≡◌, ◌<◌, ◌≤◌, ◌==◌, Bool, true, false, cond, Option, Some, None, is_some, option_map, List, [], ◌∷◌, length, map, filter, refl, ap, sym, subst, ◌&&◌, ◌∙◌}
use Rattle.osc_word.specs.AddressMap.{is_shared}
use Rattle.osc_slot.specs.declared.Block.{Block}
use Rattle.osc_paging.specs.declared.Mapped.{Mapped}
use Rattle.osc_paging.specs.KeptTables.{KeptTables, frame_of}
use Rattle.osc_paging.specs.TableChanges.{renamed_page}
use Rattle.osc_paging.proofs.Copied.{frame_of-renamed}
use Rattle.osc_space.specs.Space.{Draft, Keeps, GivesBack}
use Rattle.osc_space.specs.Fork.{fork_plan}
use Rattle.osc_space.specs.Finish.{give_blocks, finished}
use Rattle.osc_machine.specs.Replay.{Ledger}
use Rattle.osc_machine.specs.Refusals.{Setting}
use Rattle.osc_ledger.specs.Tables.{TablesTold, ForksKeepTables, ReturnsKeepTables}

some-map : (f : ℕ → ℕ) (x : Option ℕ) → is_some (option_map f x) ≡ is_some x
some-map f None = refl
some-map f (Some y) = refl

shared-count : (names : List ℕ) (ms : List Mapped) → length (filter (λ (m : Mapped). is_shared m.number) (map (renamed_page names) ms)) ≡ length (filter (λ (m : Mapped). is_shared m.number) ms)
shared-count names [] = refl
shared-count names (m ∷ ms) = go (is_shared m.number) (shared-count names ms)
  where
    go : (b : Bool) → length (filter (λ (x : Mapped). is_shared x.number) (map (renamed_page names) ms)) ≡ length (filter (λ (x : Mapped). is_shared x.number) ms)
        → length (cond b (renamed_page names m ∷ filter (λ (x : Mapped). is_shared x.number) (map (renamed_page names) ms)) (filter (λ (x : Mapped). is_shared x.number) (map (renamed_page names) ms)))
        ≡ length (cond b (m ∷ filter (λ (x : Mapped). is_shared x.number) ms) (filter (λ (x : Mapped). is_shared x.number) ms))
    go true later = ap suc later
    go false later = later

pub forks_keep_tables : ForksKeepTables
unfolding fork_plan
forks_keep_tables s l space free told =
    let names = (fork_plan space free).names in record {
      levels = told.levels;
      below = λ level number less. ap (λ (x : Option ℕ). is_some x) (frame_of-renamed names space.tables.tables level number) ∙ some-map _ (frame_of space.tables.tables level number) ∙ told.below level number less;
      above = λ level number less. ap (λ (x : Option ℕ). is_some x) (frame_of-renamed names space.tables.tables level number) ∙ some-map _ (frame_of space.tables.tables level number) ∙ told.above level number less;
      regions = shared-count names space.tables.pages ∙ told.regions;
    }

gave-tables : (blocks : List Block) (d : Draft) → (give_blocks blocks d).space.tables ≡ d.space.tables
gave-tables [] d = refl
gave-tables (block ∷ blocks) d = gave-tables blocks _

-- the tables but those that stand aside
bare : (s : Setting) (l : Ledger) (t u : KeptTables) → u.top ≡ t.top → u.tables ≡ t.tables → u.pages ≡ t.pages → TablesTold s l t → TablesTold s l u
bare s l t u top tables pages told = record {
  levels = ap suc top ∙ told.levels;
  below = λ level number less. ap (λ ts. is_some (frame_of ts level number)) tables ∙ told.below level number (subst (λ x. level < x) top less);
  above = λ level number less. ap (λ ts. is_some (frame_of ts level number)) tables ∙ told.above level number (subst (λ x. x ≤ level) top less) ∙ ap (λ x. (x == level) && (0 == number)) (sym top);
  regions = ap (λ ms. length (filter (λ (m : Mapped). is_shared m.number) ms)) pages ∙ told.regions;
}

pub returns_keep_tables : ReturnsKeepTables
unfolding finished
returns_keep_tables s l Keeps d told = told
returns_keep_tables s l (GivesBack blocks) d told =
    let same = gave-tables blocks d in
    bare s l d.space.tables (finished (GivesBack blocks) d).space.tables (ap (λ (t : KeptTables). t.top) same) (ap (λ (t : KeptTables). t.tables) same) (ap (λ (t : KeptTables). t.pages) same) told
