-- Where no object was granted, the tables that any pages lack are those that the journal tells.
use Rattle.std.proofs.Common.{ℕ, suc, ◌+◌, ◌-◌, ◌≡◌, ◌<◌, ◌==◌, ◌&&◌, not, Bool, true, false, cond, ◌++◌, arith, refl, ap, ◌∙◌}
use Rattle.std.specs.List.{range_with_len}
use Rattle.osc_image.specs.Frames.{tables_below}
use Rattle.osc_paging.specs.KeptTables.{frame_of, need}
use Rattle.osc_space.specs.Objects.{leaf_given_up}
use Rattle.osc_machine.specs.Refusals.{ever_mapped, new_tables}
use Rattle.osc_ledger.specs.Tables.{has_piece}
use Rattle.osc_ledger.proofs.NeedTold.{Lacks, all-levels, lack-is}
use Rattle.osc_tabled.specs.PlainNeeds.{PlainNeedIsTold}
use Rattle.osc_tabled.proofs.PlainRows.{none-given}

pub plain_need_is_told : PlainNeedIsTold
plain_need_is_told s l t first count none told =
    let levels = told.levels in
    let top : s.config.levels - 1 ≡ t.top = omega (arith, levels) in
    let same = all-levels t.tables (ever_mapped s l) first count t.top lacks in
    let more = ap (λ n. tables_below n (range_with_len first count ++ ever_mapped s l)) top in
    let was = ap (λ n. tables_below n (ever_mapped s l)) top in
    omega (arith, same, more, was)
  where
    kept : (n : ℕ) (b : Bool) → (b && leaf_given_up l.objects l.waiting n) ≡ false
    kept n true = none-given l.objects l.waiting n none
    kept n false = refl

    whole : (b : Bool) → (b && not false) ≡ b
    whole true = refl
    whole false = refl

    lacks : (level : ℕ) → level < t.top → Lacks t.tables level (ever_mapped s l) first (first + count)
    lacks level less n low high =
        lack-is (frame_of t.tables level n)
        ∙ ap (λ (b : Bool). cond {A = ℕ} b 0 1)
        (told.below level n less ∙ ap (λ b. has_piece level n (ever_mapped s l) && not b) (kept n (level == 0)) ∙ whole (has_piece level n (ever_mapped s l)))
