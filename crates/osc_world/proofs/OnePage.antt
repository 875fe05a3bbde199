-- The pages of an image of one page.
use Rattle.std.proofs.Common.{◌≡◌, ℕ, zero, suc, ◌<◌, ◌≤◌, ◌+◌, ◌==◌, Bool, true, false, List, [], ◌∷◌, length, refl, ap, ◌∙◌, arith, filter}
use Rattle.std.specs.List.{range_with_len}
use Rattle.std.proofs.lemmas.Bool.Decides.{nat_tests}
use Rattle.osc_image.specs.Image.{page_limit, pages, pages_below, is_mapped, page_permits}
use Rattle.osc_word.specs.declared.steps.Event.{Event}
use Rattle.osc_rv.specs.declared.instr.Instr.{Instr}
use Rattle.osc_world.specs.Run.{begins, boot_with, object_run, object_run_of}
use Rattle.osc_world.specs.PlainRun.{plain_run_of}
use Rattle.osc_world.specs.Examples.{image_with, code_of, image_of_program, config_of, run_of, plain_run_over}

none-from : (test : ℕ → Bool) (from count : ℕ) → ((n : ℕ) → test n ≡ (n == 16)) → 16 < from → filter test (range_with_len from count) ≡ []
none-from test from zero is l = refl
none-from test from (suc count) is l =
    let not : test from ≡ false = is from ∙ grind (arith, nat_tests) in
    rw not (none-from test (from + 1) count is (omega arith))

one-from : (test : ℕ → Bool) (from below count : ℕ) → ((n : ℕ) → test n ≡ (n == 16)) → from + below ≡ 16 → below < count → filter test (range_with_len from count) ≡ 16 ∷ []
one-from test from below zero is e l = absurd (omega arith)
one-from test from zero (suc count) is e l =
    let at : from ≡ 16 = omega arith in
    let yes : test from ≡ true = is from ∙ grind (arith, nat_tests) in
    rw yes (rw (none-from test (from + 1) count is (omega arith)) (ap (λ n. n ∷ []) at))
one-from test from (suc below) (suc count) is e l =
    let not : test from ≡ false = is from ∙ grind (arith, nat_tests) in
    rw not (one-from test (from + 1) below count is (omega arith) (omega arith))

sixteen-below : 16 < page_limit
unfolding page_limit
sixteen-below = omega arith

mapped-one : (bytes : List ℕ) → 0 < length bytes → length bytes ≤ 4096 → (page : ℕ) → is_mapped (image_with bytes) page ≡ (page == 16)
unfolding page_permits
mapped-one bytes l m page = grind (arith, nat_tests)

pub one-page : (bytes : List ℕ) → 0 < length bytes → length bytes ≤ 4096 → pages (image_with bytes) ≡ 16 ∷ []
unfolding pages_below
one-page bytes l m = one-from (is_mapped (image_with bytes)) 0 16 page_limit (mapped-one bytes l m) refl sixteen-below

pub from-boot : (harts : ℕ) (program : List Instr) (events : List Event) → 0 < length (code_of program) → length (code_of program) ≤ 4096 → object_run_of (image_of_program program) (config_of harts) events ≡ run_of harts program events
from-boot harts program events l m = ap (λ numbers. object_run (begins (boot_with (image_of_program program) numbers harts)) events) (one-page (code_of program) l m)

pub plain-from-boot : (harts : ℕ) (program : List Instr) (events : List Event) → plain_run_of (image_of_program program) (config_of harts) events ≡ plain_run_over harts program events
plain-from-boot harts program events = refl
