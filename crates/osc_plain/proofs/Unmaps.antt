-- The pages that a block leaves are unmapped.
use Rattle.std.proofs.Common.{ℕ, zero, suc, ◌+◌, ◌/◌, ◌≡◌, ◌<◌, ◌≤◌, ◌++◌, Bool, true, false, not, if◌then◌else◌, List, [], ◌∷◌, arith, refl, ap, sym, ◌∙◌, length, filter}
use Rattle.std.specs.Prelude.{is_some}
use Rattle.std.specs.List.{range_with_len}
use Rattle.std.proofs.lemmas.Bool.Decides.{nat_tests}
use Rattle.osc_word.specs.JobList.{JobList, spare}
use Rattle.osc_word.specs.declared.job_list.Job.{Job}
use Rattle.osc_class.specs.Rooms.{shadow_pages}
use Rattle.osc_slot.specs.declared.Block.{Block}
use Rattle.osc_slot.specs.Slots.{is_held, is_on, is_covered}
use Rattle.osc_slot.specs.Heap.{Heap, IsHeap, without_block}
use Rattle.osc_paging.specs.KeptTables.{KeptTables, mapping_at}
use Rattle.osc_tables.specs.Calls.{changed, IsOrdered}
use Rattle.osc_space.specs.Space.{Draft, push, change, with_changed}
use Rattle.osc_space.specs.Free.{clear_jobs, unmap_all}
use Rattle.osc_space.specs.PlainHeap.{emptied_pages, unmap_emptied, let_go_plain}
use Rattle.osc_shadow.specs.Unmapping.{CanUnmap}
use Rattle.osc_plain.specs.Plan.{draft}
use Rattle.osc_plain.proofs.Lying.{held_lies, held_few}

-- the pages are so many in a row
abbrev pub AreAlone : Heap → Block → ℕ → Type 0
AreAlone heap block count = emptied_pages heap.held block ≡ range_with_len (block.start / 4096) count

length-range : (first count : ℕ) → length (range_with_len first count) ≡ count
length-range first zero = refl
length-range first (suc count) = ap suc (length-range (first + 1) count)

filter_few : (test : ℕ → Bool) (xs : List ℕ) → length (filter test xs) ≤ length xs
filter_few test [] = omega arith
filter_few test (x ∷ xs) = go (test x) (filter_few test xs)
  where
    go : (b : Bool) → length (filter test xs) ≤ length xs → length (if b then x ∷ filter test xs else filter test xs) ≤ suc (length xs)
    go true e = omega (arith, e)
    go false e = omega (arith, e)

pub few_alone : (heap : Heap) (block : Block) (count : ℕ) → AreAlone heap block count → count ≤ shadow_pages block.room
few_alone heap block count e =
    let a = length-range (block.start / 4096) count in
    let b = length-range (block.start / 4096) (shadow_pages block.room) in
    let c = filter_few (λ page. not (is_covered (without_block block heap.held) page)) (range_with_len (block.start / 4096) (shadow_pages block.room)) in
    let d = ap length e in
    omega (arith, a, b, c, d)

pub can_unmap : (t : KeptTables) (heap : Heap) (block : Block) (jobs : JobList) (count harts : ℕ) → IsOrdered t → IsHeap heap → is_held heap.held block ≡ true → heap.frames ≤ 4096
    → ((page : ℕ) → is_on page block ≡ true → is_some (mapping_at t.pages page) ≡ true) → AreAlone heap block count → heap.frames + harts ≤ spare jobs
    → CanUnmap t jobs (block.start / 4096) count
can_unmap t heap block jobs count harts order h e small mapped alone has =
    let few = few_alone heap block count alone in
    let l = held_lies heap block h e small in
    let low = l.low in
    let most = held_few heap block h e in
    record {
      top = order.range;
      low = omega (arith, few, low);
      mapped = λ page from to. mapped page (let over : page < block.start / 4096 + shadow_pages block.room = omega (arith, to, few) in grind (arith, nat_tests, from, over));
      spare = omega (arith, few, most, has);
    }

some_emptied : (first count harts : ℕ) (d : Draft) → 0 < count → unmap_emptied (range_with_len first count) harts d ≡ push (clear_jobs harts) (change (unmap_all (range_with_len first count)) d)
some_emptied first zero harts d l = absurd (omega arith)
some_emptied first (suc count) harts d l = refl

pub lets_go : (shadows harts count : ℕ) (t u : KeptTables) (heap : Heap) (free : List Bool) (block : Block) (jobs now after : List Job) → AreAlone heap block count → 0 < count
    → changed u free now ≡ unmap_all (range_with_len (block.start / 4096) count) (changed t free jobs) → after ≡ now ++ clear_jobs harts
    → draft shadows u heap free after ≡ let_go_plain harts block (draft shadows t heap free jobs)
lets_go shadows harts count t u heap free block jobs now after alone some e f =
    ap (λ x. draft shadows u heap free x) f
    ∙ ap (λ c. push (clear_jobs harts) (with_changed c (draft shadows t heap free jobs))) e
    ∙ sym (some_emptied (block.start / 4096) count harts (draft shadows t heap free jobs) some)
    ∙ ap (λ pages. unmap_emptied pages harts (draft shadows t heap free jobs)) (sym alone)

pub stays : (shadows harts count : ℕ) (t : KeptTables) (heap : Heap) (free : List Bool) (block : Block) (jobs : List Job) → AreAlone heap block count → count ≡ 0
    → draft shadows t heap free jobs ≡ let_go_plain harts block (draft shadows t heap free jobs)
stays shadows harts count t heap free block jobs alone none =
    let e : emptied_pages heap.held block ≡ [] = alone ∙ ap (λ n. range_with_len (block.start / 4096) n) none in
    sym (ap (λ pages. unmap_emptied pages harts (draft shadows t heap free jobs)) e)
