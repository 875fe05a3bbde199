-- Laying one page after another, as the code goes.
use Rattle.std.proofs.Common.{ℕ, suc, ◌≡◌, ◌<◌, ◌≤◌, ◌+◌, ◌-◌, Bool, List, [], ◌∷◌, length, drop, get_or, arith, refl, ap, sym, subst, ◌∙◌}
use Rattle.std.proofs.Math.Seq as seq
use Rattle.osc_word.specs.JobList.{JobList}
use Rattle.osc_sv39.specs.declared.flags.PteBits.{PteBits}
use Rattle.osc_sv39.specs.declared.entries.Mapping.{Mapping}
use Rattle.osc_sv39.specs.Walk.{number_of}
use Rattle.osc_frames.specs.Free.{free_count, least_free, without_frame}
use Rattle.osc_paging.specs.KeptTables.{KeptTables, levels_of, need}
use Rattle.osc_paging.specs.TableChanges.{map_page}
use Rattle.osc_space.specs.LeafFlags.{leaf_of_page}
use Rattle.osc_calls.specs.Open.{OpenPage, open_page}
use Rattle.osc_tables.specs.Calls.{HasTaken, changed}
use Rattle.osc_open.specs.Laying.{pages_of}
use Rattle.osc_open.specs.Row.{CanLay, alike, with_stack}
use Rattle.osc_open.proofs.Laid.{own_mapping, can_lay_one, CanLayOne, LaysOne, lays_one}

-- the mapping that the code makes
abbrev pub made : ℕ → PteBits → Mapping
made frame bits = record { frame = frame; bits = bits }

pub made_is : (count taken missing : ℕ) (bits : PteBits) (p : OpenPage) (rest : List OpenPage) (t : KeptTables) (free : List Bool) (jobs : JobList) → CanLayOne count p rest t free jobs
    → taken ≡ free_count free → missing ≡ need t (number_of (levels_of t) p.page) 1 → bits ≡ leaf_of_page p.bits
    → made (count - taken + missing) bits ≡ own_mapping count p t free
made_is count taken missing bits p rest t free jobs one f m b =
    let need_is : missing ≡ need t p.page 1 = m ∙ ap (λ n. need t n 1) one.low.number in
    rw (f, need_is, b) refl

pub lays : (count taken missing : ℕ) (bits : PteBits) (p : OpenPage) (rest : List OpenPage) (t u : KeptTables) (free after own : List Bool) (jobs now : JobList) → count ≤ 4096 → CanLay count (p ∷ rest) t free jobs
    → taken ≡ free_count free → missing ≡ need t (number_of (levels_of t) p.page) 1 → bits ≡ leaf_of_page p.bits
    → changed u after now.pushed ≡ map_page (number_of (levels_of t) p.page) (made (count - taken + missing) bits) (changed t free jobs.pushed)
    → HasTaken u after → now.room ≡ jobs.room → own ≡ without_frame after (least_free after)
    → LaysOne count p rest t free jobs u own now
lays count taken missing bits p rest t u free after own jobs now small can f m b e has room o =
    let one = can_lay_one count p rest t free jobs small can in
    let is = made_is count taken missing bits p rest t free jobs one f m b in
    let next : changed u after now.pushed ≡ map_page p.page (own_mapping count p t free) (changed t free jobs.pushed) =
    e ∙ (ap (λ n. map_page n (made (count - taken + missing) bits) (changed t free jobs.pushed)) one.low.number
    ∙ ap (λ x. map_page p.page x (changed t free jobs.pushed)) is) in
    subst (λ x. LaysOne count p rest t free jobs u x now) (sym o) (lays_one count p rest t u free after jobs now can next has room)

-- ---- the pages of an image, and then the stack
abbrev pub page_at : List (ℕ × PteBits) → ℕ → OpenPage
page_at pages i = open_page (get_or pages i (0, record { 0 = 0 })).0 (get_or pages i (0, record { 0 = 0 })).1

pub next_of_image : (pages : List (ℕ × PteBits)) (i : ℕ) → i < length pages → pages_of (drop i pages) ≡ page_at pages i ∷ pages_of (drop (i + 1) pages)
next_of_image pages i here =
    let next : suc i ≡ i + 1 = omega arith in
    ap pages_of (seq.drop-cons pages i (0, record { 0 = 0 }) here) ∙ ap (λ n. page_at pages i ∷ pages_of (drop n pages)) next

with_stack_cons : (p : OpenPage) (ps : List OpenPage) → with_stack (p ∷ ps) ≡ p ∷ with_stack ps
unfolding with_stack
with_stack_cons p ps = refl

pub image_can : (count : ℕ) (pages : List (ℕ × PteBits)) (i : ℕ) (t : KeptTables) (free : List Bool) (jobs : JobList) → i < length pages
    → CanLay count (with_stack (pages_of (drop i pages))) t free jobs
    → CanLay count (page_at pages i ∷ with_stack (pages_of (drop (i + 1) pages))) t free jobs
image_can count pages i t free jobs here can =
    subst (λ ps. CanLay count ps t free jobs)
    (ap with_stack (next_of_image pages i here) ∙ with_stack_cons (page_at pages i) (pages_of (drop (i + 1) pages))) can

-- ---- pages that permit the same
pub next_alike : (first end : ℕ) (bits : PteBits) → first < end
    → alike first (end - first) bits ≡ open_page first bits ∷ alike (first + 1) (end - (first + 1)) bits
unfolding alike
next_alike first end bits l =
    let more : end - first ≡ suc (end - (first + 1)) = omega arith in
    let next : suc first ≡ first + 1 = omega arith in
    ap (λ n. alike first n bits) more ∙ ap (λ q. open_page first bits ∷ alike q (end - (first + 1)) bits) next

pub none_alike : (first end : ℕ) (bits : PteBits) → end ≤ first → alike first (end - first) bits ≡ []
unfolding alike
none_alike first end bits l =
    let none : end - first ≡ 0 = omega arith in
    ap (λ n. alike first n bits) none
