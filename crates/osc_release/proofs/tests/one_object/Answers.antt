-- The malloc makes the memory with one object.
use Rattle.std.proofs.Common.{arith, ap, refl, ◌≡◌, ◌∙◌, ◌+◌, Some, [], length}
use Rattle.osc_frames.specs.Free.{all_free, least_free, without_frame}
use Rattle.osc_slot.specs.Heap.{empty_heap}
use Rattle.osc_paging.specs.KeptTables.{closed}
use Rattle.osc_paging.specs.TableChanges.{opened}
use Rattle.osc_mark.specs.Grants.{no_grants}
use Rattle.osc_word.specs.JobList.{JobList}
use Rattle.osc_shadow.specs.Outcomes.{draft_now, planned}
use Rattle.osc_shadow.proofs.Fresh.{fresh_agrees}
use Rattle.osc_release.proofs.FirstMalloc.{makes_one, starts_fresh}
use Rattle.osc_release.proofs.tests.one_object.Goals as goal

pub plan_malloc-given-requires-clause-agree : goal.plan_malloc-given-requires-clause-agree
plan_malloc-given-requires-clause-agree c =
    let marks : c.in_ok-marks.marks ≡ no_grants 8 = c.in_ok-marks.ensures.0 in
    let heap : c.in_ok-heap.heap ≡ empty_heap 8 = c.in_ok-heap.ensures.0 in
    let free : c.in_ok-frames.frames ≡ all_free 8 = c.in_ok-frames.ensures in
    let count : length c.in_ok-frames.frames ≡ 8 = ap length free in
    let least : Some c.in-Some.root ≡ least_free c.in_ok-frames.frames = c.in-Some.ensures.least in
    let tables : c.open.new.self ≡ opened c.in-Some.root (closed 3 8 (8 + 8)) = c.open.ensures ∙ ap (λ t. opened c.in-Some.root t) c.in_ok-tables.ensures in
    rw (marks, heap) (fresh_agrees 3 8 8 c.in-Some.root c.open.new.self c.in_ok-frames.frames c.take.new.self count least c.in-Some.ensures.after tables)

pub returns-clause-agree : goal.returns-clause-agree
returns-clause-agree c =
    let zero : c.in-Some.root ≡ 0 = omega arith in
    let marks : c.in_ok-marks.marks ≡ no_grants 8 = c.in_ok-marks.ensures.0 in
    let heap : c.in_ok-heap.heap ≡ empty_heap 8 = c.in_ok-heap.ensures.0 in
    let tables : c.open.new.self ≡ opened 0 (closed 3 8 16) = c.open.ensures ∙ ap (λ t. opened c.in-Some.root t) c.in_ok-tables.ensures ∙ ap (λ r. opened r (closed 3 8 16)) zero in
    let free : c.take.new.self ≡ without_frame (all_free 8) (Some 0) = c.in-Some.ensures.after ∙ ap (λ x. without_frame x (Some c.in-Some.root)) c.in_ok-frames.ensures ∙ ap (λ r. without_frame (all_free 8) (Some r)) zero in
    let jobs : c.in_ok-jobs.jobs.pushed ≡ [] = ap (λ (j : JobList). j.pushed) c.in_ok-jobs.ensures in
    let fresh = starts_fresh c.open.new.self c.in_ok-marks.marks c.in_ok-heap.heap c.take.new.self c.in_ok-jobs.jobs.pushed (planned c.plan_malloc-given.result (draft_now c.plan_malloc-given.new.space [] c.plan_malloc-given.new.frames c.plan_malloc-given.new.jobs)) tables marks heap free jobs (c.plan_malloc-given.ensures.plan []) in
    let made = makes_one c.plan_malloc-given.new.space.tables c.plan_malloc-given.new.space.marks c.plan_malloc-given.new.space.heap c.plan_malloc-given.new.frames (planned c.plan_malloc-given.result (draft_now c.plan_malloc-given.new.space [] c.plan_malloc-given.new.frames c.plan_malloc-given.new.jobs)) fresh refl refl refl c.first_malloc_makes.ensures.space c.first_malloc_makes.ensures.free c.parts_can_agree.ensures.one in
    made.agree

pub returns-clause-words : goal.returns-clause-words
returns-clause-words c =
    let zero : c.in-Some.root ≡ 0 = omega arith in
    let marks : c.in_ok-marks.marks ≡ no_grants 8 = c.in_ok-marks.ensures.0 in
    let heap : c.in_ok-heap.heap ≡ empty_heap 8 = c.in_ok-heap.ensures.0 in
    let tables : c.open.new.self ≡ opened 0 (closed 3 8 16) = c.open.ensures ∙ ap (λ t. opened c.in-Some.root t) c.in_ok-tables.ensures ∙ ap (λ r. opened r (closed 3 8 16)) zero in
    let free : c.take.new.self ≡ without_frame (all_free 8) (Some 0) = c.in-Some.ensures.after ∙ ap (λ x. without_frame x (Some c.in-Some.root)) c.in_ok-frames.ensures ∙ ap (λ r. without_frame (all_free 8) (Some r)) zero in
    let jobs : c.in_ok-jobs.jobs.pushed ≡ [] = ap (λ (j : JobList). j.pushed) c.in_ok-jobs.ensures in
    let fresh = starts_fresh c.open.new.self c.in_ok-marks.marks c.in_ok-heap.heap c.take.new.self c.in_ok-jobs.jobs.pushed (planned c.plan_malloc-given.result (draft_now c.plan_malloc-given.new.space [] c.plan_malloc-given.new.frames c.plan_malloc-given.new.jobs)) tables marks heap free jobs (c.plan_malloc-given.ensures.plan []) in
    let made = makes_one c.plan_malloc-given.new.space.tables c.plan_malloc-given.new.space.marks c.plan_malloc-given.new.space.heap c.plan_malloc-given.new.frames (planned c.plan_malloc-given.result (draft_now c.plan_malloc-given.new.space [] c.plan_malloc-given.new.frames c.plan_malloc-given.new.jobs)) fresh refl refl refl c.first_malloc_makes.ensures.space c.first_malloc_makes.ensures.free c.parts_can_agree.ensures.one in
    made.words

pub returns-clause-spare : goal.returns-clause-spare
returns-clause-spare c =
    let zero : c.in-Some.root ≡ 0 = omega arith in
    let marks : c.in_ok-marks.marks ≡ no_grants 8 = c.in_ok-marks.ensures.0 in
    let heap : c.in_ok-heap.heap ≡ empty_heap 8 = c.in_ok-heap.ensures.0 in
    let tables : c.open.new.self ≡ opened 0 (closed 3 8 16) = c.open.ensures ∙ ap (λ t. opened c.in-Some.root t) c.in_ok-tables.ensures ∙ ap (λ r. opened r (closed 3 8 16)) zero in
    let free : c.take.new.self ≡ without_frame (all_free 8) (Some 0) = c.in-Some.ensures.after ∙ ap (λ x. without_frame x (Some c.in-Some.root)) c.in_ok-frames.ensures ∙ ap (λ r. without_frame (all_free 8) (Some r)) zero in
    let jobs : c.in_ok-jobs.jobs.pushed ≡ [] = ap (λ (j : JobList). j.pushed) c.in_ok-jobs.ensures in
    let fresh = starts_fresh c.open.new.self c.in_ok-marks.marks c.in_ok-heap.heap c.take.new.self c.in_ok-jobs.jobs.pushed (planned c.plan_malloc-given.result (draft_now c.plan_malloc-given.new.space [] c.plan_malloc-given.new.frames c.plan_malloc-given.new.jobs)) tables marks heap free jobs (c.plan_malloc-given.ensures.plan []) in
    let made = makes_one c.plan_malloc-given.new.space.tables c.plan_malloc-given.new.space.marks c.plan_malloc-given.new.space.heap c.plan_malloc-given.new.frames (planned c.plan_malloc-given.result (draft_now c.plan_malloc-given.new.space [] c.plan_malloc-given.new.frames c.plan_malloc-given.new.jobs)) fresh refl refl refl c.first_malloc_makes.ensures.space c.first_malloc_makes.ensures.free c.parts_can_agree.ensures.one in
    let count = made.count in
    let room : c.in_ok-jobs.jobs.room ≡ 128 = ap (λ (j : JobList). j.room) c.in_ok-jobs.ensures in
    let same = c.plan_malloc-given.ensures.room in
    let room_left : c.clear.new.self.room ≡ c.plan_malloc-given.new.jobs.room = ap (λ (j : JobList). j.room) c.clear.ensures in
    let none : c.clear.new.self.pushed ≡ [] = ap (λ (j : JobList). j.pushed) c.clear.ensures in
    let long : length c.clear.new.self.pushed ≡ 0 = ap length none in
    omega arith
