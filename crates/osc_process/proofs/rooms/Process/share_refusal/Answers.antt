-- The reasons in their order.
use Rattle.std.proofs.Common.{◌≡◌, ◌+◌, ◌<◌, ◌≤◌, ◌∙◌, nat_lt, true, false, Some, None, arith, sym, subst}
use Rattle.std.proofs.lemmas.Bool.Decides.{nat_tests}
use Rattle.osc_word.specs.declared.calls.Answer.TheVariants.{NoFrames}
use Rattle.osc_slot.specs.Heap.{free_count}
use Rattle.osc_paging.specs.KeptTables.{need}
use Rattle.osc_space.specs.Space.{first_reason}
use Rattle.osc_space.specs.Share.{next_shared_page, share_reasons}
use Rattle.osc_space.proofs.RefusalLawProofs.{share_refused}
use Rattle.osc_share.specs.Plan.{sharing}
use Rattle.osc_calls.specs.Kernel.{Process}
use Rattle.osc_process.specs.Parts.{sharing_at}
use Rattle.osc_process.proofs.rooms.Process.share_refusal.Goals as goal

pub returns-then-n-eq0 : goal.returns-then-n-eq0
returns-then-n-eq0 c regions jobs = sym ((share_refused c.args.n (sharing_at c.args.self.now regions c.args.frames.now jobs)).empty c.if-n-eq0.true)

pub returns-then-lacks_frames : goal.returns-then-lacks_frames
returns-then-lacks_frames c regions jobs =
    let t = c.self.inside.space.tables in
    let none = c.if-n-eq0.false in
    let lack : nat_lt (free_count c.args.frames.now) (c.args.n + need t (next_shared_page t) c.args.n) ≡ true = sym c.lacks_frames.ensures ∙ c.if-lacks_frames.true in
    sym (subst (λ (p : Process). first_reason (share_reasons c.args.n (sharing_at p regions c.args.frames.now jobs)) ≡ Some NoFrames) c.self.view_is
    ((share_refused c.args.n (sharing t regions c.args.frames.now jobs)).lack (omega arith) (grind (arith, nat_tests, lack))))

pub returns : goal.returns
returns c regions jobs =
    let t = c.self.inside.space.tables in
    let none = c.if-n-eq0.false in
    let enough : nat_lt (free_count c.args.frames.now) (c.args.n + need t (next_shared_page t) c.args.n) ≡ false = sym c.lacks_frames.ensures ∙ c.if-lacks_frames.false in
    sym (subst (λ (p : Process). first_reason (share_reasons c.args.n (sharing_at p regions c.args.frames.now jobs)) ≡ None) c.self.view_is
    ((share_refused c.args.n (sharing t regions c.args.frames.now jobs)).none (omega arith) (grind (arith, nat_tests, enough))))
