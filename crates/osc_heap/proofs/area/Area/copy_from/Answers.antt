-- The words of the other area are all that are left.
use Rattle.std.proofs.Common.{ℕ, ◌≡◌, ◌≤◌, ◌+◌, ◌/◌, ◌++◌, Bool, List, [], length, ap, sym, ◌∙◌, rules, arith}
use Rattle.std.specs.Result.{is_ok}
use Rattle.std.specs.Vec.{vec_len, vec_capacity}
use Rattle.osc_frames.specs.Words.{numbers_of}
use Rattle.osc_frames.proofs.Rows.{length-numbers}
use Rattle.osc_heap.proofs.area.Area.copy_from.Goals as goal

sizes : (words others : List ℕ) (slots more : ℕ) (row other : List Bool) → numbers_of words slots ≡ row → numbers_of others more ≡ other → length row ≡ length other → slots ≡ more
sizes words others slots more row other view seen e =
    sym (length-numbers words slots) ∙ ap (λ (r : List Bool). length r) view ∙ e ∙ ap (λ (r : List Bool). length r) (sym seen) ∙ length-numbers others more

pub unwrap-requires : goal.unwrap-requires
unwrap-requires c =
    let same = sizes c.self.inside.held.items c.other.inside.held.items c.self.inside.slots c.other.inside.slots c.args.self.now c.args.other.now c.self.view_is c.other.view_is c.requires in
    let long : length c.deref.result.now ≤ c.other.inside.slots / 64 + 1 = rw c.deref.ensures.value c.other.invariant.0 in
    let most = c.self.invariant.1 in
    c.extend_from_slice.ensures.succeeds (omega (arith, c.clear.ensures.len, c.clear.ensures.capacity))

pub invariant_of-self : goal.invariant_of-self
invariant_of-self c =
    let same = sizes c.self.inside.held.items c.other.inside.held.items c.self.inside.slots c.other.inside.slots c.args.self.now c.args.other.now c.self.view_is c.other.view_is c.requires in
    let items : c.extend_from_slice.new.self.items ≡ c.other.inside.held.items = search rules in
    let most = c.self.invariant.1 in
    (rw (items, same) c.other.invariant.0, omega (arith, c.clear.ensures.capacity, c.extend_from_slice.ensures.capacity), c.self.invariant.2)

pub returns : goal.returns
returns c =
    let same = sizes c.self.inside.held.items c.other.inside.held.items c.self.inside.slots c.other.inside.slots c.args.self.now c.args.other.now c.self.view_is c.other.view_is c.requires in
    let items : c.extend_from_slice.new.self.items ≡ c.other.inside.held.items = search rules in
    ap (λ (words : List ℕ). numbers_of words c.self.inside.slots) items ∙ ap (λ (n : ℕ). numbers_of c.other.inside.held.items n) same ∙ c.other.view_is
