use Rattle.std.proofs.Common.{◌≡◌, ◌+◌, length, ◌∙◌, ap, subst, arith, below_more}
use Rattle.std.proofs.lemmas.List.{get_or-set_same, get_or-set_other, length-set}
use Rattle.osc_image.specs.Image.{laid_byte}
use Rattle.osc_elf.specs.Segments.{all_shown}
use Rattle.osc_elf.specs.Pieces.{IsIn}
use Rattle.osc_elf.proofs.Owning.{owner-read}
use Rattle.osc_elf.proofs.image.Image.lay.Goals as goal

pub loop-place-init : goal.loop-place-init
loop-place-init c =
    let lies : IsIn c.self.inside.borders.items c.piece_at-piece.result c.args.start =
    subst (λ bs. IsIn bs c.piece_at-piece.result c.args.start) c.deref.ensures.value c.piece_at-piece.ensures in
    record { inside = lies.inside; low = omega (arith, lies.low); len = λ _. length c.args.into.now; each = λ i low. absurd (omega arith) }

pub advance-piece-requires-clause-inside : goal.advance-piece-requires-clause-inside
advance-piece-requires-clause-inside c = rw c.deref-in-loop-place.ensures.value c.loop-place.invariant.inside

pub advance-piece-requires-clause-low : goal.advance-piece-requires-clause-low
advance-piece-requires-clause-low c = rw c.deref-in-loop-place.ensures.value c.loop-place.invariant.low

pub owned_byte-requires : goal.owned_byte-requires
owned_byte-requires c =
    owner-read c.self.inside.segments.items c.deref-in-loop-place-3.result.now c.self.inside.borders.items
    c.deref-in-loop-place.result.now c.self.inside.owners.items c.advance-piece.result (c.args.start + c.loop-place.place)
    c.index.result.now c.deref-in-loop-place-3.ensures.value c.deref-in-loop-place.ensures.value c.self.invariant.1
    c.advance-piece.ensures c.index.ensures

pub loop-place-preserved : goal.loop-place-preserved
loop-place-preserved c =
    let lies : IsIn c.self.inside.borders.items c.advance-piece.result (c.args.start + c.loop-place.place) =
    subst (λ bs. IsIn bs c.advance-piece.result (c.args.start + c.loop-place.place)) c.deref-in-loop-place.ensures.value
    c.advance-piece.ensures in
    let byte : c.owned_byte.result ≡ laid_byte c.args.self.now.segments (c.args.start + c.loop-place.place) =
    rw (← c.self.view_is)
    (c.owned_byte.ensures
    ∙ (ap (λ file. laid_byte (all_shown file c.deref-in-loop-place-3.result.now) (c.args.start + c.loop-place.place)) c.deref-in-loop-place-2.ensures.value
    ∙ ap (λ ss. laid_byte (all_shown c.self.inside.file.items ss) (c.args.start + c.loop-place.place)) c.deref-in-loop-place-3.ensures.value)) in
    record {
      inside = lies.inside;
      low = omega (arith, lies.low);
      len = length-set c.loop-place.into c.loop-place.place c.owned_byte.result ∙ c.loop-place.invariant.len;
      each =
          below_more _ c.loop-place.place
          (λ i low. get_or-set_other c.loop-place.into c.loop-place.place i c.owned_byte.result 0 (λ same. omega arith) ∙ c.loop-place.invariant.each i low)
          (get_or-set_same c.loop-place.into c.loop-place.place c.owned_byte.result 0 (omega (arith, c.loop-place.invariant.len)) ∙ byte);
    }

pub returns-clause-each : goal.returns-clause-each
returns-clause-each c = λ i inside. c.loop-place.invariant.each i (omega (arith, c.loop-place.invariant.len))
