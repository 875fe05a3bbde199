use Rattle.osc_elf.proofs.Owning.{owner-read}
use Rattle.osc_elf.proofs.image.Image.laid_byte.Goals as goal

pub owned_byte-requires : goal.owned_byte-requires
owned_byte-requires c =
    owner-read c.self.inside.segments.items c.deref-3.result.now c.self.inside.borders.items c.deref.result.now
    c.self.inside.owners.items c.piece_at-piece.result c.args.address c.index.result.now c.deref-3.ensures.value
    c.deref.ensures.value c.self.invariant.1 c.piece_at-piece.ensures c.index.ensures
