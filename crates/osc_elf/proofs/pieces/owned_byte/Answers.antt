use Rattle.std.proofs.Common.{subst, ◌∙◌}
use Rattle.osc_elf.specs.Pieces.{IsOwner}
use Rattle.osc_elf.proofs.Owning.{byte-owned, byte-unowned}
use Rattle.osc_elf.proofs.pieces.owned_byte.Goals as goal

pub byte-requires : goal.byte-requires
byte-requires c =
    (byte-owned c.args.file.now c.args.segments.now c.args.address c.in-Some.index c.index-segments-index.result
    (subst (IsOwner c.args.segments.now c.args.segments.now c.args.address) c.in-Some.is c.requires) c.index-segments-index.is).1

pub returns-in-Some : goal.returns-in-Some
returns-in-Some c =
    c.byte.ensures
    ∙ (byte-owned c.args.file.now c.args.segments.now c.args.address c.in-Some.index c.index-segments-index.result
    (subst (IsOwner c.args.segments.now c.args.segments.now c.args.address) c.in-Some.is c.requires) c.index-segments-index.is).0

pub returns-in-None : goal.returns-in-None
returns-in-None c =
    byte-unowned c.args.file.now c.args.segments.now c.args.address
    (subst (IsOwner c.args.segments.now c.args.segments.now c.args.address) c.in-None.is c.requires)
