-- The examples agree.
use Rattle.std.proofs.Common.{ℕ, zero, suc, ◌+◌, ◌≡◌, ◌<◌, ◌≤◌, ◌/◌, true, false, Some, [], ◌∷◌, slice_get, arith, refl, subst, sym, ◌∙◌}
use Rattle.std.proofs.lemmas.Bool.Decides.{nat_tests}
use Rattle.std.specs.Prelude.{is_some, option_map}
use Rattle.osc_class.specs.Rooms.{room_of, shadow_pages}
use Rattle.osc_class.specs.declared.Room.TheVariants.{Small}
use Rattle.osc_paging.specs.KeptTables.{mapping_at, frame_of as table_over}
use Rattle.osc_slot.specs.declared.Block.{Block}
use Rattle.osc_slot.specs.Slots.{is_held, is_block}
use Rattle.osc_slot.specs.Heap.{frame_of}
use Rattle.osc_slot.proofs.HeldBlocks.{same_block}
use Rattle.osc_space.specs.LeafFlags.{read_write_at}
use Rattle.osc_space.specs.declared.ObjectFact.{ObjectFact}
use Rattle.osc_space.specs.Objects.{granted_at, killed, has_page, is_live}
use Rattle.osc_space.specs.Header.{block_of}
use Rattle.osc_space.specs.Share.{holders, no_regions}
use Rattle.osc_space.specs.Agree.{IsLive, ObjectsAgree}
use Rattle.osc_space.specs.AgreeExamples.{one_space, freed_space, OneAgrees, FreedAgrees, NoneAgrees}

abbrev the_object : ObjectFact
the_object = granted_at 0x1000000 1 24 0x2000008010

abbrev the_dead : ObjectFact
the_dead = killed 2 the_object

abbrev the_block : Block
the_block = record { start = 0x2000008000; room = Small 1 }

only : (x : ObjectFact) (object : ℕ) (o : ObjectFact) → slice_get (x ∷ []) object ≡ Some o → (object ≡ 0) × (x ≡ o)
only x zero o e = (refl, cc)
only x (suc object) o e = cc

mapped_at : (k : ℕ) → k < 1 → mapping_at one_space.tables.pages (0x1000000 + k) ≡ option_map read_write_at (frame_of one_space.heap.pages (0x2000008010 / 4096 + k))
mapped_at zero l = refl
mapped_at (suc k) l = absurd (omega arith)

block_is : (block : Block) → is_held (the_block ∷ []) block ≡ true → the_block ≡ block
block_is block h = let e : is_block block the_block ≡ true = grind (arith, nat_tests, h) in sym (same_block block the_block e)

none_held : (frames frame : ℕ) → holders (no_regions frames) frame ≡ 0
none_held zero frame = refl
none_held (suc frames) zero = refl
none_held (suc frames) (suc frame) = none_held frames frame

one_objects : ObjectsAgree one_space
unfolding room_of
one_objects = record {
  granted = (refl, omega arith, refl, tt);
  limit = omega arith;
  canonical = λ page h. grind (arith, nat_tests, h);
  shadows = λ page h. grind (arith, nat_tests);
  held = λ object o k. subst (λ p. is_held one_space.heap.held (block_of p) ≡ true) (only the_object object o k.0).1 refl;
  own = λ a b o p k m e. (only the_object a o k.0).0 ∙ sym (only the_object b p m.0).0;
  backed = λ block h. record { object = 0; of = the_object; kept = (refl, refl); is = block_is block h };
  pages = λ object o k. subst (λ p. p.pages ≡ shadow_pages (room_of p.size)) (only the_object object o k.0).1 refl;
  mapped = λ object k o l. subst (λ p. k < p.pages → mapping_at one_space.tables.pages (p.first + k) ≡ option_map read_write_at (frame_of one_space.heap.pages (p.canon / 4096 + k))) (only the_object object o l.0).1 (mapped_at k);
  small = λ object o l. subst (λ p. p.pages ≤ 8) (only the_object object o l.0).1 (omega arith);
  waiting = record {
    few = omega arith;
    apart = tt;
    known = λ object h. cc;
    dead = λ object o h e. cc;
    linked = λ object page o h e p. cc;
  };
}

freed_objects : ObjectsAgree freed_space
unfolding room_of
freed_objects = record {
  granted = (refl, omega arith, refl, tt);
  limit = omega arith;
  canonical = λ page h. refl;
  shadows = λ page h. refl;
  held = λ object o k. subst (λ p. is_held one_space.heap.held (block_of p) ≡ true) (only the_dead object o k.0).1 refl;
  own = λ a b o p k m e. (only the_dead a o k.0).0 ∙ sym (only the_dead b p m.0).0;
  backed = λ block h. record { object = 0; of = the_dead; kept = (refl, refl); is = block_is block h };
  pages = λ object o k. subst (λ p. p.pages ≡ shadow_pages (room_of p.size)) (only the_dead object o k.0).1 refl;
  mapped = λ object k o l. absurd (none_lives object o l);
  small = λ object o l. absurd (none_lives object o l);
  waiting = record {
    few = omega arith;
    apart = (refl, tt);
    known = λ object h. grind (arith, nat_tests, h);
    dead = λ object o h e. subst (λ p. is_live p ≡ false) (only the_dead object o e).1 refl;
    linked = λ object page o h e p. linked page (subst (λ q. has_page page q ≡ true) (sym (only the_dead object o e).1) p);
  };
}
  where
    none_lives : (object : ℕ) (o : ObjectFact) → IsLive freed_space object o → ⊥
    none_lives object o l = let e : is_live the_dead ≡ true = subst (λ p. is_live p ≡ true) (sym (only the_dead object o l.0).1) l.1 in cc

    linked : (page : ℕ) → has_page page the_dead ≡ true → is_some (table_over freed_space.tables.tables 0 (page / 512)) ≡ true
    linked page h = let e : page / 512 ≡ 0x8000 = grind (arith, nat_tests, h) in rw e refl

pub freed_agrees : FreedAgrees
freed_agrees = record {
  frames = refl;
  count = refl;
  room = refl;
  root = refl;
  aside = refl;
  heap = freed_objects;
  shared = record {
    count = refl;
    first = λ page h. grind (arith, nat_tests, h);
    held = λ page m h e. cc;
    unheld = λ frame h. none_held 8 frame;
  };
  ranges = λ page h. cc;
  apart = (refl, (refl, (refl, (refl, tt))));
  taken = (refl, (refl, (refl, (refl, tt))));
}

pub one_agrees : OneAgrees
one_agrees = record {
  frames = refl;
  count = refl;
  room = refl;
  root = refl;
  aside = refl;
  heap = one_objects;
  shared = record {
    count = refl;
    first = λ page h. grind (arith, nat_tests, h);
    held = λ page m h e. grind (arith, nat_tests, h, e);
    unheld = λ frame h. none_held 8 frame;
  };
  ranges = λ page h. grind (arith, nat_tests, h);
  apart = (refl, (refl, (refl, (refl, tt))));
  taken = (refl, (refl, (refl, (refl, tt))));
}

pub none_agrees : NoneAgrees
none_agrees = record {
  frames = refl;
  count = refl;
  room = refl;
  root = refl;
  aside = refl;
  heap = record {
    objects = refl;
    waiting = refl;
    shadows = λ page h. refl;
    canonical = λ page h. refl;
  };
  shared = record {
    count = refl;
    first = λ page h. grind (arith, nat_tests, h);
    held = λ page m h e. cc;
    unheld = λ frame h. none_held 8 frame;
  };
  ranges = λ page h. cc;
  apart = (refl, tt);
  taken = (refl, tt);
}
