-- Where a look at a header gives words, there is a live object.
use Rattle.std.proofs.Common.{ℕ, ◌≡◌, ◌==◌, Bool, true, false, cond, List, Option, Some, None, refl, ap, sym, ◌∙◌}
use Rattle.std.specs.Prelude.{IsSome, option_map}
use Rattle.osc_paging.specs.KeptTables.{KeptTables}
use Rattle.osc_space.specs.declared.ObjectFact.{ObjectFact}
use Rattle.osc_space.specs.declared.ObjectState.{ObjectState}
use Rattle.osc_space.specs.declared.ObjectState.TheVariants.{Live, Dead}
use Rattle.osc_space.specs.declared.HeaderLook.TheVariants.{Zero}
use Rattle.osc_space.specs.Objects.{Seen, is_live, object_at}
use Rattle.osc_space.specs.Header.{header_in, look_at, look_by_state}
use Rattle.osc_shadow.specs.declared.header.SeenObject.{SeenObject}
use Rattle.osc_shadow.specs.Sight.{GivesWords, seen_of}

pub record LooksLive (objects : List ObjectFact) (pointer : ℕ) : Type 0 where
  pub seen : Seen
  pub is : object_at objects pointer ≡ Some seen
  pub live : seen.fact.state ≡ Live

by_state : (tables : KeptTables) (objects : List ObjectFact) (pointer : ℕ) (s : Seen) (state : ObjectState) → object_at objects pointer ≡ Some s → s.fact.state ≡ state → GivesWords (look_by_state tables pointer s.number state) → LooksLive objects pointer
by_state tables objects pointer s Live e f w = record { seen = s; is = e; live = f }
by_state tables objects pointer s (Dead call) e f w = absurd w

by_look : (tables : KeptTables) (objects : List ObjectFact) (pointer : ℕ) (x : Option Seen) → object_at objects pointer ≡ x → GivesWords (look_at tables pointer x) → LooksLive objects pointer
by_look tables objects pointer None e w = absurd w
by_look tables objects pointer (Some s) e w = by_state tables objects pointer s s.fact.state e refl w

by_pointer : (tables : KeptTables) (objects : List ObjectFact) (pointer : ℕ) (b : Bool) → GivesWords (cond b Zero (look_at tables pointer (object_at objects pointer))) → LooksLive objects pointer
by_pointer tables objects pointer true w = absurd w
by_pointer tables objects pointer false w = by_look tables objects pointer (object_at objects pointer) refl w

pub looks_live : (tables : KeptTables) (objects : List ObjectFact) (pointer : ℕ) → GivesWords (header_in tables objects pointer) → LooksLive objects pointer
unfolding header_in
looks_live tables objects pointer w = by_pointer tables objects pointer (pointer == 0) w

-- ---- what the code has seen
pub is_seen : (tables : KeptTables) (objects : List ObjectFact) (pointer : ℕ) (x : Option SeenObject) → GivesWords (header_in tables objects pointer) → option_map seen_of x ≡ object_at objects pointer → IsSome x
is_seen tables objects pointer x w e = let h = looks_live tables objects pointer w in go x (e ∙ h.is)
  where
    go : (x : Option SeenObject) → option_map seen_of x ≡ Some (looks_live tables objects pointer w).seen → IsSome x
    go None f = cc
    go (Some o) f = refl

pub record SeenLive (objects : List ObjectFact) (pointer : ℕ) (o : SeenObject) : Type 0 where
  pub is : object_at objects pointer ≡ Some (seen_of o)
  pub state : o.fact.state ≡ Live
  pub live : is_live o.fact ≡ true

pub seen_live : (tables : KeptTables) (objects : List ObjectFact) (pointer : ℕ) (x : Option SeenObject) (o : SeenObject) → GivesWords (header_in tables objects pointer) → option_map seen_of x ≡ object_at objects pointer → x ≡ Some o → SeenLive objects pointer o
seen_live tables objects pointer x o w e f =
    let h = looks_live tables objects pointer w in
    let is : object_at objects pointer ≡ Some (seen_of o) = sym e ∙ ap (λ y. option_map seen_of y) f in
    let same : Some (looks_live tables objects pointer w).seen ≡ Some (seen_of o) = sym h.is ∙ is in
    let seen : (looks_live tables objects pointer w).seen ≡ seen_of o = cc in
    let state : o.fact.state ≡ Live = sym (ap (λ (s : Seen). s.fact.state) seen) ∙ h.live in
    record { is = is; state = state; live = rw state refl }
