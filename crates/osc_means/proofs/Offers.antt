-- Offers that are alike in both runs, and what a choice makes of them.
use Rattle.std.proofs.Common.{ℕ, ◌≡◌, Bool, true, false, cond, List, Option, Some, None, option_map, Result, Ok, Err, refl, ap, sym, subst, ◌∙◌, slice_get, map}
use Rattle.std.proofs.lemmas.Option.{slice_get-map}
use Rattle.osc_word.specs.declared.steps.Choice.{Choice}
use Rattle.osc_word.specs.declared.steps.Choice.TheVariants as choice
use Rattle.osc_world.specs.declared.Value.{Value}
use Rattle.osc_world.specs.declared.ObjectWhy.{ObjectWhy}
use Rattle.osc_world.specs.States.{Process, Hart}
use Rattle.osc_world.specs.Deeds.{state_after}
use Rattle.osc_world.specs.Offers.{Meaning, Goes, Errs, Unfit, Only, Grants, Starts, Conditional, Never, is_idle, chosen}
use Rattle.osc_world.specs.World.{World, WorldTurn, WorldDeed, WorldOffer}
use Rattle.osc_world.specs.Calls.{world_kind}
use Rattle.osc_world.specs.Events.{meaning_of, meaning_by}
use Rattle.osc_world.specs.PlainWorld.{Flat, Want, Plain, PlainTurn, PlainDeed, PlainOffer, plain_kind}
use Rattle.osc_world.specs.PlainRun.{plain_chosen, plain_done}
use Rattle.osc_means.specs.Shown.{Shows, Kept, shown_hart}
use Rattle.osc_means.proofs.Reading.{Paired, plain_turn}
use Rattle.osc_means.proofs.Deeds.{Alike, after-shows}

-- a plain run that is stuck is like every deed
unfoldable pub MeaningsAlike : (frames : ℕ) (place : ℕ → ℕ → ℕ) (turn : WorldTurn) (plain : Plain) (y : Process Flat) → Meaning WorldDeed ObjectWhy → Meaning PlainDeed Want → Type 0
MeaningsAlike frames place turn plain y (Goes deed) (Goes other) = Alike frames place turn plain y deed other
MeaningsAlike frames place turn plain y (Goes deed) (Errs want) = Unit {0}
MeaningsAlike frames place turn plain y (Goes deed) Unfit = ⊥
MeaningsAlike frames place turn plain y (Errs why) other = Unit {0}
MeaningsAlike frames place turn plain y Unfit other = Unit {0}

unfoldable pub OffersAlike : (frames : ℕ) (place : ℕ → ℕ → ℕ) (turn : WorldTurn) (plain : Plain) (y : Process Flat) → WorldOffer → PlainOffer → Type 0
OffersAlike frames place turn plain y (Only deed) (Only other) = Alike frames place turn plain y deed other
OffersAlike frames place turn plain y (Grants given refused) (Grants other no_grant) =
    MeaningsAlike frames place turn plain y given other × Alike frames place turn plain y refused no_grant
OffersAlike frames place turn plain y (Starts deed refused) (Starts other no_start) =
    ((hart : ℕ) → Alike frames place turn plain y (deed hart) (other hart)) × Alike frames place turn plain y refused no_start
OffersAlike frames place turn plain y (Conditional success failure) (Conditional other no_store) =
    MeaningsAlike frames place turn plain y success other × Alike frames place turn plain y failure no_store
OffersAlike frames place turn plain y Never other = Unit {0}
OffersAlike frames place turn plain y _ _ = ⊥

-- an error is like everything
unfoldable pub ResultsAlike : (frames : ℕ) (place : ℕ → ℕ → ℕ) (turn : WorldTurn) (plain : Plain) (y : Process Flat) → Result WorldOffer ObjectWhy → PlainOffer → Type 0
ResultsAlike frames place turn plain y (Ok offer) other = OffersAlike frames place turn plain y offer other
ResultsAlike frames place turn plain y (Err why) other = Unit {0}

meant-shows : (frames : ℕ) (place : ℕ → ℕ → ℕ) (turn : WorldTurn) (plain : Plain) (y : Process Flat) (m : Meaning WorldDeed ObjectWhy) (n : Meaning PlainDeed Want) (now : World) (then : Plain)
    → Paired frames place turn plain y → MeaningsAlike frames place turn plain y m n → meaning_of turn m ≡ Goes now → plain_done (plain_turn place turn plain y) n ≡ Some then → Kept place then → Shows frames place now then
unfolding MeaningsAlike
meant-shows frames place turn plain y (Goes deed) (Goes other) now then pair a e f k =
    let x : state_after world_kind turn deed ≡ now = cc in
    let z : state_after plain_kind (plain_turn place turn plain y) other ≡ then = cc in
    subst (λ w. Shows frames place w then) x (subst (λ p. Shows frames place (state_after world_kind turn deed) p) z
    (after-shows frames place turn plain y deed other pair a (subst (Kept place) (sym z) k)))
meant-shows frames place turn plain y (Goes deed) (Errs want) now then pair a e f k = absurd (cc)
meant-shows frames place turn plain y (Goes deed) Unfit now then pair a e f k = absurd a
meant-shows frames place turn plain y (Errs why) n now then pair a e f k = absurd (cc)
meant-shows frames place turn plain y Unfit n now then pair a e f k = absurd (cc)

-- a deed is a meaning that goes on
deed-shows : (frames : ℕ) (place : ℕ → ℕ → ℕ) (turn : WorldTurn) (plain : Plain) (y : Process Flat) (deed : WorldDeed) (other : PlainDeed) (now : World) (then : Plain)
    → Paired frames place turn plain y → Alike frames place turn plain y deed other → meaning_of turn (Goes deed) ≡ Goes now → plain_done (plain_turn place turn plain y) (Goes other) ≡ Some then → Kept place then → Shows frames place now then
unfolding MeaningsAlike
deed-shows frames place turn plain y deed other now then pair a e f k = meant-shows frames place turn plain y (Goes deed) (Goes other) now then pair a e f k

same-idle : (frames : ℕ) (place : ℕ → ℕ → ℕ) (turn : WorldTurn) (plain : Plain) (y : Process Flat) (h : ℕ) → Paired frames place turn plain y → is_idle (slice_get plain.harts h) ≡ is_idle (slice_get turn.state.harts h)
same-idle frames place turn plain y h pair = ap (λ z. is_idle (slice_get z h)) pair.shows.harts ∙ ap is_idle (slice_get-map (shown_hart place) turn.state.harts h) ∙ by (slice_get turn.state.harts h)
  where
    by : (x : Option (Hart Value)) → is_idle (option_map (shown_hart place) x) ≡ is_idle x
    by None = refl
    by (Some x) = refl

offered-shows : (frames : ℕ) (place : ℕ → ℕ → ℕ) (turn : WorldTurn) (plain : Plain) (y : Process Flat) (offer : WorldOffer) (other : PlainOffer) (c : Choice) (now : World) (then : Plain)
    → Paired frames place turn plain y → OffersAlike frames place turn plain y offer other → meaning_of turn (chosen turn.state.harts offer c) ≡ Goes now
    → plain_done (plain_turn place turn plain y) (plain_chosen (plain_turn place turn plain y) c other) ≡ Some then → Kept place then → Shows frames place now then
unfolding OffersAlike chosen
offered-shows frames place turn plain y (Only deed) (Only other) choice.Plain now then pair a e f k = deed-shows frames place turn plain y deed other now then pair a e f k
offered-shows frames place turn plain y (Only deed) (Only other) c now then pair a e f k = absurd (cc)
offered-shows frames place turn plain y (Only deed) other c now then pair a e f k = absurd a
offered-shows frames place turn plain y (Grants given refused) (Grants other refusal) choice.Given now then pair a e f k = meant-shows frames place turn plain y given other now then pair a.0 e f k
offered-shows frames place turn plain y (Grants given refused) (Grants other refusal) choice.Refused now then pair a e f k = deed-shows frames place turn plain y refused refusal now then pair a.1 e f k
offered-shows frames place turn plain y (Grants given refused) (Grants other refusal) c now then pair a e f k = absurd (cc)
offered-shows frames place turn plain y (Grants given refused) other c now then pair a e f k = absurd a
offered-shows frames place turn plain y (Starts deed refused) (Starts other refusal) choice.Refused now then pair a e f k = deed-shows frames place turn plain y refused refusal now then pair a.1 e f k
offered-shows frames place turn plain y (Starts deed refused) (Starts other refusal) (choice.Started h) now then pair a e f k = by (is_idle (slice_get turn.state.harts h)) e (subst (λ t. plain_done (plain_turn place turn plain y) (cond t (Goes (other h)) Unfit) ≡ Some then) (same-idle frames place turn plain y h pair) f)
  where
    by : (t : Bool) → meaning_of turn (cond t (Goes (deed h)) Unfit) ≡ Goes now → plain_done (plain_turn place turn plain y) (cond t (Goes (other h)) Unfit) ≡ Some then → Shows frames place now then
    by true e f = deed-shows frames place turn plain y (deed h) (other h) now then pair (a.0 h) e f k
    by false e f = absurd (cc)
offered-shows frames place turn plain y (Starts deed refused) (Starts other refusal) c now then pair a e f k = absurd (cc)
offered-shows frames place turn plain y (Starts deed refused) other c now then pair a e f k = absurd a
offered-shows frames place turn plain y (Conditional success failure) (Conditional other refusal) choice.Success now then pair a e f k = meant-shows frames place turn plain y success other now then pair a.0 e f k
offered-shows frames place turn plain y (Conditional success failure) (Conditional other refusal) choice.Fail now then pair a e f k = deed-shows frames place turn plain y failure refusal now then pair a.1 e f k
offered-shows frames place turn plain y (Conditional success failure) (Conditional other refusal) c now then pair a e f k = absurd (cc)
offered-shows frames place turn plain y (Conditional success failure) other c now then pair a e f k = absurd a
offered-shows frames place turn plain y Never other choice.Plain now then pair a e f k = absurd (cc)
offered-shows frames place turn plain y Never other choice.Given now then pair a e f k = absurd (cc)
offered-shows frames place turn plain y Never other choice.Refused now then pair a e f k = absurd (cc)
offered-shows frames place turn plain y Never other (choice.Started h) now then pair a e f k = absurd (cc)
offered-shows frames place turn plain y Never other choice.Success now then pair a e f k = absurd (cc)
offered-shows frames place turn plain y Never other choice.Fail now then pair a e f k = absurd (cc)

pub results-show : (frames : ℕ) (place : ℕ → ℕ → ℕ) (turn : WorldTurn) (plain : Plain) (y : Process Flat) (r : Result WorldOffer ObjectWhy) (other : PlainOffer) (c : Choice) (now : World) (then : Plain)
    → Paired frames place turn plain y → ResultsAlike frames place turn plain y r other → meaning_by turn c r ≡ Goes now
    → plain_done (plain_turn place turn plain y) (plain_chosen (plain_turn place turn plain y) c other) ≡ Some then → Kept place then → Shows frames place now then
unfolding ResultsAlike
results-show frames place turn plain y (Ok offer) other c now then pair a e f k = offered-shows frames place turn plain y offer other c now then pair a e f k
results-show frames place turn plain y (Err why) other c now then pair a e f k = absurd (cc)
