-- Which shadow pages are dead and which wait, by what a run has shown so far. This project's own.
use Rattle.std.specs.Prelude.{ℕ, ◌+◌, ◌==◌, nat_le, nat_lt, not, Bool, ◌&&◌, Option, List, [], ◌∷◌, ◌++◌, slice_set, slice_index_or, find, filter, map}
use Rattle.osc_word.specs.declared.steps.Label.{Label}
use Rattle.osc_word.specs.declared.steps.Label.TheVariants.{Gave, Freeing, Freed, Moving, Moved, Touched, Forked, Ended}

-- the shadow of an object: the pages that were granted to it
pub record Shadow : Type 0 where
  pub object : ℕ
  pub first : ℕ
  pub pages : ℕ

-- a shadow that is dead, or waits, since a call
pub record Grave : Type 0 where
  pub shadow : Shadow
  pub call : ℕ

-- what a process has granted, what of it was freed and waits until it is let go, and what is dead
pub record Past : Type 0 where
  pub granted : List Shadow
  pub waiting : List Grave
  pub dead : List Grave

abbrev pub no_past : Past
no_past = record { granted = []; waiting = []; dead = [] }

abbrev pub shadow : ℕ → ℕ → ℕ → Shadow
shadow object first pages = record { object = object; first = first; pages = pages }

-- a process's past with a shadow more
abbrev pub grants : Shadow → Past → Past
grants new past = record past { granted = new ∷ past.granted }

-- the graves of an object since a call
abbrev pub graves : ℕ → ℕ → Past → List Grave
graves object call past = map (λ s. record { shadow = s; call = call }) (filter (λ (s : Shadow). s.object == object) past.granted)

-- an object was freed by a call, and waits
abbrev pub lays_out : ℕ → ℕ → Past → Past
lays_out object call past = record past { waiting = graves object call past ++ past.waiting }

-- an object is dead by a call, and waits no more
abbrev pub buries : ℕ → ℕ → Past → Past
buries object call past = record past {
  waiting = filter (λ (g : Grave). not (g.shadow.object == object)) past.waiting;
  dead = graves object call past ++ past.dead;
}

abbrev pub past_of : List Past → ℕ → Past
past_of pasts pid = slice_index_or pasts pid no_past

abbrev pub change_past : ℕ → (Past → Past) → List Past → List Past
change_past pid change pasts = slice_set pasts pid (change (past_of pasts pid))

-- the pasts after a label; a child begins with its parent's, and nothing of an ended process waits
abbrev pub pasts_with : Label → List Past → List Past
pasts_with (Gave pid object first pages size) pasts = change_past pid (grants (shadow object first pages)) pasts
pasts_with (Freeing pid object call) pasts = change_past pid (lays_out object call) pasts
pasts_with (Freed pid object call) pasts = change_past pid (buries object call) pasts
pasts_with (Moved pid old call object first pages size) pasts =
    change_past pid (λ past. grants (shadow object first pages) (buries old call past)) pasts
pasts_with (Forked pid child) pasts = pasts ++ past_of pasts pid ∷ []
pasts_with (Ended pid fault status) pasts = change_past pid (λ past. record past { waiting = [] }) pasts
pasts_with (Moving pid old call) pasts = pasts
pasts_with (Touched pid hart address width kind done) pasts = pasts

-- after the labels of a trace, the first one first; process 0 begins with nothing
abbrev pub pasts_from : List Past → List Label → List Past
pasts_from pasts [] = pasts
pasts_from pasts (label ∷ labels) = pasts_from (pasts_with label pasts) labels

abbrev pub past_after : List Label → ℕ → Past
past_after labels pid = past_of (pasts_from (no_past ∷ []) labels) pid

-- a page of a shadow
abbrev pub is_page_of : ℕ → Shadow → Bool
is_page_of page s = nat_le s.first page && nat_lt page (s.first + s.pages)

abbrev pub grave_in : List Grave → ℕ → Option Grave
grave_in graves page = find (λ (g : Grave). is_page_of page g.shadow) graves

-- the dead shadow that has this page, after a trace
abbrev pub dead_at : List Label → ℕ → ℕ → Option Grave
dead_at labels pid page = grave_in (past_after labels pid).dead page

-- the waiting one
abbrev pub waiting_at : List Label → ℕ → ℕ → Option Grave
waiting_at labels pid page = grave_in (past_after labels pid).waiting page

-- the shadow that was ever granted this page
abbrev pub shadow_at : List Label → ℕ → ℕ → Option Shadow
shadow_at labels pid page = find (λ s. is_page_of page s) (past_after labels pid).granted
