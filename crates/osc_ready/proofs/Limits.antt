-- The ranges of a configuration without a fault.
use Rattle.std.proofs.Common.{ℕ, zero, suc, ◌≡◌, ◌≤◌, nat_le, ◌&&◌, not, Bool, true, false, cond, Some, None, option_map, List, [], ◌∷◌, find, slice_get, arith, refl, ap, sym, ◌∙◌}
use Rattle.std.proofs.lemmas.Bool.Decides.{nat_tests}
use Rattle.osc_word.specs.declared.settings.Config.{Config}
use Rattle.osc_word.specs.Limits.{Limit, limits, is_kept, first_fault}

all_kept : (ls : List Limit) (i : ℕ) (l : Limit) → option_map (λ (x : Limit). x.fault) (find (λ (x : Limit). not (is_kept x)) ls) ≡ None → slice_get ls i ≡ Some l → is_kept l ≡ true
all_kept [] i l e g = absurd (let z : ⊥ = grind (arith, g) in z)
all_kept (x ∷ ls) i l e g = go (is_kept x) refl e i g (all_kept ls)
  where
    here : (b : Bool) → is_kept x ≡ b → b ≡ true → x ≡ l → is_kept l ≡ true
    here b f t same = ap is_kept (sym same) ∙ f ∙ t

    go : (b : Bool) → is_kept x ≡ b → option_map (λ (y : Limit). y.fault) (cond (not b) (Some x) (find (λ (y : Limit). not (is_kept y)) ls)) ≡ None → (j : ℕ) → slice_get (x ∷ ls) j ≡ Some l
        → ((i : ℕ) (m : Limit) → option_map (λ (y : Limit). y.fault) (find (λ (y : Limit). not (is_kept y)) ls) ≡ None → slice_get ls i ≡ Some m → is_kept m ≡ true) → is_kept l ≡ true
    go false f h j k later = absurd (let z : ⊥ = grind (arith, h) in z)
    go true f h zero k later = here true f refl (let same : x ≡ l = cc in same)
    go true f h (suc j) k later = later j l h k

greatest : (least most n : ℕ) → (nat_le least n && nat_le n most) ≡ true → n ≤ most
greatest a b n e = grind (arith, nat_tests, e)

least : (least most n : ℕ) → (nat_le least n && nat_le n most) ≡ true → least ≤ n
least a b n e = grind (arith, nat_tests, e)

pub record InRange (config : Config) : Type 0 where
  pub harts : config.harts ≤ 8
  pub processes : config.processes ≤ 64
  pub some_processes : 1 ≤ config.processes
  pub frames : config.frames ≤ 4096
  pub some_frames : 64 ≤ config.frames
  pub shadows : config.shadows ≤ 1048576
  pub journal : config.journal ≤ 1048576
  pub levels : 3 ≤ config.levels
  pub few_levels : config.levels ≤ 4
  pub batch : config.batch ≤ 64

pub in_range : (config : Config) → first_fault config ≡ None → InRange config
in_range config e = record {
  harts = greatest 1 8 config.harts (all_kept (limits config) 0 _ e refl);
  processes = greatest 1 64 config.processes (all_kept (limits config) 1 _ e refl);
  some_processes = least 1 64 config.processes (all_kept (limits config) 1 _ e refl);
  frames = greatest 64 4096 config.frames (all_kept (limits config) 2 _ e refl);
  some_frames = least 64 4096 config.frames (all_kept (limits config) 2 _ e refl);
  shadows = greatest 1 1048576 config.shadows (all_kept (limits config) 3 _ e refl);
  journal = greatest 1 1048576 config.journal (all_kept (limits config) 4 _ e refl);
  levels = least 3 4 config.levels (all_kept (limits config) 5 _ e refl);
  few_levels = greatest 3 4 config.levels (all_kept (limits config) 5 _ e refl);
  batch = greatest 1 64 config.batch (all_kept (limits config) 6 _ e refl);
}
