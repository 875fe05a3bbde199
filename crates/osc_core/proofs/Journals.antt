-- The journal of a sound machine is no longer than its limit.
use Rattle.std.proofs.Common.{ℕ, zero, suc, ◌≡◌, ◌<◌, ◌≤◌, Bool, true, false, cond, not, Option, Some, None, IfSome, List, [], ◌∷◌, length, find, option_map, slice_get, arith, refl, sym, ◌∙◌, ap, subst}
use Rattle.std.proofs.lemmas.Bool.Decides.{nat_tests}
use Rattle.std.specs.Option.{option_or}
use Rattle.osc_word.specs.declared.settings.Config.{Config}
use Rattle.osc_word.specs.Limits.{Limit, limits, is_kept, first_fault}
use Rattle.osc_calls.specs.Kernel.{KernelState}
use Rattle.osc_machine.specs.Parts.{HartState, State}
use Rattle.osc_machine.specs.Views.{held_kernel, kernel_of}
use Rattle.osc_core.specs.Sound.{KernelSound, HomeSound, HandSound, HartSound, SoundIn}

-- where no limit is broken the one at a place is kept
kept_at : (ls : List Limit) (i : ℕ) (l : Limit) → find (λ (x : Limit). not (is_kept x)) ls ≡ None → slice_get ls i ≡ Some l → is_kept l ≡ true
kept_at [] i l e g = absurd (let z : ⊥ = grind (arith, g) in z)
kept_at (x ∷ ls) i l e g = go (is_kept x) refl e i g (kept_at ls)
  where
    go : (b : Bool) → is_kept x ≡ b → cond (not b) (Some x) (find (λ (y : Limit). not (is_kept y)) ls) ≡ None → (j : ℕ) → slice_get (x ∷ ls) j ≡ Some l
        → ((i : ℕ) (m : Limit) → find (λ (y : Limit). not (is_kept y)) ls ≡ None → slice_get ls i ≡ Some m → is_kept m ≡ true) → is_kept l ≡ true
    go false f h j k later = absurd (let z : ⊥ = grind (arith, h) in z)
    go true f h zero k later = let same : x ≡ l = cc in ap is_kept (sym same) ∙ f
    go true f h (suc j) k later = later j l h k

none_found : (o : Option Limit) → option_map (λ (l : Limit). l.fault) o ≡ None → o ≡ None
none_found None e = refl
none_found (Some l) e = absurd (let z : ⊥ = grind (arith, e) in z)

journal_limit : (config : Config) → first_fault config ≡ None → config.journal ≤ 1048576
journal_limit config valid =
    let e = kept_at (limits config) 4 _ (none_found _ valid) refl in
    grind (arith, nat_tests, e)

journal_small : (frames harts : ℕ) (k : KernelState) → KernelSound frames harts k → length k.journal < 4294967296
journal_small frames harts k s =
    let most = s.fits.sizes.journal in
    let limit = journal_limit k.config s.fits.sizes.config in
    omega (arith, most, limit)

held_sound : (frames harts : ℕ) (hs : List HartState) → ((n : ℕ) (h : HartState) → slice_get hs n ≡ Some h → HartSound frames harts h)
    → IfSome (held_kernel hs) (KernelSound frames harts)
held_sound frames harts [] each = tt
held_sound frames harts (h ∷ hs) each = go h.kernel refl (held_sound frames harts hs (λ n g e. each (suc n) g e))
  where
    go : (o : Option KernelState) → h.kernel ≡ o → IfSome (held_kernel hs) (KernelSound frames harts) → IfSome (option_or o (held_kernel hs)) (KernelSound frames harts)
    go None e rest = rest
    go (Some k) e rest = subst (HandSound frames harts) e (each 0 h refl).kernel

pub kernel_sound : (frames harts : ℕ) (s : State) → SoundIn frames harts s → IfSome (kernel_of s) (KernelSound frames harts)
kernel_sound frames harts s sound = go s.kernel refl sound.home
  where
    go : (o : Option KernelState) → s.kernel ≡ o → HomeSound frames harts o → IfSome (option_or o (held_kernel s.harts)) (KernelSound frames harts)
    go None e home = held_sound frames harts s.harts sound.each
    go (Some k) e home = home.0

pub journal_fits : (frames harts : ℕ) (s : State) (k : KernelState) → SoundIn frames harts s → kernel_of s ≡ Some k → length k.journal < 4294967296
journal_fits frames harts s k sound e = journal_small frames harts k (subst (λ o. IfSome o (KernelSound frames harts)) e (kernel_sound frames harts s sound))
