-- A write that is refused appends nothing, all along a run.
use Rattle.std.proofs.Common.{ℕ, zero, suc, ◌+◌, ◌-◌, ◌≡◌, ◌⊎◌, inl, ⊎_elim, Option, Some, None, IsSome, List, [], ◌∷◌, ◌++◌, length, slice_get, arith, refl, sym, ap, subst, ◌∙◌}
use Rattle.std.specs.Option.{option_map_or, option_and_then}
use Rattle.std.proofs.lemmas.List.{length-append}
use Rattle.osc_calls.specs.Kernel.{KernelState}
use Rattle.osc_machine.specs.Parts.{HartState, State}
use Rattle.osc_machine.specs.Step.{step}
use Rattle.osc_machine.specs.Run.{Ran, with_step, at}
use Rattle.osc_machine.specs.Laws.{HasKernel}
use Rattle.osc_machine.specs.Views.{output_of, journal_of}
use Rattle.osc_machine.specs.Safe.{state_at, HoldsKernel, RefusesWrite}
use Rattle.osc_machine.specs.Start.{start_of}
use Rattle.osc_machine.proofs.KernelLaws.{kernel_seen}
use Rattle.osc_safe.specs.Standing.{IsFor, Stands}
use Rattle.osc_safe.specs.Unwritten.{RunsRefuse}
use Rattle.osc_safe.proofs.KernelRows.{kernels_step, hand-is-one}
use Rattle.osc_safe.proofs.TellingRuns.{Known}
use Rattle.osc_safe.proofs.Moments.{further, known-at}
use Rattle.osc_safe.proofs.WriteRows.{Silent, Over, step-commits, silent-step, refused-silent}

output-is : (s : State) (k : KernelState) → HasKernel s k → output_of s ≡ k.output
output-is s k has = ap (λ o. option_map_or (λ (z : KernelState). z.output) o []) (kernel_seen s k has)

journal-is : (s : State) (k : KernelState) → HasKernel s k → journal_of s ≡ k.journal
journal-is s k has = ap (λ o. option_map_or (λ (z : KernelState). z.journal) o []) (kernel_seen s k has)

-- ---- a moment
-- the kernel of a state has this output, and its call has no job left or has returned
record Quietly (text : List ℕ) (s : State) : Type 0 where
  k : KernelState
  has : HasKernel s k
  still : Silent text k ⊎ Over text k

quiet-output : (text : List ℕ) (s : State) → Quietly text s → output_of s ≡ text
quiet-output text s q = output-is s q.k q.has ∙ ⊎_elim (λ (z : Silent text q.k). z.output) (λ (z : Over text q.k). z.output) q.still

-- a hart holds the kernel
record Holder (s : State) : Type 0 where
  n : ℕ
  h : HartState
  k : KernelState
  here : slice_get s.harts n ≡ Some h
  has : h.kernel ≡ Some k

holder-by : (s : State) (n : ℕ) (o : Option HartState) → slice_get s.harts n ≡ o → IsSome (option_and_then (λ (h : HartState). h.kernel) o) → Holder s
holder-by s n None e i = absurd (let b : ⊥ = grind (arith, i) in b)
holder-by s n (Some h) e i = go h.kernel refl i
  where
    go : (o : Option KernelState) → h.kernel ≡ o → IsSome o → Holder s
    go None f i = absurd (let b : ⊥ = grind (arith, i) in b)
    go (Some k) f i = record { n = n; h = h; k = k; here = e; has = f }

-- then its call has not returned
held-silent : (text : List ℕ) (s : State) → Stands s → Holder s → (q : Quietly text s) → Silent text q.k
held-silent text s stands held q = ⊎_elim (λ (z : Silent text q.k). z)
    (λ (z : Over text q.k). absurd
    (let i = stands.hand held.n held.h held.here held.k held.has in
    let same = hand-is-one s held.n held.h held.k q.k q.has held.here held.has in
    subst (IsFor held.n) (ap (λ (k : KernelState). k.under_way) same ∙ z.quiet) i.caller))
    q.still

-- ---- from one moment to the next
quiet-step : (text : List ℕ) (ran : Ran) (x : ℕ) → Known ran → (q : Quietly text ran.state) → Silent text q.k → Quietly text (step ran.state x).state
quiet-step text ran x known q s =
    let g = kernels_step ran.state x q.k known.both.holds known.both.stands q.has in
    record { k = g.next; has = g.has; still = silent-step text q.k g.next (step ran.state x).shows s g.goes }

quiet-next : (text : List ℕ) (start : State) (picks : List ℕ) (i : ℕ) → Known (at start picks i) → Holder (state_at start picks i) → Quietly text (state_at start picks i) → Quietly text (state_at start picks (i + 1))
quiet-next text start picks i known held q = ⊎_elim
    (λ (same : at start picks (i + 1) ≡ at start picks i). subst (λ (z : Ran). Quietly text z.state) (sym same) q)
    (λ (next : (x : ℕ) × (slice_get picks i ≡ Some x) × (at start picks (i + 1) ≡ with_step (at start picks i) (step (state_at start picks i) x))).
    subst (λ (z : Ran). Quietly text z.state) (sym next.2)
    (quiet-step text (at start picks i) next.0 known q (held-silent text (state_at start picks i) known.both.stands held q)))
    (further start picks i)

-- ---- the step that commits the write
commit-quiet : (start : State) (picks : List ℕ) (i hart : ℕ) → Known (at start picks i) → RefusesWrite start picks i hart → Quietly (output_of (state_at start picks i)) (state_at start picks (i + 1))
commit-quiet start picks i hart known w = ⊎_elim
    (λ (same : at start picks (i + 1) ≡ at start picks i).
    absurd (let e : length (journal_of (state_at start picks i)) ≡ length (journal_of (state_at start picks i) ++ w.0 ∷ []) = ap (λ (z : Ran). length (journal_of z.state)) (sym same) ∙ ap length w.2 in
    let m = length-append (journal_of (state_at start picks i)) (w.0 ∷ []) in let b : ⊥ = omega (arith, e, m) in b))
    (λ (next : (x : ℕ) × (slice_get picks i ≡ Some x) × (at start picks (i + 1) ≡ with_step (at start picks i) (step (state_at start picks i) x))).
    subst (λ (z : Ran). Quietly (output_of (state_at start picks i)) z.state) (sym next.2)
    (let s = state_at start picks i in
    let g = kernels_step s next.0 known.kernel known.both.holds known.both.stands known.has in
    let j : g.next.journal ≡ known.kernel.journal ++ w.0 ∷ [] =
    sym (journal-is (step s next.0).state g.next g.has) ∙ ap (λ (z : Ran). journal_of z.state) (sym next.2) ∙ w.2 ∙ ap (λ xs. xs ++ w.0 ∷ []) (journal-is s known.kernel known.has) in
    let silent = refused-silent known.kernel g.next w.0 w.1 (step-commits known.kernel g.next (step s next.0).shows g.fits g.goes) j w.4 in
    record { k = g.next; has = g.has; still = inl (subst (λ text. Silent text g.next) (sym (output-is s known.kernel known.has)) silent) }))
    (further start picks i)

-- ---- on to the giving of the kernel
quiet-on : (start : State) (picks : List ℕ) (i hart : ℕ) → ((j : ℕ) → Known (at start picks j)) → RefusesWrite start picks i hart → (more : ℕ) → HoldsKernel start picks hart (i + 1) (i + more)
    → Quietly (output_of (state_at start picks i)) (state_at start picks (i + more + 1))
quiet-on start picks i hart known w zero holds =
    let same : i + 1 ≡ i + 0 + 1 = omega arith in
    subst (λ z. Quietly (output_of (state_at start picks i)) (state_at start picks z)) same (commit-quiet start picks i hart (known i) w)
quiet-on start picks i hart known w (suc more) holds =
    let at_last : i + more + 1 ≡ i + suc more = omega arith in
    let before = quiet-on start picks i hart known w more (λ j a b. holds j a (omega (arith, b))) in
    let held : Holder (state_at start picks (i + more + 1)) = holder-by (state_at start picks (i + more + 1)) hart _ refl (holds (i + more + 1) (omega arith) (omega arith)) in
    let next = quiet-next (output_of (state_at start picks i)) start picks (i + more + 1) (known (i + more + 1)) held before in
    subst (λ z. Quietly (output_of (state_at start picks i)) (state_at start picks (z + 1))) at_last next

pub runs_refuse : RunsRefuse
runs_refuse file image config picks fit is_image room i hart to w l holds =
    let start = start_of image config in
    let same : i + (to - i) ≡ to = omega (arith, l) in
    subst (λ z. output_of (state_at start picks (z + 1)) ≡ output_of (state_at start picks i)) same
    (quiet-output (output_of (state_at start picks i)) (state_at start picks (i + (to - i) + 1))
    (quiet-on start picks i hart (λ j. known-at file image config picks fit is_image room j) w (to - i) (subst (λ z. HoldsKernel start picks hart (i + 1) z) (sym same) holds)))
