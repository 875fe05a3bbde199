-- The machine is at its start.
use Rattle.std.proofs.Common.{◌≡◌, ◌∙◌, ap}
use Rattle.std.proofs.Common.{rules, None, map, replicate}
use Rattle.std.specs.Prelude.{unwrap_or}
use Rattle.std.specs.List.{range_with_len}
use Rattle.osc_word.specs.Limits.{first_fault}
use Rattle.osc_machine.specs.Start.{first_hart}
use Rattle.osc_core.specs.Boot.{start_at}
use Rattle.osc_core.proofs.Booting.{root_is, root_below, starts}
use Rattle.osc_core.proofs.Told.{tells-at-start}
use Rattle.osc_core.proofs.machine.Machine.boot.Goals as goal

pub new_harts-requires : goal.new_harts-requires
new_harts-requires c =
    let image = c.args.image.now in
    let config = c.args.config.now in
    let k = c.new_words.new.kernel.kernel in
    let e = c.in_ok-words.ensures.kernel in
    rw (c.first_start.ensures, c.unwrap_or-root.ensures, c.root.ensures, root_is image config k e)
    (root_below image config k c.requires.image (let v : first_fault config ≡ None = search rules in v) c.in_ok-kernel.ensures.opened.0 e)

pub returns-clause-begins : goal.returns-clause-begins
returns-clause-begins c =
    let image = c.args.image.now in
    let config = c.args.config.now in
    let k = c.new_words.new.kernel.kernel in
    let e = c.in_ok-words.ensures.kernel in
    let at = c.unwrap_or-root.result in
    record {
      valid = (let v : first_fault config ≡ None = search rules in v);
      enough = c.in_ok-kernel.ensures.opened.0;
      starts = starts image config k c.in_ok-words.words.items c.in_ok-vec.field-0.items c.in_ok-new.field-0 c.in_ok-harts.harts.items at e c.in_ok-words.ensures.words
          (let g : c.in_ok-vec.field-0.items ≡ replicate config.frames 0 = search rules in g) c.in_ok-new.ensures (c.unwrap_or-root.ensures ∙ ap (λ o. unwrap_or o 0) c.root.ensures ∙ root_is image config k e)
          (c.in_ok-harts.ensures ∙ ap (λ s. map (first_hart config s) (range_with_len 0 config.harts)) (c.first_start.ensures ∙ ap (start_at config at) c.entry.ensures));
    }

pub returns-clause-journal : goal.returns-clause-journal
returns-clause-journal c =
    let begun = returns-clause-begins c in
    tells-at-start c.args.image.now c.args.config.now _ c.requires.image begun.valid begun.enough begun.starts
