-- The words before the first step.
use Rattle.std.proofs.Common.{◌≡◌, ◌*◌, arith, ap, sym, ◌∙◌, length, replicate, rules}
use Rattle.std.specs.Prelude.{unwrap_or}
use Rattle.std.proofs.lemmas.Grind.{common_steps}
use Rattle.std.proofs.lemmas.List.{take_at}
use Rattle.osc_paging.specs.JobWords.{words_after}
use Rattle.osc_calls.specs.Kernel.{KernelState}
use Rattle.osc_calls.specs.Open.{image_pages, opening}
use Rattle.osc_open.specs.Laying.{pages_of}
use Rattle.osc_settled.proofs.Laying.{no_words, ranges}
use Rattle.osc_ready.proofs.Limits.{in_range}
use Rattle.osc_core.specs.Words.{no_entry}
use Rattle.osc_core.proofs.Jobs.{without_jobs}
use Rattle.osc_core.proofs.Booting.{opened_is}
use Rattle.osc_core.proofs.Opened.{Opens, made_size, opens}
use Rattle.osc_core.proofs.laying.new_words.Goals as goal

pub do_jobs-requires : goal.do_jobs-requires
do_jobs-requires c = rw c.requires.kernel (c.opening_writes.ensures (image_pages c.args.image.now) c.args.config.now)

pub returns-clause-kernel : goal.returns-clause-kernel
returns-clause-kernel c = c.do_jobs.ensures.kernel ∙ ap without_jobs c.requires.kernel ∙ opened_is c.args.image.now c.args.config.now

pub lay_image-requires-clause-levels : goal.lay_image-requires-clause-levels
lay_image-requires-clause-levels c = ((ranges c.args.config.now c.requires.valid).levels, (in_range c.args.config.now c.requires.valid).few_levels)

pub returns-clause-words : goal.returns-clause-words
returns-clause-words c =
    let image = c.args.image.now in
    let config = c.args.config.now in
    let len : c.in_ok-words.words.len ≡ config.frames * 512 = grind (arith, common_steps, c.in_ok-words.ensures.len) in
    let zeros : c.in_ok-words.words.items ≡ replicate (config.frames * 512) 0 = search rules in
    let jobs : c.do_jobs.new.words ≡ words_after no_entry (opening (image_pages image) config).jobs (no_words config) =
    c.do_jobs.ensures.words ∙ ap (λ (k : KernelState). words_after no_entry k.jobs c.deref_mut.result.now) c.requires.kernel
    ∙ ap (words_after no_entry (opening (image_pages image) config).jobs) (c.deref_mut.ensures.value ∙ zeros) in
    let made = c.deref_mut-2.ensures.value
    ∙ take_at c.do_jobs.new.words _ c.in_ok-words.words.len (ap length jobs ∙ made_size image config c.requires.image c.requires.valid c.requires.enough ∙ sym len) ∙ jobs in
    let o : Opens image config c.lay_image.new.words = opens image config c.requires.image c.requires.valid c.requires.enough c.none_above.ensures (pages_of c.args.pages.now) c.requires.pages
    c.do_jobs.new.kernel.kernel (c.do_jobs.ensures.kernel ∙ ap without_jobs c.requires.kernel ∙ opened_is image config)
    c.unwrap_or-root.result (c.unwrap_or-root.ensures ∙ ap (λ o. unwrap_or o 0) c.root.ensures)
    c.deref_mut-2.result.now c.lay_image.new.words made c.lay_image.ensures in
    take_at c.lay_image.new.words _ c.in_ok-words.words.len (o.size ∙ sym len) ∙ o.words
