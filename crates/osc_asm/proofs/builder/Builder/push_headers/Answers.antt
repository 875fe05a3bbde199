use Rattle.std.proofs.Common.{◌≡◌, ◌*◌, ◌<◌, ◌++◌, ap, ◌∙◌, arith, length}
use Rattle.std.proofs.lemmas.Grind.{common_steps}
use Rattle.osc_asm.specs.File.{fields_bytes, load_header}
use Rattle.osc_asm.specs.Layout.{bytes_address}
use Rattle.osc_asm.proofs.Laying.{pushed-code, pushed-both}
use Rattle.osc_asm.proofs.builder.Builder.push_headers.Goals as goal

pub returns-then-is_empty : goal.returns-then-is_empty
returns-then-is_empty c =
    let none : length c.args.self.now.bytes ≡ 0 = grind (arith, common_steps) in
    let count : c.len.result ≡ length c.args.self.now.code = grind (arith, common_steps) in
    pushed-code c.args.self.now c.args.file.now.items c.push_fields.new.file.items c.push_fields-then-is_empty.new.file.items none
    (c.in_ok-push_fields.ensures ∙ ap (λ h. c.args.file.now.items ++ fields_bytes h) c.file_header.ensures)
    (c.in_ok-push_fields-2.ensures
    ∙ ap (λ h. c.push_fields.new.file.items ++ fields_bytes h)
    (c.load_header-code.ensures ∙ ap (λ n. load_header 5 65536 (4 * n) (4 * n)) count))

pub returns : goal.returns
returns c =
    let some : 0 < length c.args.self.now.bytes = grind (arith, common_steps) in
    let count : c.len.result ≡ length c.args.self.now.code = grind (arith, common_steps) in
    let size : c.len-bytes_size.result ≡ length c.args.self.now.bytes = grind (arith, common_steps) in
    pushed-both c.args.self.now c.args.file.now.items c.push_fields-2.new.file.items c.push_fields-3.new.file.items
    c.push_fields-4.new.file.items some
    (c.in_ok-push_fields-3.ensures ∙ ap (λ h. c.args.file.now.items ++ fields_bytes h) c.file_header-2.ensures)
    (c.in_ok-push_fields-4.ensures
    ∙ ap (λ h. c.push_fields-2.new.file.items ++ fields_bytes h)
    (c.load_header-code.ensures ∙ ap (λ n. load_header 5 65536 (4 * n) (4 * n)) count))
    (c.in_ok-push_fields-5.ensures
    ∙ ap (λ h. c.push_fields-3.new.file.items ++ fields_bytes h)
    (c.load_header-bytes.ensures
    ∙ (ap (λ a. load_header 6 a c.len-bytes_size.result c.len-bytes_size.result) c.bytes_address-start.ensures.value
    ∙ ap (λ n. load_header 6 (bytes_address c.args.self.now) n n) size)))
