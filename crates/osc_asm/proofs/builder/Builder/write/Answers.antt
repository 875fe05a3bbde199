use Rattle.std.proofs.Common.{ℕ, List, ◌≡◌, ◌<◌, ◌≤◌, ◌++◌, ap, sym, ◌∙◌, arith, length}
use Rattle.osc_asm.specs.File.{file, fields_bytes, headers, segments, code_bytes, laid, file_place}
use Rattle.osc_image.specs.Form.{image_of}
use Rattle.osc_asm.specs.Program.{Program}
use Rattle.osc_asm.specs.Layout.{bytes_address}
use Rattle.osc_asm.proofs.Loading.{reads-back}
use Rattle.osc_asm.proofs.Pages.{has-pages}
use Rattle.osc_asm.proofs.Laying.{few-bytes, little-code, length-headers, code-fits, file-laid}
use Rattle.osc_asm.proofs.builder.Builder.write.Goals as goal

head-fits : (program : Program) (head : List ℕ) → head ≡ fields_bytes (headers (segments program)) → length head ≤ 4096
head-fits program head is = let short = length-headers program in let same = ap length is in omega arith

place-fits : (program : Program) (place : ℕ) → length (file program) ≤ 16777216 → place ≡ file_place (bytes_address program)
    → place < 18446744073709551616
place-fits program place short is = let few = little-code program short in omega arith

part-fits : (program : Program) (part head code : List ℕ) (place : ℕ) → part ≡ laid 4096 code head → code ≡ code_bytes program
    → head ≡ fields_bytes (headers (segments program)) → place ≡ file_place (bytes_address program) → length part ≤ place
part-fits program part head code place is code_is head_is place_is =
    let fits = code-fits program in
    let same : length part ≡ length (laid 4096 (code_bytes program) (fields_bytes (headers (segments program)))) =
    ap length (is ∙ (ap (λ x. laid 4096 x head) code_is ∙ ap (laid 4096 (code_bytes program)) head_is)) in
    omega arith

whole : (program : Program) (all part head code bytes : List ℕ) (place : ℕ) → all ≡ laid place bytes part
    → part ≡ laid 4096 code head → code ≡ code_bytes program → head ≡ fields_bytes (headers (segments program))
    → place ≡ file_place (bytes_address program) → bytes ≡ program.bytes → all ≡ file program
whole program all part head code bytes place is part_is code_is head_is place_is bytes_is =
    is
    ∙ (ap (λ p. laid p bytes part) place_is
    ∙ (ap (λ b. laid (file_place (bytes_address program)) b part) bytes_is
    ∙ (ap (laid (file_place (bytes_address program)) program.bytes)
    (part_is ∙ (ap (λ x. laid 4096 x head) code_is ∙ ap (laid 4096 (code_bytes program)) head_is))
    ∙ sym (file-laid program))))

pub push_headers-requires-clause-code : goal.push_headers-requires-clause-code
push_headers-requires-clause-code c = little-code c.args.self.now c.requires

pub push_headers-requires-clause-bytes : goal.push_headers-requires-clause-bytes
push_headers-requires-clause-bytes c = few-bytes c.args.self.now c.requires

pub lay-requires : goal.lay-requires
lay-requires c =
    head-fits c.args.self.now c.push_headers.new.file.items
    (c.in_ok-push_headers.ensures ∙ ap (λ f. f ++ fields_bytes (headers (segments c.args.self.now))) c.new-file.ensures.items)

pub overflow_cast-bytes_place : goal.overflow_cast-bytes_place
overflow_cast-bytes_place c =
    let fits = place-fits c.args.self.now c.bytes_place.result c.requires c.bytes_place.ensures.value in omega arith

pub lay-requires-2 : goal.lay-requires-2
lay-requires-2 c =
    part-fits c.args.self.now c.lay.new.file.items c.push_headers.new.file.items c.deref.result.now c.bytes_place.result
    c.in_ok-lay.ensures (c.deref.ensures.value ∙ c.in_ok-code.ensures)
    (c.in_ok-push_headers.ensures ∙ ap (λ f. f ++ fields_bytes (headers (segments c.args.self.now))) c.new-file.ensures.items)
    c.bytes_place.ensures.value

pub returns-clause-file : goal.returns-clause-file
returns-clause-file c =
    whole c.args.self.now c.lay-2.new.file.items c.lay.new.file.items c.push_headers.new.file.items c.deref.result.now
    c.deref-2.result.now c.bytes_place.result c.in_ok-lay-2.ensures c.in_ok-lay.ensures
    (c.deref.ensures.value ∙ c.in_ok-code.ensures)
    (c.in_ok-push_headers.ensures ∙ ap (λ f. f ++ fields_bytes (headers (segments c.args.self.now))) c.new-file.ensures.items)
    c.bytes_place.ensures.value (c.deref-2.ensures.value ∙ ap (λ b. b.bytes) c.self.view_is)

pub returns-clause-reads_back : goal.returns-clause-reads_back
returns-clause-reads_back c =
    λ some. (ap image_of (returns-clause-file c) ∙ reads-back c.args.self.now c.requires some, has-pages c.args.self.now some)
