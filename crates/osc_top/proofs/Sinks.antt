-- What sinks hold after several texts, of which the last one may have been cut.
use Rattle.std.proofs.Common.{◌≡◌, ℕ, zero, suc, ◌+◌, ◌<◌, ◌≤◌, List, [], ◌∷◌, ◌++◌, length, take, drop, get_or, append_assoc, append-nil, add-one, ◌∙◌, inr, Ok, Err, OnErr, refl, sym, ap, subst, arith}
use Rattle.std.proofs.Math.Seq.{drop-cons, take-length, take-append-add}
use Rattle.std.proofs.Math.ListN.{drop_of_length-le}
use Rattle.std.specs.declared.option.Option.{Option}
use Rattle.std.specs.declared.result.Result.{Result}
use Rattle.osc_outside.specs.Bytes.{Appends}
use Rattle.osc_outside.proofs.KnownBytes.{Appends-none, Appends-trans}
use Rattle.osc_calls.specs.declared.Report.{Report}
use Rattle.osc_calls.specs.Lines.{report_line}
use Rattle.osc_machine.specs.Due.{ended_line, report_lines}
use Rattle.osc_top.specs.Answer.{AppendsFront, Broken}

-- a front of a text as a front of a longer one
front-of-more : (count : ℕ) (text more : List ℕ) → (n : ℕ) × (take n (text ++ more) ≡ take count text)
front-of-more zero text more = (0, refl)
front-of-more (suc count) [] more = (0, refl)
front-of-more (suc count) (x ∷ text) more =
    let rest = front-of-more count text more in
    (suc rest.0, ap (λ bytes. x ∷ bytes) rest.1)

pub AppendsFront-first : (a b : Option (List ℕ)) (text more : List ℕ) → AppendsFront a b text → AppendsFront a b (text ++ more)
AppendsFront-first a b text more front =
    let same = front-of-more front.0 text more in
    (same.0, subst (λ bytes. Appends a b bytes) (sym same.1) front.1)

pub AppendsFront-then : (a b c : Option (List ℕ)) (text more : List ℕ) → Appends a b text → AppendsFront b c more
    → AppendsFront a c (text ++ more)
AppendsFront-then a b c text more first front =
    (length text + front.0, rw take-append-add (Appends-trans a b c text (take front.0 more) first front.1))

pub Broken-text : {T E : Type 0} (r : Result T E) (a b c d : Option (List ℕ)) (P Q : Type 0) (output text : List ℕ)
    → Appends a b output → OnErr r Q → OnErr r (AppendsFront c d text) → OnErr r (Broken a b c d P Q output text)
Broken-text (Ok x) a b c d P Q output text all cause part = tt
Broken-text (Err e) a b c d P Q output text all cause part =
    record {
      of_output = length output;
      of_text = part.0;
      cause = inr (cause, omega arith);
      out = rw take-length all;
      err = part.1;
      order = λ _. omega arith;
    }

-- ---- one report after another

-- a front of the whole was appended, and this is left
pub record Sent (before after : Option (List ℕ)) (left all : List ℕ) : Type 0 where
  pub text : List ℕ
  pub sent : Appends before after text
  pub rest : text ++ left ≡ all

pub Sent-none : (held : Option (List ℕ)) (all : List ℕ) → Sent held held all all
Sent-none held all = record { text = []; sent = Appends-none held; rest = refl }

pub Sent-more : (a b c : Option (List ℕ)) (line left all : List ℕ) → Sent a b (line ++ left) all → Appends b c line → Sent a c left all
Sent-more a b c line left all sent now =
    record {
      text = sent.text ++ line;
      sent = Appends-trans a b c sent.text line sent.sent now;
      rest = append_assoc sent.text line left ∙ sent.rest;
    }

pub Sent-part : (a b c : Option (List ℕ)) (line left all : List ℕ) → Sent a b (line ++ left) all → AppendsFront b c line → AppendsFront a c all
Sent-part a b c line left all sent now =
    subst (λ text. AppendsFront a c text) sent.rest
    (AppendsFront-then a b c sent.text (line ++ left) sent.sent (AppendsFront-first b c line left now))

pub Sent-all : (a b : Option (List ℕ)) (all : List ℕ) → Sent a b [] all → Appends a b all
Sent-all a b all sent = subst (λ text. Appends a b text) (sym (append-nil sent.text) ∙ sent.rest) sent.sent

-- the lines of the reports from one on
pub lines-from : (i : ℕ) (reports : List Report) (d : Report) → i < length reports
    → report_lines (drop i reports) ≡ ended_line (report_line (get_or reports i d)) ++ report_lines (drop (i + 1) reports)
lines-from i reports d h = rw (add-one, drop-cons reports i d h) refl

pub lines-end : (i : ℕ) (reports : List Report) → length reports ≤ i → report_lines (drop i reports) ≡ []
lines-end i reports h = ap report_lines (drop_of_length-le reports h)

-- the next report's line was appended, or a front of it
pub Sent-line : (a b c : Option (List ℕ)) (i : ℕ) (reports : List Report) (d : Report) (all : List ℕ) → i < length reports
    → Sent a b (report_lines (drop i reports)) all → Appends b c (ended_line (report_line (get_or reports i d)))
    → Sent a c (report_lines (drop (i + 1) reports)) all
Sent-line a b c i reports d all h sent now =
    Sent-more a b c _ _ all (subst (λ left. Sent a b left all) (lines-from i reports d h) sent) now

pub Sent-line-part : (a b c : Option (List ℕ)) (i : ℕ) (reports : List Report) (d : Report) (all : List ℕ) → i < length reports
    → Sent a b (report_lines (drop i reports)) all → AppendsFront b c (ended_line (report_line (get_or reports i d)))
    → AppendsFront a c all
Sent-line-part a b c i reports d all h sent now =
    Sent-part a b c _ _ all (subst (λ left. Sent a b left all) (lines-from i reports d h) sent) now

-- ---- the reports, and then the summary
pub OnErr-then : {T E : Type 0} (r : Result T E) (a b c : Option (List ℕ)) (text more : List ℕ) → Appends a b text
    → OnErr r (AppendsFront b c more) → OnErr r (AppendsFront a c (text ++ more))
OnErr-then (Ok x) a b c text more first front = tt
OnErr-then (Err e) a b c text more first front = AppendsFront-then a b c text more first front
