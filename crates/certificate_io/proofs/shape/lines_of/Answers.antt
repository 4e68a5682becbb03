use Rattle.std.proofs.Common.{◌≡◌, ◌∙◌, ◌+◌, [], ◌∷◌, Some, length, map, sym, ap, subst, rules}
use Rattle.std.proofs.lemmas.List.{length-map, map-append}
use Rattle.certificate_io.specs.Lines.{IsToldLine, bytes_at, line_of}
use Rattle.certificate_io.proofs.PairSteps.{not_told}
use Rattle.certificate_io.proofs.Shapes.{IsBegun, begun_more, first_fault, no_newline, no_line}
use Rattle.certificate_io.proofs.shape.lines_of.Goals as goal

pub returns-in_default-clause-fault : goal.returns-in_default-clause-fault
returns-in_default-clause-fault c =
    let items = c.loop-rest.lines.items in
    let many : c.len.result ≡ length items = search rules in
    let count = ap (λ n. n + 1) (many ∙ sym (length-map items line_of)) in
    first_fault c.args.bytes.now (map line_of items) c.loop-rest.before c.loop-rest.rest.now c.loop-rest.invariant
    (no_newline _ _ _ _ c.split.ensures.is (ap bytes_at c.in_default.is)) _ count (not_told _ c.is_end.ensures.is c.loop-rest-test.true)

pub returns-in_default-2-clause-fault : goal.returns-in_default-2-clause-fault
returns-in_default-2-clause-fault c =
    let items = c.loop-rest.lines.items in
    let many : c.len.result ≡ length items = search rules in
    let count = ap (λ n. n + 1) (many ∙ sym (length-map items line_of)) in
    first_fault c.args.bytes.now (map line_of items) c.loop-rest.before c.loop-rest.rest.now c.loop-rest.invariant
    (no_line _ _ _ _ c.split.ensures.is (subst (IsToldLine _ _) c.in_default-2.is c.in_ok-line.ensures.is)) _ count (not_told _ c.is_end.ensures.is c.loop-rest-test.true)

pub loop-rest-preserved : goal.loop-rest-preserved
loop-rest-preserved c =
    let items = c.loop-rest.lines.items in
    let line = c.in-Some-2.line in
    let pushed = sym (map-append line_of items (line ∷ [])) ∙ ap (map line_of) (sym c.in_ok-push.ensures.items) in
    subst (λ told. IsBegun c.args.bytes.now told (Some line.kind) c.in-Some.others.now) pushed
    (begun_more c.args.bytes.now (map line_of items) c.loop-rest.before c.loop-rest.rest.now _ _ _ line c.loop-rest.invariant c.split.ensures.is (ap bytes_at c.in-Some.is)
    (subst (IsToldLine _ _) c.in-Some-2.is c.in_ok-line.ensures.is))
