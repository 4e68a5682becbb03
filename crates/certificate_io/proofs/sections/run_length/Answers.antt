use Rattle.std.proofs.Common.{◌≡◌, ◌∙◌, [], ◌∷◌, take, get_or, sym, ap, subst, rules}
use Rattle.std.specs.Prelude.{All}
use Rattle.std.proofs.lemmas.List.{get_or_default, take_more}
use Rattle.std.proofs.lemmas.List.Elements.{All-nil, All-cons, All-append}
use Rattle.certificate_io.specs.Sections.{section_kind, IsIn}
use Rattle.certificate_io.specs.declared.line_text.LineText.{LineText}
use Rattle.certificate_io.proofs.sections.run_length.Goals as goal

pub loop-i-preserved : goal.loop-i-preserved
loop-i-preserved c =
    let lines = c.args.lines.now in
    let same : c.section_kind.result ≡ c.args.kind = search rules in λ k d.
    let line = get_or lines c.loop-i.i d in
    let is = sym (c.section_kind.ensures.is ∙ ap (λ (l : LineText). section_kind l.kind) (get_or_default lines c.loop-i.i _ d c.loop-i-test.true)) ∙ same in
    subst (All (IsIn c.args.kind)) (sym (take_more lines c.loop-i.i d c.loop-i-test.true))
    (All-append (IsIn c.args.kind) (take c.loop-i.i lines) (line ∷ []) c.loop-i.invariant (All-cons (IsIn c.args.kind) line [] is (All-nil (IsIn c.args.kind)))) k d
