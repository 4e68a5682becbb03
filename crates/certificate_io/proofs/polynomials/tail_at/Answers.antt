use Rattle.std.proofs.Common.{[], sym}
use Rattle.std.proofs.lemmas.List.{get_or-map}
use Rattle.certificate_io.specs.declared.line_text.LineText.{LineText}
use Rattle.certificate_io.proofs.polynomials.tail_at.Goals as goal

pub returns : goal.returns
returns c = record { is = sym (get_or-map (λ (t : LineText). t.tail.now) c.args.lines.now c.args.i _ [] c.requires.inside) }
