use Rattle.std.proofs.Common.{◌+◌, ◌∙◌, ap, Some}
use Rattle.poly_text.specs.Scanning.{state_of, next_term}
use Rattle.poly_text.proofs.scan.Scanner.next_term.Goals as goal

pub returns-in_ok-close-in-43-clause-is : goal.returns-in_ok-close-in-43-clause-is
unfolding next_term
returns-in_ok-close-in-43-clause-is c =
    let text = c.args.text.now in
    ap (next_term (state_of text c.args.place c.args.self.now)) c.in-43.is ∙ ap Some (c.in_ok-close-in-43.ensures.is text (c.args.place + 1) c.args.place)

pub returns-in_ok-close-in-43-clause-ordered : goal.returns-in_ok-close-in-43-clause-ordered
returns-in_ok-close-in-43-clause-ordered c = c.in_ok-close-in-43.ensures.ordered (c.args.place + 1)

pub returns-in_ok-close-in-45-clause-is : goal.returns-in_ok-close-in-45-clause-is
unfolding next_term
returns-in_ok-close-in-45-clause-is c =
    let text = c.args.text.now in
    ap (next_term (state_of text c.args.place c.args.self.now)) c.in-45.is ∙ ap Some (c.in_ok-close-in-45.ensures.is text (c.args.place + 1) c.args.place)

pub returns-in_ok-close-in-45-clause-ordered : goal.returns-in_ok-close-in-45-clause-ordered
returns-in_ok-close-in-45-clause-ordered c = c.in_ok-close-in-45.ensures.ordered (c.args.place + 1)
