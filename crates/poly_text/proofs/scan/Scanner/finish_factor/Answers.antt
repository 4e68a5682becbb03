use Rattle.std.proofs.Common.{List, [], ◌∷◌, ◌++◌, ◌∙◌, ap}
use Rattle.poly_text.specs.Syntax.{Factor}
use Rattle.poly_text.specs.Trees.{terms_of}
use Rattle.poly_text.specs.Scanning.{State}
use Rattle.poly_text.proofs.ScanSteps.{factors_more}
use Rattle.poly_text.proofs.scan.Scanner.finish_factor.Goals as goal

pub returns : goal.returns
returns c = record {
  is = λ text i.
      ap (λ (fs : List Factor). terms_of c.args.self.terms.items ++ record { is_negative = c.args.self.is_negative; coefficient = c.args.self.coefficient; factors = fs } ∷ [])
      (factors_more c.args.self.factors.items _ _ c.in_ok-push.ensures.items)
      ∙ ap (λ (s : State). s.terms) (c.in_ok-close.ensures.is text i i);
}
