use Rattle.std.proofs.Common.{◌++◌, ◌∷◌, [], Bool, false, append_assoc, ap, sym, refl, ◌∙◌}
use Rattle.std.specs.Prelude.{if◌then◌else◌}
use Rattle.poly_text.specs.Texts.{variable_in, factors_from}
use Rattle.poly_text.specs.Printing.{joined}
use Rattle.poly_text.proofs.OutputLaws.{says_same}
use Rattle.poly_text.proofs.SpellingLaws.{product_joined}
use Rattle.poly_text.proofs.print.put_monomial.Goals as goal

pub returns : goal.returns
returns c =
    let fs = factors_from (variable_in c.args.names.now 0) 0 c.args.mono.now in
    record {
      is = λ w says. says_same _ _ _ _ refl
          (append_assoc w (joined false fs) _ ∙ ap (λ (b : Bool). w ++ (joined false fs ++ (if b then [] else 49 ∷ []))) c.put_factors-is_begun.ensures.begun ∙ ap (λ l. w ++ l) (sym (product_joined 1 fs)))
          (c.put_one.ensures.is _ (c.put_factors-is_begun.ensures.is w says));
    }
