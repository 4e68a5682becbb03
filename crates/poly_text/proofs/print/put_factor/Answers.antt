use Rattle.std.proofs.Common.{◌++◌, refl}
use Rattle.poly_text.specs.Syntax.{Factor, variable_text}
use Rattle.poly_text.specs.Texts.{variable_in}
use Rattle.poly_text.specs.Printing.{star}
use Rattle.poly_text.proofs.OutputLaws.{says_same}
use Rattle.poly_text.proofs.SpellingLaws.{factor_put}
use Rattle.poly_text.proofs.print.put_factor.Goals as goal

pub returns : goal.returns
returns c =
    let f : Factor = record { variable = variable_in c.args.names.now c.args.primaries c.args.i; exponent = c.args.exponent } in
    record {
      is = λ w says. says_same _ _ _ _ refl (factor_put w c.args.is_begun f)
          (c.put_exponent.ensures.is ((w ++ star c.args.is_begun) ++ variable_text f.variable) (c.put_variable.ensures.is (w ++ star c.args.is_begun) (c.put_star.ensures.is w says)));
    }
