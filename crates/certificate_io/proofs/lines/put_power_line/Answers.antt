use Rattle.std.proofs.Common.{◌++◌, ◌∷◌, [], ap₂, refl, ◌∙◌}
use Rattle.std.specs.Prelude.{codes, decimal}
use Rattle.poly_text.proofs.OutputLaws.{says_same}
use Rattle.certificate_io.specs.Texts.{ended, spaced, polynomial_bytes}
use Rattle.certificate_io.proofs.LineLaws.{words_of_three}
use Rattle.certificate_io.proofs.lines.put_power_line.Goals as goal

pub returns : goal.returns
returns c =
    let form = polynomial_bytes c.args.p c.args.names.now c.args.primaries c.args.power.now.form in
    record {
      is = λ w says. says_same _ _ _ _ refl
          (words_of_three w (codes "power ") c.bytes.result.now (decimal c.from.result) form (32 ∷ []) (10 ∷ [])
          ∙ ap₂ (λ n e. w ++ ended ((codes "power" ++ spaced (n ∷ decimal e ∷ form ∷ [])) ∷ [])) c.bytes.ensures.is c.from.ensures)
          (c.put-5.ensures.is _ (c.put_poly.ensures.is _ (c.put-4.ensures.is _ (c.put_number.ensures.is _ (c.put-3.ensures.is _ (c.put-2.ensures.is _ (c.put.ensures.is w says)))))));
    }
