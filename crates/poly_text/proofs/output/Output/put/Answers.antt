use Rattle.std.proofs.Common.{rules, ◌∙◌, ap}
use Rattle.std.specs.Option.{option_map}
use Rattle.poly_text.proofs.OutputLaws.{says_put}
use Rattle.poly_text.proofs.output.Output.put.Goals as goal

pub returns : goal.returns
returns c = record {
  is = λ w says. says_put c.args.self.now _ _ w c.args.piece.now (ap (option_map (λ v. v.items)) c.take.ensures.value ∙ ap (λ s. s.kept) c.self.view_is) c.with_piece.ensures.is (search rules) says;
}
