use Rattle.std.proofs.Common.{◌++◌, ◌∷◌, [], ◌∙◌, ap, refl, sym, subst}
use Rattle.std.specs.Prelude.{codes, IfSome}
use Rattle.poly_text.proofs.OutputLaws.{says_same}
use Rattle.certificate_io.specs.Printable.{IsPrintableComb}
use Rattle.certificate_io.specs.Texts.{polynomial_bytes, combination_bytes, fixed_or_moved}
use Rattle.certificate_io.proofs.LineLaws.{two_words, positions_below}
use Rattle.certificate_io.proofs.lines.put_member.Goals as goal

pub returns-in-Some : goal.returns-in-Some
returns-in-Some c =
    let u = polynomial_bytes c.args.p c.args.names.now c.args.primaries c.args.member.now.u in
    let printable : IsPrintableComb c.args.p c.args.count c.in-Some.comb = subst (λ o. IfSome o (IsPrintableComb c.args.p c.args.count)) c.in-Some.is c.requires.printable.combination in
    record {
      is = λ w says. says_same _ _ _ _ refl
          (two_words w (codes "fixed ") u (combination_bytes c.args.p c.args.count c.in-Some.comb) (32 ∷ []) ∙ ap (λ o. w ++ fixed_or_moved u c.args.p c.args.count o) (sym c.in-Some.is))
          (c.put_comb.ensures.is c.args.count (positions_below c.args.count c.in-Some.comb.vector printable.positions) _ (c.put-in-Some-2.ensures.is _ (c.put_poly-in-Some.ensures.is _ (c.put-in-Some.ensures.is w says))));
    }
