use Rattle.std.proofs.Common.{◌∙◌, sym, subst, arith}
use Rattle.std.proofs.lemmas.List.{take_all}
use Rattle.poly_module.specs.SpaceVectors.{IsVectorOf, vector_of}
use Rattle.finite_certificate.specs.MarkSpaces.{mark_space}
use Rattle.primary_module.specs.WiderTerms.{IsUnmarked}
use Rattle.primary_module.proofs.WiderLaws.{AreWider, wider_more, wider_poly, enough, has_variables}
use Rattle.primary_module.proofs.marks.with_marks.Goals as goal

pub wider_term-requires : goal.wider_term-requires
wider_term-requires g c =
    let S = mark_space g.F.Field.field c.args.space.now in
    let n = c.args.space.now.order.vars in
    let t = c.index-terms-i.result in
    let given = subst (IsUnmarked S.field n) (sym c.terms-terms.ensures.is) c.requires.unmarked in
    record { variables = enough S n c.args.space.now.order.weights.items c.requires.space t (has_variables S n c.terms-terms.result.now given c.loop-i.i t (omega arith) c.index-terms-i.is) }

pub loop-i-preserved : goal.loop-i-preserved
loop-i-preserved g c =
    let S = mark_space g.F.Field.field c.args.space.now in
    let n = c.args.space.now.order.vars in
    let given = subst (IsUnmarked S.field n) (sym c.terms-terms.ensures.is) c.requires.unmarked in
    wider_more S n c.args.space.now.order.weights.items c.requires.space c.terms-terms.result.now c.loop-i.wider.items c.push.new.self.items given c.loop-i.i c.index-terms-i.result c.in_ok-wider_term.field-0 (omega arith) c.index-terms-i.is
    c.in_ok-wider_term.ensures.is c.in_ok-push.ensures.items c.loop-i.invariant

pub returns : goal.returns
returns g c =
    let S = mark_space g.F.Field.field c.args.space.now in
    let all = take_all c.loop-i.i c.terms-terms.result.now (omega arith) ∙ c.terms-terms.ensures.is in
    let a = subst (λ l. AreWider S l c.loop-i.wider.items) all c.loop-i.invariant in
    record {
      same = wider_poly S c.args.space.now.order.vars c.args.space.now.order.weights.items c.requires.space c.args.f.now c.loop-i.wider.items c.in_ok-made.made c.requires.unmarked a
          (subst (λ l. IsVectorOf S (λ m. m) (vector_of S (λ m. m) l) c.in_ok-made.made) c.as_slice.ensures.value c.in_ok-made.ensures.sum);
    }
