use Rattle.matrix_group.proofs.Common.{◌≡◌, ℕ, List, refl, subst, sym, ap, ◌∙◌, arith, All, Has, vec, linear_form, over, entries, IsPlace}
use Rattle.alg_core.specs.Spaces.{entry}
use Rattle.lin_algebra.specs.Matrices.{entries as cells_of}
use Rattle.poly_module.proofs.CheckedEntries.{all_pushed}
use Rattle.poly_module.proofs.SpaceVectorLaws.{vector_given, poly_given}
use Rattle.matrix_group.proofs.ActionSteps.{cell_within, cell_has, cell_entry, form_start, form_step}
use Rattle.matrix_group.proofs.LinearForms.{linear_form_polynomial}
use Rattle.matrix_group.proofs.action.row_form.Goals as goal

pub loop-j-init : goal.loop-j-init
loop-j-init g c =
    let S = over g.F.Field.field g.O.TermOrder.order c.args.space.now in
    record {
      given = subst (λ l. All (λ e. Has S.field e.1 × IsPlace S e.0) (entries (λ (m : List ℕ). m) l)) (sym c.new-terms.ensures.items) (λ i d w. absurd (omega arith));
      form = form_start S.field (λ (m : List ℕ). m) c.new-terms.result.items (cells_of S.field c.args.m.now c.args.i) c.new-terms.ensures.items;
    }

pub loop-j-preserved : goal.loop-j-preserved
loop-j-preserved g c =
    let S = over g.F.Field.field g.O.TermOrder.order c.args.space.now in
    let term = c.in_ok-variable_term.field-0 in
    let same = c.in_ok-variable_term.ensures.coef in
    let has = cell_has S.field c.args.m.now c.requires.matrix.square c.args.m.now.rows c.args.i c.loop-j.j c.index-coef.result.now refl c.requires.row c.loop-j-test.true c.index-coef.ensures in
    record {
      given = all_pushed (entry (λ (m : List ℕ). m)) (λ e. Has S.field e.1 × IsPlace S e.0) c.loop-j.terms.items _ term c.in_ok-push.ensures.items c.loop-j.invariant.given (subst (Has S.field) (sym same) has, c.in_ok-variable_term.ensures.place);
      form = form_step S.field (λ (m : List ℕ). m) c.loop-j.terms.items _ term c.index-coef.result.now (cells_of S.field c.args.m.now c.args.i) c.loop-j.j c.in_ok-push.ensures.items c.loop-j.invariant.form same c.in_ok-variable_term.ensures.variable
          (cell_entry S.field c.args.m.now c.requires.matrix.square c.args.m.now.rows c.args.i c.loop-j.j c.index-coef.result.now refl c.requires.row c.loop-j-test.true c.index-coef.ensures);
    }

pub make-requires : goal.make-requires
make-requires g c =
    let S = over g.F.Field.field g.O.TermOrder.order c.args.space.now in
    record { given = subst (λ l. All (λ e. Has S.field e.1 × IsPlace S e.0) (entries (λ (m : List ℕ). m) l)) (sym c.as_slice.ensures.value) c.loop-j.invariant.given }

pub returns : goal.returns
returns g c =
    let S = over g.F.Field.field g.O.TermOrder.order c.args.space.now in
    let exps = λ (m : List ℕ). m in
    let sum = c.in_ok-form.ensures.sum in
    let done : c.loop-j.j ≡ c.args.m.now.rows = omega arith in
    let form = linear_form_polynomial S.field c.args.m.now.rows (cells_of S.field c.args.m.now c.args.i) in
    record { form = poly_given S exps _ _ (vector_given S exps _ _ sum.fits (sum.is ∙ ap (λ l. vec S.field (entries exps l)) c.as_slice.ensures.value ∙ c.loop-j.invariant.form ∙ ap (λ n. linear_form S.field n (cells_of S.field c.args.m.now c.args.i)) done)) form }

pub index-coef-requires : goal.index-coef-requires
index-coef-requires g c =
    let k = g.F.Field.field c.args.space.now.field in
    let m = c.args.m.now in
    let within = cell_within k m c.requires.matrix.square m.rows c.args.i c.loop-j.j refl c.requires.row c.loop-j-test.true in
    let whole = m.cells.ok.0 in
    omega arith
