use Rattle.std.proofs.Common.{◌∙◌, ◌++◌, ◌∷◌, [], ap, subst, sym, arith, map, Some, ℕ, Vec, Global}
use Rattle.std.proofs.lemmas.List.{map-append, nil_from_length, append-nil}
use Rattle.std.proofs.lemmas.List.Elements.{All-pop}
use Rattle.alg_core.specs.Fields.{scalars, Scalar}
use Rattle.lin_algebra.specs.Vectors.{vectors, vector, IsRow}
use Rattle.alg_core.specs.Spans.{SameSpan}
use Rattle.lin_algebra.specs.Bases.{rows_of_basis, IsBasis}
use Rattle.lin_algebra.proofs.SpanLaws.{SameSpan_move}
use Rattle.lin_algebra.proofs.BasisLaws.{IsBasis_nil, rows_of_basis_nil}
use Rattle.lin_algebra.proofs.elimination.eliminate.Goals as goal

pub loop-row-init : goal.loop-row-init
loop-row-init g c =
    let k = g.F.Field.field c.args.field.now in
    record {
      rows = c.requires.rows;
      basis = IsBasis_nil k c.args.n c.new-basis.result.items c.new-basis.ensures.items;
      span = subst (λ l. SameSpan (vectors (scalars k)) (l ++ map (λ r. vector k r.items) c.args.rows.items) (map (λ r. vector k r.items) c.args.rows.items)) (sym (rows_of_basis_nil k c.new-basis.result.items c.new-basis.ensures.items)) (λ v. (λ h. h, λ h. h));
    }

pub insert-requires-clause-basis : goal.insert-requires-clause-basis
insert-requires-clause-basis g c =
    let k = g.F.Field.field c.args.field.now in
    let popped = All-pop (λ r. IsRow k c.args.n r.items) c.loop-row.rows.items c.pop.new.self.items (Some c.in-Some.row) c.in-Some.ensures.items c.loop-row.invariant.rows in
    let whole = c.in-Some.row.ok.0 in
    let count = popped.1.count in
    subst (λ n. IsBasis k n c.loop-row.basis.items) (omega (arith, whole, count)) c.loop-row.invariant.basis

pub insert-requires-clause-has : goal.insert-requires-clause-has
insert-requires-clause-has g c =
    let k = g.F.Field.field c.args.field.now in
    (All-pop (λ r. IsRow k c.args.n r.items) c.loop-row.rows.items c.pop.new.self.items (Some c.in-Some.row) c.in-Some.ensures.items c.loop-row.invariant.rows).1.has

pub loop-row-preserved : goal.loop-row-preserved
loop-row-preserved g c =
    let k = g.F.Field.field c.args.field.now in
    let X = vectors (scalars k) in
    let popped = All-pop (λ r. IsRow k c.args.n r.items) c.loop-row.rows.items c.pop.new.self.items (Some c.in-Some.row) c.in-Some.ensures.items c.loop-row.invariant.rows in
    let whole = c.in-Some.row.ok.0 in
    let count = popped.1.count in
    let f : Vec g.row.F-Elem.Denot Global → ℕ → Scalar k = λ r. vector k r.items in
    record {
      rows = popped.0;
      basis = subst (λ n. IsBasis k n c.insert.new.basis.items) (omega (arith, whole, count)) c.in_ok-insert.ensures.basis;
      span = SameSpan_move X (rows_of_basis k c.loop-row.basis.items) (rows_of_basis k c.insert.new.basis.items) (map f c.pop.new.self.items) (map f c.args.rows.items) (vector k c.in-Some.row.items)
          (subst (λ l. SameSpan X (rows_of_basis k c.loop-row.basis.items ++ l) (map f c.args.rows.items)) (ap (map f) c.in-Some.ensures.items ∙ map-append f c.pop.new.self.items (c.in-Some.row ∷ [])) c.loop-row.invariant.span)
          c.in_ok-insert.ensures.span;
    }

pub returns-clause-span : goal.returns-clause-span
returns-clause-span g c =
    let k = g.F.Field.field c.args.field.now in
    let X = vectors (scalars k) in
    let f : Vec g.row.F-Elem.Denot Global → ℕ → Scalar k = λ r. vector k r.items in
    let whole = c.loop-row.rows.ok.0 in
    let none = nil_from_length c.loop-row.rows.items (omega (arith, whole, c.in_default.ensures.cases.0)) in
    subst (λ l. SameSpan X l (map f c.args.rows.items)) (ap (λ l. rows_of_basis k c.loop-row.basis.items ++ map f l) none ∙ append-nil (rows_of_basis k c.loop-row.basis.items)) c.loop-row.invariant.span
