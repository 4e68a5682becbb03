use Rattle.std.proofs.Common.{ℕ, List, ◌∙◌, ap, ◌++◌, ◌∷◌, [], arith}
use Rattle.alg_core.specs.DpOrder.{dp_order}
use Rattle.alg_core.specs.Spaces.{over, entries}
use Rattle.alg_core.specs.declared.dp.Dp.{Dp}
use Rattle.alg_core.specs.declared.term.Term.{Term}
use Rattle.prime_field.specs.PrimeFields.{gfp}
use Rattle.prime_field.specs.declared.gfp.PrimeField.{PrimeField}
use Rattle.poly_text.specs.Texts.{polynomial_text}
use Rattle.invring_app.specs.Lines.{with_commas}
use Rattle.invring_app.proofs.ListedLines.{first_text, next_text, all_texts, map_twice}
use Rattle.invring_app.proofs.commands.show.listed_line.Goals as goal
use Rattle.invring_app.proofs.commands.show.listed_line.Goals.{then-i-gt0+in_ok-push, else-i-gt0}

pub loop-i-preserved : goal.loop-i-preserved
loop-i-preserved c =
    let S = over (λ (f : PrimeField). gfp f.p f.listed) (λ (o : Dp). dp_order o.weights.items) c.args.space.now in
    let text : List (Term ℕ (List ℕ)) → List ℕ = λ p. polynomial_text S c.args.names.now (entries (λ (m : List ℕ). m) p) in
    let printed = c.deref.ensures.value ∙ c.in_ok-text.ensures.text in
    let more = c.in_ok-extend_from_slice.ensures.items in
    elim c.if-i-gt0.branch [
      | then-i-gt0+in_ok-push w ↦ next_text text c.args.polynomials.now c.loop-i.i c.index-polynomials-i.result c.loop-i-test.true c.index-polynomials-i.is
          c.args.title.now c.loop-i.line.items c.loop-i.invariant c.extend_from_slice.new.self.items w.if-i-gt0.true
          (more ∙ ap (λ t. c.if-i-gt0.line.items ++ t) printed ∙ ap (λ l. l.items ++ text c.index-polynomials-i.result) w.line-is ∙ ap (λ t. t ++ text c.index-polynomials-i.result) w.in_ok-push.ensures.items)
      | else-i-gt0 w ↦ first_text text c.args.polynomials.now c.loop-i.i c.index-polynomials-i.result c.loop-i-test.true c.index-polynomials-i.is
          c.args.title.now c.loop-i.line.items c.loop-i.invariant c.extend_from_slice.new.self.items (let none = w.if-i-gt0.false in omega (arith, none))
          (more ∙ ap (λ t. c.if-i-gt0.line.items ++ t) printed ∙ ap (λ l. l.items ++ text c.index-polynomials-i.result) w.line-is)
    ]

pub returns : goal.returns
returns c =
    let S = over (λ (f : PrimeField). gfp f.p f.listed) (λ (o : Dp). dp_order o.weights.items) c.args.space.now in
    let text : List (Term ℕ (List ℕ)) → List ℕ = λ p. polynomial_text S c.args.names.now (entries (λ (m : List ℕ). m) p) in
    record {
      text =
          all_texts text c.args.polynomials.now c.loop-i.i c.args.title.now c.loop-i.line.items c.push-2.new.self.items (let up = c.loop-i.auto.i-end in let down = c.loop-i-test.false in omega (arith, up, down)) c.loop-i.invariant c.in_ok-push-2.ensures.items
          ∙ ap (λ ts. (c.args.title.now ++ with_commas ts) ++ 10 ∷ []) (map_twice (polynomial_text S c.args.names.now) (entries (λ (m : List ℕ). m)) c.args.polynomials.now);
    }
