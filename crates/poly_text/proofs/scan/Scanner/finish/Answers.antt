use Rattle.std.proofs.lemmas.Bool.{ne_eqb}
use Rattle.std.proofs.Common.{◌-◌, false, take, drop, Bool, length, ◌∙◌, sym, ap, Some, None, if◌then◌else◌}
use Rattle.poly_text.specs.Syntax.{Named}
use Rattle.poly_text.specs.Trees.{variable_of}
use Rattle.poly_text.specs.Scanning.{State, closed, with_factor, state_of, stage_of, finish_in}
use Rattle.poly_text.specs.declared.scan.Stage.{Stage as CodeStage}
use Rattle.poly_text.proofs.scan.Scanner.finish.Goals as goal

pub returns-in-Coefficient : goal.returns-in-Coefficient
returns-in-Coefficient c =
    let text = c.args.text.now in
    let n = length c.args.text.now in
    let s = state_of text n c.args.self in
    record { is = ap (λ (st : CodeStage). finish_in (stage_of text n st) s) c.in-Coefficient.is ∙ ap (λ (s : State). Some s.terms) (c.in_ok-close-in-Coefficient.ensures.is text n n) }

pub returns-in-Name : goal.returns-in-Name
returns-in-Name c =
    let text = c.args.text.now in
    let n = length c.args.text.now in
    let s = state_of text n c.args.self in
    record {
      is = ap (λ (st : CodeStage). finish_in (stage_of text n st) s) c.in-Name.is
          ∙ ap (λ (t : Bool). if t then None else Some (closed (with_factor s (Named (take (n - c.in-Name.start) (drop c.in-Name.start text))) 1) false).terms) (sym c.is_reserved.ensures.is ∙ c.if-is_reserved.false)
          ∙ ap Some (c.in_ok-finish_factor-in-Name.ensures.is text n);
    }

pub returns-in-Index : goal.returns-in-Index
returns-in-Index c =
    let text = c.args.text.now in
    let n = length c.args.text.now in
    let s = state_of text n c.args.self in
    record { is = ap (λ (st : CodeStage). finish_in (stage_of text n st) s) c.in-Index.is ∙ ap Some (c.in_ok-finish_factor-in-Index.ensures.is text n) }

pub returns-in-Exponent : goal.returns-in-Exponent
returns-in-Exponent c =
    let text = c.args.text.now in
    let n = length c.args.text.now in
    let s = state_of text n c.args.self in
    record {
      is = ap (λ (st : CodeStage). finish_in (stage_of text n st) s) c.in-Exponent.is
          ∙ ap (λ (t : Bool). if t then None else Some (closed (with_factor s (variable_of c.in-Exponent.variable) c.in-Exponent.exponent) false).terms) (ne_eqb c.in-Exponent.exponent 1 c.if-exponent-ne1.true)
          ∙ ap Some (c.in_ok-finish_factor-in-Exponent.ensures.is text n);
    }
