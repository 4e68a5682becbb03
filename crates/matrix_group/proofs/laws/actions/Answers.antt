use Rattle.matrix_group.proofs.ActionLaws.{act_homomorphism, act_variable, act_polynomial, act_in_variables, act_form, act_act, act_identity}
use Rattle.matrix_group.proofs.laws.actions.Goals as goal

pub returns : goal.returns
returns g c =
    let k = g.F.Field.field c.args._field.now in
    record {
      homomorphism = act_homomorphism k;
      variable = act_variable k;
      polynomial = act_polynomial k;
      variables = act_in_variables k;
      form = act_form k;
      after = act_act k;
      identity = act_identity k;
    }
