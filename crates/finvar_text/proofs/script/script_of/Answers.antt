use Rattle.std.proofs.Common.{◌∙◌, sym}
use Rattle.finvar_text.specs.Conditions.{value}
use Rattle.finvar_text.specs.Trees.{script_of}
use Rattle.finvar_text.proofs.ScriptSteps.{field_number, invertible_same}
use Rattle.finvar_text.proofs.script.script_of.Goals as goal

pub returns-in_ok-names-in-Ok-clause-script : goal.returns-in_ok-names-in-Ok-clause-script
returns-in_ok-names-in-Ok-clause-script c = record {
  characteristic = c.characteristic.ensures.is ∙ field_number (value (script_of c.args.tree.now).characteristic) c.in-Ok.field.p c.in-Ok.field.listed c.in-Ok.ensures.field;
  names = c.in_ok-names-in-Ok.ensures.is;
  gens = c.in_ok-gens-in-Ok.ensures.gens;
}

pub returns-in_ok-names-in-Ok-clause-invertible : goal.returns-in_ok-names-in-Ok-clause-invertible
returns-in_ok-names-in-Ok-clause-invertible c =
    let p = c.characteristic.ensures.is ∙ field_number (value (script_of c.args.tree.now).characteristic) c.in-Ok.field.p c.in-Ok.field.listed c.in-Ok.ensures.field in
    invertible_same _ c.characteristic.result c.in_ok-gens-in-Ok.gens.items (sym p) c.in_ok-gens-in-Ok.ensures.invertible
