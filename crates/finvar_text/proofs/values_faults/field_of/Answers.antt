use Rattle.std.proofs.Common.{◌∙◌}
use Rattle.finvar_text.proofs.ScriptSteps.{field_same}
use Rattle.finvar_text.proofs.values_faults.field_of.Goals as goal

pub returns-in-Ok-new-clause-field : goal.returns-in-Ok-new-clause-field
returns-in-Ok-new-clause-field c =
    field_same _ c.in-Ok-new.field.p c.in-Ok.narrow c.in-Ok-new.field.listed (c.in-Ok.ensures.1 ∙ c.get-p.ensures.is) c.in-Ok-new.ensures.field
