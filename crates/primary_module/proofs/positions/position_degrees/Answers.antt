use Rattle.primary_module.proofs.Translations.{at_degree, from_degree}
use Rattle.primary_module.proofs.positions.position_degrees.Goals as goal

pub returns-clause-degree : goal.returns-clause-degree
returns-clause-degree g c = λ n ds B wide. at_degree (g.F.Field.field c.args._field.now) n B wide ds

pub returns-clause-back_degree : goal.returns-clause-back_degree
returns-clause-back_degree g c = λ n ds B wide. from_degree (g.F.Field.field c.args._field.now) n B wide ds
