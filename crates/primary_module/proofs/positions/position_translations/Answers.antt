use Rattle.primary_module.proofs.Translations.{at_linear, at_single, at_product, at_keys, from_linear, from_single, from_product, from_mixed, from_at, at_from}
use Rattle.primary_module.proofs.positions.position_translations.Goals as goal

pub returns-clause-linear : goal.returns-clause-linear
returns-clause-linear g c = λ n B. at_linear (g.F.Field.field c.args._field.now) n B

pub returns-clause-single : goal.returns-clause-single
returns-clause-single g c = λ n B. at_single (g.F.Field.field c.args._field.now) n B

pub returns-clause-product : goal.returns-clause-product
returns-clause-product g c = λ n B. at_product (g.F.Field.field c.args._field.now) n B

pub returns-clause-combination : goal.returns-clause-combination
returns-clause-combination g c = λ n r B. at_keys (g.F.Field.field c.args._field.now) n B r

pub returns-clause-back_linear : goal.returns-clause-back_linear
returns-clause-back_linear g c = λ n B. from_linear (g.F.Field.field c.args._field.now) n B

pub returns-clause-back_single : goal.returns-clause-back_single
returns-clause-back_single g c = λ n B. from_single (g.F.Field.field c.args._field.now) n B

pub returns-clause-back_product : goal.returns-clause-back_product
returns-clause-back_product g c = λ n B. from_product (g.F.Field.field c.args._field.now) n B

pub returns-clause-back_mixed : goal.returns-clause-back_mixed
returns-clause-back_mixed g c = λ n r B w wide. from_mixed (g.F.Field.field c.args._field.now) n B wide r w

pub returns-clause-back : goal.returns-clause-back
returns-clause-back g c = λ n B. from_at (g.F.Field.field c.args._field.now) n B

pub returns-clause-again : goal.returns-clause-again
returns-clause-again g c = λ n B w wide. at_from (g.F.Field.field c.args._field.now) n B wide w
