use Rattle.alg_core.specs.Fields.{scalars, is_field}
use Rattle.alg_core.specs.Keys.{key_same}
use Rattle.alg_core.specs.Vectors.{zero_vector}
use Rattle.alg_core.specs.CanonicalLists.{terms_canonical, class_terms, terms_class}
use Rattle.alg_core.specs.Leads.{has_lead, lead_unique}
use Rattle.alg_core.proofs.laws.vector_terms.Goals as goal

pub returns-clause-lead : goal.returns-clause-lead
unfolding zero_vector
returns-clause-lead g c = λ o. let k = g.F.Field.field c.args._field.now in has_lead (scalars k) (is_field k) key_same o

pub returns-clause-one_lead : goal.returns-clause-one_lead
returns-clause-one_lead g c = λ o. let k = g.F.Field.field c.args._field.now in lead_unique (scalars k) (is_field k) key_same o

pub returns-clause-canonical : goal.returns-clause-canonical
returns-clause-canonical g c = λ o. let k = g.F.Field.field c.args._field.now in terms_canonical (scalars k) (is_field k) key_same o

pub returns-clause-whole : goal.returns-clause-whole
returns-clause-whole g c = λ o. let k = g.F.Field.field c.args._field.now in class_terms (scalars k) (is_field k) key_same o

pub returns-clause-only : goal.returns-clause-only
returns-clause-only g c = λ o. let k = g.F.Field.field c.args._field.now in terms_class (scalars k) (is_field k) key_same o
