use Rattle.groebner_hom.proofs.Freeness.{coordinates_unique, marks_independent}
use Rattle.groebner_hom.proofs.LeadsOfRelations.{lead_not_standard}
use Rattle.groebner_hom.proofs.laws.regular_forms.Goals as goal

pub returns-clause-unique : goal.returns-clause-unique
returns-clause-unique g c = λ n ds θ h. coordinates_unique (g.F.Field.field c.args._field.now) n ds θ h.forms h.regular

pub returns-clause-independent : goal.returns-clause-independent
returns-clause-independent g c = λ n ds θ h. marks_independent (g.F.Field.field c.args._field.now) n ds θ h.forms h.regular

pub returns-clause-leads : goal.returns-clause-leads
returns-clause-leads g c = λ n ds θ h. lead_not_standard (g.F.Field.field c.args._field.now) n ds θ h.forms h.regular
