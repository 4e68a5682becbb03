use Rattle.finite_certificate.proofs.RelationLeads.{lead_lifts, lead_drops}
use Rattle.finite_certificate.proofs.laws.relation_leads.Goals as goal

pub returns-clause-lifted : goal.returns-clause-lifted
returns-clause-lifted g c = lead_lifts (g.F.Field.field c.args._field.now)

pub returns-clause-dropped : goal.returns-clause-dropped
returns-clause-dropped g c = lead_drops (g.F.Field.field c.args._field.now)
