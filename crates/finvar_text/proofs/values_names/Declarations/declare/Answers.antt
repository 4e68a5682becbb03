use Rattle.std.proofs.Common.{true, false}
use Rattle.finvar_text.proofs.DeclarationSteps.{holds_more, was_among, twice_again, twice_new}
use Rattle.finvar_text.proofs.values_names.Declarations.declare.Goals as goal

pub returns-then-not-is_new : goal.returns-then-not-is_new
returns-then-not-is_new c = record {
  is = λ ws ms h. record {
    names = holds_more c.args.self.now.names.keys c.insert.new.self.keys c.args.name.now ws c.in_ok-is_new.ensures.updates.0 h.names;
    matrices = h.matrices;
    twice = twice_again c.args.self.now.twice _ c.args.name ws (was_among _ _ true _ c.in_ok-is_new.ensures.added c.if-not-is_new.true (h.names c.args.name)) c.or-self.ensures h.twice;
  };
}

pub returns-else-not-is_new : goal.returns-else-not-is_new
returns-else-not-is_new c = record {
  is = λ ws ms h. record {
    names = holds_more c.args.self.now.names.keys c.insert.new.self.keys c.args.name.now ws c.in_ok-is_new.ensures.updates.0 h.names;
    matrices = h.matrices;
    twice = twice_new c.args.self.now.twice c.args.name.now ws (was_among _ _ false _ c.in_ok-is_new.ensures.added c.if-not-is_new.false (h.names c.args.name)) h.twice;
  };
}
