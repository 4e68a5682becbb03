use Rattle.std.proofs.Common.{◌≤◌, ℕ, List, length, take, sym, subst}
use Rattle.inv_outside.specs.Outside.{Took}
use Rattle.invring_app.specs.Outcomes.{Reading, Writing, Completes}
use Rattle.invring_app.proofs.AcceptedRuns.{certificate_accepted}
use Rattle.invring_app.proofs.LineLaws.{line-front}
use Rattle.invring_app.proofs.RingWritten.{certificate-written}
use Rattle.invring_app.proofs.RunLaws.{asked, usage-line, command-line, all-told}
use Rattle.invring_app.proofs.top_call.run.Goals as goal

pub returns-in_default-clause-complete : goal.returns-in_default-clause-complete
returns-in_default-clause-complete g c = λ r asked. absurd (c.in_default.ensures.none r asked)

pub returns-in_default-clause-line : goal.returns-in_default-clause-line
returns-in_default-clause-line g c = λ command is.
    subst (λ (line : List ℕ). (k : ℕ) × (k ≤ length line) × Took (g.E.Sink.taken c.args.err.now) (take k line) (g.E.Sink.taken c.write_error.new.err))
    (sym (usage-line _ command is c.in_default.ensures.none)) (line-front c.write_error.result _ _ _ c.write_error.ensures.ok c.write_error.ensures.err)

pub returns-clause-reading : goal.returns-clause-reading
returns-clause-reading g c =
    asked (λ r s. Reading r s (g.S.Source.left c.args.src.now) (g.S.Source.left c.work.new.src) (g.S.Source.faults c.args.src.now) (g.S.Source.faults c.work.new.src))
    _ c.in-Some.request _ _ c.in-Some.ensures.some c.after-status.ensures.is c.work.ensures.reading

pub returns-clause-writing : goal.returns-clause-writing
returns-clause-writing g c =
    asked (λ r s. Writing r s (g.S.Source.left c.args.src.now) (g.S.Source.left c.work.new.src) (g.O.Sink.taken c.args.out.now) (g.O.Sink.taken c.work.new.out) (g.O.Sink.faults c.args.out.now) (g.O.Sink.faults c.work.new.out))
    _ c.in-Some.request _ _ c.in-Some.ensures.some c.after-status.ensures.is c.work.ensures.writing

pub returns-clause-certified : goal.returns-clause-certified
returns-clause-certified g c = λ r is ring done. certificate-written r _ _ _ _ _ _ _ (returns-clause-writing g c r is) ring done

pub returns-clause-accepted : goal.returns-clause-accepted
returns-clause-accepted g c = λ r is kind done. certificate_accepted r _ _ _ _ _ _ _ (returns-clause-writing g c r is) kind done

pub returns-clause-complete : goal.returns-clause-complete
returns-clause-complete g c =
    asked (λ r s. Completes r s (g.S.Source.left c.args.src.now) (g.S.Source.faults c.args.src.now) (g.S.Source.faults c.work.new.src) (g.O.Sink.faults c.args.out.now) (g.O.Sink.faults c.work.new.out))
    _ c.in-Some.request _ _ c.in-Some.ensures.some c.after-status.ensures.is c.work.ensures.complete

pub returns-clause-line : goal.returns-clause-line
returns-clause-line g c = λ command is.
    subst (λ (line : List ℕ). (k : ℕ) × (k ≤ length line) × Took (g.E.Sink.taken c.args.err.now) (take k line) (g.E.Sink.taken c.tell.new.err))
    (sym (command-line _ c.in-Some.request c.in-Some.ensures.some command is _)) (line-front c.tell.result _ _ _ c.tell.ensures.ok c.tell.ensures.err)

pub returns-clause-whole : goal.returns-clause-whole
returns-clause-whole g c = λ command is kept.
    subst (λ (line : List ℕ). Took (g.E.Sink.taken c.args.err.now) line (g.E.Sink.taken c.tell.new.err))
    (sym (command-line _ c.in-Some.request c.in-Some.ensures.some command is _)) (all-told c.tell.result _ _ c.tell.ensures.ok c.tell.ensures.cause kept)
