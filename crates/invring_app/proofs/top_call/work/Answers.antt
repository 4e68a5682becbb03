use Rattle.std.proofs.Common.{ℕ, List, sym, subst}
use Rattle.inv_outside.specs.Outside.{Took}
use Rattle.invring_app.specs.declared.reading.Kind.{Kind}
use Rattle.invring_app.specs.declared.status.Status.{Status}
use Rattle.invring_app.specs.Inputs.{Takes}
use Rattle.invring_app.specs.Answers.{ending_of, IsAnswer, IsFault}
use Rattle.invring_app.specs.Outcomes.{status_of_fault, Writing, Completes}
use Rattle.invring_app.proofs.RunLaws.{after-error, fault-writing, fault-complete, answered-writing, answered-complete}
use Rattle.invring_app.proofs.top_call.work.Goals as goal

pub returns-in_err-answer-clause-writing : goal.returns-in_err-answer-clause-writing
returns-in_err-answer-clause-writing g c =
    let r = c.args.request in
    let e = c.in_err-answer.field-0.0 in
    let left = g.S.Source.left c.args.src.now in
    let left' = g.S.Source.left c.read_input.new.src in
    let taken = g.O.Sink.taken c.args.out.now in
    let count = g.O.Sink.faults c.args.out.now in
    let takes = subst (λ (k : Kind). Takes k left c.in_ok-bytes.bytes.items left') c.input_of.ensures.is c.in_ok-bytes.ensures.takes in
    let fault = subst (λ (b : List ℕ). IsFault r.command r.limits b e) c.deref.ensures.value c.in_err-answer.ensures.fault in
    subst (λ (s : Status). Writing r s left left' taken taken count count) (sym (after-error c.from_residual-in_err-answer.result (status_of_fault e) c.from_residual-in_err-answer.ensures.1))
    (fault-writing r left left' (g.S.Source.faults c.args.src.now) (g.S.Source.faults c.read_input.new.src) taken count e c.in_ok-bytes.bytes.items takes fault)

pub returns-in_err-answer-clause-complete : goal.returns-in_err-answer-clause-complete
returns-in_err-answer-clause-complete g c =
    let r = c.args.request in
    let e = c.in_err-answer.field-0.0 in
    let left = g.S.Source.left c.args.src.now in
    let left' = g.S.Source.left c.read_input.new.src in
    let f = g.S.Source.faults c.args.src.now in
    let f' = g.S.Source.faults c.read_input.new.src in
    let count = g.O.Sink.faults c.args.out.now in
    let takes = subst (λ (k : Kind). Takes k left c.in_ok-bytes.bytes.items left') c.input_of.ensures.is c.in_ok-bytes.ensures.takes in
    let fault = subst (λ (b : List ℕ). IsFault r.command r.limits b e) c.deref.ensures.value c.in_err-answer.ensures.fault in
    subst (λ (s : Status). Completes r s left f f' count count) (sym (after-error c.from_residual-in_err-answer.result (status_of_fault e) c.from_residual-in_err-answer.ensures.1))
    (fault-complete r left left' f f' e c.in_ok-bytes.bytes.items count count takes fault)

pub returns-clause-writing : goal.returns-clause-writing
returns-clause-writing g c =
    let r = c.args.request in
    let a = c.in_ok-answer.answer in
    let left = g.S.Source.left c.args.src.now in
    let left' = g.S.Source.left c.read_input.new.src in
    let takes = subst (λ (k : Kind). Takes k left c.in_ok-bytes.bytes.items left') c.input_of.ensures.is c.in_ok-bytes.ensures.takes in
    let answer = subst (λ (b : List ℕ). IsAnswer r.command r.limits b (ending_of a.verdict a.text.items)) c.deref.ensures.value c.in_ok-answer.ensures.answer in
    subst (λ (s : Status). Writing r s left left' (g.O.Sink.taken c.args.out.now) (g.O.Sink.taken c.write_all.new.sink) (g.O.Sink.faults c.args.out.now) (g.O.Sink.faults c.write_all.new.sink)) (sym c.outcome.ensures.is)
    (answered-writing r left left' (g.S.Source.faults c.args.src.now) (g.S.Source.faults c.read_input.new.src) a.verdict c.in_ok-bytes.bytes.items a.text.items (g.O.Sink.taken c.args.out.now) (g.O.Sink.taken c.write_all.new.sink)
    (g.O.Sink.faults c.args.out.now) (g.O.Sink.faults c.write_all.new.sink) takes answer
    (subst (λ (t : List ℕ). Took (g.O.Sink.taken c.args.out.now) t (g.O.Sink.taken c.write_all.new.sink)) c.deref-2.ensures.value c.in_ok-write_all.ensures.ok))

pub returns-clause-complete : goal.returns-clause-complete
returns-clause-complete g c =
    let r = c.args.request in
    let a = c.in_ok-answer.answer in
    let left = g.S.Source.left c.args.src.now in
    let left' = g.S.Source.left c.read_input.new.src in
    let takes = subst (λ (k : Kind). Takes k left c.in_ok-bytes.bytes.items left') c.input_of.ensures.is c.in_ok-bytes.ensures.takes in
    let answer = subst (λ (b : List ℕ). IsAnswer r.command r.limits b (ending_of a.verdict a.text.items)) c.deref.ensures.value c.in_ok-answer.ensures.answer in
    subst (λ (s : Status). Completes r s left (g.S.Source.faults c.args.src.now) (g.S.Source.faults c.read_input.new.src) (g.O.Sink.faults c.args.out.now) (g.O.Sink.faults c.write_all.new.sink)) (sym c.outcome.ensures.is)
    (answered-complete r left left' (g.S.Source.faults c.args.src.now) (g.S.Source.faults c.read_input.new.src) a.verdict c.in_ok-bytes.bytes.items a.text.items
    (g.O.Sink.faults c.args.out.now) (g.O.Sink.faults c.write_all.new.sink) takes answer)
