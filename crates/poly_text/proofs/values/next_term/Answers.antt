use Rattle.std.proofs.Common.{◌∙◌, ◌+◌, sym, ap, length, refl}
use Rattle.alg_core.specs.Spaces.{over, entry, entries}
use Rattle.poly_text.specs.Trees.{term_of}
use Rattle.poly_text.specs.Values.{last_place, first_failed, term_conditions}
use Rattle.poly_text.proofs.EntrySteps.{field_of, entry_term, term_fails, place_fails, place_passed}
use Rattle.poly_text.proofs.values.next_term.Goals as goal

pub place_fault-requires-clause-place : goal.place_fault-requires-clause-place
place_fault-requires-clause-place g c =
    let S = over field_of g.O.TermOrder.order c.args.space.now in
    (entry_term c.args.secondaries S c.args.names.now _ (term_of c.args.text.now) (entry (λ m. m) c.in_ok-term.term) (c.args.space.now.field.listed, refl) c.requires.places c.requires.positions c.requires.term
    (ap (λ p. first_failed (term_conditions c.args.secondaries p c.args.names.now (term_of c.args.text.now))) (sym c.characteristic.ensures.is) ∙ sym c.term_fault.ensures.is ∙ c.in_default.is) c.in_ok-term.ensures.is).place

pub returns-in-Some-place_fault-clause-fault : goal.returns-in-Some-place_fault-clause-fault
returns-in-Some-place_fault-clause-fault g c =
    let S = over field_of g.O.TermOrder.order c.args.space.now in
    place_fails c.args.secondaries S c.args.names.now (last_place (entries (λ m. m) c.args.before.now)) (term_of c.args.text.now) (entry (λ m. m) c.in_ok-term.term) (length c.args.before.now + 1) _
    (ap (λ p. first_failed (term_conditions c.args.secondaries p c.args.names.now (term_of c.args.text.now))) (sym c.characteristic.ensures.is) ∙ sym c.term_fault.ensures.is ∙ c.in_default.is) c.in_ok-term.ensures.is (sym c.place_fault.ensures.is ∙ c.in-Some-place_fault.is)

pub returns-in-Some-clause-fault : goal.returns-in-Some-clause-fault
returns-in-Some-clause-fault g c =
    let S = over field_of g.O.TermOrder.order c.args.space.now in
    term_fails c.args.secondaries S c.args.names.now (last_place (entries (λ m. m) c.args.before.now)) (term_of c.args.text.now) (length c.args.before.now + 1) _
    (ap (λ p. first_failed (term_conditions c.args.secondaries p c.args.names.now (term_of c.args.text.now))) (sym c.characteristic.ensures.is) ∙ sym c.term_fault.ensures.is ∙ c.in-Some.is)

pub returns-clause-fault : goal.returns-clause-fault
returns-clause-fault g c =
    let S = over field_of g.O.TermOrder.order c.args.space.now in
    place_passed c.args.secondaries S c.args.names.now (last_place (entries (λ m. m) c.args.before.now)) (term_of c.args.text.now) (entry (λ m. m) c.in_ok-term.term) (length c.args.before.now + 1)
    (ap (λ p. first_failed (term_conditions c.args.secondaries p c.args.names.now (term_of c.args.text.now))) (sym c.characteristic.ensures.is) ∙ sym c.term_fault.ensures.is ∙ c.in_default.is) c.in_ok-term.ensures.is (sym c.place_fault.ensures.is ∙ c.in_default-place_fault.is)

pub returns-clause-term : goal.returns-clause-term
returns-clause-term g c =
    let S = over field_of g.O.TermOrder.order c.args.space.now in
    entry_term c.args.secondaries S c.args.names.now _ (term_of c.args.text.now) (entry (λ m. m) c.in_ok-term.term) (c.args.space.now.field.listed, refl) c.requires.places c.requires.positions c.requires.term
    (ap (λ p. first_failed (term_conditions c.args.secondaries p c.args.names.now (term_of c.args.text.now))) (sym c.characteristic.ensures.is) ∙ sym c.term_fault.ensures.is ∙ c.in_default.is) c.in_ok-term.ensures.is
