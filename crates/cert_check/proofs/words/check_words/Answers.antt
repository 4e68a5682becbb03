use Rattle.std.proofs.Common.{◌∙◌, length, ap}
use Rattle.cert_check.proofs.CheckedForms.{has_polynomials}
use Rattle.cert_check.proofs.CheckedWords.{read_polys, read_forms, read_stranger_told, read_secondaries, read_variables, read_room, read_images, read_wrong_told, read_wrong_within, read_words_hold, sum_fits}
use Rattle.cert_check.proofs.CheckSpaces.{plain_of}
use Rattle.cert_check.proofs.words.check_words.Goals as goal

pub first_stranger-requires-clause-polynomials : goal.first_stranger-requires-clause-polynomials
first_stranger-requires-clause-polynomials c =
    read_polys (plain_of c.args.space.now) c.args.gens.now c.args.cert.now c.args.limits.now c.requires.given c.requires.reached c.as_slice-irr.result.now c.as_slice-secs.result.now
    (c.as_slice-irr.ensures.value ∙ ap (λ x. x.irreducibles) c.cert.view_is) (c.as_slice-secs.ensures.value ∙ ap (λ x. x.secondaries) c.cert.view_is)

pub first_stranger-requires-clause-forms : goal.first_stranger-requires-clause-forms
first_stranger-requires-clause-forms c =
    read_forms (plain_of c.args.space.now) c.args.gens.now c.args.cert.now c.args.limits.now c.requires.given c.requires.reached c.as_slice-irr.result.now c.as_slice-secs.result.now
    (c.as_slice-irr.ensures.value ∙ ap (λ x. x.irreducibles) c.cert.view_is) (c.as_slice-secs.ensures.value ∙ ap (λ x. x.secondaries) c.cert.view_is)

pub returns-in-Some-clause-told : goal.returns-in-Some-clause-told
returns-in-Some-clause-told c =
    read_stranger_told (plain_of c.args.space.now) c.args.gens.now c.args.cert.now c.args.limits.now c.requires.given c.requires.reached c.as_slice-irr.result.now c.as_slice-secs.result.now
    (c.as_slice-irr.ensures.value ∙ ap (λ x. x.irreducibles) c.cert.view_is) (c.as_slice-secs.ensures.value ∙ ap (λ x. x.secondaries) c.cert.view_is)
    c.in-Some.item c.in-Some.ensures.first

pub first_wrong-requires-clause-polynomials : goal.first_wrong-requires-clause-polynomials
first_wrong-requires-clause-polynomials c = has_polynomials (plain_of c.args.space.now) c.args.gens.now c.args.cert.now c.requires.given

pub first_wrong-requires-clause-variables : goal.first_wrong-requires-clause-variables
first_wrong-requires-clause-variables c =
    read_variables (plain_of c.args.space.now) c.args.gens.now c.args.cert.now c.args.limits.now c.requires.given c.requires.reached c.as_slice-irr.result.now c.as_slice-secs.result.now
    (c.as_slice-irr.ensures.value ∙ ap (λ x. x.irreducibles) c.cert.view_is) (c.as_slice-secs.ensures.value ∙ ap (λ x. x.secondaries) c.cert.view_is)
    c.in_default.ensures.first c.as_slice.result.now c.as_slice-2.result.now c.in_ok-images.images.items c.as_slice-3.result.now
    (c.as_slice.ensures.value ∙ ap (λ x. x.primaries) c.cert.view_is) (c.as_slice-2.ensures.value ∙ ap (λ x. x.words) c.cert.view_is) c.in_ok-images.ensures.copies c.as_slice-3.ensures.value

pub first_wrong-requires-clause-room : goal.first_wrong-requires-clause-room
first_wrong-requires-clause-room c =
    read_room (plain_of c.args.space.now) c.args.gens.now c.args.cert.now c.args.limits.now c.requires.given c.requires.reached c.as_slice-irr.result.now c.as_slice-secs.result.now
    (c.as_slice-irr.ensures.value ∙ ap (λ x. x.irreducibles) c.cert.view_is) (c.as_slice-secs.ensures.value ∙ ap (λ x. x.secondaries) c.cert.view_is)
    c.in_default.ensures.first c.as_slice.result.now c.as_slice-2.result.now c.in_ok-images.images.items c.as_slice-3.result.now
    (c.as_slice.ensures.value ∙ ap (λ x. x.primaries) c.cert.view_is) (c.as_slice-2.ensures.value ∙ ap (λ x. x.words) c.cert.view_is) c.in_ok-images.ensures.copies c.as_slice-3.ensures.value

pub first_wrong-requires-clause-images : goal.first_wrong-requires-clause-images
first_wrong-requires-clause-images c =
    read_images (plain_of c.args.space.now) c.args.gens.now c.args.cert.now c.args.limits.now c.requires.given c.requires.reached c.as_slice-irr.result.now c.as_slice-secs.result.now
    (c.as_slice-irr.ensures.value ∙ ap (λ x. x.irreducibles) c.cert.view_is) (c.as_slice-secs.ensures.value ∙ ap (λ x. x.secondaries) c.cert.view_is)
    c.in_default.ensures.first c.as_slice.result.now c.as_slice-2.result.now c.in_ok-images.images.items c.as_slice-3.result.now
    (c.as_slice.ensures.value ∙ ap (λ x. x.primaries) c.cert.view_is) (c.as_slice-2.ensures.value ∙ ap (λ x. x.words) c.cert.view_is) c.in_ok-images.ensures.copies c.as_slice-3.ensures.value

pub first_wrong-requires-clause-forms : goal.first_wrong-requires-clause-forms
first_wrong-requires-clause-forms c =
    read_secondaries (plain_of c.args.space.now) c.args.gens.now c.args.cert.now c.args.limits.now c.requires.given c.requires.reached c.as_slice-irr.result.now c.as_slice-secs.result.now
    (c.as_slice-irr.ensures.value ∙ ap (λ x. x.irreducibles) c.cert.view_is) (c.as_slice-secs.ensures.value ∙ ap (λ x. x.secondaries) c.cert.view_is)

pub overflow_add-result : goal.overflow_add-result
overflow_add-result c =
    let within = read_wrong_within (plain_of c.args.space.now) c.args.gens.now c.args.cert.now c.args.limits.now c.requires.given c.requires.reached c.as_slice-irr.result.now c.as_slice-secs.result.now
    (c.as_slice-irr.ensures.value ∙ ap (λ x. x.irreducibles) c.cert.view_is) (c.as_slice-secs.ensures.value ∙ ap (λ x. x.secondaries) c.cert.view_is)
    c.in_default.ensures.first c.as_slice.result.now c.as_slice-2.result.now c.in_ok-images.images.items c.as_slice-3.result.now
    (c.as_slice.ensures.value ∙ ap (λ x. x.primaries) c.cert.view_is) (c.as_slice-2.ensures.value ∙ ap (λ x. x.words) c.cert.view_is) c.in_ok-images.ensures.copies c.as_slice-3.ensures.value
    c.in_ok-place.field-0 c.in-Some-2.place c.in-Some-2.is c.in_ok-place.ensures.first in
    sum_fits _ _ _ _ _ _ _ _ _ (ap length c.as_slice-irr.ensures.value) c.cert.inside.irreducibles.ok c.cert.inside.irreducibles.small within
    (ap length c.as_slice-2.ensures.value) c.cert.inside.words.ok c.cert.inside.words.small

pub returns-in-Some-2-clause-told : goal.returns-in-Some-2-clause-told
returns-in-Some-2-clause-told c =
    read_wrong_told (plain_of c.args.space.now) c.args.gens.now c.args.cert.now c.args.limits.now c.requires.given c.requires.reached c.as_slice-irr.result.now c.as_slice-secs.result.now
    (c.as_slice-irr.ensures.value ∙ ap (λ x. x.irreducibles) c.cert.view_is) (c.as_slice-secs.ensures.value ∙ ap (λ x. x.secondaries) c.cert.view_is)
    c.in_default.ensures.first c.as_slice.result.now c.as_slice-2.result.now c.in_ok-images.images.items c.as_slice-3.result.now
    (c.as_slice.ensures.value ∙ ap (λ x. x.primaries) c.cert.view_is) (c.as_slice-2.ensures.value ∙ ap (λ x. x.words) c.cert.view_is) c.in_ok-images.ensures.copies c.as_slice-3.ensures.value
    c.in_ok-place.field-0 c.in-Some-2.place c.in-Some-2.is c.in_ok-place.ensures.first

pub returns-clause-reached : goal.returns-clause-reached
returns-clause-reached c =
    read_words_hold (plain_of c.args.space.now) c.args.gens.now c.args.cert.now c.args.limits.now c.requires.given c.requires.reached c.as_slice-irr.result.now c.as_slice-secs.result.now
    (c.as_slice-irr.ensures.value ∙ ap (λ x. x.irreducibles) c.cert.view_is) (c.as_slice-secs.ensures.value ∙ ap (λ x. x.secondaries) c.cert.view_is)
    c.in_default.ensures.first c.as_slice.result.now c.as_slice-2.result.now c.in_ok-images.images.items c.as_slice-3.result.now
    (c.as_slice.ensures.value ∙ ap (λ x. x.primaries) c.cert.view_is) (c.as_slice-2.ensures.value ∙ ap (λ x. x.words) c.cert.view_is) c.in_ok-images.ensures.copies c.as_slice-3.ensures.value
    c.in_ok-place.field-0 c.in-None.is c.in_ok-place.ensures.first
