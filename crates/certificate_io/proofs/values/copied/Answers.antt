use Rattle.std.proofs.Common.{◌≡◌, ◌∙◌, ℕ, List, ◌++◌, [], ◌∷◌, sym, ap₂, subst}
use Rattle.std.specs.Prelude.{All, IsTrue}
use Rattle.std.proofs.lemmas.List.{take_more}
use Rattle.std.proofs.lemmas.List.Elements.{All-nil, All-cons, All-append}
use Rattle.alg_core.specs.Names.{is_name}
use Rattle.certificate_io.proofs.values.copied.Goals as goal

pub loop-i-preserved : goal.loop-i-preserved
loop-i-preserved c =
    let P : List ℕ → Type 0 = λ w. IsTrue (is_name w) in
    let names = c.args.names.now in
    let items = c.loop-i.copies.items in
    let name = c.in_ok-name.name in
    let same : name ≡ c.index-names-i.result = c.in_ok-name.ensures.is ∙ c.bytes.ensures.is in
    let pushed = c.in_ok-push.ensures.items in (
      pushed ∙ ap₂ (λ l w. l ++ (w ∷ [])) c.loop-i.invariant.0 (same ∙ c.index-names-i.is) ∙ sym (take_more names c.loop-i.i c.index-names-i.result c.loop-i-test.true),
      subst (All P) (sym pushed) (All-append P items (name ∷ []) c.loop-i.invariant.1 (All-cons P name [] (subst P (sym same) c.bytes.ensures.name) (All-nil P))),
    )
