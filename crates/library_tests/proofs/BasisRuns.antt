-- What a run of `basis` that is done wrote.
use Rattle.std.proofs.Common.{◌≡◌, ℕ, List, [], ◌++◌, Some, None, sym, ap, subst, ◌∙◌, append-nil}
use Rattle.std.specs.Prelude.{Option}
use Rattle.alg_core.specs.declared.limits.Limits.{Limits}
use Rattle.finvar_text.specs.Problems.{Problem, IsProblemText}
use Rattle.inv_outside.specs.Outside.{Took}
use Rattle.invring_app.specs.declared.commands.Command.{Command}
use Rattle.invring_app.specs.declared.commands.Command.TheVariants.{Basis}
use Rattle.invring_app.specs.declared.status.Status.{Status}
use Rattle.invring_app.specs.declared.status.Status.TheVariants.{Done}
use Rattle.invring_app.specs.declared.words.Request.{Request}
use Rattle.invring_app.specs.Commands.{reads, EndsAs}
use Rattle.invring_app.specs.Commands.Bases.{IsBasisText}
use Rattle.invring_app.specs.Endings.{Ending, StopsAt, Rejects, Answers}
use Rattle.invring_app.specs.Inputs.{Input, NoInput, OfScript, OfCertificate, ReadsAs, Takes}
use Rattle.invring_app.specs.Outcomes.{status_of, output_of, IsEnd, EndsAt, Writing}

-- what came is all that was told
all-came : (d : ℕ) (script bytes : List ℕ) (left' : Option (List ℕ)) (q : Problem) → Takes (reads (Basis d)) (Some script) bytes left' → IsProblemText bytes q → IsProblemText script q
all-came d script bytes None q takes text = absurd takes.gave
all-came d script bytes (Some rest) q takes text =
    let same : script ≡ bytes = takes.gave ∙ ap (λ t. bytes ++ t) (takes.end tt text.short) ∙ append-nil bytes in
    subst (λ (b : List ℕ). IsProblemText b q) (sym same) text

basis-at : (d : ℕ) (l : Limits) (script bytes text : List ℕ) (left' : Option (List ℕ)) (i : Input) → Takes (reads (Basis d)) (Some script) bytes left' → ReadsAs (reads (Basis d)) bytes i → EndsAs (Basis d) l i (Answers text)
    → (q : Problem) × IsProblemText script q × IsBasisText q d text
basis-at d l script bytes text left' NoInput takes read ends = absurd read
basis-at d l script bytes text left' (OfCertificate c) takes read ends = absurd read
basis-at d l script bytes text left' (OfScript q) takes read ends = (q, all-came d script bytes left' q takes read, ends.1)

basis-of : (c : Command) (d : ℕ) (l : Limits) (script bytes text : List ℕ) (left' : Option (List ℕ)) (i : Input) → c ≡ Basis d → Takes (reads c) (Some script) bytes left' → ReadsAs (reads c) bytes i → EndsAs c l i (Answers text)
    → (q : Problem) × IsProblemText script q × IsBasisText q d text
basis-of c d l script bytes text left' i is takes read ends =
    basis-at d l script bytes text left' i (subst (λ (x : Command). Takes (reads x) (Some script) bytes left') is takes) (subst (λ (x : Command). ReadsAs (reads x) bytes i) is read)
    (subst (λ (x : Command). EndsAs x l i (Answers text)) is ends)

ended-basis : (r : Request) (d : ℕ) (script taken' : List ℕ) (left' : Option (List ℕ)) (e : Ending) → r.command ≡ Basis d → Done ≡ status_of e → EndsAt r (Some script) left' e → Took (Some []) (output_of e) (Some taken')
    → (q : Problem) × IsProblemText script q × IsBasisText q d taken'
ended-basis r d script taken' left' (StopsAt f) is ended at took = absurd cc
ended-basis r d script taken' left' (Rejects a i text) is ended at took = absurd cc
ended-basis r d script taken' left' (Answers text) is ended at took =
    let basis = basis-of r.command d r.limits script at.bytes text left' at.input is at.takes at.read at.ends in
    (basis.0, basis.1, subst (IsBasisText basis.0 d) (sym took) basis.2)

pub done-basis : (r : Request) (d : ℕ) (s : Status) (told script taken taken' : List ℕ) (left' : Option (List ℕ)) (g g' : ℕ) → r.command ≡ Basis d → s ≡ Done
    → told ≡ script → taken ≡ [] → Writing r s (Some told) left' (Some taken) (Some taken') g g' → (q : Problem) × IsProblemText script q × IsBasisText q d taken'
done-basis r d s told script taken taken' left' g g' is done same empty says =
    let ended = says.ended (subst IsEnd (sym done) tt) in
    let at = subst (λ (b : List ℕ). EndsAt r (Some b) left' ended.0) same ended.2 in
    let took = subst (λ (t : List ℕ). Took (Some t) (output_of ended.0) (Some taken')) empty ended.3 in
    ended-basis r d script taken' left' ended.0 is (sym done ∙ ended.1) at took
