use Rattle.std.proofs.Common.{subst}
use Rattle.std.specs.Prelude.{Ok}
use Rattle.certificate_io.specs.Readings.{AnswersFault}
use Rattle.certificate_io.specs.Values.{first_fault, nothing_seen}
use Rattle.certificate_io.proofs.CertificateReads.{every_read, fault_told, parts_print}
use Rattle.certificate_io.proofs.ReadAnswers.{reads_text, few_lines, syntax_told, refused}
use Rattle.certificate_io.proofs.read.read_certificate.Goals as goal

pub returns-in_err-lines-clause-every : goal.returns-in_err-lines-clause-every
returns-in_err-lines-clause-every c =
    let bytes = c.args.bytes.now in
    let told = refused bytes c.from_residual.result c.in_err-lines.field-0.0 c.from_residual.ensures.1 (syntax_told bytes c.in_err-lines.field-0.0 c.in_err-lines.ensures.fault) in
    every_read (λ d. d) bytes c.from_residual.result told.certificate told.printed told.fault

pub certificate_of-requires-clause-few : goal.certificate_of-requires-clause-few
certificate_of-requires-clause-few c =
    let bytes = c.args.bytes.now in
    few_lines bytes c.as_slice.result.now 268435456 (reads_text bytes c.in_ok-lines.lines.items c.as_slice.result.now c.as_slice.ensures.value c.in_ok-lines.ensures.text) c.requires.short

pub certificate_of-requires-clause-text : goal.certificate_of-requires-clause-text
certificate_of-requires-clause-text c =
    let read = reads_text c.args.bytes.now c.in_ok-lines.lines.items c.as_slice.result.now c.as_slice.ensures.value c.in_ok-lines.ensures.text in
    (read.parts, read.are, read.same)

pub returns-in_err-certificate-clause-every : goal.returns-in_err-certificate-clause-every
returns-in_err-certificate-clause-every c =
    let bytes = c.args.bytes.now in
    let read = reads_text bytes c.in_ok-lines.lines.items c.as_slice.result.now c.as_slice.ensures.value c.in_ok-lines.ensures.text in
    let e = c.in_err-certificate.field-0.0 in
    let told = subst (λ ls. AnswersFault e (first_fault 1 nothing_seen ls)) read.whole (c.in_err-certificate.ensures.is read.parts read.are read.same) in
    let result = refused bytes c.from_residual-in_err-certificate.result e c.from_residual-in_err-certificate.ensures.1 (fault_told read.trees bytes e read.text told) in
    every_read (λ d. d) bytes c.from_residual-in_err-certificate.result result.certificate result.printed result.fault

pub returns-in_err-certificate-clause-fault : goal.returns-in_err-certificate-clause-fault
returns-in_err-certificate-clause-fault c =
    let bytes = c.args.bytes.now in
    let read = reads_text bytes c.in_ok-lines.lines.items c.as_slice.result.now c.as_slice.ensures.value c.in_ok-lines.ensures.text in
    let e = c.in_err-certificate.field-0.0 in
    let told = subst (λ ls. AnswersFault e (first_fault 1 nothing_seen ls)) read.whole (c.in_err-certificate.ensures.is read.parts read.are read.same) in
    (refused bytes c.from_residual-in_err-certificate.result e c.from_residual-in_err-certificate.ensures.1 (fault_told read.trees bytes e read.text told)).fault

pub returns-clause-certificate : goal.returns-clause-certificate
returns-clause-certificate c =
    let read = reads_text c.args.bytes.now c.in_ok-lines.lines.items c.as_slice.result.now c.as_slice.ensures.value c.in_ok-lines.ensures.text in
    (c.in_ok-certificate.ensures.is read.parts read.are read.same).1.0

pub returns-clause-printed : goal.returns-clause-printed
returns-clause-printed c =
    let bytes = c.args.bytes.now in
    let read = reads_text bytes c.in_ok-lines.lines.items c.as_slice.result.now c.as_slice.ensures.value c.in_ok-lines.ensures.text in
    let told = c.in_ok-certificate.ensures.is read.parts read.are read.same in
    parts_print c.in_ok-certificate.certificate read.parts read.trees bytes told.1.1 read.whole read.text

pub returns-clause-every : goal.returns-clause-every
returns-clause-every c =
    let bytes = c.args.bytes.now in
    let read = reads_text bytes c.in_ok-lines.lines.items c.as_slice.result.now c.as_slice.ensures.value c.in_ok-lines.ensures.text in
    let told = c.in_ok-certificate.ensures.is read.parts read.are read.same in
    every_read (λ d. d) bytes (Ok c.in_ok-certificate.certificate) told.1.0 (parts_print c.in_ok-certificate.certificate read.parts read.trees bytes told.1.1 read.whole read.text) tt
