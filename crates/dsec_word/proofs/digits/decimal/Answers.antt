-- Octets that aren't UTF-8 aren't digits.
use Rattle.std.proofs.lemmas.Fmt.{IsAscii-from_digits}
use Rattle.std.proofs.lemmas.Str.{IsUtf8-from_ascii}
use Rattle.dsec_word.proofs.Results.{error_says}
use Rattle.dsec_word.proofs.digits.decimal.Goals as goal

pub returns-in_err-text : goal.returns-in_err-text
returns-in_err-text c =
    let digits = c.args.digits.now in
    let not_utf8 = error_says c.from_utf8.result _ _ c.from_utf8.ensures.cases c.in_err-text.ensures.variant in
    rw (c.from_residual.ensures) (λ h. not_utf8.1.0 (IsUtf8-from_ascii digits (IsAscii-from_digits digits h.0.1)))
