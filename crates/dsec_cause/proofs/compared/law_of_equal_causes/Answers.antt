use Rattle.std.proofs.Common.{rules, ◌≡◌, ◌∙◌, sym, IsTrue}
use denote.Enum.Bare.{same_true, true_same}
use Rattle.dsec_cause.specs.contracts.cause.Cause.{the_type}
use Rattle.dsec_cause.proofs.compared.law_of_equal_causes.Goals as goal

-- Causes carry nothing, so one number is one cause.
pub returns : goal.returns
returns c =
    let equal : IsTrue c.eq.result → c.args.cause ≡ c.args.other = λ is. same_true the_type (search rules) _ _ (sym c.eq.ensures ∙ is) in
    let holds : c.args.cause ≡ c.args.other → IsTrue c.eq.result = λ is. c.eq.ensures ∙ true_same the_type _ _ is in
    (equal, holds)
