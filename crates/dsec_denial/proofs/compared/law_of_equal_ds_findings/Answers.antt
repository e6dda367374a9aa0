use Rattle.std.proofs.Common.{rules, ◌≡◌, ◌∙◌, ◌&&◌, sym, ap, refl, subst, IsTrue, Bool, true, false, Option, Some, None}
use Rattle.std.proofs.lemmas.Bool.{false≢true}
use denote.Enum.Bare.{same_true, true_same}
use Rattle.dsec_cause.specs.contracts.cause.Cause.{the_type}
use Rattle.dsec_cause.specs.declared.cause.Cause.{Cause}
use Rattle.dsec_node.specs.contracts.standing.Ground as grounds
use Rattle.dsec_node.specs.declared.standing.Ground.{Ground}
use Rattle.dsec_denial.specs.contracts.finding.DsFindingPartialEq.TheImpl.{ghosts}
use Rattle.dsec_denial.specs.declared.finding.SignedAt.{SignedAt}
use Rattle.dsec_denial.specs.declared.finding.DsFinding.{DsFinding}
use Rattle.dsec_denial.specs.declared.finding.DsFinding.TheVariants.{Within, Insecure, Bogus, Passed}
use Rattle.dsec_denial.proofs.compared.law_of_equal_ds_findings.Goals as goal

both : (x y : Bool) → (x && y) ≡ true → (x ≡ true) × (y ≡ true)
both true y e = (refl, e)
both false y e = absurd (false≢true e)

place : (s t : SignedAt) → ghosts.eq (Within s) (Within t) ≡ true → s ≡ t
place s t e = search rules

-- findings that are compared equal are one
same : (a b : DsFinding) → ghosts.eq a b ≡ true → a ≡ b
same (Within s) (Within t) e = ap Within (place s t e)
same (Insecure s g None) (Insecure t h None) e =
    let p = both _ _ e in let q = both _ _ p.1 in
    ap (λ (x : SignedAt). Insecure x g None) (place s t p.0) ∙ ap (λ (x : Ground). Insecure t x None) (same_true grounds.the_type tt g h q.0)
same (Insecure s g (Some c)) (Insecure t h (Some d)) e =
    let p = both _ _ e in let q = both _ _ p.1 in
    ap (λ (x : SignedAt). Insecure x g (Some c)) (place s t p.0) ∙ (ap (λ (x : Ground). Insecure t x (Some c)) (same_true grounds.the_type tt g h q.0)
    ∙ ap (λ (x : Cause). Insecure t h (Some x)) (same_true the_type tt c d q.1))
same (Insecure s g None) (Insecure t h (Some d)) e = absurd (false≢true (both _ _ (both _ _ e).1).1)
same (Insecure s g (Some c)) (Insecure t h None) e = absurd (false≢true (both _ _ (both _ _ e).1).1)
same (Bogus c) (Bogus d) e = ap Bogus (same_true the_type tt c d e)
same (Passed None) (Passed None) e = refl
same (Passed (Some c)) (Passed (Some d)) e = ap (λ (x : Cause). Passed (Some x)) (same_true the_type tt c d e)
same a b e = absurd (false≢true e)

without_cause : (s : SignedAt) (g : Ground) → ghosts.eq (Insecure s g None) (Insecure s g None) ≡ true
without_cause s g = search rules

-- each is equal to itself
self : (a : DsFinding) → ghosts.eq a a ≡ true
self (Within s) = search rules
self (Insecure s g None) = without_cause s g
self (Insecure s g (Some c)) = rw (true_same the_type c c refl) (without_cause s g)
self (Bogus c) = true_same the_type c c refl
self (Passed None) = refl
self (Passed (Some c)) = true_same the_type c c refl

pub returns : goal.returns
returns c =
    let equal : IsTrue c.eq.result → c.args.finding ≡ c.args.other = λ is. same c.args.finding c.args.other (sym c.eq.ensures ∙ is) in
    let holds : c.args.finding ≡ c.args.other → IsTrue c.eq.result = λ is. c.eq.ensures ∙ subst (λ (x : DsFinding). ghosts.eq c.args.finding x ≡ true) is (self c.args.finding) in
    (equal, holds)
