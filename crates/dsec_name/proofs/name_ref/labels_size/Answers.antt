use Rattle.std.proofs.Common.{◌≡◌, ◌∙◌, ◌+◌, length, drop, ◌∷◌, sym, ap, subst, ℕ, arith}
use Rattle.dsec_name.proofs.NamePrefix.{NameBegins, name_ends, name_never_ends, name_long_label, name_short_label, name_too_long, name_goes_on, empty}
use Rattle.dsec_name.proofs.name_ref.labels_size.Goals as goal

pub returns-then-size-eq0-clause-exact : goal.returns-then-size-eq0-clause-exact
returns-then-size-eq0-clause-exact c =
    let n = c.in-Some.field-0-0.now in
    let after = c.in-Some.after.now in
    let none : n ≡ 0 = omega arith in
    let begins : NameBegins c.args.octets.now (0 ∷ after) = subst (NameBegins c.args.octets.now) (c.in-Some.ensures.cases.0 ∙ ap (λ (k : ℕ). k ∷ after) none) c.loop-size.invariant in
    let long : length c.loop-size.rest.now ≡ length after + 1 = ap length c.in-Some.ensures.cases.0 ∙ omega arith in
    rw long (sym (name_ends c.args.octets.now after begins))

pub returns-then-size-from-clause-exact : goal.returns-then-size-from-clause-exact
returns-then-size-from-clause-exact c =
    let n = c.in-Some.field-0-0.now in
    let after = c.in-Some.after.now in
    let begins : NameBegins c.args.octets.now (n ∷ after) = subst (NameBegins c.args.octets.now) c.in-Some.ensures.cases.0 c.loop-size.invariant in
    sym (name_long_label c.args.octets.now n after begins (omega arith))

pub returns-in_err-next-clause-exact : goal.returns-in_err-next-clause-exact
returns-in_err-next-clause-exact c =
    let n = c.in-Some.field-0-0.now in
    let after = c.in-Some.after.now in
    let begins : NameBegins c.args.octets.now (n ∷ after) = subst (NameBegins c.args.octets.now) c.in-Some.ensures.cases.0 c.loop-size.invariant in
    let short = c.in_err-next.ensures.cases in
    c.from_residual.ensures ∙ sym (name_short_label c.args.octets.now n after begins (omega arith))

pub returns-then-octets-next-ge-MAX_NAME-clause-exact : goal.returns-then-octets-next-ge-MAX_NAME-clause-exact
returns-then-octets-next-ge-MAX_NAME-clause-exact c =
    let n = c.in-Some.field-0-0.now in
    let after = c.in-Some.after.now in
    let begins : NameBegins c.args.octets.now (n ∷ after) = subst (NameBegins c.args.octets.now) c.in-Some.ensures.cases.0 c.loop-size.invariant in
    let next : c.in_ok-next.next.now ≡ drop n after = c.in_ok-next.ensures.cases.2 ∙ ap (λ (k : ℕ). drop k after) c.from-size.ensures in
    let fits = c.in_ok-next.ensures.cases.0 in
    sym (name_too_long c.args.octets.now n after begins (omega arith) (omega arith) (omega arith) (omega (arith, ap length next)))

pub loop-size-preserved : goal.loop-size-preserved
loop-size-preserved c =
    let n = c.in-Some.field-0-0.now in
    let after = c.in-Some.after.now in
    let begins : NameBegins c.args.octets.now (n ∷ after) = subst (NameBegins c.args.octets.now) c.in-Some.ensures.cases.0 c.loop-size.invariant in
    let next : c.in_ok-next.next.now ≡ drop n after = c.in_ok-next.ensures.cases.2 ∙ ap (λ (k : ℕ). drop k after) c.from-size.ensures in
    let fits = c.in_ok-next.ensures.cases.0 in
    rw next (name_goes_on c.args.octets.now n after begins (omega arith) (omega arith) (omega arith) (omega (arith, ap length next)))

pub returns-clause-exact : goal.returns-clause-exact
returns-clause-exact c =
    sym (name_never_ends c.args.octets.now (subst (NameBegins c.args.octets.now) (empty c.loop-size.rest.now c.in_default.ensures.cases) c.loop-size.invariant))
